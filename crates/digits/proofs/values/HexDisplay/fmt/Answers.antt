-- Each digit is ASCII, so a byte of the text.
use Rattle.std.proofs.Common.{◌≡◌, ℕ, ◌/◌, ◌<◌, List, [], ◌∷◌, ◌++◌, subst, ap, ◌∙◌, refl, arith}
use Rattle.std.proofs.lemmas.Str.{encode_ascii}
use Rattle.std.specs.Fmt.{HasWritten}
use Rattle.std.specs.Char.{encode_utf8}
use Rattle.digits.specs.Digits.{last_digit, hex_text}
use Rattle.digits.proofs.values.HexDisplay.fmt.Goals as goal

below : (h : ℕ) → last_digit h < 128
unfolding last_digit
below h = grind arith

alone : (c h : ℕ) → c ≡ last_digit h → encode_utf8 c ≡ last_digit h ∷ []
alone c h e = ap encode_utf8 e ∙ encode_ascii (last_digit h) (below h)

together : (h a b c d : ℕ) → a ≡ last_digit (h / 4096) → b ≡ last_digit (h / 256) → c ≡ last_digit (h / 16)
    → d ≡ last_digit h → 48 ∷ 120 ∷ (encode_utf8 a ++ (encode_utf8 b ++ (encode_utf8 c ++ encode_utf8 d))) ≡ hex_text h
together h a b c d p q r s = rw (alone a (h / 4096) p, alone b (h / 256) q, alone c (h / 16) r, alone d h s) refl

pub returns-clause-writes : goal.returns-clause-writes
returns-clause-writes g c =
    let e = together
    c.args.self.now.0
    c.from-first.result
    c.from-second.result
    c.from-third.result
    c.from-last.result
    (grind arith)
    (grind arith)
    (grind arith)
    (grind arith) in
    let P : List ℕ → Type 0
    = λ xs. HasWritten {W = g.row.W.Denot} g.W.Write.write_str_gives c.args.f.now xs c.write.new.self in
    λ plain ok. subst P e (c.write.ensures.writes plain ok)
