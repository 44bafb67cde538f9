-- What lines begin with: a small letter a label, a B a branch, and four characters the rows of a name.
use mathlib.Core.Bool.{Bool, true, false, cond, true≢false, false≢true, not, ◌&&◌, ◌||◌}
use mathlib.Core.List.{List, [], ◌∷◌}
use mathlib.Core.Path.{◌≡◌, refl, ap, ap₂, sym, ◌∙◌, subst}
use Prim.Native.Nat.{ℕ, suc, ◌+◌, ◌-◌, ◌<◌, ◌≤◌}
use native.Mathlib.Omega.{arith}
use lib.Dec.{eqb, ltb}
use lib.ListN.{length, get_or, take, drop, length-drop}
use lib.Seq.{get_or-drop}
use Rattle.std.proofs.lemmas.List.{take_all}
use Rattle.std.specs.Array.{IsFirstChunk}
use Rattle.std.proofs.Common.{Fits, w8, get_or-take}
use borrow.Author.Tests.{eqb-true, eqb-false, ne_eqb, lt-ltb, le-ltb, not-true, ltb-true}
use Rattle.text.specs.Text.{Text, quoted, is_small, word, is_name, feed, lines_of}
use Rattle.text.proofs.Scans.{rest}
use Rattle.text.proofs.Words.{and_left, and_right}
use Rattle.syntax.specs.Syntax.{Pattern, patterns, slot_value, name_value}
use Rattle.syntax.specs.Parser.{parsed_at, Fit, misfit, fit_at, ended, fit_or, first_fit, line_fit, line_end, behind}
use Rattle.syntax.specs.Parser.{operands_as, behind_name, instructions, four_of, four_in, row_of, Four, Row}
use Rattle.syntax.specs.Spots.{Missing, Spotted}
use Rattle.syntax.specs.Parser.{Parsed, RowAt, Named}
use Rattle.std.specs.Prelude as Std
use Rattle.std.specs.Prelude.{None, Some}
use Rattle.syntax.proofs.Arguments.{no_line}
use Rattle.syntax.proofs.Fits.{line_at}
use Rattle.syntax.proofs.Names.{small_inside, name_none}
use Rattle.syntax.proofs.Steps.{byte_inside, byte_goes, byte_stops, two_goes, two_stops, end_one, end_two}

-- a label: its name and a colon
module _ (t : Text) (at v stop : ℕ) (s : Spotted 108 t at v stop) where
  abbrev label_line : Parsed
  label_line = line_fit 0 (fit_at (ended (quoted "l:")) at (drop at t))

  pub no_colon : (get_or t stop 0 ≡ 58 → ⊥) → None ≡ label_line
  no_colon e =
      no_line 0 (s.reads 58 (feed ∷ []) refl ∙ ap (behind v) (byte_stops 58 (feed ∷ []) t stop refl e))

  pub label_ends : get_or t stop 0 ≡ 58 → (r : Parsed)
      → r ≡ line_end 0 v 0 0 (fit_at (feed ∷ []) (stop + 1) (drop (stop + 1) t)) → r ≡ label_line
  label_ends e r q =
      q ∙ end_one 0 (drop (stop + 1) t) (stop + 1) v
      ∙ ap (line_fit 0) (sym (s.reads 58 (feed ∷ []) refl
      ∙ ap (behind v) (byte_goes 58 (feed ∷ []) t stop refl (omega arith) e)))

-- a branch behind its B
module _ (t : Text) (at c stop : ℕ) (s : Spotted 99 t at c stop) where
  abbrev branch_line : Parsed
  branch_line = line_fit 17 (fit_at (ended (quoted "c l")) at (drop at t))

  pub no_space : (get_or t stop 0 ≡ 32 → ⊥) → None ≡ branch_line
  no_space e =
      no_line 17 (s.reads 32 (ended (quoted "l")) refl
      ∙ ap (behind c) (byte_stops 32 (ended (quoted "l")) t stop refl e))

  module _ (e : get_or t stop 0 ≡ 32) where
    target : fit_at (ended (quoted "c l")) at (drop at t)
        ≡ behind c (fit_at (ended (quoted "l")) (stop + 1) (drop (stop + 1) t))
    target =
        s.reads 32 (ended (quoted "l")) refl
        ∙ ap (behind c) (byte_goes 32 (ended (quoted "l")) t stop refl (omega arith) e)

    pub no_target : Missing 108 t (stop + 1) → None ≡ branch_line
    no_target m = no_line 17 (target ∙ ap (behind c) (m (feed ∷ [])))

    pub branch_ends : (v end : ℕ) → Spotted 108 t (stop + 1) v end → (r : Parsed)
        → r ≡ line_end 17 c v 0 (fit_at (feed ∷ []) end (drop end t)) → r ≡ branch_line
    branch_ends v end w r q =
        q ∙ end_two 17 (drop end t) end c v
        ∙ ap (line_fit 17) (sym (target ∙ ap (behind c) (w.reads feed [] refl)))

-- the note of HALT
module _ (t : Text) (at : ℕ) where
  abbrev note_line : Parsed
  note_line = line_fit 18 (fit_at (ended (quoted " #n")) at (drop at t))

  pub no_hash : (eqb (get_or t at 0) 32 && eqb (get_or t (at + 1) 0) 35) ≡ false → None ≡ note_line
  no_hash e = no_line 18 (two_stops 32 35 (ended (quoted "n")) t at refl refl (omega arith) e)

  module _ (e : (eqb (get_or t at 0) 32 && eqb (get_or t (at + 1) 0) 35) ≡ true) where
    noted : fit_at (ended (quoted " #n")) at (drop at t) ≡ fit_at (ended (quoted "n")) (at + 2) (drop (at + 2) t)
    noted = two_goes 32 35 (ended (quoted "n")) t at refl refl (omega arith) (omega arith) e

    pub no_note : Missing 110 t (at + 2) → None ≡ note_line
    no_note m = no_line 18 (noted ∙ m (feed ∷ []))

    pub note_ends : (v stop : ℕ) → Spotted 110 t (at + 2) v stop → (r : Parsed)
        → r ≡ line_end 18 v 0 0 (fit_at (feed ∷ []) stop (drop stop t)) → r ≡ note_line
    note_ends v stop s r q =
        q ∙ end_one 18 (drop stop t) stop v ∙ ap (line_fit 18) (sym (noted ∙ s.reads feed [] refl))

-- four bytes are those of the number that they make up
four_same : (w x y z a b c d : ℕ) → w < 256 → x < 256 → y < 256 → z < 256 → a < 256 → b < 256 → c < 256 → d < 256
    → four_of w x y z ≡ four_of a b c d → (w ≡ a) × (x ≡ b) × (y ≡ c) × (z ≡ d)
four_same w x y z a b c d h i j k l m n o e =
    let p : w ≡ a = omega arith in
    let q : x ≡ b = omega arith in
    let r : y ≡ c = omega arith in
    (p, q, r, omega arith)

-- bytes of a name: other than 0, and no slots
abbrev plain : ℕ → Bool
plain c = ltb 0 c && ltb c 256 && not (is_small c)

plain_some : (c : ℕ) → plain c ≡ true → 0 < c
plain_some c e = ltb-true 0 c (and_left (ltb 0 c) (ltb c 256) (and_left (ltb 0 c && ltb c 256) (not (is_small c)) e))

plain_byte : (c : ℕ) → plain c ≡ true → c < 256
plain_byte c e = ltb-true c 256 (and_right (ltb 0 c) (ltb c 256) (and_left (ltb 0 c && ltb c 256) (not (is_small c)) e))

plain_literal : (c : ℕ) → plain c ≡ true → is_small c ≡ false
plain_literal c e = not-true (is_small c) (and_right (ltb 0 c && ltb c 256) (not (is_small c)) e)

module _ (t : Text) (i name a b c d : ℕ) (f : Four t i name) (h : plain a ≡ true) (j : plain b ≡ true)
    (k : plain c ≡ true) (l : plain d ≡ true) where
  same_bytes : name ≡ four_of a b c d
      → (get_or t i 0 ≡ a) × (get_or t (i + 1) 0 ≡ b) × (get_or t (i + 2) 0 ≡ c) × (get_or t (i + 3) 0 ≡ d)
  same_bytes e =
      four_same _ _ _ _ a b c d f.first f.second f.third f.fourth (plain_byte a h) (plain_byte b j)
      (plain_byte c k) (plain_byte d l) (sym f.is ∙ e)

  -- the rows of a name, which are told by computing
  pub named : (row : ℕ) → 0 < row
      → ((n : ℕ) (u : Text) → first_fit 1 instructions n (a ∷ b ∷ c ∷ d ∷ u) ≡ behind_name row (n + 1 + 1 + 1 + 1) u)
      → name ≡ four_of a b c d → Row t i row
  named row counted g e =
      let s = same_bytes e in
      let m = byte_inside t (i + 3) d (plain_some d l) s.3 in
      let n : i + 1 + 1 ≡ i + 2 = omega arith in
      let o : i + 2 + 1 ≡ i + 3 = omega arith in
      let p : i + 3 + 1 ≡ i + 4 = omega arith in
      let q : i + 1 + 1 + 1 + 1 ≡ i + 4 = omega arith in
      let w : drop (i + 3) t ≡ d ∷ drop (i + 4) t =
      rest t (i + 3) m ∙ ap₂ (λ (x y : ℕ). x ∷ drop y t) s.3 p in
      let x : drop (i + 2) t ≡ c ∷ d ∷ drop (i + 4) t =
      rest t (i + 2) (omega arith)
      ∙ ap₂ (λ (x : ℕ) (u : Text). x ∷ u) s.2 (ap (λ (y : ℕ). drop y t) o ∙ w) in
      let y : drop (i + 1) t ≡ b ∷ c ∷ d ∷ drop (i + 4) t =
      rest t (i + 1) (omega arith)
      ∙ ap₂ (λ (x : ℕ) (u : Text). x ∷ u) s.1 (ap (λ (y : ℕ). drop y t) n ∙ x) in
      let z : drop i t ≡ a ∷ b ∷ c ∷ d ∷ drop (i + 4) t =
      rest t i (omega arith) ∙ ap₂ (λ (x : ℕ) (u : Text). x ∷ u) s.0 y in
      record {
        counted = counted;
        decides =
            ap (first_fit 1 instructions i) z ∙ g i (drop (i + 4) t)
            ∙ ap (λ (y : ℕ). behind_name row y (drop (i + 4) t)) q;
      }

-- another name
module _ (t : Text) (i a b c d : ℕ) (h : plain a ≡ true) (j : plain b ≡ true) (k : plain c ≡ true) (l : plain d ≡ true)
  where
    other_name : (p : Pattern)
        → (get_or t i 0 ≡ a → get_or t (i + 1) 0 ≡ b → get_or t (i + 2) 0 ≡ c → get_or t (i + 3) 0 ≡ d → ⊥)
        → fit_at (a ∷ b ∷ c ∷ d ∷ p) i (drop i t) ≡ misfit
    other_name p g =
        by (eqb (get_or t i 0) a) (eqb (get_or t (i + 1) 0) b) (eqb (get_or t (i + 2) 0) c) (eqb (get_or t (i + 3) 0) d)
        refl refl refl refl
      where
        n : i + 1 + 1 ≡ i + 2
        n = omega arith

        o : i + 2 + 1 ≡ i + 3
        o = omega arith

        one : get_or t i 0 ≡ a
            → fit_at (a ∷ b ∷ c ∷ d ∷ p) i (drop i t) ≡ fit_at (b ∷ c ∷ d ∷ p) (i + 1) (drop (i + 1) t)
        one e = byte_goes a (b ∷ c ∷ d ∷ p) t i (plain_literal a h) (plain_some a h) e

        two : get_or t (i + 1) 0 ≡ b
            → fit_at (b ∷ c ∷ d ∷ p) (i + 1) (drop (i + 1) t) ≡ fit_at (c ∷ d ∷ p) (i + 2) (drop (i + 2) t)
        two e =
            byte_goes b (c ∷ d ∷ p) t (i + 1) (plain_literal b j) (plain_some b j) e
            ∙ ap (λ (y : ℕ). fit_at (c ∷ d ∷ p) y (drop y t)) n

        three : get_or t (i + 2) 0 ≡ c → fit_at (c ∷ d ∷ p) (i + 2) (drop (i + 2) t)
            ≡ fit_at (d ∷ p) (i + 3) (drop (i + 3) t)
        three e =
            byte_goes c (d ∷ p) t (i + 2) (plain_literal c k) (plain_some c k) e
            ∙ ap (λ (y : ℕ). fit_at (d ∷ p) y (drop y t)) o

        by : (w x y z : Bool) → eqb (get_or t i 0) a ≡ w → eqb (get_or t (i + 1) 0) b ≡ x
            → eqb (get_or t (i + 2) 0) c ≡ y
            → eqb (get_or t (i + 3) 0) d ≡ z → fit_at (a ∷ b ∷ c ∷ d ∷ p) i (drop i t) ≡ misfit
        by false x y z e q r s = byte_stops a (b ∷ c ∷ d ∷ p) t i (plain_literal a h) (eqb-false (get_or t i 0) a e)
        by true false y z e q r s =
            one (eqb-true (get_or t i 0) a e)
            ∙ byte_stops b (c ∷ d ∷ p) t (i + 1) (plain_literal b j) (eqb-false (get_or t (i + 1) 0) b q)
        by true true false z e q r s =
            one (eqb-true (get_or t i 0) a e) ∙ two (eqb-true (get_or t (i + 1) 0) b q)
            ∙ byte_stops c (d ∷ p) t (i + 2) (plain_literal c k) (eqb-false (get_or t (i + 2) 0) c r)
        by true true true false e q r s =
            one (eqb-true (get_or t i 0) a e) ∙ two (eqb-true (get_or t (i + 1) 0) b q)
            ∙ three (eqb-true (get_or t (i + 2) 0) c r)
            ∙ byte_stops d p t (i + 3) (plain_literal d l) (eqb-false (get_or t (i + 3) 0) d s)
        by true true true true e q r s =
            absurd (g (eqb-true (get_or t i 0) a e) (eqb-true (get_or t (i + 1) 0) b q)
            (eqb-true (get_or t (i + 2) 0) c r) (eqb-true (get_or t (i + 3) 0) d s))

-- the rest of the parse
module _ (t : Text) (i row : ℕ) (w : Row t i row) where
  pub by_note : row ≡ 18 → (r : Parsed) → r ≡ line_fit 18 (fit_at (ended (quoted " #n")) (i + 4) (drop (i + 4) t))
      → r ≡ first_fit 1 instructions i (drop i t)
  unfolding behind_name
  by_note e r q = q ∙ sym (w.decides ∙ rw e refl)

  pub by_operands : row < 14 → (r : Parsed) → r ≡ operands_as row (i + 4) (drop (i + 4) t)
      → r ≡ first_fit 1 instructions i (drop i t)
  unfolding behind_name
  by_operands l r q = q ∙ sym (w.decides ∙ simp (ne_eqb row 18 (λ z. omega arith), lt-ltb row 14 l))

  module _ (l : 14 ≤ row) (n : row ≡ 18 → ⊥) where
    spaced : first_fit 1 instructions i (drop i t)
        ≡ line_fit row (fit_at (ended (quoted " r, [r, #n]")) (i + 4) (drop (i + 4) t))
    unfolding behind_name
    spaced = w.decides ∙ simp (ne_eqb row 18 n, le-ltb row 14 l)

    pub by_no_space : (get_or t (i + 4) 0 ≡ 32 → ⊥) → None ≡ first_fit 1 instructions i (drop i t)
    by_no_space e =
        no_line row (byte_stops 32 (ended (quoted "r, [r, #n]")) t (i + 4) refl e) ∙ sym spaced

    pub by_space : get_or t (i + 4) 0 ≡ 32 → (r : Parsed)
        → r ≡ operands_as row (i + 4 + 1) (drop (i + 4 + 1) t) → r ≡ first_fit 1 instructions i (drop i t)
    unfolding operands_as
    by_space e r q =
        let memory : operands_as row (i + 4 + 1) (drop (i + 4 + 1) t)
        ≡ line_fit row (fit_at (ended (quoted "r, [r, #n]")) (i + 4 + 1) (drop (i + 4 + 1) t)) =
        simp (le-ltb row 3 (omega arith), le-ltb row 8 (omega arith), ne_eqb row 9 (λ z. omega arith)) in
        q ∙ memory
        ∙ ap (line_fit row) (sym (byte_goes 32 (ended (quoted "r, [r, #n]")) t (i + 4) refl (omega arith) e))
        ∙ sym spaced

-- a line by its first character
abbrev literals : List Pattern → Bool
literals [] = true
literals ([] ∷ ps) = false
literals ((c ∷ p) ∷ ps) = not (is_small c) && literals ps

small_none : (k : ℕ) (ps : List Pattern) (i c : ℕ) (u : Text) → literals ps ≡ true → is_small c ≡ true
    → first_fit k ps i (c ∷ u) ≡ None
unfolding first_fit fit_at
small_none k [] i c u l s = refl
small_none k ([] ∷ ps) i c u l s = absurd (true≢false (sym l))
small_none k ((d ∷ p) ∷ ps) i c u l s =
    let n : is_small d ≡ false = not-true (is_small d) (and_left (not (is_small d)) (literals ps) l) in
    simp (n, ne_eqb c d (λ e. true≢false (sym s ∙ ap is_small e ∙ n)))
    (small_none (suc k) ps i c u (and_right (not (is_small d)) (literals ps) l) s)

module _ (t : Text) (at : ℕ) where
  pub by_label : is_small (get_or t at 0) ≡ true → (r : Parsed)
      → r ≡ line_fit 0 (fit_at (ended (quoted "l:")) at (drop at t)) → r ≡ parsed_at at (lines_of (drop at t))
  unfolding first_fit
  by_label s r e =
      let others : first_fit 1 instructions at (drop at t) ≡ None =
      ap (first_fit 1 instructions at) (rest t at (small_inside t at s))
      ∙ small_none 1 instructions at (get_or t at 0) (drop (at + 1) t) refl s in
      e ∙ ap (fit_or 0 (fit_at (ended (quoted "l:")) at (drop at t))) (sym others) ∙ line_at at (drop at t)

  branch_row : (u : Text) → first_fit 0 patterns at (66 ∷ u) ≡ line_fit 17 (fit_at (ended (quoted "c l")) (at + 1) u)
  unfolding first_fit fit_at slot_value name_value is_name word
  branch_row u = refl

  pub by_branch : get_or t at 0 ≡ 66 → (r : Parsed)
      → r ≡ line_fit 17 (fit_at (ended (quoted "c l")) (at + 1) (drop (at + 1) t)) → r
      ≡ parsed_at at (lines_of (drop at t))
  by_branch e r q =
      q ∙ sym (branch_row (drop (at + 1) t))
      ∙ ap (first_fit 0 patterns at) (sym (rest t at (byte_inside t at 66 (omega arith) e)
      ∙ ap (λ (c : ℕ). c ∷ drop (at + 1) t) e))
      ∙ line_at at (drop at t)

  pub by_instruction : is_small (get_or t at 0) ≡ false → (r : Parsed)
      → r ≡ first_fit 1 instructions at (drop at t) → r ≡ parsed_at at (lines_of (drop at t))
  unfolding first_fit
  by_instruction s r e =
      e ∙ ap (λ (f : Fit). fit_or 0 f (first_fit 1 instructions at (drop at t)))
      (sym (name_none t at s (ended (quoted ":"))))
      ∙ line_at at (drop at t)

-- the names, in the order of the code's arms
abbrev name_number : Text → ℕ
name_number t = four_of (get_or t 0 0) (get_or t 1 0) (get_or t 2 0) (get_or t 3 0)

abbrev names : List ℕ
names =
    name_number (quoted "MOV ") ∷ name_number (quoted "CMP ") ∷ name_number (quoted "AND ") ∷ name_number
    (quoted "EOR ")
    ∷ name_number (quoted "ASR ") ∷ name_number (quoted "TST ") ∷ name_number (quoted "NEG ") ∷ name_number
    (quoted "ADD ")
    ∷ name_number (quoted "STR ") ∷ name_number (quoted "LDR ") ∷ name_number (quoted "STRB") ∷ name_number
    (quoted "LDRB")
    ∷ name_number (quoted "HALT") ∷ []

-- what the last arm is told: the number is none of them
abbrev Unlike : Type 0 → ℕ → List ℕ → Type 0
Unlike B n [] = B
Unlike B n (k ∷ ks) = Unlike (B × (n ≡ k → ⊥)) n ks

unlike_first : (B : Type 0) (n : ℕ) (ks : List ℕ) → Unlike B n ks → B
unlike_first B n [] r = r
unlike_first B n (k ∷ ks) r = (unlike_first (B × (n ≡ k → ⊥)) n ks r).0

abbrev among : ℕ → List ℕ → Bool
among n [] = false
among n (k ∷ ks) = eqb n k || among n ks

unlike_one : (B : Type 0) (n m : ℕ) (ks : List ℕ) → Unlike B n ks → among m ks ≡ true → n ≡ m → ⊥
unlike_one B n m [] r e q = false≢true e
unlike_one B n m (k ∷ ks) r e q = go (eqb m k) refl e (λ f. unlike_one (B × (n ≡ k → ⊥)) n m ks r f q)
  where
    go : (b : Bool) → eqb m k ≡ b → (b || among m ks) ≡ true → (among m ks ≡ true → ⊥) → ⊥
    go true z e f = (unlike_first (B × (n ≡ k → ⊥)) n ks r).1 (q ∙ eqb-true m k z)
    go false z e f = f e

-- a row has one of the names, or is a branch
abbrev named_row : Pattern → Bool
named_row [] = false
named_row (a ∷ []) = false
named_row (a ∷ b ∷ []) = false
named_row (a ∷ b ∷ c ∷ []) = false
named_row (a ∷ b ∷ c ∷ d ∷ p) =
    eqb a 66 || (plain a && plain b && plain c && plain d && among (four_of a b c d) names)

abbrev named_rows : List Pattern → Bool
named_rows [] = true
named_rows (p ∷ ps) = named_row p && named_rows ps

module _ (t : Text) (i : ℕ) (n : get_or t i 0 ≡ 66 → ⊥)
    (r : (a b c d : ℕ) → 0 < d → among (four_of a b c d) names ≡ true → get_or t i 0 ≡ a → get_or t (i + 1) 0 ≡ b
    → get_or t (i + 2) 0 ≡ c → get_or t (i + 3) 0 ≡ d → ⊥) where
  row_misfits : (p : Pattern) → named_row p ≡ true → fit_at (ended p) i (drop i t) ≡ misfit
  row_misfits [] e = absurd (false≢true e)
  row_misfits (a ∷ []) e = absurd (false≢true e)
  row_misfits (a ∷ b ∷ []) e = absurd (false≢true e)
  row_misfits (a ∷ b ∷ c ∷ []) e = absurd (false≢true e)
  row_misfits (a ∷ b ∷ c ∷ d ∷ p) e = go (eqb a 66) refl e
    where
      go : (x : Bool) → eqb a 66 ≡ x
          → (x || (plain a && plain b && plain c && plain d && among (four_of a b c d) names)) ≡ true
          → fit_at (a ∷ b ∷ c ∷ d ∷ ended p) i (drop i t) ≡ misfit
      go true q e =
          let s : a ≡ 66 = eqb-true a 66 q in
          byte_stops a (b ∷ c ∷ d ∷ ended p) t i (ap is_small s) (λ z. n (z ∙ s))
      go false q e =
          let four = and_left (plain a && plain b && plain c && plain d) (among (four_of a b c d) names) e in
          let last = and_right (plain a && plain b && plain c && plain d) (among (four_of a b c d) names) e in
          let three = and_left (plain a && plain b && plain c) (plain d) four in
          let two = and_left (plain a && plain b) (plain c) three in
          let fourth = and_right (plain a && plain b && plain c) (plain d) four in
          other_name t i a b c d (and_left (plain a) (plain b) two) (and_right (plain a) (plain b) two)
          (and_right (plain a && plain b) (plain c) three) fourth (ended p) (r a b c d (plain_some d fourth) last)

  rows_misfit : (k : ℕ) (ps : List Pattern) → named_rows ps ≡ true → first_fit k ps i (drop i t) ≡ None
  unfolding first_fit
  rows_misfit k [] e = refl
  rows_misfit k (p ∷ ps) e =
      ap (λ (g : Fit). fit_or k g (first_fit (suc k) ps i (drop i t)))
      (row_misfits p (and_left (named_row p) (named_rows ps) e))
      ∙ rows_misfit (suc k) ps (and_right (named_row p) (named_rows ps) e)

  none_fits : None ≡ first_fit 1 instructions i (drop i t)
  none_fits = sym (rows_misfit 1 instructions refl)

pub unnamed : (B : Type 0) (t : Text) (i name : ℕ) → Four t i name → (get_or t i 0 ≡ 66 → ⊥) → Unlike B name names
    → None ≡ first_fit 1 instructions i (drop i t)
unnamed B t i name f n r =
    none_fits t i n (λ a b c d z m e q u v.
    unlike_one B name (four_of a b c d) names r m (f.is ∙ rw (e, q, u, v) refl))

-- so each name has its row, by computing, and no other has one
pick : (P : Std.Option ℕ → Type 0) (n k : ℕ) (a b : Std.Option ℕ) → (n ≡ k → P a) → ((n ≡ k → ⊥) → P b)
    → P (cond (eqb n k) a b)
pick P n k a b same other = go (eqb n k) refl
  where
    go : (x : Bool) → eqb n k ≡ x → P (cond x a b)
    go true e = same (eqb-true n k e)
    go false e = other (eqb-false n k e)

rowed : (n : ℕ) → Named n (row_of n)
unfolding row_of first_fit fit_at operands_as behind_name
rowed n t i f nb =
    pick (RowAt t i) n _ (Some 1) _
    (named t i n 77 79 86 32 f refl refl refl refl 1 (omega arith) (λ k u. refl)) (λ n1.
    pick (RowAt t i) n _ (Some 2) _
    (named t i n 67 77 80 32 f refl refl refl refl 2 (omega arith) (λ k u. refl)) (λ n2.
    pick (RowAt t i) n _ (Some 3) _
    (named t i n 65 78 68 32 f refl refl refl refl 3 (omega arith) (λ k u. refl)) (λ n3.
    pick (RowAt t i) n _ (Some 4) _
    (named t i n 69 79 82 32 f refl refl refl refl 4 (omega arith) (λ k u. refl)) (λ n4.
    pick (RowAt t i) n _ (Some 5) _
    (named t i n 65 83 82 32 f refl refl refl refl 5 (omega arith) (λ k u. refl)) (λ n5.
    pick (RowAt t i) n _ (Some 6) _
    (named t i n 84 83 84 32 f refl refl refl refl 6 (omega arith) (λ k u. refl)) (λ n6.
    pick (RowAt t i) n _ (Some 7) _
    (named t i n 78 69 71 32 f refl refl refl refl 7 (omega arith) (λ k u. refl)) (λ n7.
    pick (RowAt t i) n _ (Some 9) _
    (named t i n 65 68 68 32 f refl refl refl refl 9 (omega arith) (λ k u. refl)) (λ n8.
    pick (RowAt t i) n _ (Some 12) _
    (named t i n 83 84 82 32 f refl refl refl refl 12 (omega arith) (λ k u. refl)) (λ n9.
    pick (RowAt t i) n _ (Some 13) _
    (named t i n 76 68 82 32 f refl refl refl refl 13 (omega arith) (λ k u. refl)) (λ n10.
    pick (RowAt t i) n _ (Some 14) _
    (named t i n 83 84 82 66 f refl refl refl refl 14 (omega arith) (λ k u. refl)) (λ n11.
    pick (RowAt t i) n _ (Some 15) _
    (named t i n 76 68 82 66 f refl refl refl refl 15 (omega arith) (λ k u. refl)) (λ n12.
    pick (RowAt t i) n _ (Some 18) _
    (named t i n 72 65 76 84 f refl refl refl refl 18 (omega arith) (λ k u. refl)) (λ n13.
    unnamed (Unit {0}) t i n f nb
    (((((((((((((tt, n1), n2), n3), n4), n5), n6), n7), n8), n9), n10), n11), n12), n13))))))))))))))

pub has_row : {n : ℕ} {r : Std.Option ℕ} → r ≡ row_of n → Named n r
has_row {n} e = subst (Named n) (sym e) (rowed n)

-- what is left of a text from a place on, as the code cuts it
left_is : (t : Text) (i : ℕ) → take (length t - i) (drop i t) ≡ drop i t
left_is t i = take_all (length t - i) (drop i t) (omega (arith, length-drop i t))

-- fewer than four characters
pub too_short : (t : Text) (i : ℕ) → (get_or t i 0 ≡ 66 → ⊥) → length (take (length t - i) (drop i t)) < 4
    → None ≡ first_fit 1 instructions i (drop i t)
too_short t i n h =
    none_fits t i n (λ a b c d z m e q u v.
    omega (arith, ap length (left_is t i), length-drop i t, byte_inside t (i + 3) d z v))

-- four characters as they are read
pub four_read : (t : Text) (i : ℕ) (bs : List ℕ) → IsFirstChunk (take (length t - i) (drop i t)) bs 4
    → ((k : ℕ) → Fits w8 (get_or t k 0)) → Four t i (four_in bs)
four_read t i bs f h =
    let at : (k j : ℕ) → k < 4 → i + k ≡ j → get_or bs k 0 ≡ get_or t j 0 =
    λ k j l q. ap (λ (x : List ℕ). get_or x k 0) (f.same ∙ ap (take 4) (left_is t i))
    ∙ get_or-take 4 (drop i t) k 0 l ∙ get_or-drop i t k 0 ∙ ap (λ (n : ℕ). get_or t n 0) q in
    record {
      inside = omega (arith, f.enough, ap length (left_is t i), length-drop i t);
      first = omega (arith, h i);
      second = omega (arith, h (i + 1));
      third = omega (arith, h (i + 2));
      fourth = omega (arith, h (i + 3));
      is =
          omega (
            arith,
            at 0 i (omega arith) (omega arith),
            at 1 (i + 1) (omega arith) (omega arith),
            at 2 (i + 2) (omega arith) (omega arith),
            at 3 (i + 3) (omega arith) (omega arith),
          );
    }
