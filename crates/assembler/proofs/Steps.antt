-- A line that the parser read, and what the definition makes of it.
use mathlib.Core.Bool.{Bool, true, false, cond}
use mathlib.Core.List.{[], ◌∷◌}
use mathlib.Core.Option.{Option, none, some}
use mathlib.Core.Path.{◌≡◌, refl, ap, sym, ◌∙◌}
use Prim.Native.Nat.{ℕ, suc, ◌+◌, ◌<◌, ◌≤◌}
use native.Mathlib.Numerals.{add-one}
use native.Mathlib.Omega.{arith}
use lib.Dec.{eqb}
use lib.ListN.{length, drop, length-drop}
use Rattle.units.proofs.Cases.{clash}
use Rattle.text.specs.Text.{Text, feed, Lines, remainder, line, in_front, lines_of}
use Rattle.syntax.specs.Syntax.{Item, parse}
use Rattle.syntax.specs.Parser.{item_as, line_of, parsed_as, parsed_at}
use Rattle.syntax.specs.declared.parser.Item as Code
use Rattle.syntax.specs.declared.parser.Line.{Line}
use Rattle.std.specs.Prelude.{None}
use Rattle.assembler.specs.Assemble.{Read, NoLine, reading, read_from}
use Rattle.assembler.proofs.Prefix.{lines_behind}

no_rest : (u : Text) → lines_of u ≡ remainder [] → u ≡ []
unfolding lines_of
no_rest [] e = refl
no_rest (c ∷ u) e = go (eqb c feed) (lines_of u) e
  where
    go : (b : Bool) (ls : Lines) → cond b (line [] ls) (in_front c ls) ≡ remainder [] → c ∷ u ≡ []
    go true ls e = clash (cc)
    go false (remainder t) e = clash (cc)
    go false (line t ls) e = clash (cc)

-- no line starts there
pub not_read : (text : Text) (at : ℕ) → at < length text
    → parsed_at at (lines_of (drop at text)) ≡ None → (k : ℕ) → read_from k (lines_of (drop at text))
    ≡ NoLine k
unfolding read_from
not_read text at h e k = go (lines_of (drop at text)) refl e
  where
    unparsed : (next : ℕ) (o : Option Item) (later : Read) → parsed_as next o ≡ None
        → reading k o later ≡ NoLine k
    unparsed next none later e = refl
    unparsed next (some x) later e = clash (cc)

    go : (ls : Lines) → lines_of (drop at text) ≡ ls → parsed_at at ls ≡ None → read_from k ls ≡ NoLine k
    go (remainder []) q e =
        let z : ⊥ = omega (arith, h, length-drop at text, ap length (no_rest (drop at text) q)) in absurd z
    go (remainder (c ∷ t)) q e = refl
    go (line t ls) q e = unparsed (at + length t + 1) (parse t) (read_from (suc k) ls) e

-- the line that starts there, and its item
pub record Lined (text : Text) (at : ℕ) (y : Code.Item) (next : ℕ) : Type 0 where
  pub written : Text
  pub others : Lines
  pub item : Item
  pub here : lines_of (drop at text) ≡ line written others
  pub is_parsed_as : parse written ≡ some item
  pub item_is : y ≡ item_as item
  pub next_is : next ≡ at + length written + 1

pub lined : {text : Text} {at : ℕ} {y : Code.Item} {next : ℕ}
    → parsed_at at (lines_of (drop at text)) ≡ line_of y next → Lined text at y next
lined {text} {at} {y} {next} e = go (lines_of (drop at text)) refl e
  where
    found : (n : ℕ) (o : Option Item) → parsed_as n o ≡ line_of y next
        → (x : Item) × (o ≡ some x) × (y ≡ item_as x) × (next ≡ n)
    found n none e = clash (cc)
    found n (some x) e =
        let same : record { item = item_as x; next = n } ≡ record { item = y; next = next } = cc in
        (x, refl, sym (ap (λ (l : Line). l.item) same), sym (ap (λ (l : Line). l.next) same))

    go : (ls : Lines) → lines_of (drop at text) ≡ ls → parsed_at at ls ≡ line_of y next → Lined text at y next
    go (remainder t) q e = clash (cc)
    go (line t ls) q e =
        let f = found (at + length t + 1) (parse t) e in
        record {
          written = t;
          others = ls;
          item = f.0;
          here = q;
          is_parsed_as = f.1;
          item_is = f.2;
          next_is = f.3;
        }

-- what is read from there on
pub read_line : {text : Text} {at : ℕ} {y : Code.Item} {next : ℕ} (l : Lined text at y next) → at ≤ length text
    → (k : ℕ)
    → read_from k (lines_of (drop at text))
    ≡ reading k (some l.item) (read_from (k + 1) (lines_of (drop next text)))
unfolding read_from
read_line {text} {at} {next = next} l within k =
    ap (read_from k) l.here ∙ rw l.is_parsed_as (ap (reading k (some l.item)) later)
  where
    later : read_from (suc k) l.others ≡ read_from (k + 1) (lines_of (drop next text))
    later =
        ap (read_from (suc k)) (sym (lines_behind text at within l.written l.others l.here))
        ∙ ap (λ (n : ℕ). read_from (suc k) (lines_of (drop n text))) (sym l.next_is)
        ∙ ap (λ (n : ℕ). read_from n (lines_of (drop next text))) (sym (add-one k))
