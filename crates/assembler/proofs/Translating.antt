-- The passes over the notes: what is left to be said, and what was put.
use mathlib.Core.List.{List, []}
use mathlib.Core.Path.{◌≡◌, refl, ap, ap₂, sym, ◌∙◌, subst}
use Prim.Native.Nat.{ℕ, suc, ◌+◌, ◌-◌, ◌<◌, ◌≤◌}
use native.Mathlib.Numerals.{add-one}
use native.Mathlib.Omega.{arith}
use lib.ListN.{length, get_or, set}
use Rattle.std.specs.Prelude as Std
use Rattle.std.specs.Prelude.{Result, Ok, Err, Some, None, ⊤}
use Rattle.refusals.specs.declared.check.Check.{Check}
use Rattle.labels.specs.declared.table.Entry.{Entry}
use Rattle.text.specs.Text.{Text}
use Rattle.syntax.specs.Syntax.{Item}
use Rattle.assembler.specs.Assemble.{check_from}
use Rattle.assembler.specs.Assembled.{refusal_at}
use Rattle.assembler.specs.Reading.{blank}
use Rattle.assembler.specs.Passes.{Ready, Aimed, items_of, noted_meaning, Made, Codes, Breaks, made_of, making}
use Rattle.assembler.specs.Passes.{above_as, unless_flawed, make_from, translated_as, put_from, Written}
use Rattle.assembler.specs.declared.reader.Counted.{Counted}
use Rattle.assembler.specs.declared.reader.Note.{Note}
use Rattle.assembler.specs.declared.refusal.TextRefusal.{TextRefusal}
use Rattle.assembler.proofs.Making.{spoken, aimed}

-- what the whole text comes to
abbrev pub whole : Text → Made
whole text = made_of (check_from (items_of text) 1 0 (items_of text))

-- what a pass tells and leaves
abbrev pub Passed : Text → List ℕ → Result ⊤ TextRefusal → List ℕ → Type 0
Passed text out₀ r out = (r ≡ translated_as (whole text)) × Written (whole text) 0 out₀ out

module _ (text : Text) (notes : List Note) (out₀ : List ℕ) (n : ℕ) (flaw : Std.Option TextRefusal) where
  abbrev items : List Item
  items = items_of text

  abbrev left : ℕ → ℕ → Made
  left m i = make_from items flaw notes m i

  -- what is left to be said is said in the end, and what is still to be put makes the whole output
  pub record Turn (out : List ℕ) (i : ℕ) : Type 0 where
    pub few : i ≤ n
    pub long : length out ≡ length out₀
    pub answer : translated_as (left (n - i) i) ≡ translated_as (whole text)
    pub writes : (after : List ℕ) → Written (left (n - i) i) i out after → Written (whole text) 0 out₀ after

  -- what is left comes to what a pass tells, if it ends here
  told : {out : List ℕ} {i : ℕ} (turn : Turn out i) (c : Check) (line : ℕ) → left (n - i) i ≡ Breaks c line
      → Passed text out₀ (Err (refusal_at c line)) out
  told {out} {i} turn c line e = (
    sym (ap translated_as e) ∙ turn.answer,
    turn.writes out (subst (λ (m : Made). Written m i out out) (sym e) tt),
  )

  pub all_done : {out : List ℕ} {i : ℕ} → Turn out i → i ≡ n → flaw ≡ None → Passed text out₀ (Ok tt) out
  unfolding make_from put_from
  all_done {out} {i} turn e z =
      let nothing : n - i ≡ 0 = omega arith in
      let none_left : left (n - i) i ≡ Codes [] = ap (λ (m : ℕ). left m i) nothing ∙ rw z refl in (
        sym (ap translated_as none_left) ∙ turn.answer,
        turn.writes out (subst (λ (m : Made). Written m i out out) (sym none_left) refl),
      )

  pub flaw_left : {out : List ℕ} {i : ℕ} {f : TextRefusal} → Turn out i → i ≡ n → flaw ≡ Some f
      → Passed text out₀ (Err f) out
  unfolding make_from
  flaw_left {i = i} {f = f} turn e z =
      let nothing : n - i ≡ 0 = omega arith in
      told turn f.check f.line (ap (λ (m : ℕ). left m i) nothing ∙ rw z refl)

  module _ {out : List ℕ} {i : ℕ} (turn : Turn out i) (more : i < n) where
    abbrev note : Note
    note = get_or notes i blank

    one_more : n - i ≡ suc (n - (i + 1))
    one_more = omega arith

    pub flaw_above : {f : TextRefusal} → Err f ≡ above_as flaw note.line → Passed text out₀ (Err f) out
    unfolding make_from
    flaw_above {f} b =
        told turn f.check f.line (ap (λ (m : ℕ). left m i) one_more
        ∙ ap (λ (r : Result ⊤ TextRefusal). unless_flawed r
        (making note.line (noted_meaning items i note.says) (left (n - (i + 1)) (suc i)))) (sym b))

    module _ (b : Ok tt ≡ above_as flaw note.line) where
      here : (r : Result ℕ Check) → r ≡ noted_meaning items i note.says
          → left (n - i) i ≡ making note.line r (left (n - (i + 1)) (suc i))
      unfolding make_from
      here r asked =
          ap (λ (m : ℕ). left m i) one_more
          ∙ ap₂ (λ (f : Result ⊤ TextRefusal) (s : Result ℕ Check). unless_flawed f
          (making note.line s (left (n - (i + 1)) (suc i)))) (sym b) (sym asked)

      pub instruction_fails : {c : Check} → Err c ≡ noted_meaning items i note.says
          → Passed text out₀ (Err (refusal_at c note.line)) out
      instruction_fails {c} asked = told turn c note.line (here (Err c) asked)

      pub next_turn : {h : ℕ} {out' : List ℕ} → Ok h ≡ noted_meaning items i note.says → length out' ≡ length out
          → out' ≡ set out i h → Turn out' (i + 1)
      unfolding put_from
      next_turn {h} {out'} asked same put =
          let later = left (n - (i + 1)) (suc i) in
          let all : left (n - i) i ≡ making note.line (Ok h) later = here (Ok h) asked in
          let up : left (n - (i + 1)) (i + 1) ≡ later = ap (left (n - (i + 1))) (add-one i) in
          record {
            few = omega arith;
            long = same ∙ turn.long;
            answer = ap translated_as up ∙ translated_past later ∙ sym (ap translated_as all) ∙ turn.answer;
            writes = λ after w. turn.writes after (subst (λ (m : Made). Written m i out after) (sym all)
                (written_past later out after (subst (λ (l : List ℕ). Written later (suc i) l after) put
                (subst (λ (j : ℕ). Written later j out' after) (add-one i)
                (subst (λ (m : Made). Written m (i + 1) out' after) up w)))));
          }
        where
          translated_past : (later : Made) → translated_as later ≡ translated_as (making note.line (Ok h) later)
          translated_past (Codes hs) = refl
          translated_past (Breaks c k) = refl

          written_past : (later : Made) (o after : List ℕ) → Written later (suc i) (set o i h) after
              → Written (making note.line (Ok h) later) i o after
          written_past (Codes hs) o after w = w
          written_past (Breaks c k) o after w = tt

-- the notes are all there, and each branch's has a name
module _ {text : Text} {table : List Entry} {notes : List Note} {counted : Counted}
    (ready : Ready text table notes counted) where
  pub first_turn : {out : List ℕ} → Turn text notes out counted.n counted.flaw out 0
  first_turn {out} =
      let says : whole text ≡ make_from (items_of text) counted.flaw notes (counted.n - 0) 0 =
      spoken (items_of text) notes [] (items_of text) refl ready.noted
      ∙ ap₂ (λ (f : Std.Option TextRefusal) (m : ℕ). make_from (items_of text) f notes m 0) (sym ready.flaw_is)
      (omega (arith, ready.count)) in
      record {
        few = omega arith;
        long = refl;
        answer = ap translated_as (sym says);
        writes = λ after w. subst (λ (m : Made). Written m 0 out after) (sym says) w;
      }

  pub has_name : (i : ℕ) → i < counted.n → Aimed (get_or notes i blank).says
  has_name i h = aimed notes (items_of text) ready.noted i (omega (arith, ready.count))
