-- The state and the checks of a walk, instruction by instruction.
use mathlib.Core.Bool.{Bool, cond, true, false}
use mathlib.Core.List.{List}
use mathlib.Core.Path.{◌≡◌, refl, sym, ap, ◌∙◌}
use Prim.Native.Nat.{ℕ, zero, suc, ◌-◌, ◌≤◌, ◌<◌}
use native.Mathlib.Omega.{arith}
use borrow.Author.Tests.{eq-eqb, ne_eqb}
use lib.Dec.{eqb}
use lib.ListN.{length, get_or, length-set}
use Rattle.refusals.specs.declared.check.Check.{Check}
use Rattle.refusals.specs.declared.check.Check.TheVariants as check
use Rattle.units.specs.Address.{byte_address_of}
use Rattle.units.specs.declared.address.ByteAddress.{ByteAddress}
use Rattle.units.specs.declared.address.InstructionIndex.{InstructionIndex}
use Rattle.refusals.specs.declared.refusal.Refusal.{Refusal}
use Rattle.isa.specs.Decode.{decode_of}
use Rattle.isa.specs.declared.instruction.Instruction.{Instruction}
use Rattle.isa.specs.declared.instruction.Instruction.TheVariants.{MovImm, CmpImm, And, Eor, Asr, Tst, Neg, Cmp}
use Rattle.isa.specs.declared.instruction.Instruction.TheVariants.{AddHigh, CmpHigh, MovHigh, Str, Ldr, Strb, Ldrb}
use Rattle.isa.specs.declared.instruction.Instruction.TheVariants.{AddPc, Branch, Halt}
use Rattle.image.specs.Check.{first_no, rows_below, check_of}
use Rattle.image.specs.Code.{code_at, code_of}
use Rattle.image.specs.Format.{most_code}
use Rattle.image.specs.declared.checker.Layout.{Layout}
use Rattle.image.proofs.Answers.{next, stands}
use Rattle.image.proofs.Valid.{valid_code, code_halfword_is}
use Rattle.targets.specs.Targets.{address_of, decoded_at, targeted, marked_at}
use Rattle.checks.specs.State.{State, unknown_state, standing_at, transfer_of, after_of}
use Rattle.checks.specs.Parts.{last_check}
use Rattle.checks.specs.Questions.{halfword_checks, answer_at}
use Rattle.verifier.specs.Progress.{last_answer, PassedBelow, Walked}
use Rattle.verifier.specs.Found.{found_in}
use Rattle.verifier.specs.Visit.{Visited}
use Rattle.verifier.specs.Verify.{entering, values_at, checks_at, code_checks, verdict_as, verify_code}
use Rattle.verifier.proofs.Found.{told_first, told_last}
use Rattle.std.specs.Prelude.{Option, Some, None, Result, Ok, Err, ⊤}

-- ---- the state

-- a walk starts with nothing known
pub walked_first : {code : List ℕ} {layout : Layout} {s : State} → s ≡ unknown_state → Walked code layout 0 s
unfolding entering rows_below first_no
walked_first e = record { state = e; passed = refl }

length_transfer : (a : ByteAddress) (i : Instruction) (s : State) → length (transfer_of a i s) ≡ length s
length_transfer a (MovImm rd imm) s = length-set s _ _
length_transfer a (CmpImm rd imm) s = refl
length_transfer a (And rs rd) s = length-set s _ _
length_transfer a (Eor rs rd) s = length-set s _ _
length_transfer a (Asr rs rd) s = length-set s _ _
length_transfer a (Tst rs rd) s = refl
length_transfer a (Neg rs rd) s = length-set s _ _
length_transfer a (Cmp rs rd) s = refl
length_transfer a (AddHigh rs rd) s = length-set s _ _
length_transfer a (CmpHigh rs rd) s = refl
length_transfer a (MovHigh rs rd) s = length-set s _ _
length_transfer a (Str offset rb rd) s = refl
length_transfer a (Ldr offset rb rd) s = length-set s _ _
length_transfer a (Strb offset rb rd) s = refl
length_transfer a (Ldrb offset rb rd) s = length-set s _ _
length_transfer a (AddPc rd imm) s = length-set s _ _
length_transfer a (Branch condition offset) s = refl
length_transfer a (Halt note) s = refl

length_after : (a : ByteAddress) (d : Option Instruction) (s : State) → length (after_of a d s) ≡ length s
length_after a (Some i) s = length_transfer a i s
length_after a None s = refl

-- a halfword whose meaning is known
pub as_known : {layout : Layout} {a : ByteAddress} {d known : Option Instruction} {before after : State}
    {r : Result ⊤ Check} → d ≡ known → Visited layout a known before after r → Visited layout a d before after r
as_known is visited = rw is visited

-- one that has none
pub not_known : {layout : Layout} {a : ByteAddress} {d : Option Instruction} {s : State} → d ≡ None
    → Visited layout a d s s (Err check.Defined)
not_known is = as_known is (record { found = refl; state = refl })

length_arriving : (a : ByteAddress) (t : Bool) (s : State) → length s ≡ 16
    → length (standing_at a (cond t unknown_state s)) ≡ 16
length_arriving a true s e = refl
length_arriving a false s e = length-set s 15 _ ∙ e

pub length_entering : (code : List ℕ) (n : ℕ) → length (entering code n) ≡ 16
unfolding entering
length_entering code zero = refl
length_entering code (suc n) =
    length_after (address_of n) (decoded_at code n) (values_at code n)
    ∙ length_arriving (address_of n) (targeted code n) (entering code n) (length_entering code n)

pub length_values : (code : List ℕ) (n : ℕ) → length (values_at code n) ≡ 16
length_values code n = length_arriving (address_of n) (targeted code n) (entering code n) (length_entering code n)

-- ---- the checks

module _ (code : List ℕ) (layout : Layout) where
  pub verdict_is : (x : Result ⊤ Refusal) → first_no (code_checks code layout (length code)) ≡ x
      → verdict_as layout x ≡ verify_code code layout
  unfolding verify_code
  verdict_is x e = sym (ap (verdict_as layout) e)

  pub fit : first_no (code_checks code layout (length code)) ≡ Ok tt → Ok layout ≡ verify_code code layout
  fit e = verdict_is (Ok tt) e

  -- the first instruction that does not pass decides
  pub refusal : (n : ℕ) (r : Refusal) → n < length code → first_no (code_checks code layout n) ≡ Ok tt
      → first_no (checks_at code layout n) ≡ Err r → Err r ≡ verify_code code layout
  refusal n r h e q =
      verdict_is (Err r) (stands (checks_at code layout) (suc n) (length code) r h
      (next (checks_at code layout) n e ∙ q))

  -- before the last instruction check 14 says nothing
  passed : (n : ℕ) → n < length code → PassedBelow code layout n → first_no (code_checks code layout n) ≡ Ok tt
  passed zero h e = e
  passed (suc n) h e = e ∙ rw (ne_eqb (suc n) (length code) (λ (p : suc n ≡ length code). omega arith)) refl

-- what the visit to instruction n decides: x is its answer, s the state left
pub record Decides (code : List ℕ) (layout : Layout) (n : ℕ) (x : Result ⊤ Refusal) (s : State) : Type 0 where
  -- the verdict
  pub fails : (r : Refusal) → x ≡ Err r → Err r ≡ verify_code code layout
  -- that check 14 is left
  pub passes : x ≡ Ok tt → Walked code layout (suc n) s

-- for instruction n, number i, which a walk comes to with a state that is reset where the instruction is marked, and
-- that its address then goes into
module _ {code : List ℕ} (marks : List ℕ) {layout : Layout} {n h : ℕ} {i : InstructionIndex} {r : Result ⊤ Check}
    {a : ByteAddress} {falling before after : State} (walked : Walked code layout n falling)
    (inside : n < length code) (fits : length code ≤ most_code) (number : i.0 ≡ n) (halfword : h ≡ get_or code n 0)
    (marked : (j : ℕ) → j < most_code → marked_at marks j ≡ targeted code j)
    (arrived : before ≡ standing_at (byte_address_of i) (cond (marked_at marks i.0) unknown_state falling))
    (address : a ≡ byte_address_of i) (visited : Visited layout a (decode_of h) before after r)
    {answer : Result ⊤ Refusal} (answered : answer ≡ answer_at a r) where
  at : a ≡ address_of n
  at = rw number at address

  -- that is the state before it
  values : before ≡ values_at code n
  values = arrived ∙ rw (number, marked n (omega arith), walked.state) refl

  -- the checks of the halfword are those of the instruction
  checked : (x : Result ⊤ Refusal) → x ≡ first_no
      (halfword_checks before layout a (eqb (suc n) (length code)) h (decode_of h))
      → first_no (checks_at code layout n) ≡ x
  unfolding decoded_at
  checked x e = sym (e ∙ rw (values, halfword, at) refl)

  -- the state that it leaves falls into the next
  left : after ≡ entering code (suc n)
  unfolding entering decoded_at
  left = visited.state ∙ rw (values, halfword, at) refl

  pub decided : Decides code layout n answer after
  decided =
      let so_far : first_no (code_checks code layout n) ≡ Ok tt = passed code layout n inside walked.passed in
      let last : Bool = eqb (suc n) (length code) in
      let come_to : answer_at a (found_in before layout a (decode_of h)) ≡ answer =
      sym (answered ∙ ap (answer_at a) visited.found) in
      record {
        fails =
            λ refused e. refusal code layout n refused inside so_far
            (checked (Err refused) (told_first before layout a last h (decode_of h) refused (come_to ∙ e)));
        passes =
            λ e. record {
              state = left;
              passed =
                  next (checks_at code layout) n so_far
                  ∙ checked _ (told_last before layout a last h (decode_of h) (come_to ∙ e))
                  ∙ rw (halfword, at) refl;
            };
      }

-- behind the last instruction of an accepted file check 14 decides: x is what it answers
pub ended : (file : List ℕ) {layout : Layout} {n h : ℕ} {r : Result ⊤ Check} {a : ByteAddress} {x : Result ⊤ Refusal}
    → check_of file ≡ Ok layout → n ≡ length (code_of file) → h ≡ code_at file (n - 1) → r ≡ last_check h
    → a ≡ byte_address_of (record { 0 = n - 1 }) → x ≡ answer_at a r
    → PassedBelow (code_of file) layout (length (code_of file))
    → first_no (code_checks (code_of file) layout (length (code_of file))) ≡ x
ended file {layout} {n} ok count read is there answered so_far =
    let some : 1 ≤ length (code_of file) = (valid_code file layout ok).0 in
    let last : length (code_of file) ≡ suc (n - 1) = omega arith in
    let halfword = read ∙ sym (code_halfword_is file (n - 1) (omega arith)) in
    so_far ∙ ap (last_answer (code_of file)) last
    ∙ rw (answered, there, is, halfword, eq-eqb (suc (n - 1)) (length (code_of file)) (sym last)) refl
