-- An instruction that completes changes only what it says it wrote, and what it does hangs on nothing of memory but
-- what it says it read. A step adds the halfword that it fetches.
use Rattle.std.specs.Prelude.{Option, Some, None}
use mathlib.Core.Bool.{Bool, true, false, cond, false≢true}
use mathlib.Core.List.{List}
use mathlib.Core.Logic.{◌⊎◌, inl, inr, ⊎_elim}
use mathlib.Core.Path.{◌≡◌, refl, sym, ap, ap₂, ◌∙◌, subst}
use Prim.Native.Nat.{ℕ, ◌+◌, ◌*◌, ◌/◌, ◌%◌, ◌≤◌, ◌<◌}
use native.Mathlib.Decide.{ℕ_discrete}
use native.Mathlib.Omega.{arith}
use borrow.Author.Tests.{eqb-true}
use lib.Dec.{eqb}
use lib.ListN.{length, length-set}
use lib.Seq.{get_or-set_other}
use Rattle.units.specs.Address.{memory_bytes}
use Rattle.units.specs.Bytes.{byte_at, halfword_at, with_byte, with_halfword}
use Rattle.refusals.specs.declared.check.Check.TheVariants as check
use Rattle.refusals.specs.Refusal.{refusal}
use Rattle.isa.specs.Decode.{decode_of}
use Rattle.isa.specs.declared.instruction.Instruction.{Instruction}
use Rattle.isa.specs.declared.instruction.Instruction.TheVariants.{MovImm, CmpImm, And, Eor, Asr, Tst, Neg, Cmp}
use Rattle.isa.specs.declared.instruction.Instruction.TheVariants.{AddHigh, CmpHigh, MovHigh, Str, Ldr, Strb, Ldrb}
use Rattle.isa.specs.declared.instruction.Instruction.TheVariants.{AddPc, Branch, Halt}
use Rattle.cpu.specs.declared.machine.Machine.{Machine}
use Rattle.cpu.specs.declared.outcome.Outcome.{Outcome}
use Rattle.cpu.specs.declared.outcome.Outcome.TheVariants.{Refused}
use Rattle.traffic.specs.declared.data.Traffic.{Traffic}
use Rattle.traffic.specs.declared.data.Traffic.TheVariants.{NoData}
use Rattle.cpu.specs.Machine.{reg, pc, flags, updated, advanced, written}
use Rattle.cpu.specs.declared.outcome.Stop.TheVariants as stop
use Rattle.cpu.specs.Step.{StepResult, step_result, completed, stopped, effective_address, aligned, execute_of}
use Rattle.cpu.specs.Step.{execute_decoded, fetched, fetch_and_execute, step_of, ldr_of, ldrb_of, str_of, strb_of}
use Rattle.traffic.specs.Data.{is_written}
use Rattle.cpu.specs.Traffic.{decoded_traffic, when_completed, step_traffic}
use Rattle.cpu.proofs.Endings.{cond_keeps}
use Rattle.cpu_laws.specs.Touched.{Touches, Reads, Writes, DataInMemory, Keeps, StepKeeps, Agrees, Alike}
use Rattle.cpu_laws.specs.Touched.{StepAlike}
use Rattle.cpu_laws.proofs.Lists.{set_here, set_alike}

-- a halfword is stored at a multiple of 4, or stop 20 comes first
abbrev stored : Machine → ℕ → ℕ → Bool → List ℕ → StepResult
stored m a x t bytes =
    cond t (completed (updated m (advanced m.regs) (flags m)) (with_halfword bytes a x))
    (stopped stop.Misaligned m bytes)

-- a halfword is loaded, or stop 20 comes first
abbrev loaded : Machine → ℕ → ℕ → Bool → List ℕ → StepResult
loaded m rd a t bytes =
    cond t (completed (updated m (written m.regs rd (halfword_at bytes a)) (flags m)) bytes)
    (stopped stop.Misaligned m bytes)

-- ---- one memory

-- data that are bytes of memory, and what is left of memory
pub record Leaves (memory : List ℕ) (t : Traffic) (after : List ℕ) : Type 0 where
  pub in_memory : (a : ℕ) → Touches t a → a < memory_bytes
  pub keeps : Keeps memory t after

module _ (m : Machine) (memory : List ℕ) where
  -- what a halfword that came to this tells, and leaves
  abbrev pub Tells : Option Instruction → StepResult → Type 0
  Tells d r = Leaves memory (when_completed r.outcome (decoded_traffic d m)) r.state.memory

  same : {t : Traffic} → Keeps memory t memory
  same = record { size = refl; others = λ a out. refl; unwritten = λ e. refl }

  quiet : Leaves memory NoData memory
  quiet = record { in_memory = λ a d. absurd (omega (arith, d.below)); keeps = same }

  str_tells : (offset rb rd : ℕ) → Tells (Some (Str offset rb rd)) (str_of offset rb rd m memory)
  unfolding str_of
  str_tells offset rb rd = go (aligned (effective_address m rb (4 * offset))) refl
    where
      a : ℕ
      a = effective_address m rb (4 * offset)

      x : ℕ
      x = reg m rd

      hit : (b : ℕ) → a ≤ b → b < a + 2 → Writes (decoded_traffic (Some (Str offset rb rd)) m) b
      hit b from below = record { writes = refl; touches = record { from = from; below = below } }

      go : (t : Bool) → aligned a ≡ t → Tells (Some (Str offset rb rd)) (stored m a x t memory)
      go true e =
          let four : a % 4 ≡ 0 = eqb-true _ _ e in
          record {
            in_memory = λ b d. omega (arith, four, d.below);
            keeps = record {
              size = length-set (with_byte memory a x) (a + 1) (x / 256) ∙ length-set memory a (x % 256);
              others = λ b out. get_or-set_other (with_byte memory a x) (a + 1) b (x / 256) 0
                  (λ q. out (hit b (omega arith) (omega arith)))
                  ∙ get_or-set_other memory a b (x % 256) 0 (λ q. out (hit b (omega arith) (omega arith)));
              unwritten = λ q. absurd (false≢true (sym q));
            };
          }
      go false e = quiet

  ldr_tells : (offset rb rd : ℕ) → Tells (Some (Ldr offset rb rd)) (ldr_of offset rb rd m memory)
  unfolding ldr_of
  ldr_tells offset rb rd = go (aligned (effective_address m rb (4 * offset))) refl
    where
      a : ℕ
      a = effective_address m rb (4 * offset)

      go : (t : Bool) → aligned a ≡ t → Tells (Some (Ldr offset rb rd)) (loaded m rd a t memory)
      go true e =
          let four : a % 4 ≡ 0 = eqb-true _ _ e in
          record { in_memory = λ b d. omega (arith, four, d.below); keeps = same }
      go false e = quiet

  pub execute_tells : (i : Instruction) → Tells (Some i) (execute_of i m memory)
  unfolding execute_of strb_of
  execute_tells (MovImm rd imm) = quiet
  execute_tells (CmpImm rd imm) = quiet
  execute_tells (And rs rd) = quiet
  execute_tells (Eor rs rd) = quiet
  execute_tells (Asr rs rd) = quiet
  execute_tells (Tst rs rd) = quiet
  execute_tells (Neg rs rd) = quiet
  execute_tells (Cmp rs rd) = quiet
  execute_tells (AddHigh rs rd) = quiet
  execute_tells (CmpHigh rs rd) = quiet
  execute_tells (MovHigh rs rd) = quiet
  execute_tells (Str offset rb rd) = str_tells offset rb rd
  execute_tells (Ldr offset rb rd) = ldr_tells offset rb rd
  execute_tells (Strb offset rb rd) =
      let a : ℕ = effective_address m rb offset in
      record {
        in_memory = λ b d. omega (arith, d.below);
        keeps = record {
          size = length-set memory a (reg m rd % 256);
          others = λ b out. get_or-set_other memory a b (reg m rd % 256) 0
              (λ q. out (record { writes = refl; touches = record { from = omega arith; below = omega arith } }));
          unwritten = λ q. absurd (false≢true (sym q));
        };
      }
  execute_tells (Ldrb offset rb rd) = record { in_memory = λ b d. omega (arith, d.below); keeps = same }
  execute_tells (AddPc rd imm) = quiet
  execute_tells (Branch condition offset) = quiet
  execute_tells (Halt note) = quiet

  decoded_tells : (d : Option Instruction) → Tells d (execute_decoded d m memory)
  decoded_tells (Some i) = execute_tells i
  decoded_tells None = quiet

  step_tells : Leaves memory (step_traffic m memory) (step_of m memory).state.memory
  unfolding step_traffic step_of fetch_and_execute
  step_tells =
      let d = fetched m memory in
      cond_keeps (Tells d) (eqb (length memory) memory_bytes)
      (fetch_and_execute m memory) (step_result m memory (Refused (refusal check.MemorySize)))
      (cond_keeps (Tells d) (eqb (pc m % 2) 0) (execute_decoded d m memory) (stopped stop.OddPc m memory)
      (decoded_tells d) quiet)
      quiet

pub data_in_memory : DataInMemory
data_in_memory m memory = (step_tells m memory).in_memory

pub step_keeps : StepKeeps
step_keeps m memory = (step_tells m memory).keeps

-- ---- two memories

one_or_next : (a b : ℕ) → a ≤ b → b < a + 2 → (b ≡ a) ⊎ (b ≡ a + 1)
one_or_next a b from below = go (ℕ_discrete b a)
  where
    go : Dec (b ≡ a) → (b ≡ a) ⊎ (b ≡ a + 1)
    go (yes e) = inl e
    go (no n) = inr (omega arith)

module _ (m : Machine) (memory other : List ℕ) (long : length memory ≡ length other) where
  -- what a halfword that came to this in both has done
  abbrev AlikeAs : Option Instruction → StepResult → StepResult → Type 0
  AlikeAs d r q = Alike memory other (when_completed r.outcome (decoded_traffic d m)) r q

  abbrev pub SameRead : Option Instruction → StepResult → Type 0
  SameRead d r = (a : ℕ) → Reads (when_completed r.outcome (decoded_traffic d m)) a → byte_at memory a ≡ byte_at other a

  -- the same is done to the machine, and nothing to memory
  alone : {t : Traffic} → is_written t ≡ false → (n : Machine) (o : Outcome)
      → Alike memory other t (step_result n memory o) (step_result n other o)
  alone e n o =
      record {
        machine = refl;
        outcome = refl;
        written = λ a w. absurd (false≢true (sym e ∙ w.writes));
        bytes = λ a h. h;
      }

  -- a load of the same data
  abbrev holding : ℕ → ℕ → Machine
  holding rd x = updated m (written m.regs rd x) (flags m)

  loads : {t : Traffic} → is_written t ≡ false → (rd x y : ℕ) → x ≡ y
      → Alike memory other t (completed (holding rd x) memory) (completed (holding rd y) other)
  loads e rd x y same =
      record {
        machine = ap (holding rd) same;
        outcome = refl;
        written = λ a w. absurd (false≢true (sym e ∙ w.writes));
        bytes = λ a h. h;
      }

  str_alike : (offset rb rd : ℕ)
      → AlikeAs (Some (Str offset rb rd)) (str_of offset rb rd m memory) (str_of offset rb rd m other)
  unfolding str_of
  str_alike offset rb rd = go (aligned (effective_address m rb (4 * offset)))
    where
      a : ℕ
      a = effective_address m rb (4 * offset)

      x : ℕ
      x = reg m rd

      low : length (with_byte memory a x) ≡ length (with_byte other a x)
      low = simp length-set long

      -- where the first byte leaves them alike, the second does
      both : (b : ℕ) → byte_at (with_byte memory a x) b ≡ byte_at (with_byte other a x) b
          → byte_at (with_halfword memory a x) b ≡ byte_at (with_halfword other a x) b
      both b h = set_alike (with_byte memory a x) (with_byte other a x) (a + 1) (x / 256) b low h

      go : (t : Bool) → AlikeAs (Some (Str offset rb rd)) (stored m a x t memory) (stored m a x t other)
      go true =
          record {
            machine = refl;
            outcome = refl;
            written = λ b w. ⊎_elim
                (λ e. rw e (both a (set_here memory other a (x % 256) long)))
                (λ e. rw e (set_here (with_byte memory a x) (with_byte other a x) (a + 1) (x / 256) low))
                (one_or_next a b w.touches.from w.touches.below);
            bytes = λ b h. both b (set_alike memory other a (x % 256) b long h);
          }
      go false = alone refl _ _

  ldr_alike : (offset rb rd : ℕ) → SameRead (Some (Ldr offset rb rd)) (ldr_of offset rb rd m memory)
      → AlikeAs (Some (Ldr offset rb rd)) (ldr_of offset rb rd m memory) (ldr_of offset rb rd m other)
  unfolding ldr_of
  ldr_alike offset rb rd agree = go (aligned (effective_address m rb (4 * offset))) agree
    where
      a : ℕ
      a = effective_address m rb (4 * offset)

      hit : (b : ℕ) → a ≤ b → b < a + 2 → Reads (decoded_traffic (Some (Ldr offset rb rd)) m) b
      hit b from below = record { reads = refl; touches = record { from = from; below = below } }

      go : (t : Bool) → SameRead (Some (Ldr offset rb rd)) (loaded m rd a t memory)
          → AlikeAs (Some (Ldr offset rb rd)) (loaded m rd a t memory) (loaded m rd a t other)
      go true agree =
          loads refl rd (halfword_at memory a) (halfword_at other a)
          (ap₂ (λ (x y : ℕ). x + y * 256)
          (agree a (hit a (omega arith) (omega arith))) (agree (a + 1) (hit (a + 1) (omega arith) (omega arith))))
      go false agree = alone refl _ _

  pub execute_alike : (i : Instruction) → SameRead (Some i) (execute_of i m memory)
      → AlikeAs (Some i) (execute_of i m memory) (execute_of i m other)
  unfolding execute_of strb_of ldrb_of
  execute_alike (MovImm rd imm) agree = alone refl _ _
  execute_alike (CmpImm rd imm) agree = alone refl _ _
  execute_alike (And rs rd) agree = alone refl _ _
  execute_alike (Eor rs rd) agree = alone refl _ _
  execute_alike (Asr rs rd) agree = alone refl _ _
  execute_alike (Tst rs rd) agree = alone refl _ _
  execute_alike (Neg rs rd) agree = alone refl _ _
  execute_alike (Cmp rs rd) agree = alone refl _ _
  execute_alike (AddHigh rs rd) agree = alone refl _ _
  execute_alike (CmpHigh rs rd) agree = alone refl _ _
  execute_alike (MovHigh rs rd) agree = alone refl _ _
  execute_alike (Str offset rb rd) agree = str_alike offset rb rd
  execute_alike (Ldr offset rb rd) agree = ldr_alike offset rb rd agree
  execute_alike (Strb offset rb rd) agree =
      let a : ℕ = effective_address m rb offset in
      record {
        machine = refl;
        outcome = refl;
        written = λ b w.
            let e : b ≡ a = omega (arith, w.touches.from, w.touches.below) in
            rw e (set_here memory other a (reg m rd % 256) long);
        bytes = λ b h. set_alike memory other a (reg m rd % 256) b long h;
      }
  execute_alike (Ldrb offset rb rd) agree =
      let a = effective_address m rb offset in
      loads refl rd _ _
      (agree a (record { reads = refl; touches = record { from = omega arith; below = omega arith } }))
  execute_alike (AddPc rd imm) agree = alone refl _ _
  execute_alike (Branch condition offset) agree = alone refl _ _
  execute_alike (Halt note) agree = alone refl _ _

  decoded_alike : (d : Option Instruction) → SameRead d (execute_decoded d m memory)
      → AlikeAs d (execute_decoded d m memory) (execute_decoded d m other)
  decoded_alike (Some i) agree = execute_alike i agree
  decoded_alike None agree = alone refl _ _

module _ (m : Machine) (memory other : List ℕ) (agrees : Agrees m memory other) where
  -- both fetch the same
  same_fetch : pc m % 2 ≡ 0 → fetched m memory ≡ fetched m other
  unfolding fetched
  same_fetch even =
      ap decode_of (ap₂ (λ (x y : ℕ). x + y * 256)
      (agrees.fetch (pc m) (record { even = even; from = omega arith; below = omega arith }))
      (agrees.fetch (pc m + 1) (record { even = even; from = omega arith; below = omega arith })))

  -- what is done is alike, and the same is told of it
  abbrev Both : Option Instruction → StepResult → StepResult → Type 0
  Both d r q =
      Alike memory other (when_completed r.outcome (decoded_traffic (fetched m memory) m)) r q
      × (when_completed r.outcome (decoded_traffic (fetched m memory) m)
      ≡ when_completed q.outcome (decoded_traffic d m))

  abbrev Agreed : StepResult → Type 0
  Agreed r = SameRead m memory other agrees.size (fetched m memory) r

  -- a step from an even PC or an odd one
  abbrev by_place : Bool → List ℕ → StepResult
  by_place t bytes = cond t (execute_decoded (fetched m bytes) m bytes) (stopped stop.OddPc m bytes)

  fetched_alike : (t : Bool) → eqb (pc m % 2) 0 ≡ t → Agreed (by_place t memory)
      → Both (fetched m other) (by_place t memory) (by_place t other)
  fetched_alike true e agree =
      let here = fetched m memory in
      let alike = decoded_alike m memory other agrees.size here agree in
      subst (λ (d : Option Instruction). Both d (execute_decoded here m memory) (execute_decoded d m other))
      (same_fetch (eqb-true _ _ e))
      (alike, ap (λ (o : Outcome). when_completed o (decoded_traffic here m)) alike.outcome)
  fetched_alike false e agree = (alone m memory other agrees.size refl _ _, refl)

  -- in a memory of the right size or of another
  abbrev by_size : Bool → List ℕ → StepResult
  by_size t bytes = cond t (fetch_and_execute m bytes) (step_result m bytes (Refused (refusal check.MemorySize)))

  sized_alike : (t : Bool) → Agreed (by_size t memory) → Both (fetched m other) (by_size t memory) (by_size t other)
  unfolding fetch_and_execute
  sized_alike true agree = fetched_alike (eqb (pc m % 2) 0) refl agree
  sized_alike false agree = (alone m memory other agrees.size refl _ _, refl)

  steps_alike : Both (fetched m other) (step_of m memory) (step_of m other)
  unfolding step_traffic step_of
  steps_alike =
      subst (λ (n : ℕ). Both (fetched m other) (step_of m memory) (by_size (eqb n memory_bytes) other)) agrees.size
      (sized_alike (eqb (length memory) memory_bytes) agrees.read)

pub step_alike : StepAlike
unfolding step_traffic
step_alike = steps_alike
