-- A load or store that checks 10 and 11 have passed keeps to the window.
use mathlib.Core.Bool.{true, and-eq-true_iff}
use mathlib.Core.Path.{◌≡◌, refl, sym, ◌∙◌}
use Prim.Native.Nat.{ℕ, ◌+◌, ◌%◌, ◌≤◌, ◌<◌}
use native.Mathlib.Omega.{arith}
use borrow.Author.Tests.{eq-eqb, ne_eqb, leb-true}
use Rattle.units.specs.Address.{wrap}
use Rattle.isa.specs.declared.instruction.Instruction.{Instruction}
use Rattle.isa.specs.declared.instruction.Instruction.TheVariants.{MovImm, CmpImm, And, Eor, Asr, Tst, Neg, Cmp}
use Rattle.isa.specs.declared.instruction.Instruction.TheVariants.{AddHigh, CmpHigh, MovHigh, Str, Ldr, Strb, Ldrb}
use Rattle.isa.specs.declared.instruction.Instruction.TheVariants.{AddPc, Branch, Halt}
use Rattle.image.specs.declared.checker.Layout.{Layout}
use Rattle.domain_laws.specs.Holds.{Holds}
use Rattle.domain_laws.proofs.Zeros.{zeros_less}
use Rattle.isa.specs.Access.{Access, halfword_access, byte_access, storing, access_of}
use Rattle.checks.specs.Questions.{check10, check11}
use Rattle.checks.specs.State.{State, value}
use Rattle.cpu.specs.declared.machine.Machine.{Machine}
use Rattle.cpu.specs.Machine.{reg}
use Rattle.cpu.specs.declared.outcome.Outcome.{Outcome}
use Rattle.cpu.specs.declared.outcome.Outcome.TheVariants.{Completed, Halted, Stopped, Refused}
use Rattle.traffic.specs.declared.data.Traffic.{Traffic}
use Rattle.traffic.specs.declared.data.Traffic.TheVariants.{NoData}
use Rattle.cpu.specs.Traffic.{data_address, traffic_of, when_completed}
use Rattle.cpu_laws.specs.Touched.{Touches}
use Rattle.cpu_laws.proofs.Traffic.{tells_access}
use Rattle.safety.specs.Safety.{InWindow, SafeTraffic}
use Rattle.safety.proofs.Registers.{HoldsBelow}
use Rattle.isa_laws.proofs.Narrow.{Narrow}

-- a base register is one of the sixteen, there are two bytes of data at most, and a halfword's offset counts in fours
pub record Formed (access : Access) : Type 0 where
  pub base : access.base < 16
  pub size : access.size ≤ 2
  pub fours : access.size ≡ 2 → access.offset % 4 ≡ 0

none : {a : Access} → a.base ≡ 0 → a.size ≡ 0 → Formed a
none {a} e z = record { base = omega arith; size = omega arith; fours = λ t. absurd (omega arith) }

halfword : (offset rb : ℕ) → rb < 8 → Formed (halfword_access offset rb)
halfword offset rb h = record { base = omega arith; size = omega arith; fours = λ t. omega arith }

byte : (offset rb : ℕ) → rb < 8 → Formed (byte_access offset rb)
byte offset rb h = record { base = omega arith; size = omega arith; fours = λ t. absurd (omega arith) }

stores : (access : Access) → Formed access → Formed (storing access)
stores access f = record { base = f.base; size = f.size; fours = f.fours }

pub formed : (i : Instruction) → Narrow i → Formed (access_of i)
formed (MovImm rd imm) h = none refl refl
formed (CmpImm rd imm) h = none refl refl
formed (And rs rd) h = none refl refl
formed (Eor rs rd) h = none refl refl
formed (Asr rs rd) h = none refl refl
formed (Tst rs rd) h = none refl refl
formed (Neg rs rd) h = none refl refl
formed (Cmp rs rd) h = none refl refl
formed (AddHigh rs rd) h = none refl refl
formed (CmpHigh rs rd) h = none refl refl
formed (MovHigh rs rd) h = none refl refl
formed (Str offset rb rd) h = stores _ (halfword offset rb h.1)
formed (Ldr offset rb rd) h = halfword offset rb h.1
formed (Strb offset rb rd) h = stores _ (byte offset rb h.1)
formed (Ldrb offset rb rd) h = byte offset rb h.1
formed (AddPc rd imm) h = none refl refl
formed (Branch condition offset) h = none refl refl
formed (Halt note) h = none refl refl

-- the data of a load or store lie in the window, at a multiple of 4 where they are a halfword
pub record SafeAccess (layout : Layout) (m : Machine) (access : Access) : Type 0 where
  pub inside : 0 < access.size → InWindow layout (data_address m access) access.size
  pub aligned : access.size ≡ 2 → data_address m access % 4 ≡ 0

-- an address between the bounds of a window in memory does not wrap
in_window : (x low high offset size w l : ℕ) → low ≤ x → x ≤ high → 0 < size → w ≤ low + offset
    → high + offset + size ≤ w + l → w + l ≤ 65536
    → (w ≤ wrap (x + offset)) × (wrap (x + offset) + size ≤ w + l)
in_window x low high offset size w l a b s p q m = (omega arith, omega arith)

pub access_safe : (s : State) (m : Machine) (layout : Layout) (i : Instruction) → Narrow i → HoldsBelow 16 s m.regs
    → layout.window_start + layout.window_length ≤ 65536
    → check10 (value s (access_of i).base) layout (access_of i) ≡ true
    → check11 (value s (access_of i).base) (access_of i) ≡ true
    → SafeAccess layout m (access_of i)
access_safe s m layout i narrow holds fits c10 c11 = record { inside = inside; aligned = aligned }
  where
    base : ℕ
    base = (access_of i).base

    offset : ℕ
    offset = (access_of i).offset

    size : ℕ
    size = (access_of i).size

    w : ℕ
    w = layout.window_start

    l : ℕ
    l = layout.window_length

    h : Holds (value s base) (reg m base)
    h = holds base (formed i narrow).base

    inside : 0 < size → InWindow layout (wrap (reg m base + offset)) size
    inside z =
        let n : size ≡ 0 → ⊥ = omega arith in
        let both = (and-eq-true_iff _ _).0 (simp (ne_eqb _ _ n) at c10) in
        in_window (reg m base) (value s base).low (value s base).high offset size w l h.low h.high z
        (leb-true _ _ both.0) (leb-true _ _ both.1) fits

    aligned : size ≡ 2 → wrap (reg m base + offset) % 4 ≡ 0
    aligned e =
        let z : 2 ≤ (value s base).zeros = leb-true _ _ (simp (eq-eqb _ _ e) at c11) in
        let d : reg m base % 4 ≡ 0 = zeros_less (reg m base) 2 (value s base).zeros z h.zeros in
        let f : offset % 4 ≡ 0 = (formed i narrow).fours e in
        omega arith

-- no data are safe
pub quiet_safe : (layout : Layout) → SafeTraffic layout NoData
quiet_safe layout =
    record { inside = λ some. absurd (omega (arith, some)); aligned = λ two. absurd (omega (arith, two)) }

-- and so are those of a safe access, however its step ends
pub traffic_safe : (layout : Layout) (m : Machine) (i : Instruction) → SafeAccess layout m (access_of i) → (o : Outcome)
    → SafeTraffic layout (when_completed o (traffic_of i m))
traffic_safe layout m i safe Completed =
    let told = tells_access i m in
    record {
      inside = λ some.
          let size : 0 < (access_of i).size = omega (arith, told.bytes) in
          rw (told.bytes, told.address size) (safe.inside size);
      aligned = λ two. rw (told.address (omega (arith, told.bytes))) (safe.aligned (sym told.bytes ∙ two));
    }
traffic_safe layout m i safe Halted = quiet_safe layout
traffic_safe layout m i safe (Stopped number) = quiet_safe layout
traffic_safe layout m i safe (Refused r) = quiet_safe layout

-- and then each byte of them is in the window
pub data_in_window : (layout : Layout) (t : Traffic) → SafeTraffic layout t → (a : ℕ) → Touches t a
    → InWindow layout a 1
data_in_window layout t safe a d =
    let p = safe.inside (omega (arith, d.from, d.below)) in
    (omega (arith, p.0, d.from), omega (arith, p.1, d.below))
