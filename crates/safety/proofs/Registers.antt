-- Abstract values and the registers that they speak of.
use mathlib.Core.Bool.{Bool, true, false, cond}
use mathlib.Core.List.{List}
use mathlib.Core.Path.{◌≡◌, refl, ◌∙◌}
use Prim.Native.Nat.{ℕ, ◌+◌, ◌≤◌, ◌<◌}
use native.Mathlib.Decide.{ℕ_discrete}
use native.Mathlib.Omega.{arith}
use lib.ListN.{length, get_or, set, length-set, get_or-replicate}
use lib.Seq.{get_or-set_same, get_or-set_other}
use Rattle.units.specs.Address.{wrap}
use Rattle.units.specs.declared.address.ByteAddress.{ByteAddress}
use Rattle.domain.specs.Value.{unknown_of, exactly_of}
use Rattle.domain.specs.declared.value.Value.{Value}
use Rattle.domain_laws.specs.Holds.{Holds}
use Rattle.domain_laws.proofs.Sound.{unknown_sound, exactly_sound}
use Rattle.checks.specs.State.{State, value, unknown_state, standing_at}
use Rattle.cpu.specs.Machine.{advanced, written}
use Rattle.cpu_laws.specs.Sizes.{Registers}

-- the values of the first n registers hold of them
abbrev pub HoldsBelow : ℕ → State → List ℕ → Type 0
HoldsBelow n s regs = (r : ℕ) → r < n → Holds (value s r) (get_or regs r 0)

-- a register and its value are set together
set_holds : (n : ℕ) (s : State) (regs : List ℕ) (d x : ℕ) (v : Value) → d < 16 → length s ≡ 16 → length regs ≡ 16
    → HoldsBelow n s regs → Holds v x → HoldsBelow n (set s d v) (set regs d x)
set_holds n s regs d x v hd hs hr h hv r hl = go (ℕ_discrete r d)
  where
    go : Dec (r ≡ d) → Holds (value (set s d v) r) (get_or (set regs d x) r 0)
    go (yes e) = rw (e, get_or-set_same s d v unknown_of (omega arith), get_or-set_same regs d x 0 (omega arith)) hv
    go (no q) = rw (get_or-set_other s d r v unknown_of q, get_or-set_other regs d r x 0 q) (h r hl)

-- R15 is set, of which the values below it say nothing
pc_holds : (s : State) (regs : List ℕ) (x : ℕ) → HoldsBelow 15 s regs → HoldsBelow 15 s (set regs 15 x)
pc_holds s regs x h r hl = let q : r ≡ 15 → ⊥ = omega arith in rw (get_or-set_other regs 15 r x 0 q) (h r hl)

-- ---- what a step does to the registers

-- the values hold below R15, and the PC is where it should be
pub record Moved (s : State) (regs : List ℕ) (at : ℕ) : Type 0 where
  pub holds : HoldsBelow 15 s regs
  pub pc : get_or regs 15 0 ≡ at

pub jumped : (s : State) (regs : List ℕ) (x : ℕ) → Registers regs → HoldsBelow 15 s regs → Moved s (set regs 15 x) x
jumped s regs x hr h = record {
  holds = pc_holds s regs x h;
  pc = get_or-set_same regs 15 x 0 (omega (arith, hr.count));
}

pub on : (s : State) (regs : List ℕ) → Registers regs → HoldsBelow 15 s regs
    → Moved s (advanced regs) (wrap (get_or regs 15 0 + 2))
on s regs hr h = jumped s regs (wrap (get_or regs 15 0 + 2)) hr h

pub wrote : (s : State) (regs : List ℕ) (d x : ℕ) (v : Value) → d < 15 → length s ≡ 16 → Registers regs
    → HoldsBelow 15 s regs → Holds v x → Moved (set s d v) (written regs d x) (wrap (get_or regs 15 0 + 2))
wrote s regs d x v hd hs hr h hv =
    let m = on s regs hr h in
    let q : 15 ≡ d → ⊥ = omega arith in
    let long : length (advanced regs) ≡ 16 = length-set regs 15 _ ∙ hr.count in
    record {
      holds = set_holds 15 s (advanced regs) d x v (omega arith) hs long m.holds hv;
      pc = get_or-set_other (advanced regs) d 15 x 0 q ∙ m.pc;
    }

-- ---- arriving at an instruction

pub unknown_holds : (n : ℕ) (regs : List ℕ) → n ≤ 16 → Registers regs → HoldsBelow n unknown_state regs
unknown_holds n regs hn hr r hl =
    rw (get_or-replicate 16 r unknown_of unknown_of (omega arith)) (unknown_sound (get_or regs r 0) (hr.below r))

forget_holds : (t : Bool) (s : State) (regs : List ℕ) → Registers regs
    → (t ≡ false → HoldsBelow 15 s regs) → HoldsBelow 15 (cond t unknown_state s) regs
forget_holds true s regs hr h = unknown_holds 15 regs (omega arith) hr
forget_holds false s regs hr h = h refl

forget_long : (t : Bool) (s : State) → length s ≡ 16 → length (cond t unknown_state s) ≡ 16
forget_long true s h = refl
forget_long false s h = h

-- the address is known: R15 holds it
pub standing_holds : (a : ByteAddress) (t : Bool) (s : State) (regs : List ℕ)
    → a.0 < 65536 → get_or regs 15 0 ≡ a.0 → length s ≡ 16 → Registers regs
    → (t ≡ false → HoldsBelow 15 s regs) → HoldsBelow 16 (standing_at a (cond t unknown_state s)) regs
standing_holds a t s regs ha e hs hr h r hl = go (ℕ_discrete r 15)
  where
    came : State
    came = cond t unknown_state s

    go : Dec (r ≡ 15) → Holds (value (standing_at a came) r) (get_or regs r 0)
    go (yes q) =
        let long : 15 < length came = omega (arith, forget_long t s hs) in
        rw (q, get_or-set_same came 15 (exactly_of a.0) unknown_of long, e) (exactly_sound a.0 ha)
    go (no q) =
        rw (get_or-set_other came 15 r (exactly_of a.0) unknown_of q) (forget_holds t s regs hr h r (omega arith))
