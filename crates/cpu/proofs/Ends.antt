-- How the ends of instructions leave a machine held.
use Rattle.std.proofs.Common.{◌≡◌, ℕ, ◌+◌, ◌<◌, List, get_or, set, sym, ap, ◌∙◌, ap₂, arith}
use Rattle.std.proofs.Common.{get_or-set_other, get_or-set_same, set-set}
use lib.Seq.{set_comm}
use Rattle.units.specs.Address.{wrap}
use Rattle.units.specs.Field.{field}
use Rattle.alu.specs.declared.control.Control.{Control}
use Rattle.cpu.specs.declared.machine.Machine.{Machine}
use Rattle.alu.specs.Flags.{Flags}
use Rattle.cpu.specs.Machine.{advanced, written}
use Rattle.alu.specs.Control.{flags_in, moved}
use Rattle.cpu.specs.Held.{bare, held, Whole}

-- R0 to R7 are as the array has them
pub as_is : (regs : List ℕ) (pc r : ℕ) → r < 8 → get_or (set regs 15 pc) r 0 ≡ get_or regs r 0
as_is regs pc r low = get_or-set_other regs 15 r pc 0 (λ e. omega arith)

-- so are the two registers that an operation's fields name
pub lows : (regs : List ℕ) (pc h : ℕ)
    → (get_or (set regs 15 pc) (field h 3 3) 0 ≡ get_or regs (field h 3 3) 0)
    × (get_or (set regs 15 pc) (field h 0 3) 0 ≡ get_or regs (field h 0 3) 0)
lows regs pc h = (as_is regs pc (field h 3 3) (omega arith), as_is regs pc (field h 0 3) (omega arith))

module _ (regs : List ℕ) (pc : ℕ) (whole : Whole regs) where
  -- the PC is read back
  pub pc_is : get_or (set regs 15 pc) 15 0 ≡ pc
  pc_is = get_or-set_same regs 15 pc 0 (omega arith)

  pub moved_on : set regs 15 (wrap (pc + 2)) ≡ advanced (set regs 15 pc)
  moved_on = rw pc_is (sym (set-set regs 15 pc (wrap (pc + 2))))

  module _ (rd x : ℕ) where
    -- a result for another register than R15
    write_is : (rd ≡ 15 → ⊥) → set (set regs rd x) 15 (wrap (pc + 2)) ≡ written (set regs 15 pc) rd x
    write_is other =
        set_comm regs rd 15 x (wrap (pc + 2)) other ∙ ap (λ (l : List ℕ). set l rd x) moved_on

    -- a result for R15
    write_pc_is : rd ≡ 15 → set regs 15 x ≡ written (set regs 15 pc) rd x
    write_pc_is e =
        rw e (sym (set-set (set regs 15 pc) 15 (wrap (get_or (set regs 15 pc) 15 0 + 2)) x ∙ set-set regs 15 pc x))

module _ (regs : List ℕ) (k : Control) (rd x : ℕ) (whole : Whole regs) {k' : Control} where
  pub write_holds : (rd ≡ 15 → ⊥) → k' ≡ moved (wrap (k.pc + 2)) k
      → held (set regs rd x) k' ≡ bare (written (set regs 15 k.pc) rd x) (flags_in k)
  write_holds other is = rw (is, write_is regs k.pc whole rd x other)

  pub write_pc_holds : rd ≡ 15 → k' ≡ moved x k → held regs k' ≡ bare (written (set regs 15 k.pc) rd x) (flags_in k)
  write_pc_holds named is = rw (is, write_pc_is regs k.pc whole rd x named)

-- no result, with the flags as another control has them
pub goes : (regs : List ℕ) (g : Control) {k' : Control} {pc : ℕ} {f : Flags} → Whole regs
    → k' ≡ moved (wrap (g.pc + 2)) g → (g.pc ≡ pc) × (flags_in g ≡ f)
    → held regs k' ≡ bare (advanced (set regs 15 pc)) f
goes regs g {pc = pc} whole is flagged =
    rw is (ap₂ bare (rw flagged.0 (moved_on regs pc whole)) flagged.1)

-- a result, with the PC and the flags as another control has them
pub same : (l : List ℕ) (rd x : ℕ) {m : Machine} {pc pc' : ℕ} {f f' : Flags} → (pc ≡ pc') × (f ≡ f')
    → m ≡ bare (written (set l 15 pc) rd x) f → m ≡ bare (written (set l 15 pc') rd x) f'
same l rd x alike holds =
    holds ∙ ap₂ (λ (pc : ℕ) (f : Flags). bare (written (set l 15 pc) rd x) f) alike.0 alike.1

-- the array has the PC at 15 when an instruction that may name R15 has shown it; what it had there before doesn't count
pub anew : (regs : List ℕ) (pc : ℕ) → set (set regs 15 pc) 15 pc ≡ set regs 15 pc
anew regs pc = set-set regs 15 pc pc
