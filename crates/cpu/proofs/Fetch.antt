-- A step on a machine that is held: an odd PC, and the halfword at an even one.
use Rattle.std.proofs.Common.{◌≡◌, ℕ, ◌%◌, List, length, eq-eqb, ne_eqb}
use Rattle.units.specs.Address.{memory_bytes}
use Rattle.units.specs.Bytes.{halfword_at}
use Rattle.isa.specs.Decode.{decode_of}
use Rattle.alu.specs.declared.control.Control.{Control}
use Rattle.cpu.specs.declared.held.Executed.{Executed}
use Rattle.cpu.specs.declared.machine.Machine.{Machine}
use Rattle.cpu.specs.declared.outcome.Outcome.TheVariants.{Stopped}
use Rattle.cpu.specs.declared.outcome.Stop.TheVariants.{OddPc}
use Rattle.traffic.specs.declared.log.Log.{Log}
use Rattle.cpu.specs.Step.{fetched, fetch_and_execute, step_of}
use Rattle.cpu.specs.Traffic.{decoded_traffic}
use Rattle.cpu.specs.Held.{held, Told, telling, told_decoded, Whole, Leads}
use Rattle.cpu.proofs.Ends.{pc_is}
use Rattle.cpu.proofs.Access.{Gave, stays}

-- a whole step, and the log after it
abbrev pub told_step : Machine → List ℕ → ℕ → Log → Told
told_step m memory = telling (step_of m memory) (decoded_traffic (fetched m memory) m)

module _ (regs memory : List ℕ) (log : Log) (k : Control) (step : ℕ) where
  pub odd : {e : Executed} → Whole regs → length memory ≡ memory_bytes → (k.pc % 2 ≡ 0 → ⊥) → Gave e k (Stopped OddPc)
      → Leads regs e memory log (told_step (held regs k) memory step log)
  unfolding step_of fetch_and_execute
  odd whole right test gave =
      simp (eq-eqb (length memory) memory_bytes right, pc_is regs k.pc whole, ne_eqb (k.pc % 2) 0 test)
      (stays regs memory log gave)

  pub even : {h : ℕ} {regs' memory' : List ℕ} {log' : Log} {e : Executed} → Whole regs → length memory ≡ memory_bytes
      → k.pc % 2 ≡ 0 → h ≡ halfword_at memory k.pc
      → Leads regs' e memory' log' (told_decoded (decode_of h) (held regs k) memory step log)
      → Leads regs' e memory' log' (told_step (held regs k) memory step log)
  unfolding step_of fetch_and_execute fetched
  even whole right test loaded done =
      simp (eq-eqb (length memory) memory_bytes right, pc_is regs k.pc whole, eq-eqb (k.pc % 2) 0 test, ← loaded)
      done
