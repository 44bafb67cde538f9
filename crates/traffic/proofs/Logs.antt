-- A log tells what the last step touched: it is right at the start, and each step keeps it so.
use Rattle.std.proofs.Common.{◌≡◌, ℕ, zero, suc, ◌-◌, ◌<◌, ◌⊎◌, inl, inr, refl, arith, eq-eqb, ne_eqb}
use native.Mathlib.Decide.{ℕ_discrete}
use Rattle.traffic.specs.declared.data.Traffic.{Traffic}
use Rattle.traffic.specs.declared.data.Traffic.TheVariants.{NoData, ReadByte, ReadHalfword, WroteByte}
use Rattle.traffic.specs.declared.data.Traffic.TheVariants.{WroteHalfword}
use Rattle.traffic.specs.declared.log.Log.{Log}
use Rattle.traffic.specs.Log.{empty_log, with_access, logged, last_logged}

-- ---- what the code asks of a log

pub last_was_access : (count : ℕ) (log : Log) → (count ≡ 0 → ⊥) → log.step ≡ count - 1
    → log.touched ≡ last_logged count log
last_was_access zero log some at = absurd (some refl)
last_was_access (suc k) log some at = let here : log.step ≡ k = omega arith in simp (eq-eqb _ _ here) refl

pub last_was_none : (count : ℕ) (log : Log) → (count ≡ 0 → ⊥) → (log.step ≡ count - 1 → ⊥)
    → NoData ≡ last_logged count log
last_was_none zero log some at = absurd (some refl)
last_was_none (suc k) log some at = let there : log.step ≡ k
    → ⊥ = λ e. at (omega arith) in simp (ne_eqb _ _ there)

-- ---- what a step does to it

-- the log of so many steps, the last of which touched this. What it says of an earlier one can't be taken for the next
-- one's
pub record Logs (count : ℕ) (t : Traffic) (log : Log) : Type 0 where
  pub told : last_logged count log ≡ t
  pub earlier : (log.step < count) ⊎ (log.touched ≡ NoData)

pub logs_empty : Logs 0 NoData empty_log
logs_empty = record { told = refl; earlier = inr refl }

logs_access : (count : ℕ) (t : Traffic) → Logs (suc count) t (with_access count t)
logs_access count t = record { told = simp (eq-eqb count count refl) refl; earlier = inl (omega arith) }

logs_quiet : (count : ℕ) (last : Traffic) (log : Log) → Logs count last log → Logs (suc count) NoData log
logs_quiet count last log logs =
    record { told = go (ℕ_discrete log.step count) logs.earlier; earlier = more logs.earlier }
  where
    go : Dec (log.step ≡ count) → (log.step < count) ⊎ (log.touched ≡ NoData) → last_logged (suc count) log ≡ NoData
    go (no n) e = simp (ne_eqb _ _ n)
    go (yes e) (inl p) = absurd (omega (arith, e, p))
    go (yes e) (inr none) = simp (eq-eqb _ _ e) none

    more : (log.step < count) ⊎ (log.touched ≡ NoData) → (log.step < suc count) ⊎ (log.touched ≡ NoData)
    more (inl p) = inl (omega arith)
    more (inr none) = inr none

-- each step writes itself into it, if it touches data
pub logs_step : (count : ℕ) (last t : Traffic) (log : Log) → Logs count last log
    → Logs (suc count) t (logged count t log)
logs_step count last NoData log logs = logs_quiet count last log logs
logs_step count last (ReadByte a) log logs = logs_access count (ReadByte a)
logs_step count last (ReadHalfword a) log logs = logs_access count (ReadHalfword a)
logs_step count last (WroteByte a) log logs = logs_access count (WroteByte a)
logs_step count last (WroteHalfword a) log logs = logs_access count (WroteHalfword a)
