-- The log that a run keeps while it lasts: the step of its last load or store, and what that touched. Only the
-- contracts of functions that are no entry points speak of it.
use Rattle.std.specs.Prelude.{cond, ℕ, zero, suc, eqb}
use Rattle.traffic.specs.declared.data.Traffic.{Traffic}
use Rattle.traffic.specs.declared.data.Traffic.TheVariants.{NoData}
use Rattle.traffic.specs.declared.log.Log.{Log}
use Rattle.traffic.specs.Data.{bytes_touched}

-- the log before the first step
abbrev pub empty_log : Log
empty_log = record { step = 0; touched = NoData }

-- the log after an access of the step with this number
abbrev pub with_access : ℕ → Traffic → Log
with_access step t = record { step = step; touched = t }

-- and after the step has touched this: no data leave it as it is
abbrev pub logged : ℕ → Traffic → Log → Log
logged step t log = cond (eqb (bytes_touched t) 0) log (with_access step t)

-- what the last of so many steps touched, by the log: an access counts if it was that step's
abbrev pub last_logged : ℕ → Log → Traffic
last_logged zero log = NoData
last_logged (suc k) log = cond (eqb log.step k) log.touched NoData
