-- What a step touches in memory (Change 2): data that it reads or writes, or none. The halfword that it fetches is no
-- data.
use Rattle.std.specs.Prelude.{ℕ, cond, List, ◌==◌, Option, Some, None}
use Rattle.units.specs.declared.address.ByteAddress.{ByteAddress}
use Rattle.isa.specs.Access.{Access, access_of}
use Rattle.isa.specs.declared.instruction.Instruction.{Instruction}
use Rattle.cpu.specs.declared.machine.Machine.{Machine}
use Rattle.cpu.specs.declared.outcome.Outcome.{Outcome}
use Rattle.cpu.specs.declared.outcome.Outcome.TheVariants.{Completed, Halted, Stopped, Refused}
use Rattle.traffic.specs.declared.data.Traffic.{Traffic}
use Rattle.traffic.specs.declared.data.Traffic.TheVariants.{NoData, ReadByte, ReadHalfword, WroteByte, WroteHalfword}
use Rattle.cpu.specs.Step.{effective_address, fetched, step_of}

-- where the data of a load or store start: the wrapped address
abbrev pub data_address : Machine → Access → ℕ
data_address m access = effective_address m access.base access.offset

-- a load and a store at an address, of one byte, or else of a halfword: no instruction has other sizes
abbrev pub load_at : ℕ → ByteAddress → Traffic
load_at size a = cond (size == 1) (ReadByte a) (ReadHalfword a)

abbrev pub store_at : ℕ → ByteAddress → Traffic
store_at size a = cond (size == 1) (WroteByte a) (WroteHalfword a)

abbrev pub touching : Access → ByteAddress → Traffic
touching access a =
    cond (access.size == 0) NoData
    (cond access.stores (store_at access.size a) (load_at access.size a))

-- an instruction that completes touches its data
abbrev pub traffic_of : Instruction → Machine → Traffic
traffic_of i m = touching (access_of i) (record { 0 = data_address m (access_of i) })

abbrev pub decoded_traffic : Option Instruction → Machine → Traffic
decoded_traffic (Some i) m = traffic_of i m
decoded_traffic None m = NoData

-- only a completed step tells
abbrev pub when_completed : Outcome → Traffic → Traffic
when_completed Completed t = t
when_completed Halted t = NoData
when_completed (Stopped why) t = NoData
when_completed (Refused r) t = NoData

-- what a step tells
unfoldable pub step_traffic : Machine → List ℕ → Traffic
step_traffic m memory = when_completed (step_of m memory).outcome (decoded_traffic (fetched m memory) m)
