-- What a step touches in memory (Change 2), in the request's words: whether data are read or written, at which byte
-- address, and how many bytes.
use Rattle.std.specs.Prelude.{Bool, true, false, ℕ}
use Rattle.traffic.specs.declared.data.Traffic.{Traffic}
use Rattle.traffic.specs.declared.data.Traffic.TheVariants.{NoData, ReadByte, ReadHalfword, WroteByte}
use Rattle.traffic.specs.declared.data.Traffic.TheVariants.{WroteHalfword}

-- how many bytes are touched
abbrev pub bytes_touched : Traffic → ℕ
bytes_touched NoData = 0
bytes_touched (ReadByte a) = 1
bytes_touched (ReadHalfword a) = 2
bytes_touched (WroteByte a) = 1
bytes_touched (WroteHalfword a) = 2

-- the address of the first of them; 0 where there is none
abbrev pub address_touched : Traffic → ℕ
address_touched NoData = 0
address_touched (ReadByte a) = a.0
address_touched (ReadHalfword a) = a.0
address_touched (WroteByte a) = a.0
address_touched (WroteHalfword a) = a.0

-- are they written?
abbrev pub is_written : Traffic → Bool
is_written NoData = false
is_written (ReadByte a) = false
is_written (ReadHalfword a) = false
is_written (WroteByte a) = true
is_written (WroteHalfword a) = true

-- all this but the address as one number
abbrev pub kind_touched : Traffic → ℕ
kind_touched NoData = 0
kind_touched (ReadByte a) = 1
kind_touched (ReadHalfword a) = 2
kind_touched (WroteByte a) = 3
kind_touched (WroteHalfword a) = 4
