-- Worked examples, each by computing ("Bench table").
use mathlib.Core.Path.{◌≡◌, refl}
use Rattle.refusals.specs.declared.check.Check.TheVariants as check
use Rattle.refusals.specs.Refusal.{refusal}
use Rattle.isa.specs.declared.instruction.Instruction.TheVariants.{CmpHigh, Halt}
use Rattle.isa.specs.Decode.{decode_of}
use Rattle.isa.specs.Encode.{encode_of}
use Rattle.std.specs.Prelude.{Some, None, Err}

pub halt : decode_of 0x0000 ≡ Some (Halt 0)
halt = refl

pub halt_noted : decode_of 0x0001 ≡ Some (Halt 1)
halt_noted = refl

pub past_the_notes : decode_of 0x0100 ≡ None
past_the_notes = refl

pub cmp_two_low : decode_of 0x4500 ≡ None
cmp_two_low = refl

pub cmp_high : decode_of 0x4540 ≡ Some (CmpHigh 8 0)
cmp_high = refl

pub condition_fourteen : decode_of 0xDE00 ≡ None
condition_fourteen = refl

pub refused_two_low : encode_of (CmpHigh 7 7) ≡ Err (refusal check.Fields)
refused_two_low = refl
