-- How the code holds flags: as the numbers that they speak of. Only contracts of functions that are no entry points
-- speak of it.
use Rattle.std.specs.Prelude.{ℕ, ◌%◌, ◌&&◌, ◌==◌, nat_le}
use Rattle.alu.specs.declared.control.Control.{Control}
use Rattle.alu.specs.declared.status.Status.{Status}
use Rattle.alu.specs.Flags.{Flags}
use Rattle.alu.specs.Alu.{negative, signs_differ}

-- N and Z speak of the result that is held, C and V of the sum: where it has more than 16 bits, and where its low 16
-- have a sign that neither operand has
abbrev pub flags_in : Control → Flags
flags_in k =
    let low = k.sum % 65536 in
    record {
      n = negative k.result;
      z = (k.result % 65536 == 0);
      c = nat_le 65536 k.sum;
      v = signs_differ k.a low && signs_differ k.b low;
    }

-- and the flags by themselves
abbrev pub flags_of : Status → Flags
flags_of s = record { n = s.n; z = s.z; c = s.c; v = s.v }

-- the same flags at another PC
abbrev pub moved : ℕ → Control → Control
moved pc k = record { pc = pc; result = k.result; a = k.a; b = k.b; sum = k.sum }
