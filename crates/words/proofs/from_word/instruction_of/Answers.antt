-- A kind that is none lies past the table.
use Rattle.std.proofs.Common.{ℕ, ◌≡◌, ◌≤◌, ◌/◌, ◌%◌, sym, arith}
use Rattle.std.specs.Prelude.{slice_index}
use Rattle.isa.proofs.Table.{entry_past}
use Rattle.words.specs.Words.{kinds}
use Rattle.words.proofs.from_word.instruction_of.Goals as goal

pub returns-in_default : goal.returns-in_default
returns-in_default c =
    let w : ℕ = c.args.w in
    let kind : slice_index c.to_be_bytes.result 0 ≡ w / 0x1000000 =
    rw c.to_be_bytes.ensures (omega (arith, c.ranges.w.fits)) in
    let past : 19 ≤ w / 0x1000000 = omega (arith, kind, c.in_default) in
    sym (entry_past (kinds (w / 0x10000 % 256) (w / 0x100 % 256) (w % 256)) (w / 0x1000000) past)
