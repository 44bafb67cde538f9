-- There is room for all that is written.
use Rattle.std.proofs.Common.{ap, arith, length}
use Rattle.units.specs.Address.{byte_address_of}
use Rattle.targets.specs.Targets.{marked_at}
use Rattle.lister.proofs.Listing.{lines_short}
use Rattle.lister.proofs.writer.lines_length.Goals as goal

pub put_lines-requires-clause-h_in_bounds : goal.put_lines-requires-clause-h_in_bounds
put_lines-requires-clause-h_in_bounds c =
    omega (
      arith,
      lines_short (marked_at c.args.marks.now c.args.i.0) (byte_address_of c.args.i) c.args.h,
      ap length c.new-out.ensures.room.0,
    )
