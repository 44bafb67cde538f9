-- The output is written only where it has room for the listing.
use Rattle.std.specs.Prelude.{not}
use Rattle.std.proofs.Common.{ap}
use Rattle.lister.proofs.Outcomes.{refused, no_room, done}
use Rattle.lister.proofs.writer.Marked.write_listing.Goals as goal

pub returns-then-not-has_room : goal.returns-then-not-has_room
returns-then-not-has_room c =
    refused _ _
    (no_room _ c.args.out.now _ c.has_room.ensures (ap not c.if-not-has_room.true) c.new.ensures)

pub returns : goal.returns
returns c =
    done _ c.args.out.now _ c.has_room.ensures (ap not c.if-not-has_room.false) _ _ c.write.ensures
