-- What is enough for any code of the length is enough for this one; else the measure tells. The check finds the second
-- by itself, but of another comparison would only say that its search gave up: this answer says where the two differ.
use Rattle.std.specs.Prelude.{leb}
use Rattle.std.proofs.Common.{ℕ, ap, sym, arith, ◌∙◌}
use Rattle.std.proofs.lemmas.Bool.{le-leb}
use Rattle.lister.proofs.Room.{room_enough}
use Rattle.lister.proofs.writer.Marked.has_room.Goals as goal

pub returns-then-self-room : goal.returns-then-self-room
returns-then-self-room c =
    le-leb _ _ c.if-self-room.true ∙ sym (le-leb _ c.args.room (omega (arith, room_enough c.args.self.code.now)))

pub returns-else-self-room : goal.returns-else-self-room
returns-else-self-room c = ap (λ (n : ℕ). leb n c.args.room) c.measure.ensures
