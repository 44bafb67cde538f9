-- No line is longer than the room, and the line is what stands at its front.
use Rattle.std.proofs.Common.{ℕ, ◌≡◌, ◌++◌, ap, arith, length, rules, take, ◌∙◌}
use Rattle.isa.specs.Decode.{decode_of}
use Rattle.text.proofs.Writing.{grew_front}
use Rattle.lister.specs.List.{instruction_line}
use Rattle.lister.proofs.Lines.{instruction_most}
use Rattle.lister.proofs.showing.instruction_line.Goals as goal

pub put_instruction-requires : goal.put_instruction-requires
put_instruction-requires c = omega (arith, instruction_most c.args.a c.args.h, ap length c.new-out.ensures.room.0)

pub from_front-requires : goal.from_front-requires
from_front-requires c = omega (arith, instruction_most c.args.a c.args.h, c.put_instruction.ensures.place)

pub returns : goal.returns
returns c =
    let line : take c.put_instruction.new.out.at c.put_instruction.new.out.room.now
    ≡ instruction_line c.args.a (decode_of c.args.h) =
    grew_front (omega (arith, instruction_most c.args.a c.args.h, ap length c.new-out.ensures.room.0))
    c.put_instruction.ensures
    ∙ ap (λ (n : ℕ). take n c.new-out.result.room.now ++ instruction_line c.args.a (decode_of c.args.h))
    c.new-out.ensures.room.1 in
    search (rules, line)
