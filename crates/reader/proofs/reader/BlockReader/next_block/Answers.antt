-- A block that is given lies in the file, and is the part from its start to its end.
use Rattle.std.proofs.Common.{arith}
use Rattle.reader.proofs.Blocks.{in_file, taken}
use Rattle.reader.proofs.reader.BlockReader.next_block.Goals as goal

pub overflow_add-self : goal.overflow_add-self
overflow_add-self c =
    let there = in_file c.args.self.now _ _ _ c.answer.ensures c.in-Ok-Some.is c.in-Ok-Some.field-0-is in
    omega arith

pub overflow_add-result : goal.overflow_add-result
overflow_add-result c =
    let there = in_file c.args.self.now _ _ _ c.answer.ensures c.in-Ok-Some.is c.in-Ok-Some.field-0-is in
    omega arith

pub slice_bounds-result-end : goal.slice_bounds-result-end
slice_bounds-result-end c =
    let there = in_file c.args.self.now _ _ _ c.answer.ensures c.in-Ok-Some.is c.in-Ok-Some.field-0-is in
    omega arith

pub returns-in-Ok-Some : goal.returns-in-Ok-Some
returns-in-Ok-Some c = taken c.args.self.now _ _ _ c.answer.ensures c.in-Ok-Some.is c.in-Ok-Some.field-0-is
