-- The used count of the last block fits, since that block has passed, and so the code ends at an address.
use Rattle.std.proofs.Common.{◌≡◌, ap, ◌∙◌, ◌+◌, ◌-◌, ◌*◌, arith}
use Rattle.units.specs.declared.address.ByteAddress.{ByteAddress}
use Rattle.image.proofs.Verdicts.{last_used_most, layout_is}
use Rattle.image.proofs.file.Blocks.layout.Goals as goal

pub overflow_cast-before-2 : goal.overflow_cast-before-2
overflow_cast-before-2 c =
    let s = c.args.self in
    let few = last_used_most s.file.now s.count _ _ s.all s.some c.requires c.block.ensures c.field-used.ensures in
    omega arith

pub returns : goal.returns
returns c =
    let s = c.args.self in
    let few = last_used_most s.file.now s.count _ _ s.all s.some c.requires c.block.ensures c.field-used.ensures in
    let end : c.from-end.result.0 ≡ 2 * (249 * (s.count - 1) + c.field-used.result) =
    ap (λ (a : ByteAddress). a.0) c.from-end.ensures ∙ omega arith in
    layout_is s.file.now s.count _ _ _ _ _ _ end s.all c.block.ensures c.block-first.ensures c.field-used.ensures
    c.field.ensures c.field-2.ensures
