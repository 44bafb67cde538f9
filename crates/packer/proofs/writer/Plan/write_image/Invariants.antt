-- Block by block the output comes to start as the image does, and in the end it is as long.
use Rattle.std.proofs.Common.{◌≡◌, ◌*◌, take}
use Rattle.packer.specs.Pack.{image_of}
use Rattle.packer.proofs.writer.Plan.write_image.Given as goal

-- before turn k that many of the blocks are written
abbrev pub invariant-loop-k : goal.invariant-loop-k
invariant-loop-k l = take (512 * l.k) l.out ≡ take (512 * l.k) (image_of l.self.code.now l.self.w l.self.l)
