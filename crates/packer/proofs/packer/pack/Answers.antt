-- Where the checks all pass the sizes are right.
use Rattle.packer.proofs.Packing.{pack_sizes}
use Rattle.packer.proofs.packer.pack.Goals as goal

pub invariant_of-write_image : goal.invariant_of-write_image
invariant_of-write_image c = record { fits = (pack_sizes _ _ _ _ _ c.check_pack.ensures c.in_ok-check_pack.was).0 }

pub write_image-requires : goal.write_image-requires
write_image-requires c = (pack_sizes _ _ _ _ _ c.check_pack.ensures c.in_ok-check_pack.was).1
