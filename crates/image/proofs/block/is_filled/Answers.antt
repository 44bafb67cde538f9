-- A full block leaves nothing unused.
use Rattle.std.proofs.Common.{◌∙◌, eq-eqb}
use Rattle.image.proofs.Verdicts.{filled_full}
use Rattle.image.proofs.block.is_filled.Goals as goal

pub returns-then-used-eq-BLOCK_CODE : goal.returns-then-used-eq-BLOCK_CODE
returns-then-used-eq-BLOCK_CODE c =
    let full = c.if-used-eq-BLOCK_CODE.true in
    eq-eqb _ _ full ∙ filled_full _ _ _ c.field-used.ensures full
