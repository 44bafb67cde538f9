-- The first instruction that fails a check ends the pass; where none does, all targets are marked.
use Rattle.std.proofs.Common.{refl, arith, add-one}
use Rattle.std.proofs.lemmas.Result.{err_from_is_err_and}
use Rattle.image.specs.Check.{first_no, rows_below}
use Rattle.targets.specs.Targets.{targeted_below}
use Rattle.targets.proofs.Marking.{mark_next}
use Rattle.lister.proofs.Checking.{turn_refused, turn_passed, all_checked}
use Rattle.lister.proofs.checker.check_code.Goals as goal

pub loop-k-init : goal.loop-k-init
unfolding first_no rows_below targeted_below
loop-k-init c = (refl, λ j l. c.requires.1 j)

pub returns-in_err-check_at : goal.returns-in_err-check_at
returns-in_err-check_at c =
    let p = err_from_is_err_and c.from_residual.result c.from_residual.ensures.1 in
    rw (p.1, p.2) (record {
      is =
          turn_refused c.args.code.now c.loop-k.k _ _ _ c.loop-k.invariant.0 c.from.ensures c.layout_for-layout.ensures
          refl c.check_at.ensures c.in_err-check_at.was c.loop-k-test.true;
      marked = tt;
    })

pub loop-k-preserved : goal.loop-k-preserved
loop-k-preserved c = (
  turn_passed c.args.code.now c.loop-k.k _ _ _ c.loop-k.invariant.0 c.from.ensures c.layout_for-layout.ensures refl
      c.check_at.ensures c.in_ok-check_at.was,
  rw add-one (mark_next _ _ _ _ refl c.mark_target.ensures c.loop-k.invariant.1),
)

pub returns : goal.returns
returns c =
    all_checked c.args.code.now c.loop-k.k _ c.requires.0 (omega arith) c.loop-k.invariant.0 c.loop-k.invariant.1
