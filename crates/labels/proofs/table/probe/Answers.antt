-- Each way on is a step of the definition.
use Rattle.std.proofs.Common.{ℕ, ◌+◌, ◌-◌, ◌<◌, length, ap, sym, subst, ◌∙◌, arith}
use Rattle.labels.specs.Table.{tries, probe_from, probe_of}
use Rattle.labels.proofs.Probes.{home_inside, next_inside, probe_here, probe_free, probe_next, probe_ends}
use Rattle.labels.proofs.table.probe.Goals as goal

pub loop-init : goal.loop-init
unfolding probe_of
loop-init c =
    let table = c.args.table.now in
    let e = c.home_of-at.ensures in (
      subst (λ (n : ℕ). n < length table) (sym e) (home_inside (length table) c.args.name c.requires),
      ap (λ (n : ℕ). probe_from (length table) tries n table c.args.name) e,
    )

pub returns-then-other-name : goal.returns-then-other-name
returns-then-other-name c =
    sym (probe_here _ (tries - c.loop.counter) _ _ _ (omega arith) c.if-other-name.true) ∙ c.loop.invariant.1

pub returns-then-other-eq0 : goal.returns-then-other-eq0
returns-then-other-eq0 c =
    sym (probe_free _ (tries - c.loop.counter) _ _ _ (omega arith) c.if-other-name.false c.if-other-eq0.true)
    ∙ c.loop.invariant.1

pub loop-preserved : goal.loop-preserved
loop-preserved c =
    let table = c.args.table.now in
    let name = c.args.name in
    let l = c.loop in
    let e = c.next_place-at.ensures in (
      subst (λ (n : ℕ). n < length table) (sym e) (next_inside (length table) l.at l.invariant.0),
      ap (λ (n : ℕ). probe_from (length table) (tries - (l.counter + 1)) n table name) e
          ∙ sym (probe_next (length table) (tries - l.counter) (tries - (l.counter + 1)) _ _ _ (omega arith)
          c.if-other-name.false c.if-other-eq0.false) ∙ l.invariant.1,
    )

pub returns : goal.returns
returns c =
    sym (probe_ends _ (tries - c.loop.counter) c.loop.at _ _ (omega arith)) ∙ c.loop.invariant.1
