-- Each line that is read goes on with the walk.
use Rattle.std.proofs.Common.{refl, sym, arith}
use Rattle.assembler.proofs.Steps.{lined}
use Rattle.assembler.proofs.Walk.{walk_start, walk_none, walk_on, sized_on, named, walk_few}
use Rattle.assembler.proofs.reader.read_all.Goals as goal

pub loop-at-init : goal.loop-at-init
loop-at-init c = (walk_start c.requires, record { table_long = refl; notes_long = refl })

pub returns-in_default : goal.returns-in_default
returns-in_default c = walk_none c.loop-at.invariant.0 c.loop-at-test.true (sym c.in_default.ensures)

pub enter-outcome-requires-clause-named : goal.enter-outcome-requires-clause-named
enter-outcome-requires-clause-named c =
    let l = lined {text = c.args.text.now} {at = c.loop-at.at} (sym c.in-Some.ensures) in
    named l.written l.is_parsed_as l.item_is

pub next_number-i-requires : goal.next_number-i-requires
next_number-i-requires c = omega (arith, walk_few c.loop-at.invariant.0)

pub loop-at-preserved : goal.loop-at-preserved
loop-at-preserved c =
    let put = c.enter-outcome.ensures in (
      walk_on c.loop-at.invariant.0 _ (sym c.in-Some.ensures) put c.first_flaw-flaw.ensures c.next_number-i.ensures,
      sized_on c.loop-at.invariant.0 _ put c.loop-at.invariant.1,
    )
