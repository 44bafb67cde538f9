-- Every line was read, so the items that are left are told line by line.
use Rattle.std.proofs.Common.{sym, arith}
use Rattle.assembler.proofs.Scanning.{scan_line, scan_none, scan_found, scan_on}
use Rattle.assembler.proofs.definitions.scan.Goals as goal

pub returns-in_err-item : goal.returns-in_err-item
returns-in_err-item c = scan_line c.loop-at.invariant c.loop-at-test.true (sym c.in_err-item.ensures)

pub returns-then-defines : goal.returns-then-defines
returns-then-defines c =
    scan_found c.loop-at.invariant _ (sym c.in_ok-item.ensures) c.defines.ensures c.if-defines.true

pub loop-at-preserved : goal.loop-at-preserved
loop-at-preserved c =
    scan_on c.loop-at.invariant _ (sym c.in_ok-item.ensures) c.defines.ensures c.if-defines.false
    c.next_number-i.ensures

pub returns : goal.returns
returns c = scan_none c.loop-at.invariant (omega (arith, c.loop-at.invariant.inside))
