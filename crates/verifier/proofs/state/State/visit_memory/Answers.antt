-- Load and store are asked the same, and bit 11 tells whether the register is written.
use Rattle.std.proofs.Common.{◌≡◌, refl, ◌∙◌, arith}
use Rattle.units.specs.Field.{field}
use Rattle.verifier.proofs.Memory.{memory_visited}
use Rattle.verifier.proofs.state.State.visit_memory.Goals as goal

pub returns-then-bits-eq0 : goal.returns-then-bits-eq0
returns-then-bits-eq0 c a =
    let upper : field c.args.h 12 1 ≡ 0 = omega arith in
    let found = c.check_halfword.ensures ∙ simp (c.get-base.ensures, c.bits.ensures) in
    memory_visited c.args.h 0 _ upper c.load_or_store.ensures (record { found = found; state = refl })
    (record { found = found; state = simp c.unknown.ensures })

pub returns-else-bits-eq0 : goal.returns-else-bits-eq0
returns-else-bits-eq0 c a =
    let upper : field c.args.h 12 1 ≡ 1 = omega arith in
    let found = c.check_byte.ensures ∙ simp (c.get-base.ensures, c.bits.ensures) in
    memory_visited c.args.h 1 _ upper c.load_or_store-else-bits-eq0.ensures
    (record { found = found; state = refl })
    (record { found = found; state = simp c.byte.ensures })
