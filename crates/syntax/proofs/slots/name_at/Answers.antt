-- A letter begins a name, and each letter or digit goes on with it, up to eight.
use Rattle.std.proofs.Common.{◌≡◌, true, refl, sym, ap, subst, ◌∙◌, arith, get_or}
use Rattle.text.specs.Text.{is_small}
use Rattle.syntax.specs.Spots.{Spotted}
use Rattle.syntax.proofs.Names.{naming_start, naming_more, naming_fits, name_none, name_ends, name_full, small_inside}
use Rattle.syntax.proofs.slots.name_at.Goals as goal

pub returns-then-not-is_small : goal.returns-then-not-is_small
returns-then-not-is_small c =
    name_none c.args.text.now c.args.at
    (sym (ap is_small c.byte_at-first.ensures) ∙ sym c.is_small.ensures ∙ c.if-not-is_small.true)

pub loop-i-init : goal.loop-i-init
loop-i-init c =
    let letter : is_small (get_or c.args.text.now c.args.at 0) ≡ true =
    sym (ap is_small c.byte_at-first.ensures) ∙ sym c.is_small.ensures ∙ c.if-not-is_small.false in
    let inside = small_inside c.args.text.now c.args.at letter in (
      omega (arith, c.min-limit.ensures, inside),
      c.min-limit.ensures,
      naming_start _ _ _ c.byte_at-first.ensures letter (omega arith),
    )

pub returns-then-not-in_name : goal.returns-then-not-in_name
returns-then-not-in_name c =
    let letter : is_small (get_or c.args.text.now c.args.at 0) ≡ true =
    sym (ap is_small c.byte_at-first.ensures) ∙ sym c.is_small.ensures ∙ c.if-not-is_small.false in
    name_ends _ _ _ _ c.requires letter c.loop-i.invariant.2 (omega arith)
    (sym c.in_name.ensures ∙ c.if-not-in_name.true)

pub loop-i-preserved : goal.loop-i-preserved
loop-i-preserved c = (
  omega arith,
  c.loop-i.invariant.1,
  naming_more _ _ _ _ _ c.loop-i.invariant.2 refl (sym c.in_name.ensures ∙ c.if-not-in_name.false) (omega arith),
)

pub returns : goal.returns
returns c =
    let letter : is_small (get_or c.args.text.now c.args.at 0) ≡ true =
    sym (ap is_small c.byte_at-first.ensures) ∙ sym c.is_small.ensures ∙ c.if-not-is_small.false in
    subst (Spotted 108 c.args.text.now c.args.at c.loop-i.value) (omega arith)
    (name_full _ _ _ _ c.requires letter c.loop-i.invariant.2 (omega arith) (omega arith))

pub overflow_mul-value : goal.overflow_mul-value
overflow_mul-value c = omega (arith, naming_fits _ _ _ _ 0 c.loop-i.invariant.2 (omega arith) (omega arith))

pub overflow_add-value : goal.overflow_add-value
overflow_add-value c =
    let d = get_or c.args.text.now c.loop-i.i 0 in
    omega (arith, naming_fits _ _ _ _ d c.loop-i.invariant.2 (omega arith) (omega (arith, c.type_inv.text c.loop-i.i)))
