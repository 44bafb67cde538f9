-- Each turn copies one byte more.
use Rattle.std.proofs.Common.{◌≡◌, refl, ◌+◌, ◌*◌, ◌<◌, ℕ, List, length, set, take, drop, get_or, ap, sym, ◌∙◌, arith}
use Rattle.std.proofs.Common.{length-drop}
use lib.Seq.{get_or-drop}
use Rattle.units.specs.declared.address.ByteAddress.{ByteAddress}
use Rattle.loader.specs.Copy.{with_part, code_part}
use Rattle.loader.proofs.Copied.{part_none, part_more}
use Rattle.loader.proofs.copy.copy_block.Goals as goal

pub loop-i-init : goal.loop-i-init
loop-i-init c = record {
  memory = sym (part_none c.from-first.result.0 (drop (512 * c.args.k + 12) c.args.file.now) c.args.memory.now);
  to = ap (λ (x : ByteAddress). x.0) c.from-first.ensures ∙ omega arith;
  from = refl;
}

pub loop-i-preserved : goal.loop-i-preserved
loop-i-preserved c =
    let from : ℕ = 512 * c.args.k + 12 in
    let to : ℕ = c.from-first.result.0 in
    let file : List ℕ = c.args.file.now in
    let at = c.loop-i in
    let inside : to + at.i < length c.args.memory.now = omega (arith, at.invariant.to) in
    let left : at.i < length (drop from file) = rw length-drop (omega arith) in
    record {
      memory =
          ap (λ (m : List ℕ). set m (to + at.i) (get_or file (from + at.i) 0)) at.invariant.memory
          ∙ ap (λ (y : ℕ). set (with_part to (take at.i (drop from file)) c.args.memory.now) (to + at.i) y)
          (sym (get_or-drop from file at.i 0))
          ∙ part_more to at.i (drop from file) c.args.memory.now inside left;
      to = at.invariant.to;
      from = refl;
    }

pub returns : goal.returns
returns c =
    let at = c.loop-i in
    let all : at.i ≡ 2 * c.args.n = omega arith in
    at.invariant.memory
    ∙ ap (λ (i : ℕ). with_part c.from-first.result.0 (take i (drop (512 * c.args.k + 12) c.args.file.now))
    c.args.memory.now) all
    ∙ ap (λ (to : ℕ). with_part to (code_part c.args.file.now c.args.k c.args.n) c.args.memory.now) at.invariant.to
