-- Each line starts behind the one before.
use Rattle.std.proofs.Common.{◌≡◌, refl, sym, ap, ◌∙◌, ℕ, suc, ◌+◌, length, drop, min, arith}
use Rattle.text.specs.Text.{Text, line_length}
use Rattle.pack.specs.Shown.{line_start}
use Rattle.pack.proofs.source.line_of.Goals as goal

pub loop-k-init : goal.loop-k-init
unfolding line_start
loop-k-init c = (refl, omega arith)

next_start : (k : ℕ) (text : Text) → line_start (suc k) text
    ≡ min (length text) (line_start k text + line_length (drop (line_start k text) text) + 1)
unfolding line_start
next_start k text = refl

pub loop-k-preserved : goal.loop-k-preserved
loop-k-preserved c =
    let text = c.args.text.now in
    let k = c.loop-k.k in
    let ends = c.line_end.ensures.0 ∙ ap (λ (at : ℕ). at + line_length (drop at text)) c.loop-k.invariant.0 in
    let there = c.min-at.ensures ∙ ap (λ (e : ℕ). min (length text) (e + 1)) ends in
    let one_more : suc k ≡ k + 1 = omega arith in
    (there ∙ sym (next_start k text) ∙ ap (λ (n : ℕ). line_start n text) one_more, omega arith)
