-- What one turn, and the end, makes of what is left of the text.
use Rattle.std.proofs.Common.{◌≡◌, ℕ, ◌+◌, ◌<◌, ◌≤◌, Some, List, length, drop, get_or, arith}
use Rattle.std.proofs.lemmas.List.{at_drop_more, at_drop_all}
use Rattle.std.specs.Option.{option_and_then}
use Rattle.digits.specs.Digits.{digit_in, grown_by, grown_over}
use Rattle.digits.proofs.values.read_digits.Goals as goal

one_more : (radix most n : ℕ) (xs : List ℕ) (i : ℕ) → i < length xs →
    grown_over radix most n (drop i xs)
    ≡ option_and_then
    (λ d. grown_over radix most (grown_by radix most n d) (drop (i + 1) xs))
    (digit_in radix (get_or xs i 0))
unfolding grown_over
one_more radix most n xs i h = at_drop_more (grown_over radix most n) xs i 0 h

at_end : (radix most n : ℕ) (xs : List ℕ) (i : ℕ) → length xs ≤ i → grown_over radix most n (drop i xs) ≡ Some n
unfolding grown_over
at_end radix most n xs i h = at_drop_all (grown_over radix most n) xs i h

pub returns-in_err-digit_in : goal.returns-in_err-digit_in
returns-in_err-digit_in c =
    let e = one_more c.args.radix c.args.most c.loop-b.n c.args.text.now c.loop-b.b-index (grind arith) in
    grind (arith, e)

pub loop-b-preserved : goal.loop-b-preserved
loop-b-preserved c =
    let e = one_more c.args.radix c.args.most c.loop-b.n c.args.text.now c.loop-b.b-index (grind arith) in
    grind (arith, e)

pub returns : goal.returns
returns c =
    let e = at_end c.args.radix c.args.most c.loop-b.n c.args.text.now c.loop-b.b-index (grind arith) in
    grind (arith, e)
