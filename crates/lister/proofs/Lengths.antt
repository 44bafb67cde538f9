-- How long the texts are that are written.
use mathlib.Core.List.{[], ◌∷◌, ◌++◌}
use mathlib.Core.Path.{◌≡◌}
use Prim.Native.Char.{code}
use Prim.Native.Nat.{ℕ, ◌+◌, ◌*◌}
use native.Mathlib.Omega.{arith}
use lib.ListN.{length, length-append}
use Rattle.text.specs.Text.{Text, quoted, decimal, feed}
use Rattle.syntax.specs.Syntax.{register_word}
use Rattle.lister.specs.Lines.{comma, mark, last_number, immediate_text, pair_text, place_text, transfer_text}
use Rattle.lister.specs.Lines.{add_pc_text}

-- of three texts one behind another, of four and of five
sum_three : (s t u : Text) → length (s ++ t ++ u) ≡ length s + length t + length u
sum_three s t u = omega (arith, length-append s t, length-append (s ++ t) u)

sum_four : (s t u v : Text) → length (s ++ t ++ u ++ v) ≡ length s + length t + length u + length v
sum_four s t u v = omega (arith, sum_three s t u, length-append (s ++ t ++ u) v)

sum_five : (s t u v w : Text)
    → length (s ++ t ++ u ++ v ++ w) ≡ length s + length t + length u + length v + length w
sum_five s t u v w = omega (arith, sum_four s t u v, length-append (s ++ t ++ u ++ v) w)

-- of each text that is written
pub last_sum : (n : ℕ) → length (last_number n) ≡ length (decimal n) + 1
last_sum n = length-append (decimal n) (feed ∷ [])

pub immediate_sum : (r n : ℕ) → length (immediate_text r n) ≡ length (decimal r) + length (last_number n) + 4
immediate_sum r n = omega (arith, sum_four (register_word r) comma mark (last_number n))

pub pair_sum : (rd rs : ℕ) → length (pair_text rd rs) ≡ length (decimal rd) + length (decimal rs) + 5
pair_sum rd rs = omega (arith, sum_four (register_word rd) comma (register_word rs) (feed ∷ []))

pub place_sum : (rb n : ℕ) → length (place_text rb n) ≡ length (decimal rb) + length (decimal n) + 7
place_sum rb n =
    omega (arith, sum_five (quoted "[" ++ register_word rb) comma mark (decimal n) (code "]" ∷ feed ∷ []))

pub transfer_sum : (rd rb n : ℕ)
    → length (transfer_text rd rb n) ≡ length (decimal rd) + length (place_text rb n) + 3
transfer_sum rd rb n = omega (arith, sum_three (register_word rd) comma (place_text rb n))

pub add_pc_sum : (r imm : ℕ) → length (add_pc_text r imm) ≡ length (decimal r) + length (last_number (4 * imm)) + 8
add_pc_sum r imm = omega (arith, sum_five (register_word r) comma (quoted "PC, ") mark (last_number (4 * imm)))
