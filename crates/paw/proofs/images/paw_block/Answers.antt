-- The word of what `given_at` answers. A block lies in the longest image, so that 16 bits say where it starts.
use Rattle.std.proofs.Common.{List, ◌≡◌, ℕ, ◌<◌, sym, arith}
use Rattle.std.specs.Prelude.{Option, Some, None, Result, Ok, Err}
use Rattle.refusals.specs.declared.refusal.Refusal.{Refusal}
use Rattle.reader.specs.Reader.{given_of}
use Rattle.reader.proofs.Blocks.{block_in_image}
use Rattle.answers.specs.Answers.{start_of}
use Rattle.paw.proofs.images.paw_block.Goals as goal

start_fits : (file : List ℕ) (n : ℕ) (g : Result (Option ℕ) Refusal) → given_of file n ≡ g → start_of g < 0x10000
start_fits file n (Err r) e = omega arith
start_fits file n (Ok (Some start)) e = omega (arith, block_in_image file n start e)
start_fits file n (Ok None) e = omega arith

pub given_word-requires : goal.given_word-requires
given_word-requires c = start_fits _ _ _ (sym c.given_at.ensures)
