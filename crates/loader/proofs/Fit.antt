-- What the loader needs of a fit file: its code lies in the file, and code and window lie in memory.
use mathlib.Core.List.{List}
use mathlib.Core.Path.{◌≡◌, ◌∙◌}
use Prim.Native.Nat.{ℕ, ◌+◌, ◌*◌, ◌≤◌, ◌<◌}
use native.Mathlib.Omega.{arith}
use lib.ListN.{length, get_or}
use Rattle.units.specs.Address.{instruction_index_of, memory_bytes}
use Rattle.units.specs.declared.address.InstructionIndex.{InstructionIndex}
use Rattle.image.proofs.Valid.{code_halfword_is, valid_window, valid_code_bytes, code_in_file}
use Rattle.image.specs.Check.{check_of}
use Rattle.image.specs.Code.{code_position, code_of}
use Rattle.image.specs.declared.checker.Layout.{Layout}
use Rattle.verifier.specs.Verify.{verify_of}
use Rattle.std.specs.Prelude.{Ok}
use Rattle.verifier.proofs.Accepted.{count_is}
use Rattle.verifier.proofs.Fit.{fit_checked}
use Rattle.loader.specs.Copy.{IsCopied, cleared}
use Rattle.loader.specs.Load.{loaded_memory}
use Rattle.loader.proofs.Placed.{load_is}

module _ (file : List ℕ) (layout : Layout) (fit : verify_of file ≡ Ok layout) where
  valid : check_of file ≡ Ok layout
  valid = fit_checked file layout fit

  pub window_fits : layout.window_start + layout.window_length ≤ memory_bytes
  window_fits = (valid_window file layout valid).in_memory

  code_first : layout.code_bytes ≤ layout.window_start
  code_first = (valid_window file layout valid).after_code

  -- so many instructions are copied
  module _ (n : InstructionIndex) (is : n ≡ instruction_index_of (record { 0 = layout.code_bytes })) where
    count : n.0 ≡ length (code_of file)
    count = count_is file layout valid n is

    bytes : layout.code_bytes ≡ 2 * n.0
    bytes = omega (arith, count, valid_code_bytes file layout valid)

    pub code_there : (i : ℕ) → i < n.0 → code_position i + 2 ≤ length file
    code_there i h = code_in_file file layout valid i (omega (arith, count))

    -- the code is copied, then the window is cleared
    pub placed : ((p : ℕ) → get_or file p 0 < 256) → (memory copied after : List ℕ) → length memory ≡ memory_bytes
        → IsCopied file n.0 memory copied
        → after ≡ cleared layout.window_start (layout.window_start + layout.window_length) copied
        → after ≡ loaded_memory file layout memory
    placed byte memory copied after whole code window =
        window
        ∙ load_is file layout memory copied n.0 byte code bytes whole code_first window_fits
        (λ i h. code_halfword_is file i (omega (arith, count)))
