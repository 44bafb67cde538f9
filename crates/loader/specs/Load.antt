-- Loading ("The questions", "Loading"): check 1, the verifier's checks, and the memory that a load leaves.
use Rattle.std.specs.Prelude.{Bool, ◌&&◌, cond, List, ℕ, ◌+◌, ◌%◌, eqb, leb, ltb, length, get_or, Result, Ok, Err}
use Rattle.units.specs.Bytes.{byte_of}
use Rattle.units.specs.Address.{instruction_index_of, memory_bytes}
use Rattle.refusals.specs.declared.check.Check.TheVariants as check
use Rattle.refusals.specs.Refusal.{refusal}
use Rattle.image.specs.Code.{code_of}
use Rattle.image.specs.Format.{tabulate}
use Rattle.image.specs.declared.checker.Layout.{Layout}
use Rattle.verifier.specs.Verify.{verify_of}
use Rattle.refusals.specs.declared.refusal.Refusal.{Refusal}

-- byte a of an image's code: one of the two of the instruction that it belongs to
unfoldable pub code_byte : List ℕ → ℕ → ℕ
code_byte file a = byte_of (get_or (code_of file) (instruction_index_of (record { 0 = a })).0 0) (a % 2)

-- byte a is one of the window
abbrev pub in_window : Layout → ℕ → Bool
in_window layout a = leb layout.window_start a && ltb a (layout.window_start + layout.window_length)

-- byte a of memory after a load: the code, a cleared window, and else what was there
abbrev pub loaded_byte_of : List ℕ → Layout → List ℕ → ℕ → ℕ
loaded_byte_of file layout memory a =
    cond (ltb a layout.code_bytes) (code_byte file a) (cond (in_window layout a) 0 (get_or memory a 0))

abbrev pub loaded_memory : List ℕ → Layout → List ℕ → List ℕ
loaded_memory file layout memory = tabulate (loaded_byte_of file layout memory) memory_bytes

-- check 1, of the memory; then checks 2 to 14, of the file
unfoldable pub load_of : List ℕ → List ℕ → Result Layout Refusal
load_of file memory = cond (eqb (length memory) memory_bytes) (verify_of file) (Err (refusal check.MemorySize))

-- the memory afterwards; a refusal leaves it alone
abbrev pub memory_as : Result Layout Refusal → List ℕ → List ℕ → List ℕ
memory_as (Ok layout) file memory = loaded_memory file layout memory
memory_as (Err r) file memory = memory

unfoldable pub memory_after_load : List ℕ → List ℕ → List ℕ
memory_after_load file memory = memory_as (load_of file memory) file memory
