-- A load leaves a memory that holds the code.
use mathlib.Core.Bool.{Bool, true, false, cond}
use mathlib.Core.List.{List}
use mathlib.Core.Path.{◌≡◌, refl, ap, ◌∙◌}
use Prim.Native.Nat.{ℕ, ◌/◌, ◌%◌, ◌≤◌, ◌<◌}
use native.Mathlib.Decide.{dec_lt}
use native.Mathlib.Omega.{arith}
use borrow.Author.Tests.{lt-ltb, eqb-true}
use lib.Dec.{eqb, ltb}
use lib.ListN.{length, get_or, get_or-eq_default}
use Rattle.units.specs.Address.{memory_bytes}
use Rattle.refusals.specs.declared.check.Check.TheVariants as check
use Rattle.refusals.specs.Refusal.{refusal}
use Rattle.units.specs.Bytes.{byte_at, byte_of}
use Rattle.units.proofs.Cases.{clash}
use Rattle.image.proofs.Lists.{length_tabulate, tabulate_at}
use Rattle.image.proofs.Valid.{code_halfword_is, code_fits}
use Rattle.image.specs.Code.{code_of}
use Rattle.image.specs.declared.checker.Layout.{Layout}
use Rattle.verifier.specs.Verify.{verify_of}
use Rattle.loader.specs.Load.{code_byte, in_window, loaded_byte_of, loaded_memory, load_of, memory_as}
use Rattle.loader.specs.Load.{memory_after_load}
use Rattle.safety.specs.Safety.{HoldsCode}
use Rattle.std.specs.Prelude.{Result, Ok, Err}
use Rattle.refusals.specs.declared.refusal.Refusal.{Refusal}

-- a load that is done had a memory of the right size and a fit file
pub record WasFit (file memory : List ℕ) (layout : Layout) : Type 0 where
  pub size : length memory ≡ memory_bytes
  pub fit : verify_of file ≡ Ok layout

pub was_fit : (file memory : List ℕ) (layout : Layout) → load_of file memory ≡ Ok layout → WasFit file memory layout
unfolding load_of
was_fit file memory layout e = go (eqb (length memory) memory_bytes) refl e
  where
    go : (t : Bool) → eqb (length memory) memory_bytes ≡ t
        → cond t (verify_of file) (Err (refusal check.MemorySize)) ≡ Ok layout → WasFit file memory layout
    go true q d = record { size = eqb-true _ _ q; fit = d }
    go false q d = clash (cc)

pub after_load : (file memory : List ℕ) (layout : Layout) → load_of file memory ≡ Ok layout
    → memory_after_load file memory ≡ loaded_memory file layout memory
unfolding memory_after_load
after_load file memory layout e = ap (λ (a : Result Layout Refusal). memory_as a file memory) e

-- the bytes of the code are bytes
half_byte : (h i : ℕ) → h < 65536 → byte_of h i < 256
unfolding byte_of
half_byte h i l = go (eqb i 0)
  where
    go : (t : Bool) → cond t (h % 256) (h / 256) < 256
    go true = omega arith
    go false = omega arith

code_word : (file : List ℕ) → ((a : ℕ) → byte_at file a < 256) → (i : ℕ) → get_or (code_of file) i 0 < 65536
code_word file bytes i = go (dec_lt i (length (code_of file)))
  where
    go : Dec (i < length (code_of file)) → get_or (code_of file) i 0 < 65536
    go (yes h) = rw (code_halfword_is file i h) (code_fits file i bytes)
    go (no h) =
        let p : length (code_of file) ≤ i = omega arith in
        rw (get_or-eq_default (code_of file) 0 p) (omega arith)

module _ (file memory : List ℕ) (file-bytes : (a : ℕ) → byte_at file a < 256)
    (memory-bytes : (a : ℕ) → byte_at memory a < 256) (layout : Layout) where
  abbrev after : List ℕ
  after = loaded_memory file layout memory

  loaded_byte : (a : ℕ) → loaded_byte_of file layout memory a < 256
  unfolding code_byte
  loaded_byte a = go (ltb a layout.code_bytes) (in_window layout a)
    where
      go : (t u : Bool) → cond t (byte_of (get_or (code_of file) (a / 2) 0) (a % 2)) (cond u 0 (get_or memory a 0)) <
          256
      go true u = half_byte (get_or (code_of file) (a / 2) 0) (a % 2) (code_word file file-bytes (a / 2))
      go false true = omega arith
      go false false = memory-bytes a

  loaded_long : length after ≡ memory_bytes
  loaded_long = length_tabulate (loaded_byte_of file layout memory) 0 memory_bytes

  loaded_at : (a : ℕ) → a < memory_bytes → byte_at after a ≡ loaded_byte_of file layout memory a
  loaded_at a h = tabulate_at (loaded_byte_of file layout memory) memory_bytes a h

  loaded_bytes : (a : ℕ) → byte_at after a < 256
  loaded_bytes a = go (dec_lt a memory_bytes)
    where
      go : Dec (a < memory_bytes) → byte_at after a < 256
      go (yes h) = rw (loaded_at a h) (loaded_byte a)
      go (no h) =
          let p : length after ≤ a = omega (arith, loaded_long) in
          rw (get_or-eq_default after 0 p) (omega arith)

  pub loaded_holds : layout.code_bytes ≤ memory_bytes → HoldsCode file layout after
  loaded_holds c =
      record { size = loaded_long; bytes = loaded_bytes; code = λ a h. loaded_at a (omega arith) ∙ simp (lt-ltb _ _ h) }
