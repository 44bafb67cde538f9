-- Code copied and window cleared is memory as a load leaves it.
use Rattle.std.proofs.Common.{◌≡◌, ℕ, zero, suc, ◌+◌, ◌-◌, ◌*◌, ◌/◌, ◌%◌, ◌<◌, ◌≤◌, List, length, get_or, replicate}
use Rattle.std.proofs.Common.{sym, ap, ◌∙◌, arith, add-zero, lt-ltb, le-ltb, le-leb}
use native.Mathlib.Decide.{dec_lt}
use borrow.Author.Tests.{lt-leb}
use lib.ListN.{length-replicate, get_or-replicate}
use lib.Seq.{ext_get_or}
use Rattle.units.specs.Bytes.{byte_of, halfword_at}
use Rattle.units.specs.Address.{memory_bytes}
use Rattle.units.proofs.Halves.{low_byte, high_byte}
use Rattle.image.proofs.Lists.{length_tabulate, tabulate_at}
use Rattle.image.specs.Code.{code_position, code_at, code_of}
use Rattle.image.specs.declared.checker.Layout.{Layout}
use Rattle.loader.specs.Copy.{IsCopied, cleared}
use Rattle.loader.specs.Load.{code_byte, loaded_byte_of, loaded_memory}
use Rattle.loader.proofs.Copied.{length_with_part, before_part, in_part, past_part}

-- byte b of the halfword at a place of a file
byte_there : (file : List ℕ) (p b : ℕ) → get_or file p 0 < 256 → b < 2
    → get_or file (p + b) 0 ≡ byte_of (halfword_at file p) b
unfolding byte_of
byte_there file p zero small h = ap (λ (q : ℕ). get_or file q 0) (add-zero p) ∙ sym (low_byte _ _ small)
byte_there file p (suc zero) small h = sym (high_byte _ (get_or file (p + 1) 0) small)
byte_there file p (suc (suc b)) small h = absurd (omega arith)

module _ (file : List ℕ) (layout : Layout) (memory copied : List ℕ) (n : ℕ)
    (bytes : (p : ℕ) → get_or file p 0 < 256) (so : IsCopied file n memory copied)
    (size : layout.code_bytes ≡ 2 * n) (whole : length memory ≡ memory_bytes)
    (after : layout.code_bytes ≤ layout.window_start)
    (fits : layout.window_start + layout.window_length ≤ memory_bytes)
    (code : (i : ℕ) → i < n → get_or (code_of file) i 0 ≡ code_at file i) where
  abbrev w : ℕ
  w = layout.window_start

  abbrev e : ℕ
  e = layout.window_start + layout.window_length

  -- memory afterwards
  abbrev loaded : List ℕ
  loaded = cleared w e copied

  code_fits : 2 * n ≤ memory_bytes
  code_fits = omega (arith, size, after, fits)

  copied_long : length copied ≡ memory_bytes
  copied_long = so.long ∙ whole

  order : w ≤ e
  order = omega arith

  inside : e ≤ length copied
  inside = omega (arith, copied_long)

  -- the window's part
  abbrev zeros : List ℕ
  zeros = replicate (e - w) 0

  part_fits : w + length zeros ≤ length copied
  part_fits = omega (arith, copied_long, length-replicate {A = ℕ} (e - w) 0)

  in_code : (a : ℕ) → a < 2 * n → get_or loaded a 0 ≡ code_byte file a
  unfolding code_byte code_at
  in_code a h =
      before_part w zeros copied part_fits a (omega arith)
      ∙ so.code a h
      ∙ byte_there file (code_position (a / 2)) (a % 2) (bytes (code_position (a / 2))) (omega arith)
      ∙ ap (λ (x : ℕ). byte_of x (a % 2)) (sym (code (a / 2) (omega arith)))

  between : (a : ℕ) → 2 * n ≤ a → a < w → get_or loaded a 0 ≡ get_or memory a 0
  between a h k = before_part w zeros copied part_fits a k ∙ so.rest a h

  in_window : (a : ℕ) → w ≤ a → a < e → get_or loaded a 0 ≡ 0
  in_window a h k =
      let q : a ≡ w + (a - w) = omega arith in
      ap (λ (b : ℕ). get_or loaded b 0) q
      ∙ in_part w zeros copied part_fits (a - w) (omega (arith, length-replicate {A = ℕ} (e - w) 0))
      ∙ get_or-replicate (e - w) (a - w) 0 0 (omega arith)

  past_window : (a : ℕ) → e ≤ a → get_or loaded a 0 ≡ get_or memory a 0
  past_window a h =
      past_part w zeros copied part_fits a (omega (arith, length-replicate {A = ℕ} (e - w) 0))
      ∙ so.rest a (omega arith)

  byte_is : (a : ℕ) → get_or loaded a 0 ≡ loaded_byte_of file layout memory a
  byte_is a = go (dec_lt a layout.code_bytes) (dec_lt a w) (dec_lt a e)
    where
      go : Dec (a < layout.code_bytes) → Dec (a < w) → Dec (a < e)
          → get_or loaded a 0 ≡ loaded_byte_of file layout memory a
      go (yes h) x y = simp (lt-ltb _ _ h) (in_code a (omega (arith, size)))
      go (no h) (yes x) y =
          let p : layout.code_bytes ≤ a = omega arith in
          simp (le-ltb _ _ p, lt-leb _ _ x) (between a (omega (arith, size)) x)
      go (no h) (no x) (yes y) =
          let p : layout.code_bytes ≤ a = omega arith in
          let q : w ≤ a = omega arith in
          simp (le-ltb _ _ p, le-leb _ _ q, lt-ltb _ _ y) (in_window a q y)
      go (no h) (no x) (no y) =
          let p : layout.code_bytes ≤ a = omega arith in
          let q : w ≤ a = omega arith in
          let r : e ≤ a = omega arith in
          simp (le-ltb _ _ p, le-leb _ _ q, le-ltb _ _ r) (past_window a r)

  loaded_long : length loaded ≡ memory_bytes
  loaded_long = length_with_part w zeros copied part_fits ∙ copied_long

  pub load_is : cleared w e copied ≡ loaded_memory file layout memory
  load_is =
      let byte = loaded_byte_of file layout memory in
      ext_get_or 0 loaded (loaded_memory file layout memory)
      (loaded_long ∙ sym (length_tabulate byte 0 memory_bytes))
      (λ a h. byte_is a ∙ sym (tabulate_at byte memory_bytes a (omega (arith, loaded_long))))
