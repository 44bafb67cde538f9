-- Memory with a part of it replaced, and with code copied to its start block by block.
use Rattle.std.proofs.Common.{◌≡◌, ℕ, ◌+◌, ◌-◌, ◌*◌, ◌/◌, ◌%◌, ◌<◌, ◌≤◌, min, List, ◌++◌, length, get_or, take, drop}
use Rattle.std.proofs.Common.{sym, refl, ap, ◌∙◌, arith, length-take, length-drop, length-append}
use Rattle.std.proofs.Common.{set, [], ◌∷◌, append_assoc}
use Rattle.std.proofs.lemmas.Grind.{common_steps}
use Rattle.std.proofs.lemmas.List.{set-append_right, take_more, drop_more}
use lib.ListN.{replicate, length-replicate, get_or-append}
use lib.Seq.{get_or-take, get_or-drop, get_or-append-add}
use borrow.Rule.Slice.PartMut.{put_mid, Post-is}
use mathlib.Core.Logic.{⊎_elim}
use Rattle.units.proofs.Cases.{lt_or_ge}
use Rattle.image.specs.Code.{code_position}
use Rattle.image.specs.Format.{block_bytes, block_code, header_bytes}
use Rattle.loader.specs.Copy.{with_part, code_part, IsCopied, cleared}

-- a part between two addresses that is put back
pub part_put : (start end : ℕ) (memory part : List ℕ) → start ≤ end → end ≤ length memory → length part ≡ end - start
    → put_mid start (end - start) memory part ≡ with_part start part memory
unfolding with_part
part_put start end memory part h inside long =
    let past : start + length part ≡ end = omega arith in
    simp (past, Post-is start end memory h)

-- the part between two addresses, cleared and put back
pub part_cleared : (memory part : List ℕ) (start end : ℕ) → start ≤ end → end ≤ length memory
    → part ≡ replicate (length (take (end - start) (drop start memory))) 0
    → put_mid start (end - start) memory part ≡ cleared start end memory
part_cleared memory part start end h inside e =
    let long : length (take (end - start) (drop start memory)) ≡ end - start =
    simp (length-take, length-drop) (omega arith) in
    rw (e, long) (part_put start end memory (replicate (end - start) 0) h inside (length-replicate (end - start) 0))

-- a part is written from its start: nothing yet, and a byte more
pub part_none : (start : ℕ) (xs memory : List ℕ) → with_part start (take 0 xs) memory ≡ memory
unfolding with_part
part_none start xs memory = grind (arith, common_steps)

pub part_more : (start i : ℕ) (xs memory : List ℕ) → start + i < length memory → i < length xs
    → set (with_part start (take i xs) memory) (start + i) (get_or xs i 0) ≡ with_part start (take (i + 1) xs) memory
unfolding with_part
part_more start i xs memory room more =
    let head : length (take start memory) ≡ start = simp length-take (omega arith) in
    let done : length (take i xs) ≡ i = simp length-take (omega arith) in
    let next : length (take (i + 1) xs) ≡ i + 1 = simp length-take (omega arith) in
    let second : start + i - start ≡ i = omega arith in
    let third : i - i ≡ 0 = omega arith in
    let along : start + i + 1 ≡ start + (i + 1) = omega arith in
    rw (done, next)
    (set-append_right (take start memory) (take i xs ++ drop (start + i) memory) start (start + i) (get_or xs i 0) head
    (omega arith)
    ∙ ap (λ (n : ℕ). take start memory ++ set (take i xs ++ drop (start + i) memory) n (get_or xs i 0)) second
    ∙ ap (λ (t : List ℕ). take start memory ++ t)
    (set-append_right (take i xs) (drop (start + i) memory) i i (get_or xs i 0) done (omega arith)
    ∙ ap (λ (n : ℕ). take i xs ++ set (drop (start + i) memory) n (get_or xs i 0)) third
    ∙ ap (λ (t : List ℕ). take i xs ++ set t 0 (get_or xs i 0)) (drop_more memory (start + i) 0 room)
    ∙ ap (λ (n : ℕ). take i xs ++ (get_or xs i 0 ∷ drop n memory)) along
    ∙ sym (append_assoc (take i xs) (get_or xs i 0 ∷ []) (drop (start + (i + 1)) memory))
    ∙ ap (λ (t : List ℕ). t ++ drop (start + (i + 1)) memory) (sym (take_more xs i 0 more))))

module _ (start : ℕ) (part memory : List ℕ) (fits : start + length part ≤ length memory) where
  head_long : length (take start memory) ≡ start
  head_long = simp length-take (omega arith)

  pub length_with_part : length (with_part start part memory) ≡ length memory
  unfolding with_part
  length_with_part = simp (length-append, length-take, length-drop) (omega arith)

  pub before_part : (a : ℕ) → a < start → get_or (with_part start part memory) a 0 ≡ get_or memory a 0
  unfolding with_part
  before_part a h =
      get_or-append (take start memory) _ 0 a (omega (arith, head_long)) ∙ get_or-take start memory a 0 h

  -- a place past the head, by its distance from there
  past : (k : ℕ) → get_or (with_part start part memory) (start + k) 0
      ≡ get_or (part ++ drop (start + length part) memory) k 0
  unfolding with_part
  past k =
      let tail = part ++ drop (start + length part) memory in
      ap (λ (n : ℕ). get_or (take start memory ++ tail) (n + k) 0) (sym head_long)
      ∙ get_or-append-add (take start memory) tail k 0

  pub in_part : (k : ℕ) → k < length part → get_or (with_part start part memory) (start + k) 0 ≡ get_or part k 0
  in_part k h = past k ∙ get_or-append part _ 0 k h

  pub past_part : (a : ℕ) → start + length part ≤ a → get_or (with_part start part memory) a 0 ≡ get_or memory a 0
  past_part a h =
      let k = a - (start + length part) in
      let here : a ≡ start + (length part + k) = omega arith in
      let there : start + length part + k ≡ a = omega arith in
      ap (λ (n : ℕ). get_or (with_part start part memory) n 0) here
      ∙ past (length part + k)
      ∙ get_or-append-add part (drop (start + length part) memory) k 0
      ∙ get_or-drop (start + length part) memory k 0
      ∙ ap (λ (n : ℕ). get_or memory n 0) there

-- where byte a of the code stands in the file, if it is one of block k
place : (k a d : ℕ) → a ≡ 2 * (block_code * k) + d → d < 2 * block_code
    → code_position (a / 2) + a % 2 ≡ block_bytes * k + header_bytes + d
place k a d e h =
    let number : a / 2 ≡ 249 * k + d / 2 = omega arith in
    let block : (249 * k + d / 2) / 249 ≡ k = omega arith in
    let rest : (249 * k + d / 2) % 249 ≡ d / 2 = omega arith in
    let byte : a % 2 ≡ d % 2 = omega arith in
    rw (number, block, rest, byte) (omega arith)

-- so many instructions of block k lie in a file that has them one by one
pub block_inside : (file : List ℕ) (k n count : ℕ) → ((i : ℕ) → i < count → code_position i + 2 ≤ length file)
    → block_code * k < count → n ≡ min block_code (count - block_code * k)
    → block_bytes * k + header_bytes + 2 * n ≤ length file
block_inside file k n count there left size =
    let last = place k (2 * (249 * k + (n - 1))) (2 * (n - 1)) (omega arith) (omega arith) in
    let number : 2 * (249 * k + (n - 1)) / 2 ≡ 249 * k + (n - 1) = omega arith in
    let same = ap code_position number in
    let inside = there (249 * k + (n - 1)) (omega arith) in
    omega arith

module _ (file before : List ℕ) where
  pub copied_none : (count : ℕ) → IsCopied file (min (block_code * 0) count) before before
  copied_none count =
      record { long = refl; code = λ a h. absurd (omega arith); rest = λ a h. refl }

  -- a block more is copied, or what is left of the code
  module _ (at after : List ℕ) (k n count : ℕ) (left : block_code * k < count)
      (size : n ≡ min block_code (count - block_code * k)) (room : 2 * count ≤ length before)
      (inside : block_bytes * k + header_bytes + 2 * n ≤ length file)
      (so : IsCopied file (min (block_code * k) count) before at)
      (put : after ≡ with_part (2 * (block_code * k)) (code_part file k n) at) where
    part_long : length (code_part file k n) ≡ 2 * n
    part_long = simp (length-take, length-drop) (omega arith)

    fits : 2 * (block_code * k) + length (code_part file k n) ≤ length at
    fits = omega (arith, part_long, so.long)

    byte_more : (a : ℕ) → 2 * (block_code * k) ≤ a → a < 2 * min (block_code * (k + 1)) count
        → get_or after a 0 ≡ get_or file (code_position (a / 2) + a % 2) 0
    byte_more a past h =
        let d = a - 2 * (249 * k) in
        let e : a ≡ 2 * (249 * k) + d = omega arith in
        ap (λ (m : List ℕ). get_or m a 0) put
        ∙ ap (λ (b : ℕ). get_or (with_part (2 * (249 * k)) (code_part file k n) at) b 0) e
        ∙ in_part (2 * (249 * k)) (code_part file k n) at fits d (omega (arith, part_long))
        ∙ get_or-take (2 * n) (drop (512 * k + 12) file) d 0 (omega arith)
        ∙ get_or-drop (512 * k + 12) file d 0
        ∙ ap (λ (p : ℕ). get_or file p 0) (sym (place k a d e (omega arith)))

    pub copied_more : IsCopied file (min (block_code * (k + 1)) count) before after
    copied_more = record {
      long = ap length put ∙ length_with_part (2 * (249 * k)) (code_part file k n) at fits ∙ so.long;
      code = λ a h.
          ⊎_elim
          (λ lt.
          ap (λ (m : List ℕ). get_or m a 0) put
          ∙ before_part (2 * (249 * k)) (code_part file k n) at fits a lt
          ∙ so.code a (omega arith))
          (λ ge. byte_more a ge h)
          (lt_or_ge a (2 * (249 * k)));
      rest = λ a h.
          ap (λ (m : List ℕ). get_or m a 0) put
          ∙ past_part (2 * (249 * k)) (code_part file k n) at fits a (omega (arith, part_long))
          ∙ so.rest a (omega arith);
    }
