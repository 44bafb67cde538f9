-- Two names are the same number only if they are the same text: a name's last character is the number's last byte.
use mathlib.Core.Bool.{Bool, true, false, false≢true, ◌&&◌, ◌||◌}
use mathlib.Core.List.{[], ◌∷◌, ◌++◌}
use mathlib.Core.Path.{◌≡◌, refl, ap, ap₂, sym, ◌∙◌, subst}
use Prim.Native.Nat.{ℕ, zero, suc, ◌+◌, ◌*◌, ◌<◌, ◌≤◌}
use native.Mathlib.Omega.{arith}
use lib.Dec.{leb}
use lib.ListN.{length}
use borrow.Author.Tests.{leb-true}
use Rattle.text.specs.Text.{Text, is_small, is_digit, in_name, every, is_name, name_of, digits_after}
use Rattle.text.proofs.Words.{and_left, and_right}
use Rattle.text.proofs.Decimal.{digits_snoc}
use Rattle.text_laws.specs.Claims.{NamesExact}

-- a name's characters are no zeros, and bytes
name_byte : (c : ℕ) → in_name c ≡ true → (0 < c) × (c < 256)
name_byte c e = go (is_small c) (is_digit c) refl refl e
  where
    between : (low high : ℕ) → (leb low c && leb c high) ≡ true → (low ≤ c) × (c ≤ high)
    between low high q =
        (leb-true low c (and_left (leb low c) (leb c high) q), leb-true c high (and_right (leb low c) (leb c high) q))

    go : (a b : Bool) → is_small c ≡ a → is_digit c ≡ b → (a || b) ≡ true → (0 < c) × (c < 256)
    go true b p q e = let r = between 97 122 p in (omega (arith, r.0), omega (arith, r.1))
    go false true p q e = let r = between 48 57 q in (omega (arith, r.0), omega (arith, r.1))
    go false false p q e = absurd (false≢true e)

-- a text's last character, and what stands before it
pub record Ends (s : Text) : Type 0 where
  pub front : Text
  pub last : ℕ
  pub split : s ≡ front ++ (last ∷ [])
  pub shorter : suc (length front) ≡ length s

ends : (c : ℕ) (s : Text) → Ends (c ∷ s)
ends c [] = record { front = []; last = c; split = refl; shorter = refl }
ends c (d ∷ s) =
    let r = ends d s in
    record {
      front = c ∷ r.front;
      last = r.last;
      split = ap (λ (t : Text). c ∷ t) r.split;
      shorter = ap suc r.shorter;
    }

every_split : (p : ℕ → Bool) (s : Text) (c : ℕ) → every p (s ++ (c ∷ [])) ≡ true → (every p s ≡ true) × (p c ≡ true)
every_split p [] c e = (refl, and_left (p c) true e)
every_split p (d ∷ s) c e =
    let r = every_split p s c (and_right (p d) (every p (s ++ (c ∷ []))) e) in
    (rw (and_left (p d) (every p (s ++ (c ∷ []))) e, r.0) refl, r.1)

-- a name by its end: all of its bytes before the last, and the last
pub record Parts (s : Text) : Type 0 where
  pub end : Ends s
  pub front_in : every in_name end.front ≡ true
  pub some_byte : 0 < end.last
  pub byte : end.last < 256
  pub value : name_of s ≡ 256 * name_of end.front + end.last

parts : (c : ℕ) (s : Text) → every in_name (c ∷ s) ≡ true → Parts (c ∷ s)
unfolding name_of
parts c s e =
    let r = ends c s in
    let all = every_split in_name r.front r.last (subst (λ (t : Text). every in_name t ≡ true) r.split e) in
    let last = name_byte r.last all.1 in
    record {
      end = r;
      front_in = all.0;
      some_byte = last.0;
      byte = last.1;
      value =
          ap (digits_after 256 0 0) r.split ∙ digits_snoc 256 0 0 r.front r.last
          ∙ omega arith;
    }

-- names that are one number
abbrev Same : Text → Text → Type 0
Same s t = every in_name s ≡ true → every in_name t ≡ true → name_of s ≡ name_of t → s ≡ t

by_end : (s t : Text) → ((u v : Text) → length u < length s → Same u v) → Same s t
unfolding name_of digits_after
by_end [] [] f a b e = refl
by_end [] (d ∷ t) f a b e =
    let q = parts d t b in
    absurd (omega (arith, q.value, q.some_byte))
by_end (c ∷ s) [] f a b e =
    let p = parts c s a in
    absurd (omega (arith, p.value, p.some_byte))
by_end (c ∷ s) (d ∷ t) f a b e =
    let p = parts c s a in
    let q = parts d t b in
    let last : p.end.last ≡ q.end.last = omega (arith, p.value, q.value, p.byte, q.byte) in
    let value : name_of p.end.front ≡ name_of q.end.front
    = omega (arith, p.value, q.value, p.byte, q.byte) in
    let short : length p.end.front < length (c ∷ s) = omega (arith, p.end.shorter) in
    let front = f p.end.front q.end.front short p.front_in q.front_in value in
    p.end.split ∙ ap₂ (λ (u : Text) (x : ℕ). u ++ (x ∷ [])) front last ∙ sym q.end.split

same_number : (k : ℕ) (s t : Text) → length s ≤ k → Same s t
same_number zero s t h = by_end s t (λ u v l. absurd (omega arith))
same_number (suc k) s t h = by_end s t (λ u v l. same_number k u v (omega arith))

all_in : (s : Text) → is_name s ≡ true → every in_name s ≡ true
unfolding is_name
all_in [] e = refl
all_in (c ∷ s) e =
    let both = and_left (is_small c && every in_name s) (leb (length s) 7) e in
    rw (and_left (is_small c) (every in_name s) both, and_right (is_small c) (every in_name s) both) refl

pub names_exact : NamesExact
names_exact s t a b e = same_number (length s) s t (omega arith) (all_in s a) (all_in t b) e
