-- A list that is overwritten from the front.
use Rattle.std.proofs.Common.{◌≡◌, ℕ, suc, ◌+◌, ◌<◌, ◌≤◌, List, [], ◌∷◌, ◌++◌, length, get_or, take, set, sym, ap}
use Rattle.std.proofs.Common.{◌∙◌, add-one, arith, length-set, take_all, take-suc, take-suc-set}

-- a list that has the same start as another, and then its next element
one_more : (out image : List ℕ) (p v : ℕ) → take p out ≡ take p image → p < length out → p < length image
    → v ≡ get_or image p 0 → take (suc p) (set out p v) ≡ take (suc p) image
one_more out image p v e ho hi q =
    take-suc-set out p v ho
    ∙ ap (λ (x : List ℕ). x ++ (v ∷ [])) e
    ∙ ap (λ (x : ℕ). take p image ++ (x ∷ [])) q
    ∙ sym (take-suc image p 0 hi)

pub two_more : (out image : List ℕ) (p a b : ℕ) → take p out ≡ take p image → p + 2 ≤ length out → p + 2 ≤ length image
    → a ≡ get_or image p 0 → b ≡ get_or image (p + 1) 0 → take (p + 2) (set (set out p a) (p + 1) b)
    ≡ take (p + 2) image
two_more out image p a b e ho hi qa qb =
    let two : p + 2 ≡ suc (p + 1) = omega arith in
    let first : take (p + 1) (set out p a) ≡ take (p + 1) image =
    rw add-one (one_more out image p a e (omega arith) (omega arith) qa) in
    let room : p + 1 < length (set out p a) = simp length-set (omega arith) in
    rw two (one_more (set out p a) image (p + 1) b first room (omega arith) qb)

-- two lists of n elements that start with the same n
pub same_all : (n : ℕ) (out image : List ℕ) → length out ≤ n → length image ≤ n → take n out ≡ take n image
    → out ≡ image
same_all n out image ho hi e = sym (take_all n out ho) ∙ e ∙ take_all n image hi
