-- Texts written one behind the other, and how long decimals are.
use Rattle.std.proofs.Common.{Bool, true, false, cond, [], ◌∷◌, ◌++◌, append_assoc, ◌≡◌, refl, sym, ap, ◌∙◌}
use Rattle.std.proofs.Common.{ℕ, suc, ◌+◌, ◌-◌, ◌/◌, ◌%◌, ◌<◌, ◌≤◌, arith, length, take, drop, drop-drop}
use Rattle.std.proofs.Common.{replicate, length-append, length-set}
use Rattle.std.proofs.Math.Seq.{length-sets, take-append_seam}
use Rattle.std.proofs.lemmas.List.{length-take-le, drop_at, drop-replicate}
use Rattle.std.proofs.lemmas.List.Edits.{sets-eq}
use borrow.Author.Tests.{lt-ltb}
use borrow.Rule.Slice.Mut.{set_vals}
use borrow.Rule.Slice.PartMut.{put_mid}
use lib.Dec.{ltb}
use lib.ListN.{set}
use Rattle.text.specs.Text.{Text, digit, decimal, written}
use Rattle.text.specs.Writes.{Fits, Grew, ZerosFrom}
use Rattle.text.specs.declared.writer.Writer.{Writer}

pub written_more : (at : ℕ) (s t room : Text) → written (at + length s) t (written at s room) ≡ written at (s ++ t) room
unfolding written
written_more at [] t room = ap (λ (n : ℕ). written n t room) (omega arith)
written_more at (c ∷ s) t room =
    ap (λ (n : ℕ). written n t (written (suc at) s (set room at c))) (omega arith)
    ∙ written_more (suc at) s t (set room at c)

pub written_length : (at : ℕ) (t room : Text) → length (written at t room) ≡ length room
unfolding written
written_length at t room = length-sets room at t

-- one byte
pub grew_byte : (w : Writer) (c : ℕ)
    → Grew (c ∷ []) w (record { room = set_vals (set w.room.now w.at c) w.room; at = w.at + 1 })
unfolding written
grew_byte w c = record { same = refl; place = refl; room = refl; kept = length-set w.room.now w.at c }

-- a word at once
word_written : (at k : ℕ) (t room : Text) → at + length t ≤ length room → k ≡ length t
    → put_mid at k room t ≡ written at t room
unfolding written
word_written at k t room fits long =
    let behind : drop k (drop at room) ≡ drop (at + length t) room =
    drop-drop k at room ∙ ap (λ (n : ℕ). drop n room) (omega arith) in
    sym (append_assoc (take at room) t (drop k (drop at room))) ∙ ap (λ (rest : Text). take at room ++ t ++ rest) behind
    ∙ sym (sets-eq t room at fits)

pub grew_word : (w : Writer) (t part : Text) → Fits t w → part ≡ t
    → Grew t w
    (record { room = set_vals (put_mid w.at (w.at + length t - w.at) w.room.now part) w.room; at = w.at + length t })
grew_word w t part fits is =
    let now = ap (put_mid w.at (w.at + length t - w.at) w.room.now) is
    ∙ word_written w.at (w.at + length t - w.at) t w.room.now fits (omega arith) in
    record { same = refl; place = refl; room = now; kept = ap length now ∙ written_length w.at t w.room.now }

-- nothing
pub grew_none : (t : Text) (w : Writer) → t ≡ [] → Grew t w w
unfolding written
grew_none t w e = rw e (record { same = refl; place = omega arith; room = refl; kept = refl })

-- a text by another name
pub grew_as : {s t : Text} {v w : Writer} → t ≡ s → Grew s v w → Grew t v w
grew_as e g = rw e g

-- one text behind another
infixl 5 ◌then◌
pub ◌then◌ : {s t : Text} {u v w : Writer} → Grew s u v → Grew t v w → Grew (s ++ t) u w
◌then◌ {s} {t} {u} {v} {w} p q = record {
  same = q.same ∙ p.same;
  place = omega (arith, p.place, q.place, length-append s t);
  room =
      q.room ∙ ap (λ (k : ℕ). written k t v.room.now) p.place ∙ ap (written (u.at + length s) t) p.room
      ∙ written_more u.at s t u.room.now;
  kept = q.kept ∙ p.kept;
}

-- what stands at the front of the room, up to the place
written_front : (at : ℕ) (t room : Text) → at + length t ≤ length room
    → take (at + length t) (written at t room) ≡ take at room ++ t
unfolding written
written_front at t room fits =
    let front = take at room ++ t in
    let rest = drop (at + length t) room in
    let long : at + length t ≡ length front =
    omega (arith, length-append (take at room) t, length-take-le at room (omega arith)) in
    ap (take (at + length t)) (sets-eq t room at fits) ∙ ap (λ (n : ℕ). take n (front ++ rest)) long
    ∙ take-append_seam front rest

pub grew_front : {t : Text} {v w : Writer} → Fits t v → Grew t v w
    → take w.at w.room.now ≡ take v.at v.room.now ++ t
grew_front {t} {v} fits g = rw (g.place, g.room) (written_front v.at t v.room.now fits)

-- what stands behind it is what stood there
behind_written : (at : ℕ) (t room : Text) → at + length t ≤ length room
    → drop (at + length t) (written at t room) ≡ drop (at + length t) room
unfolding written
behind_written at t room fits =
    let front = take at room ++ t in
    let long : length front ≡ at + length t =
    omega (arith, length-append (take at room) t, length-take-le at room (omega arith)) in
    ap (drop (at + length t)) (sets-eq t room at fits) ∙ drop_at front (drop (at + length t) room) (at + length t) long

zeros_written : (at : ℕ) (t room : Text) → at + length t ≤ length room → ZerosFrom at room
    → ZerosFrom (at + length t) (written at t room)
zeros_written at t room fits zeros =
    let further : drop (length t) (drop at room) ≡ drop (at + length t) room =
    drop-drop (length t) at room ∙ ap (λ (n : ℕ). drop n room) (omega arith) in
    behind_written at t room fits ∙ sym further ∙ ap (drop (length t)) zeros
    ∙ drop-replicate (length t) (length room - at) 0
    ∙ ap (λ (n : ℕ). replicate n 0) (omega (arith, written_length at t room))

pub zeros_behind : {t : Text} {v w : Writer} → Fits t v → Grew t v w → ZerosFrom v.at v.room.now
    → ZerosFrom w.at w.room.now
zeros_behind {t} {v} fits g zeros = rw (g.place, g.room) (zeros_written v.at t v.room.now fits zeros)

pub zeros_behind_byte : (at c : ℕ) (room : Text) → at < length room → ZerosFrom at room
    → ZerosFrom (at + 1) (set room at c)
unfolding written
zeros_behind_byte at c room inside zeros = zeros_written at (c ∷ []) room (omega arith) zeros

-- a digit that isn't there, and one that is
pub digit_none : (n unit : ℕ) → n < unit → digit n unit ≡ []
digit_none n unit h = simp (lt-ltb n unit h)

pub digit_short : (n unit : ℕ) → n < unit → length (digit n unit) ≡ 0
digit_short n unit h = ap length (digit_none n unit h)

-- the length of a decimal, digit by digit
pub decimal_sum : (n : ℕ)
    → length (decimal n)
    ≡ length (digit n 10000) + length (digit n 1000) + length (digit n 100) + length (digit n 10) + 1
decimal_sum n = rw (length-append, length-append, length-append, length-append)

-- what writing a digit leaves, where there is none and where there is one
pub no_digit : (n unit : ℕ) (w : Writer) → n < unit → Grew (digit n unit) w w
no_digit n unit w h = grew_none (digit n unit) w (digit_none n unit h)

digit_at_most : (n unit : ℕ) → length (digit n unit) ≤ 1
digit_at_most n unit = go (ltb n unit)
  where
    go : (b : Bool) → length (cond b [] ((48 + n / unit % 10) ∷ [])) ≤ 1
    go true = omega arith
    go false = omega arith

module _ (n : ℕ) where
  pub decimal_at_most : length (decimal n) ≤ 5
  decimal_at_most =
      omega (
        arith,
        decimal_sum n,
        digit_at_most n 10000,
        digit_at_most n 1000,
        digit_at_most n 100,
        digit_at_most n 10,
      )

  -- a number below 10 is its one digit
  pub one_digit : n < 10 → decimal n ≡ (48 + n) ∷ []
  one_digit h =
      let ones : n % 10 ≡ n = omega arith in
      simp (
        digit_none n 10000 (omega arith),
        digit_none n 1000 (omega arith),
        digit_none n 100 (omega arith),
        digit_none n 10 h,
        ones,
      )

  pub two_at_most : n < 100 → length (decimal n) ≤ 2
  two_at_most h =
      omega (
        arith,
        decimal_sum n,
        digit_short n 10000 (omega arith),
        digit_short n 1000 (omega arith),
        digit_short n 100 h,
        digit_at_most n 10,
      )

  pub three_at_most : n < 1000 → length (decimal n) ≤ 3
  three_at_most h =
      omega (
        arith,
        decimal_sum n,
        digit_short n 10000 (omega arith),
        digit_short n 1000 h,
        digit_at_most n 100,
        digit_at_most n 10,
      )
