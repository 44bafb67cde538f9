-- A probe of the table, step by step.
use mathlib.Core.Bool.{Bool, true, false, cond}
use mathlib.Core.List.{List}
use mathlib.Core.Path.{◌≡◌, refl, subst}
use Prim.Native.Nat.{ℕ, zero, suc, ◌+◌, ◌*◌, ◌/◌, ◌%◌, ◌<◌}
use native.Mathlib.Nat.{mod-lt}
use native.Mathlib.Omega.{arith}
use lib.Dec.{eqb}
use lib.ListN.{length, length-set}
use borrow.Author.Tests.{eq-eqb, ne_eqb, eqb-false}
use Rattle.labels.specs.Table.{home, next_place, tries, probe_from, probe_of, name_at, entered, table_after}
use Rattle.labels.specs.declared.table.Entry.{Entry}
use Rattle.labels.specs.declared.table.Probed.{Probed}
use Rattle.labels.specs.declared.table.Probed.TheVariants.{Here, Free, Crowded}

pub probe_here : (places n at : ℕ) (table : List Entry) (name : ℕ) → 0 < n → name_at table at ≡ name
    → probe_from places n at table name ≡ Here at
unfolding probe_from
probe_here places zero at table name h e = let z : ⊥ = omega arith in absurd z
probe_here places (suc n) at table name h e = simp (eq-eqb (name_at table at) name e)

pub probe_free : (places n at : ℕ) (table : List Entry) (name : ℕ) → 0 < n → (name_at table at ≡ name → ⊥)
    → name_at table at ≡ 0 → probe_from places n at table name ≡ Free at
unfolding probe_from
probe_free places zero at table name h f e = let z : ⊥ = omega arith in absurd z
probe_free places (suc n) at table name h f e =
    simp (ne_eqb (name_at table at) name f, eq-eqb (name_at table at) 0 e)

pub probe_next : (places n m at : ℕ) (table : List Entry) (name : ℕ) → n ≡ suc m → (name_at table at ≡ name → ⊥)
    → (name_at table at ≡ 0 → ⊥)
    → probe_from places n at table name ≡ probe_from places m (next_place places at) table name
unfolding probe_from
probe_next places n m at table name h f g =
    rw h (simp (ne_eqb (name_at table at) name f, ne_eqb (name_at table at) 0 g))

pub probe_ends : (places n at : ℕ) (table : List Entry) (name : ℕ) → n ≡ 0 → probe_from places n at table name ≡ Crowded
unfolding probe_from
probe_ends places n at table name h = rw h

-- a probe stays in the table
pub next_inside : (places at : ℕ) → at < places → next_place places at < places
next_inside places at h = go (eqb (at + 1) places) refl
  where
    go : (b : Bool) → eqb (at + 1) places ≡ b → cond b 0 (at + 1) < places
    go true e = omega arith
    go false e = let n : at + 1 ≡ places → ⊥ = eqb-false (at + 1) places e in omega (arith, n)

abbrev Inside : ℕ → Probed → Type 0
Inside places (Here at) = at < places
Inside places (Free at) = at < places
Inside places Crowded = Unit {0}

inside_from : (places n at : ℕ) (table : List Entry) (name : ℕ) → at < places
    → Inside places (probe_from places n at table name)
unfolding probe_from
inside_from places zero at table name h = tt
inside_from places (suc n) at table name h =
    go (eqb (name_at table at) name) (eqb (name_at table at) 0)
    (inside_from places n (next_place places at) table name (next_inside places at h))
  where
    go : (a b : Bool) → Inside places (probe_from places n (next_place places at) table name)
        → Inside places (cond a (Here at) (cond b (Free at) (probe_from places n (next_place places at) table name)))
    go true b i = h
    go false true i = h
    go false false i = i

pub home_inside : (places name : ℕ) → 0 < places → home places name < places
unfolding home
home_inside places name h = mod-lt (name % 4294967291 * 2654435769 / 8589934592) h

pub inside : (table : List Entry) (name : ℕ) (p : Probed) → 0 < length table → p ≡ probe_of table name
    → Inside (length table) p
unfolding probe_of
inside table name p h e =
    rw e (inside_from (length table) tries (home (length table) name) table name (home_inside (length table) name h))

-- a free place, and a name's, are places of the table
pub inside_free : (table : List Entry) (name at : ℕ) (p : Probed) → 0 < length table → p ≡ probe_of table name
    → p ≡ Free at → at < length table
inside_free table name at p h e f = subst (Inside (length table)) f (inside table name p h e)

pub inside_here : (table : List Entry) (name at : ℕ) (p : Probed) → 0 < length table → p ≡ probe_of table name
    → p ≡ Here at → at < length table
inside_here table name at p h e f = subst (Inside (length table)) f (inside table name p h e)

-- the table keeps its length
pub after_length : (table : List Entry) (name number : ℕ) → length (table_after table name number) ≡ length table
after_length table name number = go (probe_of table name)
  where
    go : (p : Probed) → length (entered p table name number) ≡ length table
    go (Here at) = refl
    go (Free at) = length-set table at (record { name = name; number = number })
    go Crowded = refl
