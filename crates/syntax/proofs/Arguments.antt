-- What the operands of an instruction say, step by step.
use mathlib.Core.Bool.{Bool, true, false, cond, ◌&&◌}
use mathlib.Core.List.{[], ◌∷◌}
use mathlib.Core.Logic.{⊎_elim}
use mathlib.Core.Option.{Option, none, some}
use mathlib.Core.Path.{◌≡◌, refl, ap, ap₂, sym, ◌∙◌}
use Prim.Native.Nat.{ℕ, ◌+◌, ◌<◌, ◌≤◌}
use native.Mathlib.Omega.{arith}
use lib.Dec.{eqb, ltb}
use lib.ListN.{length, get_or, drop}
use borrow.Author.Tests.{lt-ltb, le-ltb, ltb-false, eqb-true, eqb-false, ne_eqb}
use Rattle.units.proofs.Cases.{lt_or_ge}
use Rattle.text.specs.Text.{Text, quoted, word, after_word, feed}
use Rattle.syntax.specs.Syntax.{Pattern, starts_with, slot_value, register_value, number_value, below, given}
use Rattle.syntax.specs.Parser.{values_as, Fit, misfit, fits, fit_before, fit_at, ended, fit_or, line_fit, line_end}
use Rattle.syntax.specs.Parser.{behind, low_only, pair_row, any_pair, operands_as}
use Rattle.syntax.specs.Spots.{Missing, Spotted, Register, NoRegister}
use Rattle.syntax.specs.Parser.{Parsed, line_of}
use Rattle.std.specs.Prelude.{None}
use Rattle.syntax.proofs.Registers.{register_other}
use Rattle.syntax.proofs.Steps.{byte_goes, byte_stops, two_goes, two_stops, end_two, end_three}

-- a low register's rest counts, a high one's doesn't
low_goes : (a : ℕ) (f : Fit) → a < 8 → low_only a f ≡ behind a f
low_goes a f h = simp (lt-ltb a 8 h)

low_stops : (a : ℕ) (f : Fit) → 8 ≤ a → low_only a f ≡ misfit
low_stops a f h = simp (le-ltb a 8 h)

-- what doesn't fit makes no line
pub no_line : (row : ℕ) {f : Fit} → f ≡ misfit → None ≡ line_fit row f
no_line row e = ap (line_fit row) (sym e)

behind_misfit : (a : ℕ) {f : Fit} → f ≡ misfit → behind a f ≡ misfit
behind_misfit a e = ap (behind a) e

low_misfit : (a : ℕ) {f : Fit} → f ≡ misfit → low_only a f ≡ misfit
low_misfit a e = ap (low_only a) e ∙ go (ltb a 8)
  where
    go : (b : Bool) → cond b (behind a misfit) misfit ≡ misfit
    go true = refl
    go false = refl

-- a number up to the end of the line
module _ (t : Text) (at value stop row a : ℕ) (s : Spotted 110 t at value stop) where
  pub number_ends : (r : Parsed) → r ≡ line_end row a value 0 (fit_at (feed ∷ []) stop (drop stop t))
      → r ≡ line_fit row (behind a (fit_at (ended (quoted "n")) at (drop at t)))
  number_ends r e =
      e ∙ end_two row (drop stop t) stop a value
      ∙ ap (λ (f : Fit). line_fit row (behind a f)) (sym (s.reads feed [] refl))

-- a low register up to the end of the line
pub pair_first : (t : Text) (at row a : ℕ) → 8 ≤ a
    → None ≡ line_fit row (low_only a (fit_at (ended (quoted "r")) at (drop at t)))
pair_first t at row a h = no_line row (low_stops a (fit_at (ended (quoted "r")) at (drop at t)) h)

module _ (t : Text) (at value stop : ℕ) (s : Register t at value stop) where
  module _ (row a : ℕ) where
    pub pair_high : 8 ≤ value → None ≡ line_fit row (low_only a (fit_at (ended (quoted "r")) at (drop at t)))
    pair_high h = no_line row (low_misfit a (s.high h (feed ∷ [])))

    pub pair_ends : a < 8 → value < 8 → (r : Parsed)
        → r ≡ line_end row a value 0 (fit_at (feed ∷ []) stop (drop stop t))
        → r ≡ line_fit row (low_only a (fit_at (ended (quoted "r")) at (drop at t)))
    pair_ends l m r e =
        e ∙ end_two row (drop stop t) stop a value
        ∙ ap (line_fit row) (ap (behind a) (sym ((s.low m).reads feed [] refl))
        ∙ sym (low_goes a (fit_at (ended (quoted "r")) at (drop at t)) l))

    -- any register
    end_any : (i : ℕ) (u : Text)
        → line_end (pair_row row (ltb a 8 && ltb value 8)) a value 0 (fit_at (feed ∷ []) i u)
        ≡ any_pair row a (behind value (fit_at (feed ∷ []) i u))
    unfolding fit_at
    end_any i u = go (starts_with feed u)
      where
        go : (b : Bool)
            → line_end (pair_row row (ltb a 8 && ltb value 8)) a value 0 (cond b (fits [] (i + 1)) misfit)
            ≡ any_pair row a (behind value (cond b (fits [] (i + 1)) misfit))
        go true = refl
        go false = refl

    pub any_ends : (low : Bool) → low ≡ (ltb a 8 && ltb value 8) → (k : ℕ) → k ≡ pair_row row low
        → (r : Parsed) → r ≡ line_end k a value 0 (fit_at (feed ∷ []) stop (drop stop t))
        → r ≡ any_pair row a (fit_at (ended (quoted "h")) at (drop at t))
    any_ends low q k p r e =
        e ∙ ap (λ (j : ℕ). line_end j a value 0 (fit_at (feed ∷ []) stop (drop stop t))) (p ∙ ap (pair_row row) q)
        ∙ end_any stop (drop stop t) ∙ ap (any_pair row a) (sym (s.any.reads feed [] refl))

-- behind another character than R there is no register
no_register : (t : Text) (at c : ℕ) (p : Pattern) → get_or t at 0 ≡ c → (c ≡ 82 → ⊥)
    → fit_at (104 ∷ p) at (drop at t) ≡ misfit
no_register t at c p e n = (register_other t at (λ q. n (sym e ∙ q))).any p

-- MOV and CMP
module _ (t : Text) (at row a : ℕ) where
  abbrev number_or_pair : Parsed
  number_or_pair =
      fit_or row (low_only a (fit_at (ended (quoted "#n")) at (drop at t)))
      (any_pair row a (fit_at (ended (quoted "h")) at (drop at t)))

  pub no_number : (get_or t at 0 ≡ 35 → ⊥) → (r : Parsed) → r
      ≡ any_pair row a (fit_at (ended (quoted "h")) at (drop at t))
      → r ≡ number_or_pair
  no_number n r e =
      e ∙ ap (λ (f : Fit). fit_or row f (any_pair row a (fit_at (ended (quoted "h")) at (drop at t))))
      (sym (low_misfit a (byte_stops 35 (ended (quoted "n")) t at refl n)))

  only_number : get_or t at 0 ≡ 35
      → number_or_pair ≡ line_fit row (low_only a (fit_at (ended (quoted "n")) (at + 1) (drop (at + 1) t)))
  only_number e =
      ap₂ (λ (f : Fit) (q : Parsed). fit_or row (low_only a f) q)
      (byte_goes 35 (ended (quoted "n")) t at refl (omega arith) e)
      (ap (any_pair row a) (no_register t at 35 (feed ∷ []) e (λ q. omega arith)))

  pub number_high : get_or t at 0 ≡ 35 → 8 ≤ a → None ≡ number_or_pair
  number_high e l =
      no_line row (low_stops a (fit_at (ended (quoted "n")) (at + 1) (drop (at + 1) t)) l)
      ∙ sym (only_number e)

  pub number_low : get_or t at 0 ≡ 35 → a < 8 → (r : Parsed)
      → r ≡ line_fit row (behind a (fit_at (ended (quoted "n")) (at + 1) (drop (at + 1) t))) → r ≡ number_or_pair
  number_low e l r q =
      q ∙ ap (line_fit row) (sym (low_goes a (fit_at (ended (quoted "n")) (at + 1) (drop (at + 1) t)) l))
      ∙ sym (only_number e)

-- ADD
any_nine : (a : ℕ) (f : Fit) → any_pair 9 a f ≡ fit_or 9 (behind a f) None
unfolding pair_row
any_nine a misfit = refl
any_nine a (fits vs n) = refl

module _ (t : Text) (at a : ℕ) where
  abbrev pair_or_pc : Parsed
  pair_or_pc =
      fit_or 9 (behind a (fit_at (ended (quoted "h")) at (drop at t)))
      (line_fit 16 (low_only a (fit_at (ended (quoted "PC, #n")) at (drop at t))))

  pub no_pc : (get_or t at 0 ≡ 80 → ⊥) → (r : Parsed) → r ≡ any_pair 9 a (fit_at (ended (quoted "h")) at (drop at t))
      → r ≡ pair_or_pc
  no_pc n r e =
      e ∙ any_nine a (fit_at (ended (quoted "h")) at (drop at t))
      ∙ ap (λ (f : Fit). fit_or 9 (behind a (fit_at (ended (quoted "h")) at (drop at t))) (line_fit 16 f))
      (sym (low_misfit a (byte_stops 80 (ended (quoted "C, #n")) t at refl n)))

  module _ (e : get_or t at 0 ≡ 80) where
    only_pc : (f : Fit) → fit_at (ended (quoted "C, #n")) (at + 1) (drop (at + 1) t) ≡ f
        → pair_or_pc ≡ line_fit 16 (low_only a f)
    only_pc f q =
        ap₂ (λ (f g : Fit). fit_or 9 (behind a f) (line_fit 16 (low_only a g)))
        (no_register t at 80 (feed ∷ []) e (λ z. omega arith))
        (byte_goes 80 (ended (quoted "C, #n")) t at refl (omega arith) e ∙ q)

    pub pc_high : 8 ≤ a → None ≡ pair_or_pc
    pc_high l =
        no_line 16 (low_stops a (fit_at (ended (quoted "C, #n")) (at + 1) (drop (at + 1) t)) l) ∙ sym (only_pc _ refl)

    pub pc_other : (eqb (get_or t (at + 1) 0) 67 && eqb (get_or t (at + 1 + 1) 0) 44) ≡ false → None ≡ pair_or_pc
    pc_other q =
        no_line 16 (low_misfit a refl)
        ∙ sym (only_pc misfit (two_stops 67 44 (ended (quoted " #n")) t (at + 1) refl refl (omega arith) q))

    module _ (q : (eqb (get_or t (at + 1) 0) 67 && eqb (get_or t (at + 1 + 1) 0) 44) ≡ true) where
      behind_pc : fit_at (ended (quoted "C, #n")) (at + 1) (drop (at + 1) t)
          ≡ fit_at (ended (quoted " #n")) (at + 3) (drop (at + 3) t)
      behind_pc =
          let n : at + 1 + 2 ≡ at + 3 = omega arith in
          two_goes 67 44 (ended (quoted " #n")) t (at + 1) refl refl (omega arith) (omega arith) q
          ∙ ap (λ (k : ℕ). fit_at (ended (quoted " #n")) k (drop k t)) n

      pub pc_alone : (eqb (get_or t (at + 3) 0) 32 && eqb (get_or t (at + 3 + 1) 0) 35) ≡ false → None ≡ pair_or_pc
      pc_alone z =
          no_line 16 (low_misfit a refl)
          ∙ sym (only_pc misfit (behind_pc ∙ two_stops 32 35 (ended (quoted "n")) t (at + 3) refl refl (omega arith) z))

      pub pc_number : (eqb (get_or t (at + 3) 0) 32 && eqb (get_or t (at + 3 + 1) 0) 35) ≡ true → a < 8 → (r : Parsed)
          → r ≡ line_fit 16 (behind a (fit_at (ended (quoted "n")) (at + 5) (drop (at + 5) t))) → r ≡ pair_or_pc
      pc_number z l r g =
          let n : at + 3 + 2 ≡ at + 5 = omega arith in
          let f = fit_at (ended (quoted "n")) (at + 5) (drop (at + 5) t) in
          g ∙ ap (line_fit 16) (sym (low_goes a f l))
          ∙ sym (only_pc f (behind_pc
          ∙ two_goes 32 35 (ended (quoted "n")) t (at + 3) refl refl (omega arith) (omega arith) z
          ∙ ap (λ (k : ℕ). fit_at (ended (quoted "n")) k (drop k t)) n))

-- a number in memory's brackets, behind two registers
module _ (t : Text) (at row a b : ℕ) where
  abbrev offset_line : Parsed
  offset_line = line_fit row (behind a (behind b (fit_at (ended (quoted ", #n]")) at (drop at t))))

  offset_as : (f : Fit) → fit_at (ended (quoted ", #n]")) at (drop at t) ≡ f
      → line_fit row (behind a (behind b f)) ≡ offset_line
  offset_as f e = ap (λ (g : Fit). line_fit row (behind a (behind b g))) (sym e)

  pub no_comma : (eqb (get_or t at 0) 44 && eqb (get_or t (at + 1) 0) 32) ≡ false → None ≡ offset_line
  no_comma e = offset_as misfit (two_stops 44 32 (ended (quoted "#n]")) t at refl refl (omega arith) e)

  module _ (e : (eqb (get_or t at 0) 44 && eqb (get_or t (at + 1) 0) 32) ≡ true) where
    behind_comma : fit_at (ended (quoted ", #n]")) at (drop at t)
        ≡ fit_at (ended (quoted "#n]")) (at + 2) (drop (at + 2) t)
    behind_comma = two_goes 44 32 (ended (quoted "#n]")) t at refl refl (omega arith) (omega arith) e

    pub no_hash : (get_or t (at + 2) 0 ≡ 35 → ⊥) → None ≡ offset_line
    no_hash n = offset_as misfit (behind_comma ∙ byte_stops 35 (ended (quoted "n]")) t (at + 2) refl n)

    module _ (g : get_or t (at + 2) 0 ≡ 35) where
      behind_hash : fit_at (ended (quoted ", #n]")) at (drop at t)
          ≡ fit_at (ended (quoted "n]")) (at + 3) (drop (at + 3) t)
      behind_hash =
          let n : at + 2 + 1 ≡ at + 3 = omega arith in
          behind_comma ∙ byte_goes 35 (ended (quoted "n]")) t (at + 2) refl (omega arith) g
          ∙ ap (λ (k : ℕ). fit_at (ended (quoted "n]")) k (drop k t)) n

      pub no_offset : Missing 110 t (at + 3) → None ≡ offset_line
      no_offset m = offset_as misfit (behind_hash ∙ m (ended (quoted "]")))

      module _ (v stop : ℕ) (s : Spotted 110 t (at + 3) v stop) where
        pub no_bracket : (get_or t stop 0 ≡ 93 → ⊥) → None ≡ offset_line
        no_bracket q =
            offset_as misfit (behind_hash ∙ s.reads 93 (feed ∷ []) refl
            ∙ ap (behind v) (byte_stops 93 (feed ∷ []) t stop refl q))

        pub offset_ends : get_or t stop 0 ≡ 93 → (r : Parsed)
            → r ≡ line_end row a b v (fit_at (feed ∷ []) (stop + 1) (drop (stop + 1) t)) → r ≡ offset_line
        offset_ends q r z =
            z ∙ end_three row (drop (stop + 1) t) (stop + 1) a b v
            ∙ offset_as _ (behind_hash ∙ s.reads 93 (feed ∷ []) refl
            ∙ ap (behind v) (byte_goes 93 (feed ∷ []) t stop refl (omega arith) q))

-- a place in memory behind a low register
module _ (t : Text) (at row a : ℕ) where
  abbrev memory_line : Parsed
  memory_line = line_fit row (low_only a (fit_at (ended (quoted "[r, #n]")) at (drop at t)))

  pub memory_high : 8 ≤ a → None ≡ memory_line
  memory_high l = no_line row (low_stops a (fit_at (ended (quoted "[r, #n]")) at (drop at t)) l)

  pub memory_other : (get_or t at 0 ≡ 91 → ⊥) → None ≡ memory_line
  memory_other n = no_line row (low_misfit a (byte_stops 91 (ended (quoted "r, #n]")) t at refl n))

  module _ (e : get_or t at 0 ≡ 91) where
    opened : fit_at (ended (quoted "[r, #n]")) at (drop at t)
        ≡ fit_at (ended (quoted "r, #n]")) (at + 1) (drop (at + 1) t)
    opened = byte_goes 91 (ended (quoted "r, #n]")) t at refl (omega arith) e

    pub base_missing : NoRegister t (at + 1) → None ≡ memory_line
    base_missing m = no_line row (low_misfit a (opened ∙ m.low (ended (quoted ", #n]"))))

    module _ (v stop : ℕ) (s : Register t (at + 1) v stop) where
      pub base_high : 8 ≤ v → None ≡ memory_line
      base_high l = no_line row (low_misfit a (opened ∙ s.high l (ended (quoted ", #n]"))))

      pub base_low : a < 8 → v < 8 → (r : Parsed)
          → r ≡ line_fit row (behind a (behind v (fit_at (ended (quoted ", #n]")) stop (drop stop t))))
          → r ≡ memory_line
      base_low l m r q =
          q ∙ ap (line_fit row) (ap (behind a) (sym (opened ∙ (s.low m).reads 44 (ended (quoted " #n]")) refl))
          ∙ sym (low_goes a (fit_at (ended (quoted "[r, #n]")) at (drop at t)) l))

-- a low register is any register, if it is low
low_value : (w : Text) → register_value 8 w ≡ below 8 (register_value 16 w)
unfolding register_value
low_value [] = refl
low_value (c ∷ w) = go (eqb c 82) (number_value w)
  where
    both : (v : ℕ) (b : Bool) → ltb v 16 ≡ b → given (ltb v 8) v ≡ below 8 (given b v)
    both v true e = refl
    both v false e = simp (le-ltb v 8 (omega (arith, ltb-false v 16 e)))

    go : (b : Bool) (o : Option ℕ) → cond b (below 8 o) none ≡ below 8 (cond b (below 16 o) none)
    go false o = refl
    go true none = refl
    go true (some v) = both v (ltb v 16) refl

abbrev low_first : Fit → Fit
low_first misfit = misfit
low_first (fits [] n) = fits [] n
low_first (fits (b ∷ vs) n) = cond (ltb b 8) (fits (b ∷ vs) n) misfit

low_of_any : (p : Pattern) (i : ℕ) (t : Text) → fit_at (114 ∷ p) i t ≡ low_first (fit_at (104 ∷ p) i t)
unfolding fit_at slot_value
low_of_any p i t =
    ap (λ (o : Option ℕ). fit_before o (fit_at p (i + length (word t)) (after_word t))) (low_value (word t))
    ∙ go (register_value 16 (word t)) (fit_at p (i + length (word t)) (after_word t))
  where
    chosen : (v : ℕ) (f : Fit) (b : Bool) → fit_before (given b v) f ≡ cond b (fit_before (some v) f) misfit
    chosen v f true = refl
    chosen v f false = refl

    go : (o : Option ℕ) (f : Fit) → fit_before (below 8 o) f ≡ low_first (fit_before o f)
    go none f = refl
    go (some v) misfit = chosen v misfit (ltb v 8) ∙ both (ltb v 8)
      where
        both : (b : Bool) → cond b misfit misfit ≡ misfit
        both true = refl
        both false = refl
    go (some v) (fits vs n) = chosen v (fits vs n) (ltb v 8)

-- two registers of MOV and of CMP
any_one : (a : ℕ) (f : Fit) → any_pair 1 a f ≡ line_fit 11 (behind a f)
unfolding pair_row
any_one a misfit = refl
any_one a (fits vs n) = refl

any_two : (a : ℕ) (f : Fit) → any_pair 2 a f ≡ fit_or 8 (low_only a (low_first f)) (line_fit 10 (behind a f))
unfolding pair_row
any_two a misfit = go (ltb a 8)
  where
    go : (b : Bool) → None ≡ fit_or 8 (cond b misfit misfit) None
    go true = refl
    go false = refl
any_two a (fits [] n) = go (ltb a 8)
  where
    go : (b : Bool)
        → line_of (record { row = cond (b && true) 8 10; values = values_as (a ∷ []) }) n
        ≡ fit_or 8 (cond b (fits (a ∷ []) n) misfit) (line_of (record { row = 10; values = values_as (a ∷ []) }) n)
    go true = refl
    go false = refl
any_two a (fits (c ∷ vs) n) = go (ltb a 8) (ltb c 8)
  where
    go : (b d : Bool)
        → line_of (record { row = cond (b && d) 8 10; values = values_as (a ∷ c ∷ vs) }) n
        ≡ fit_or 8 (cond b (behind a (cond d (fits (c ∷ vs) n) misfit)) misfit)
        (line_of (record { row = 10; values = values_as (a ∷ c ∷ vs) }) n)
    go true true = refl
    go true false = refl
    go false d = refl

-- the operands by what fits: a number, two low registers, any two, the PC and a place in memory
abbrev operands_of : ℕ → Fit → Fit → Fit → Fit → Fit → Parsed
operands_of row n r h c m =
    cond (ltb row 3) (fit_or row n (cond (eqb row 1) (line_fit 11 h) (fit_or 8 r (line_fit 10 h))))
    (cond (ltb row 8) (line_fit row r) (cond (eqb row 9) (fit_or 9 h (line_fit 16 c)) (line_fit row m)))

module _ (row i : ℕ) (t : Text) (low any : Pattern → Fit)
    (e : (p : Pattern) → fit_at (114 ∷ 44 ∷ 32 ∷ p) i t ≡ low p)
    (f : (p : Pattern) → fit_at (104 ∷ 44 ∷ 32 ∷ p) i t ≡ any p) where
  by_second : operands_as row i t
      ≡ operands_of row (low (ended (quoted "#n"))) (low (ended (quoted "r"))) (any (ended (quoted "h")))
      (low (ended (quoted "PC, #n"))) (low (ended (quoted "[r, #n]")))
  unfolding operands_as
  by_second =
      let r = fit_at (ended (quoted "r, r")) i t in
      let h = fit_at (ended (quoted "h, h")) i t in
      let c = fit_at (ended (quoted "r, PC, #n")) i t in
      let m = fit_at (ended (quoted "r, [r, #n]")) i t in
      let n' = low (ended (quoted "#n")) in
      let r' = low (ended (quoted "r")) in
      let h' = any (ended (quoted "h")) in
      let c' = low (ended (quoted "PC, #n")) in
      ap (λ (x : Fit). operands_of row x r h c m) (e (ended (quoted "#n")))
      ∙ ap (λ (x : Fit). operands_of row n' x h c m) (e (ended (quoted "r")))
      ∙ ap (λ (x : Fit). operands_of row n' r' x c m) (f (ended (quoted "h")))
      ∙ ap (λ (x : Fit). operands_of row n' r' h' x m) (e (ended (quoted "PC, #n")))
      ∙ ap (λ (x : Fit). operands_of row n' r' h' c' x) (e (ended (quoted "[r, #n]")))

-- none of them
operands_none : (row i : ℕ) (t : Text) → ((p : Pattern) → fit_at (114 ∷ 44 ∷ 32 ∷ p) i t ≡ misfit)
    → ((p : Pattern) → fit_at (104 ∷ 44 ∷ 32 ∷ p) i t ≡ misfit) → None ≡ operands_as row i t
operands_none row i t e f =
    sym (by_second row i t (λ p. misfit) (λ p. misfit) e f ∙ go (ltb row 3) (eqb row 1) (ltb row 8) (eqb row 9))
  where
    no : Parsed
    no = None

    go : (a b c d : Bool) → cond a (cond b no no) (cond c no (cond d no no)) ≡ no
    go true true c d = refl
    go true false c d = refl
    go false b true d = refl
    go false b false true = refl
    go false b false false = refl

pub first_missing : (t : Text) (at row : ℕ) → NoRegister t at → None ≡ operands_as row at (drop at t)
first_missing t at row m = operands_none row at (drop at t) (λ p. m.low (44 ∷ 32 ∷ p)) (λ p. m.any (44 ∷ 32 ∷ p))

module _ (t : Text) (at v stop row : ℕ) (s : Register t at v stop) where
  first_low : (p : Pattern) (f : Fit) → fit_at (44 ∷ p) stop (drop stop t) ≡ f
      → fit_at (114 ∷ 44 ∷ p) at (drop at t) ≡ low_only v f
  first_low p f e =
      ⊎_elim (λ l. (s.low l).reads 44 p refl ∙ ap (behind v) e ∙ sym (low_goes v f l))
      (λ h. s.high h (44 ∷ p) ∙ sym (low_stops v f h)) (lt_or_ge v 8)

  first_any : (p : Pattern) (f : Fit) → fit_at (44 ∷ p) stop (drop stop t) ≡ f
      → fit_at (104 ∷ 44 ∷ p) at (drop at t) ≡ behind v f
  first_any p f e = s.any.reads 44 p refl ∙ ap (behind v) e

  pub comma_missing : (eqb (get_or t stop 0) 44 && eqb (get_or t (stop + 1) 0) 32) ≡ false
      → None ≡ operands_as row at (drop at t)
  comma_missing q =
      let stops : (p : Pattern) → fit_at (44 ∷ 32 ∷ p) stop (drop stop t) ≡ misfit =
      λ p. two_stops 44 32 p t stop refl refl (omega arith) q in
      operands_none row at (drop at t)
      (λ p. first_low (32 ∷ p) misfit (stops p) ∙ low_misfit v refl) (λ p. first_any (32 ∷ p) misfit (stops p))

  module _ (q : (eqb (get_or t stop 0) 44 && eqb (get_or t (stop + 1) 0) 32) ≡ true) where
    abbrev second : Pattern → Fit
    second p = fit_at p (stop + 2) (drop (stop + 2) t)

    goes : (p : Pattern) → fit_at (44 ∷ 32 ∷ p) stop (drop stop t) ≡ second p
    goes p = two_goes 44 32 p t stop refl refl (omega arith) (omega arith) q

    by_all : operands_as row at (drop at t)
        ≡ operands_of row (low_only v (second (ended (quoted "#n")))) (low_only v (second (ended (quoted "r"))))
        (behind v (second (ended (quoted "h")))) (low_only v (second (ended (quoted "PC, #n"))))
        (low_only v (second (ended (quoted "[r, #n]"))))
    by_all =
        by_second row at (drop at t) (λ p. low_only v (second p)) (λ p. behind v (second p))
        (λ p. first_low (32 ∷ p) (second p) (goes p)) (λ p. first_any (32 ∷ p) (second p) (goes p))

    pub by_low_pair : 3 ≤ row → row < 8 → (r : Parsed) → r ≡ line_fit row (low_only v (second (ended (quoted "r"))))
        → r ≡ operands_as row at (drop at t)
    by_low_pair h l r e = e ∙ sym (by_all ∙ simp (le-ltb row 3 h, lt-ltb row 8 l))

    pub by_pc : row ≡ 9 → (r : Parsed)
        → r ≡ fit_or 9 (behind v (second (ended (quoted "h"))))
        (line_fit 16 (low_only v (second (ended (quoted "PC, #n")))))
        → r ≡ operands_as row at (drop at t)
    by_pc h r e = e ∙ sym (by_all ∙ rw h refl)

    pub by_memory : 8 ≤ row → (row ≡ 9 → ⊥) → (r : Parsed)
        → r ≡ line_fit row (low_only v (second (ended (quoted "[r, #n]"))))
        → r ≡ operands_as row at (drop at t)
    by_memory h l r e =
        e ∙ sym (by_all ∙ simp (le-ltb row 3 (omega arith), le-ltb row 8 h, ne_eqb row 9 l))

    pub by_number : 0 < row → row < 3 → (r : Parsed)
        → r ≡ fit_or row (low_only v (second (ended (quoted "#n")))) (any_pair row v (second (ended (quoted "h"))))
        → r ≡ operands_as row at (drop at t)
    by_number z l r e = e ∙ sym (by_all ∙ simp (lt-ltb row 3 l) (go (eqb row 1) refl))
      where
        go : (b : Bool) → eqb row 1 ≡ b
            → fit_or row (low_only v (second (ended (quoted "#n"))))
            (cond b (line_fit 11 (behind v (second (ended (quoted "h")))))
            (fit_or 8 (low_only v (second (ended (quoted "r"))))
            (line_fit 10 (behind v (second (ended (quoted "h")))))))
            ≡ fit_or row (low_only v (second (ended (quoted "#n")))) (any_pair row v (second (ended (quoted "h"))))
        go true q =
            ap (fit_or row (low_only v (second (ended (quoted "#n")))))
            (sym (any_one v (second (ended (quoted "h"))))
            ∙ ap (λ (k : ℕ). any_pair k v (second (ended (quoted "h"))))
            (sym (eqb-true row 1 q)))
        go false q =
            let two : row ≡ 2 = omega (arith, eqb-false row 1 q) in
            ap (fit_or row (low_only v (second (ended (quoted "#n")))))
            (ap (λ (f : Fit). fit_or 8 (low_only v f) (line_fit 10 (behind v (second (ended (quoted "h"))))))
            (low_of_any (feed ∷ []) (stop + 2) (drop (stop + 2) t))
            ∙ sym (any_two v (second (ended (quoted "h"))))
            ∙ ap (λ (k : ℕ). any_pair k v (second (ended (quoted "h"))))
            (sym two))
