-- An instruction that a line says has a halfword: its registers and its condition fit by the slots of its row, the rest
-- by check 23, and CMP with two low registers is no line of row 10.
use mathlib.Core.Bool.{Bool, true, false, true≢false, cond}
use mathlib.Core.List.{List, [], ◌∷◌, ◌++◌}
use mathlib.Core.Logic.{⊎_elim}
use mathlib.Core.Option.{Option, none, some, some-injective}
use mathlib.Core.Path.{◌≡◌, refl, ap, sym, ◌∙◌, subst}
use Prim.Native.Nat.{ℕ, zero, suc, ◌+◌, ◌/◌, ◌%◌, ◌<◌, ◌≤◌, max}
use Prim.Native.Char.{code}
use native.Mathlib.Omega.{arith}
use lib.Dec.{eqb, leb, ltb, lit<}
use lib.ListN.{length, get_or}
use borrow.Author.Tests.{eqb-true, ltb-true, lt-ltb, leb-true}
use Rattle.units.proofs.Cases.{lt_or_ge}
use Rattle.isa.specs.declared.instruction.Instruction.{Instruction}
use Rattle.isa.specs.declared.instruction.Instruction.TheVariants.{MovImm, CmpImm, And, Eor, Asr, Tst, Neg, Cmp}
use Rattle.isa.specs.declared.instruction.Instruction.TheVariants.{AddHigh, CmpHigh, MovHigh, Str, Ldr, Strb, Ldrb}
use Rattle.isa.specs.declared.instruction.Instruction.TheVariants.{AddPc, Branch, Halt}
use Rattle.isa.specs.Encode.{encode_of, imm_form, alu_form, high_form, memory_form}
use Rattle.isa.specs.Encode as Encode
use Rattle.text.specs.Text.{Text, is_small, is_same_text}
use Rattle.text.proofs.Words.{and_right}
use Rattle.syntax.specs.Syntax.{Pattern, Item, LineOf, end, literal, slot, patterns, pattern_at, parse, given, below}
use Rattle.syntax.specs.Syntax.{number_value, register_value, conditions, place, condition_value, name_value}
use Rattle.syntax.specs.Syntax.{slot_value}
use Rattle.syntax.proofs.Rows.{never}
use Rattle.assembler.specs.Assemble.{value_at, in_fours, in_reach, branch_byte, rows, instruction_of}
use Rattle.text_laws.proofs.Lines.{syntax_exact}
use Rattle.std.specs.Prelude.{Result, Ok}
use Rattle.refusals.specs.declared.refusal.Refusal.{Refusal}

-- a register's number, and a condition's
below_less : (bound v : ℕ) (o : Option ℕ) → below bound o ≡ some v → (v < bound) × (o ≡ some v)
below_less bound v none e = never e
below_less bound v (some u) e = go (ltb u bound) refl e
  where
    go : (b : Bool) → ltb u bound ≡ b → given b u ≡ some v → (v < bound) × (some u ≡ some v)
    go true l e =
        let same : u ≡ v = some-injective u v e in
        (subst (λ (x : ℕ). x < bound) same (ltb-true u bound l), e)
    go false l e = never e

register_less : (count v : ℕ) (w : Text) → register_value count w ≡ some v → v < count
unfolding register_value
register_less count v [] e = never e
register_less count v (c ∷ w) e = go (eqb c (code "R")) e
  where
    go : (b : Bool) → cond b (below count (number_value w)) none ≡ some v → v < count
    go true e = (below_less count v (number_value w) e).0
    go false e = never e

-- a register below the count is one of a smaller count too, if it is below that
register_too : (count less v : ℕ) (w : Text) → register_value count w ≡ some v → v < less → register_value less w
    ≡ some v
unfolding register_value
register_too count less v [] e h = never e
register_too count less v (c ∷ w) e h = go (eqb c (code "R")) e
  where
    go : (b : Bool) → cond b (below count (number_value w)) none ≡ some v
        → cond b (below less (number_value w)) none ≡ some v
    go true e = rw ((below_less count v (number_value w) e).1, lt-ltb v less h) refl
    go false e = never e

place_less : (k v : ℕ) (w : Text) (ts : List Text) → place k w ts ≡ some v → v < k + length ts
place_less k v w [] e = never e
place_less k v w (t ∷ ts) e = go (is_same_text w t) (place_less (suc k) v w ts) e
  where
    go : (b : Bool) → (place (suc k) w ts ≡ some v → v < suc k + length ts)
        → cond b (some k) (place (suc k) w ts) ≡ some v → v < k + suc (length ts)
    go true f e = let same : k ≡ v = some-injective k v e in omega arith
    go false f e = omega (arith, f e)

-- what the values of a pattern's slots are below, the first of them the k-th of a list
abbrev Bound : ℕ → ℕ → Type 0
Bound s v =
    cond (eqb s (code "r")) (v < 8)
    (cond (eqb s (code "h")) (v < 16)
    (cond (eqb s (code "n")) (Unit {0}) (cond (eqb s (code "c")) (v < 14) (Unit {0}))))

abbrev pub Bounds : Pattern → ℕ → List ℕ → Type 0
Bounds [] k vs = Unit {0}
Bounds (c ∷ p) k vs =
    let atSlot = Bound c (get_or vs k 0) × Bounds p (suc k) vs in
    let atLiteral = Bounds p k vs in
    cond (is_small c) atSlot atLiteral

slot_bound : (s v : ℕ) (w : Text) → slot_value s w ≡ some v → Bound s v
unfolding slot_value condition_value
slot_bound s v w e =
    go (eqb s (code "r")) (eqb s (code "h")) (eqb s (code "n")) (eqb s (code "c")) (eqb s (code "l")) e
  where
    go : (r h n c l : Bool)
        → cond r (register_value 8 w) (cond h (register_value 16 w) (cond n (number_value w)
        (cond c (place 0 w conditions) (cond l (name_value w) none)))) ≡ some v
        → cond r (v < 8) (cond h (v < 16) (cond n (Unit {0}) (cond c (v < 14) (Unit {0}))))
    go true h n c l e = register_less 8 v w e
    go false true n c l e = register_less 16 v w e
    go false false true c l e = tt
    go false false false true l e = place_less 0 v w conditions e
    go false false false false l e = tt

bounds_on : (p : Pattern) (k v : ℕ) (vs : List ℕ) → Bounds p k vs → Bounds p (suc k) (v ∷ vs)
bounds_on [] k v vs b = tt
bounds_on (c ∷ p) k v vs b = go (is_small c) (bounds_on p (suc k) v vs) (bounds_on p k v vs) b
  where
    go : (s : Bool) → (Bounds p (suc k) vs → Bounds p (suc (suc k)) (v ∷ vs))
        → (Bounds p k vs → Bounds p (suc k) (v ∷ vs))
        → cond s (Bound c (get_or vs k 0) × Bounds p (suc k) vs) (Bounds p k vs)
        → cond s (Bound c (get_or vs k 0) × Bounds p (suc (suc k)) (v ∷ vs)) (Bounds p (suc k) (v ∷ vs))
    go true f g b = (b.0, f b.1)
    go false f g b = g b

line_bounds : {p : Pattern} {vs : List ℕ} {t : Text} → LineOf p vs t → Bounds p 0 vs
line_bounds end = tt
line_bounds (literal n l) = rw n (line_bounds l)
line_bounds (slot {s = s} {p = p} {v = v} {vs = vs} w n h q l) =
    rw n (slot_bound s v w q, bounds_on p 0 v vs (line_bounds l))

-- CMP of two low registers is a line of row 8: a pattern with r for h
abbrev low_slot : ℕ → ℕ
low_slot c = cond (eqb c (code "h")) (code "r") c

abbrev lowered : Pattern → Pattern
lowered [] = []
lowered (c ∷ p) = low_slot c ∷ lowered p

abbrev AllLow : List ℕ → Type 0
AllLow [] = Unit {0}
AllLow (v ∷ vs) = (v < 8) × AllLow vs

lowered_line : {p : Pattern} {vs : List ℕ} {t : Text} → LineOf p vs t → AllLow vs → LineOf (lowered p) vs t
unfolding slot_value
lowered_line end b = end
lowered_line (literal {c = c} {p = p} {vs = vs} {t = t} n l) b = go (eqb c (code "h")) refl (lowered_line l b)
  where
    go : (h : Bool) → eqb c (code "h") ≡ h → LineOf (lowered p) vs t
        → LineOf (cond h (code "r") c ∷ lowered p) vs (c ∷ t)
    go true e m = absurd (true≢false (sym (ap is_small (eqb-true c (code "h") e)) ∙ n))
    go false e m = literal n m
lowered_line (slot {s = s} {p = p} {v = v} {vs = vs} {t = t} w n i q l) b =
    go (eqb s (code "h")) refl (lowered_line l b.1)
  where
    go : (h : Bool) → eqb s (code "h") ≡ h → LineOf (lowered p) vs t
        → LineOf (cond h (code "r") s ∷ lowered p) (v ∷ vs) (w ++ t)
    go true e m =
        let high : slot_value (code "h") w ≡ some v
        = subst (λ (c : ℕ). slot_value c w ≡ some v) (eqb-true s (code "h") e) q in
        slot w refl i (register_too 16 8 v w high b.0) m
    go false e m = slot w n i q m

-- as many values as slots
abbrev slots_in : Pattern → ℕ
slots_in [] = 0
slots_in (c ∷ p) = let later = slots_in p in cond (is_small c) (suc later) later

line_values : {p : Pattern} {vs : List ℕ} {t : Text} → LineOf p vs t → length vs ≡ slots_in p
line_values end = refl
line_values (literal n l) = rw n (line_values l)
line_values (slot w n h q l) = rw n (ap suc (line_values l))

both_low : (vs : List ℕ) → length vs ≡ 2 → get_or vs 0 0 < 8 → get_or vs 1 0 < 8 → AllLow vs
both_low [] e a b = absurd (omega arith)
both_low (v ∷ []) e a b = absurd (omega arith)
both_low (v ∷ w ∷ []) e a b = (a, (b, tt))
both_low (v ∷ w ∷ u ∷ vs) e a b = absurd (omega arith)

-- so what is read as row 10 has a high register
high_read : (t : Text) (x : Item) → parse t ≡ some x → x.row ≡ 10 → 7 < max (value_at x 1) (value_at x 0)
high_read t x e r =
    ⊎_elim (λ h. h) (λ h. absurd (low (omega arith) (omega arith))) (lt_or_ge 7 (max (value_at x 1) (value_at x 0)))
  where
    line : LineOf (pattern_at 10) x.values t
    line = subst (λ (k : ℕ). LineOf (pattern_at k) x.values t) r ((syntax_exact t).read x e).1

    low : value_at x 0 < 8 → value_at x 1 < 8 → ⊥
    low a b =
        let eight : LineOf (pattern_at 8) x.values t
        = lowered_line line (both_low x.values (line_values line) a b) in
        let read : parse t ≡ some (record { row = 8; values = x.values })
        = (syntax_exact t).row 8 x.values (lit< tt) eight (λ z us m. omega arith) in
        let same = some-injective x (record { row = 8; values = x.values }) (sym e ∙ read) in
        let eight-row : x.row ≡ 8 = ap (λ (y : Item). y.row) same in
        omega arith

-- an instruction that has a halfword
abbrev pub Encodes : Result ℕ Refusal → Type 0
Encodes e = (h : ℕ) × (e ≡ Ok h)

fits : (a n : ℕ) (e : Result ℕ Refusal) → a < n → Encodes e → Encodes (Encode.given (ltb a n) e)
fits a n e l w = (w.0, rw (lt-ltb a n l) w.1)

imm_encodes : (op rd imm : ℕ) → rd < 8 → imm < 256 → Encodes (imm_form op rd imm)
imm_encodes op rd imm a b = fits rd 8 _ a (fits imm 256 _ b (_, refl))

alu_encodes : (op rs rd : ℕ) → rs < 8 → rd < 8 → Encodes (alu_form op rs rd)
alu_encodes op rs rd a b = fits rs 8 _ a (fits rd 8 _ b (_, refl))

high_encodes : (op rs rd : ℕ) → rs < 16 → rd < 16 → Encodes (high_form op rs rd)
high_encodes op rs rd a b = fits rs 16 _ a (fits rd 16 _ b (_, refl))

memory_encodes : (op offset rb rd : ℕ) → offset < 32 → rb < 8 → rd < 8 → Encodes (memory_form op offset rb rd)
memory_encodes op offset rb rd a b c = fits offset 32 _ a (fits rb 8 _ b (fits rd 8 _ c (_, refl)))

-- where a row's instruction is there, and where it is there if a test passes
there : (x y : Instruction) → Encodes (encode_of x) → some x ≡ some y → Encodes (encode_of y)
there x y w e = subst (λ (z : Instruction). Encodes (encode_of z)) (some-injective x y e) w

tested : (b : Bool) (x y : Instruction) → (b ≡ true → Encodes (encode_of x)) → given b x ≡ some y
    → Encodes (encode_of y)
tested true x y f e = there x y (f refl) e
tested false x y f e = never e

within : (most v : ℕ) → in_fours most v ≡ true → v ≤ most
within most v e = leb-true v most (and_right (eqb (v % 4) 0) (leb v most) e)

-- a proof for each row, one below the other
infixr 5 ◌▸◌
◌▸◌ : {A B : Type 0} → A → B → A × B
x ▸ y = (x, y)

-- each row, its pattern and its instruction side by side
module _ (vs : List ℕ) (i j : ℕ) where
  abbrev a : ℕ
  a = get_or vs 0 0

  abbrev b : ℕ
  b = get_or vs 1 0

  abbrev c : ℕ
  c = get_or vs 2 0

  abbrev Row : ℕ → Pattern → Option Instruction → Type 0
  Row k p o = Bounds p 0 vs → (k ≡ 10 → 7 < max b a) → (y : Instruction) → o ≡ some y → Encodes (encode_of y)

  abbrev AllRows : ℕ → List Pattern → List (Option Instruction) → Type 0
  AllRows k [] [] = Unit {0}
  AllRows k [] (o ∷ os) = ⊥
  AllRows k (p ∷ ps) [] = ⊥
  AllRows k (p ∷ ps) (o ∷ os) = Row k p o × AllRows (suc k) ps os

  row_at : (k n : ℕ) (ps : List Pattern) (os : List (Option Instruction)) → AllRows k ps os
      → Row (k + n) (get_or ps n []) (get_or os n none)
  row_at k n [] [] w = λ bounds mixed y e. never e
  row_at k n [] (o ∷ os) w = absurd w
  row_at k n (p ∷ ps) [] w = absurd w
  row_at k zero (p ∷ ps) (o ∷ os) w =
      let same : k ≡ k + 0 = omega arith in
      subst (λ (m : ℕ). Row m p o) same w.0
  row_at k (suc n) (p ∷ ps) (o ∷ os) w =
      let same : suc k + n ≡ k + suc n = omega arith in
      subst (λ (m : ℕ). Row m (get_or ps n []) (get_or os n none)) same (row_at (suc k) n ps os w.1)

  -- the last value fits by its test
  imm_test : (x : Instruction) → (b < 256 → Encodes (encode_of x)) → (y : Instruction) → given (leb b 255) x ≡ some y
      → Encodes (encode_of y)
  imm_test x f y = tested (leb b 255) x y (λ t. let h : b ≤ 255 = leb-true b 255 t in f (omega arith))

  fours_test : (x : Instruction) → (c / 4 < 32 → Encodes (encode_of x)) → (y : Instruction)
      → given (in_fours 124 c) x ≡ some y → Encodes (encode_of y)
  fours_test x f y = tested (in_fours 124 c) x y (λ t. let h : c ≤ 124 = within 124 c t in f (omega arith))

  byte_test : (x : Instruction) → (c < 32 → Encodes (encode_of x)) → (y : Instruction) → given (leb c 31) x ≡ some y
      → Encodes (encode_of y)
  byte_test x f y = tested (leb c 31) x y (λ t. let h : c ≤ 31 = leb-true c 31 t in f (omega arith))

  add_pc_row : a < 8 → (y : Instruction) → given (in_fours 1020 b) (AddPc a (b / 4)) ≡ some y → Encodes (encode_of y)
  add_pc_row l y =
      tested (in_fours 1020 b) (AddPc a (b / 4)) y
      (λ t. let h : b ≤ 1020 = within 1020 b t in fits a 8 _ l (fits (b / 4) 256 _ (omega arith) (_, refl)))

  branch_row : a < 14 → (y : Instruction) → given (in_reach i j) (Branch a (branch_byte i j)) ≡ some y
      → Encodes (encode_of y)
  branch_row l y =
      tested (in_reach i j) (Branch a (branch_byte i j)) y
      (λ t. fits a 14 _ l (fits (branch_byte i j) 256 _ (omega arith) (_, refl)))

  halt_row : (y : Instruction) → given (leb a 255) (Halt a) ≡ some y → Encodes (encode_of y)
  halt_row y =
      tested (leb a 255) (Halt a) y (λ t. let h : a ≤ 255 = leb-true a 255 t in fits a 256 _ (omega arith) (_, refl))

  all_rows : AllRows 0 patterns (rows a b c i j)
  all_rows =
      (λ w m y e. never e)
      ▸ (λ w m y. imm_test (MovImm a b) (imm_encodes 0 a b w.0) y)
      ▸ (λ w m y. imm_test (CmpImm a b) (imm_encodes 1 a b w.0) y)
      ▸ (λ w m y. there (And b a) y (alu_encodes 0 b a w.1.0 w.0))
      ▸ (λ w m y. there (Eor b a) y (alu_encodes 1 b a w.1.0 w.0))
      ▸ (λ w m y. there (Asr b a) y (alu_encodes 2 b a w.1.0 w.0))
      ▸ (λ w m y. there (Tst b a) y (alu_encodes 3 b a w.1.0 w.0))
      ▸ (λ w m y. there (Neg b a) y (alu_encodes 4 b a w.1.0 w.0))
      ▸ (λ w m y. there (Cmp b a) y (alu_encodes 5 b a w.1.0 w.0))
      ▸ (λ w m y. there (AddHigh b a) y (high_encodes 0 b a w.1.0 w.0))
      ▸ (λ w m y. there (CmpHigh b a) y (fits 7 (max b a) _ (m refl) (high_encodes 1 b a w.1.0 w.0)))
      ▸ (λ w m y. there (MovHigh b a) y (high_encodes 2 b a w.1.0 w.0))
      ▸ (λ w m y. fours_test (Str (c / 4) b a) (λ h. memory_encodes 0 (c / 4) b a h w.1.0 w.0) y)
      ▸ (λ w m y. fours_test (Ldr (c / 4) b a) (λ h. memory_encodes 1 (c / 4) b a h w.1.0 w.0) y)
      ▸ (λ w m y. byte_test (Strb c b a) (λ h. memory_encodes 2 c b a h w.1.0 w.0) y)
      ▸ (λ w m y. byte_test (Ldrb c b a) (λ h. memory_encodes 3 c b a h w.1.0 w.0) y)
      ▸ (λ w m y. add_pc_row w.0 y)
      ▸ (λ w m y. branch_row w.0 y)
      ▸ (λ w m y. halt_row y)
      ▸ tt

-- what is read, and fits by check 23, has a halfword
pub read_encodes : (t : Text) (x : Item) → parse t ≡ some x → (i j : ℕ) (y : Instruction)
    → instruction_of x i j ≡ some y → Encodes (encode_of y)
read_encodes t x e i j y q =
    let line = ((syntax_exact t).read x e).1 in
    let same : x.row ≡ 0 + x.row = omega arith in
    row_at x.values i j 0 x.row patterns (rows (value_at x 0) (value_at x 1) (value_at x 2) i j)
    (all_rows x.values i j) (line_bounds line) (λ z. high_read t x e (same ∙ z)) y q
