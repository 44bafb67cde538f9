-- Assembling a listing gives the code back: its items are known line by line, each label stands once, before its
-- target, and each item says its instruction.
use mathlib.Core.Bool.{Bool, true, false, false≢true, cond, or-true}
use mathlib.Core.List.{List, [], ◌∷◌, ◌++◌, append_assoc, append-nil}
use mathlib.Core.Option.{Option, some}
use mathlib.Core.Path.{◌≡◌, refl, ap, sym, ◌∙◌, subst}
use mathlib.Core.Logic.{⊎_elim}
use Prim.Native.Nat.{ℕ, zero, suc, ◌+◌, ◌*◌, ◌/◌, ◌%◌, ◌<◌, ◌≤◌}
use native.Mathlib.Decide.{le_ind}
use native.Mathlib.Nat.{eq-or-lt_of_le}
use native.Mathlib.Omega.{arith}
use lib.Dec.{leb, ltb}
use lib.ListN.{length, get_or, drop}
use lib.Seq.{drop-cons, drop-length}
use borrow.Author.Tests.{eq-eqb, ne_eqb, ltb-true, leb-true, le-leb}
use Rattle.units.specs.Address.{branch_target_of}
use Rattle.units.specs.declared.address.ByteAddress.{ByteAddress}
use Rattle.units.proofs.Cases.{clash}
use Rattle.isa.specs.declared.instruction.Instruction.{Instruction}
use Rattle.isa.specs.declared.instruction.Instruction.TheVariants.{Branch, Halt}
use Rattle.isa.specs.Encode.{encode_of}
use Rattle.isa_laws.proofs.Claims.{decode_then_encode}
use Rattle.image.specs.Format.{most_code}
use Rattle.image.specs.Check.{Asked, whole, first_no, rows_below}
use Rattle.image.specs.declared.checker.Layout.{Layout}
use Rattle.image.proofs.Answers.{head_passed, tail_passed, left_passed, each_passed}
use Rattle.targets.specs.Targets.{address_of, decoded_at, goes_to, targeted_below, targeted}
use Rattle.checks.specs.Questions.{at_address, check9, check13}
use Rattle.text.specs.Text.{Text, lines_of}
use Rattle.text.proofs.Words.{and_left, and_right}
use Rattle.syntax.specs.Syntax.{Item, label_row}
use Rattle.assembler.specs.Assemble.{Items, read_from, instructions_in, Definition, definition_from}
use Rattle.assembler.specs.Assemble.{definition_of, Instructs, said_at, Code, check_from, halfwords_of, Assembles}
use Rattle.assembler.specs.Assemble.{assemble_of}
use Rattle.lister.specs.List.{Lists, item_of, label_line, instruction_line, lines_at, listing_below, listing_of}
use Rattle.lister.specs.List.{layout_for, instruction_checks, checks_at, check15, check16, list_checks, listing_as}
use Rattle.lister.specs.List.{list_of}
use Rattle.text_laws.specs.Claims.{ListThenAssemble, ListedLines, ListsLines}
use Rattle.text_laws.proofs.Slots.{label_injective}
use Rattle.text_laws.proofs.Reading.{read_written}
use Rattle.text_laws.proofs.Texts.{read_says}
use Rattle.text_laws.proofs.Instructions.{item, name_at, read_as, Landing, written, label_written, no_label, said}
use Rattle.std.specs.Prelude as Std
use Rattle.std.specs.Prelude.{Some, None, Result, Ok, Err, ⊤}
use Rattle.refusals.specs.declared.check.Check.TheVariants as check
use Rattle.refusals.specs.declared.refusal.Refusal.{Refusal}

-- the instruction that a halfword is
abbrev pub instruction_in : Std.Option Instruction → Instruction
instruction_in (Some x) = x
instruction_in None = Halt 0

-- instruction i of a code has passed the lister's checks
abbrev pub Passes : Layout → ByteAddress → Std.Option Instruction → Type 0
Passes layout a d = (d ≡ Some (instruction_in d)) × (check13 layout a (instruction_in d) ≡ true)

pub row_passes : (layout : Layout) (a : ByteAddress) (d : Std.Option Instruction)
    → first_no (instruction_checks layout a d) ≡ Ok tt → Passes layout a d
row_passes layout a (Some x) e =
    let second : Asked = at_address a check.Target (check13 layout a x) in
    (refl, head_passed second [] (tail_passed (at_address a check.Defined (check9 (Some x))) (second ∷ []) e))
row_passes layout a None e = absurd (false≢true (head_passed (at_address a check.Defined (check9 None)) [] e))

-- what an instruction of the code goes to is a target
goes_targeted : (code : List ℕ) (i j : ℕ) → i < length code → goes_to code i j ≡ true → targeted code j ≡ true
unfolding targeted targeted_below
goes_targeted code i j h e =
    le_ind (λ (m : ℕ). targeted_below code m j ≡ true) (rw e refl) (λ m _ ih. rw ih (or-true (goes_to code m j)))
    (length code) h

-- an address that a branch from an even one goes to is even
even_target : (i offset : ℕ) → (branch_target_of (address_of i) offset).0
    ≡ 2 * ((branch_target_of (address_of i) offset).0 / 2)
even_target i offset = go (ltb offset 128)
  where
    go : (b : Bool) → (2 * i % 65536 + cond b (2 * offset) (2 * offset + 65024)) % 65536
        ≡ 2 * ((2 * i % 65536 + cond b (2 * offset) (2 * offset + 65024)) % 65536 / 2)
    go true = omega arith
    go false = omega arith

-- an instruction's label stands before it where a branch goes to it
abbrev labelled : Bool → ℕ → List Item → List Item
labelled true i later = item label_row (name_at (address_of i).0 ∷ []) ∷ later
labelled false i later = later

-- the line after an instruction's, which a label may stand before
abbrev after : Bool → ℕ → ℕ
after true k = suc (suc k)
after false k = suc k

-- where a target is defined
abbrev Found : ℕ → Option Definition → Type 0
Found j o = (k : ℕ) × (o ≡ some (record { line = k; number = j }))

module _ (code : List ℕ) where
  abbrev name : ℕ → ℕ
  name i = name_at (address_of i).0

  abbrev instruction_at : ℕ → Instruction
  instruction_at i = instruction_in (decoded_at code i)

  abbrev item_at : ℕ → Item
  item_at i = read_as (item_of (address_of i) (instruction_at i))

  -- of m instructions from instruction i on: the text, the items, the instructions
  listing_from : ℕ → ℕ → Text
  listing_from i zero = []
  listing_from i (suc m) = lines_at code i ++ listing_from (suc i) m

  abbrev items_from : ℕ → ℕ → List Item
  items_from i zero = []
  items_from i (suc m) = labelled (targeted code i) i (item_at i ∷ items_from (suc i) m)

  abbrev instructions_from : ℕ → ℕ → List Instruction
  instructions_from i zero = []
  instructions_from i (suc m) = instruction_at i ∷ instructions_from (suc i) m

  -- the listing, read from the front
  listing_front : (i m : ℕ) → listing_below code i ++ listing_from i m ≡ listing_below code (i + m)
  unfolding listing_below listing_from
  listing_front i zero =
      let n : i ≡ i + 0 = omega arith in
      append-nil (listing_below code i) ∙ ap (listing_below code) n
  listing_front i (suc m) =
      let n : suc i + m ≡ i + suc m = omega arith in
      sym (append_assoc (listing_below code i) (lines_at code i) (listing_from (suc i) m))
      ∙ listing_front (suc i) m ∙ ap (listing_below code) n

  lengths : (i m : ℕ) → length (instructions_from i m) ≡ m
  lengths i zero = refl
  lengths i (suc m) = ap suc (lengths (suc i) m)

  count : (i m : ℕ) → instructions_in (items_from i m) ≡ m
  count i zero = refl
  count i (suc m) = go (targeted code i) (count (suc i) m)
    where
      go : (g : Bool) → instructions_in (items_from (suc i) m) ≡ m
          → instructions_in (labelled g i (item_at i ∷ items_from (suc i) m)) ≡ suc m
      go true e = simp (no_label (address_of i) (instruction_at i), e)
      go false e = simp (no_label (address_of i) (instruction_at i), e)

  -- past an instruction's item, and past the label of another instruction
  past_item : (k i n : ℕ) (xs : List Item)
      → definition_from k i n (item_at i ∷ xs) ≡ definition_from (suc k) (suc i) n xs
  unfolding definition_from
  past_item k i n xs = simp (no_label (address_of i) (instruction_at i))

  past_label : (k i n : ℕ) (xs : List Item) → (name i ≡ n → ⊥)
      → definition_from k i n (item label_row (name i ∷ []) ∷ xs) ≡ definition_from (suc k) i n xs
  unfolding definition_from
  past_label k i n xs f = simp (ne_eqb (name i) n f)

  at_label : (k i : ℕ) (xs : List Item)
      → definition_from k i (name i) (item label_row (name i ∷ []) ∷ xs) ≡ some (record { line = k; number = i })
  unfolding definition_from
  at_label k i xs = simp (eq-eqb (name i) (name i) refl)

  -- two labels have two names
  names : (i j : ℕ) → i < j → j < 32768 → name i ≡ name j → ⊥
  names i j l h e =
      let q : 2 * i % 65536 ≡ 2 * j % 65536
      = label_injective (address_of i).0 (address_of j).0 (omega arith) (omega arith) e in
      omega arith

  -- past an instruction and its label, to the definition of another
  past_both : (k i n m : ℕ) → (name i ≡ n → ⊥)
      → definition_from k i n (items_from i (suc m))
      ≡ definition_from (after (targeted code i) k) (suc i) n (items_from (suc i) m)
  past_both k i n m f = go (targeted code i)
    where
      go : (g : Bool) → definition_from k i n (labelled g i (item_at i ∷ items_from (suc i) m))
          ≡ definition_from (after g k) (suc i) n (items_from (suc i) m)
      go true = past_label k i n (item_at i ∷ items_from (suc i) m) f ∙ past_item (suc k) i n (items_from (suc i) m)
      go false = past_item k i n (items_from (suc i) m)

  target_found : (j k i m : ℕ) → targeted code j ≡ true → i ≤ j → j < i + m → j < 32768
      → Found j (definition_from k i (name j) (items_from i m))
  target_found j k i zero t l h b = absurd (omega arith)
  target_found j k i (suc m) t l h b =
      ⊎_elim here (further (λ p q. target_found j (after (targeted code i) k) (suc i) m t p q b)) (eq-or-lt_of_le l)
    where
      labelled_here : targeted code i ≡ true → Found i (definition_from k i (name i) (items_from i (suc m)))
      labelled_here e = (k, rw e (at_label k i (item_at i ∷ items_from (suc i) m)))

      here : i ≡ j → Found j (definition_from k i (name j) (items_from i (suc m)))
      here e =
          subst (λ (n : ℕ). Found n (definition_from k i (name n) (items_from i (suc m)))) e
          (labelled_here (subst (λ (n : ℕ). targeted code n ≡ true) (sym e) t))

      further : (suc i ≤ j → j < suc i + m
          → Found j (definition_from (after (targeted code i) k) (suc i) (name j) (items_from (suc i) m)))
          → i < j → Found j (definition_from k i (name j) (items_from i (suc m)))
      further f p =
          let r = f p (omega arith) in
          (r.0, past_both k i (name j) m (names i j p b) ∙ r.1)

  -- a code that the lister doesn't refuse
  module _ (small : (i : ℕ) → get_or code i 0 < 65536) (few : length code ≤ 15936)
      (passes : (i : ℕ) → i < length code → Passes (layout_for code) (address_of i) (decoded_at code i)) where
    encoded : (i : ℕ) → i < length code → encode_of (instruction_at i) ≡ Ok (get_or code i 0)
    unfolding decoded_at
    encoded i h = decode_then_encode (get_or code i 0) (small i) (instruction_at i) (passes i h).0

    list_read : (i m k : ℕ) → i + m ≤ length code → read_from k (lines_of (listing_from i m)) ≡ Items (items_from i m)
    unfolding listing_from lines_at read_from lines_of
    list_read i zero k h = refl
    list_read i (suc m) k h =
        rw (append_assoc (label_line (targeted code i) (address_of i))
        (instruction_line (address_of i) (decoded_at code i))
        (listing_from (suc i) m))
        (go (targeted code i) (λ n. list_read (suc i) m n (omega arith)))
      where
        instruction : (n : ℕ) → ((p : ℕ) → read_from p (lines_of (listing_from (suc i) m))
            ≡ Items (items_from (suc i) m))
            → read_from n (lines_of (instruction_line (address_of i) (decoded_at code i) ++ listing_from (suc i) m))
            ≡ Items (item_at i ∷ items_from (suc i) m)
        instruction n f =
            let l : i < length code = omega arith in
            subst (λ (d : Std.Option Instruction). read_from n
            (lines_of (instruction_line (address_of i) d ++ listing_from (suc i) m))
            ≡ Items (item_at i ∷ items_from (suc i) m)) (sym (passes i l).0)
            (read_written n _ (listing_from (suc i) m) (item_at i) (items_from (suc i) m)
            (written (address_of i) (get_or code i 0) (instruction_at i) (encoded i l)) (f (suc n)))

        go : (g : Bool) → ((p : ℕ) → read_from p (lines_of (listing_from (suc i) m)) ≡ Items (items_from (suc i) m))
            → read_from k (lines_of (label_line g (address_of i)
            ++ (instruction_line (address_of i) (decoded_at code i) ++ listing_from (suc i) m)))
            ≡ Items (labelled g i (item_at i ∷ items_from (suc i) m))
        go true f =
            read_written k _ (instruction_line (address_of i) (decoded_at code i) ++ listing_from (suc i) m)
            (item label_row (name i ∷ [])) (item_at i ∷ items_from (suc i) m) (label_written (address_of i).0)
            (instruction (suc k) f)
        go false f = instruction k f

    -- the items of the whole listing
    abbrev items : List Item
    items = items_from 0 (length code)

    -- a branch goes to an instruction whose label stands before it
    landing : (i : ℕ) → i < length code → Landing items i (instruction_at i)
    unfolding goes_to
    landing i h condition offset e =
        let to = (branch_target_of (address_of i) offset).0 in
        let even : to ≡ 2 * (to / 2) = even_target i offset in
        let passed : check13 (layout_for code) (address_of i) (Branch condition offset) ≡ true
        = subst (λ (x : Instruction). check13 (layout_for code) (address_of i) x ≡ true) e (passes i h).1 in
        let inside : to < 2 * length code = ltb-true to (2 * length code) passed in
        let decoded : decoded_at code i ≡ Some (Branch condition offset) = (passes i h).0 ∙ ap Some e in
        let goes : goes_to code i (to / 2) ≡ true = rw decoded (eq-eqb (to / 2) (to / 2) refl) in
        let target = goes_targeted code i (to / 2) h goes in
        let found = target_found (to / 2) 1 0 (length code) target (omega arith) (omega arith) (omega arith) in
        let address : (address_of (to / 2)).0 ≡ to = omega arith in (
          found.0,
          to / 2,
          omega arith,
          even,
          subst (λ (a : ℕ). definition_of (name_at a) items ≡ some (record { line = found.0; number = to / 2 })) address
              found.1,
        )

    -- from instruction i on, whose line or whose label's is line k, definitions are those of the rest
    abbrev Rest : ℕ → ℕ → ℕ → Type 0
    Rest k i m =
        (j : ℕ) → i ≤ j → j < 32768 → definition_of (name j) items ≡ definition_from k i (name j) (items_from i m)

    rest_on : (k i m : ℕ) → Rest k i (suc m) → Rest (after (targeted code i) k) (suc i) m
    rest_on k i m f j l b = f j (omega arith) b ∙ past_both k i (name j) m (names i j l b)

    -- so each label and each item says what it should
    check_label : (k i : ℕ) (later : List Item) → definition_of (name i) items ≡ some (record { line = k; number = i })
        → check_from items k i (item label_row (name i ∷ []) ∷ later) ≡ check_from items (suc k) i later
    unfolding check_from said_at
    check_label k i later d = rw d (rw (eq-eqb k k refl) refl)

    check_item : (k i m : ℕ) → i < length code
        → check_from items (suc k) (suc i) (items_from (suc i) m) ≡ Code (instructions_from (suc i) m)
        → check_from items k i (item_at i ∷ items_from (suc i) m) ≡ Code (instructions_from i (suc m))
    unfolding check_from
    check_item k i m h e =
        let s : said_at items k i (item_at i) ≡ Instructs (instruction_at i)
        = said items k i (get_or code i 0) (instruction_at i) (encoded i h) (omega arith) (landing i h) in
        simp (s, no_label (address_of i) (instruction_at i), e)

    check_listing : (i m k : ℕ) → i + m ≤ length code → Rest k i m
        → check_from items k i (items_from i m) ≡ Code (instructions_from i m)
    unfolding check_from
    check_listing i zero k h f = refl
    check_listing i (suc m) k h f =
        go (targeted code i) refl (check_listing (suc i) m (after (targeted code i) k) (omega arith) (rest_on k i m f))
      where
        here : targeted code i ≡ true → definition_of (name i) items ≡ some (record { line = k; number = i })
        here t = f i (omega arith) (omega arith) ∙ rw t (at_label k i (item_at i ∷ items_from (suc i) m))

        go : (g : Bool) → targeted code i ≡ g
            → check_from items (after (targeted code i) k) (suc i) (items_from (suc i) m)
            ≡ Code (instructions_from (suc i) m)
            → check_from items k i (labelled g i (item_at i ∷ items_from (suc i) m))
            ≡ Code (instructions_from i (suc m))
        go true t e =
            check_label k i (item_at i ∷ items_from (suc i) m) (here t) ∙ check_item (suc k) i m (omega arith)
            (subst (λ (g : Bool). check_from items (after g k) (suc i) (items_from (suc i) m)
            ≡ Code (instructions_from (suc i) m)) t e)
        go false t e =
            check_item k i m (omega arith)
            (subst (λ (g : Bool). check_from items (after g k) (suc i) (items_from (suc i) m)
            ≡ Code (instructions_from (suc i) m)) t e)

    -- the halfwords come back
    halfwords : (i m : ℕ) → i + m ≡ length code → halfwords_of (instructions_from i m) ≡ drop i code
    halfwords i zero e = let l : i ≡ length code = omega arith in sym (rw l (drop-length code))
    halfwords i (suc m) e =
        let l : i < length code = omega arith in
        rw (encoded i l, halfwords (suc i) m (omega arith)) (sym (drop-cons code i 0 l))

    -- the listing is read as these items
    listing_read : read_from 1 (lines_of (listing_of code)) ≡ Items items
    unfolding listing_below
    listing_read =
        let all : 0 + length code ≡ length code = omega arith in
        let text : listing_from 0 (length code) ≡ listing_of code
        = listing_front 0 (length code) ∙ ap (listing_below code) all in
        subst (λ (t : Text). read_from 1 (lines_of t) ≡ Items items) text (list_read 0 (length code) 1 (omega arith))

    listed_lines : ListedLines code (listing_of code)
    listed_lines =
        record {
          items = items;
          says = read_says (lines_of (listing_of code)) (listing_of code) 1 items refl listing_read;
          count = count 0 (length code);
        }

    assembled : (size : ℕ) → 1 ≤ length code → length code ≤ size → assemble_of (listing_of code) size ≡ Assembles code
    unfolding assemble_of
    assembled size l n =
        let all : 0 + length code ≡ length code = omega arith in
        let checked : check_from items 1 0 items ≡ Code (instructions_from 0 (length code))
        = check_listing 0 (length code) 1 (omega arith) (λ j a b. refl) in
        rw listing_read (rw (count 0 (length code), checked) (rw (
          le-leb 1 (length code) l,
          le-leb (length code) most_code few,
          lengths 0 (length code),
          le-leb (length code) size n,
        ) (ap Assembles (halfwords 0 (length code) all))))

-- what the lister has found where it lists
pub record Listed (code : List ℕ) (t : Text) : Type 0 where
  pub some_code : 1 ≤ length code
  pub fits_image : length code ≤ most_code
  pub passes : (i : ℕ) → i < length code → Passes (layout_for code) (address_of i) (decoded_at code i)
  pub text : listing_of code ≡ t

listed : (code : List ℕ) (room : ℕ) (t : Text) → list_of code room ≡ Lists t → Listed code t
unfolding list_of
listed code room t e =
    let rows : List Asked = rows_below (checks_at code) (length code) in
    let last : List Asked = whole check.OutputLength (check16 code room) ∷ [] in
    let done = go (listing_of code) (first_no (list_checks code room)) e in
    let first : check15 code ≡ true = head_passed (whole check.CodeLength (check15 code)) (rows ++ last) done.0 in
    let all : first_no rows ≡ (Ok tt)
    = left_passed rows last (tail_passed (whole check.CodeLength (check15 code)) (rows ++ last) done.0) in
    record {
      some_code = leb-true 1 (length code) (and_left (leb 1 (length code)) (leb (length code) most_code) first);
      fits_image =
          leb-true (length code) most_code (and_right (leb 1 (length code)) (leb (length code) most_code) first);
      passes = λ i h.
          row_passes (layout_for code) (address_of i) (decoded_at code i)
          (each_passed (checks_at code) i (length code) h all);
      text = done.1;
    }
  where
    go : (s : Text) (a : Result ⊤ Refusal) → listing_as s a ≡ Lists t → (a ≡ (Ok tt)) × (s ≡ t)
    go s (Ok tt) e = (refl, cc)
    go s (Err r) e = clash (cc)

pub list_then_assemble : ListThenAssemble
list_then_assemble code room size t small e n =
    let l = listed code room t e in
    subst (λ (s : Text). assemble_of s size ≡ Assembles code) l.text
    (assembled code small l.fits_image l.passes size l.some_code (omega arith))

pub lists_lines : ListsLines
lists_lines code room t small e =
    let l = listed code room t e in
    subst (ListedLines code) l.text (listed_lines code small l.fits_image l.passes)
