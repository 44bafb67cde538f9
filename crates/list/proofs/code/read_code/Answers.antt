-- Each turn adds the code's next halfword, which lies in the file, and there is room for all.
use Rattle.std.proofs.Common.{[], ◌∷◌, ◌++◌, ◌≡◌, sym, ap, ◌∙◌, ℕ, suc, ◌+◌, ◌<◌, List, length, take, arith, Ok}
use Rattle.std.proofs.Math.Seq.{take-suc}
use Rattle.std.proofs.lemmas.List.{length-take-le, take_all}
use Rattle.units.specs.Address.{instruction_index_of}
use Rattle.units.specs.declared.address.InstructionIndex.{InstructionIndex}
use Rattle.image.specs.Check.{check_of}
use Rattle.image.specs.Code.{code_of}
use Rattle.image.specs.declared.checker.Layout.{Layout}
use Rattle.image.proofs.Valid.{code_halfword_is, code_in_file, valid_code, valid_code_bytes}
use Rattle.list.proofs.code.read_code.Goals as goal

-- the loop goes over the whole code
counted : (file : List ℕ) (layout : Layout) (end : InstructionIndex)
    → check_of file ≡ Ok layout → end ≡ instruction_index_of (record { 0 = layout.code_bytes })
    → end.0 ≡ length (code_of file)
counted file layout end valid is =
    ap (λ (k : InstructionIndex). k.0) is ∙ omega (arith, valid_code_bytes file layout valid)

pub code_at-h-requires : goal.code_at-h-requires
code_at-h-requires c =
    let n = counted _ _ _ c.requires.checked c.count-i-end.ensures in
    code_in_file _ _ c.requires.checked c.loop-i.i (omega arith)

pub push-requires : goal.push-requires
push-requires c =
    let n = counted _ _ _ c.requires.checked c.count-i-end.ensures in
    let most = (valid_code _ _ c.requires.checked).1 in
    let so_far = ap length c.loop-i.invariant ∙ length-take-le c.loop-i.i _ (omega arith) in
    (omega arith, omega arith)

pub loop-i-preserved : goal.loop-i-preserved
loop-i-preserved c =
    let n = counted _ _ _ c.requires.checked c.count-i-end.ensures in
    let all = code_of c.args.file.now in
    let i = c.loop-i.i in
    let inside : i < length all = omega arith in
    let one_more : suc i ≡ i + 1 = omega arith in
    let halfword = c.code_at-h.ensures ∙ sym (code_halfword_is c.args.file.now i inside) in
    c.push.ensures.items ∙ ap (λ (xs : List ℕ). xs ++ c.code_at-h.result ∷ []) c.loop-i.invariant
    ∙ ap (λ (h : ℕ). take i all ++ h ∷ []) halfword ∙ sym (take-suc all i 0 inside)
    ∙ ap (λ (k : ℕ). take k all) one_more

pub returns : goal.returns
returns c =
    let n = counted _ _ _ c.requires.checked c.count-i-end.ensures in
    c.loop-i.invariant ∙ take_all c.loop-i.i _ (omega arith)
