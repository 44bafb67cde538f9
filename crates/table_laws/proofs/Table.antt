-- Every row by computing: a step on a halfword does what the halfword says.
use mathlib.Core.List.{List}
use mathlib.Core.Path.{◌≡◌, refl, ap, ◌∙◌}
use Prim.Native.Nat.{ℕ, ◌%◌}
use Rattle.units.specs.Bytes.{byte_of}
use Rattle.isa.specs.Decode.{decode_of}
use Rattle.cpu.specs.declared.machine.Machine.{Machine}
use Rattle.cpu.specs.Step.{completed, execute_of, execute_decoded, fetched, step_of, add_high_of, add_pc_of, asr_of}
use Rattle.cpu.specs.Step.{cmp_imm_of}
use Rattle.cpu.specs.Step.{neg_of}
use Rattle.cpu_laws.proofs.Steps.{step_decoded}
use Rattle.cpu.specs.Machine.{pc}
use Rattle.sums.specs.Sum.{sum_below}
use Rattle.image.specs.Block.{block_of}
use Rattle.image.specs.Check.{first_no, check2, check3, check4, check5, unused_zero, check6, check7, check8, rows_below}
use Rattle.image.specs.Check.{layout_of, check_of}
use Rattle.image.specs.Code.{code_at, code_length, code_of}
use Rattle.image.specs.Format.{tabulate_from}
use Rattle.packer.specs.Pack.{body_halfword, balance_of, image_halfword, image_of}
use Rattle.domain.specs.Value.{interval_of, add_of, and_of, eor_of}
use Rattle.targets.specs.Targets.{decoded_at, goes_to, targeted_below, targeted}
use Rattle.verifier.specs.Verify.{entering, verify_code, verify_of}
use lib.Count.{count_leading_zeros, count_trailing_zeros}
use Rattle.table_laws.specs.Table.{StandsOn, Gives, StarredRows}

step_on : (h : ℕ) (m : Machine) (memory : List ℕ) → pc m % 2 ≡ 0 → StandsOn h m memory
    → step_of m memory ≡ execute_decoded (decode_of h) m memory
unfolding fetched
step_on h m memory even on = step_decoded m memory (decode_of h) on.size even (ap decode_of on.there)

gives : (h : ℕ) (before after : Machine) → pc before % 2 ≡ 0
    → ((memory : List ℕ) → execute_decoded (decode_of h) before memory ≡ completed after memory)
    → Gives h before after
gives h before after even done memory on = step_on h before memory even on ∙ done memory

pub starred_rows : StarredRows
unfolding execute_of add_high_of add_pc_of asr_of cmp_imm_of neg_of block_of sum_below first_no check2 check3 check4
    check5
    unused_zero check6 check7 check8 rows_below layout_of check_of code_at code_length code_of tabulate_from
    body_halfword
    balance_of image_halfword byte_of image_of interval_of add_of and_of eor_of decoded_at goes_to targeted_below
    targeted entering
    verify_code verify_of count_leading_zeros count_trailing_zeros
starred_rows =
    record {
      row_0000 = (refl, step_on 0x0000);
      row_0001 = (refl, step_on 0x0001);
      row_4500 = (refl, step_on 0x4500);
      row_4540 = refl;
      row_DE00 = (refl, step_on 0xDE00);
      neg_8000 = λ f note. gives _ _ _ refl (λ memory. refl);
      neg_0 = λ f note. gives _ _ _ refl (λ memory. refl);
      cmp_8000_1 = λ f note. gives _ _ _ refl (λ memory. refl);
      add_FFFF_1 = λ f note. gives _ _ _ refl (λ memory. refl);
      asr_by_16 = λ f note. gives _ _ _ refl (λ memory. refl);
      asr_by_0100 = λ f note. gives _ _ _ refl (λ memory. refl);
      row_A001 = λ f note. gives _ _ _ refl (λ memory. refl);
      p_256 = refl;
      p_252 = refl;
      p_21FD = refl;
    }
