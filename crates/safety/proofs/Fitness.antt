-- What the proofs use of a file that is fit.
use mathlib.Core.Bool.{true}
use mathlib.Core.List.{List}
use mathlib.Core.Path.{◌≡◌}
use Prim.Native.Nat.{ℕ, ◌+◌, ◌*◌, ◌≤◌, ◌<◌}
use lib.ListN.{length}
use Rattle.image.proofs.Valid.{valid_window, valid_code, valid_code_bytes}
use Rattle.image.specs.Code.{code_of}
use Rattle.image.specs.declared.checker.Layout.{Layout}
use Rattle.targets.specs.Targets.{goes_to, targeted}
use Rattle.verifier.specs.Verify.{verify_of}
use Rattle.verifier_laws.proofs.Targets.{goes_targeted}
use Rattle.verifier.proofs.Fit.{fit_checked}
use Rattle.verifier_laws.proofs.Verdict.{fit_passes}
use Rattle.verifier_laws.specs.Passes.{Passes}
use Rattle.std.specs.Prelude.{Ok}

pub record FitCode (code : List ℕ) (layout : Layout) : Type 0 where
  pub size : layout.code_bytes ≡ 2 * length code
  pub some : 0 < length code
  pub short : length code ≤ 15936
  pub after_code : layout.code_bytes ≤ layout.window_start
  pub in_memory : layout.window_start + layout.window_length ≤ 65536
  pub passed : (i : ℕ) → i < length code → Passes code layout i
  pub hits : (i j : ℕ) → i < length code → goes_to code i j ≡ true → targeted code j ≡ true

pub fit_code : (file : List ℕ) (layout : Layout) → verify_of file ≡ Ok layout → FitCode (code_of file) layout
fit_code file layout fit =
    let valid = fit_checked file layout fit in
    let window = valid_window file layout valid in
    record {
      size = valid_code_bytes file layout valid;
      some = (valid_code file layout valid).0;
      short = (valid_code file layout valid).1;
      after_code = window.after_code;
      in_memory = window.in_memory;
      passed = fit_passes file layout fit;
      hits = λ i j h e. goes_targeted (code_of file) j i h e;
    }
