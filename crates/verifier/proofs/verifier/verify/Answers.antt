-- What checks 2 to 8 accept has a code that fits.
use Rattle.std.proofs.Common.{◌≡◌, sym, ◌∙◌}
use Rattle.image.specs.Check.{check_of}
use Rattle.image.proofs.Valid.{valid_code}
use Rattle.verifier.proofs.verifier.verify.Goals as goal
use Rattle.std.specs.Prelude.{Ok}

pub invariant_of-walk : goal.invariant_of-walk
invariant_of-walk c =
    let ok : check_of c.args.file.now ≡ Ok c.in_ok-layout.layout = sym c.check.ensures ∙ c.in_ok-layout.was in
    let right = valid_code _ _ ok in
    record { accepted = ok; some_code = right.0; fits = right.1 }
