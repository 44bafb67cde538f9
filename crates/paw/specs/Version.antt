-- The library's version, which is 0.5.0, as one number: a later version has a larger one.
use Rattle.std.specs.Prelude.{ℕ, ◌+◌, ◌*◌}

abbrev pub version_number : ℕ → ℕ → ℕ → ℕ
version_number major minor patch = major * 0x10000 + minor * 0x100 + patch

abbrev pub version : ℕ
version = version_number 0 5 0
