-- The fields of a halfword ("Encodings": bits are numbered from 0).
use Rattle.std.specs.Prelude.{ℕ, ◌+◌, ◌*◌, ◌/◌, ◌%◌, ◌^◌}

-- `field h k n` is the n bits of h from bit k up
abbrev pub field : ℕ → ℕ → ℕ → ℕ
field h k n = h / 2 ^ k % 2 ^ n

-- any of the sixteen registers: H2 adds 8 to Rs, H1 adds 8 to Rd
abbrev pub high_rs : ℕ → ℕ
high_rs h = field h 6 1 * 8 + field h 3 3

abbrev pub high_rd : ℕ → ℕ
high_rd h = field h 7 1 * 8 + field h 0 3
