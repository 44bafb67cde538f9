-- P is fit, its image is bytes, and zeros are bytes.
use mathlib.Core.List.{List}
use Prim.Native.Nat.{ℕ, ◌≤◌, ◌<◌}
use native.Mathlib.Decide.{dec_lt}
use native.Mathlib.Omega.{arith}
use lib.Dec.{T, ltb, ltb→lt}
use lib.ListN.{length, get_or, replicate, length-replicate, get_or-replicate, get_or-eq_default}
use Rattle.units.specs.Bytes.{byte_at, byte_of}
use Rattle.units.proofs.Every.{every, at}
use Rattle.sums.specs.Sum.{sum_below}
use Rattle.image.specs.Format.{tabulate_from}
use Rattle.packer.specs.Pack.{body_halfword, balance_of, image_halfword, image_of}
use Rattle.table_laws.proofs.Table.{starred_rows}
use Rattle.safety.specs.Instance.{image_p, layout_p, memory_p, InstanceP}
use Rattle.safety.proofs.Loads.{loaded_holds}
use Rattle.safety.proofs.Demand3.{demand_3}

-- a list of so many numbers below 256 that a test computes is bytes throughout
all_bytes : (l : List ℕ) → T (every (λ a. ltb (get_or l a 0) 256) (length l)) → (a : ℕ) → get_or l a 0 < 256
all_bytes l t a = go (dec_lt a (length l))
  where
    go : Dec (a < length l) → get_or l a 0 < 256
    go (yes h) = ltb→lt (get_or l a 0) 256 (at (λ b. ltb (get_or l b 0) 256) (length l) t a h)
    go (no h) = let p : length l ≤ a = omega arith in rw (get_or-eq_default l 0 p) (omega arith)

image_bytes : (a : ℕ) → byte_at image_p a < 256
unfolding sum_below tabulate_from body_halfword balance_of image_halfword byte_of image_of
image_bytes a = all_bytes image_p tt a

zero_bytes : (a : ℕ) → byte_at (replicate 65536 0) a < 256
zero_bytes a = go (dec_lt a 65536)
  where
    go : Dec (a < 65536) → byte_at (replicate 65536 0) a < 256
    go (yes h) = rw (get_or-replicate {A = ℕ} 65536 a 0 0 h) (omega arith)
    go (no h) =
        let p : length (replicate {A = ℕ} 65536 0) ≤ a = omega (arith, length-replicate {A = ℕ} 65536 0) in
        rw (get_or-eq_default (replicate {A = ℕ} 65536 0) 0 p) (omega arith)

pub instance_p : InstanceP
instance_p m s budget =
    demand_3 image_p layout_p starred_rows.p_256 memory_p
    (loaded_holds image_p (replicate 65536 0) image_bytes zero_bytes layout_p (omega arith)) m s budget
