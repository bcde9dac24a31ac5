-- The page that has given indices.
use Rattle.std.specs.Prelude.{◌≡◌, ℕ, ◌+◌, ◌*◌, ◌<◌}
use Rattle.std.proofs.Common.{arith}
use Rattle.x86_64_addr.specs.Position.{span, index}

-- a position has the indices of each level, that of level four first
pub record HasIndices (position p4 p3 p2 p1 : ℕ) : Type 0 where
  pub level_four : index 4 position ≡ p4
  pub level_three : index 3 position ≡ p3
  pub level_two : index 2 position ≡ p2
  pub level_one : index 1 position ≡ p1

pub start_has_indices : (p4 p3 p2 p1 : ℕ) → p4 < 512 → p3 < 512 → p2 < 512 → p1 < 512
    → HasIndices (p4 * span 4 + p3 * span 3 + p2 * span 2 + p1 * span 1) p4 p3 p2 p1
unfolding index
start_has_indices p4 p3 p2 p1 in4 in3 in2 in1 =
    record { level_four = omega arith; level_three = omega arith; level_two = omega arith; level_one = omega arith }
