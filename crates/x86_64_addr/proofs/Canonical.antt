-- Canonical values are the raw values of their positions.
use Rattle.std.proofs.Common.{◌≡◌, inl, inr, ℕ, ◌+◌, ◌-◌, ◌/◌, ◌%◌, ◌^◌, ◌<◌, arith, rules}
use Rattle.x86_64_model.specs.Position.{raw, IsCanonical, position_count}
use Rattle.x86_64_addr.specs.Levels.{IsLevelCount}

of_four : (n : ℕ) → IsCanonical 4 n → raw 4 (n % position_count 4) ≡ n
of_four n c = search rules

of_five : (n : ℕ) → IsCanonical 5 n → raw 5 (n % position_count 5) ≡ n
of_five n c = search rules

pub raw_of_canonical : (L n : ℕ) → IsLevelCount L → IsCanonical L n → raw L (n % position_count L) ≡ n
raw_of_canonical L n (inl four) c = rw four (of_four n (rw four at c))
raw_of_canonical L n (inr five) c = rw five (of_five n (rw five at c))

pub canonical_below : (L n : ℕ) → IsLevelCount L → IsCanonical L n → n < 2 ^ 64
canonical_below L n (inl four) c = search rules
canonical_below L n (inr five) c = search rules

-- a value whose bits above the highest bit of its position are set to that bit, as the code computes it
abbrev pub extended : (half count n : ℕ) → ℕ
extended half count n = ((n + half / 2) % 0x1_0000_0000_0000_0000 % count + (0x1_0000_0000_0000_0000 - half / 2)) % 0x1_0000_0000_0000_0000

canonical_four : (n : ℕ) → IsCanonical 4 (extended (2 ^ 48) (2 ^ 48) n)
canonical_four n = grind arith

canonical_five : (n : ℕ) → IsCanonical 5 (extended (2 ^ 57) (2 ^ 57) n)
canonical_five n = grind arith

position_four : (n : ℕ) → extended (2 ^ 48) (2 ^ 48) n % position_count 4 ≡ n % position_count 4
position_four n = omega arith

position_five : (n : ℕ) → extended (2 ^ 57) (2 ^ 57) n % position_count 5 ≡ n % position_count 5
position_five n = omega arith

module _ (L n half count : ℕ) (is_half : half ≡ position_count L) (is_count : count ≡ position_count L) where
  pub extended_canonical : IsLevelCount L → IsCanonical L (extended half count n)
  extended_canonical (inl four) = rw (is_half, is_count, four) (canonical_four n)
  extended_canonical (inr five) = rw (is_half, is_count, five) (canonical_five n)

  pub extended_position : IsLevelCount L → extended half count n % position_count L ≡ n % position_count L
  extended_position (inl four) = rw (is_half, is_count, four) (position_four n)
  extended_position (inr five) = rw (is_half, is_count, five) (position_five n)
