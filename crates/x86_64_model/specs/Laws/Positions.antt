-- Laws of positions (the numbers of addresses counted without the gap), of addresses and of spans.
use Rattle.std.specs.Prelude.{◌≡◌, ◌⊎◌, ◌↔◌, ◌<◌, ◌≤◌, ◌+◌, ◌%◌, ℕ, true, List, length}
use Rattle.x86_64_model.specs.Position.{position_count, raw, IsCanonical, page_path}
use Rattle.x86_64_model.specs.Path.{AllBelow, begins, span_start, span_size}

-- With L levels each position (the number of an address counted without the gap) is that of exactly one canonical address, and
-- addresses have the order of their positions.
pub record AreAddresses (L : ℕ) : Type 0 where
  pub canonical : (p : ℕ) → p < position_count L → IsCanonical L (raw L p)
  pub position : (p : ℕ) → p < position_count L → raw L p % position_count L ≡ p
  pub address : (n : ℕ) → IsCanonical L n → raw L (n % position_count L) ≡ n
  pub order : (p q : ℕ) → p < position_count L → q < position_count L → p < q ↔ (raw L p < raw L q)

-- With four levels and with five, each position (the number of an address counted without the gap) is that of exactly one
-- canonical address, and addresses have the order of their positions.
abbrev pub PositionsAreAddresses : Type 0
PositionsAreAddresses = (L : ℕ) → (L ≡ 4) ⊎ (L ≡ 5) → AreAddresses L

-- The positions whose first indices are a path's form an interval, as long as the span of its entry.
abbrev pub SpansAreIntervals : Type 0
SpansAreIntervals = (L : ℕ) (q : List ℕ) (p : ℕ) → 1 ≤ length q → length q ≤ L → AllBelow q → p < position_count L
    → begins q (page_path L p) ≡ true ↔ (span_start L q ≤ p) × (p < span_start L q + span_size L q)
