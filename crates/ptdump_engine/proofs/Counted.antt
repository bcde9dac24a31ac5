-- Counted: how many mappings there can be, and how many bytes they can map.
use Rattle.std.proofs.Common.{◌≡◌, ◌∙◌, ◌≤◌, ◌<◌, ◌+◌, ◌*◌, ◌^◌, ℕ, List, [], ◌∷◌, length, sum_by, sym, ap, arith}
use Rattle.std.proofs.lemmas.List.Sums.{sum_by-cons}
use Rattle.std.proofs.Math.Pow.{pow_mono}
use Rattle.x86_64_model.specs.Mappings.{Mapping, mappings_of}
use Rattle.x86_64_model.specs.Memory.{Words}
use Rattle.x86_64_model.specs.Position.{position_count}
use Rattle.x86_64_model.proofs.Lemmas.Mappings.Chains.{IsChain}
use Rattle.x86_64_model.proofs.Lemmas.Mappings.Positions.{mappings_chain}

-- mappings that are apart are no more than their bytes, which end where the last one does
within : (a b : ℕ) (ms : List Mapping) → IsChain a b ms → (length ms ≤ sum_by (λ m. m.size) ms) × (a + sum_by (λ m. m.size) ms ≤ b)
within a b [] h = (omega arith, omega (arith, h))
within a b (m ∷ ms) h =
    let rest = within (m.start + m.size) b ms h.2 in
    let sum = sum_by-cons (λ m. m.size) m ms in
    (omega (arith, sum, rest.0, h.1), omega (arith, sum, rest.1, h.0))

-- both numbers are less than 2^64
pub counted_fits : (L : ℕ) (T : Words) (root : ℕ) → L ≤ 5 → (length (mappings_of L T root) ≤ 2 ^ 57) × (sum_by (λ m. m.size) (mappings_of L T root) ≤ 2 ^ 57)
counted_fits L T root few =
    let both = within 0 (position_count L) (mappings_of L T root) (mappings_chain L T root) in
    let levels : 12 + 9 * L ≤ 57 = omega (arith, few) in
    let most : position_count L ≤ 2 ^ 57 = pow_mono levels in
    (omega (arith, both.0, both.1, most), omega (arith, both.1, most))

-- one mapping more is counted
pub one_more : (L : ℕ) (T : Words) (root count bytes : ℕ) (all left rest : List Mapping) (m : Mapping) → L ≤ 5 → all ≡ mappings_of L T root → left ≡ m ∷ rest
    → (count + length left ≡ length all) × (bytes + sum_by (λ m. m.size) left ≡ sum_by (λ m. m.size) all) → (count + 1 < 2 ^ 64) × (bytes + m.size < 2 ^ 64)
one_more L T root count bytes all left rest m few are more so_far =
    let fits = counted_fits L T root few in
    let number : count + length (m ∷ rest) ≡ length (mappings_of L T root) = ap (λ ms. count + length ms) (sym more) ∙ so_far.0 ∙ ap length are in
    let size : bytes + sum_by (λ m. m.size) (m ∷ rest) ≡ sum_by (λ m. m.size) (mappings_of L T root) =
    ap (λ ms. bytes + sum_by (λ m. m.size) ms) (sym more) ∙ so_far.1 ∙ ap (sum_by (λ m. m.size)) are in
    let sum = sum_by-cons (λ m. m.size) m rest in
    (omega (arith, number, fits.0), omega (arith, size, sum, fits.1))

-- all are counted
pub none_left : (L : ℕ) (T : Words) (root count bytes : ℕ) (all left : List Mapping) → all ≡ mappings_of L T root → left ≡ []
    → (count + length left ≡ length all) × (bytes + sum_by (λ m. m.size) left ≡ sum_by (λ m. m.size) all)
    → (count ≡ length (mappings_of L T root)) × (bytes ≡ sum_by (λ m. m.size) (mappings_of L T root))
none_left L T root count bytes all left are none so_far =
    let number : count + 0 ≡ length (mappings_of L T root) = ap (λ ms. count + length ms) (sym none) ∙ so_far.0 ∙ ap length are in
    let size : bytes + 0 ≡ sum_by (λ m. m.size) (mappings_of L T root) =
    ap (λ ms. bytes + sum_by (λ m. m.size) ms) (sym none) ∙ so_far.1 ∙ ap (sum_by (λ m. m.size)) are in
    (omega (arith, number), omega (arith, size))
