-- Lists of blocks are the ranges of the definition.
use Rattle.std.specs.Prelude.{zero, suc, ◌≡◌, ℕ, ◌+◌, ◌-◌, ◌*◌, ◌/◌, ◌<◌, ◌≤◌, nat_lt, Bool, true, false, cond, [], ◌∷◌, map}
use Rattle.std.specs.List.{range_with_len}
use Rattle.std.proofs.Common.{refl, ap, ◌∙◌, arith}
use Rattle.std.proofs.Math.Nat.{add-div_right, div-eq_of_lt}
use Rattle.std.proofs.lemmas.Bool.{ltb-true, ltb-false}
use Rattle.x86_64_model.specs.Range.{starts_from}
use Rattle.x86_64_page.specs.Blocks.{blocks_from, blocks_inclusive}
use Rattle.x86_64_page.specs.Ranges.{BlocksAreTheRange, InclusiveBlocksAreTheRange}

-- the blocks from the one with a number on
blocks_from_number : (size first number count : ℕ)
    → blocks_from size (first + number * size) count ≡ map (λ k. first + k * size) (range_with_len number count)
blocks_from_number size first number zero = refl
blocks_from_number size first number (suc n) =
    let next : first + number * size + size ≡ first + (number + 1) * size = omega arith in
    ap (λ l. (first + number * size) ∷ l) (ap (λ p. blocks_from size p n) next ∙ blocks_from_number size first (number + 1) n)

blocks_from_are_starts : (size first count : ℕ) → blocks_from size first count ≡ starts_from size first count
blocks_from_are_starts size first count =
    let front : first ≡ first + 0 * size = omega arith in
    ap (λ p. blocks_from size p count) front ∙ blocks_from_number size first 0 count

pub blocks_are_the_range : BlocksAreTheRange
blocks_are_the_range size start end = blocks_from_are_starts size start ((end - start) / size)

-- the number of blocks with the one at the end
count_inclusive : (size start end : ℕ) → 0 < size → start ≤ end → (end + size - start) / size ≡ (end - start) / size + 1
count_inclusive size start end positive up =
    let bytes : end + size - start ≡ (end - start) + size = omega arith in
    ap (λ b. b / size) bytes ∙ add-div_right (end - start) positive

inclusive_at : (size start end : ℕ) → 0 < size → (none : Bool) → nat_lt end start ≡ none
    → blocks_inclusive size start end ≡ cond none [] (starts_from size start ((end - start) / size + 1))
inclusive_at size start end positive true is =
    let down = ltb-true end start is in
    let few : end + size - start < size = omega arith in
    ap (blocks_from size start) (div-eq_of_lt few)
inclusive_at size start end positive false is =
    let up = ltb-false end start is in
    ap (blocks_from size start) (count_inclusive size start end positive up) ∙ blocks_from_are_starts size start ((end - start) / size + 1)

pub inclusive_blocks_are_the_range : InclusiveBlocksAreTheRange
inclusive_blocks_are_the_range size start end positive = inclusive_at size start end positive (nat_lt end start) refl
