-- Taking n + 1 blocks from a range equals taking n and then one more.
use Rattle.std.specs.Prelude.{◌≡◌, ◌⊎◌, ℕ, zero, suc, ◌+◌, ◌-◌, ◌*◌, ◌/◌, ◌%◌, ◌<◌, ◌≤◌, min, nat_le, true, false, length}
use Rattle.std.proofs.Common.{inl, inr, refl, sym, ap, subst, arith}
use Rattle.std.proofs.Math.Nat.{min-eq_left, min-eq_right, min-zero, zero-min}
use Rattle.std.proofs.lemmas.Bool.Decides.{leb_tells}
use Rattle.x86_64_page.specs.Blocks.{IsBlockSize, blocks_from, blocks}
use Rattle.x86_64_page.specs.TakenInTurn.{AreTakenInTurn}

-- what holds of each of the three sizes
pub by_size : (P : ℕ → Type 0) → P 0x1000 → P 0x20_0000 → P 0x4000_0000 → (size : ℕ) → IsBlockSize size → P size
by_size P a b c z (inl e) = subst P (sym e) a
by_size P a b c z (inr (inl e)) = subst P (sym e) b
by_size P a b c z (inr (inr e)) = subst P (sym e) c

pub length-blocks_from : (size start count : ℕ) → length (blocks_from size start count) ≡ count
length-blocks_from z s zero = refl
length-blocks_from z s (suc n) = ap suc (length-blocks_from z (s + z) n)

-- if more than n were left, one more is left after n
pub left_some : (size start end n : ℕ) → IsBlockSize size → start % size ≡ 0 → end % size ≡ 0 → n < (end - start) / size
    → (1 ≤ (end - (start + n * size)) / size) × (1 ≤ (end - n * size - start) / size)
left_some z s e n k = by_size (λ z. s % z ≡ 0 → e % z ≡ 0 → n < (e - s) / z → (1 ≤ (e - (s + n * z)) / z) × (1 ≤ (e - n * z - s) / z))
    (λ a b l. (omega arith, omega arith)) (λ a b l. (omega arith, omega arith)) (λ a b l. (omega arith, omega arith)) z k

-- if all were taken, none is left
pub left_none : (size start end : ℕ) → IsBlockSize size → start % size ≡ 0 → end % size ≡ 0
    → ((end - (start + (end - start) / size * size)) / size ≡ 0) × ((end - (end - start) / size * size - start) / size ≡ 0)
left_none z s e k = by_size (λ z. s % z ≡ 0 → e % z ≡ 0 → ((e - (s + (e - s) / z * z)) / z ≡ 0) × ((e - (e - s) / z * z - s) / z ≡ 0))
    (λ a b. (omega arith, omega arith)) (λ a b. (omega arith, omega arith)) (λ a b. (omega arith, omega arith)) z k

-- the same in numbers, for the start that is raised and for the end that is lowered
pub raised : (size start end n count : ℕ) → IsBlockSize size → start % size ≡ 0 → end % size ≡ 0 → count ≡ (end - start) / size
    → ((nat_le (suc n) count ≡ true) × (suc n ≤ count)) ⊎ ((nat_le (suc n) count ≡ false) × (count < suc n))
    → start + min n count * size + min 1 ((end - (start + min n count * size)) / size) * size ≡ start + min (n + 1) count * size
raised z s e n c k a b is (inl y) =
    let i : min n c ≡ n = min-eq_left (omega (arith, y.1)) in
    let j : min (n + 1) c ≡ n + 1 = min-eq_left (omega (arith, y.1)) in
    let one : min 1 ((e - (s + n * z)) / z) ≡ 1 = let l = left_some z s e n k a b (omega (arith, y.1)) in min-eq_left l.0 in
    rw (i, j, one) (omega arith)
raised z s e n c k a b is (inr y) =
    let i : min n c ≡ c = min-eq_right (omega (arith, y.1)) in
    let j : min (n + 1) c ≡ c = min-eq_right (omega (arith, y.1)) in
    let l = left_none z s e k a b in
    rw (i, j, is, l.0, min-zero 1) (omega arith)

lowered : (size start end n count : ℕ) → IsBlockSize size → start % size ≡ 0 → end % size ≡ 0 → count ≡ (end - start) / size
    → ((nat_le (suc n) count ≡ true) × (suc n ≤ count)) ⊎ ((nat_le (suc n) count ≡ false) × (count < suc n))
    → end - min n count * size - min 1 ((end - min n count * size - start) / size) * size ≡ end - min (n + 1) count * size
lowered z s e n c k a b is (inl y) =
    let i : min n c ≡ n = min-eq_left (omega (arith, y.1)) in
    let j : min (n + 1) c ≡ n + 1 = min-eq_left (omega (arith, y.1)) in
    let one : min 1 ((e - n * z - s) / z) ≡ 1 = let l = left_some z s e n k a b (omega (arith, y.1)) in min-eq_left l.1 in
    rw (i, j, one) (omega arith)
lowered z s e n c k a b is (inr y) =
    let i : min n c ≡ c = min-eq_right (omega (arith, y.1)) in
    let j : min (n + 1) c ≡ c = min-eq_right (omega (arith, y.1)) in
    let l = left_none z s e k a b in
    rw (i, j, is, l.1, min-zero 1) (omega arith)

pub taken_in_turn : (size : ℕ) → IsBlockSize size → AreTakenInTurn size
taken_in_turn z k =
    record {
      none = λ r. let zero_of : min 0 (length (blocks z r.start r.end)) ≡ 0 = zero-min (length (blocks z r.start r.end)) in
          ap (λ p. record { start = p; end = r.end }) (rw zero_of (omega arith));
      front = λ r n a b. ap (λ p. record { start = p; end = r.end })
          (let c = length-blocks_from z r.start ((r.end - r.start) / z) in
          let d = length-blocks_from z (r.start + min n (length (blocks z r.start r.end)) * z) ((r.end - (r.start + min n (length (blocks z r.start r.end)) * z)) / z) in
          rw d (raised z r.start r.end n (length (blocks z r.start r.end)) k a b c (leb_tells (suc n) (length (blocks z r.start r.end)))));
      none_back = λ r. let zero_of : min 0 (length (blocks z r.start r.end)) ≡ 0 = zero-min (length (blocks z r.start r.end)) in
          ap (λ p. record { start = r.start; end = p }) (rw zero_of (omega arith));
      back = λ r n a b. ap (λ p. record { start = r.start; end = p })
          (let c = length-blocks_from z r.start ((r.end - r.start) / z) in
          let d = length-blocks_from z r.start ((r.end - min n (length (blocks z r.start r.end)) * z - r.start) / z) in
          rw d (lowered z r.start r.end n (length (blocks z r.start r.end)) k a b c (leb_tells (suc n) (length (blocks z r.start r.end)))));
    }
