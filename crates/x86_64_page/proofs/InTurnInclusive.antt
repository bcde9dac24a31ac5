-- Taking n + 1 blocks from a range that includes its end equals taking n and then one more.
use Rattle.std.specs.Prelude.{◌≡◌, ◌⊎◌, ℕ, suc, ◌+◌, ◌-◌, ◌*◌, ◌/◌, ◌%◌, ◌<◌, ◌≤◌, min, cond, nat_lt, nat_le, Bool, true, false, length}
use Rattle.std.proofs.Common.{inl, inr, refl, sym, ap, ap₂, ◌∙◌, arith}
use Rattle.std.proofs.Math.Nat.{min-eq_left, min-eq_right, min-zero, zero-min}
use Rattle.std.proofs.lemmas.Bool.Decides.{leb_tells}
use Rattle.std.proofs.lemmas.Bool.{lt-ltb, le-ltb, ltb-false, le-leb, leb-true, leb-false, lt-leb}
use Rattle.x86_64_page.specs.Blocks.{IsLimit, blocks, blocks_inclusive, front_taken_inclusive, back_taken_inclusive, IsBlockSize}
use Rattle.x86_64_page.proofs.InTurn.{by_size, length-blocks_from, left_some, left_none, raised}
use Rattle.x86_64_page.specs.TakenInTurnInclusive.{AreTakenInTurnInclusive}

-- two blocks have room below the limit
pub two_fit : (size limit : ℕ) → IsBlockSize size → IsLimit limit → size + size ≤ limit
two_fit z m k (inl h) = rw h (by_size (λ z. z + z ≤ 0x1_0000_0000_0000) (omega arith) (omega arith) (omega arith) z k)
two_fit z m k (inr (inl h)) = rw h (by_size (λ z. z + z ≤ 0x10_0000_0000_0000) (omega arith) (omega arith) (omega arith) z k)
two_fit z m k (inr (inr h)) = rw h (by_size (λ z. z + z ≤ 0x200_0000_0000_0000) (omega arith) (omega arith) (omega arith) z k)

-- if blocks that were taken lead to the limit, the end is at the limit too
reaches : (size limit start end n count : ℕ) → IsBlockSize size → start % size ≡ 0 → end % size ≡ 0 → count ≡ (end - start) / size → start < limit
    → ((nat_le (suc n) count ≡ true) × (suc n ≤ count)) ⊎ ((nat_le (suc n) count ≡ false) × (count < suc n))
    → limit ≤ start + min n count * size → limit ≤ end
reaches z m s e n c k a b is o (inl y) =
    let i : min n c ≡ n = min-eq_left (omega (arith, y.1)) in
    let l = by_size (λ z. s % z ≡ 0 → e % z ≡ 0 → n < (e - s) / z → s + n * z ≤ e) (λ a b l. omega arith) (λ a b l. omega arith) (λ a b l. omega arith) z k a b (omega (arith, y.1, is)) in
    rw i (λ h. omega arith)
reaches z m s e n c k a b is o (inr y) =
    let i : min n c ≡ c = min-eq_right (omega (arith, y.1)) in
    rw (i, is) (by_size (λ z. s % z ≡ 0 → e % z ≡ 0 → m ≤ s + (e - s) / z * z → m ≤ e) (λ a b h. omega arith) (λ a b h. omega arith) (λ a b h. omega arith) z k a b)

-- the number of bytes that are taken in turn
added : (size start end n count : ℕ) → IsBlockSize size → start % size ≡ 0 → end % size ≡ 0 → count ≡ (end - start) / size
    → ((nat_le (suc n) count ≡ true) × (suc n ≤ count)) ⊎ ((nat_le (suc n) count ≡ false) × (count < suc n))
    → min n count * size + min 1 ((end - min n count * size - start) / size) * size ≡ min (n + 1) count * size
added z s e n c k a b is (inl y) =
    let i : min n c ≡ n = min-eq_left (omega (arith, y.1)) in
    let j : min (n + 1) c ≡ n + 1 = min-eq_left (omega (arith, y.1)) in
    let one : min 1 ((e - n * z - s) / z) ≡ 1 = let l = left_some z s e n k a b (omega (arith, y.1)) in min-eq_left l.1 in
    rw (i, j, one) (omega arith)
added z s e n c k a b is (inr y) =
    let i : min n c ≡ c = min-eq_right (omega (arith, y.1)) in
    let j : min (n + 1) c ≡ c = min-eq_right (omega (arith, y.1)) in
    let l = left_none z s e k a b in
    rw (i, j, is, l.1, min-zero 1) (omega arith)

next_aligned : (size place : ℕ) → IsBlockSize size → place % size ≡ 0 → (place + size) % size ≡ 0
next_aligned z p k = by_size (λ z. p % z ≡ 0 → (p + z) % z ≡ 0) (λ b. omega arith) (λ b. omega arith) (λ b. omega arith) z k

no_blocks : (size start : ℕ) → IsBlockSize size → min 1 (length (blocks size start start)) * size ≡ 0
no_blocks z s k =
    let c = length-blocks_from z s ((s - s) / z) in
    let none : (s - s) / z ≡ 0 = by_size (λ z. (s - s) / z ≡ 0) (omega arith) (omega arith) (omega arith) z k in
    rw (c, none, min-zero 1) (omega arith)

front_next : (size limit start end n : ℕ) → IsBlockSize size → IsLimit limit → start % size ≡ 0 → end % size ≡ 0 → start < limit → end < limit
    → (is : Bool) → nat_lt (start + min n (length (blocks_inclusive size start end)) * size) limit ≡ is
    → front_taken_inclusive size limit 1 (cond is (record { start = start + min n (length (blocks_inclusive size start end)) * size; end = end }) (record { start = end; end = end - size }))
    ≡ front_taken_inclusive size limit (n + 1) (record { start = start; end = end })
front_next z m s e n k j a b o l true is =
    let t : ℕ = s + min n (length (blocks_inclusive z s e)) * z in
    let c = length-blocks_from z s ((e + z - s) / z) in
    let d = length-blocks_from z t ((e + z - t) / z) in
    let q : t + min 1 (length (blocks_inclusive z t e)) * z ≡ s + min (n + 1) (length (blocks_inclusive z s e)) * z =
    rw d (raised z s (e + z) n (length (blocks_inclusive z s e)) k a (next_aligned z e k b) c (leb_tells (suc n) (length (blocks_inclusive z s e)))) in
    ap (λ q. cond (nat_lt q m) (record { start = q; end = e }) (record { start = e; end = e - z })) q
front_next z m s e n k j a b o l false is =
    let t : ℕ = s + min n (length (blocks_inclusive z s e)) * z in
    let past : m ≤ t = ltb-false t m is in
    let c = length-blocks_from z s ((e + z - s) / z) in
    let tells = leb_tells (suc n) (length (blocks_inclusive z s e)) in
    let ends : m ≤ e + z = reaches z m s (e + z) n (length (blocks_inclusive z s e)) k a (next_aligned z e k b) c o tells past in
    let wide : z + z ≤ m = two_fit z m k j in
    let whole : e - z + z ≡ e = omega arith in
    let d = length-blocks_from z t ((e + z - t) / z) in
    let q : t + min 1 ((e + z - t) / z) * z ≡ s + min (n + 1) (length (blocks_inclusive z s e)) * z =
    raised z s (e + z) n (length (blocks_inclusive z s e)) k a (next_aligned z e k b) c tells in
    let here : e + min 1 (length (blocks_inclusive z e (e - z))) * z ≡ e = ap (λ f. e + min 1 (length (blocks z e f)) * z) whole ∙ (let n = no_blocks z e k in omega arith) in
    ap (λ q. cond (nat_lt q m) (record { start = q; end = e - z }) (record { start = e - z; end = e - z - z })) here
    ∙ ap (λ b. cond b (record { start = e; end = e - z }) (record { start = e - z; end = e - z - z })) (lt-ltb e m l)
    ∙ sym (ap (λ b. cond b (record { start = s + min (n + 1) (length (blocks_inclusive z s e)) * z; end = e }) (record { start = e; end = e - z }))
    (le-ltb (s + min (n + 1) (length (blocks_inclusive z s e)) * z) m (omega (arith, q, past))))

same_test : (x y z : ℕ) → x ≤ z → nat_le y (z - x) ≡ nat_le (x + y) z
same_test x y z h = by (leb_tells y (z - x))
  where
    by : ((nat_le y (z - x) ≡ true) × (y ≤ z - x)) ⊎ ((nat_le y (z - x) ≡ false) × (z - x < y)) → nat_le y (z - x) ≡ nat_le (x + y) z
    by (inl t) = t.0 ∙ sym (le-leb (x + y) z (omega (arith, t.1)))
    by (inr f) = f.0 ∙ sym (lt-leb (x + y) z (omega (arith, f.1)))

back_next : (size start end n : ℕ) → IsBlockSize size → start % size ≡ 0 → end % size ≡ 0
    → (is : Bool) → nat_le (min n (length (blocks_inclusive size start end)) * size) end ≡ is
    → back_taken_inclusive size 1 (cond is (record { start = start; end = end - min n (length (blocks_inclusive size start end)) * size }) (record { start = start + size; end = start }))
    ≡ back_taken_inclusive size (n + 1) (record { start = start; end = end })
back_next z s e n k a b true is =
    let t : ℕ = min n (length (blocks_inclusive z s e)) * z in
    let within : t ≤ e = leb-true t e is in
    let c = length-blocks_from z s ((e + z - s) / z) in
    let d = length-blocks_from z s ((e - t + z - s) / z) in
    let whole : e - t + z ≡ e + z - t = omega arith in
    let q : t + min 1 (length (blocks_inclusive z s (e - t))) * z ≡ min (n + 1) (length (blocks_inclusive z s e)) * z =
    rw (d, whole) (added z s (e + z) n (length (blocks_inclusive z s e)) k a (next_aligned z e k b) c (leb_tells (suc n) (length (blocks_inclusive z s e)))) in
    let x : ℕ = min 1 (length (blocks_inclusive z s (e - t))) * z in
    let less : e - t - x ≡ e - (t + x) = omega arith in
    ap₂ (λ b p. cond b (record { start = s; end = p }) (record { start = s + z; end = s })) (same_test t x e within) less
    ∙ ap (λ q. cond (nat_le q e) (record { start = s; end = e - q }) (record { start = s + z; end = s })) q
back_next z s e n k a b false is =
    let t : ℕ = min n (length (blocks_inclusive z s e)) * z in
    let past : e < t = leb-false t e is in
    let c = length-blocks_from z s ((e + z - s) / z) in
    let q : t + min 1 ((e + z - t - s) / z) * z ≡ min (n + 1) (length (blocks_inclusive z s e)) * z =
    added z s (e + z) n (length (blocks_inclusive z s e)) k a (next_aligned z e k b) c (leb_tells (suc n) (length (blocks_inclusive z s e))) in
    let zero_of : min 1 (length (blocks_inclusive z (s + z) s)) * z ≡ 0 = no_blocks z (s + z) k in
    let whole : s - 0 ≡ s = omega arith in
    ap (λ q. cond (nat_le q s) (record { start = s + z; end = s - q }) (record { start = s + z + z; end = s + z })) zero_of
    ∙ (ap₂ (λ b p. cond b (record { start = s + z; end = p }) (record { start = s + z + z; end = s + z })) (le-leb 0 s (omega arith)) whole
    ∙ sym (ap (λ b. cond b (record { start = s; end = e - min (n + 1) (length (blocks_inclusive z s e)) * z }) (record { start = s + z; end = s }))
    (lt-leb (min (n + 1) (length (blocks_inclusive z s e)) * z) e (omega (arith, q, past)))))

pub taken_in_turn_inclusive : (size limit : ℕ) → IsBlockSize size → IsLimit limit → AreTakenInTurnInclusive size limit
taken_in_turn_inclusive z m k j =
    record {
      none = λ r o.
          let zero_of : min 0 (length (blocks_inclusive z r.start r.end)) ≡ 0 = zero-min (length (blocks_inclusive z r.start r.end)) in
          let start : r.start + min 0 (length (blocks_inclusive z r.start r.end)) * z ≡ r.start = rw zero_of (omega arith) in
          ap (λ q. cond (nat_lt q m) (record { start = q; end = r.end }) (record { start = r.end; end = r.end - z })) start
          ∙ ap (λ b. cond b (record { start = r.start; end = r.end }) (record { start = r.end; end = r.end - z })) (lt-ltb r.start m o);
      front = λ r n a b o l. front_next z m r.start r.end n k j a b o l (nat_lt (r.start + min n (length (blocks_inclusive z r.start r.end)) * z) m) refl;
      none_back = λ r.
          let zero_of : min 0 (length (blocks_inclusive z r.start r.end)) * z ≡ 0 = let h = zero-min (length (blocks_inclusive z r.start r.end)) in rw h (omega arith) in
          let whole : r.end - 0 ≡ r.end = omega arith in
          ap (λ q. cond (nat_le q r.end) (record { start = r.start; end = r.end - q }) (record { start = r.start + z; end = r.start })) zero_of
          ∙ ap₂ (λ b p. cond b (record { start = r.start; end = p }) (record { start = r.start + z; end = r.start })) (le-leb 0 r.end (omega arith)) whole;
      back = λ r n a b. back_next z r.start r.end n k a b (nat_le (min n (length (blocks_inclusive z r.start r.end)) * z) r.end) refl;
    }
