-- What the lists of ranges have.
use Rattle.std.proofs.Common.{◌≡◌, ◌↔◌, ◌<◌, ◌+◌, ◌-◌, ◌*◌, ◌/◌, ℕ, zero, suc, inl, inr, cond, [], sym, ap, ◌∙◌, subst, arith, le-ltb}
use Rattle.std.specs.List.{range_with_len}
use Rattle.std.proofs.Math.Nat.{mul-div_left}
use Rattle.x86_64_model.specs.Lists.{In}
use Rattle.x86_64_model.specs.Range.{starts_from, inclusive_range}
use Rattle.x86_64_model.specs.Laws.Ranges.{ExclusiveHas, InclusiveHas}
use Rattle.x86_64_model.proofs.Lemmas.Lists.Members.{in_map, from_map, in_range}

pub range_below : (n from i : ℕ) → In (range_with_len from n) i → i < from + n
range_below zero from i h = absurd h
range_below (suc n) from i (inl e) = omega arith
range_below (suc n) from i (inr h) = let l = range_below n (from + 1) i h in omega arith

starts_have : (size first count x : ℕ) → In (starts_from size first count) x ↔ ((k : ℕ) × (k < count) × (first + k * size ≡ x))
starts_have size first count x = (
  λ h. let r = from_map (λ k. first + k * size) (range_with_len 0 count) x h in
      let l : r.0 < 0 + count = range_below count 0 r.0 r.1 in (r.0, omega (arith, l), r.2),
  λ h. subst (In (starts_from size first count)) h.2 (in_map (λ k. first + k * size) (range_with_len 0 count) h.0 (let z : 0 + h.0 ≡ h.0 = omega arith in subst (In (range_with_len 0 count)) z (in_range count 0 h.0 h.1))),
)

counted : (size start steps : ℕ) → 0 < size → ((start + steps * size) - start) / size ≡ steps
counted size start steps pos = ap (λ n. n / size) (let e : (start + steps * size) - start ≡ steps * size = omega arith in e) ∙ mul-div_left steps pos

pub exclusive_has : ExclusiveHas
exclusive_has size start steps x pos = subst (λ n. In (starts_from size start n) x ↔ ((k : ℕ) × (k < steps) × (start + k * size ≡ x))) (sym (counted size start steps pos)) (starts_have size start steps x)

pub inclusive_has : InclusiveHas
inclusive_has size start steps x pos =
    let list : inclusive_range size start (start + steps * size) ≡ starts_from size start (steps + 1) =
    ap (λ b. cond b [] (starts_from size start (((start + steps * size) - start) / size + 1))) (le-ltb (start + steps * size) start (omega arith))
    ∙ ap (λ n. starts_from size start (n + 1)) (counted size start steps pos) in
    let has = starts_have size start (steps + 1) x in (
      λ h. let r = has.0 (subst (λ xs. In xs x) list h) in let l = r.1 in (r.0, omega arith, r.2),
      λ h. let l = h.1 in subst (λ xs. In xs x) (sym list) (has.1 (h.0, omega arith, h.2)),
    )
