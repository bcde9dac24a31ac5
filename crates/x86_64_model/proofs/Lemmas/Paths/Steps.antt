-- Steps along the numbers below a count.
use Rattle.std.proofs.Common.{◌≡◌, ⊎_elim, ℕ, ◌+◌, ◌-◌, ◌<◌, ◌≤◌, cond, Option, Some, None, refl, sym, ap, ◌∙◌, arith, lt-ltb, le-ltb}
use Rattle.std.proofs.lemmas.Bool.{cases_lt}
use Rattle.x86_64_model.specs.Successor.{forward, backward, steps_between}
use Rattle.x86_64_model.specs.Laws.Successors.{StepsAreCounted}

abbrev value : (o : Option ℕ) → ℕ
value None = 0
value (Some n) = n

-- where a step is answered, and with what

pub forward_to : (count n s end : ℕ) → n + s < count → n + s ≡ end → forward count n s ≡ Some end
forward_to count n s end l e = ap (λ b. cond b (Some (n + s)) None) (lt-ltb (n + s) count l) ∙ ap Some e

pub backward_to : (n s end : ℕ) → s ≤ n → n - s ≡ end → backward n s ≡ Some end
backward_to n s end l e = ap (λ b. cond b None (Some (n - s))) (le-ltb n s l) ∙ ap Some e

pub between : (n end s : ℕ) → n ≤ end → end - n ≡ s → steps_between n end ≡ (s, Some s)
between n end s l e = ap (λ b. cond b (0, None) (end - n, Some (end - n))) (le-ltb end n l) ∙ ap (λ s. (s, Some s)) e

pub from_forward : (count n s end : ℕ) → forward count n s ≡ Some end → (n + s < count) × (n + s ≡ end)
from_forward count n s end h = ⊎_elim
    (λ l. (l, ap value (sym (forward_to count n s (n + s) l refl) ∙ h)))
    (λ g. grind arith)
    (cases_lt (n + s) count)

pub from_backward : (n s end : ℕ) → backward n s ≡ Some end → (s ≤ n) × (n - s ≡ end)
from_backward n s end h = ⊎_elim
    (λ l. grind arith)
    (λ g. (g, ap value (sym (backward_to n s (n - s) g refl) ∙ h)))
    (cases_lt n s)

pub steps_are_counted : StepsAreCounted
steps_are_counted count = record {
  compose = λ start m n middle end h g.
      let a = from_forward count start m middle h in let b = from_forward count middle n end g in
      let sum : start + (m + n) ≡ end = omega (arith, a.1, b.1) in
      let below : start + (m + n) < count = omega (arith, a.1, b.0) in
      forward_to count start (m + n) end below sum;
  compose_back = λ start m n middle end h g.
      let a = from_backward start m middle h in let b = from_backward middle n end g in
      let rest : start - (m + n) ≡ end = omega (arith, a.1, b.1) in
      let enough : m + n ≤ start = omega (arith, a.0, a.1, b.0) in
      backward_to start (m + n) end enough rest;
  undone = λ start n end h.
      let a = from_forward count start n end h in
      let enough : n ≤ end = omega (arith, a.1) in
      let rest : end - n ≡ start = omega (arith, a.1) in
      backward_to end n start enough rest;
  redone = λ start n end l h.
      let a = from_backward start n end h in
      let below : end + n < count = omega (arith, l, a.0, a.1) in
      let sum : end + n ≡ start = omega (arith, a.0, a.1) in
      forward_to count end n start below sum;
  counted = λ start n end h.
      let a = from_forward count start n end h in
      let up : start ≤ end = omega (arith, a.1) in
      let steps : end - start ≡ n = omega (arith, a.1) in
      between start end n up steps;
}
