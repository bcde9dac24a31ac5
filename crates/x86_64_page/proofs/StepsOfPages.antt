-- Steps along the pages of a size are counted.
use Rattle.std.specs.Prelude.{◌≡◌, ℕ, ◌+◌, ◌-◌, ◌*◌, ◌/◌, ◌<◌, ◌≤◌, cond, Some, None}
use Rattle.std.proofs.Common.{◌∙◌, ap, arith, le-ltb}
use Rattle.std.proofs.Math.Nat.{mul-div_cancel, add-mul}
use Rattle.x86_64_model.proofs.Lemmas.Paths.Steps.{from_forward, steps_are_counted}
use Rattle.x86_64_page.specs.Steps.{pages_between}
use Rattle.x86_64_page.specs.PageSteps.{AreStepsBelow}

counted_at : (size start n end : ℕ) → start ≤ end → (end - start) / size ≡ n → pages_between size start end ≡ (n, Some n)
counted_at size start n end up pages =
    ap (λ b. cond b (0, None) ((end - start) / size, Some ((end - start) / size))) (le-ltb end start up) ∙ ap (λ n. (n, Some n)) pages

-- the pages from a start up to the one n pages on are n
counted_in : (size start n end : ℕ) → 0 < size → start + n * size ≡ end → pages_between size start end ≡ (n, Some n)
counted_in size start n end positive e =
    let up : start ≤ end = omega arith in
    let bytes : end - start ≡ n * size = omega arith in
    counted_at size start n end up (ap (λ b. b / size) bytes ∙ mul-div_cancel n positive)

pub page_steps_are_counted : (limit size : ℕ) → 0 < size → AreStepsBelow limit size
page_steps_are_counted limit size positive =
    let steps = steps_are_counted limit in
    record {
      compose = λ start m n middle end h g. rw (add-mul m n size) (steps.compose start (m * size) (n * size) middle end h g);
      compose_back = λ start m n middle end h g. rw (add-mul m n size) (steps.compose_back start (m * size) (n * size) middle end h g);
      undone = λ start n end h. steps.undone start (n * size) end h;
      redone = λ start n end l h. steps.redone start (n * size) end l h;
      counted = λ start n end h. counted_in size start n end positive (from_forward limit start (n * size) end h).1;
    }
