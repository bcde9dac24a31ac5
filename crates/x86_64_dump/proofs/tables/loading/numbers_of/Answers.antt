use Rattle.std.proofs.Common.{◌≡◌, ◌==◌, ◌||◌, ◌*◌, ◌/◌, ◌^◌, ◌<◌, ◌∙◌, List, ℕ, sym, ap, ap₂, subst, arith}
use Rattle.std.proofs.lemmas.List.Folds.{list_any_more}
use Rattle.std.proofs.lemmas.Result.{IfOk-from_err}
use Rattle.std.specs.List.{dedup, list_any}
use Rattle.std.specs.List.Sorted.{IsStrictlyIncreasing}
use Rattle.std.proofs.lemmas.List.{take_all}
use Rattle.std.proofs.lemmas.List.Filters.{dedup_is, All-dedup}
use Rattle.std.proofs.lemmas.List.Sorted.{All-permutation, list_any-IsPermutation}
use Rattle.std.proofs.lemmas.Map.Keys.{IsStrictlyIncreasing-dedup}
use Rattle.x86_64_dump.specs.Tables.{is_among}
use Rattle.x86_64_dump.specs.private.FrameNumbers.{has_number, AreFrameNumbers}
use Rattle.x86_64_dump.proofs.Places.{all_numbers, list_any-dedup}
use Rattle.x86_64_dump.proofs.tables.loading.numbers_of.Goals as goal
use Rattle.x86_64_dump.proofs.tables.loading.numbers_of.Goals.{After-dedup}

kept : (c : After-dedup) → c.dedup.new.self.items ≡ dedup (λ a b. a == b) c.sort_unstable.new.self.items
kept c = dedup_is (λ a b. a == b) c.sort_unstable.new.self.items c.dedup.new.self.items c.dedup.ensures.filtered

pub returns-clause-numbers : goal.returns-clause-numbers
returns-clause-numbers c f is =
    ap (λ ns. has_number ns f) (kept (goal.at.returns-clause-numbers c).After-dedup)
    ∙ list_any-dedup (λ n. f / 4096 == n) c.sort_unstable.new.self.items
    ∙ sym (list_any-IsPermutation (λ n. f / 4096 == n) c.loop-level.numbers.items c.sort_unstable.new.self.items c.sort_unstable.ensures.permutation)
    ∙ c.loop-level.invariant.numbers f is
    ∙ ap (list_any (λ level. is_among level.items f)) (take_all c.loop-level.level-index c.args.frames.now c.loop-level-test.false)
    ∙ all_numbers c.args.frames.now f

pub returns-clause-below : goal.returns-clause-below
returns-clause-below c =
    let P : List ℕ → Type 0 = AreFrameNumbers in
    subst P (sym (kept (goal.at.returns-clause-below c).After-dedup))
    (All-dedup (λ a b. a == b) (λ n. n * 4096 < 2 ^ 52) c.sort_unstable.new.self.items
    (All-permutation (λ n. n * 4096 < 2 ^ 52) c.loop-level.numbers.items c.sort_unstable.new.self.items c.sort_unstable.ensures.permutation c.loop-level.invariant.below))

pub returns-clause-increasing : goal.returns-clause-increasing
returns-clause-increasing c =
    let P : List ℕ → Type 0 = IsStrictlyIncreasing in
    subst P (sym (kept (goal.at.returns-clause-increasing c).After-dedup))
    (IsStrictlyIncreasing-dedup c.sort_unstable.new.self.items c.sort_unstable.ensures.sorted)

pub loop-level-init : goal.loop-level-init
loop-level-init c = record {
  numbers = λ f _. ap (λ numbers. has_number numbers f) c.new-numbers.ensures.items;
  below = let P : List ℕ → Type 0 = AreFrameNumbers in subst P (sym c.new-numbers.ensures.items) (λ k d within. absurd (omega (arith, within)));
}

pub loop-level-preserved : goal.loop-level-preserved
loop-level-preserved c = record {
  numbers = λ f is.
      let level = ap (λ level. is_among level f) c.deref.ensures.value ∙ ap (λ level. is_among level.items f) c.level-item.is in
      c.in_ok-add_numbers.ensures.numbers f is
      ∙ ap₂ (λ before here. before || here) (c.loop-level.invariant.numbers f is) level
      ∙ sym (list_any_more (λ level. is_among level.items f) c.args.frames.now c.loop-level.level-index c.level-item.result c.loop-level-test.true);
  below = c.in_ok-add_numbers.ensures.below c.loop-level.invariant.below;
}

pub returns-in_err-add_numbers-clause-numbers : goal.returns-in_err-add_numbers-clause-numbers
returns-in_err-add_numbers-clause-numbers c = IfOk-from_err c.from_residual.result _ c.from_residual.ensures.0

pub returns-in_err-add_numbers-clause-below : goal.returns-in_err-add_numbers-clause-below
returns-in_err-add_numbers-clause-below c = IfOk-from_err c.from_residual.result _ c.from_residual.ensures.0

pub returns-in_err-add_numbers-clause-increasing : goal.returns-in_err-add_numbers-clause-increasing
returns-in_err-add_numbers-clause-increasing c = IfOk-from_err c.from_residual.result _ c.from_residual.ensures.0
