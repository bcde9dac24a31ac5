-- Tasks on ranges of pages of all sizes, whose words come back.
use Rattle.std.specs.Prelude.{◌≡◌, ℕ, List, Option}
use Rattle.x86_64_c.specs.Arguments.{wrong_ends}
use Rattle.x86_64_c.specs.WordRanges.{ExchangesRange, TellsPages, wrong_change}
use Rattle.x86_64_c.specs.declared.word_ranges.Ended.{Ended}
use Rattle.x86_64_c.specs.declared.word_ranges.RangeTask.{RangeTask}
use Rattle.x86_64_c.specs.declared.word_ranges.RangeTask.TheVariants.{Tell, Take, Change}
use Rattle.x86_64_live.specs.declared.ranges.PageWord.{PageWord}
use Rattle.x86_64_live.specs.declared.ranges.RangeEnd.{RangeEnd}
use Rattle.x86_64_model.specs.Entry.{present, used}
use Rattle.x86_64_model.specs.Hierarchy.{Hierarchy}
use Rattle.x86_64_model.specs.Live.{by_masks}
use Rattle.x86_64_model.specs.Memory.{Memory}

-- What is wrong with the range from one address to another, or else with a task on its pages.
abbrev pub wrong_task : (L first last : ℕ) → RangeTask → Option ℕ
wrong_task L first last Tell = wrong_ends L first last
wrong_task L first last Take = wrong_ends L first last
wrong_task L first last (Change keep set) = wrong_change L first last keep set

-- A task tells the pages of a range, and leaves this memory: each entry stays, or becomes 0, or gets other flags.
abbrev pub DoesTask : RangeTask → (h : Hierarchy (Unit {0})) → (first last : ℕ) → (before after : List PageWord) → Memory → Ended → Type 0
DoesTask Tell h first last before after m out =
    (end : RangeEnd (Unit {0})) × TellsPages h used first last before after end out.status out.count out.next × (m ≡ h.memory)
DoesTask Take h first last before after m out =
    (end : RangeEnd (Unit {0})) × TellsPages h used first last before after end out.status out.count out.next × ExchangesRange h used (λ _. 0) first last end m
DoesTask (Change keep set) h first last before after m out =
    (end : RangeEnd (Unit {0})) × TellsPages h present first last before after end out.status out.count out.next × ExchangesRange h present (by_masks keep set) first last end m
