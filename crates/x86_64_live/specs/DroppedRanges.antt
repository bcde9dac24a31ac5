-- Ranges of pages that are dropped: the pages are taken away, and then the tables that are empty are freed.
use Rattle.std.specs.Prelude.{◌+◌, ℕ, Bool}
use Rattle.x86_64_live.specs.PageRanges.{AllWhole, ExchangesPages, HasNoPage, StopsAtLarger, page_entries, reached}
use Rattle.x86_64_live.specs.declared.ranges.RangeEnd.{RangeEnd}
use Rattle.x86_64_live.specs.declared.ranges.RangeEnd.TheVariants.{All, More, LargerPage}
use Rattle.x86_64_mappers.specs.CleanUps.{CleansUpInto}
use Rattle.x86_64_model.specs.Entry.{used}
use Rattle.x86_64_model.specs.Hierarchy.{◌laid_in◌, Hierarchy, paths}
use Rattle.x86_64_model.specs.Memory.{Memory}
use Rattle.x86_64_model.specs.PathMap.{PathMap}
use Rattle.x86_64_model.specs.Store.{Store}

-- Why a range ends whose pages go into no array: all pages are gone, or the next page is larger and lies only partly in the range.
abbrev pub EndsAtPage : {Levels : Type 0} → (L : ℕ) → (wanted : ℕ → Bool) → PathMap → (first last : ℕ) → RangeEnd Levels → Type 0
EndsAtPage L wanted M first last All = Unit {0}
EndsAtPage L wanted M first last (More next) = ⊥
EndsAtPage L wanted M first last (LargerPage next) = StopsAtLarger L wanted M first last next

-- From a hierarchy to the one after it all pages from the page at `first` to the page at `last` went, up to where the range ends, and
-- then the empty tables of the range, whose frames the store took back. It is `rest` then.
pub record DropsRange {Levels : Type 0} (h : Hierarchy (Unit {0})) (store : Store) (first last : ℕ) (end : RangeEnd Levels) (after : Hierarchy (Unit {0})) (rest : Store) : Type 0 where
  -- Each page up to where the range ends lies in it as a whole, and it ends for a reason.
  pub whole : AllWhole h.layout.levels used (paths h) first (reached last end)
  pub end_is : EndsAtPage h.layout.levels used (paths h) first last end
  -- The entries of these pages became 0, which led to a memory in between.
  pub between : Memory
  pub taken : ExchangesPages h.layout (λ _. 0) (page_entries h.layout.levels used (paths h) first (reached last end)) h.memory between
  -- A clean up led on from there.
  pub cleaned : CleansUpInto (h.layout laid_in between) store first (last + 0xfff) after rest
  -- So none of the pages is there any more: no entry on the way to a position up to where the range ends is that of a page.
  pub gone : HasNoPage h.layout.levels used (paths after) first (reached last end)
