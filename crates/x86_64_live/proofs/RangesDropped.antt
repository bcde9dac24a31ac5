-- What a clean up leaves of a range whose pages were taken away.
use Rattle.std.proofs.Common.{◌≡◌, ◌∙◌, ◌+◌, ℕ, Bool, true, false, cond, ap}
use Rattle.x86_64_live.proofs.PagesChanged.{zero_is_none}
use Rattle.x86_64_live.specs.DroppedRanges.{DropsRange, EndsAtPage}
use Rattle.x86_64_live.specs.PageRanges.{AllWhole, ExchangesPages, HasNoPage, is_page, page_entries, reached}
use Rattle.x86_64_live.specs.declared.ranges.RangeEnd.{RangeEnd}
use Rattle.x86_64_mappers.specs.CleanUps.{CleansUpInto}
use Rattle.x86_64_model.specs.CleanUp.{clean_up, is_removed}
use Rattle.x86_64_model.specs.Entry.{used}
use Rattle.x86_64_model.specs.Hierarchy.{◌laid_in◌, Hierarchy, paths}
use Rattle.x86_64_model.specs.Memory.{Memory}
use Rattle.x86_64_model.specs.Path.{path_at}
use Rattle.x86_64_model.specs.PathMap.{PathMap, entry}
use Rattle.x86_64_model.specs.Store.{Store}
use Rattle.x86_64_model.proofs.Lemmas.CleanUps.Keys.{entry-cleaned}

-- a clean up makes no pages
cleaned_none : (L : ℕ) (M N : PathMap) (low high : ℕ) → N ≡ (clean_up L M low high).paths → (first next : ℕ) → HasNoPage L used M first next → HasNoPage L used N first next
cleaned_none L M N low high is first next none x level from to one top =
    ap (λ N. is_page used level (entry N (path_at L level x))) is ∙ ap (is_page used level) (entry-cleaned L M low high (path_at L level x)) ∙ by (is_removed L M low high (path_at L level x))
  where
    by : (gone : Bool) → is_page used level (cond gone 0 (entry M (path_at L level x))) ≡ false
    by true = zero_is_none level
    by false = none x level from to one top

pub drops_range : {Levels : Type 0} (h : Hierarchy (Unit {0})) (store : Store) (first last : ℕ) (end : RangeEnd Levels) (after : Hierarchy (Unit {0})) (rest : Store) (between : Memory)
    → AllWhole h.layout.levels used (paths h) first (reached last end) → EndsAtPage h.layout.levels used (paths h) first last end
    → ExchangesPages h.layout (λ _. 0) (page_entries h.layout.levels used (paths h) first (reached last end)) h.memory between
    → HasNoPage h.layout.levels used (paths (h.layout laid_in between)) first (reached last end)
    → CleansUpInto (h.layout laid_in between) store first (last + 0xfff) after rest → DropsRange h store first last end after rest
drops_range h store first last end after rest between whole end_is taken none cleaned = record {
  whole = whole;
  end_is = end_is;
  between = between;
  taken = taken;
  cleaned = cleaned;
  gone = cleaned_none h.layout.levels (paths (h.layout laid_in between)) (paths after) first (last + 0xfff) cleaned.cleans.outcome first (reached last end) none;
}
