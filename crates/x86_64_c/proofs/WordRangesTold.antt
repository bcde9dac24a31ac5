-- What is told of a range, whatever the number of levels.
use Rattle.std.proofs.Common.{◌≡◌, ℕ, Bool, List, Option, Some, None, Result, Ok, Err, IfOk, IfErr, OnErr, unwrap_or, refl, sym, ◌∙◌, subst, subst₂}
use Rattle.x86_64_tables.specs.LentMemory.{numbered}
use Rattle.x86_64_c.proofs.ArgumentsGiven.{kept}
use Rattle.x86_64_c.specs.Arguments.{position_of}
use Rattle.x86_64_c.specs.WordRanges.{ExchangesRange, TellsPages, range_next, range_status}
use Rattle.x86_64_live.specs.PageRanges.{ExchangesPages, SeesPages, page_entries, reached}
use Rattle.x86_64_live.specs.declared.ranges.PageWord.{PageWord}
use Rattle.x86_64_live.specs.declared.ranges.RangeEnd.{RangeEnd}
use Rattle.x86_64_live.specs.declared.ranges.RangeEnd.TheVariants.{All, More, LargerPage}
use Rattle.x86_64_live.specs.declared.ranges.RangeSeen.{RangeSeen}
use Rattle.x86_64_c.specs.declared.word_ranges.Ended.{Ended}
use Rattle.x86_64_model.specs.Hierarchy.{Hierarchy, paths}
use Rattle.x86_64_model.specs.Memory.{Memory}
use Rattle.x86_64_model.specs.PathMap.{PathMap}

-- the end of a range, without its number of levels
abbrev pub end_alone : {Levels : Type 0} → RangeEnd Levels → RangeEnd (Unit {0})
end_alone All = All
end_alone (More next) = More next
end_alone (LargerPage next) = LargerPage next

pub same_reached : {Levels : Type 0} (last : ℕ) (end : RangeEnd Levels) → reached last end ≡ reached last (end_alone end)
same_reached last All = refl
same_reached last (More next) = refl
same_reached last (LargerPage next) = refl

pub same_status : {Levels : Type 0} (end : RangeEnd Levels) → range_status end ≡ range_status (end_alone end)
same_status All = refl
same_status (More next) = refl
same_status (LargerPage next) = refl

pub same_next : {Levels : Type 0} (L : ℕ) (end : RangeEnd Levels) → range_next L end ≡ range_next L (end_alone end)
same_next L All = refl
same_next L (More next) = refl
same_next L (LargerPage next) = refl

pub seen_alone : {Levels : Type 0} (L : ℕ) (wanted : ℕ → Bool) (M : PathMap) (first last : ℕ) (before after : List PageWord) (count : ℕ) (end : RangeEnd Levels)
    → SeesPages L wanted M first last before after (record { count = count; end = end }) → SeesPages {Levels = Unit {0}} L wanted M first last before after (record { count = count; end = end_alone end })
seen_alone L wanted M first last before after count All sees = record { listed = sees.listed; end = sees.end }
seen_alone L wanted M first last before after count (More next) sees = record { listed = sees.listed; end = sees.end }
seen_alone L wanted M first last before after count (LargerPage next) sees = record { listed = sees.listed; end = sees.end }

-- what a range is seen to have, and what it comes to, is told of the range between the addresses
module _ {Levels : Type 0} (h : Hierarchy (Unit {0})) (wanted : ℕ → Bool) (first last start stop : ℕ) (from : start ≡ position_of h.layout.levels first) (to : stop ≡ position_of h.layout.levels last) where
  pub tells : (before after : List PageWord) (seen : RangeSeen Levels) (out : Ended) → SeesPages h.layout.levels wanted (paths h) start stop before after seen
      → out.count ≡ seen.count → out.status ≡ range_status seen.end → out.next ≡ range_next h.layout.levels seen.end
      → TellsPages h wanted first last before after (end_alone seen.end) out.status out.count out.next
  tells before after seen out sees count status next =
      let L = h.layout.levels in let M = paths h in let end = end_alone seen.end in
      let alone = seen_alone L wanted M start stop before after seen.count seen.end sees in record {
        sees = subst (λ n. SeesPages {Levels = Unit {0}} L wanted M (position_of L first) (position_of L last) before after (record { count = n; end = end })) (sym count)
            (subst₂ (λ first last. SeesPages {Levels = Unit {0}} L wanted M first last before after (record { count = seen.count; end = end })) from to alone);
        status_is = status ∙ same_status seen.end;
        next_is = next ∙ same_next L seen.end;
      }

  pub exchanges : (next : ℕ → ℕ) (end : RangeEnd Levels) (m : Memory) → ExchangesPages h.layout next (page_entries h.layout.levels wanted (paths h) start (reached stop end)) h.memory m
      → ExchangesRange h wanted next first last (end_alone end) m
  exchanges next end m done =
      subst₂ (λ first last. ExchangesPages h.layout next (page_entries h.layout.levels wanted (paths h) first (reached last (end_alone end))) h.memory m) from to
      (subst (λ to. ExchangesPages h.layout next (page_entries h.layout.levels wanted (paths h) start to) h.memory m) (same_reached stop end) done)

-- what an entered task tells is what the call tells
pub told_task : (result : Result Ended ℕ) (h : Hierarchy (Unit {0})) (wanted : ℕ → Bool) (first last : ℕ) (before after : List PageWord) (Changed : RangeEnd (Unit {0}) → Type 0)
    (wrong : Option ℕ) (status count was next : ℕ)
    → IfOk result (λ out. (end : RangeEnd (Unit {0})) × TellsPages h wanted first last before after end out.status out.count out.next × Changed end)
    → IfOk result (λ out. (status ≡ out.status) × (count ≡ out.count) × (next ≡ unwrap_or out.next was))
    → IfErr result (λ why. wrong ≡ Some why) → wrong ≡ None
    → (end : RangeEnd (Unit {0})) × (more : Option ℕ) × TellsPages h wanted first last before after end status count more × Changed end × (next ≡ unwrap_or more was)
told_task (Ok out) h wanted first last before after Changed wrong status count was next does told bad good = (
  does.0,
  out.next,
  subst₂ (λ s n. TellsPages h wanted first last before after does.0 s n out.next) (sym told.0) (sym told.1) does.1,
  does.2,
  told.2,
)
told_task (Err why) h wanted first last before after Changed wrong status count was next does told bad good = absurd (let e : None ≡ Some why = sym good ∙ bad in cc)

-- an entered call that leaves the memory, or is refused, leaves the tables
pub same_tables : (result : Result Ended ℕ) (ts us : List (List ℕ)) (Told : RangeEnd (Unit {0}) → Ended → Type 0) (Other : Type 0)
    → IfOk result (λ out. (end : RangeEnd (Unit {0})) × Told end out × (numbered us ≡ numbered ts)) → OnErr result ((us ≡ ts) × Other) → us ≡ ts
same_tables (Ok out) ts us Told Other does unchanged = kept ts us does.2
same_tables (Err why) ts us Told Other does unchanged = unchanged.0
