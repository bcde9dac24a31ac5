-- What a drop of a range leaves of the caller's tables and pool, and the status that it has.
use Rattle.std.proofs.Common.{◌≡◌, ◌+◌, ℕ, List, Option, Some, None, refl, sym, ◌∙◌, subst, subst₂, unwrap_or}
use Rattle.x86_64_live.specs.DroppedRanges.{DropsRange, EndsAtPage}
use Rattle.x86_64_live.specs.PageRanges.{AllWhole, ExchangesPages, HasNoPage, page_entries}
use Rattle.x86_64_live.specs.declared.ranges.RangeEnd.{RangeEnd}
use Rattle.x86_64_live.specs.declared.ranges.RangeEnd.TheVariants.{All, More, LargerPage}
use Rattle.x86_64_model.specs.Entry.{IsParentFlags, used}
use Rattle.x86_64_model.specs.Hierarchy.{paths}
use Rattle.x86_64_model.specs.Layout.{Layout}
use Rattle.x86_64_model.specs.Memory.{IsMapping, Memory}
use Rattle.x86_64_model.specs.PathMap.{PathMap}
use Rattle.x86_64_model.specs.Pool.{TakesBack}
use Rattle.x86_64_model.specs.Store.{Store, StoreFits}
use Rattle.x86_64_c.specs.Arguments.{hierarchy_in, position_of}
use Rattle.x86_64_c.specs.Drops.{DropsPages, ExecutesDrop, wrong_drop}
use Rattle.x86_64_c.specs.PoolCalls.{loan}
use Rattle.x86_64_c.specs.WordRanges.{range_next, range_status}
use Rattle.x86_64_c.specs.declared.arguments.Hierarchy.{Hierarchy as Given}
use Rattle.x86_64_c.specs.declared.drops.Dropped.{Dropped}
use Rattle.x86_64_c.specs.private.Pools.{Leaves}
use Rattle.x86_64_c.proofs.EntryChanges.{of}
use Rattle.x86_64_c.proofs.PoolSteps.{cleaned}
use Rattle.x86_64_c.proofs.WordRangesTold.{end_alone, same_next, same_reached, same_status}

same_end : {Levels : Type 0} (L first last : ℕ) (M : PathMap) (end : RangeEnd Levels) → EndsAtPage L used M first last end → EndsAtPage L used M first last (end_alone end)
same_end L first last M All is = is
same_end L first last M (More next) is = is
same_end L first last M (LargerPage next) is = is

-- what was dropped in the words, with a pool whose free frames are those that it holds
pub dropped : {Levels : Type 0} (l : Layout) (store rest : Store) (m n : Memory) (first last : ℕ) (held left : List ℕ) → store.frames ≡ held → rest.frames ≡ left → IsParentFlags l.added_flags → TakesBack store.take_back
    → IsMapping l.places → StoreFits (of l m) store → (end : RangeEnd Levels)
    → DropsRange (of l m) (record { frames = held; serves = store.serves; take_back = store.take_back }) first last end (of l n) (record { frames = left; serves = rest.serves; take_back = rest.take_back })
    → (status : ℕ) (next : Option ℕ) → status ≡ range_status end → next ≡ range_next l.levels end → DropsPages (of l m) store first last (of l n) rest status next
dropped l store rest m n first last held left same_held same_left adds gives mapping fits end drops status next told goes_on =
    let M = paths (of l m) in let to = same_reached last end in record {
      end = end_alone end;
      whole = subst (AllWhole l.levels used M first) to drops.whole;
      end_is = same_end l.levels first last M end drops.end_is;
      status_is = told ∙ same_status end;
      next_is = goes_on ∙ same_next l.levels end;
      between = drops.between;
      taken = subst (λ to. ExchangesPages l (λ _. 0) (page_entries l.levels used M first to) m drops.between) to drops.taken;
      cleaned = cleaned l store rest drops.cleaned.serves drops.between n first (last + 0xfff) held left same_held same_left adds gives mapping
          (drops.taken store.serves store.frames fits).keeps.fits drops.cleaned.cleans;
      gone = subst (HasNoPage l.levels used (paths (of l n)) first) to drops.gone;
    }

-- ---- in the caller's tables and pool

module _ (own : List ℕ) (h : Given) (ts us : List (List ℕ)) (array left : List ℕ) (free first last was : ℕ) where
  -- with right arguments
  pub executes_drop : (number : ℕ) (out : Dropped) (next : ℕ) → wrong_drop h (loan ts array free) first last ≡ None
      → Leaves own array free left number (λ pool rest. DropsPages (hierarchy_in h ts) pool (position_of h.levels first) (position_of h.levels last) (hierarchy_in h us) rest out.status out.next)
      → next ≡ unwrap_or out.next was → ExecutesDrop own h (loan ts array free) first last was out.status (loan us left number) next
  executes_drop number out next good leaves goes_on = record {
    bad = λ why is. absurd (let e : None ≡ Some why = sym good ∙ is in cc);
    drops = λ _. (out.next, leaves.does, goes_on);
    room = leaves.room;
    in_array = λ _. leaves.in_array;
  }

  -- with a wrong one
  pub refuses_drop : (why : ℕ) → wrong_drop h (loan ts array free) first last ≡ Some why → us ≡ ts → left ≡ array
      → ExecutesDrop own h (loan ts array free) first last was why (loan us left free) was
  refuses_drop why wrong tables same =
      subst₂ (λ us left. ExecutesDrop own h (loan ts array free) first last was why (loan us left free) was) (sym tables) (sym same) (record {
        bad = λ also is. (let e : Some why ≡ Some also = sym wrong ∙ is in cc, refl, refl);
        drops = λ good. absurd (let e : Some why ≡ None = sym wrong ∙ good in cc);
        room = refl;
        in_array = λ within. within;
      })
