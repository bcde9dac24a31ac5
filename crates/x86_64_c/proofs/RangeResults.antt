-- What a call to map a range returns and leaves, once the operation in the caller's tables and pool is done.
use Rattle.std.proofs.Common.{◌≡◌, ℕ, List, Some, None, unwrap_or, sym, ap, ◌∙◌, subst}
use Rattle.x86_64_c.specs.Arguments.{hierarchy_in}
use Rattle.x86_64_c.specs.PoolCalls.{loan, pool_in}
use Rattle.x86_64_c.specs.Ranges.{Maps, MapsWith, bad_map_range, range_asked}
use Rattle.x86_64_c.specs.declared.arguments.Hierarchy.{Hierarchy as Given}
use Rattle.x86_64_c.specs.declared.arguments.MapRequest.{MapRequest}
use Rattle.x86_64_c.specs.declared.ranges.Mapped.{Mapped}
use Rattle.x86_64_c.specs.private.RangeMaps.{MapsInPool, is_without_number}
use Rattle.x86_64_c.proofs.ArgumentsGiven.{kept}

module _ (own : List ℕ) (h : Given) (ts us : List (List ℕ)) (array left : List ℕ) (free : ℕ) (request : MapRequest) (count was : ℕ) where
  pub maps_with : (number : ℕ) (mapped : Mapped) (done : ℕ) → bad_map_range h (loan ts array free) request count ≡ None
      → MapsInPool own (range_asked h.levels request) count (hierarchy_in h ts) array free (hierarchy_in h us) left number mapped → done ≡ unwrap_or mapped.done was
      → MapsWith own h (loan ts array free) request count was mapped.status (loan us left number) done
  maps_with number mapped done good did told = record {
    bad = λ why is. absurd (let e : None ≡ Some why = sym good ∙ is in cc);
    refused = λ _ none.
        let refused = did.0.does.0 none in
        let stay = did.1 (ap is_without_number refused.1) in
        let same : loan us left number ≡ loan ts array free = ap (λ ts. loan ts left number) (kept ts us stay.0) ∙ ap (λ a. loan ts a number) stay.1 ∙ ap (loan ts array) stay.2 in
        (refused.0, same, told ∙ ap (λ o. unwrap_or o was) refused.1);
    maps = λ _ may.
        let made = did.0.does.1 may in
        subst (Maps (hierarchy_in h ts) (pool_in own array free) (range_asked h.levels request) count (hierarchy_in h us) (pool_in own left number) mapped.status)
        (sym (told ∙ ap (λ o. unwrap_or o was) made.1)) made.2;
    room = did.0.room;
    in_array = λ _. did.0.in_array;
  }
