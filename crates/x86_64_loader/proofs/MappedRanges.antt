-- The maps of a range of pages with PRESENT, one after another: each page stands, was free before, and leaves what stood.
use Rattle.std.proofs.Common.{zero, suc, ◌≡◌, inl, inr, ◌<◌, ◌≤◌, ◌+◌, ◌*◌, ◌%◌, ◌^◌, ℕ, true, List, [], ◌∷◌, ◌++◌, Ok, Err, refl, sym, ap, ◌∙◌, subst, subst₂, arith, add-one, append-nil}
use Rattle.std.proofs.Math.Nat.{add-mul-mod_self_right}
use Rattle.std.proofs.lemmas.List.{same_from_push}
use Rattle.x86_64_model.specs.Call.{MapTo, Reply, Answered}
use Rattle.x86_64_model.specs.Entry.{IsParentFlags, present}
use Rattle.x86_64_model.specs.Layout.{Layout}
use Rattle.x86_64_model.specs.MapRule.{parent_part}
use Rattle.x86_64_model.specs.Memory.{IsMapping}
use Rattle.x86_64_model.specs.Hierarchy.{Hierarchy, DoesMap, MayMap, SupplyFits, allows_map, path_of}
use Rattle.x86_64_model.specs.Position.{position_count, span}
use Rattle.x86_64_model.specs.Refusal.{Answer, Done, Refused}
use Rattle.x86_64_tables.specs.MapperAnswers.{map_refusal}
use Rattle.x86_64_tables.specs.declared.errors.MapToError.{MapToError}
use Rattle.x86_64_mappers.specs.Ranges.{MapRange, MapsAll, MayMapRange, MapsEach, StopsAt, accepted_maps, range_frame, map_at, range_of}
use Rattle.x86_64_mappers.specs.Supplies.{Supply, MapsFrom}
use Rattle.x86_64_mappers.proofs.Range.Runs.{accepted_more}
use Rattle.x86_64_loader.specs.private.Loads.{AreMapped, IsStopped}
use Rattle.x86_64_loader.specs.Maps.{Accepts, Made, Refuses}
use Rattle.x86_64_loader.specs.Pages.{MayBeMapped}
use Rattle.x86_64_loader.specs.Segments.{page_mapping, run_of}
use Rattle.x86_64_loader.proofs.Listed.{run_more}
use Rattle.x86_64_loader.proofs.Made.{accepts_none, accepts_then, kept_none, made_one, refuses_then}
use Rattle.x86_64_loader.proofs.OneMap.{done_not_refused, makes_stand, was_free, leaves}
use Rattle.x86_64_loader.proofs.Runs.{leaves_then, one_more_stands, one_more_free}

-- a range of pages that may be mapped by `map_to`
pub may_map : {Lent : Type 0} (h : Hierarchy Lent) → h.layout.levels ≡ 4 → (level size page frame given more count : ℕ) → size ≡ span level → more ≡ parent_part given
    → ((k : ℕ) → k < count → MayBeMapped h level size page frame given k) → MayMapRange h (range_of level page frame given more) count
may_map h four level size page frame given more count spans is may = record {
  pages = λ k less. subst₂ (λ n z. page + k * z < position_count n) (sym four) spans (may k less).page_there;
  frames = λ k less. subst (λ z. frame + k * z < 2 ^ 52) spans (may k less).frame_there;
  allowed = λ k less. subst₂ (λ z m. allows_map h (path_of h level (page + k * z)) given m ≡ true) spans (sym is) (may k less).allowed;
}

module _ {Lent : Type 0} (h : Hierarchy Lent) (supply : Supply) (level page frame given : ℕ) (low : 1 ≤ level) (high : level ≤ 3) (some : 3 < h.layout.levels) (adds : IsParentFlags h.layout.added_flags)
    (mapping : IsMapping h.layout.places) (is_present : present given ≡ true) (page_aligned : page % span level ≡ 0) (frame_aligned : frame % span level ≡ 0) (fits : SupplyFits h supply.frames) where
  abbrev r : MapRange
  r = range_of level page frame given (parent_part given)

  -- the supply with these frames left
  abbrev holding : List ℕ → Supply
  holding left = record { frames = left; serves = supply.serves }

  abbrev So_far : ℕ → Hierarchy Lent → List ℕ → Type 0
  So_far k now left = AreMapped h supply level (span level) page frame given k now (holding left)

  start : So_far 0 h supply.frames
  start = record {
    stand = λ j before. absurd (omega (arith, before));
    were_free = λ l q f g multiple stands p from to. absurd (omega (arith, from, to));
    leaves = record { kept = kept_none h supply fits; pages = λ l q f g up stands. stands };
    accepted = accepts_none h supply.frames;
  }

  -- the map of page k
  module _ (k : ℕ) (now : Hierarchy Lent) (left : List ℕ) (so_far : So_far k now left) (answer : Answer) (may : MayMap now left (map_at r k)) (after : Hierarchy Lent) (rest : List ℕ)
      (does : DoesMap now left (map_at r k) answer after rest) where
    abbrev p : ℕ
    p = page + k * span level

    abbrev f : ℕ
    f = frame + k * span level

    same : now.layout ≡ h.layout
    same = so_far.leaves.kept.layout

    some_now : 3 < now.layout.levels
    some_now = subst (λ (l : Layout). 3 < l.levels) (sym same) some

    adds_now : IsParentFlags now.layout.added_flags
    adds_now = subst (λ (l : Layout). IsParentFlags l.added_flags) (sym same) adds

    mapping_now : IsMapping now.layout.places
    mapping_now = subst (λ (l : Layout). IsMapping l.places) (sym same) mapping

    does_to : MapsFrom now (holding left) (MapTo level p f given) answer after (holding rest)
    does_to = record { map = does; serves = refl }

    made : Made now left (page_mapping level p f given ∷ []) (Answered answer ∷ []) after rest
    made = made_one now left level p f given answer after rest may does

    -- it was accepted
    done_more : answer ≡ Done f → f < 2 ^ 52 → So_far (suc k) after rest
    done_more accepts there =
        let to = subst (λ a. MapsFrom now (holding left) (MapTo level p f given) a after (holding rest)) accepts does_to in
        let one = subst (λ a. Made now left (page_mapping level p f given ∷ []) (Answered a ∷ []) after rest) accepts made in
        let stands = makes_stand now after (holding left) (holding rest) level (span level) p f given refl low high some_now may adds_now there (add-mul-mod_self_right frame k (span level) ∙ frame_aligned) is_present to in
        let free = was_free now after (holding left) (holding rest) level (span level) p f given refl low high some_now may (add-mul-mod_self_right page k (span level) ∙ page_aligned) to in
        let leave = leaves now after (holding left) (holding rest) level (span level) p f given refl low high some_now may {S = ℕ} (Ok p) 3 refl (inr (done_not_refused f)) adds_now mapping_now to in
        subst (λ j. So_far j after rest) (add-one k) (record {
          stand = one_more_stands h now after (holding rest) level (span level) page frame given k high so_far.stand leave stands;
          were_free = one_more_free h now after (holding rest) level (span level) page frame given k (holding left) so_far.were_free so_far.leaves free;
          leaves = leaves_then h now after (holding left) (holding rest) 3 3 3 (omega arith) (omega arith) so_far.leaves leave;
          accepted = subst (λ pages. Accepts h supply.frames pages after rest) (sym (run_more level page frame given k))
              (accepts_then h now after supply.frames left rest (run_of level page frame given k) (page_mapping level p f given ∷ []) same so_far.accepted one);
        })

    -- it was refused
    refused_more : {S : Type 0} (why : MapToError S) → answer ≡ Refused (map_refusal why) → (count : ℕ) → k < count → IsStopped h supply level (span level) page frame given count k (map_refusal why) after (holding rest)
    refused_more {S} why refuses count less =
        let to = subst (λ a. MapsFrom now (holding left) (MapTo level p f given) a after (holding rest)) refuses does_to in
        let one = subst (λ a. Made now left (page_mapping level p f given ∷ []) (Answered a ∷ []) after rest) refuses made in
        let leave = leaves now after (holding left) (holding rest) level (span level) p f given refl low high some_now may {S = S} (Err why) level tt (inl (omega arith)) adds_now mapping_now to in
        record {
          within = less;
          stand = λ j before. leave.pages level (page + j * span level) (frame + j * span level) given (omega arith) (so_far.stand j before);
          leaves = leaves_then h now after (holding left) (holding rest) 3 level level high (omega arith) so_far.leaves leave;
          refused = subst (λ pages. Refuses h supply.frames pages (page_mapping level p f given) (map_refusal why) after rest) (append-nil (run_of level page frame given k))
              (refuses_then h now after supply.frames left rest (run_of level page frame given k) [] same (page_mapping level p f given) (map_refusal why) so_far.accepted one);
        }

  -- ---- all maps

  -- the last answer, and those before
  last_accepted : (k : ℕ) (before : List Reply) (answer : Answer) → accepted_maps r (suc k) ≡ before ++ Answered answer ∷ [] → (before ≡ accepted_maps r k) × (answer ≡ Done (range_frame r k))
  last_accepted k before answer is =
      let parts = same_from_push before (accepted_maps r k) (Answered answer) (Answered (Done (range_frame r k))) (sym is ∙ ap (accepted_maps r) (sym (add-one k)) ∙ accepted_more r k) in
      let last = parts.1 in
      (parts.0, cc)

  all_so_far : (total : ℕ) → ((k : ℕ) → k < total → frame + k * span level < 2 ^ 52) → (now : Hierarchy Lent) (left : List ℕ) → MapsEach h supply.frames r total (accepted_maps r total) now left → So_far total now left
  all_so_far zero there now left (none, same, rest) = subst₂ (λ now left. So_far 0 now left) (sym same) (sym rest) start
  all_so_far (suc k) there now left (mid, between, before, each, next) =
      let last = last_accepted k before next.answer next.last in
      let so_far = all_so_far k (λ j less. there j (omega (arith, less))) mid between (subst (λ rs. MapsEach h supply.frames r k rs mid between) last.0 each) in
      done_more k mid between so_far next.answer next.may now left next.does last.1 (there k (omega arith))

  pub all_mapped : (count : ℕ) → ((k : ℕ) → k < count → frame + k * span level < 2 ^ 52) → (after : Hierarchy Lent) (rest : Supply) → MapsAll h supply.frames r count after rest.frames → rest.serves ≡ supply.serves
      → AreMapped h supply level (span level) page frame given count after rest
  all_mapped count there after rest maps served =
      subst (λ s. AreMapped h supply level (span level) page frame given count after (record { frames = rest.frames; serves = s })) (sym served) (all_so_far count there after rest.frames maps.each)

  pub some_mapped : {S : Type 0} (count done : ℕ) (why : MapToError S) → ((k : ℕ) → k < count → frame + k * span level < 2 ^ 52) → (after : Hierarchy Lent) (rest : Supply) → StopsAt h supply.frames r count done (map_refusal why) after rest.frames
      → rest.serves ≡ supply.serves → IsStopped h supply level (span level) page frame given count done (map_refusal why) after rest
  some_mapped count done why there after rest stops served =
      subst (λ s. IsStopped h supply level (span level) page frame given count done (map_refusal why) after (record { frames = rest.frames; serves = s })) (sym served)
      (by (subst (λ n. MapsEach h supply.frames r n (accepted_maps r done ++ Answered (Refused (map_refusal why)) ∷ []) after rest.frames) (add-one done) stops.1.each))
    where
      by : MapsEach h supply.frames r (suc done) (accepted_maps r done ++ Answered (Refused (map_refusal why)) ∷ []) after rest.frames
          → IsStopped h supply level (span level) page frame given count done (map_refusal why) after (holding rest.frames)
      by (mid, between, before, each, next) =
          let parts = same_from_push before (accepted_maps r done) (Answered next.answer) (Answered (Refused (map_refusal why))) (sym next.last) in
          let last = parts.1 in
          let less = stops.0 in
          let so_far = all_so_far done (λ j before. there j (omega (arith, before, less))) mid between (subst (λ rs. MapsEach h supply.frames r done rs mid between) parts.0 each) in
          refused_more done mid between so_far next.answer next.may after rest.frames next.does why (cc) count less
