-- No map of a load is refused if nothing is mapped in its way, no two segments overlap and there are enough frames.
use Rattle.std.proofs.Common.{zero, suc, inl, inr, ◌≡◌, ◌<◌, ◌≤◌, ◌+◌, ◌%◌, ◌++◌, ℕ, true, List, [], ◌∷◌, length, map, take, drop, flat_map, get_or, refl, sym, ap, ◌∙◌, subst, append_assoc, arith, lit≤}
use Rattle.std.proofs.lemmas.Grind.{flat_map-append}
use Rattle.std.proofs.lemmas.List.{append_cancel_left, get_or-take, length-take-le, map-append, take-append-drop}
use Rattle.std.proofs.lemmas.List.Concat.{flat_map-cons}
use Rattle.std.specs.List.{All, AllByRecursion}
use Rattle.x86_64_model.specs.Call.{Reply, Answered}
use Rattle.x86_64_model.specs.Entry.{IsParentFlags, present}
use Rattle.x86_64_model.specs.Laws.PageMappings.{IsMappable}
use Rattle.x86_64_model.specs.Lists.{In}
use Rattle.x86_64_model.specs.Machine.{Machine, IsMachine}
use Rattle.x86_64_model.specs.Hierarchy.{Hierarchy, SupplyFits, machine_of, paths, state_of, words}
use Rattle.x86_64_model.specs.PageMappings.{PageMapping, AreApart, EachApart, IsUnmapped, accepted, entry_path}
use Rattle.x86_64_model.specs.Path.{parents, path_at}
use Rattle.x86_64_model.specs.Position.{position_count, span}
use Rattle.x86_64_model.specs.Refusal.{Refusal, Refused}
use Rattle.x86_64_model.proofs.Lemmas.Lists.All.{all_both, all_mapped}
use Rattle.x86_64_model.proofs.Lemmas.Lists.Members.{in_flat_map}
use Rattle.x86_64_model.proofs.Lemmas.Machines.PageMappings.{covers_missing, mappings_succeed}
use Rattle.x86_64_tables.specs.MapperAnswers.{map_refusal}
use Rattle.x86_64.specs.Pairs.{put_first}
use Rattle.x86_64_loader.specs.private.Loads.{pages_by}
use Rattle.x86_64_loader.specs.Maps.{Refuses}
use Rattle.x86_64_loader.specs.Segments.{Disjoint, Has, IsAllowed, LoadIsRefused, Suffices, size_of}
use Rattle.x86_64_loader.specs.declared.loader.Sizes.{Sizes}
use Rattle.x86_64_loader.specs.declared.segment.LoadError.{LoadError}
use Rattle.x86_64_loader.specs.declared.segment.Segment.{Segment}
use Rattle.x86_64_loader.proofs.Ascending.{IsPageOf, ascending_apart, ascending_within, segment_ascends, segment_pages}
use Rattle.x86_64_loader.proofs.Frames.{parents_in, tables_counted, tables_in}
use Rattle.x86_64_loader.proofs.Listed.{all_both_lists, cut_before}
use Rattle.x86_64_loader.proofs.Made.{gives_first}
use Rattle.x86_64_loader.proofs.Segments.{pages_next}

-- ---- lists

all_front : {X : Type 0} (P : X → Type 0) (xs ys : List X) → AllByRecursion P (xs ++ ys) → AllByRecursion P xs
all_front P [] ys all = tt
all_front P (x ∷ xs) ys all = (all.0, all_front P xs ys all.1)

apart_front : (xs ys : List PageMapping) → EachApart (xs ++ ys) → EachApart xs
apart_front [] ys apart = tt
apart_front (x ∷ xs) ys apart = (all_front (AreApart x) xs ys apart.0, apart_front xs ys apart.1)

apart_both : (xs ys : List PageMapping) → EachApart xs → EachApart ys → AllByRecursion (λ x. AllByRecursion (AreApart x) ys) xs → EachApart (xs ++ ys)
apart_both [] ys one two each = two
apart_both (x ∷ xs) ys one two each = (all_both_lists (AreApart x) xs ys one.0 each.0, apart_both xs ys one.1 two each.1)

-- ---- the pages of segments that do not overlap are apart

module _ (way : Sizes) where
  abbrev cut : Segment → List PageMapping
  cut = pages_by way

  -- a page in a segment is apart from those of segments that do not overlap it
  apart_from : (s : Segment) (x : PageMapping) → (s.page ≤ x.page) × (x.page + span x.level ≤ s.page + size_of s) → (others : List Segment)
      → ((j : ℕ) (d : Segment) → j < length others → (p : ℕ) → Has s p → Has (get_or others j d) p → ⊥) → AllByRecursion (AreApart x) (flat_map cut others)
  apart_from s x within [] apart = tt
  apart_from s x within (t ∷ others) apart =
      subst (AllByRecursion (AreApart x)) (sym (flat_map-cons cut t others))
      (all_both_lists (AreApart x) (cut t) (flat_map cut others)
      (all_mapped (λ y. (t.page ≤ y.page) × (y.page + span y.level ≤ t.page + size_of t)) (AreApart x)
      (λ y its p from to its_from its_to. apart 0 t (omega arith) p
      (let a = within.0 in omega (arith, a, from), let b = within.1 in omega (arith, b, to)) (let a = its.0 in omega (arith, a, its_from), let b = its.1 in omega (arith, b, its_to)))
      (cut t) (ascending_within t.page (t.page + size_of t) (cut t) (segment_ascends way t)))
      (apart_from s x within others (λ j d below. apart (suc j) d (omega (arith, below)))))

  pub all_apart : (segments : List Segment) → Disjoint segments → EachApart (flat_map cut segments)
  all_apart [] apart = tt
  all_apart (s ∷ segments) apart =
      subst EachApart (sym (flat_map-cons cut s segments))
      (apart_both (cut s) (flat_map cut segments) (ascending_apart s.page (s.page + size_of s) (cut s) (segment_ascends way s))
      (all_apart segments (λ i j d less within. apart (suc i) (suc j) d (omega (arith, less)) (omega (arith, within))))
      (all_mapped (λ x. (s.page ≤ x.page) × (x.page + span x.level ≤ s.page + size_of s)) (λ x. AllByRecursion (AreApart x) (flat_map cut segments))
      (λ x within. apart_from s x within segments (λ j d below. apart 0 (suc j) d (omega arith) (omega (arith, below))))
      (cut s) (ascending_within s.page (s.page + size_of s) (cut s) (segment_ascends way s))))

-- what holds for the pages of each segment holds for all
each_segment : (P : PageMapping → Type 0) (cut : Segment → List PageMapping) (segments : List Segment) → ((j : ℕ) (d : Segment) → j < length segments → AllByRecursion P (cut (get_or segments j d)))
    → AllByRecursion P (flat_map cut segments)
each_segment P cut [] each = tt
each_segment P cut (s ∷ segments) each =
    subst (AllByRecursion P) (sym (flat_map-cons cut s segments))
    (all_both_lists P (cut s) (flat_map cut segments) (each 0 s (omega arith)) (each_segment P cut segments (λ j d below. each (suc j) d (omega (arith, below)))))

in_list : (segments : List Segment) (j : ℕ) (d : Segment) → j < length segments → In segments (get_or segments j d)
in_list [] j d below = absurd (omega (arith, below))
in_list (s ∷ segments) zero d below = inl refl
in_list (s ∷ segments) (suc j) d below = inr (in_list segments j d (omega (arith, below)))

-- ---- a load

small_span : (level : ℕ) → 1 ≤ level → level ≤ 2 → 0x1000 ≤ span level
small_span zero low high = absurd (omega (arith, low))
small_span (suc zero) low high = lit≤ tt
small_span (suc (suc zero)) low high = lit≤ tt
small_span (suc (suc (suc n))) low high = absurd (omega (arith, high))

no_refusal : (x : PageMapping) (why : Refusal) (rs : List Reply) → rs ++ accepted x ∷ [] ≡ rs ++ Answered (Refused why) ∷ [] → ⊥
no_refusal x why rs same = let one : accepted x ∷ [] ≡ Answered (Refused why) ∷ [] = append_cancel_left rs (accepted x ∷ []) (Answered (Refused why) ∷ []) same in cc one

module _ {Lent : Type 0} (h : Hierarchy Lent) (supply : List ℕ) (way : Sizes) (segments : List Segment) (four : h.layout.levels ≡ 4) (adds : IsParentFlags h.layout.added_flags) (fits : SupplyFits h supply)
    (allowed : All (IsAllowed h) segments) (suffices : Suffices (pages_by way) h supply segments) where
  abbrev L : ℕ
  L = h.layout.levels

  abbrev machine : Machine
  machine = machine_of h.layout put_first

  abbrev tables : List (List ℕ)
  tables = flat_map tables_in segments

  -- the pages of a segment may be mapped, and are unmapped
  mappable : (j : ℕ) (d : Segment) → j < length segments → (get_or segments j d).page % 0x1000 ≡ 0 → AllByRecursion (IsMappable machine (paths h)) (pages_by way (get_or segments j d))
  mappable j d below aligned =
      let t = get_or segments j d in
      all_both (IsPageOf h t) (λ x. IsUnmapped (paths h) (entry_path L x)) (IsMappable machine (paths h))
      (λ x page unmapped. record {
        low = page.low;
        high = let high = page.high in omega (arith, high);
        levels = let high = page.high in omega (arith, high, four);
        multiple = page.multiple;
        inside = subst (λ L. x.page < position_count L) (sym four) page.below;
        is_present = ap present page.given ∙ (allowed j d below).is_present;
        unmapped = unmapped;
        allowed = page.allowed;
      })
      (pages_by way t) (segment_pages h (omega (arith, four)) t aligned (allowed j d below) way) (suffices.unmapped j d below)

  -- the tables on their paths are counted
  covered : (j : ℕ) (d : Segment) → j < length segments → (get_or segments j d).page % 0x1000 ≡ 0
      → AllByRecursion (λ x. AllByRecursion (In tables) (parents (entry_path L x))) (pages_by way (get_or segments j d))
  covered j d below aligned =
      let t = get_or segments j d in
      all_both (IsPageOf h t) (λ x. (t.page ≤ x.page) × (x.page + span x.level ≤ t.page + size_of t)) (λ x. AllByRecursion (In tables) (parents (entry_path L x)))
      (λ x page within.
      let small = small_span x.level page.low page.high in let from = within.0 in let to = within.1 in
      subst (λ L. AllByRecursion (In tables) (parents (path_at L x.level x.page))) (sym four)
      (all_mapped (In (tables_in t)) (In tables) (λ q i. in_flat_map tables_in segments t q (in_list segments j d below) i) (parents (path_at 4 x.level x.page))
      (parents_in t x.page from (omega (arith, small, to)) (omega (arith, small, from, to)) x.level page.low page.high)))
      (pages_by way t) (segment_pages h (omega (arith, four)) t aligned (allowed j d below) way) (ascending_within t.page (t.page + size_of t) (pages_by way t) (segment_ascends way t))

  module _ (n : ℕ) (few : n ≤ length segments) (aligned : (j : ℕ) (d : Segment) → j < n → (get_or segments j d).page % 0x1000 ≡ 0) where
    -- what holds for the pages of each of the first segments
    of_first : (P : PageMapping → Type 0) → ((j : ℕ) (d : Segment) → j < length segments → (get_or segments j d).page % 0x1000 ≡ 0 → AllByRecursion P (pages_by way (get_or segments j d)))
        → AllByRecursion P (flat_map (pages_by way) (take n segments))
    of_first P each = each_segment P (pages_by way) (take n segments)
        (λ j d below.
        let long = length-take-le n segments few in
        let less : j < n = omega (arith, below, long) in
        subst (λ t. AllByRecursion P (pages_by way t)) (sym (get_or-take n segments j d less)) (each j d (omega (arith, less, few)) (aligned j d less)))

    -- none of their pages is refused
    pub none_refused : (done left : List PageMapping) (next : PageMapping) (why : Refusal) (after : Hierarchy Lent) (rest : List ℕ)
        → flat_map (pages_by way) (take n segments) ≡ done ++ next ∷ left → Refuses h supply done next why after rest → ⊥
    none_refused done left next why after rest cut refused =
        let pages = done ++ next ∷ [] in
        let whole : flat_map (pages_by way) (take n segments) ≡ pages ++ left = cut ∙ sym (append_assoc done (next ∷ []) left) in
        let all : flat_map (pages_by way) segments ≡ pages ++ (left ++ flat_map (pages_by way) (drop n segments)) =
        ap (flat_map (pages_by way)) (sym (take-append-drop n segments)) ∙ flat_map-append (pages_by way) (take n segments) (drop n segments)
        ∙ ap (λ xs. xs ++ flat_map (pages_by way) (drop n segments)) whole ∙ append_assoc pages left (flat_map (pages_by way) (drop n segments)) in
        let apart : EachApart pages = apart_front pages (left ++ flat_map (pages_by way) (drop n segments)) (subst EachApart all (all_apart way segments suffices.disjoint)) in
        let may = all_front (IsMappable machine (paths h)) pages left (subst (AllByRecursion (IsMappable machine (paths h))) whole (of_first (IsMappable machine (paths h)) mappable)) in
        let ways = all_front (λ x. AllByRecursion (In tables) (parents (entry_path L x))) pages left
        (subst (AllByRecursion (λ x. AllByRecursion (In tables) (parents (entry_path L x)))) whole (of_first (λ x. AllByRecursion (In tables) (parents (entry_path L x))) covered)) in
        let frames : length tables ≤ length supply = subst (λ n. n ≤ length supply) (sym (tables_counted segments)) suffices.frames in
        let is : IsMachine machine = record { adds = adds; gives = gives_first } in
        let succeed = mappings_succeed machine is (words h) h.layout.root (λ f. true) (state_of h supply) fits pages may apart tables (covers_missing L (paths h) tables pages ways) frames in
        no_refusal next why (map accepted done) (sym (map-append accepted done (next ∷ [])) ∙ sym succeed ∙ refused.replies put_first)

-- a load can't have been refused
pub cannot_be_refused : {Lent : Type 0} (h : Hierarchy Lent) (supply : List ℕ) (way : Sizes) (segments : List Segment) → h.layout.levels ≡ 4 → IsParentFlags h.layout.added_flags → SupplyFits h supply
    → All (IsAllowed h) segments → Suffices (pages_by way) h supply segments → (error : LoadError) (after : Hierarchy Lent) (rest : List ℕ)
    → ((j : ℕ) (d : Segment) → j < error.segment + 1 → (get_or segments j d).page % 0x1000 ≡ 0) → LoadIsRefused (pages_by way) h supply segments error after rest → ⊥
cannot_be_refused h supply way segments four adds fits allowed suffices error after rest aligned (s, refused) =
    let i = error.segment in
    let there = refused.there in
    none_refused h supply way segments four adds fits allowed suffices (i + 1) (omega (arith, there)) aligned
    (flat_map (pages_by way) (take i segments) ++ refused.before) refused.left refused.next (map_refusal error.why) after rest
    (pages_next segments i s there refused.is_segment (pages_by way) ∙ cut_before (flat_map (pages_by way) (take i segments)) (pages_by way s) refused.before refused.left refused.next refused.pages)
    refused.refused
