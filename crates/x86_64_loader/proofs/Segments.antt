-- Loads of segments, one after another.
use Rattle.std.proofs.Common.{◌≡◌, ◌<◌, ◌+◌, ◌-◌, ◌*◌, ◌/◌, ◌%◌, ◌^◌, ◌++◌, ℕ, List, [], ◌∷◌, length, take, flat_map, get_or, inl, inr, refl, sym, ap, ◌∙◌, subst, arith}
use Rattle.std.proofs.lemmas.Bool.{cases_lt}
use Rattle.std.proofs.lemmas.Grind.{flat_map-append}
use Rattle.std.proofs.lemmas.List.{append-nil, take_more}
use Rattle.std.proofs.lemmas.List.Concat.{flat_map-cons}
use Rattle.std.proofs.lemmas.Option.{slice_get_read, get_or_from_slice_get}
use Rattle.std.specs.List.{All}
use Rattle.x86_64_model.specs.Hierarchy.{Hierarchy, Valid}
use Rattle.x86_64_model.specs.PageMappings.{PageMapping}
use Rattle.x86_64_tables.specs.MapperAnswers.{map_refusal}
use Rattle.x86_64_tables.specs.PageTableFlags.{bits_of}
use Rattle.x86_64_mappers.specs.Supplies.{Supply}
use Rattle.x86_64_loader.specs.private.Loads.{HoldsSegment, IsHalted}
use Rattle.x86_64_loader.specs.Maps.{Accepts, Refuses}
use Rattle.x86_64_loader.specs.Pages.{IsFree, LeavesSupply}
use Rattle.x86_64_loader.specs.Segments.{AllStand, SegmentsAreApart, Has, IsAllowed, IsLoaded, LoadIsRefused, size_of}
use Rattle.x86_64_loader.specs.declared.segment.LoadError.{LoadError}
use Rattle.x86_64_loader.specs.declared.segment.Segment.{Segment}
use Rattle.x86_64_loader.proofs.Holding.{held_arrives, held_not_free, held_reached, held_still, reached_after}
use Rattle.x86_64_loader.proofs.Made.{refuses_then}
use Rattle.x86_64_loader.proofs.Runs.{may_now, one_more}

-- a segment that may be loaded still may after maps
pub still_allowed : {Lent : Type 0} {supply : Supply} (h now : Hierarchy Lent) (rest : Supply) (s : Segment) → LeavesSupply 3 h supply now rest → IsAllowed h s → IsAllowed now s
still_allowed h now rest s left allowed = record {
  is_present = allowed.is_present;
  each_page = λ k within. let may = allowed.each_page k within in record {
    page_there = may.page_there;
    frame_there = may.frame_there;
    allowed = (may_now h now rest 1 0x1000 s.page s.frame (bits_of s.flags) k allowed.is_present left may).allowed;
  };
}

-- if pages start at multiples of their size, each position of a segment whose pages exist does too
position_there : (s : Segment) → s.page % 0x1000 ≡ 0 → ((k : ℕ) → k < s.pages → s.page + k * 0x1000 < 2 ^ 48) → (offset : ℕ) → offset < size_of s → s.page + offset < 2 ^ 48
position_there s aligned pages offset within = let page = pages (offset / 0x1000) (omega (arith, within)) in omega (arith, page, aligned)

-- a segment that is held is loaded
pub held_is_loaded : {Lent : Type 0} (pages_of : Segment → List PageMapping) (h first : Hierarchy Lent) (s : Segment) → Valid h → s.page % 0x1000 ≡ 0 → IsAllowed first s → AllStand h (pages_of s) → HoldsSegment h s → IsLoaded pages_of h s
held_is_loaded pages_of h first s valid aligned allowed stand held = record {
  aligned = aligned;
  there = position_there s aligned (λ k within. (allowed.each_page k within).page_there);
  stand = stand;
  arrives = λ o within. held_arrives h (s.page + o) (s.frame + o) (bits_of s.flags) (held o (omega arith) within) valid;
}

module _ (segments : List Segment) (i : ℕ) (s : Segment) (here : i < length segments) (item : s ≡ get_or segments i s) where
  -- the element, whatever the default for a missing one
  is_at : (d : Segment) → get_or segments i d ≡ s
  is_at d = get_or_from_slice_get segments i s d (slice_get_read segments (length segments) i s refl here item)

  -- what holds for the elements before and for this one
  pub next_too : (P : Segment → Type 0) → ((j : ℕ) (d : Segment) → j < i → P (get_or segments j d)) → P s → (j : ℕ) (d : Segment) → j < i + 1 → P (get_or segments j d)
  next_too P before this j d = one_more (λ j. P (get_or segments j d)) i (λ j. before j d) (subst P (sym (is_at d)) this) j

  pub allowed_at : {Lent : Type 0} (h : Hierarchy Lent) → All (IsAllowed h) segments → IsAllowed h s
  allowed_at h all = subst (IsAllowed h) (is_at s) (all i s here)

  module _ {Lent : Type 0} (now after : Hierarchy Lent) (rest : Supply) (held : (j : ℕ) (d : Segment) → j < i → HoldsSegment now (get_or segments j d)) where
    pub held_next : {between : Supply} → LeavesSupply 3 now between after rest → HoldsSegment after s → (j : ℕ) (d : Segment) → j < i + 1 → HoldsSegment after (get_or segments j d)
    held_next left = next_too (HoldsSegment after)
        (λ j d before o low fits. let t = get_or segments j d in held_still now (t.page + o) (t.frame + o) (bits_of t.flags) (held j d before o low fits) after rest left)

    pub apart_next : SegmentsAreApart segments i → IsFree now s.page (size_of s) → SegmentsAreApart segments (i + 1)
    apart_next apart free j k d less within p in_first in_second = elim (cases_lt k i) [
      | inl before ↦ apart j k d less before p in_first in_second
      | inr not_before ↦
          let same : i ≡ k = omega (arith, within, not_before) in
          let in_this : Has s p = subst (λ t. Has t p) (is_at d) (subst (λ k. Has (get_or segments k d) p) (sym same) in_second) in
          let t = get_or segments j d in
          let start = in_first.0 in let end = in_first.1 in
          let at : t.page + (p - t.page) ≡ p = omega (arith, start) in
          held_not_free now (t.page + (p - t.page)) (t.frame + (p - t.page)) (bits_of t.flags) (held j d (omega (arith, less, same)) (p - t.page) (omega arith) (omega (arith, start, end)))
          s.page (size_of s) free (let from = in_this.0 in omega (arith, from, at)) (let to = in_this.1 in omega (arith, to, at))
    ]

    pub refused_here : (pages_of : Segment → List PageMapping) (h : Hierarchy Lent) (supply between : Supply) (e : LoadError) → LeavesSupply 3 h supply now between → e.segment ≡ i → e.page ≡ s.page + e.mapped * 0x1000
        → Accepts h supply.frames (flat_map pages_of (take i segments)) now between.frames → IsHalted now between s (pages_of s) 0 e.mapped (map_refusal e.why) after rest → LoadIsRefused pages_of h supply.frames segments e after rest.frames
    refused_here pages_of h supply between e left at page accepted halted = (
      s,
      record {
        there = subst (λ n. n < length segments) (sym at) here;
        is_segment = item ∙ ap (λ n. get_or segments n s) (sym at);
        before = halted.before;
        next = halted.next;
        left = halted.left;
        pages = halted.cut;
        page = page ∙ sym halted.page;
        mapped = halted.page;
        within = halted.within;
        refused = subst (λ n. Refuses h supply.frames (flat_map pages_of (take n segments) ++ halted.before) halted.next (map_refusal e.why) after rest.frames) (sym at)
            (refuses_then h now after supply.frames between.frames rest.frames (flat_map pages_of (take i segments)) halted.before left.kept.layout halted.next (map_refusal e.why) accepted halted.refused);
        segments_before = λ j d before o within. let t = get_or segments j d in
            reached_after now after rest t o halted.kept
            (held_reached now (t.page + o) (t.frame + o) (bits_of t.flags) (held j d (subst (λ n. j < n) at before) o (omega arith) within) left.kept.fits.valid);
        pages_before = λ o within. halted.pages_before o (omega arith) within;
      },
    )

  -- the pages of the segments up to and including this one
  pub pages_next : (pages_of : Segment → List PageMapping) → flat_map pages_of (take (i + 1) segments) ≡ flat_map pages_of (take i segments) ++ pages_of s
  pages_next pages_of =
      ap (flat_map pages_of) (take_more segments i s here ∙ ap (λ t. take i segments ++ t ∷ []) (is_at s))
      ∙ flat_map-append pages_of (take i segments) (s ∷ [])
      ∙ ap (λ xs. flat_map pages_of (take i segments) ++ xs) (flat_map-cons pages_of s [] ∙ append-nil (pages_of s))
