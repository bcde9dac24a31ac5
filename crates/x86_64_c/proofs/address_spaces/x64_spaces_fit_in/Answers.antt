use Rattle.std.proofs.Common.{arith, ◌≡◌, ◌⊎◌, inl, inr, ◌∙◌, ℕ, Bool, true, false, ◌==◌, List, [], ◌∷◌, length, refl, sym, subst}
use Rattle.std.proofs.lemmas.Bool.Decides.{nat_tests}
use Rattle.x86_64_tables.specs.FrameSegments.{are_in_order, segment_places}
use Rattle.x86_64_tables.specs.Shifted.{shifted_places}
use Rattle.x86_64_tables.specs.declared.phys_memory.frame_segment.FrameSegment.{FrameSegment}
use Rattle.x86_64_c.specs.AddressSpaces.{SpacesFit, shared_in, wrong_room, wrong_spaces_in}
use Rattle.x86_64_c.specs.Arguments.{places_by}
use Rattle.x86_64_c.specs.Validity.{TellsWhether}
use Rattle.x86_64_c.specs.PoolCalls.{Loan, loan}
use Rattle.x86_64_c.specs.declared.arguments.Hierarchy.{Hierarchy}
use Rattle.x86_64_c.proofs.ArgumentsGiven.{right_levels}
use Rattle.x86_64_c.proofs.address_spaces.x64_spaces_fit_in.Goals as goal
use Rattle.x86_64_c.proofs.address_spaces.x64_spaces_fit_in.Goals.{else-levels-ne4-via-then-levels-ne4+else-levels-ne5, else-levels-ne4-via-else-levels-ne4}

-- with a right number of levels and right segments only the room and the indices can be wrong
but_room : (h : Hierarchy) (from to : ℕ) (lent : Loan) (marks : ℕ) → (h.levels ≡ 4) ⊎ (h.levels ≡ 5) → are_in_order h.segments.now ≡ true
    → wrong_spaces_in h from to lent marks ≡ wrong_room from to lent marks
but_room h from to lent marks levels order = rw (right_levels h.levels levels, order) refl

-- without segments the frames are shifted, and with some they lie where these say
without_segments : (first : ℕ) (segments : List FrameSegment) (empty : Bool) → empty ≡ (length segments == 0) → empty ≡ true
    → (shifted_places first ≡ places_by first segments) × (are_in_order segments ≡ true)
without_segments first [] empty is none = (refl, refl)
without_segments first (segment ∷ others) empty is none = absurd
    (let zero : (length (segment ∷ others) == 0) ≡ true = sym is ∙ none in grind (arith, nat_tests))

with_segments : (first : ℕ) (segments : List FrameSegment) (empty : Bool) → empty ≡ (length segments == 0) → empty ≡ false
    → segment_places segments ≡ places_by first segments
with_segments first [] empty is some = absurd (let z : false ≡ true = sym some ∙ is in cc)
with_segments first (segment ∷ others) empty is some = refl

pub returns-then-is_empty : goal.returns-then-is_empty
returns-then-is_empty c =
    let h = c.args.hierarchy.now in
    let lent = loan c.args.tables.now c.args.pool.now c.args.free_count in
    let levels : (h.levels ≡ 4) ⊎ (h.levels ≡ 5) = elim c.else-levels-ne4.branch [
      | else-levels-ne4-via-then-levels-ne4+else-levels-ne5 w ↦ inr w.if-levels-ne5.false
      | else-levels-ne4-via-else-levels-ne4 w ↦ inl w.if-levels-ne4.false
    ] in
    let none = without_segments h.first h.segments.now c.is_empty.result c.is_empty.ensures c.if-is_empty.true in
    let room = but_room h c.args.shared_from c.args.shared_to lent (length c.args.marks.now) levels none.1 in
    record {
      bad = λ status is. c.test_spaces.ensures.bad status (sym room ∙ is);
      fit = λ good. subst (λ places. TellsWhether (SpacesFit (shared_in c.args.shared_from c.args.shared_to) places h.levels c.args.roots.now lent)
          c.test_spaces.result)
          (c.new-mapping.ensures ∙ none.0) (c.test_spaces.ensures.fit (sym room ∙ good));
      tables = c.test_spaces.ensures.tables;
    }

pub returns-clause-fit : goal.returns-clause-fit
returns-clause-fit c = λ good.
    let h = c.args.hierarchy.now in
    let lent = loan c.args.tables.now c.args.pool.now c.args.free_count in
    let levels : (h.levels ≡ 4) ⊎ (h.levels ≡ 5) = elim c.else-levels-ne4.branch [
      | else-levels-ne4-via-then-levels-ne4+else-levels-ne5 w ↦ inr w.if-levels-ne5.false
      | else-levels-ne4-via-else-levels-ne4 w ↦ inl w.if-levels-ne4.false
    ] in
    let room = but_room h c.args.shared_from c.args.shared_to lent (length c.args.marks.now) levels c.in-Ok.ensures.in_order in
    let places = c.in-Ok.ensures.places ∙ with_segments h.first h.segments.now c.is_empty.result c.is_empty.ensures c.if-is_empty.false in
    subst (λ places. TellsWhether (SpacesFit (shared_in c.args.shared_from c.args.shared_to) places h.levels c.args.roots.now lent)
    c.test_spaces-2.result)
    places (c.test_spaces-2.ensures.fit (sym room ∙ good))

pub returns-clause-bad : goal.returns-clause-bad
returns-clause-bad c = λ status is.
    let h = c.args.hierarchy.now in
    let lent = loan c.args.tables.now c.args.pool.now c.args.free_count in
    let levels : (h.levels ≡ 4) ⊎ (h.levels ≡ 5) = elim c.else-levels-ne4.branch [
      | else-levels-ne4-via-then-levels-ne4+else-levels-ne5 w ↦ inr w.if-levels-ne5.false
      | else-levels-ne4-via-else-levels-ne4 w ↦ inl w.if-levels-ne4.false
    ] in
    let room = but_room h c.args.shared_from c.args.shared_to lent (length c.args.marks.now) levels c.in-Ok.ensures.in_order in
    c.test_spaces-2.ensures.bad status (sym room ∙ is)
