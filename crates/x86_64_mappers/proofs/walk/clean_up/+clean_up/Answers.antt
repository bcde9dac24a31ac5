use Rattle.std.proofs.Common.{◌≡◌, ⊎_elim, ◌<◌, ◌≤◌, ℕ, ◌+◌, ◌-◌, ◌*◌, ◌++◌, ◌∷◌, [], true, false, length, take, ◌∙◌, refl, sym, ap, subst, subst₂, arith, slice_set}
use Rattle.std.proofs.lemmas.Bool.{cases_lt}
use Rattle.x86_64_model.proofs.Lemmas.Machines.Giving.{giving_from}
use Rattle.x86_64_model.proofs.Lemmas.Walks.Walked.{one_more}
use Rattle.x86_64_model.specs.CleanUp.{in_range, meets}
use Rattle.x86_64_model.specs.Layout.{Layout}
use Rattle.x86_64_model.specs.Hierarchy.{◌laid_in◌, MayCleanUp, paths, words}
use Rattle.x86_64_model.specs.Memory.{word}
use Rattle.x86_64_model.specs.Path.{span_start}
use Rattle.x86_64_mappers.proofs.CleanUp.EntriesInRange.{next_visited, refused_out, recursive_out}
use Rattle.x86_64_mappers.proofs.CleanUp.Cleaned.{may_still, may_give}
use Rattle.x86_64_mappers.proofs.CleanUp.EntryCleaned.{below_cleaned, entry_stays, entry_kept, entry_gone}
use Rattle.x86_64_mappers.proofs.Entry.EntryEnds.{with_memory}
use Rattle.x86_64_mappers.proofs.Way.Paths.{positive_levels}
use Rattle.x86_64_mappers.proofs.CleanUp.TableCleaned.{met_between, out_before, out_after, before_first, before_last, before_next, level_one}
use Rattle.x86_64_mappers.proofs.CleanUp.NamedEntries.{not_before, unnamed_out, passed_to}
use Rattle.x86_64_mappers.proofs.Memory.Words.{empty_words, words_empty}
use Rattle.x86_64_mappers.proofs.CleanUp.Visited.{visited_reached, still_before}
use Rattle.x86_64_mappers.specs.AccessLending.{table_in}
use Rattle.x86_64_mappers.specs.private.CleaningUp.{last_position, IsPageRange, IsVisited, IsCleanedAt}
use Rattle.x86_64_mappers.specs.Reached.{IsReached}
use Rattle.x86_64_mappers.specs.private.Results.{walk_refusal}
use Rattle.x86_64_mappers.specs.private.Stops.{leads_to_table}
use Rattle.x86_64_mappers.specs.private.Writes.{IsSet}
use Rattle.x86_64_mappers.proofs.walk.clean_up.+clean_up.Goals as goal

-- ---- an entry

pub clean_up_entry-returns-then-is_recursive-clause-cleaned : goal.clean_up_entry-returns-then-is_recursive-clause-cleaned
clean_up_entry-returns-then-is_recursive-clause-cleaned g t c =
    let h = g.M.Tables.hierarchy c.args.mapper.now in
    let low = span_start h.layout.levels c.args.range.now.first.now in
    let high = last_position h.layout.levels c.args.range.now.last.now in
    let q = c.args.path.now in
    let valid = c.requires.may.valid in
    record {
      cleaned = entry_stays h.layout g.D.FrameDeallocator.take_back h.memory valid (g.D.FrameDeallocator.held c.args.frame_deallocator.now) low high (q ++ c.args.index ∷ [])
          (recursive_out h.layout h.memory valid low high q c.args.index c.requires.visited.outside (sym c.is_recursive.ensures ∙ c.if-is_recursive.true));
      serves = refl;
    }

pub clean_up_entry-next_table-requires-clause-reached : goal.clean_up_entry-next_table-requires-clause-reached
clean_up_entry-next_table-requires-clause-reached g t c =
    let h = g.M.Tables.hierarchy c.args.mapper.now in
    let low = span_start h.layout.levels c.args.range.now.first.now in
    let high = last_position h.layout.levels c.args.range.now.last.now in
    visited_reached h.layout h.memory low high c.args.path.now c.args.table c.requires.visited c.requires.may.valid

pub clean_up_entry-returns-in_default-clause-cleaned : goal.clean_up_entry-returns-in_default-clause-cleaned
clean_up_entry-returns-in_default-clause-cleaned g t c =
    let h = g.M.Tables.hierarchy c.args.mapper.now in
    let low = span_start h.layout.levels c.args.range.now.first.now in
    let high = last_position h.layout.levels c.args.range.now.last.now in
    let q = c.args.path.now in
    let valid = c.requires.may.valid in
    record {
      cleaned = entry_stays h.layout g.D.FrameDeallocator.take_back h.memory valid (g.D.FrameDeallocator.held c.args.frame_deallocator.now) low high (q ++ c.args.index ∷ [])
          (refused_out h.layout h.memory valid low high q c.args.table c.requires.visited c.args.index c.next_table.ensures.index (sym c.is_recursive.ensures ∙ c.if-is_recursive.false)
          (walk_refusal c.in_default.field-0) c.in_default.ensures.below);
      serves = refl;
    }

pub clean_up_entry-clean_up_table-requires : goal.clean_up_entry-clean_up_table-requires
clean_up_entry-clean_up_table-requires g t c κs within =
    let h = g.M.Tables.hierarchy c.args.mapper.now in
    let first = c.args.range.now.first.now in
    let low = span_start h.layout.levels first in
    let high = last_position h.layout.levels c.args.range.now.last.now in
    let q = c.args.path.now in
    let i = c.args.index in
    let below = c.in-Ok.below in
    let is = c.child_indices-indices.ensures in
    let long = ap length is ∙ one_more q i in
    let next = next_visited h.layout h.memory c.requires.may.valid low high q c.args.table c.requires.visited i c.next_table.ensures.index (sym c.is_recursive.ensures ∙ c.if-is_recursive.false)
    c.requires.short c.requires.meets below c.in-Ok.ensures.below in (
      (let d : 2 * (length first - length q) ≡ t = c.decreases in
          let m : 2 * (length first - length (take (length q + 1) c.child_indices-indices.result)) + 1 < t = omega (arith, d, long, c.requires.short, c.requires.range.first_long) in m),
      (
        within.0,
        (
          within.1,
          (
            omega (arith, long, c.requires.short),
            (c.requires.may, (c.requires.range, subst (λ p. IsVisited h.layout h.memory low high p below) (sym is) next.visited)),
          ),
        ),
      ),
    )

pub clean_up_entry-table-requires-clause-reached : goal.clean_up_entry-table-requires-clause-reached
clean_up_entry-table-requires-clause-reached g t c =
    let h = g.M.Tables.hierarchy c.args.mapper.now in
    let low = span_start h.layout.levels c.args.range.now.first.now in
    let high = last_position h.layout.levels c.args.range.now.last.now in
    let q = c.args.path.now in
    let i = c.args.index in
    let f = c.args.table in
    let below = c.in-Ok.below in
    let held = g.D.FrameDeallocator.held c.args.frame_deallocator.now in
    let after = g.M.Tables.hierarchy c.clean_up_table.new.mapper in
    let n = after.memory in
    let rest = g.D.FrameDeallocator.held c.clean_up_table.new.frame_deallocator in
    let done = c.clean_up_table.ensures in
    let next = next_visited h.layout h.memory c.requires.may.valid low high q f c.requires.visited i c.next_table.ensures.index (sym c.is_recursive.ensures ∙ c.if-is_recursive.false)
    c.requires.short c.requires.meets below c.in-Ok.ensures.below in
    let b = below_cleaned h.layout g.D.FrameDeallocator.take_back h.memory held low high q f i below c.requires.visited next n rest _ c.child_indices-indices.ensures done.cleaned.below in
    subst₂ (λ l p. IsReached l n p below) (sym done.layout) (sym c.child_indices-indices.ensures) (visited_reached h.layout n low high (q ++ i ∷ []) below b.there b.cleaned.valid)

pub clean_up_entry-entry_mut-requires-clause-reached : goal.clean_up_entry-entry_mut-requires-clause-reached
clean_up_entry-entry_mut-requires-clause-reached g t c =
    let h = g.M.Tables.hierarchy c.args.mapper.now in
    let low = span_start h.layout.levels c.args.range.now.first.now in
    let high = last_position h.layout.levels c.args.range.now.last.now in
    let q = c.args.path.now in
    let i = c.args.index in
    let f = c.args.table in
    let below = c.in-Ok.below in
    let held = g.D.FrameDeallocator.held c.args.frame_deallocator.now in
    let after = g.M.Tables.hierarchy c.clean_up_table.new.mapper in
    let n = after.memory in
    let rest = g.D.FrameDeallocator.held c.clean_up_table.new.frame_deallocator in
    let done = c.clean_up_table.ensures in
    let next = next_visited h.layout h.memory c.requires.may.valid low high q f c.requires.visited i c.next_table.ensures.index (sym c.is_recursive.ensures ∙ c.if-is_recursive.false)
    c.requires.short c.requires.meets below c.in-Ok.ensures.below in
    let b = below_cleaned h.layout g.D.FrameDeallocator.take_back h.memory held low high q f i below c.requires.visited next n rest _ c.child_indices-indices.ensures done.cleaned.below in
    subst (λ l. IsReached l n q f) (sym done.layout) (visited_reached h.layout n low high q f b.here b.cleaned.valid)

pub clean_up_entry-deallocate_frame-requires-clause-served : goal.clean_up_entry-deallocate_frame-requires-clause-served
clean_up_entry-deallocate_frame-requires-clause-served g t c =
    let h = g.M.Tables.hierarchy c.args.mapper.now in
    let low = span_start h.layout.levels c.args.range.now.first.now in
    let high = last_position h.layout.levels c.args.range.now.last.now in
    let q = c.args.path.now in
    let i = c.args.index in
    let f = c.args.table in
    let below = c.in-Ok.below in
    let held = g.D.FrameDeallocator.held c.args.frame_deallocator.now in
    let after = g.M.Tables.hierarchy c.clean_up_table.new.mapper in
    let n = after.memory in
    let rest = g.D.FrameDeallocator.held c.clean_up_table.new.frame_deallocator in
    let done = c.clean_up_table.ensures in
    let next = next_visited h.layout h.memory c.requires.may.valid low high q f c.requires.visited i c.next_table.ensures.index (sym c.is_recursive.ensures ∙ c.if-is_recursive.false)
    c.requires.short c.requires.meets below c.in-Ok.ensures.below in
    let b = below_cleaned h.layout g.D.FrameDeallocator.take_back h.memory held low high q f i below c.requires.visited next n rest _ c.child_indices-indices.ensures done.cleaned.below in
    let may = may_still h g.D.FrameDeallocator.take_back (giving_from g.D.FrameDeallocator.take_back g.met.D.FrameDeallocator.take_back_rearranges) (g.D.FrameKeeper.serves c.args.frame_deallocator.now) held c.requires.may _ _ n rest b.cleaned in
    let gives = may_give (record h { memory = n }) (g.D.FrameKeeper.serves c.args.frame_deallocator.now) rest may q i below b.there.leads in
    ap (λ serves. serves below) done.cleaned.serves ∙ gives.0

pub clean_up_entry-deallocate_frame-requires-clause-not_held : goal.clean_up_entry-deallocate_frame-requires-clause-not_held
clean_up_entry-deallocate_frame-requires-clause-not_held g t c =
    let h = g.M.Tables.hierarchy c.args.mapper.now in
    let low = span_start h.layout.levels c.args.range.now.first.now in
    let high = last_position h.layout.levels c.args.range.now.last.now in
    let q = c.args.path.now in
    let i = c.args.index in
    let f = c.args.table in
    let below = c.in-Ok.below in
    let held = g.D.FrameDeallocator.held c.args.frame_deallocator.now in
    let after = g.M.Tables.hierarchy c.clean_up_table.new.mapper in
    let n = after.memory in
    let rest = g.D.FrameDeallocator.held c.clean_up_table.new.frame_deallocator in
    let done = c.clean_up_table.ensures in
    let next = next_visited h.layout h.memory c.requires.may.valid low high q f c.requires.visited i c.next_table.ensures.index (sym c.is_recursive.ensures ∙ c.if-is_recursive.false)
    c.requires.short c.requires.meets below c.in-Ok.ensures.below in
    let b = below_cleaned h.layout g.D.FrameDeallocator.take_back h.memory held low high q f i below c.requires.visited next n rest _ c.child_indices-indices.ensures done.cleaned.below in
    let may = may_still h g.D.FrameDeallocator.take_back (giving_from g.D.FrameDeallocator.take_back g.met.D.FrameDeallocator.take_back_rearranges) (g.D.FrameKeeper.serves c.args.frame_deallocator.now) held c.requires.may _ _ n rest b.cleaned in
    let gives = may_give (record h { memory = n }) (g.D.FrameKeeper.serves c.args.frame_deallocator.now) rest may q i below b.there.leads in
    gives.1

pub clean_up_entry-returns-then-is_empty-clause-cleaned : goal.clean_up_entry-returns-then-is_empty-clause-cleaned
clean_up_entry-returns-then-is_empty-clause-cleaned g t c =
    let h = g.M.Tables.hierarchy c.args.mapper.now in
    let low = span_start h.layout.levels c.args.range.now.first.now in
    let high = last_position h.layout.levels c.args.range.now.last.now in
    let q = c.args.path.now in
    let i = c.args.index in
    let f = c.args.table in
    let below = c.in-Ok.below in
    let held = g.D.FrameDeallocator.held c.args.frame_deallocator.now in
    let after = g.M.Tables.hierarchy c.clean_up_table.new.mapper in
    let n = after.memory in
    let rest = g.D.FrameDeallocator.held c.clean_up_table.new.frame_deallocator in
    let done = c.clean_up_table.ensures in
    let next = next_visited h.layout h.memory c.requires.may.valid low high q f c.requires.visited i c.next_table.ensures.index (sym c.is_recursive.ensures ∙ c.if-is_recursive.false)
    c.requires.short c.requires.meets below c.in-Ok.ensures.below in
    let b = below_cleaned h.layout g.D.FrameDeallocator.take_back h.memory held low high q f i below c.requires.visited next n rest _ c.child_indices-indices.ensures done.cleaned.below in
    let mapper = c.args.mapper.now in
    let o = (g.M.Tables.hierarchy (g.M.TableAccess.with_table c.clean_up_table.new.mapper f (slice_set (table_in after.layout n f) i c.set_unused.new.self))).memory in
    let there = ap (λ l. words (l laid_in n) below) (sym done.layout) ∙ c.table.ensures in
    let set = subst₂ (λ (l : Layout) w. IsSet l.places n f i w o) done.layout c.set_unused.ensures (c.entry_mut.ensures.set c.set_unused.new.self) in
    record {
      cleaned = entry_gone h.layout g.D.FrameDeallocator.take_back h.memory c.requires.may.valid held low high q f i below n rest b
          (g.met.M.Tables.is_mapping mapper).distinct (positive_levels h.layout.levels (g.met.M.Tables.at_least_four mapper)) c.next_table.ensures.index
          (empty_words (words (h.layout laid_in n)) below c.table.result.now there c.is_empty.ensures.size (c.is_empty.ensures.empty.0 c.if-is_empty.true)) o set _ c.deallocate_frame.ensures.held;
      serves = c.deallocate_frame.ensures.serves ∙ done.cleaned.serves;
    }

pub clean_up_entry-returns-else-is_empty-clause-cleaned : goal.clean_up_entry-returns-else-is_empty-clause-cleaned
clean_up_entry-returns-else-is_empty-clause-cleaned g t c =
    let h = g.M.Tables.hierarchy c.args.mapper.now in
    let low = span_start h.layout.levels c.args.range.now.first.now in
    let high = last_position h.layout.levels c.args.range.now.last.now in
    let q = c.args.path.now in
    let i = c.args.index in
    let f = c.args.table in
    let below = c.in-Ok.below in
    let held = g.D.FrameDeallocator.held c.args.frame_deallocator.now in
    let after = g.M.Tables.hierarchy c.clean_up_table.new.mapper in
    let n = after.memory in
    let rest = g.D.FrameDeallocator.held c.clean_up_table.new.frame_deallocator in
    let done = c.clean_up_table.ensures in
    let next = next_visited h.layout h.memory c.requires.may.valid low high q f c.requires.visited i c.next_table.ensures.index (sym c.is_recursive.ensures ∙ c.if-is_recursive.false)
    c.requires.short c.requires.meets below c.in-Ok.ensures.below in
    let b = below_cleaned h.layout g.D.FrameDeallocator.take_back h.memory held low high q f i below c.requires.visited next n rest _ c.child_indices-indices.ensures done.cleaned.below in
    let there = ap (λ l. words (l laid_in n) below) (sym done.layout) ∙ c.table.ensures in
    record {
      cleaned = entry_kept h.layout g.D.FrameDeallocator.take_back h.memory c.requires.may.valid held low high q f i below n rest b
          (λ all. let t : false ≡ true = sym c.if-is_empty.false ∙ c.is_empty.ensures.empty.1 (words_empty (words (h.layout laid_in n)) below c.table.result.now there c.is_empty.ensures.size all) in cc);
      serves = done.cleaned.serves;
    }

-- ---- a table

pub clean_up_table-next_named-next-requires-clause-reached : goal.clean_up_table-next_named-next-requires-clause-reached
clean_up_table-next_named-next-requires-clause-reached g t c =
    let h = g.M.Tables.hierarchy c.args.mapper.now in
    let low = span_start h.layout.levels c.args.range.now.first.now in
    let high = last_position h.layout.levels c.args.range.now.last.now in
    visited_reached h.layout h.memory low high c.args.path.now c.args.table c.requires.visited c.requires.may.valid

pub clean_up_table-loop-next-init : goal.clean_up_table-loop-next-init
clean_up_table-loop-next-init g t c =
    let h = g.M.Tables.hierarchy c.args.mapper.now in
    let low = span_start h.layout.levels c.args.range.now.first.now in
    let high = last_position h.layout.levels c.args.range.now.last.now in
    let q = c.args.path.now in
    let v = c.requires.visited in
    let valid = c.requires.may.valid in
    let first = c.index_in_table-first in
    let next = c.next_named-next in
    let none_before : (k : ℕ) → k < first.result → in_range h.layout.levels (paths h) low high (q ++ k ∷ []) ≡ false = λ k less.
    out_before h.layout.levels (paths h) c.args.range.now.first.now c.args.range.now.last.now c.requires.range q c.requires.short v.below v.visits k
    (omega (arith, less, first.ensures.small)) (subst (λ n. k < n) first.ensures.index less) in
    let most : next.result ≤ 512 = omega (arith, next.ensures.last, c.index_in_table-last.ensures.small) in
    record {
      cleaned = before_first h.layout g.D.FrameDeallocator.take_back h.memory valid (g.D.FrameDeallocator.held c.args.frame_deallocator.now) low high q next.result
          (λ k less. ⊎_elim (none_before k) (λ from. unnamed_out h.layout h.memory valid low high q c.args.table v k (omega (arith, less, most)) (next.ensures.passed k from less)) (cases_lt k first.result));
      from = next.ensures.from;
      in_table = most;
      layout = refl;
      lent = refl;
      serves = refl;
    }

pub clean_up_table-clean_up_entry-requires : goal.clean_up_table-clean_up_entry-requires
clean_up_table-clean_up_entry-requires g t c κs within =
    let mapper = c.args.mapper.now in
    let h = g.M.Tables.hierarchy mapper in
    let first = c.args.range.now.first.now in
    let last = c.args.range.now.last.now in
    let low = span_start h.layout.levels first in
    let high = last_position h.layout.levels last in
    let q = c.args.path.now in
    let i = c.loop-next.next in
    let f = c.args.table in
    let held = g.D.FrameDeallocator.held c.args.frame_deallocator.now in
    let now = g.M.Tables.hierarchy c.loop-next.mapper in
    let rest = g.D.FrameDeallocator.held c.loop-next.frame_deallocator in
    let inv = c.loop-next.invariant in
    let may = may_still h g.D.FrameDeallocator.take_back (giving_from g.D.FrameDeallocator.take_back g.met.D.FrameDeallocator.take_back_rearranges) (g.D.FrameKeeper.serves c.args.frame_deallocator.now) held c.requires.may _ _ now.memory rest inv.cleaned in
    let is = with_memory h now inv.layout inv.lent in
    let v = c.requires.visited in
    let met = met_between h.layout.levels (paths h) first last c.requires.range q c.requires.short v.below v.visits i (omega (arith, c.loop-next-test.true, c.index_in_table-last.ensures.small))
    (omega (arith, c.loop-next.invariant.from, c.loop-next-test.true, c.index_in_table-first.ensures.index)) (omega (arith, c.loop-next-test.true, c.index_in_table-last.ensures.index)) in (
      let d : 2 * (length first - length q) + 1 ≡ t = c.decreases in let m : 2 * (length first - length q) < t = omega (arith, d) in m,
      (
        within.0,
        (
          within.1,
          (
            subst (λ (l : Layout). length q + 1 < l.levels) (sym inv.layout) (omega (arith, c.if-path-range.true, c.requires.range.first_long)),
            (
              subst₂ (λ h serves. MayCleanUp h serves rest) is (sym inv.serves) may,
              (
                subst (λ (l : Layout). IsPageRange l.levels first last) (sym inv.layout) c.requires.range,
                (
                  subst (λ l. IsVisited l now.memory (span_start l.levels first) (last_position l.levels last) q f) (sym inv.layout) (still_before h.layout h.memory low high q f v i now.memory inv.cleaned.meant),
                  subst₂ (λ (l : Layout) j. meets l.levels (span_start l.levels first) (last_position l.levels last) (q ++ j ∷ []) ≡ true) (sym inv.layout) (sym c.new-index.ensures) met,
                ),
              ),
            ),
          ),
        ),
      ),
    )

pub clean_up_table-next_named-next-requires-in-loop-next-clause-reached : goal.clean_up_table-next_named-next-requires-in-loop-next-clause-reached
clean_up_table-next_named-next-requires-in-loop-next-clause-reached g t c =
    let mapper = c.args.mapper.now in
    let h = g.M.Tables.hierarchy mapper in
    let first = c.args.range.now.first.now in
    let last = c.args.range.now.last.now in
    let low = span_start h.layout.levels first in
    let high = last_position h.layout.levels last in
    let q = c.args.path.now in
    let i = c.loop-next.next in
    let held = g.D.FrameDeallocator.held c.args.frame_deallocator.now in
    let n = (g.M.Tables.hierarchy c.loop-next.mapper).memory in
    let rest = g.D.FrameDeallocator.held c.loop-next.frame_deallocator in
    let done = c.clean_up_entry in
    let o = (g.M.Tables.hierarchy done.new.mapper).memory in
    let left = g.D.FrameDeallocator.held done.new.frame_deallocator in
    let inv = c.loop-next.invariant in
    let v = c.requires.visited in
    let apart = (g.met.M.Tables.is_mapping mapper).distinct in
    let at = subst₂ (λ (l : Layout) j. IsCleanedAt l g.D.FrameDeallocator.take_back n rest (span_start l.levels first) (last_position l.levels last) (q ++ j ∷ []) o left) inv.layout c.new-index.ensures done.ensures.cleaned.cleaned in
    let here = before_next h.layout g.D.FrameDeallocator.take_back h.memory c.requires.may.valid held low high q v.visits i apart n rest inv.cleaned o left at in
    subst (λ l. IsReached l o q c.args.table) (sym (done.ensures.layout ∙ inv.layout))
    (visited_reached h.layout o low high q c.args.table (still_before h.layout h.memory low high q c.args.table v (i + 1) o here.meant) here.valid)

pub clean_up_table-loop-next-preserved : goal.clean_up_table-loop-next-preserved
clean_up_table-loop-next-preserved g t c =
    let mapper = c.args.mapper.now in
    let h = g.M.Tables.hierarchy mapper in
    let first = c.args.range.now.first.now in
    let last = c.args.range.now.last.now in
    let low = span_start h.layout.levels first in
    let high = last_position h.layout.levels last in
    let q = c.args.path.now in
    let i = c.loop-next.next in
    let held = g.D.FrameDeallocator.held c.args.frame_deallocator.now in
    let n = (g.M.Tables.hierarchy c.loop-next.mapper).memory in
    let rest = g.D.FrameDeallocator.held c.loop-next.frame_deallocator in
    let done = c.clean_up_entry in
    let o = (g.M.Tables.hierarchy done.new.mapper).memory in
    let left = g.D.FrameDeallocator.held done.new.frame_deallocator in
    let inv = c.loop-next.invariant in
    let v = c.requires.visited in
    let apart = (g.met.M.Tables.is_mapping mapper).distinct in
    let at = subst₂ (λ (l : Layout) j. IsCleanedAt l g.D.FrameDeallocator.take_back n rest (span_start l.levels first) (last_position l.levels last) (q ++ j ∷ []) o left) inv.layout c.new-index.ensures done.ensures.cleaned.cleaned in
    let here = before_next h.layout g.D.FrameDeallocator.take_back h.memory c.requires.may.valid held low high q v.visits i apart n rest inv.cleaned o left at in
    let next = c.next_named-next-in-loop-next in
    let on = not_before (i + 1) c.index_in_table-last.result next.result next.ensures.from (omega (arith, c.loop-next-test.true)) in
    let most : next.result ≤ 512 = omega (arith, next.ensures.last, c.index_in_table-last.ensures.small) in
    let layout = done.ensures.layout ∙ inv.layout in
    record {
      cleaned = passed_to h.layout g.D.FrameDeallocator.take_back h.memory c.requires.may.valid held low high q c.args.table v apart o left (i + 1) next.result on most
          (subst (λ l. (k : ℕ) → i + 1 ≤ k → k < next.result → leads_to_table (word (words (l laid_in o)) c.args.table k) ≡ false) layout next.ensures.passed) here;
      from = let was = inv.from c.loop-next-test.true in λ below. omega (arith, was, on);
      in_table = most;
      layout = layout;
      lent = done.ensures.lent ∙ inv.lent;
      serves = done.ensures.cleaned.serves ∙ inv.serves;
    }

pub clean_up_table-loop-next-smaller : goal.clean_up_table-loop-next-smaller
clean_up_table-loop-next-smaller g t c =
    let next = c.next_named-next-in-loop-next in
    let on = not_before (c.loop-next.next + 1) c.index_in_table-last.result next.result next.ensures.from (omega (arith, c.loop-next-test.true)) in
    let small : c.loop-next.next < 512 = omega (arith, c.loop-next-test.true, c.index_in_table-last.ensures.small) in
    let m : 512 - next.result < 512 - c.loop-next.next = omega (arith, on, small) in m

pub clean_up_table-returns-after-loop-next-clause-cleaned : goal.clean_up_table-returns-after-loop-next-clause-cleaned
clean_up_table-returns-after-loop-next-clause-cleaned g t c =
    let h = g.M.Tables.hierarchy c.args.mapper.now in
    let low = span_start h.layout.levels c.args.range.now.first.now in
    let high = last_position h.layout.levels c.args.range.now.last.now in
    let q = c.args.path.now in
    let i = c.loop-next.next in
    let v = c.requires.visited in
    record {
      below = before_last h.layout g.D.FrameDeallocator.take_back h.memory c.requires.may.valid (g.D.FrameDeallocator.held c.args.frame_deallocator.now) low high q i c.loop-next.invariant.in_table
          (λ k from to. out_after h.layout.levels (paths h) c.args.range.now.first.now c.args.range.now.last.now c.requires.range q c.requires.short v.below v.visits k to (omega (arith, from, c.loop-next-test.false, c.index_in_table-last.ensures.index)))
          (g.M.Tables.hierarchy c.loop-next.mapper).memory (g.D.FrameDeallocator.held c.loop-next.frame_deallocator) c.loop-next.invariant.cleaned;
      serves = c.loop-next.invariant.serves;
    }

pub clean_up_table-returns-else-path-range-clause-cleaned : goal.clean_up_table-returns-else-path-range-clause-cleaned
clean_up_table-returns-else-path-range-clause-cleaned g t c =
    let h = g.M.Tables.hierarchy c.args.mapper.now in
    let low = span_start h.layout.levels c.args.range.now.first.now in
    let high = last_position h.layout.levels c.args.range.now.last.now in
    let q = c.args.path.now in
    record {
      below = level_one h.layout g.D.FrameDeallocator.take_back h.memory c.requires.may.valid (g.D.FrameDeallocator.held c.args.frame_deallocator.now) low high q
          (omega (arith, c.if-path-range.false, c.requires.range.first_long));
      serves = refl;
    }
