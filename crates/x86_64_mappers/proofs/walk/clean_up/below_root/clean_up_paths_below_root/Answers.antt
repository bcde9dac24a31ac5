use Rattle.std.proofs.Common.{◌≡◌, ◌<◌, ◌*◌, ◌∷◌, [], true, get_or, refl, sym, ap, subst, subst₂, ◌∙◌, arith}
use Rattle.std.proofs.lemmas.List.{get_or_read}
use Rattle.x86_64_model.proofs.Lemmas.CleanUps.Below.{cleaned_below, back_below}
use Rattle.x86_64_model.proofs.Lemmas.Machines.Giving.{giving_from}
use Rattle.x86_64_model.specs.CleanUp.{meets}
use Rattle.x86_64_model.specs.Hierarchy.{◌laid_in◌, MayCleanUp, paths}
use Rattle.x86_64_model.specs.Layout.{Layout}
use Rattle.x86_64_model.specs.Path.{span_start}
use Rattle.x86_64_model.specs.Store.{Store}
use Rattle.x86_64_mappers.proofs.CleanUp.BelowRootEnds.{ends_at, ends_nowhere, goes_on, page_range, starts}
use Rattle.x86_64_mappers.proofs.CleanUp.Cleaned.{may_still}
use Rattle.x86_64_mappers.proofs.CleanUp.TableCleaned.{met_between, out_before, out_after}
use Rattle.x86_64_mappers.proofs.Entry.EntryEnds.{with_memory}
use Rattle.x86_64_mappers.specs.CleanUpsBelowRoot.{CleansUpBelowRoot}
use Rattle.x86_64_mappers.specs.private.CleaningUp.{last_position, IsCleaned}
use Rattle.x86_64_mappers.proofs.walk.clean_up.below_root.clean_up_paths_below_root.Goals as goal

pub returns-then-page_number : goal.returns-then-page_number
returns-then-page_number g c =
    let h = g.M.Tables.hierarchy c.args.mapper.now in
    let L = h.layout.levels in
    let deallocator = c.args.frame_deallocator.now in
    let store : Store = record { frames = g.D.FrameDeallocator.held deallocator; serves = g.D.FrameKeeper.serves deallocator; take_back = g.D.FrameDeallocator.take_back } in
    let last : c.page_number.result * 0x1000 ≡ span_start L c.args.last.now = c.page_number.ensures.start ∙ ap (λ n. span_start n c.args.last.now) c.requires.last in
    let first : c.page_number-2.result * 0x1000 ≡ span_start L c.args.first.now = c.page_number-2.ensures.start ∙ ap (λ n. span_start n c.args.first.now) c.requires.first in
    let before : c.page_number.result < c.page_number-2.result = c.if-page_number.true in
    ends_nowhere h c.requires.may.valid store (span_start L c.args.first.now) (last_position L c.args.last.now) (omega (arith, first, last, before))

pub loop-index-init : goal.loop-index-init
loop-index-init g c =
    let mapper = c.args.mapper.now in
    let h = g.M.Tables.hierarchy mapper in
    let L = h.layout.levels in
    let first = c.args.first.now in
    let last = c.args.last.now in
    let high_tree = g.met.M.Tables.at_least_four mapper in
    let range = page_range L first last c.page_number-2.result c.page_number.result c.requires.first c.requires.last c.page_number-2.ensures.below c.page_number.ensures.below
    c.page_number-2.ensures.start c.page_number.ensures.start c.if-page_number.false in
    let from : c.from-index.result ≡ get_or first 0 0 = c.from-index.ensures.0 ∙ get_or_read first 0 c.index-first-0.result (omega (arith, high_tree, c.requires.first)) c.index-first-0.is 0 in
    record {
      cleaned = starts h.layout g.D.FrameDeallocator.take_back h.memory c.requires.may.valid (g.D.FrameDeallocator.held c.args.frame_deallocator.now) (span_start L first) (last_position L last) c.from-index.result
          (λ j less. out_before L (paths h) first last range [] (omega (arith, high_tree)) tt (λ i. refl) j (omega (arith, less, c.from-index.ensures.1)) (omega (arith, less, from)));
      in_table = omega (arith, c.from-index.ensures.1);
      layout = refl;
      lent = refl;
      serves = refl;
    }

pub clean_up_below_entry-requires-clause-may : goal.clean_up_below_entry-requires-clause-may
clean_up_below_entry-requires-clause-may g c =
    let h = g.M.Tables.hierarchy c.args.mapper.now in
    let now = g.M.Tables.hierarchy c.loop-index.mapper in
    let take_back = g.D.FrameDeallocator.take_back in
    let rest = g.D.FrameDeallocator.held c.loop-index.frame_deallocator in
    let inv = c.loop-index.invariant in
    subst₂ (λ h serves. MayCleanUp h serves rest) (with_memory h now inv.layout inv.lent) (sym inv.serves)
    (may_still h take_back (giving_from take_back g.met.D.FrameDeallocator.take_back_rearranges) (g.D.FrameKeeper.serves c.args.frame_deallocator.now)
    (g.D.FrameDeallocator.held c.args.frame_deallocator.now) c.requires.may _ _ now.memory rest inv.cleaned)

pub clean_up_below_entry-requires-clause-meets : goal.clean_up_below_entry-requires-clause-meets
clean_up_below_entry-requires-clause-meets g c =
    let mapper = c.args.mapper.now in
    let h = g.M.Tables.hierarchy mapper in
    let L = h.layout.levels in
    let first = c.args.first.now in
    let last = c.args.last.now in
    let high_tree = g.met.M.Tables.at_least_four mapper in
    let range = page_range L first last c.page_number-2.result c.page_number.result c.requires.first c.requires.last c.page_number-2.ensures.below c.page_number.ensures.below
    c.page_number-2.ensures.start c.page_number.ensures.start c.if-page_number.false in
    let from : c.from-index.result ≡ get_or first 0 0 = c.from-index.ensures.0 ∙ get_or_read first 0 c.index-first-0.result (omega (arith, high_tree, c.requires.first)) c.index-first-0.is 0 in
    let end : c.from-index-end.result ≡ get_or last 0 0 = c.from-index-end.ensures.0 ∙ get_or_read last 0 c.index-last-0.result (omega (arith, high_tree, c.requires.last)) c.index-last-0.is 0 in
    let met = met_between L (paths h) first last range [] (omega (arith, high_tree)) tt (λ i. refl) c.loop-index.index (omega (arith, c.loop-index-test.true, c.from-index-end.ensures.1))
    (omega (arith, c.loop-index.auto.index, from)) (omega (arith, c.loop-index-test.true, end)) in
    subst₂ (λ (l : Layout) j. meets l.levels (span_start l.levels first) (last_position l.levels last) (j ∷ []) ≡ true) (sym c.loop-index.invariant.layout) (sym c.new.ensures) met

pub loop-index-preserved : goal.loop-index-preserved
loop-index-preserved g c =
    let mapper = c.args.mapper.now in
    let h = g.M.Tables.hierarchy mapper in
    let L = h.layout.levels in
    let first = c.args.first.now in
    let last = c.args.last.now in
    let take_back = g.D.FrameDeallocator.take_back in
    let n = (g.M.Tables.hierarchy c.loop-index.mapper).memory in
    let rest = g.D.FrameDeallocator.held c.loop-index.frame_deallocator in
    let inv = c.loop-index.invariant in
    let done = c.clean_up_below_entry in
    let o = (g.M.Tables.hierarchy done.new.mapper).memory in
    let left = g.D.FrameDeallocator.held done.new.frame_deallocator in
    let next = subst₂ (λ (l : Layout) j. IsCleaned l take_back n rest (cleaned_below l.levels (paths (l laid_in n)) (span_start l.levels first) (last_position l.levels last) (j ∷ []))
    (back_below l.levels (paths (l laid_in n)) (span_start l.levels first) (last_position l.levels last) (j ∷ [])) o left) inv.layout c.new.ensures done.ensures.cleaned.below in
    record {
      cleaned = goes_on h.layout take_back h.memory c.requires.may.valid (g.D.FrameDeallocator.held c.args.frame_deallocator.now) (span_start L first) (last_position L last)
          (g.met.M.Tables.is_mapping mapper).distinct c.loop-index.index n rest inv.cleaned o left next;
      in_table = omega (arith, c.loop-index-test.true, c.from-index-end.ensures.1);
      layout = done.ensures.layout ∙ inv.layout;
      lent = done.ensures.lent ∙ inv.lent;
      serves = done.ensures.cleaned.serves ∙ inv.serves;
    }

pub returns : goal.returns
returns g c =
    let mapper = c.args.mapper.now in
    let h = g.M.Tables.hierarchy mapper in
    let L = h.layout.levels in
    let first = c.args.first.now in
    let last = c.args.last.now in
    let high_tree = g.met.M.Tables.at_least_four mapper in
    let low_position = span_start L first in
    let high_position = last_position L last in
    let old = c.args.frame_deallocator.now in
    let new = c.loop-index.frame_deallocator in
    let store : Store = record { frames = g.D.FrameDeallocator.held old; serves = g.D.FrameKeeper.serves old; take_back = g.D.FrameDeallocator.take_back } in
    let rest : Store = record { frames = g.D.FrameDeallocator.held new; serves = g.D.FrameKeeper.serves new; take_back = g.D.FrameDeallocator.take_back } in
    let after = g.M.Tables.hierarchy c.loop-index.mapper in
    let inv = c.loop-index.invariant in
    let range = page_range L first last c.page_number-2.result c.page_number.result c.requires.first c.requires.last c.page_number-2.ensures.below c.page_number.ensures.below
    c.page_number-2.ensures.start c.page_number.ensures.start c.if-page_number.false in
    let end : c.from-index-end.result ≡ get_or last 0 0 = c.from-index-end.ensures.0 ∙ get_or_read last 0 c.index-last-0.result (omega (arith, high_tree, c.requires.last)) c.index-last-0.is 0 in
    subst (λ after. CleansUpBelowRoot h store low_position high_position after rest) (with_memory h after inv.layout inv.lent)
    (ends_at h c.requires.may.valid store low_position high_position after.memory rest inv.serves c.loop-index.index inv.in_table
    (λ j from small. out_after L (paths h) first last range [] (omega (arith, high_tree)) tt (λ i. refl) j small (omega (arith, from, c.loop-index-test.false, end))) inv.cleaned)
