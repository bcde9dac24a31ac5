use Rattle.std.proofs.Common.{◌≡◌, ◌<◌, ◌+◌, ◌*◌, ◌++◌, [], ℕ, fold, true, not, refl, sym, ap, ◌∙◌, subst, subst₂, ◌≤◌, arith}
use Rattle.std.proofs.lemmas.List.Sums.{fold-append}
use Rattle.x86_64_model.specs.Allowed.{allowed}
use Rattle.x86_64_model.specs.Call.{Unmap}
use Rattle.x86_64_model.specs.Layout.{Layout}
use Rattle.x86_64_model.specs.Hierarchy.{◌laid_in◌, paths}
use Rattle.x86_64_model.specs.Position.{span}
use Rattle.x86_64_model.specs.private.MapperCalls.{after_unmap}
use Rattle.x86_64_mappers.specs.RangeChanges.{frames_done, unmaps}
use Rattle.x86_64_mappers.specs.private.PageCalls.{unmap_says}
use Rattle.x86_64_mappers.specs.private.RangeChangeSteps.{IsChangeRun, IsPartChanged}
use Rattle.x86_64_mappers.proofs.Range.ChangedWords.{frames_append}
use Rattle.x86_64_mappers.proofs.Range.ChangeParts.{pages_changed}
use Rattle.x86_64_mappers.proofs.Range.ChangeRuns.{ends_changes, no_changes}
use Rattle.x86_64_mappers.proofs.Range.EntryCalls.{unmap_is}
use Rattle.x86_64_mappers.proofs.Range.PartSizes.{page_there}
use Rattle.x86_64_mappers.proofs.walk.change_range.unmap_range.Goals as goal

pub parts-init : goal.parts-init
parts-init g c =
    let h = g.M.Tables.hierarchy c.args.mapper.now in record {
      run = ([], no_changes h.layout h.memory c.requires.valid, refl);
      within = omega arith;
      layout = refl;
      lent = refl;
    }

pub page_after-requires : goal.page_after-requires
page_after-requires g c = page_there (g.M.Tables.hierarchy c.args.mapper.now).layout.levels g.L.LevelCount.LEVELS g.S.PageSize.LEVEL g.S.PageSize.SIZE c.args.page c.parts.done g.S.PageSize.size
    (g.met.M.TablesIn.level_count c.args.mapper.now) (c.requires.pages.there c.parts.done c.parts-test.true)

pub parts-preserved : goal.parts-preserved
parts-preserved g c =
    let s = c.args.mapper.now in
    let h = g.M.Tables.hierarchy s in
    let l = h.layout in
    let m = h.memory in
    let level = g.S.PageSize.LEVEL in
    let page = c.args.page in
    let done = c.parts.done in
    let inv = c.parts.invariant in
    let may : (k : ℕ) → k < c.args.count → allowed l.levels l.window (paths (l laid_in m)) (Unmap level (page + k * span level)) ≡ true = λ k less. ap not (c.requires.pages.outside k less) in
    let now = (g.M.Tables.hierarchy c.parts.mapper).memory in
    let after = g.M.Tables.hierarchy c.unmap_part-done.new.mapper in
    let count = c.unmap_part-done.result in
    let inside : done + count ≤ c.args.count = (let less = c.parts-test.true in let few = c.unmap_part-done.ensures.within in omega (arith, less, few)) in
    let told = c.unmap_part-done.ensures.changes in
    let here : c.page_after.result ≡ page + done * span level = c.page_after.ensures ∙ ap (λ z. page + done * z) g.S.PageSize.size in
    let part = subst₂ (λ (l : Layout) p. IsPartChanged l now level p (unmap_says level) count told.0 after.memory) inv.layout here told.1 in record {
      run = (
        inv.run.0 ++ told.0,
        pages_changed l (g.met.M.Tables.is_mapping s).distinct level g.S.PageSize.low g.S.PageSize.high (g.met.M.Tables.at_least_four s) (unmap_says level) (λ p. Unmap level p) (λ m q. after_unmap l m q)
            (unmap_is l level g.S.PageSize.high) m page c.args.count may done now inv.run.0 inv.run.1 count inside told.0 after.memory part,
        told.2 ∙ ap (λ sink. fold g.K.FrameSink.with_frame sink (frames_done told.0)) inv.run.2
            ∙ sym (fold-append g.K.FrameSink.with_frame c.args.sink.now (frames_done inv.run.0) (frames_done told.0))
            ∙ ap (λ fs. fold g.K.FrameSink.with_frame c.args.sink.now fs) (sym (frames_append inv.run.0 told.0)),
      );
      within = inside;
      layout = c.unmap_part-done.ensures.layout ∙ inv.layout;
      lent = c.unmap_part-done.ensures.lent ∙ inv.lent;
    }

pub parts-smaller : goal.parts-smaller
parts-smaller g c =
    let some = c.unmap_part-done.ensures.some in let few = c.unmap_part-done.ensures.within in let less = c.parts-test.true in omega (arith, some, few, less)

pub new-requires : goal.new-requires
new-requires g c = λ k less. page_there (g.M.Tables.hierarchy c.args.mapper.now).layout.levels g.L.LevelCount.LEVELS g.S.PageSize.LEVEL g.S.PageSize.SIZE c.args.page k g.S.PageSize.size
    (g.met.M.TablesIn.level_count c.args.mapper.now) (c.requires.pages.there k less)

pub returns-clause-does : goal.returns-clause-does
returns-clause-does g c =
    let h = g.M.Tables.hierarchy c.args.mapper.now in
    let inv = c.parts.invariant in
    let all : c.parts.done ≡ c.args.count = (let most = inv.within in let least = c.parts-test.false in omega (arith, most, least)) in
    let run = subst (λ k. IsChangeRun h.layout h.memory (unmaps g.S.PageSize.LEVEL c.args.page k) inv.run.0 (g.M.Tables.hierarchy c.parts.mapper).memory) all inv.run.1 in (
      inv.run.0,
      ends_changes h (g.M.Tables.hierarchy c.parts.mapper) (unmaps g.S.PageSize.LEVEL c.args.page c.args.count) inv.run.0 inv.layout inv.lent run,
      inv.run.2,
    )
