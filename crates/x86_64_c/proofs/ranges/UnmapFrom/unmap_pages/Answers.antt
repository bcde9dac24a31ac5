use Rattle.std.proofs.Common.{◌≤◌, length, refl, ap, ◌∙◌, arith, rules}
use Rattle.std.proofs.Math.Nat.{mul-le-mul_right}
use Rattle.x86_64_model.specs.Position.{span}
use Rattle.x86_64_mappers.specs.Layouts.{direct_at}
use Rattle.x86_64_mappers.specs.RangeChanges.{unmaps, frames_done}
use Rattle.x86_64_c.specs.declared.ranges.FrameArray.{FrameArray}
use Rattle.x86_64_c.proofs.EntryChanges.{plain, valid_over}
use Rattle.x86_64_c.proofs.FrameArrays.{takes_all}
use Rattle.x86_64_c.proofs.RangeArguments.{ends_there}
use Rattle.x86_64_c.proofs.RangesSeen.{changes_each, range_is, unmaps_are, few_frames}
use Rattle.x86_64_c.proofs.ranges.UnmapFrom.unmap_pages.Goals as goal

pub returns-clause-unmaps : goal.returns-clause-unmaps
returns-clause-unmaps g c =
    let L = g.L.LevelCount.LEVELS in
    let layout = direct_at L (g.P.PageTableFrameMapping.places c.args.located.mapping) c.args.located.root in
    let most = c.min-most.result in
    let does = c.unmap_range.ensures.does in
    let few = few_frames _ _ g.S.PageSize.LEVEL c.args.page most does.0 does.1 in
    let within : most ≤ length c.args.frames.now = search rules in
    let sink = does.2 ∙ takes_all _ (frames_done does.0) refl (omega (arith, few, within)) in
    rw (← c.requires.is_page.level_is, ← c.requires.is_page.position_is) (record {
      replies = does.0;
      most = search rules;
      changes = changes_each _ _ layout (g.T.TableMemory.tables c.args.memory.now) _ c.new-mapper.ensures.layout c.new-mapper.ensures.memory (search rules) plain
          (unmaps g.S.PageSize.LEVEL c.args.page most) does.0 (unmaps_are L g.S.PageSize.LEVEL g.S.PageSize.low g.S.PageSize.high g.L.LevelCount.at_least_four c.args.page most) does.1;
      taken = let array = ap (λ (a : FrameArray). a.frames.now) sink in search rules;
      number = ap (λ (a : FrameArray). a.count) sink;
      status_is = refl;
    })

pub unmap_range-requires-clause-valid : goal.unmap_range-requires-clause-valid
unmap_range-requires-clause-valid g c = valid_over _ _ _ _ c.new-mapper.ensures.layout c.new-mapper.ensures.memory c.requires.valid

pub unmap_range-requires-clause-pages : goal.unmap_range-requires-clause-pages
unmap_range-requires-clause-pages g c =
    let below : c.min-most.result ≤ c.args.self.now.count = omega (arith, c.min-most.ensures) in
    let within = mul-le-mul_right (span g.S.PageSize.LEVEL) below in
    let there = ends_there g.L.LevelCount.LEVELS g.L.LevelCount.known_levels c.args.self.now.first.now g.S.PageSize.LEVEL c.args.page c.args.self.now.count c.requires.pages c.requires.is_page in
    range_is _ _ _ _ c.new-mapper.ensures.layout _ _ _ (omega (arith, there, within))
