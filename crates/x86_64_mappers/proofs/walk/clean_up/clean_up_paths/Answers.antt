use Rattle.std.proofs.Common.{◌≡◌, ◌<◌, ◌*◌, refl, ap, subst, ◌∙◌, arith}
use Rattle.x86_64_model.specs.Hierarchy.{CleansUp}
use Rattle.x86_64_model.specs.Path.{span_start}
use Rattle.x86_64_mappers.proofs.CleanUp.CleanUpEnds.{ends_whole, ends_empty}
use Rattle.x86_64_mappers.proofs.Entry.EntryEnds.{with_memory}
use Rattle.x86_64_mappers.specs.private.CleaningUp.{last_position}
use Rattle.x86_64_mappers.proofs.walk.clean_up.clean_up_paths.Goals as goal

pub returns-then-page_number : goal.returns-then-page_number
returns-then-page_number g c =
    let mapper = c.args.mapper.now in
    let h = g.M.Tables.hierarchy mapper in
    let L = h.layout.levels in
    let last : c.page_number.result * 0x1000 ≡ span_start L c.args.last.now = c.page_number.ensures.start ∙ ap (λ n. span_start n c.args.last.now) c.requires.last in
    let first : c.page_number-2.result * 0x1000 ≡ span_start L c.args.first.now = c.page_number-2.ensures.start ∙ ap (λ n. span_start n c.args.first.now) c.requires.first in
    let before : c.page_number.result < c.page_number-2.result = c.if-page_number.true in
    record {
      cleans = ends_empty h (g.M.Tables.added_flags mapper).adds c.requires.may.valid g.D.FrameDeallocator.take_back (g.D.FrameDeallocator.held c.args.frame_deallocator.now)
          (span_start L c.args.first.now) (last_position L c.args.last.now) (omega (arith, first, last, before));
      serves = refl;
    }

pub returns : goal.returns
returns g c =
    let mapper = c.args.mapper.now in
    let h = g.M.Tables.hierarchy mapper in
    let low = span_start h.layout.levels c.args.first.now in
    let high = last_position h.layout.levels c.args.last.now in
    let held = g.D.FrameDeallocator.held c.args.frame_deallocator.now in
    let done = c.clean_up_table in
    let after = g.M.Tables.hierarchy done.new.mapper in
    let rest = g.D.FrameDeallocator.held done.new.frame_deallocator in
    record {
      cleans = subst (λ after. CleansUp h g.D.FrameDeallocator.take_back held low high after rest) (with_memory h after done.ensures.layout done.ensures.lent)
          (ends_whole h (g.M.Tables.added_flags mapper).adds c.requires.may.valid g.D.FrameDeallocator.take_back held low high after.memory rest done.ensures.cleaned.below);
      serves = done.ensures.cleaned.serves;
    }
