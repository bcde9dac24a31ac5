use Rattle.std.proofs.Common.{rules, ◌≡◌, ◌<◌, ◌+◌, ◌*◌, arith}
use Rattle.x86_64_loader.proofs.Made.{supplied}
use Rattle.x86_64_loader.proofs.SizedParts.{part_aligned, part_number, part_may, part_held, part_stand, part_halted}
use Rattle.x86_64_loader.proofs.parts.map_part.Goals as goal

pub page_after-page-requires : goal.page_after-page-requires
page_after-page-requires g c =
    let some : 0 < c.args.count = search rules in
    let levels = g.met.M.Tables.at_least_four c.args.mapper.now in let high = g.S.PageSize.high in
    let may = part_may (g.M.Tables.hierarchy c.args.mapper.now) c.args.segment.now g.S.PageSize.LEVEL g.S.PageSize.SIZE c.args.first c.args.count g.S.PageSize.size g.S.PageSize.low high
    c.requires.allowed c.requires.within (omega (arith, levels, high)) 0 some in
    let there = may.page_there in omega (arith, there)

pub add-frame-requires : goal.add-frame-requires
add-frame-requires g c =
    let some : 0 < c.args.count = search rules in
    let levels = g.met.M.Tables.at_least_four c.args.mapper.now in let high = g.S.PageSize.high in
    let may = part_may (g.M.Tables.hierarchy c.args.mapper.now) c.args.segment.now g.S.PageSize.LEVEL g.S.PageSize.SIZE c.args.first c.args.count g.S.PageSize.size g.S.PageSize.low high
    c.requires.allowed c.requires.within (omega (arith, levels, high)) 0 some in
    let there = may.frame_there in omega (arith, there)

pub from_start_address_unchecked-page-requires : goal.from_start_address_unchecked-page-requires
from_start_address_unchecked-page-requires g c =
    let some : 0 < c.args.count = search rules in
    let start : c.page_after-page.result ≡ c.args.segment.now.page + c.args.first * 0x1000 = c.page_after-page.ensures in
    rw (c.start_address.ensures.value, start)
    (part_aligned g.S.PageSize.LEVEL g.S.PageSize.SIZE (c.args.segment.now.page + c.args.first * 0x1000) g.S.PageSize.size g.S.PageSize.low (c.requires.page_aligned some)
    (rw start at c.start_address.ensures.aligned))

pub from_start_address_unchecked-frame-requires : goal.from_start_address_unchecked-frame-requires
from_start_address_unchecked-frame-requires g c =
    let some : 0 < c.args.count = search rules in
    let start : c.add-frame.result ≡ c.args.segment.now.frame + c.args.first * 0x1000 = c.add-frame.ensures in
    rw (c.start_address-2.ensures.value, start)
    (part_aligned g.S.PageSize.LEVEL g.S.PageSize.SIZE (c.args.segment.now.frame + c.args.first * 0x1000) g.S.PageSize.size g.S.PageSize.low (c.requires.frame_aligned some)
    (rw start at c.start_address-2.ensures.aligned_to_4kib))

pub map_pages-requires-clause-may : goal.map_pages-requires-clause-may
map_pages-requires-clause-may g c =
    let levels = g.met.M.Tables.at_least_four c.args.mapper.now in let high = g.S.PageSize.high in
    rw (c.from_start_address_unchecked-page.ensures, c.start_address.ensures.value, c.page_after-page.ensures, c.from_start_address_unchecked-frame.ensures, c.start_address-2.ensures.value, c.add-frame.ensures)
    (part_may (g.M.Tables.hierarchy c.args.mapper.now) c.args.segment.now g.S.PageSize.LEVEL g.S.PageSize.SIZE c.args.first c.args.count g.S.PageSize.size g.S.PageSize.low high
    c.requires.allowed c.requires.within (omega (arith, levels, high)))

pub overflow_mul-result : goal.overflow_mul-result
overflow_mul-result g c =
    let number = part_number (g.M.Tables.hierarchy c.args.mapper.now) c.args.segment.now g.S.PageSize.LEVEL g.S.PageSize.SIZE c.args.first c.args.count g.S.PageSize.size g.S.PageSize.low g.S.PageSize.high
    c.requires.allowed c.requires.within c.in-Err.stopped.mapped c.in-Err.ensures.stopped.within in
    rw c.SIZE.ensures (omega (arith, number))

pub overflow_add-result : goal.overflow_add-result
overflow_add-result g c =
    let number = part_number (g.M.Tables.hierarchy c.args.mapper.now) c.args.segment.now g.S.PageSize.LEVEL g.S.PageSize.SIZE c.args.first c.args.count g.S.PageSize.size g.S.PageSize.low g.S.PageSize.high
    c.requires.allowed c.requires.within c.in-Err.stopped.mapped c.in-Err.ensures.stopped.within in
    rw c.SIZE.ensures (omega (arith, number))

pub returns-in-Ok : goal.returns-in-Ok
returns-in-Ok g c =
    let levels = g.met.M.Tables.at_least_four c.args.mapper.now in let high = g.S.PageSize.high in
    let done = c.in-Ok.ensures.mapped in
    let h = g.M.Tables.hierarchy c.args.mapper.now in
    let after = g.M.Tables.hierarchy c.map_pages.new.mapper in
    let rest = supplied g.A.FrameAllocator.supply g.A.FrameKeeper.serves c.map_pages.new.frames in
    let s = c.args.segment.now in
    let stand = rw (c.from_start_address_unchecked-page.ensures, c.start_address.ensures.value, c.page_after-page.ensures, c.from_start_address_unchecked-frame.ensures, c.start_address-2.ensures.value, c.add-frame.ensures) at done.stand in
    let aligned = rw (c.from_start_address_unchecked-page.ensures, c.start_address.ensures.value, c.page_after-page.ensures) at c.map_pages.ensures.page_aligned in
    record {
      held = part_held h s g.S.PageSize.LEVEL g.S.PageSize.SIZE c.args.first c.args.count g.S.PageSize.size g.S.PageSize.low high
          c.requires.allowed c.requires.within after rest (omega (arith, levels, high)) aligned c.args.count (omega arith) done.leaves.kept.layout stand;
      were_free = rw (c.from_start_address_unchecked-page.ensures, c.start_address.ensures.value, c.page_after-page.ensures) at done.were_free;
      leaves = done.leaves;
      stand = part_stand h s g.S.PageSize.LEVEL g.S.PageSize.SIZE c.args.first c.args.count g.S.PageSize.size g.S.PageSize.low high
          c.requires.allowed c.requires.within after rest (omega (arith, levels, high)) aligned c.args.count stand;
      accepted = rw (c.from_start_address_unchecked-page.ensures, c.start_address.ensures.value, c.page_after-page.ensures, c.from_start_address_unchecked-frame.ensures, c.start_address-2.ensures.value, c.add-frame.ensures) at done.accepted;
    }

pub returns-in-Err : goal.returns-in-Err
returns-in-Err g c =
    let levels = g.met.M.Tables.at_least_four c.args.mapper.now in let high = g.S.PageSize.high in
    rw (c.SIZE.ensures, c.in_4kib.ensures)
    (part_halted (g.M.Tables.hierarchy c.args.mapper.now) c.args.segment.now g.S.PageSize.LEVEL g.S.PageSize.SIZE c.args.first c.args.count g.S.PageSize.size g.S.PageSize.low high
    c.requires.allowed c.requires.within (g.M.Tables.hierarchy c.map_pages.new.mapper) (supplied g.A.FrameAllocator.supply g.A.FrameKeeper.serves c.map_pages.new.frames) (omega (arith, levels, high))
    (rw (c.from_start_address_unchecked-page.ensures, c.start_address.ensures.value, c.page_after-page.ensures) at c.map_pages.ensures.page_aligned)
    (supplied g.A.FrameAllocator.supply g.A.FrameKeeper.serves c.args.frames.now) c.in-Err.stopped.mapped _
    (rw (c.from_start_address_unchecked-page.ensures, c.start_address.ensures.value, c.page_after-page.ensures, c.from_start_address_unchecked-frame.ensures, c.start_address-2.ensures.value, c.add-frame.ensures) at c.in-Err.ensures.stopped))
