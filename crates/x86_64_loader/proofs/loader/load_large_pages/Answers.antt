use Rattle.std.proofs.Common.{◌≡◌, ◌+◌, ◌-◌, ◌*◌, ◌/◌, ◌++◌, ℕ, ap, subst, arith}
use Rattle.std.proofs.lemmas.Result.{err_from_is_err_and}
use Rattle.x86_64_loader.specs.private.Loads.{SegmentIsMapped}
use Rattle.x86_64_loader.specs.Segments.{count_before, large_pages, pages_of_part, size_of}
use Rattle.x86_64_loader.specs.declared.segment.Segment.{Segment}
use Rattle.x86_64_loader.proofs.Made.{supplied}
use Rattle.x86_64_loader.proofs.Runs.{leaves_then}
use Rattle.x86_64_loader.proofs.Segments.{still_allowed}
use Rattle.x86_64_loader.proofs.Sequences.{halted_as, halted_behind, halted_then, mapped_then}
use Rattle.x86_64_loader.proofs.loader.load_large_pages.Goals as goal

-- the parts are the segment's pages
as_large : (s : Segment) (head : ℕ) → head ≡ count_before s → let large = (s.pages - head) / 512 in let tail = head + large * 512 in
    pages_of_part 1 s 0 head ++ (pages_of_part 2 s head large ++ pages_of_part 1 s tail (s.pages - tail)) ≡ large_pages s
as_large s head is = ap (λ first. let large = (s.pages - first) / 512 in let tail = first + large * 512 in pages_of_part 1 s 0 first ++ (pages_of_part 2 s first large ++ pages_of_part 1 s tail (s.pages - tail))) is

pub map_part-requires-2-clause-allowed : goal.map_part-requires-2-clause-allowed
map_part-requires-2-clause-allowed g c =
    still_allowed (g.M.Tables.hierarchy c.args.mapper.now) (g.M.Tables.hierarchy c.map_part.new.mapper) (supplied g.A.FrameAllocator.supply g.A.FrameKeeper.serves c.map_part.new.frames) c.args.segment.now c.in_ok-map_part.ensures.leaves c.requires.allowed

pub map_part-requires-3-clause-allowed : goal.map_part-requires-3-clause-allowed
map_part-requires-3-clause-allowed g c =
    let h = g.M.Tables.hierarchy c.args.mapper.now in
    let after = g.M.Tables.hierarchy c.map_part-2.new.mapper in
    let rest = supplied g.A.FrameAllocator.supply g.A.FrameKeeper.serves c.map_part-2.new.frames in
    still_allowed h after rest c.args.segment.now
    (leaves_then h (g.M.Tables.hierarchy c.map_part.new.mapper) after (supplied g.A.FrameAllocator.supply g.A.FrameKeeper.serves c.map_part.new.frames) rest 3 3 3 (omega arith) (omega arith) c.in_ok-map_part.ensures.leaves c.in_ok-map_part-2.ensures.leaves)
    c.requires.allowed

pub returns-in_err-map_part : goal.returns-in_err-map_part
returns-in_err-map_part g c =
    let h = g.M.Tables.hierarchy c.args.mapper.now in
    let s = c.args.segment.now in
    let head = c.pages_before_large-head.result in
    let large = (s.pages - head) / 512 in
    let tail = head + large * 512 in
    let e = err_from_is_err_and c.from_residual.result c.from_residual.ensures.1 in
    rw (e.1, e.2) (halted_as _ _ _ _ s _ _ 0 _ _ (as_large s head c.pages_before_large-head.ensures.counts)
    (halted_behind h (g.M.Tables.hierarchy c.map_part.new.mapper) (supplied g.A.FrameAllocator.supply g.A.FrameKeeper.serves c.args.frames.now) (supplied g.A.FrameAllocator.supply g.A.FrameKeeper.serves c.map_part.new.frames) s (pages_of_part 1 s 0 head)
    (pages_of_part 2 s head large ++ pages_of_part 1 s tail (s.pages - tail)) 0 _ _ c.in_err-map_part.ensures))

pub returns-in_err-map_part-2 : goal.returns-in_err-map_part-2
returns-in_err-map_part-2 g c =
    let h = g.M.Tables.hierarchy c.args.mapper.now in
    let one = g.M.Tables.hierarchy c.map_part.new.mapper in
    let two = g.M.Tables.hierarchy c.map_part-2.new.mapper in
    let s = c.args.segment.now in
    let head = c.pages_before_large-head.result in
    let large = (s.pages - head) / 512 in
    let tail = head + large * 512 in
    let supply = supplied g.A.FrameAllocator.supply g.A.FrameKeeper.serves c.args.frames.now in
    let first = supplied g.A.FrameAllocator.supply g.A.FrameKeeper.serves c.map_part.new.frames in
    let second = supplied g.A.FrameAllocator.supply g.A.FrameKeeper.serves c.map_part-2.new.frames in
    let e = err_from_is_err_and c.from_residual-in_err-map_part-2.result c.from_residual-in_err-map_part-2.ensures.1 in
    rw (e.1, e.2) (halted_as _ _ _ _ s _ _ 0 _ _ (as_large s head c.pages_before_large-head.ensures.counts)
    (halted_then h one two supply first second s (pages_of_part 1 s 0 head) (pages_of_part 2 s head large ++ pages_of_part 1 s tail (s.pages - tail)) 0 (head * 0x1000) (head * 0x1000) 0
    (omega arith) (omega arith) c.in_ok-map_part.ensures _ _ (omega arith)
    (halted_behind one two first second s (pages_of_part 2 s head large) (pages_of_part 1 s tail (s.pages - tail)) (head * 0x1000) _ _ c.in_err-map_part-2.ensures)))

pub returns-in_err-map_part-3 : goal.returns-in_err-map_part-3
returns-in_err-map_part-3 g c =
    let h = g.M.Tables.hierarchy c.args.mapper.now in
    let one = g.M.Tables.hierarchy c.map_part.new.mapper in
    let two = g.M.Tables.hierarchy c.map_part-2.new.mapper in
    let three = g.M.Tables.hierarchy c.map_part-3.new.mapper in
    let s = c.args.segment.now in
    let head = c.pages_before_large-head.result in
    let large = (s.pages - head) / 512 in
    let tail = head + large * 512 in
    let supply = supplied g.A.FrameAllocator.supply g.A.FrameKeeper.serves c.args.frames.now in
    let first = supplied g.A.FrameAllocator.supply g.A.FrameKeeper.serves c.map_part.new.frames in
    let second = supplied g.A.FrameAllocator.supply g.A.FrameKeeper.serves c.map_part-2.new.frames in
    let third = supplied g.A.FrameAllocator.supply g.A.FrameKeeper.serves c.map_part-3.new.frames in
    let e = err_from_is_err_and c.from_residual-in_err-map_part-3.result c.from_residual-in_err-map_part-3.ensures.1 in
    rw (e.1, e.2) (halted_as _ _ _ _ s _ _ 0 _ _ (as_large s head c.pages_before_large-head.ensures.counts)
    (halted_then h one three supply first third s (pages_of_part 1 s 0 head) (pages_of_part 2 s head large ++ pages_of_part 1 s tail (s.pages - tail)) 0 (head * 0x1000) (head * 0x1000) 0
    (omega arith) (omega arith) c.in_ok-map_part.ensures _ _ (omega arith)
    (halted_then one two three first second third s (pages_of_part 2 s head large) (pages_of_part 1 s tail (s.pages - tail)) (head * 0x1000) (large * 0x20_0000) (tail * 0x1000) (head * 0x1000)
    (omega arith) (omega arith) c.in_ok-map_part-2.ensures _ _ (omega arith) c.in_err-map_part-3.ensures)))

pub returns : goal.returns
returns g c =
    let within = c.pages_before_large-head.ensures.within in
    let h = g.M.Tables.hierarchy c.args.mapper.now in
    let one = g.M.Tables.hierarchy c.map_part.new.mapper in
    let two = g.M.Tables.hierarchy c.map_part-2.new.mapper in
    let three = g.M.Tables.hierarchy c.map_part-3.new.mapper in
    let s = c.args.segment.now in
    let head = c.pages_before_large-head.result in
    let large = (s.pages - head) / 512 in
    let tail = head + large * 512 in
    let supply = supplied g.A.FrameAllocator.supply g.A.FrameKeeper.serves c.args.frames.now in
    let first = supplied g.A.FrameAllocator.supply g.A.FrameKeeper.serves c.map_part.new.frames in
    let second = supplied g.A.FrameAllocator.supply g.A.FrameKeeper.serves c.map_part-2.new.frames in
    let third = supplied g.A.FrameAllocator.supply g.A.FrameKeeper.serves c.map_part-3.new.frames in
    subst (λ pages. SegmentIsMapped h supply s pages 0 (size_of s) three third) (as_large s head c.pages_before_large-head.ensures.counts)
    (mapped_then h one three supply first third s (pages_of_part 1 s 0 head) (pages_of_part 2 s head large ++ pages_of_part 1 s tail (s.pages - tail)) 0 (head * 0x1000) (head * 0x1000) 0
    (omega arith) (omega arith) c.in_ok-map_part.ensures (large * 0x20_0000 + (s.pages - tail) * 0x1000) (size_of s) (omega (arith, within))
    (mapped_then one two three first second third s (pages_of_part 2 s head large) (pages_of_part 1 s tail (s.pages - tail)) (head * 0x1000) (large * 0x20_0000) (tail * 0x1000) (head * 0x1000)
    (omega arith) (omega arith) c.in_ok-map_part-2.ensures ((s.pages - tail) * 0x1000) (large * 0x20_0000 + (s.pages - tail) * 0x1000) (omega (arith, within)) c.in_ok-map_part-3.ensures))
