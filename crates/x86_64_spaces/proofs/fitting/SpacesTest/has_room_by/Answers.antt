use Rattle.std.proofs.Common.{◌-◌, true, false, length, refl, arith, leb-true, le-leb}
use Rattle.std.specs.FinMap.{keys}
use Rattle.x86_64_model.proofs.Lemmas.Tables.Checked.{all_clear}
use Rattle.x86_64_spaces.specs.private.SpaceTables.{grouped_at}
use Rattle.x86_64_spaces.proofs.Groups.{some_first}
use Rattle.x86_64_spaces.proofs.Passed.{sound_alone, pool_tells, all_counted}
use Rattle.x86_64_spaces.proofs.fitting.SpacesTest.has_room_by.Goals as goal

pub returns-then-not-mark_spaces : goal.returns-then-not-mark_spaces
returns-then-not-mark_spaces g c =
    let self = c.args.self.now in
    let m = g.T.TableMemory.tables self.memory.now in let places = g.P.PageTableFrameMapping.places self.mapping.now in
    let mapping = g.met.P.PageTableFrameMapping.is_mapping self.mapping.now in
    let spaces = g.S.SpaceList.spaces c.args.spaces.now in let first = grouped_at spaces 0 in
    let marks = c.args.marks.now in
    (λ t. cc, λ all. c.if-not-mark_spaces.ensures.tells.1 (sound_alone ((g.L.LevelCount.LEVELS - 1) - 1) m places spaces self.limit marks c.args.frames.now all.0))

pub returns-then-not-mark_frames : goal.returns-then-not-mark_frames
returns-then-not-mark_frames g c =
    let self = c.args.self.now in
    let m = g.T.TableMemory.tables self.memory.now in let places = g.P.PageTableFrameMapping.places self.mapping.now in
    let mapping = g.met.P.PageTableFrameMapping.is_mapping self.mapping.now in
    let spaces = g.S.SpaceList.spaces c.args.spaces.now in let first = grouped_at spaces 0 in
    let marks = c.args.marks.now in
    let tells = pool_tells ((g.L.LevelCount.LEVELS - 1) - 1) m places spaces self.limit marks mapping (all_clear marks (length (keys m)) c.requires.clear)
    (c.if-not-mark_spaces.ensures.tells.0 refl) c.mark_spaces.new.marks (c.if-not-mark_spaces.ensures.marks refl) first (some_first spaces c.requires.some)
    c.args.frames.now c.mark_frames.new.marks false (rw c.test_at.ensures at c.if-not-mark_frames.ensures) in
    (λ t. cc, λ all. tells.1 all.0)

pub returns : goal.returns
returns g c =
    let self = c.args.self.now in
    let m = g.T.TableMemory.tables self.memory.now in let places = g.P.PageTableFrameMapping.places self.mapping.now in
    let mapping = g.met.P.PageTableFrameMapping.is_mapping self.mapping.now in
    let spaces = g.S.SpaceList.spaces c.args.spaces.now in let first = grouped_at spaces 0 in
    let marks = c.args.marks.now in
    let tells = pool_tells ((g.L.LevelCount.LEVELS - 1) - 1) m places spaces self.limit marks mapping (all_clear marks (length (keys m)) c.requires.clear)
    (c.if-not-mark_spaces.ensures.tells.0 refl) c.mark_spaces.new.marks (c.if-not-mark_spaces.ensures.marks refl) first (some_first spaces c.requires.some)
    c.args.frames.now c.mark_frames.new.marks true (rw c.test_at.ensures at c.if-not-mark_frames.ensures) in
    let counted = all_counted ((g.L.LevelCount.LEVELS - 1) - 1) m places spaces self.limit marks c.requires.clear c.mark_spaces.new.marks (c.if-not-mark_spaces.ensures.marks refl) first
    c.args.frames.now c.mark_frames.new.marks (rw c.test_at.ensures at c.if-not-mark_frames.ensures) in
    let count = c.count_set.ensures in (
      λ few. (tells.0 refl, let l = leb-true c.count_set.result c.args.capacity few in omega (arith, count, counted, l)),
      λ all. le-leb c.count_set.result c.args.capacity (let l = all.1 in omega (arith, count, counted, l)),
    )
