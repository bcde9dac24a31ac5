use Rattle.std.proofs.Common.{◌-◌, length, refl}
use Rattle.std.specs.FinMap.{keys}
use Rattle.x86_64_model.proofs.Lemmas.Tables.Checked.{all_clear}
use Rattle.x86_64_spaces.specs.private.SpaceTables.{grouped_at}
use Rattle.x86_64_spaces.proofs.Groups.{some_first}
use Rattle.x86_64_spaces.proofs.Passed.{sound_alone, pool_tells}
use Rattle.x86_64_spaces.proofs.fitting.SpacesTest.is_sound_by.Goals as goal

pub returns-then-not-mark_spaces : goal.returns-then-not-mark_spaces
returns-then-not-mark_spaces g c =
    let self = c.args.self.now in
    let m = g.T.TableMemory.tables self.memory.now in let places = g.P.PageTableFrameMapping.places self.mapping.now in
    let mapping = g.met.P.PageTableFrameMapping.is_mapping self.mapping.now in
    let spaces = g.S.SpaceList.spaces c.args.spaces.now in let first = grouped_at spaces 0 in
    let marks = c.args.marks.now in
    (λ t. cc, λ sound. c.if-not-mark_spaces.ensures.tells.1 (sound_alone ((g.L.LevelCount.LEVELS - 1) - 1) m places spaces self.limit marks c.args.pool.now.frames sound))

pub returns : goal.returns
returns g c =
    let self = c.args.self.now in
    let m = g.T.TableMemory.tables self.memory.now in let places = g.P.PageTableFrameMapping.places self.mapping.now in
    let mapping = g.met.P.PageTableFrameMapping.is_mapping self.mapping.now in
    let spaces = g.S.SpaceList.spaces c.args.spaces.now in let first = grouped_at spaces 0 in
    let marks = c.args.marks.now in
    pool_tells ((g.L.LevelCount.LEVELS - 1) - 1) m places spaces self.limit marks mapping (all_clear marks (length (keys m)) c.requires.clear)
    (c.if-not-mark_spaces.ensures.tells.0 refl) c.mark_spaces.new.marks (c.if-not-mark_spaces.ensures.marks refl) first (some_first spaces c.requires.some)
    c.args.pool.now.frames c.mark_pool.new.marks c.mark_pool.result (rw c.test_at.ensures at c.mark_pool.ensures)
