use Rattle.std.proofs.Common.{◌-◌, length, [], refl}
use Rattle.std.specs.FinMap.{keys}
use Rattle.x86_64_model.proofs.Lemmas.Tables.Checked.{all_clear}
use Rattle.x86_64_spaces.specs.private.SpaceTables.{grouped_at}
use Rattle.x86_64_spaces.proofs.Passed.{begun, is_space, further, stopped, done, all_marked}
use Rattle.x86_64_spaces.proofs.fitting.SpacesTest.mark_spaces.Goals as goal

pub loop-n-init : goal.loop-n-init
loop-n-init g c =
    let self = c.args.self.now in
    let m = g.T.TableMemory.tables self.memory.now in let places = g.P.PageTableFrameMapping.places self.mapping.now in
    let mapping = g.met.P.PageTableFrameMapping.is_mapping self.mapping.now in
    let spaces = g.S.SpaceList.spaces c.args.spaces.now in
    let marks = c.args.marks.now in
    let clear = all_clear marks (length (keys m)) c.requires.clear in
    begun ((g.L.LevelCount.LEVELS - 1) - 1) m places spaces self.limit marks mapping clear

pub returns-then-not-is_alike-clause-tells : goal.returns-then-not-is_alike-clause-tells
returns-then-not-is_alike-clause-tells g c =
    let self = c.args.self.now in
    let m = g.T.TableMemory.tables self.memory.now in let places = g.P.PageTableFrameMapping.places self.mapping.now in
    let mapping = g.met.P.PageTableFrameMapping.is_mapping self.mapping.now in
    let spaces = g.S.SpaceList.spaces c.args.spaces.now in
    let marks = c.args.marks.now in
    let clear = all_clear marks (length (keys m)) c.requires.clear in
    let one = is_space ((g.L.LevelCount.LEVELS - 1) - 1) m places spaces self.limit marks mapping clear c.loop-n.n c.loop-n.marks c.loop-n.invariant (rw c.count-n-end.ensures at c.loop-n-test.true) in
    (λ t. cc, λ sound. c.if-not-is_alike.ensures.1 (sound.alike (grouped_at spaces c.loop-n.n) one))

pub returns-then-not-mark_own-clause-tells : goal.returns-then-not-mark_own-clause-tells
returns-then-not-mark_own-clause-tells g c =
    let self = c.args.self.now in
    let m = g.T.TableMemory.tables self.memory.now in let places = g.P.PageTableFrameMapping.places self.mapping.now in
    let mapping = g.met.P.PageTableFrameMapping.is_mapping self.mapping.now in
    let spaces = g.S.SpaceList.spaces c.args.spaces.now in
    let marks = c.args.marks.now in
    let clear = all_clear marks (length (keys m)) c.requires.clear in
    (λ t. cc, λ sound. absurd (stopped ((g.L.LevelCount.LEVELS - 1) - 1) m places spaces self.limit marks mapping clear c.loop-n.n c.loop-n.marks c.loop-n.invariant (rw c.count-n-end.ensures at c.loop-n-test.true) c.if-not-mark_own.ensures [] sound))

pub loop-n-preserved : goal.loop-n-preserved
loop-n-preserved g c =
    let self = c.args.self.now in
    let m = g.T.TableMemory.tables self.memory.now in let places = g.P.PageTableFrameMapping.places self.mapping.now in
    let mapping = g.met.P.PageTableFrameMapping.is_mapping self.mapping.now in
    let spaces = g.S.SpaceList.spaces c.args.spaces.now in
    let marks = c.args.marks.now in
    let clear = all_clear marks (length (keys m)) c.requires.clear in
    further ((g.L.LevelCount.LEVELS - 1) - 1) m places spaces self.limit marks mapping clear c.loop-n.n c.loop-n.marks c.loop-n.invariant (rw c.count-n-end.ensures at c.loop-n-test.true) (c.if-not-is_alike.ensures.0 refl) c.mark_own.new.marks c.if-not-mark_own.ensures

pub returns-clause-tells : goal.returns-clause-tells
returns-clause-tells g c =
    let self = c.args.self.now in
    let m = g.T.TableMemory.tables self.memory.now in let places = g.P.PageTableFrameMapping.places self.mapping.now in
    let mapping = g.met.P.PageTableFrameMapping.is_mapping self.mapping.now in
    let spaces = g.S.SpaceList.spaces c.args.spaces.now in
    let marks = c.args.marks.now in
    let clear = all_clear marks (length (keys m)) c.requires.clear in
    (λ t. done ((g.L.LevelCount.LEVELS - 1) - 1) m places spaces self.limit marks mapping clear c.loop-n.n c.loop-n.marks c.loop-n.invariant (rw c.count-n-end.ensures at c.loop-n-test.false), λ sound. refl)

pub returns-clause-marks : goal.returns-clause-marks
returns-clause-marks g c =
    let self = c.args.self.now in
    let m = g.T.TableMemory.tables self.memory.now in let places = g.P.PageTableFrameMapping.places self.mapping.now in
    let mapping = g.met.P.PageTableFrameMapping.is_mapping self.mapping.now in
    let spaces = g.S.SpaceList.spaces c.args.spaces.now in
    let marks = c.args.marks.now in
    let clear = all_clear marks (length (keys m)) c.requires.clear in
    λ t. all_marked ((g.L.LevelCount.LEVELS - 1) - 1) m places spaces self.limit marks mapping clear c.loop-n.n c.loop-n.marks c.loop-n.invariant (rw c.count-n-end.ensures at c.loop-n-test.false)
