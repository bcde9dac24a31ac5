use Rattle.std.proofs.Common.{◌≡◌, ◌∙◌, None, refl, sym, ap, arith}
use Rattle.x86_64_model.specs.Memory.{words_of}
use Rattle.x86_64_model.specs.Steps.{rights_in, steps}
use Rattle.x86_64_tables.proofs.StepsRead.{last_more, read_all, read_more, read_none}
use Rattle.x86_64_mappings.specs.WalkEntries.{end_by, end_of}
use Rattle.x86_64_mappings.proofs.EntriesWritten.{room_for_more, writes_all, writes_more}
use Rattle.x86_64_mappings.proofs.walk_entries.read_entries.Goals as goal

pub loop-step-init : goal.loop-step-init
loop-step-init g c = (read_none c.into_iter-step-iterator.result, record { number = refl; array = refl }, refl)

pub bounds-entries-count : goal.bounds-entries-count
bounds-entries-count g c =
    let words = words_of (g.T.TableMemory.tables c.args.memory.now) (g.P.PageTableFrameMapping.places c.args.mapping.now) in
    let all : c.into_iter-step-iterator.result ≡ steps words c.args.address g.L.LevelCount.LEVELS c.args.root =
    c.into_iter-step-iterator.ensures.into_iter_gives ∙ c.new-step-items.ensures in
    let room = room_for_more _ _ _ _ _ _ _ _ _ _ _ _ _ _ all c.loop-step.invariant.0 c.loop-step.invariant.1 c.in-Some.ensures.steps c.requires in
    omega (arith, room, c.loop-step.auto.entries)

pub loop-step-preserved : goal.loop-step-preserved
loop-step-preserved g c =
    let words = words_of (g.T.TableMemory.tables c.args.memory.now) (g.P.PageTableFrameMapping.places c.args.mapping.now) in
    let all : c.into_iter-step-iterator.result ≡ steps words c.args.address g.L.LevelCount.LEVELS c.args.root =
    c.into_iter-step-iterator.ensures.into_iter_gives ∙ c.new-step-items.ensures in
    let room = room_for_more _ _ _ _ _ _ _ _ _ _ _ _ _ _ all c.loop-step.invariant.0 c.loop-step.invariant.1 c.in-Some.ensures.steps c.requires in
    rw (c.below-rights.ensures, c.entry.ensures, c.of.ensures, c.at-end.ensures) (
      read_more _ _ _ _ _ _ c.loop-step.invariant.0 c.in-Some.ensures.steps,
      writes_more _ _ _ _ _ c.loop-step.invariant.1 room,
      sym (ap end_by (last_more None c.loop-step.yielded c.in-Some.step)),
    )

pub returns : goal.returns
returns g c =
    let words = words_of (g.T.TableMemory.tables c.args.memory.now) (g.P.PageTableFrameMapping.places c.args.mapping.now) in
    let all : c.into_iter-step-iterator.result ≡ steps words c.args.address g.L.LevelCount.LEVELS c.args.root =
    c.into_iter-step-iterator.ensures.into_iter_gives ∙ c.new-step-items.ensures in
    let read = read_all _ _ _ _ c.loop-step.invariant.0 c.in-None.ensures.steps.0 ∙ all in
    record {
      writes = writes_all _ _ _ _ _ read c.loop-step.invariant.1;
      rights = c.loop-step.invariant.0.rights_are ∙ ap rights_in read;
      end = c.loop-step.invariant.2 ∙ ap end_of read;
    }

pub overflow_add-count : goal.overflow_add-count
overflow_add-count g c =
    let words = words_of (g.T.TableMemory.tables c.args.memory.now) (g.P.PageTableFrameMapping.places c.args.mapping.now) in
    let all : c.into_iter-step-iterator.result ≡ steps words c.args.address g.L.LevelCount.LEVELS c.args.root =
    c.into_iter-step-iterator.ensures.into_iter_gives ∙ c.new-step-items.ensures in
    let room = room_for_more _ _ _ _ _ _ _ _ _ _ _ _ _ _ all c.loop-step.invariant.0 c.loop-step.invariant.1 c.in-Some.ensures.steps c.requires in
    omega (arith, room, c.loop-step.auto.entries)
