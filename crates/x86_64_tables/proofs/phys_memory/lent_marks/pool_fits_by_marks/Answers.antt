use Rattle.std.proofs.Common.{◌-◌, ap, sym, ◌∙◌, replicate, false, arith}
use Rattle.x86_64_model.specs.Memory.{words_of}
use Rattle.x86_64_model.proofs.Lemmas.Hierarchies.Memories.{mappings_show_frames}
use Rattle.x86_64_tables.specs.PhysMemory.{length_keys}
use Rattle.x86_64_tables.proofs.Rooms.{room_if_sound}
use Rattle.x86_64_tables.proofs.phys_memory.lent_marks.pool_fits_by_marks.Goals as goal

pub has_room_by-requires : goal.has_room_by-requires
has_room_by-requires g c =
    let memory = g.T.TableMemory.tables c.args.memory.now in
    rw (c.test.ensures, c.new-view.ensures) (c.fill.ensures.after (λ y e. e) ∙ ap (λ n. replicate n false) (c.requires ∙ sym (length_keys memory)))

pub returns : goal.returns
returns g c =
    let memory = g.T.TableMemory.tables c.args.memory.now in
    let places = g.P.PageTableFrameMapping.places c.args.mapping.now in
    let frames = mappings_show_frames memory places (g.met.P.PageTableFrameMapping.is_mapping c.args.mapping.now) in
    let L = g.L.LevelCount.LEVELS in
    let some = g.L.LevelCount.at_least_four in
    let means = room_if_sound (L - 1) L (words_of memory places) c.args.root frames c.args.capacity c.args.frames.now (omega (arith, some)) in
    let tells = rw (c.test.ensures, c.new-view.ensures) at c.has_room_by.ensures in
    (λ h. means.0 (tells.0 h), λ room. tells.1 (means.1 room))
