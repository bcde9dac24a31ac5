use Rattle.std.proofs.Common.{reverse}
use Rattle.x86_64_spaces.specs.SpaceLayouts.{indices_of}
use Rattle.x86_64_spaces.proofs.AllSharing.{room_alike}
use Rattle.x86_64_spaces.proofs.fitting.spaces_fit_by_marks.Goals as goal

pub returns : goal.returns
returns g c =
    let m = g.T.TableMemory.tables c.args.memory.now in let places = g.P.PageTableFrameMapping.places c.args.mapping.now in
    let same = room_alike (indices_of c.args.shared) g.L.LevelCount.LEVELS places m c.args.spaces.now (reverse c.args.frames.now) c.args.capacity in
    let tells = c.list_fits.ensures in
    (λ t. same.0 (tells.0 t), λ x. tells.1 (same.1 x))
