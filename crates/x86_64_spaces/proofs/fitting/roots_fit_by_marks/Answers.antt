use Rattle.std.proofs.Common.{◌≡◌, true, false, reverse}
use Rattle.x86_64_spaces.specs.SpaceLayouts.{indices_of, spaces_at}
use Rattle.x86_64_spaces.proofs.AllSharing.{room_alike}
use Rattle.x86_64_spaces.proofs.FitsRoom.{all_frames}
use Rattle.x86_64_spaces.proofs.fitting.roots_fit_by_marks.Goals as goal

pub returns-in-None : goal.returns-in-None
returns-in-None g c = (
  λ t. cc,
  λ x. let t : false ≡ true = c.in-None.ensures.frames.1 (all_frames (indices_of c.args.shared) g.L.LevelCount.LEVELS (g.P.PageTableFrameMapping.places c.args.mapping.now)
      (g.met.P.PageTableFrameMapping.is_mapping c.args.mapping.now) (g.T.TableMemory.tables c.args.memory.now) c.args.capacity (reverse c.args.frames.now) c.args.roots.now x.1) in cc,
)

pub returns-in-Some : goal.returns-in-Some
returns-in-Some g c =
    let m = g.T.TableMemory.tables c.args.memory.now in let places = g.P.PageTableFrameMapping.places c.args.mapping.now in
    let same = room_alike (indices_of c.args.shared) g.L.LevelCount.LEVELS places m (spaces_at c.args.roots.now) (reverse c.args.frames.now) c.args.capacity in
    let tells = rw (c.in-Some.ensures.roots.0, c.in-Some.ensures.roots.1) at c.list_fits.ensures in
    (λ t. same.0 (tells.0 t), λ x. tells.1 (same.1 x))
