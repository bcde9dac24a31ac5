use Rattle.std.proofs.Common.{inl, ap, sym, ◌∙◌, subst, refl, List, ℕ, Some, [], ◌∷◌, arith}
use Rattle.std.specs.Prelude.{drop}
use Rattle.x86_64_model.specs.Hierarchy.{◌laid_in◌, PoolFits}
use Rattle.x86_64_model.specs.Laws.Spaces.{IsNewRoot}
use Rattle.x86_64_model.specs.Spaces.{AreSpaces}
use Rattle.x86_64_model.proofs.Lemmas.Hierarchies.Memories.{covered}
use Rattle.x86_64_model.proofs.Lemmas.Tables.Exact.{inside_window}
use Rattle.x86_64_spaces.specs.SpaceLayouts.{indices_of, space_layout}
use Rattle.x86_64_spaces.proofs.NewRoot.{taken, new_root, self_is}
use Rattle.x86_64_spaces.proofs.making.new_space.Goals as goal

pub fill_root-requires-clause-apart : goal.fill_root-requires-clause-apart
fill_root-requires-clause-apart g c e =
    let shared = indices_of c.args.shared in let template = c.args.template.now in let store = c.args.store.now in
    let m = g.T.TableMemory.tables c.args.memory.now in let places = g.P.PageTableFrameMapping.places c.args.mapping.now in
    let mapping = g.met.P.PageTableFrameMapping.is_mapping c.args.mapping.now in
    let serves = g.F.FrameKeeper.serves store in let root = c.in_ok-root.root in
    let rest = drop 1 (g.F.FrameAllocator.supply store) in
    let all = taken (g.F.FrameAllocator.supply store) root (sym c.in_ok-root.ensures.first) in
    let one = space_layout g.L.LevelCount.LEVELS places m template in
    let fits = subst (λ (pool : List ℕ). PoolFits (one laid_in m) serves pool) all c.requires.fits in
    let there = inside_window one.window template.root _ template.root (fits.valid.valid.holds.in_memory [] template.root refl) in
    let same = mapping.distinct template.root root (covered m places template.root there) (covered m places root (fits.in_memory root (inl refl)))
    (e ∙ c.frame_to_pointer-place.ensures) in
    fits.no_table root (inl refl) ([], ap Some same)

pub returns-clause-made : goal.returns-clause-made
returns-clause-made g c =
    let shared = indices_of c.args.shared in let template = c.args.template.now in let store = c.args.store.now in
    let m = g.T.TableMemory.tables c.args.memory.now in let places = g.P.PageTableFrameMapping.places c.args.mapping.now in
    let mapping = g.met.P.PageTableFrameMapping.is_mapping c.args.mapping.now in
    let serves = g.F.FrameKeeper.serves store in let root = c.in_ok-root.root in
    let rest = drop 1 (g.F.FrameAllocator.supply store) in
    let all = taken (g.F.FrameAllocator.supply store) root (sym c.in_ok-root.ensures.first) in
    let one = space_layout g.L.LevelCount.LEVELS places m template in
    let fits = subst (λ (pool : List ℕ). PoolFits (one laid_in m) serves pool) all c.requires.fits in
    let n = g.T.TableMemory.tables c.name_itself.new.memory in
    let new = space_layout g.L.LevelCount.LEVELS places n (record { root = root; recursive = c.args.recursive }) in
    let some = g.L.LevelCount.at_least_four in
    let written = c.name_itself.ensures.written c.fill_root.ensures.written.table c.fill_root.ensures.written.stored.here in
    let is_new : IsNewRoot shared one m n new =
    new_root shared g.L.LevelCount.LEVELS places mapping m (g.T.TableMemory.tables c.fill_root.new.memory) n template serves root rest fits
    c.args.recursive c.frame_to_pointer-place.result c.frame_to_pointer-place.ensures c.name_itself.ensures.within c.requires.index_unused
    c.fill_root.ensures.written written in
    record {
      root = is_new;
      self_entry = self_is shared g.L.LevelCount.LEVELS places mapping m (g.T.TableMemory.tables c.fill_root.new.memory) n template serves root rest fits
          c.args.recursive c.frame_to_pointer-place.result c.frame_to_pointer-place.ensures c.name_itself.ensures.within c.requires.index_unused
          c.fill_root.ensures.written written;
      spaces = λ spaces member are. subst (λ (pool : List ℕ). AreSpaces shared n serves pool (new ∷ spaces)) (sym c.in_ok-root.ensures.rest)
          (c.new_spaces_share.ensures shared spaces one new member mapping (omega (arith, some)) serves m n rest
          (subst (λ (pool : List ℕ). AreSpaces shared m serves pool spaces) all are) is_new);
    }
