use Rattle.std.proofs.Common.{◌≡◌, ◌≢◌, inl, ap, sym, ◌∙◌, subst, refl, List, ℕ, Some, IsSome, arith}
use Rattle.std.proofs.Common.{cond, None, [], true, false}
use Rattle.std.specs.FinMap.{get}
use Rattle.x86_64_model.specs.Hierarchy.{◌laid_in◌, KeepsOthers, Owns}
use Rattle.x86_64_model.specs.Memory.{words_of}
use Rattle.x86_64_model.specs.Spaces.{AreSpaces}
use Rattle.x86_64_model.proofs.Lemmas.Hierarchies.Memories.{covered}
use Rattle.x86_64_model.proofs.Lemmas.Machines.Giving.{giving_from}
use Rattle.x86_64_model.proofs.Lemmas.Tables.Exact.{inside_window}
use Rattle.x86_64_spaces.specs.SpaceLayouts.{indices_of, space_layout, HasSharedAlone}
use Rattle.x86_64_spaces.proofs.Cleared.{spaces_now, owned_now}
use Rattle.x86_64_spaces.proofs.NewRoot.{root_entries}
use Rattle.x86_64_spaces.proofs.Stored.{stores, in_place}
use Rattle.x86_64_tables.specs.PageTable.{zero_words}
use Rattle.x86_64_spaces.proofs.giving_up.give_up_space.Goals as goal

pub returns-then-not-maps_nothing-clause-reason : goal.returns-then-not-maps_nothing-clause-reason
returns-then-not-maps_nothing-clause-reason g c alone =
    let shared = indices_of c.args.shared in let space = c.args.space.now in let store = c.args.store.now in
    let m = g.T.TableMemory.tables c.args.memory.now in let places = g.P.PageTableFrameMapping.places c.args.mapping.now in
    let serves = g.F.FrameKeeper.serves store in let pool = g.F.FrameAllocator.supply store in
    let entries = root_entries g.L.LevelCount.LEVELS places m space serves pool c.requires.fits in
    let t : false ≡ true = c.if-not-maps_nothing.ensures.1 (λ i off. sym (entries i) ∙ alone i off) in cc

pub returns-then-is_null-clause-reason : goal.returns-then-is_null-clause-reason
returns-then-is_null-clause-reason g c =
    let shared = indices_of c.args.shared in let space = c.args.space.now in let store = c.args.store.now in
    let m = g.T.TableMemory.tables c.args.memory.now in let places = g.P.PageTableFrameMapping.places c.args.mapping.now in
    let serves = g.F.FrameKeeper.serves store in let pool = g.F.FrameAllocator.supply store in
    let entries = root_entries g.L.LevelCount.LEVELS places m space serves pool c.requires.fits in
    (λ i off. entries i ∙ c.if-not-maps_nothing.ensures.0 refl i off, sym c.start_address.ensures.value ∙ c.is_null.ensures.0 c.if-is_null.true)

pub frame_to_pointer-requires : goal.frame_to_pointer-requires
frame_to_pointer-requires g c =
    let shared = indices_of c.args.shared in let space = c.args.space.now in let store = c.args.store.now in
    let m = g.T.TableMemory.tables c.args.memory.now in let places = g.P.PageTableFrameMapping.places c.args.mapping.now in
    let serves = g.F.FrameKeeper.serves store in let pool = g.F.FrameAllocator.supply store in
    let gone = space_layout g.L.LevelCount.LEVELS places m space in
    covered m places space.root (inside_window gone.window space.root _ space.root (c.requires.fits.valid.valid.holds.in_memory [] space.root refl))

pub table_at_mut-requires : goal.table_at_mut-requires
table_at_mut-requires g c =
    let shared = indices_of c.args.shared in let space = c.args.space.now in let store = c.args.store.now in
    let m = g.T.TableMemory.tables c.args.memory.now in let places = g.P.PageTableFrameMapping.places c.args.mapping.now in
    let serves = g.F.FrameKeeper.serves store in let pool = g.F.FrameAllocator.supply store in
    let gone = space_layout g.L.LevelCount.LEVELS places m space in
    subst (λ k. IsSome (get m k)) (sym c.frame_to_pointer.ensures)
    (in_place m places space.root (inside_window gone.window space.root _ space.root (c.requires.fits.valid.valid.holds.in_memory [] space.root refl)))

pub returns-clause-given_up : goal.returns-clause-given_up
returns-clause-given_up g c =
    let shared = indices_of c.args.shared in let space = c.args.space.now in let store = c.args.store.now in
    let m = g.T.TableMemory.tables c.args.memory.now in let places = g.P.PageTableFrameMapping.places c.args.mapping.now in
    let serves = g.F.FrameKeeper.serves store in let pool = g.F.FrameAllocator.supply store in
    let gone = space_layout g.L.LevelCount.LEVELS places m space in
    let entries = root_entries g.L.LevelCount.LEVELS places m space serves pool c.requires.fits in
    let alone : HasSharedAlone shared gone m = λ i off. entries i ∙ c.if-not-maps_nothing.ensures.0 refl i off in
    let mapping = g.met.P.PageTableFrameMapping.is_mapping c.args.mapping.now in
    let some = g.L.LevelCount.at_least_four in
    let gives = giving_from g.F.FrameDeallocator.take_back g.met.F.FrameDeallocator.take_back_rearranges in
    let back = g.F.FrameDeallocator.take_back pool space.root in
    let place = c.frame_to_pointer.result in
    let n = g.T.TableMemory.tables (g.T.TableMemory.with_table c.args.memory.now place c.zero.new.self) in
    let words = inside_window gone.window space.root _ space.root (c.requires.fits.valid.valid.holds.in_memory [] space.root refl) in
    let there = subst (λ k. IsSome (get m k)) (sym c.frame_to_pointer.ensures) (in_place m places space.root words) in
    let stored = stores m n place c.zero.new.self (g.met.T.TableMemory.puts c.args.memory.now place c.zero.new.self there) in
    let cleared : words_of n places space.root ≡ Some zero_words =
    ap (λ b. cond b (get n (places.place space.root)) None) (covered m places space.root words) ∙ ap (get n) (sym c.frame_to_pointer.ensures) ∙ stored.here ∙ ap Some c.zero.ensures in
    let others : KeepsOthers (λ f. f ≡ space.root) (gone laid_in m) (gone laid_in n) =
    λ k apart. stored.others k (λ e. apart space.root refl (sym (e ∙ c.frame_to_pointer.ensures))) in
    let rest : g.F.FrameAllocator.supply c.deallocate_frame.new.self ≡ back =
    g.met.F.FrameStore.one_list c.deallocate_frame.new.self ∙ c.deallocate_frame.ensures.held
    ∙ ap (λ held. g.F.FrameDeallocator.take_back held space.root) (sym (g.met.F.FrameStore.one_list store)) in
    let nonzero : space.root ≢ 0 = λ e. (let t : true ≡ false = sym (c.is_null.ensures.1 (c.start_address.ensures.value ∙ e)) ∙ c.if-is_null.false in cc) in
    let free = (gives.same_frames pool space.root space.root).1 (inl refl) in
    let now_there = subst IsSome (sym cleared) refl in
    record {
      none_used = alone;
      not_zero = nonzero;
      given_back = rest;
      serves = c.deallocate_frame.ensures.serves;
      cleared = cleared;
      others = others;
      spaces = λ spaces once are.
          let after = c.spaces_are_given_up.ensures.given_up shared gone spaces once mapping g.F.FrameDeallocator.take_back gives serves c.requires.served nonzero m pool are in
          subst (λ (pool : List ℕ). AreSpaces shared n serves pool spaces) (sym rest)
          (spaces_now shared gone spaces once mapping (omega (arith, some)) back serves m n pool are after free others now_there);
      none_lost = λ spaces other once member are f own.
          let after = c.spaces_are_given_up.ensures.given_up shared gone spaces once mapping g.F.FrameDeallocator.take_back gives serves c.requires.served nonzero m pool are in
          let kept = c.spaces_are_given_up.ensures.none_lost shared gone other spaces once member mapping (omega (arith, some)) g.F.FrameDeallocator.take_back gives serves m pool are alone f own in
          subst (λ (pool : List ℕ). Owns (other laid_in n) pool f) (sym rest)
          (owned_now shared gone spaces once mapping (omega (arith, some)) back serves m n pool are after free others now_there other member f kept);
    }
