use Rattle.std.proofs.Common.{refl, sym, ap, ◌∙◌, ◌≡◌}
use Rattle.std.specs.FinMap.{get}
use Rattle.x86_64_mappers.specs.Lending.{root_stays}
use Rattle.x86_64_model.proofs.Lemmas.Hierarchies.Memories.{covered}
use Rattle.x86_64_mappers.proofs.Memory.Stored.{there_is}
use Rattle.x86_64_mappers.proofs.Memory.RootTables.{alike}
use Rattle.x86_64_mappers.proofs.mapped_page_table.DirectTableAccess.table_mut.Goals as goal

pub invariant_of-self-lent : goal.invariant_of-self-lent
invariant_of-self-lent g c table =
    let mapper = c.args.self.now in
    let now = mapper.memory.now in
    let place = c.frame_to_pointer-place.result in
    let after = g.T.TableMemory.with_table now place table in (
      root_stays (g.P.PageTableFrameMapping.places mapper.mapping) mapper.root (g.T.TableMemory.tables now) (g.T.TableMemory.tables after)
          (g.T.TableMemory.keeps_places now place table) mapper.has_root,
      tt,
    )

pub returns : goal.returns
returns g c =
    let mapper = c.args.self.now in
    let now = mapper.memory.now in
    let m = g.T.TableMemory.tables now in
    let places = g.P.PageTableFrameMapping.places mapper.mapping in
    let frame = c.args.frame in
    let at : c.frame_to_pointer-place.result ≡ places.place frame = c.frame_to_pointer-place.ensures in (
      (
        refl,
        λ table. alike places mapper.root (λ place. g.T.TableMemory.tables (g.T.TableMemory.with_table now place table))
            (λ place there. record mapper { memory = record mapper.memory { now = g.T.TableMemory.with_table now place table }; has_root = there })
            _ _ at _ _,
      ),
      record {
        lends = tt;
        value = there_is m places frame (covered m places frame c.requires.reached.there) ∙ ap (get m) (sym at) ∙ c.table_at_mut.ensures.value;
      },
    )
