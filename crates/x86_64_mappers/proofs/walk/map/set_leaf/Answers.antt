use Rattle.std.proofs.Common.{◌≡◌, refl, sym, ap, ◌∙◌, true, arith}
use Rattle.x86_64_model.specs.Entry.{used}
use Rattle.x86_64_mappers.proofs.Memory.EntryWrites.{unchanged}
use Rattle.x86_64_mappers.proofs.walk.map.set_leaf.Goals as goal

pub returns-then-not-is_unused-clause-set : goal.returns-then-not-is_unused-clause-set
returns-then-not-is_unused-clause-set g c =
    let s = c.args.mapper.now in
    let entry = c.entry_mut-entry in
    let u : used entry.result.now ≡ true = (let e = c.is_unused.ensures in let t = c.if-not-is_unused.true in grind arith) in (
      ap used (sym entry.ensures.value) ∙ u,
      refl,
      unchanged (g.M.Tables.hierarchy s).layout.places (g.M.Tables.hierarchy s).memory c.args.table c.args.index entry.result.now entry.ensures.value _ (g.met.M.Tables.is_mapping s).distinct entry.ensures.index (entry.ensures.set _),
    )

pub returns-then-not-is_unused-clause-index : goal.returns-then-not-is_unused-clause-index
returns-then-not-is_unused-clause-index g c = c.entry_mut-entry.ensures.index

pub returns-then-not-is_unused-clause-layout : goal.returns-then-not-is_unused-clause-layout
returns-then-not-is_unused-clause-layout g c = g.met.M.TableAccess.keeps_layout c.args.mapper.now c.args.table _

pub returns-clause-index : goal.returns-clause-index
returns-clause-index g c = c.entry_mut-entry.ensures.index

pub returns-clause-layout : goal.returns-clause-layout
returns-clause-layout g c = g.met.M.TableAccess.keeps_layout c.args.mapper.now c.args.table _
