use Rattle.std.proofs.Common.{◌∙◌, sym, ap}
use Rattle.std.specs.HashSet.{contains}
use Rattle.x86_64_mappings.specs.private.Distinct.{table_eq}
use Rattle.x86_64_mappings.proofs.Distinct.{takes_known}
use Rattle.x86_64_mappings.proofs.summaries.distinct.DistinctTableVisitorMappingIn.passes_over.Goals as goal

pub returns-then-contains : goal.returns-then-contains
returns-then-contains g c = λ is visited.
    let d = c.args.self.now in
    takes_known g.V.Visitor.Visits g.L.LevelCount.LEVELS visited g.met.V.Visitor.none d c.args.table.now
    (ap (contains table_eq d.memo.known) (sym c.of.ensures) ∙ sym c.contains.ensures ∙ c.if-contains.true) (sym c.covers.ensures ∙ is)
