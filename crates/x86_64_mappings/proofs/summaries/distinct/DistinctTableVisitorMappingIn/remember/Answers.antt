use Rattle.std.proofs.Common.{arith, ◌≡◌, ◌∙◌, true, cond, refl, sym, ap, subst}
use Rattle.std.specs.HashSet.{contains}
use Rattle.x86_64_mappings.specs.private.Distinct.{table_eq, TakesDistinct}
use Rattle.x86_64_mappings.specs.declared.summaries.distinct.TableKind.{TableKind}
use Rattle.x86_64_mappings.specs.declared.summaries.distinct.Distinct.{Distinct}
use Rattle.x86_64_mappings.specs.declared.summaries.distinct.Memo.{Memo}
use Rattle.x86_64_mappings.proofs.Distinct.{takes_remembered}
use Rattle.x86_64_mappings.proofs.summaries.distinct.DistinctTableVisitorMappingIn.remember.Goals as goal
use Rattle.x86_64_mappings.proofs.summaries.distinct.DistinctTableVisitorMappingIn.remember.Goals.{then-covers+in_ok-map_err, else-covers}

pub returns : goal.returns
returns g c = λ visited before takes. elim c.if-covers.branch [
  | then-covers+in_ok-map_err w ↦
      let d = c.args.self.now in
      let t = c.args.table.now in
      let new : Distinct g.row.V.Denot Memo = record { visitor = d.visitor; selection = d.selection; memo = record { seen = d.memo.seen; known = w.insert.new.self } } in
      let updates : (k : TableKind) → contains table_eq w.insert.new.self k ≡ cond (table_eq w.of-kind.result k) true (contains table_eq d.memo.known k) = λ k. grind arith in
      subst (λ v. TakesDistinct g.V.Visitor.Visits g.L.LevelCount.LEVELS visited before v (visited t)) (sym w.self-is)
      (takes_remembered g.V.Visitor.Visits g.L.LevelCount.LEVELS visited before d new t refl refl refl
      (λ k. updates k ∙ ap (λ kind. cond (table_eq kind k) true (contains table_eq d.memo.known k)) w.of-kind.ensures)
      (sym c.covers.ensures ∙ w.if-covers.true) takes)
  | else-covers w ↦ subst (λ v. TakesDistinct g.V.Visitor.Visits g.L.LevelCount.LEVELS visited before v (visited c.args.table.now)) (sym w.self-is) takes
]
