use Rattle.std.proofs.Common.{rules, arith, ◌≡◌, ◌∙◌, ◌∷◌, true, false, [], cond, refl, sym, ap, subst}
use Rattle.std.specs.HashSet.{contains}
use Rattle.x86_64_mappings.specs.private.Distinct.{kind_eq, kind_of, TakesDistinct}
use Rattle.x86_64_mappings.specs.declared.summaries.distinct.Kind.{Kind}
use Rattle.x86_64_mappings.proofs.Distinct.{takes_one}
use Rattle.x86_64_mappings.proofs.summaries.distinct.DistinctTableVisitorMappingIn.visit.Goals as goal
use Rattle.x86_64_mappings.proofs.summaries.distinct.DistinctTableVisitorMappingIn.visit.Goals.{then-branch+in_ok-visit, else-branch}

pub returns : goal.returns
returns g c = λ visited.
    let old = c.args.self.now in
    let m = c.args.mapping in
    let L = g.L.LevelCount.LEVELS in
    let updates : (k : Kind) → contains kind_eq c.insert.new.self k ≡ cond (kind_eq c.of-kind.result k) true (contains kind_eq old.memo.seen k) = λ k. grind arith in
    let seen : (k : Kind) → contains kind_eq c.insert.new.self k ≡ cond (kind_eq (kind_of m) k) true (contains kind_eq old.memo.seen k) =
    λ k. updates k ∙ ap (λ kind. cond (kind_eq kind k) true (contains kind_eq old.memo.seen k)) c.of-kind.ensures in
    elim c.if-branch.branch [
      | then-branch+in_ok-visit w ↦
          let was : contains kind_eq old.memo.seen (kind_of m) ≡ false = search rules in
          subst (λ v. TakesDistinct g.V.Visitor.Visits L visited old v (m ∷ [])) (sym w.self-is)
          (takes_one g.V.Visitor.Visits L visited old (record { visitor = record old.visitor { now = w.visit.new.self }; selection = old.selection; memo = record { seen = c.insert.new.self; known = old.memo.known } }) m refl refl refl seen
          (subst (λ b. g.V.Visitor.Visits old.visitor.now w.visit.new.self (cond b [] (m ∷ []))) (sym was) w.in_ok-visit.ensures))
      | else-branch w ↦
          let was : contains kind_eq old.memo.seen (kind_of m) ≡ true = search rules in
          subst (λ v. TakesDistinct g.V.Visitor.Visits L visited old v (m ∷ [])) (sym w.self-is)
          (takes_one g.V.Visitor.Visits L visited old (record { visitor = old.visitor; selection = old.selection; memo = record { seen = c.insert.new.self; known = old.memo.known } }) m refl refl refl seen
          (subst (λ b. g.V.Visitor.Visits old.visitor.now old.visitor.now (cond b [] (m ∷ []))) (sym was) (g.met.V.Visitor.none old.visitor.now)))
    ]
