-- Kinds that are seen, after parts of the visits.
use Rattle.std.proofs.Common.{◌≡◌, ◌∙◌, ◌||◌, ◌++◌, ℕ, Bool, true, false, cond, List, [], ◌∷◌, refl, sym, ap, subst}
use Rattle.std.specs.HashSet.{contains}
use Rattle.x86_64_model.specs.Mappings.{Mapping}
use Rattle.x86_64_mappings.specs.declared.summaries.distinct.Distinct.{Distinct}
use Rattle.x86_64_mappings.specs.declared.summaries.distinct.Kind.{Kind}
use Rattle.x86_64_mappings.specs.declared.summaries.distinct.Memo.{Memo}
use Rattle.x86_64_mappings.specs.declared.summaries.reached_table.ReachedTable.{ReachedTable}
use Rattle.x86_64_mappings.specs.private.Distinct.{kind_eq, kind_of, seen_after, new_among, AreByKind, TakesDistinct}

pub seen_after-append : (seen : Kind → Bool) (front back : List Mapping) → seen_after seen (front ++ back) ≡ seen_after (seen_after seen front) back
seen_after-append seen [] back = refl
seen_after-append seen (m ∷ front) back = seen_after-append (λ k. kind_eq (kind_of m) k || seen k) front back

pub new_among-append : (seen : Kind → Bool) (front back : List Mapping) → new_among seen (front ++ back) ≡ new_among seen front ++ new_among (seen_after seen front) back
new_among-append seen [] back = refl
new_among-append seen (m ∷ front) back = by (seen (kind_of m)) _ _ _ (new_among-append (λ k. kind_eq (kind_of m) k || seen k) front back)
  where
    by : (b : Bool) (all first second : List Mapping) → all ≡ first ++ second → cond b all (m ∷ all) ≡ cond b first (m ∷ first) ++ second
    by true all first second e = e
    by false all first second e = ap (λ ms. m ∷ ms) e

module _ {V : Type 0} (visits : V → V → List Mapping → Type 0) where
  pub taken_nothing : (none : (v : V) → visits v v []) (L : ℕ) (visited : ReachedTable → List Mapping) (visitor : Distinct V Memo) → TakesDistinct visits L visited visitor visitor []
  taken_nothing none L visited visitor = λ by_kind known. record { visitor = refl; selection = refl; seen = refl; passed = none visitor.visitor.now; known = known }

  pub taken_both : (both : (before between after : V) (front back : List Mapping) → visits before between front → visits between after back → visits before after (front ++ back))
      (L : ℕ) (visited : ReachedTable → List Mapping) (before between after : Distinct V Memo) (front back : List Mapping)
      → TakesDistinct visits L visited before between front → TakesDistinct visits L visited between after back → TakesDistinct visits L visited before after (front ++ back)
  taken_both both L visited before between after front back first second = λ by_kind known.
      let one = first by_kind known in
      let two = second (subst (λ s. AreByKind L s visited) (sym one.selection) by_kind) one.known in
      let seen = contains kind_eq before.memo.seen in record {
        visitor = two.visitor ∙ one.visitor;
        selection = two.selection ∙ one.selection;
        seen = two.seen ∙ ap (λ seen. seen_after seen back) one.seen ∙ sym (seen_after-append seen front back);
        passed = subst (visits before.visitor.now after.visitor.now)
            (ap (λ seen. new_among (contains kind_eq before.memo.seen) front ++ new_among seen back) one.seen ∙ sym (new_among-append seen front back))
            (both before.visitor.now between.visitor.now after.visitor.now (new_among seen front) (new_among (contains kind_eq between.memo.seen) back) one.passed two.passed);
        known = two.known;
      }
