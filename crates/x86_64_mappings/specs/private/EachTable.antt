-- The mappings that a visitor passes on, which passes over no table.
use Rattle.std.proofs.Common.{◌≡◌, ◌∙◌, ◌++◌, List, [], refl}
use Rattle.x86_64_mappings.specs.declared.summaries.table_visitor.EachTable.{EachTable}

-- All items that were visited were passed on, in order, to the visitor behind this one, which is still the same visitor.
pub record IsPassedOn {V X : Type 0} (visits : V → V → List X → Type 0) (old new : EachTable V) (xs : List X) : Type 0 where
  pub visitor : new.visitor.ghost_name ≡ old.visitor.ghost_name
  pub passed : visits old.visitor.now new.visitor.now xs

module _ {V X : Type 0} (visits : V → V → List X → Type 0) where
  pub passed_nothing : (none : (v : V) → visits v v []) (each : EachTable V) → IsPassedOn visits each each []
  passed_nothing none each = record { visitor = refl; passed = none each.visitor.now }

  pub passed_both : (both : (before between after : V) (front back : List X) → visits before between front → visits between after back → visits before after (front ++ back))
      (before between after : EachTable V) (front back : List X)
      → IsPassedOn visits before between front → IsPassedOn visits between after back → IsPassedOn visits before after (front ++ back)
  passed_both both before between after front back first second = record {
    visitor = second.visitor ∙ first.visitor;
    passed = both before.visitor.now between.visitor.now after.visitor.now front back first.passed second.passed;
  }
