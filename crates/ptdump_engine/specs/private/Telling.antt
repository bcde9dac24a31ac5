-- What a visitor puts in for the items that it visits.
use Rattle.std.proofs.Common.{◌≡◌, ◌∙◌, ◌++◌, List, [], Option, refl, sym, subst}
use Rattle.std.proofs.lemmas.List.Elements.{filter_map-append}
use Rattle.std.specs.List.{filter_map}
use Rattle.ptdump_engine.specs.Said.{Said}
use Rattle.ptdump_engine.specs.declared.telling.Teller.{Teller}

-- A line for each of the visited items of which something is said was put in an output, in order.
pub record AreTold {T O X : Type 0} (Lines : O → O → List Said → Type 0) (said : T → X → Option Said) (old new : Teller T O) (xs : List X) : Type 0 where
  pub output : new.output.ghost_name ≡ old.output.ghost_name
  pub telling : new.telling.now ≡ old.telling.now
  pub lines : Lines old.output.now new.output.now (filter_map (said old.telling.now) xs)

module _ {T O X : Type 0} (Lines : O → O → List Said → Type 0) (said : T → X → Option Said) where
  pub told_nothing : (nothing : (o : O) → Lines o o []) (teller : Teller T O) → AreTold Lines said teller teller []
  told_nothing nothing teller = record { output = refl; telling = refl; lines = nothing teller.output.now }

  pub told_both : (parts : (before between after : O) (front back : List Said) → Lines before between front → Lines between after back → Lines before after (front ++ back))
      (before between after : Teller T O) (front back : List X)
      → AreTold Lines said before between front → AreTold Lines said between after back → AreTold Lines said before after (front ++ back)
  told_both parts before between after front back first second = record {
    output = second.output ∙ first.output;
    telling = second.telling ∙ first.telling;
    lines = subst (Lines before.output.now after.output.now) (sym (filter_map-append (said before.telling.now) front back))
        (parts before.output.now between.output.now after.output.now _ _ first.lines
        (subst (λ t. Lines between.output.now after.output.now (filter_map (said t) back)) first.telling second.lines));
  }
