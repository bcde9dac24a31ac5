-- Lines that are put in two parts.
use Rattle.std.proofs.Common.{◌≡◌, ◌∙◌, ◌++◌, List, map, sym, subst, ap}
use Rattle.std.proofs.lemmas.List.{map-append}
use Rattle.ptdump_engine.specs.Said.{Said}

module _ {O : Type 0} (Lines : O → O → List Said → Type 0) where
  module _ (parts : (before between after : O) (front back : List Said) → Lines before between front → Lines between after back → Lines before after (front ++ back)) where
    -- two parts are put in
    pub both_lines : {X : Type 0} (text : X → Said) (before between after : O) (front back all : List X) → all ≡ front ++ back
        → Lines before between (map text front) → Lines between after (map text back) → Lines before after (map text all)
    both_lines text before between after front back all is first second =
        subst (Lines before after) (sym (ap (map text) is ∙ map-append text front back)) (parts before between after (map text front) (map text back) first second)
