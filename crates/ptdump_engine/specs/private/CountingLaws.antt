-- Lines that are counted in parts.
use Rattle.std.proofs.Common.{◌∙◌, ◌++◌, ℕ, List, [], length-append, refl, sym, subst, arith}
use Rattle.std.proofs.lemmas.Grind.{flat_map-append}
use Rattle.std.specs.List.{flat_map}
use Rattle.ptdump_engine.specs.Said.{Said, line_of}
use Rattle.ptdump_engine.specs.private.Counting.{AreCounted}
use Rattle.ptdump_engine.specs.declared.counted_lines.CountedLines.{CountedLines}

module _ {O : Type 0} (puts : O → O → List ℕ → Type 0) where
  pub counted_nothing : (nothing : (o : O) → puts o o []) (counted : CountedLines O) → AreCounted puts counted counted []
  counted_nothing nothing counted = record { output = refl; form = refl; put = nothing counted.output.now; count = omega arith }

  pub counted_both : (parts : (before between after : O) (front back : List ℕ) → puts before between front → puts between after back → puts before after (front ++ back))
      (before between after : CountedLines O) (front back : List Said) → AreCounted puts before between front → AreCounted puts between after back
      → AreCounted puts before after (front ++ back)
  counted_both parts before between after front back first second = record {
    output = second.output ∙ first.output;
    form = second.form ∙ first.form;
    put = subst (puts before.output.now after.output.now) (sym (flat_map-append (line_of before.form) front back))
        (parts before.output.now between.output.now after.output.now _ _ first.put
        (subst (λ f. puts between.output.now after.output.now (flat_map (line_of f) back)) first.form second.put));
    count = omega (arith, first.count, second.count, length-append front back);
  }
