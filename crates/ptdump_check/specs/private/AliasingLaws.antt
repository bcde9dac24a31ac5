-- First mappings, after parts of the visits.
use Rattle.std.proofs.Common.{◌++◌, List, [], sym, subst, append-nil, append_assoc}
use Rattle.x86_64_model.specs.Mappings.{Mapping}
use Rattle.ptdump_check.specs.Aliasing.{AreFirstsAfter, TakesFirsts}
use Rattle.ptdump_check.specs.declared.first_mappings.FirstMappings.{FirstMappings}

module _ {X : Type 0} where
  pub taken_nothing : (firsts : FirstMappings X) → TakesFirsts firsts firsts []
  taken_nothing firsts = λ ms after. subst (AreFirstsAfter firsts) (sym (append-nil ms)) after

  pub taken_both : (before between after : FirstMappings X) (front back : List Mapping) → TakesFirsts before between front → TakesFirsts between after back → TakesFirsts before after (front ++ back)
  taken_both before between after front back first second = λ ms is. subst (AreFirstsAfter after) (append_assoc ms front back) (second (ms ++ front) (first ms is))
