use Rattle.std.proofs.Common.{◌≡◌, ◌&&◌, List, Option}
use Rattle.std.specs.List.{find}
use Rattle.x86_64_model.specs.Regions.{Region}
use Rattle.uses.proofs.list_mappings.writable_code.Given as goal

abbrev first_writable_code : List Region → Option Region
first_writable_code regions = find (λ region. region.rights.write && region.rights.execute) regions

abbrev pub invariant-loop-region : goal.invariant-loop-region
invariant-loop-region g l = first_writable_code l.region-iterator ≡ first_writable_code l.initial.region-iterator
