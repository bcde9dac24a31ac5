-- Kinds of mappings. Mappings are of the same kind if they lead to the same frame, and have the same size and rights.
use Rattle.std.specs.Prelude.{◌==◌, ◌&&◌, Bool, not, List, [], ◌∷◌, filter}
use Rattle.x86_64_model.specs.Mappings.{Mapping}
use Rattle.x86_64_model.specs.Regions.{same_rights}

-- Whether two mappings are of the same kind: they lead to the same frame, with the same size and the same rights.
abbrev pub is_like : (m n : Mapping) → Bool
is_like m n = (m.frame == n.frame) && (m.size == n.size) && same_rights m.rights n.rights

-- The first mapping of each kind in a list, in order. Mappings are of the same kind if they have the same frame, size and rights.
abbrev pub distinct : List Mapping → List Mapping
distinct [] = []
distinct (m ∷ ms) = m ∷ filter (λ n. not (is_like m n)) (distinct ms)
