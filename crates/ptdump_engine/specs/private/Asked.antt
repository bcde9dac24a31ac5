-- Asked: the mappings that summaries visit.
use Rattle.std.specs.Prelude.{ℕ, List}
use Rattle.x86_64_model.specs.Mappings.{Mapping}
use Rattle.x86_64_model.specs.Memory.{Memory, identity_places}
use Rattle.x86_64_model.specs.Regions.{Region}
use Rattle.x86_64_mappings.specs.Wanted.{Asking, asked_mappings, asked_of, asked_regions}

-- The mappings that a query asks for below a root with L levels of tables, in a memory in which the place of each table is the
-- number of its frame.
abbrev pub mappings_asked : {P : Type 0} → Asking Memory P → (L root : ℕ) → List Mapping
mappings_asked asking L root = asked_mappings (asked_of (λ memory. memory) (λ mapping. identity_places) asking) L root

-- The regions formed by the mappings that a query asks for below a root with L levels of tables, in a memory in which the place of
-- each table is the number of its frame.
abbrev pub regions_asked : {P : Type 0} → Asking Memory P → (L root : ℕ) → List Region
regions_asked asking L root = asked_regions (asked_of (λ memory. memory) (λ mapping. identity_places) asking) L root
