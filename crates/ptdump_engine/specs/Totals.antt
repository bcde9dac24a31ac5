-- Totals: the number of tables that were read, and how much they map.
use Rattle.std.specs.Prelude.{◌≡◌, ◌++◌, ℕ, List, codes, decimal, length, sum_by}
use Rattle.ptdump_picture.specs.ShortSizes.{short_size}
use Rattle.x86_64_dump.specs.Loaded.{IsTableCount}
use Rattle.x86_64_model.specs.Mappings.{Mapping, mappings_of}
use Rattle.x86_64_model.specs.Memory.{Words}
use Rattle.ptdump_engine.specs.declared.totals.Totals.{Totals}

-- The text of the totals: the number of tables, the number of mappings, and the size of what is mapped.
abbrev pub totals_text : Totals → List ℕ
totals_text t =
    codes "tables " ++ decimal t.tables ++ codes ", mappings " ++ decimal t.mappings ++ codes ", mapped "
    ++ short_size t.bytes

-- The totals have the number of these mappings, and the sum of their sizes in bytes.
abbrev pub IsMappedMemory : List Mapping → Totals → Type 0
IsMappedMemory ms t = (t.mappings ≡ length ms) × (t.bytes ≡ sum_by (λ m. m.size) ms)

-- The totals are those of the tables that a root leads to in W, with L levels of tables.
pub record AreTotals (L : ℕ) (W : Words) (root : ℕ) (totals : Totals) : Type 0 where
  pub tables : IsTableCount L W root totals.tables
  pub mapped : IsMappedMemory (mappings_of L W root) totals
