-- Preparation: the tables above a page are made, so that a later map of it, or an exchange of its entry, needs none.
use Rattle.std.specs.Prelude.{◌≡◌, ℕ, List, Option, Some, None, IsSome}
use Rattle.x86_64_mappers.specs.Supplies.{Supply}
use Rattle.x86_64_mappers.specs.TablesAbove.{AfterTables, CreatesAbove, tables_rule}
use Rattle.x86_64_model.specs.Hierarchy.{Hierarchy, paths, path_of}
use Rattle.x86_64_model.specs.Path.{parents}
use Rattle.x86_64_model.specs.PathMap.{PathMap}
use Rattle.x86_64_model.specs.Refusal.{Refusal}

-- What is left of these paths and this supply if tables are made as a rule says, or nothing changes if it refuses them.
abbrev pub made_or_nothing : PathMap → (supply : List ℕ) → AfterTables → (refusal : Option Refusal) → AfterTables
made_or_nothing paths supply made None = made
made_or_nothing paths supply made (Some why) = record { paths = paths; supply = supply; refusal = Some why }

-- The path map, the supply of free frames and the refusal after the page at a path was prepared: the tables above it are made as a
-- map with these parent flags makes them, or nothing changes.
abbrev pub prepared : PathMap → (supply : List ℕ) → (parent_flags added_flags : ℕ) → (page : List ℕ) → AfterTables
prepared paths supply more added q = let made = tables_rule paths supply more added (parents q) in made_or_nothing paths supply made made.refusal

-- The effect of preparing a page of a level, which is done as a whole or changes nothing. No call of the machine is one: what the
-- laws of calls say of maps, they don't say of it.
pub record Prepares {Lent : Type 0} (h : Hierarchy Lent) (supply : Supply) (level page parent_flags : ℕ) (refusal : Option Refusal) (after : Hierarchy Lent) (rest : Supply) : Type 0 where
  pub outcome : record { paths = paths after; supply = rest.frames; refusal = refusal }
      ≡ prepared (paths h) supply.frames parent_flags h.layout.added_flags (path_of h level page)
  -- If it isn't refused, it has the whole effect of making the tables.
  pub done : refusal ≡ None → CreatesAbove h supply level page parent_flags refusal after rest
  -- If it is, each word stays, and all frames of the supply in order.
  pub refused : IsSome refusal → (after ≡ h) × (rest ≡ supply)
