-- Maps that change nothing if they are refused.
use Rattle.std.specs.Prelude.{◌≡◌, ℕ, true, false, cond, List}
use Rattle.x86_64_live.specs.declared.map.PageMap.{PageMap}
use Rattle.x86_64_mappers.specs.Supplies.{MapsFrom, Supply}
use Rattle.x86_64_model.specs.Allowed.{refuses}
use Rattle.x86_64_model.specs.Call.{Call, MapToWithTableFlags}
use Rattle.x86_64_model.specs.MapRule.{AfterMap, map_call}
use Rattle.x86_64_model.specs.Hierarchy.{Hierarchy, paths, path_of}
use Rattle.x86_64_model.specs.PathMap.{PathMap}
use Rattle.x86_64_model.specs.Refusal.{Answer}
use Rattle.x86_64_tables.specs.PageTableFlags.{bits_of}

-- The call of `map_to_with_table_flags` by which a map of a page of a level is made.
abbrev pub call_for : {S L : Type 0} → (level : ℕ) → PageMap S L → Call
call_for level map = MapToWithTableFlags level map.page map.frame (bits_of map.flags) (bits_of map.parent_flags)

-- The path map, the supply of free frames and the answer after a map of a page of a level, as the rule of map calls has them.
abbrev pub by_rule : {Lent S L : Type 0} → Hierarchy Lent → (supply : List ℕ) → (level : ℕ) → PageMap S L → AfterMap
by_rule h supply level map =
    map_call h.layout.levels (paths h) supply (bits_of map.parent_flags) h.layout.added_flags (path_of h level map.page) map.frame (bits_of map.flags)

-- What a rule says of a map, except that these paths and this supply stay as they are if it refuses the map.
abbrev pub or_nothing : PathMap → (supply : List ℕ) → AfterMap → AfterMap
or_nothing paths supply after = cond (refuses after.answer) (record { paths = paths; supply = supply; answer = after.answer }) after

-- The effect of a map of a page of a level that is done as a whole or changes nothing, with its answer.
pub record MapsOrNothing {Lent S L : Type 0} (h : Hierarchy Lent) (supply : Supply) (level : ℕ) (map : PageMap S L) (answer : Answer) (after : Hierarchy Lent) (rest : Supply) : Type 0 where
  -- Answer, paths and supply are the rule's, except that nothing changes if it refuses.
  pub outcome : record { paths = paths after; supply = rest.frames; answer = answer } ≡ or_nothing (paths h) supply.frames (by_rule h supply.frames level map)
  -- A map that is done has the whole effect of `map_to_with_table_flags`.
  pub done : refuses answer ≡ false → MapsFrom h supply (call_for level map) answer after rest
  -- A refused one leaves each word, and all frames of the supply in order.
  pub refused : refuses answer ≡ true → (after ≡ h) × (rest ≡ supply)
