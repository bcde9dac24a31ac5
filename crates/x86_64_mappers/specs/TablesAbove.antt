-- Tables above a page: what a map does above the page's own entry, without that entry.
use Rattle.std.specs.Prelude.{◌≡◌, ◌↔◌, ℕ, Bool, List, [], Option, Some, None, Result, Ok, Err}
use Rattle.std.specs.List.{AllByRecursion}
use Rattle.x86_64_mappers.specs.Supplies.{Supply}
use Rattle.x86_64_model.specs.Arrivals.{Arrives}
use Rattle.x86_64_model.specs.Hierarchy.{Hierarchy, KeepsBut, Owns, PoolFits, Uses, paths, path_of, walk}
use Rattle.x86_64_model.specs.Lists.{In}
use Rattle.x86_64_model.specs.MapRule.{AfterMap, map_rule}
use Rattle.x86_64_model.specs.Path.{parents}
use Rattle.x86_64_model.specs.PathMap.{PathMap, entry}
use Rattle.x86_64_model.specs.Refusal.{Refusal, refusal_of}
use Rattle.x86_64_model.specs.Standing.{IsParent}
use Rattle.x86_64_tables.specs.MapperAnswers.{map_refusal}
use Rattle.x86_64_tables.specs.declared.errors.MapToError.{MapToError}

-- What is left after tables were made: the path map, the rest of the supply of frames, and the reason why not all of them were made,
-- None if they were.
pub record AfterTables : Type 0 where
  pub paths : PathMap
  pub supply : List ℕ
  pub refusal : Option Refusal

-- What a map leaves, with the reason for its refusal in place of its answer.
abbrev pub tables_after : AfterMap → AfterTables
tables_after a = record { paths = a.paths; supply = a.supply; refusal = refusal_of a.answer }

-- The effect of making the tables that the parents ps of a page name: that of the map rule for these parents without a page, since
-- no entry stands at the empty path, and none is put there.
abbrev pub tables_rule : PathMap → (supply : List ℕ) → (parent_flags added_flags : ℕ) → (ps : List (List ℕ)) → AfterTables
tables_rule paths supply parent_flags added_flags ps = tables_after (map_rule paths supply parent_flags added_flags ps [] 0 0)

-- The reason why the tables above a page weren't all made, None if they were.
abbrev pub tables_refusal : {S X : Type 0} → Result X (MapToError S) → Option Refusal
tables_refusal (Ok _) = None
tables_refusal (Err why) = Some (map_refusal why)

-- The effect of making the tables above the page at a path, with frames of a supply, which is `rest` then and serves the same frames.
-- The hierarchy is valid again, and only words in the root, the tables and the taken frames change. Each page walk that arrived still
-- arrives at the same address, loses no right, and gains only rights that the parent flags grant.
pub record CreatesTables {Lent : Type 0} (h : Hierarchy Lent) (supply : Supply) (parent_flags : ℕ) (page : List ℕ) (refusal : Option Refusal) (after : Hierarchy Lent) (rest : Supply) : Type 0 where
  pub outcome : record { paths = paths after; supply = rest.frames; refusal = refusal }
      ≡ tables_rule (paths h) supply.frames parent_flags h.layout.added_flags (parents page)
  -- If it isn't refused, each entry above the page names a table and has the parent flags.
  pub made : refusal ≡ None → AllByRecursion (λ p. IsParent parent_flags (entry (paths after) p)) (parents page)
  -- All other entries stay, the page's own among them.
  pub entries : (p : List ℕ) → (In (parents page) p → ⊥) → entry (paths after) p ≡ entry (paths h) p
  -- What is left of a pool that fitted fits, whatever it serves, and free and table frames together are the same set as before.
  pub fits : (serves : ℕ → Bool) → PoolFits h serves supply.frames → PoolFits after serves rest.frames
  pub conserved : (f : ℕ) → Owns h supply.frames f ↔ Owns after rest.frames f
  pub walks : (p : ℕ) → Arrives parent_flags (walk h p) (walk after p)
  pub keeps : KeepsBut (Uses h supply.frames rest.frames) h after
  pub serves : rest.serves ≡ supply.serves

-- The tables above the page of a level were made.
abbrev pub CreatesAbove : {Lent : Type 0} → Hierarchy Lent → Supply → (level page parent_flags : ℕ) → Option Refusal → (after : Hierarchy Lent) → (rest : Supply) → Type 0
CreatesAbove h supply level page more refusal after rest = CreatesTables h supply more (path_of h level page) refusal after rest
