-- What a mapper's calls leave in its memory, one record for each kind of call. Here m is the memory before, and n the memory
-- after.
use Rattle.std.specs.Prelude.{◌≡◌, ℕ, List, Some}
use Rattle.x86_64_model.specs.Memory.{Memory}
use Rattle.x86_64_model.specs.Refusal.{Answer}
use Rattle.x86_64_model.specs.MapRule.{map_call}
use Rattle.x86_64_model.specs.PageRules.{AfterChange, unmap, update_flags, set_flags}
use Rattle.x86_64_model.specs.Arrivals.{Arrives}
use Rattle.x86_64_model.specs.Layout.{Layout}
use Rattle.x86_64_model.specs.Hierarchy.{◌laid_in◌, Hierarchy, Changes, HoldsTable, KeepsOthers, Maps, SupplyFits, Uses, Valid, paths, read_entry, walk}

-- What a call that maps a page leaves in the memory n, if it began in the memory m. The path map, the supply and the answer are
-- those of the map rule, the hierarchy is valid again, and the rest of the supply fits it. Only words in the root, the tables
-- and the taken frames change. Each page walk that arrived still arrives at the same address, loses no right, and gains only
-- rights that the parent flags grant.
pub record MapsPage (l : Layout) (m : Memory) (supply : List ℕ) (page : List ℕ) (frame flags parent_flags : ℕ) (answer : Answer) (n : Memory) (rest : List ℕ) : Type 0 where
  pub outcome : map_call l.levels (paths (l laid_in m)) supply parent_flags l.added_flags page frame flags ≡ record { paths = paths (l laid_in n); supply = rest; answer = answer }
  pub ready : SupplyFits (l laid_in n) rest
  pub others : KeepsOthers (Uses (l laid_in m) supply rest) (l laid_in m) (l laid_in n)
  pub walks : (p : ℕ) → Arrives parent_flags (walk (l laid_in m) p) (walk (l laid_in n) p)

-- The result of `unmap` for the hierarchy of a layout in a memory: the path map and the answer.
abbrev pub after_unmap : Layout → Memory → (page : List ℕ) → AfterChange
after_unmap l m page = unmap l.levels (read_entry (l laid_in m)) (paths (l laid_in m)) page

-- The result of `update_flags` for the hierarchy of a layout in a memory: the path map and the answer.
abbrev pub after_update : Layout → Memory → (page : List ℕ) → (flags : ℕ) → AfterChange
after_update l m page given = update_flags l.levels (read_entry (l laid_in m)) (paths (l laid_in m)) page given

-- The result of a call that sets the flags of the entry of a level on a page's path, for the hierarchy of a layout in a memory:
-- the path map and the answer.
abbrev pub after_set_flags : Layout → Memory → (level : ℕ) → (page : List ℕ) → (flags : ℕ) → AfterChange
after_set_flags l m level page given = set_flags l.levels (read_entry (l laid_in m)) (paths (l laid_in m)) level page given

-- What a call that changes at most one entry leaves in the memory n, if it began in the memory m. The path map is that of the
-- rule, the hierarchy is valid again, a supply that fitted still fits, and only words in the root and the tables change.
pub record IsChanged (l : Layout) (m : Memory) (after : AfterChange) (n : Memory) : Type 0 where
  pub meant : after.paths ≡ paths (l laid_in n)
  pub valid : Valid (l laid_in n)
  pub ready : (supply : List ℕ) → SupplyFits (l laid_in m) supply → SupplyFits (l laid_in n) supply
  pub others : KeepsOthers (HoldsTable (l laid_in m)) (l laid_in m) (l laid_in n)

-- The effect of a change of one entry, whose outcome by its rule is given.
abbrev pub ChangesBy : {Lent : Type 0} → Hierarchy Lent → (rule : AfterChange) → Answer → (after : Hierarchy Lent) → Type 0
ChangesBy h rule answer after = Changes h (Some rule) answer after

-- The effect of a map of the page at a path, after which the rest of the supply is left.
abbrev pub MapsPath : {Lent : Type 0} → Hierarchy Lent → (supply : List ℕ) → (page : List ℕ) → (frame flags parent_flags : ℕ) → Answer → (after : Hierarchy Lent) → (rest : List ℕ) → Type 0
MapsPath h supply page frame given parent_flags answer after rest =
    Maps h supply (Some (map_call h.layout.levels (paths h) supply parent_flags h.layout.added_flags page frame given)) (Some parent_flags) answer after rest
