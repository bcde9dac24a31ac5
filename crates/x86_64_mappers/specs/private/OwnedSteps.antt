-- The steps of a mapper's calls, as relations on hierarchies: the record of layout, memory and loan that a mapper owns for a
-- while.
use Rattle.std.specs.Prelude.{◌≡◌, ℕ, List, Result}
use Rattle.x86_64_model.specs.Hierarchy.{Hierarchy}
use Rattle.x86_64_model.specs.Refusal.{Refusal, Answer}
use Rattle.x86_64_mappers.specs.Supplies.{Supply}
use Rattle.x86_64_mappers.specs.private.EntryCalls.{IsChangedAt}
use Rattle.x86_64_mappers.specs.private.Linked.{IsClearedFirst, MayLink}
use Rattle.x86_64_mappers.specs.private.MapSteps.{IsDown}
use Rattle.x86_64_mappers.specs.private.OpenWay.{IsOpenWay}
use Rattle.x86_64_mappers.specs.private.Stops.{IsFound, StopsBelow}
use Rattle.x86_64_mappers.specs.private.Writes.{IsSet, IsTableMade, IsLeafSet}

-- The path of a page's parents leads through present table entries of the hierarchy to the table in the frame of the result, or the
-- first parent that isn't one refuses the page for the reason in the result.
abbrev pub FindsTable : {Lent : Type 0} → Hierarchy Lent → (parents : List ℕ) → Result ℕ Refusal → Type 0
FindsTable h path found = IsFound h.layout h.memory path found

-- The first entry on a path of the hierarchy that isn't a present table entry, the one at the path's end included, refuses each
-- page below the path for this reason.
abbrev pub RefusesBelow : {Lent : Type 0} → Hierarchy Lent → (path : List ℕ) → Refusal → Type 0
RefusesBelow h path why = StopsBelow h.layout h.memory path why

-- Word i of the table in a frame of the hierarchy was set to w.
abbrev pub SetsWord : {Lent : Type 0} → Hierarchy Lent → (frame i w : ℕ) → (after : Hierarchy Lent) → Type 0
SetsWord h f i w after = IsSet h.layout.places h.memory f i w after.memory

-- Word i of the table in a frame of the hierarchy was set to w and the table in another frame cleared, with the effect of clearing
-- it first.
abbrev pub LinksTable : {Lent : Type 0} → Hierarchy Lent → (frame i w cleared : ℕ) → (after : Hierarchy Lent) → Type 0
LinksTable h f i w g after = IsClearedFirst h.layout.places h.memory f i w g after.memory

-- Word i of the table in a frame of the hierarchy names a table, created from the supply if it was missing, or the step was
-- refused. The supply is `rest` then, and serves the same frames.
pub record MakesTable {Lent : Type 0} (h : Hierarchy Lent) (supply : Supply) (parent_flags frame i : ℕ) (made : Result ℕ Refusal) (after : Hierarchy Lent) (rest : Supply) : Type 0 where
  pub is : IsTableMade h.layout.places parent_flags h.layout.added_flags h.memory supply.frames frame i made after.memory rest.frames
  pub serves : rest.serves ≡ supply.serves

-- The tables along the parents of a page exist now in the hierarchy, created from the supply if they were missing, or the way down
-- was refused. The supply is `rest` then, and serves the same frames.
pub record MakesTables {Lent : Type 0} (h : Hierarchy Lent) (supply : Supply) (parent_flags : ℕ) (parents : List ℕ) (made : Result ℕ Refusal) (after : Hierarchy Lent) (rest : Supply) : Type 0 where
  pub down : IsDown h.layout h.memory supply.frames parent_flags parents made after.memory rest.frames
  pub serves : rest.serves ≡ supply.serves

-- The unused word i of the table in a frame of the hierarchy became the entry w of a page, or the map of the page to its frame was
-- refused.
abbrev pub SetsLeaf : {Lent : Type 0} → Hierarchy Lent → (table i w frame : ℕ) → Answer → (after : Hierarchy Lent) → Type 0
SetsLeaf h f i w frame answer after = IsLeafSet h.layout.places h.memory f i w frame answer after.memory

-- The first k parents of a page are present and lead to the table in a frame of the hierarchy. The parent flags have PRESENT, or
-- the parents to come are present, down to and including the first huge one.
abbrev pub LeadsOpenly : {Lent : Type 0} → Hierarchy Lent → (parent_flags : ℕ) → (parents : List ℕ) → (k frame : ℕ) → Type 0
LeadsOpenly h more path k f = IsOpenWay h.layout h.memory more path k f

-- The entry at index k of the parents of a page, in the table in a frame of the hierarchy, may be made to name another frame with
-- these flags.
abbrev pub MayNameTable : {Lent : Type 0} → Hierarchy Lent → (parents : List ℕ) → (k table frame flags : ℕ) → Type 0
MayNameTable h path k f g given = MayLink h.layout h.memory path k f g given

-- The entry at a path's end in the hierarchy was changed as the relation `calls` allows, or a parent refused the change and nothing
-- changed.
abbrev pub ChangesEntry : {Lent X : Type 0} → Hierarchy Lent → (path : List ℕ) → (calls : ℕ → X → ℕ → Type 0) → Result X Refusal → (after : Hierarchy Lent) → Type 0
ChangesEntry h path calls answer after = IsChangedAt h.layout h.memory path calls answer after.memory
