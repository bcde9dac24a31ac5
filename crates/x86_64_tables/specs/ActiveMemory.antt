-- A borrowed memory, whose tables are accessed where page walks arrive.
use Rattle.std.specs.Prelude.{◌≡◌, ◌==◌, ◌%◌, ◌/◌, ◌-◌, ◌^◌, ℕ, Bool, true, false, cond, List, [], Option, Some, None, option_and_then, unwrap_or}
use Rattle.std.specs.Borrow.{LendsIf, RestsIfNone, MutBor, Fml, GName, RattleType}
use mir.Syntax.{named}
use Rattle.x86_64_model.specs.Memory.{Memory, Words, identity_places, words_of}
use Rattle.x86_64_model.specs.PageWalk.{Walked, page_walk}
use Rattle.x86_64_tables.specs.declared.phys_memory.active.Active.{Active}
use Rattle.x86_64_tables.specs.contracts.phys_memory.active.Active.{the_row as active_row}
use Rattle.x86_64_tables.specs.contracts.phys_memory.PhysMemory.{the_row as memory_row}
use Rattle.x86_64_tables.specs.declared.phys_memory.table_memory.TableMemory.{Ghosts}
use Rattle.x86_64_tables.specs.contracts.page_table.table.PageTable.{the_row as table_row}

-- The ghost name of the mutable reference through which the memory was lent, by which contracts say which memory that is.
abbrev pub lent : {L T : Type 0} → Active L T → GName
lent active = active.memory.ghost_name

-- The borrowed memory as it is now.
abbrev pub memory_of : {L T : Type 0} → Active L T → T
memory_of active = active.memory.now

-- The words of the borrowed memory: each frame has the table at the place with the frame's number. `tables` says which table a
-- memory has at which place.
abbrev pub active_words : {L T : Type 0} → (tables : T → Memory) → Active L T → Words
active_words tables active = words_of (tables (memory_of active)) identity_places

-- The start address of the frame in the register CR3: the register's bits 12 to 51, with all other bits 0.
abbrev pub cr3_of : {L T : Type 0} → Active L T → ℕ
cr3_of active = let start = active.cr3 % 2 ^ 52 in start - start % 4096

-- The frame that starts at the address where a page walk arrives. None if that address isn't a multiple of 4096.
abbrev pub frame_walked_to : Walked → Option ℕ
frame_walked_to w = cond (w.address % 4096 == 0) (Some w.address) None

-- The frame that starts where the page walk of a position arrives, through this many levels of page tables from the root. None if
-- the walk arrives nowhere, or not at a multiple of 4096.
abbrev pub walked_frame : (levels : ℕ) → Words → (root position : ℕ) → Option ℕ
walked_frame levels T root p = option_and_then frame_walked_to (page_walk levels T root p)

-- The table in the frame that starts where the page walk of a position arrives, through this many levels of page tables from the
-- root. None if the walk arrives nowhere, not at a multiple of 4096, or at a frame without a table.
abbrev pub walked_table : (levels : ℕ) → Words → (root position : ℕ) → Option (List ℕ)
walked_table levels T root p = option_and_then T (walked_frame levels T root p)

-- The active memory after the table in a frame is replaced. `puts` says what a memory is after the table at a place is replaced.
abbrev pub with_table_put : {L T : Type 0} → (puts : T → ℕ → List ℕ → T) → Active L T → (frame : ℕ) → List ℕ → Active L T
with_table_put puts active frame table = record active { memory = record active.memory { now = puts active.memory.now (frame / 4096) table } }

-- When the loan of the table in a frame ends, the active memory has the last table behind the reference r in this frame, and is
-- otherwise unchanged. If r is None, nothing is lent, and the active memory is unchanged.
abbrev pub LendsFrame : (L T : RattleType) → Ghosts T.Denot → MutBor (Active L.Denot T.Denot) → (frame : ℕ) → Option (MutBor (List ℕ)) → Fml
LendsFrame L T G s frame r = LendsIf (active_row (record { mir = named 1; lft = [] }) L T) table_row s r (with_table_put G.with_table s.now frame) s.now

-- When the loan ends, the active memory has the last table behind the reference r in the frame where the page walk of a position
-- from CR3 arrives (frame 0 if there is none), through this many levels of page tables, and is otherwise unchanged. If r is None,
-- nothing is lent, and the active memory is unchanged.
abbrev pub LendsWalked : (L T : RattleType) → Ghosts T.Denot → (levels : ℕ) → MutBor (Active L.Denot T.Denot) → (position : ℕ) → Option (MutBor (List ℕ)) → Fml
LendsWalked L T G levels s p r = LendsFrame L T G s (unwrap_or (walked_frame levels (active_words G.tables s.now) (cr3_of s.now) p) 0) r

-- The active memory if it is kept, None if it isn't.
abbrev pub kept_of : {L T : Type 0} → Active L T → (kept : Bool) → Option (Active L T)
kept_of active true = Some active
kept_of active false = None

-- The loan of a memory goes on in the active memory r, or has ended with the memory unchanged if r is None. If it goes on, the
-- memory that was lent ends as the memory of r does.
abbrev pub RestsUnlessKept : {L : Type 0} → Active L Memory → Option (Active L Memory) → Fml
RestsUnlessKept active r = RestsIfNone memory_row active.memory lent r (λ memory. memory ≡ active.memory.now)
