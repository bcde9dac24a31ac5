-- The layout of a recursive mapper, and what it holds.
use Rattle.std.specs.Prelude.{ℕ, List, Some, bit_or, unwrap_or}
use Rattle.std.specs.Borrow.{Lends, MutBor, Fml, RattleType}
use Rattle.x86_64_model.specs.Layout.{Layout}
use Rattle.x86_64_model.specs.Memory.{Memory, Words, identity_places, words_of}
use Rattle.x86_64_model.specs.Hierarchy.{◌laid_in◌, Hierarchy, Valid}
use Rattle.x86_64_model.specs.Window.{Window}
use Rattle.x86_64_tables.specs.ActiveMemory.{memory_of, cr3_of, walked_frame}
use Rattle.x86_64_tables.specs.SelfEntries.{window_at}
use Rattle.x86_64_tables.specs.declared.phys_memory.active.Active.{Active}
use Rattle.x86_64_addr.specs.contracts.level_count.FiveLevels as five
use Rattle.x86_64_addr.specs.contracts.level_count.FourLevels as four
use Rattle.x86_64_tables.specs.contracts.page_table.table.PageTable.{the_row as table_row}
use Rattle.x86_64_mappers.specs.contracts.recursive_page_table.Recursive.{the_row as recursive_row}
use Rattle.x86_64_mappers.specs.declared.recursive_page_table.Recursive.{Recursive}

-- The layout of a recursive mapper with this number of levels, root and recursive window. Each frame lies at the place of its
-- number, and a new table entry gets PRESENT and WRITABLE in addition to the parent flags.
abbrev pub recursive_at : (levels : ℕ) → (root : ℕ) → Window → Layout
recursive_at levels root window = record { levels = levels; places = identity_places; root = root; window = Some window; added_flags = 3 }

-- The hierarchy of a recursive mapper with this number of levels, root and recursive window in a memory. The value `lent` says
-- which memory was lent.
abbrev pub owned_by : {Lent : Type 0} → (levels : ℕ) → (root : ℕ) → Window → Memory → Lent → Hierarchy Lent
owned_by levels root window memory lent = record { layout = recursive_at levels root window; memory = memory; lent = lent }

-- The layout of a recursive mapper with this root and recursive index. Its self-entry is the word that the root now has at the
-- index.
abbrev pub recursive_now_at : (levels : ℕ) → Memory → (root index : ℕ) → Layout
recursive_now_at levels memory root r = recursive_at levels root (window_at (words_of memory identity_places) root r)

-- The table in each frame of a memory, if each frame lies at the place of its number.
abbrev pub by_number : Memory → Words
by_number memory = words_of memory identity_places

-- The hierarchy with this root in the memory is valid with this recursive index, and the root's word at the index is its
-- self-entry.
abbrev pub ValidThrough : (levels : ℕ) → Memory → (root index : ℕ) → Type 0
ValidThrough levels memory root r = Valid (recursive_now_at levels memory root r laid_in memory)

-- The layout of a recursive mapper of an active memory with this recursive index. The root is in the frame that CR3 names.
abbrev pub layout_through : {N : Type 0} → (levels : ℕ) → Active N Memory → (index : ℕ) → Layout
layout_through levels active r = recursive_now_at levels (memory_of active) (cr3_of active) r

-- The frame at whose start the page walk of a position (an address counted without the non-canonical gap) arrives, or 0 if it
-- arrives at no frame's start. The walk goes through this number of levels from the root in a frame on.
abbrev pub shown_frame : (levels : ℕ) → Memory → (root position : ℕ) → ℕ
shown_frame levels memory root p = unwrap_or (walked_frame levels (by_number memory) root p) 0

-- The recursive window of an index whose self-entry names the root and has these flags.
abbrev pub window_with : (root index flags : ℕ) → Window
window_with root r flags = record { index = r; self_entry = bit_or root flags }

-- The active memory from which a recursive mapper was created, as it is now.
abbrev pub active_in : {A L : Type 0} → Recursive A L → A
active_in mapper = mapper.active

-- A recursive mapper lends its root's table behind the reference r. When the loan ends, the mapper has the last words behind r as
-- the table in the root's frame, put there by the function `with`.
abbrev pub LendsRootWindowAt : (A L : RattleType) → (with : A.Denot → ℕ → List ℕ → A.Denot) → MutBor (Recursive A.Denot L.Denot) → (root : ℕ) → MutBor (List ℕ) → Fml
LendsRootWindowAt A L with s root r = Lends (recursive_row A L) table_row s r (λ table. record s.now { active = with s.now.active root table })

-- A recursive mapper of four levels lends its root's table behind the reference r. When the loan ends, the mapper has the last
-- words behind r as the table in the root's frame, put there by the function `with`.
abbrev pub LendsRootWindow : (A : RattleType) → (with : A.Denot → ℕ → List ℕ → A.Denot) → MutBor (Recursive A.Denot four.the_row.Denot) → (root : ℕ) → MutBor (List ℕ) → Fml
LendsRootWindow A with s root r = LendsRootWindowAt A four.the_row with s root r

-- A recursive mapper of five levels lends its root's table behind the reference r. When the loan ends, the mapper has the last
-- words behind r as the table in the root's frame, put there by the function `with`.
abbrev pub LendsRootWindow57 : (A : RattleType) → (with : A.Denot → ℕ → List ℕ → A.Denot) → MutBor (Recursive A.Denot five.the_row.Denot) → (root : ℕ) → MutBor (List ℕ) → Fml
LendsRootWindow57 A with s root r = LendsRootWindowAt A five.the_row with s root r
