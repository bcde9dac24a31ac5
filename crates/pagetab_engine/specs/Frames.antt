-- The frames of a hierarchy, and how the lines of an image change them. The root is in the frame 0x1000.
use Rattle.std.specs.Prelude.{◌≡◌, ◌≢◌, ◌<◌, ◌≤◌, ◌/◌, ℕ, ⊤, List, [], ◌∷◌, ◌++◌}
use Rattle.x86_64_model.specs.Layout.{Layout}
use Rattle.x86_64_model.specs.Lists.{In}
use Rattle.x86_64_model.specs.Memory.{Memory, identity_places}
use Rattle.x86_64_tables.specs.declared.frame_alloc.pool.PoolRefusal.{PoolRefusal}
use Rattle.x86_64_tables.specs.declared.frame_alloc.pool.PoolRefusal.TheVariants.{Zero, OutOfRange, AlreadyFree}
use Rattle.x86_64_mappers.specs.Layouts.{direct_at}
use Rattle.x86_64_mappers.specs.Recursive.{recursive_now_at}
use Rattle.pagetab_engine.specs.Slot.{stored}
use Rattle.pagetab_engine.specs.declared.frames.Frames.{Frames}
use Rattle.pagetab_engine.specs.declared.statement.ImageLine.{ImageLine}
use Rattle.pagetab_engine.specs.declared.statement.ImageLine.TheVariants.{Word, Free}

-- The layout in which each frame lies at the place of its number, without a recursive index (a place is the index of a table in
-- memory).
abbrev pub direct_layout : (levels : ℕ) → Layout
direct_layout levels = direct_at levels identity_places 0x1000

-- The layout in which each frame lies at the place of its number, with a recursive index, and the word that the root has there in
-- this memory as self-entry.
abbrev pub recursive_layout : (levels : ℕ) → Memory → (index : ℕ) → Layout
recursive_layout levels memory index = recursive_now_at levels memory 0x1000 index

-- The memory after the root's word at a recursive index was set to 0.
abbrev pub without_self_entry : (index : ℕ) → Memory → Memory
without_self_entry index memory = stored memory 1 index 0

-- The line of an image can be loaded: it sets a word, or its frame can become free, since it is not frame 0, has a number below
-- the limit, and is not free yet.
abbrev pub IsLoadable : Frames → ImageLine → Type 0
IsLoadable frames (Word slot value) = ⊤
IsLoadable frames (Free frame) = (frame ≢ 0) × (frame / 4096 < frames.pool.limit) × (In frames.pool.frames frame → ⊥)

-- The line of an image is refused for this reason, as only a line with a free frame may be.
abbrev pub IsRefusedFor : Frames → ImageLine → PoolRefusal → Type 0
IsRefusedFor frames (Word slot value) why = ⊥
IsRefusedFor frames (Free frame) Zero = frame ≡ 0
IsRefusedFor frames (Free frame) OutOfRange = frames.pool.limit ≤ frame / 4096
IsRefusedFor frames (Free frame) AlreadyFree = In frames.pool.frames frame

-- The memory after a line of an image was loaded, in which its word is set if it is one with a word.
abbrev pub memory_loaded : Frames → ImageLine → Memory
memory_loaded frames (Word slot value) = stored frames.memory slot.place slot.index value
memory_loaded frames (Free frame) = frames.memory

-- The free frames after a line of an image was loaded, with its frame behind the others if it is one with a free frame.
abbrev pub free_after : Frames → ImageLine → List ℕ
free_after frames (Word slot value) = frames.pool.frames
free_after frames (Free frame) = frames.pool.frames ++ frame ∷ []
