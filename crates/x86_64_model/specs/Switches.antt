-- A kernel with several address spaces, and a processor that caches while it switches between them.
use Rattle.std.specs.Prelude.{◌≡◌, ◌==◌, ℕ, Bool, true, false, not, cond, List, [], ◌∷◌, ◌++◌, filter, map, Option, Some, None}
use Rattle.x86_64_model.specs.Lists.{In}
use Rattle.x86_64_model.specs.Path.{level_of}
use Rattle.x86_64_model.specs.Entry.{LeadAlike, present, global}
use Rattle.x86_64_model.specs.Memory.{Words}
use Rattle.x86_64_model.specs.Mappings.{maps_page}
use Rattle.x86_64_model.specs.PathMap.{PathMap, entry}
use Rattle.x86_64_model.specs.Window.{Window, begins_with, entry_at, outside_window, IsValidFor}
use Rattle.x86_64_model.specs.Validity.{paths_of}
use Rattle.x86_64_model.specs.Call.{Call}
use Rattle.x86_64_model.specs.Machine.{Machine, State, step}
use Rattle.x86_64_model.specs.Spaces.{is_shared}
use Rattle.x86_64_model.specs.Flushing.{Due, due_after}
use Rattle.x86_64_model.specs.Tags.{Tag, Of, Global, Tagged, TaggedFlush, is_settled}

-- ---- spaces

-- The fixed part of a kernel with several address spaces: the number of levels, where the pool puts a
-- returned frame, the frames that it serves, and the indices of the highest level that all spaces share.
-- Some spaces may share more.
pub record Kernel : Type 0 where
  pub levels : ℕ
  pub take_back : List ℕ → ℕ → List ℕ
  pub serves : ℕ → Bool
  pub shared : ℕ → Bool

-- An address space: its root, its recursive index if it has one, and the flags that entries of its new
-- tables get in addition to the parent flags. The words of memory hold the path map `paths` from this root
-- now, and will hold `next` when the call under way is done.
pub record Space : Type 0 where
  pub root : ℕ
  pub window : Option Window
  pub added_flags : ℕ
  pub paths : PathMap
  pub next : PathMap

-- The path map that words hold from the root of a space, if they hold one. A recursive index is left out.
abbrev pub held_by : Kernel → Words → Space → PathMap
held_by k T a = paths_of k.levels (outside_window a.window a.root T) a.root

-- The words hold the path map of each space. Below the shared indices the entries of all lead alike, and only
-- there entries of pages have GLOBAL. No recursive index is shared, and all spaces have one, or none.
pub record AreHeld (k : Kernel) (T : Words) (spaces : List Space) : Type 0 where
  pub valid : (a : Space) → In spaces a → IsValidFor k.levels a.window T a.root a.paths
  pub alike : (a b : Space) → In spaces a → In spaces b → (q : List ℕ) → is_shared k.shared q ≡ true
      → LeadAlike (entry a.paths q) (entry b.paths q)
  pub globals : (a : Space) → In spaces a → (q : List ℕ) → let e = entry_at a.window a.paths q in
      present e ≡ true → maps_page (level_of k.levels q) e ≡ true → global e ≡ true
      → is_shared k.shared q ≡ true
  pub windows : (a : Space) → In spaces a → (q : List ℕ) → begins_with a.window q ≡ true
      → is_shared k.shared q ≡ false
  pub all_or_none : (a b : Space) → In spaces a → In spaces b → a.window ≡ None → b.window ≡ None

-- ---- the system

-- A kernel and a processor at a moment. Of the kernel: the spaces, free frames and words, what the call
-- under way makes due, the roots from which a change of it may be seen, and whether it may change something
-- below entries that all share. Of the processor: the current root and PCID, the root of which each PCID
-- holds items, all items, and what is due for those of each PCID and for global translations.
-- If a PCID holds items of no root, what the processor still has for it must not be used: the next load of
-- CR3 with this PCID drops it.
pub record Switching : Type 0 where
  pub spaces : List Space
  pub pool : List ℕ
  pub words : Words
  pub under_way : List Due
  pub reaches : ℕ → Bool
  pub everywhere : Bool
  pub root : ℕ
  pub pcid : ℕ
  pub holder : ℕ → Option ℕ
  pub cache : List Tagged
  pub due : Tag → List Due

-- All calls so far are done: the words hold the path map that each space has after them.
abbrev pub AreDone : Switching → Type 0
AreDone s = (a : Space) → In s.spaces a → a.paths ≡ a.next

-- Whether a PCID holds items of a root from which a change of the call may be seen. The holder is this
-- PCID's root, None if it has none.
abbrev pub is_held : (reaches : ℕ → Bool) → (holder : Option ℕ) → Bool
is_held reaches None = false
is_held reaches (Some root) = reaches root

-- Whether a call is to be flushed for the items with a tag: those of a PCID that holds items of a root from
-- which a change of the call may be seen, and global translations if the call may change something below
-- entries that all spaces share.
abbrev pub is_concerned : (holder : ℕ → Option ℕ) → (reaches : ℕ → Bool) → (everywhere : Bool) → Tag → Bool
is_concerned holder reaches everywhere (Of c) = is_held reaches (holder c)
is_concerned holder reaches everywhere Global = everywhere

-- What the call under way makes due for items with a tag.
abbrev pub pending : Switching → Tag → List Due
pending s tag = cond (is_concerned s.holder s.reaches s.everywhere tag) s.under_way []

-- ---- events

-- An event: something that a kernel does with its address spaces, or a processor that switches between them
-- does.
pub data SwitchEvent : Type 0 where
  -- The kernel begins a call on a space, of which it learns whether a used entry may lose anything, from
  -- which roots a change may be seen, and whether it may be below entries that all share. When it is done,
  -- the words hold the next path map of each space.
  Makes : Space → Call → (loses : Bool) → (reaches : ℕ → Bool) → (everywhere : Bool)
      → (next : Space → PathMap) → SwitchEvent
  -- Words of memory change.
  Writes : (words : Words) → SwitchEvent
  -- A processor sets ACCESSED and DIRTY in words. Which of these marks last after the call under way is left
  -- open.
  Marks : (next : Space → PathMap) → (words : Words) → SwitchEvent
  -- The call under way is done.
  Returns : SwitchEvent
  -- The kernel takes free frames for itself, or adds frames to the pool.
  Pools : (pool : List ℕ) → SwitchEvent
  -- One more space, and one less.
  Begins : Space → SwitchEvent
  Ends : (root : ℕ) → SwitchEvent
  -- The processor loads CR3 with a root and a PCID, and keeps the PCID's items or not.
  Loads : (root pcid : ℕ) → (keeps : Bool) → (after : List Tagged) → SwitchEvent
  -- The kernel does no longer count on the items of a PCID.
  Abandons : (pcid : ℕ) → SwitchEvent
  -- The processor flushes, which leaves these items.
  Flushes : TaggedFlush → (after : List Tagged) → SwitchEvent
  -- The processor drops and makes items.
  Changes : (after : List Tagged) → SwitchEvent

-- The machine of calls on a space: the kernel's levels and pool, with the space's recursive index and added
-- flags.
abbrev pub machine_at : Kernel → Space → Machine
machine_at k a = record { levels = k.levels; window = a.window; added_flags = a.added_flags; take_back = k.take_back }

-- The machine's state for calls on a space: the path map that the words hold from its root now, and the
-- free frames.
abbrev pub state_at : Switching → Space → State
state_at s a = record { paths = a.paths; pool = s.pool }

-- What a call on a space makes due to be flushed, nothing if no used entry may lose anything.
abbrev pub made_due : Kernel → Switching → Space → Call → (loses : Bool) → List Due
made_due k s a call loses =
    cond loses (due_after (machine_at k a) (state_at s a) call) []

-- The space with the next path map that this function returns for it.
abbrev pub with_next : (Space → PathMap) → Space → Space
with_next next a = record a { next = next a }

-- The space with the path map that these words hold from its root.
abbrev pub with_words : Kernel → Words → Space → Space
with_words k T a = record a { paths = held_by k T a }

-- The space with the path map that these words hold from its root, and with the next path map that this
-- function returns for it.
abbrev pub with_marks : Kernel → (Space → PathMap) → Words → Space → Space
with_marks k next T a = record a { paths = held_by k T a; next = next a }

-- What is due for items with each tag, if it is replaced for those of one PCID.
abbrev pub due_with : (pcid : ℕ) → List Due → (Tag → List Due) → Tag → List Due
due_with pcid new due (Of c) = cond (c == pcid) new (due (Of c))
due_with pcid new due Global = due Global

-- The root of which each PCID holds items, if it is replaced for one PCID.
abbrev pub holder_with : (pcid : ℕ) → Option ℕ → (ℕ → Option ℕ) → ℕ → Option ℕ
holder_with pcid new holder c = cond (c == pcid) new (holder c)

-- What a flush leaves due for items with a tag, of all that was due for them.
abbrev pub left_due : Kernel → Switching → TaggedFlush → Tag → List Due
left_due k s f tag = filter (λ due. not (is_settled k.levels s.pcid f tag due)) (s.due tag)

-- The kernel and the processor after an event.
abbrev pub after_switch : Kernel → Switching → SwitchEvent → Switching
after_switch k s (Makes a call loses reaches everywhere next) = let new = made_due k s a call loses in record {
  spaces = map (with_next next) s.spaces;
  pool = (step (machine_at k a) (state_at s a) call).state.pool;
  words = s.words;
  under_way = new;
  reaches = reaches;
  everywhere = everywhere;
  root = s.root;
  pcid = s.pcid;
  holder = s.holder;
  cache = s.cache;
  due = λ tag. cond (is_concerned s.holder reaches everywhere tag) new [] ++ s.due tag;
}
after_switch k s (Writes U) = record s { spaces = map (with_words k U) s.spaces; words = U }
after_switch k s (Marks next U) = record s { spaces = map (with_marks k next U) s.spaces; words = U }
after_switch k s Returns = record s { under_way = [] }
after_switch k s (Pools pool) = record s { pool = pool }
after_switch k s (Begins a) = record s { spaces = a ∷ s.spaces }
after_switch k s (Ends root) = record s { spaces = filter (λ a. not (a.root == root)) s.spaces }
after_switch k s (Loads root pcid keeps items) = record s {
  root = root;
  pcid = pcid;
  cache = items;
  holder = holder_with pcid (Some root) s.holder;
  due = cond keeps s.due (due_with pcid (cond (s.reaches root) s.under_way []) s.due);
}
after_switch k s (Abandons pcid) = record s { holder = holder_with pcid None s.holder; due = due_with pcid [] s.due }
after_switch k s (Flushes f items) = record s { cache = items; due = λ tag. left_due k s f tag ++ pending s tag }
after_switch k s (Changes items) = record s { cache = items }
