-- Which events may happen between a kernel with several address spaces and a processor that switches between
-- them.
use Rattle.std.specs.Prelude.{◌≡◌, ◌≢◌, ◌⊎◌, ℕ, Bool, true, false, List, [], ◌∷◌, map, Some, None}
use Rattle.x86_64_model.specs.Lists.{In}
use Rattle.x86_64_model.specs.Path.{is_below}
use Rattle.x86_64_model.specs.Entry.{IsParentFlags, LeadAlike, used}
use Rattle.x86_64_model.specs.Memory.{Words}
use Rattle.x86_64_model.specs.PathMap.{PathMap, entry, table_at}
use Rattle.x86_64_model.specs.Pool.{Fits}
use Rattle.x86_64_model.specs.Call.{Call, IsCall}
use Rattle.x86_64_model.specs.Machine.{step}
use Rattle.x86_64_model.specs.Spaces.{Avoids}
use Rattle.x86_64_model.specs.Flushing.{PageDue, HasZeros, StayFree, StayEmpty, LosesNothing, mapped_by}
use Rattle.x86_64_model.specs.Tags.{Tag, Of, Tagged, CachesTagged, TaggedFlush, is_left, is_left_by_load}
use Rattle.x86_64_model.specs.Switches.{Kernel, Space, AreHeld, Switching, SwitchEvent, held_by, AreDone, machine_at, state_at, with_words, with_marks, after_switch, Makes, Writes, Marks, Returns, Pools, Begins, Ends, Loads, Abandons, Flushes, Changes}

-- The kernel may begin a call on a space that the pool fits, when no call is under way. The call takes no frame that a clean up freed
-- before tables are flushed for each PCID, and maps no page within a larger page that is due. It leads this space to the machine's
-- next path map. Each entry of another space stays, or is this space's old entry at the same path and becomes the new one, as in
-- shared tables, and nothing changes from roots that the call doesn't reach. If the kernel learns that no used entry loses anything,
-- none does, and if it learns that nothing changes below entries that all spaces share, the call avoids these.
pub record MayMakeOn (k : Kernel) (s : Switching) (a : Space) (call : Call) (loses : Bool)
    (reaches : ℕ → Bool)
    (everywhere : Bool) (next : Space → PathMap) : Type 0 where
  pub there : In s.spaces a
  pub done : AreDone s
  pub fits : Fits k.levels a.window s.words a.root a.paths k.serves s.pool
  pub adds : IsParentFlags a.added_flags
  pub is_call : IsCall k.levels call
  pub kept : loses ≡ false → (q : List ℕ) → used (entry a.paths q) ≡ true
      → LosesNothing (entry a.paths q) (entry (step (machine_at k a) (state_at s a) call).state.paths q)
  pub waits : (c : ℕ) → StayFree (s.due (Of c)) s.pool (step (machine_at k a) (state_at s a) call).state.pool
  pub apart : (tag : Tag) (q r : List ℕ) (frame : ℕ) → In (s.due tag) (PageDue q frame)
      → mapped_by k.levels call ≡ Some r → is_below q r ≡ false
  pub own : next a ≡ (step (machine_at k a) (state_at s a) call).state.paths
  pub others : (b : Space) → In s.spaces b → (q : List ℕ)
      → (entry (next b) q ≡ entry b.paths q)
      ⊎ ((entry b.paths q ≡ entry a.paths q) × (entry (next b) q ≡ entry (next a) q))
  pub unreached : (b : Space) → In s.spaces b → reaches b.root ≡ false → (q : List ℕ)
      → entry (next b) q ≡ entry b.paths q
  pub avoids : everywhere ≡ false → Avoids k.levels k.shared call

-- The words of memory may become these at any moment, also during a call: they hold a valid hierarchy for each space, in which each
-- entry is as it was or as it will be. A table that is removed has only words 0 and, as a free frame, keeps them until tables are
-- flushed for each PCID.
pub record MayWriteAll (k : Kernel) (s : Switching) (U : Words) : Type 0 where
  pub held : AreHeld k U (map (with_words k U) s.spaces)
  pub between : (a : Space) → In s.spaces a → (q : List ℕ)
      → (entry (held_by k U a) q ≡ entry a.paths q) ⊎ (entry (held_by k U a) q ≡ entry a.next q)
  pub empty : (a : Space) → In s.spaces a → (q : List ℕ) (f : ℕ)
      → table_at k.levels a.root a.paths q ≡ Some f → table_at k.levels a.root (held_by k U a) q ≡ None
      → HasZeros U f
  pub keeps : (c : ℕ) → StayEmpty (s.due (Of c)) s.pool s.words U

-- A processor may set ACCESSED and DIRTY so, at any moment: the words hold the spaces still, each entry leads to the same with the
-- same rights, now and when the call under way is done, and frames with only words 0 keep them.
pub record MayMarkAll (k : Kernel) (s : Switching) (next : Space → PathMap) (U : Words) : Type 0 where
  pub held : AreHeld k U (map (with_marks k next U) s.spaces)
  pub now : (a : Space) → In s.spaces a → (q : List ℕ) → LeadAlike (entry a.paths q) (entry (held_by k U a) q)
  pub then : (a : Space) → In s.spaces a → (q : List ℕ) → LeadAlike (entry a.next q) (entry (next a) q)
  pub keeps : (f : ℕ) → HasZeros s.words f → HasZeros U f

-- The kernel may change the pool's free frames to these when no call is under way, but no frame leaves the pool while the table that
-- was in it isn't flushed for each PCID.
pub record MayPool (s : Switching) (pool : List ℕ) : Type 0 where
  pub done : AreDone s
  pub waits : (c : ℕ) → StayFree (s.due (Of c)) s.pool pool

-- A new space may be added: no call on it is under way, the words hold it as they hold the others, and no PCID holds items of its
-- root.
pub record MayBegin (k : Kernel) (s : Switching) (a : Space) : Type 0 where
  pub done : a.paths ≡ a.next
  pub held : AreHeld k s.words (a ∷ s.spaces)
  pub unused : (c : ℕ) → s.holder c ≢ Some a.root

-- The space with this root may be given up: no PCID holds items of the root.
abbrev pub MayEnd : Switching → (root : ℕ) → Type 0
MayEnd s root = (c : ℕ) → s.holder c ≢ Some root

-- The processor may load CR3 with a root and a PCID: the root is that of a space, and if the PCID's items are kept, they are of
-- this root. Each item after the load was there before and may be left by it.
pub record MayLoad (s : Switching) (root pcid : ℕ) (keeps : Bool) (after : List Tagged) : Type 0 where
  pub space : Space
  pub there : In s.spaces space
  pub is_root : space.root ≡ root
  pub holds : keeps ≡ true → s.holder pcid ≡ Some root
  pub left : (c : Tagged) → In after c → In s.cache c × (is_left_by_load pcid keeps c.tag ≡ true)

-- A flush may leave these items: each was cached before, and the flush doesn't drop it.
abbrev pub MayFlushTagged : Kernel → Switching → TaggedFlush → (after : List Tagged) → Type 0
MayFlushTagged k s f items = (c : Tagged) → In items c
    → In s.cache c × (is_left k.levels s.pcid f c.tag c.item ≡ true)

-- The event may happen now, between a kernel with several address spaces and a processor that switches between them.
abbrev pub MaySwitch : Kernel → Switching → SwitchEvent → Type 0
MaySwitch k s (Makes a call loses reaches everywhere next) = MayMakeOn k s a call loses reaches everywhere next
MaySwitch k s (Writes U) = MayWriteAll k s U
MaySwitch k s (Marks next U) = MayMarkAll k s next U
MaySwitch k s Returns = AreDone s
MaySwitch k s (Pools pool) = MayPool s pool
MaySwitch k s (Begins a) = MayBegin k s a
MaySwitch k s (Ends root) = MayEnd s root
MaySwitch k s (Loads root pcid keeps items) = MayLoad s root pcid keeps items
MaySwitch k s (Abandons pcid) = pcid ≢ s.pcid
MaySwitch k s (Flushes f items) = MayFlushTagged k s f items
MaySwitch k s (Changes items) = CachesTagged k.levels s.root s.pcid s.words s.cache items

-- The events may happen one after the other, each in the system that those before it leave.
abbrev pub AllMaySwitch : Kernel → Switching → List SwitchEvent → Type 0
AllMaySwitch k s [] = Unit {0}
AllMaySwitch k s (e ∷ es) = MaySwitch k s e × AllMaySwitch k (after_switch k s e) es

-- The system of a kernel with several address spaces and a processor after a list of events, in order.
abbrev pub after_switches : Kernel → Switching → List SwitchEvent → Switching
after_switches k s [] = s
after_switches k s (e ∷ es) = after_switches k (after_switch k s e) es
