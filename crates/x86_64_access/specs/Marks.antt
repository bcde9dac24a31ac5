-- What marks change: only ACCESSED and DIRTY, of present words alone.
use Rattle.std.specs.Prelude.{◌≡◌, ◌⊎◌, ◌↔◌, ◌<◌, ℕ, Bool, true, List, Option, Some, None, IsSome, bit_and, bit_or}
use Rattle.x86_64_model.specs.Entry.{present}
use Rattle.x86_64_model.specs.Access.{Access, Controls, access, memory_after, steps_from}
use Rattle.x86_64_model.specs.Caches.{Cached, Caches}
use Rattle.x86_64_model.specs.Memory.{IsMapping, Memory, Places, Words, word, words_of}
use Rattle.x86_64_model.specs.Validity.{paths_of}
use Rattle.x86_64_model.specs.PageWalk.{page_walk}
use Rattle.x86_64_model.specs.PathMap.{entry}
use Rattle.x86_64_model.specs.Pool.{Fits}
use Rattle.x86_64_model.specs.Window.{Window, outside_window}

-- The bits are marks: ACCESSED, DIRTY, both or none.
abbrev pub AreMarks : (bits : ℕ) → Type 0
AreMarks bits = bit_and bits 0x60 ≡ bits

-- A word stays, or it is present and gets marks (ACCESSED, DIRTY or both).
abbrev pub GetsMarks : (before after : ℕ) → Type 0
GetsMarks e g = (g ≡ e) ⊎ ((present e ≡ true) × (bits : ℕ) × AreMarks bits × (g ≡ bit_or e bits))

-- Present words got marks (ACCESSED, DIRTY or both), and nothing else changed.
pub record OnlyMarks (before after : Words) : Type 0 where
  pub there : (frame : ℕ) → IsSome (after frame) ↔ IsSome (before frame)
  pub words : (frame i : ℕ) → GetsMarks (word before frame i) (word after frame i)

-- Marks (ACCESSED and DIRTY of present words) change no page walk.
abbrev pub MarkedWalksStay : Type 0
MarkedWalksStay = (L : ℕ) (before after : Words) (root p : ℕ) → OnlyMarks before after → page_walk L after root p ≡ page_walk L before root p

-- Marks (ACCESSED and DIRTY of present words) change the outcome of no access.
abbrev pub AccessesStay : Type 0
AccessesStay = (L : ℕ) (c : Controls) (before after : Words) (root p : ℕ) (a : Access) → OnlyMarks before after
    → access L c after root p a ≡ access L c before root p a

-- An access changes nothing in memory but marks: ACCESSED and DIRTY of present words.
abbrev pub AccessesLeaveMarks : Type 0
AccessesLeaveMarks = (L : ℕ) (c : Controls) (m : Memory) (places : Places) (root p : ℕ) (a : Access) → IsMapping places
    → let words = words_of m places in
    OnlyMarks words (words_of (memory_after places a.kind (steps_from c words p L root) (access L c words root p a) m) places)

-- The recursive window, if there is one, with the word that the root has at its index as the self-entry.
abbrev pub window_now : Words → (root : ℕ) → Option Window → Option Window
window_now T root None = None
window_now T root (Some w) = Some (record { index = w.index; self_entry = word T root w.index })

-- Marks (ACCESSED and DIRTY of present words) keep a hierarchy valid and each pool that fits it, and change its entries by marks
-- alone.
abbrev pub FitsStay : Type 0
FitsStay = (L : ℕ) → 0 < L → (window : Option Window) (before after : Words) (root : ℕ) (serves : ℕ → Bool) (pool : List ℕ) → OnlyMarks before after
    → let now = window_now after root window in
    Fits L window before root (paths_of L (outside_window window root before) root) serves pool
    → Fits L now after root (paths_of L (outside_window now root after) root) serves pool
    × ((q : List ℕ) → GetsMarks (entry (paths_of L (outside_window window root before) root) q) (entry (paths_of L (outside_window now root after) root) q))

-- Marks (ACCESSED and DIRTY of present words) change nothing of what a processor may cache.
abbrev pub CachesStay : Type 0
CachesStay = (L root : ℕ) (before after : Words) → OnlyMarks before after → (these those : List Cached)
    → Caches L root after these those ↔ Caches L root before these those
