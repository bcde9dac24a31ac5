-- What a processor caches of several address spaces: items of PCIDs, and global translations. Loads of CR3,
-- INVLPG and INVPCID. Intel SDM vol. 3A, "Process-Context Identifiers (PCIDs)", "Global Pages", "Operations
-- that Invalidate TLBs and Paging-Structure Caches".
use Rattle.std.specs.Prelude.{◌≡◌, ◌⊎◌, ◌==◌, ◌&&◌, ℕ, Bool, true, false, not, cond, List, filter, map, Some}
use Rattle.x86_64_model.specs.Lists.{In}
use Rattle.x86_64_model.specs.Position.{page_path}
use Rattle.x86_64_model.specs.Path.{begins}
use Rattle.x86_64_model.specs.Entry.{global}
use Rattle.x86_64_model.specs.Memory.{Words, word}
use Rattle.x86_64_model.specs.Caches.{PartialWalk, Cached, Table, Page, MayRead, cached_item}
use Rattle.x86_64_model.specs.Flushing as one
use Rattle.x86_64_model.specs.Flushing.{Due, PageDue, TablesDue, WindowDue, BelowDue}

-- ---- items

-- The tag of an item: it is associated with a PCID, or is a global translation, which serves whatever PCID
-- is current. Without PCIDs (CR4.PCIDE = 0) the current one is always 0.
pub data Tag : Type 0 where
  Of : (pcid : ℕ) → Tag
  Global : Tag

-- An item of a paging-structure cache or of the TLB, with its tag.
pub record Tagged : Type 0 where
  pub tag : Tag
  pub item : Cached

-- Whether items with this tag serve while a PCID is current.
abbrev pub is_current : (pcid : ℕ) → Tag → Bool
is_current pcid (Of c) = c == pcid
is_current pcid Global = true

-- The items that serve while a PCID is current.
abbrev pub usable : (pcid : ℕ) → List Tagged → List Cached
usable pcid cache = map (λ c. c.item) (filter (λ c. is_current pcid c.tag) cache)

-- A new item that is found in an entry may get this tag: it is of the current PCID, or, if it is a page and
-- the entry has GLOBAL, it may be a global translation.
abbrev pub MayTag : (pcid entry : ℕ) → Cached → Tag → Type 0
MayTag pcid e (Table t) tag = tag ≡ Of pcid
MayTag pcid e (Page w) tag = (tag ≡ Of pcid) ⊎ ((tag ≡ Global) × (global e ≡ true))

-- At any moment the processor may drop items and make others: each item after it was there before, or is
-- found in a word of a table from which the processor may read on, the current root's or a cached one that
-- serves.
abbrev pub CachesTagged : (L root pcid : ℕ) → Words → (before after : List Tagged) → Type 0
CachesTagged L root pcid T before after = (c : Tagged) → In after c → In before c
    ⊎ ((t : PartialWalk) × (i : ℕ) × MayRead root (usable pcid before) t × (cached_item L T t i ≡ Some c.item)
    × MayTag pcid (word T t.frame i) c.item c.tag)

-- ---- flushes

-- A flush: INVLPG of an address, given by its position (its number counted without the gap), or INVPCID of
-- one of its four kinds: of an address with a PCID, of a PCID, of everything, or of everything but global
-- translations. A change of CR4.PGE is as `InvpcidAll`.
pub data TaggedFlush : Type 0 where
  Invlpg : (position : ℕ) → TaggedFlush
  InvpcidAddress : (pcid position : ℕ) → TaggedFlush
  InvpcidContext : (pcid : ℕ) → TaggedFlush
  InvpcidAll : TaggedFlush
  InvpcidAllButGlobal : TaggedFlush

-- Whether the tag is that of global translations.
abbrev pub is_global : Tag → Bool
is_global (Of c) = false
is_global Global = true

-- Whether the tag is that of this PCID.
abbrev pub is_of : (pcid : ℕ) → Tag → Bool
is_of pcid (Of c) = pcid == c
is_of pcid Global = false

-- Whether the item is a TLB item of a page in which the position lies, with L levels.
abbrev pub is_page_at : (L position : ℕ) → Cached → Bool
is_page_at L p (Table t) = false
is_page_at L p (Page w) = begins w.path (page_path L p)

-- Whether what is due is a page in which the position lies, with L levels.
abbrev pub is_due_at : (L position : ℕ) → Due → Bool
is_due_at L p (PageDue q frame) = begins q (page_path L p)
is_due_at L p (TablesDue freed) = false
is_due_at L p WindowDue = false
is_due_at L p (BelowDue q) = false

-- Whether an item with a tag may be left after a flush, while the PCID `current` is current. INVLPG drops
-- the TLB items of the address and all items of tables, of the current PCID and of global translations.
-- INVPCID of an address drops the page there, of its PCID alone, and isn't counted on to drop tables.
abbrev pub is_left : (L current : ℕ) → TaggedFlush → Tag → Cached → Bool
is_left L current (Invlpg p) tag c = cond (is_current current tag) (one.survives L (one.Invlpg p) c) true
is_left L current (InvpcidAddress pcid p) tag c = not (is_of pcid tag && is_page_at L p c)
is_left L current (InvpcidContext pcid) tag c = not (is_of pcid tag)
is_left L current InvpcidAll tag c = false
is_left L current InvpcidAllButGlobal tag c = is_global tag

-- Whether something that is due for the items with a tag is due no longer after a flush, while the PCID
-- `current` is current.
abbrev pub is_settled : (L current : ℕ) → TaggedFlush → Tag → Due → Bool
is_settled L current (Invlpg p) tag due = is_current current tag && one.settles L (one.Invlpg p) due
is_settled L current (InvpcidAddress pcid p) tag due = is_of pcid tag && is_due_at L p due
is_settled L current (InvpcidContext pcid) tag due = is_of pcid tag
is_settled L current InvpcidAll tag due = true
is_settled L current InvpcidAllButGlobal tag due = not (is_global tag)

-- Whether items with a tag may be left after a load of CR3 with this PCID. If bit 63 of the loaded value is
-- set, all may. If not, or without PCIDs, all items of this PCID are dropped, but no global translation.
abbrev pub is_left_by_load : (pcid : ℕ) → (keeps : Bool) → Tag → Bool
is_left_by_load pcid true tag = true
is_left_by_load pcid false tag = not (is_of pcid tag)
