-- The caches of a processor for one root: the TLB, which holds pages, and the paging-structure caches, which hold tables.
-- Intel SDM vol. 3A, "Caching Translation Information"; AMD APM vol. 2, "Translation-Lookaside Buffer (TLB)".
use Rattle.std.specs.Prelude.{zero, suc, ◌≡◌, ◌⊎◌, ℕ, ◌+◌, ◌-◌, ◌%◌, true, cond, List, [], ◌∷◌, ◌++◌, length, Option, Some, None, option_and_then}
use Rattle.x86_64_model.specs.Lists.{In}
use Rattle.x86_64_model.specs.Position.{span, index, page_path}
use Rattle.x86_64_model.specs.Path.{level_of, begins}
use Rattle.x86_64_model.specs.Entry.{present, huge, address}
use Rattle.x86_64_model.specs.Memory.{Words, word}
use Rattle.x86_64_model.specs.Mappings.{Rights, maps_page, every_right, granted}
use Rattle.x86_64_model.specs.PageWalk.{Walked, page_start}

-- ---- ways

-- Where a page walk has come: the path of the words that it read, the frame of the table or page that they lead to, and the rights
-- that all of them grant.
pub record PartialWalk : Type 0 where
  pub path : List ℕ
  pub frame : ℕ
  pub rights : Rights

-- The start of every page walk: the root's table, with all rights.
abbrev pub start : (root : ℕ) → PartialWalk
start root = record { path = []; frame = root; rights = every_right }

-- The rights r are among the rights s.
pub record AtMost (r s : Rights) : Type 0 where
  pub write : r.write ≡ true → s.write ≡ true
  pub user : r.user ≡ true → s.user ≡ true
  pub execute : r.execute ≡ true → s.execute ≡ true

-- The way that goes on from a table over the entry at index i, to a frame: its path is longer by this index, and its rights are
-- those of the way to the table that the entry grants too.
abbrev pub over : PartialWalk → (i entry frame : ℕ) → PartialWalk
over t i e frame = record { path = t.path ++ i ∷ []; frame = frame; rights = granted t.rights e }

-- ---- items

-- An item that a processor caches: of a paging-structure cache, which names a table, or of the TLB, which names a page.
pub data Cached : Type 0 where
  Table : PartialWalk → Cached
  Page : PartialWalk → Cached

-- The way to the table or page that a cached item names.
abbrev pub way_of : Cached → PartialWalk
way_of (Table t) = t
way_of (Page w) = w

-- The item that a processor may cache of the entry at index i of the table to which way t leads. An entry that maps a page is
-- cached as this page, any other as the table that it names, but not if the entry isn't present, or has HUGE_PAGE above level
-- three.
abbrev pub item_over : (L : ℕ) → PartialWalk → (i entry : ℕ) → Option Cached
item_over L t i e = let level = level_of L (t.path ++ i ∷ []) in
    cond (present e) (cond (maps_page level e) (Some (Page (over t i e (page_start level e)))) (cond (huge e) None (Some (Table (over t i e (address e)))))) None

-- The item that a processor may cache if it reads the word at index i of the table to which way t leads.
abbrev pub cached_item : (L : ℕ) → Words → PartialWalk → (i : ℕ) → Option Cached
cached_item L tables t i = item_over L t i (word tables t.frame i)

-- The processor may read words of the table to which way t leads: it is the root's table, or a cached one.
abbrev pub MayRead : (root : ℕ) → List Cached → PartialWalk → Type 0
MayRead root cache t = (t ≡ start root) ⊎ In cache (Table t)

-- The processor may change its cached items from those before to those after, at any moment: each item after was there before, or
-- is found in a word of the root's table or of a table cached before. A page walk that leaves no items of the tables on its way is
-- one that makes and drops them.
abbrev pub Caches : (L root : ℕ) → Words → (before after : List Cached) → Type 0
Caches L root tables before after = (c : Cached) → In after c
    → In before c ⊎ ((t : PartialWalk) × (i : ℕ) × MayRead root before t × (cached_item L tables t i ≡ Some c))

-- ---- accesses

-- The page to which a page walk leads over a cached item: the item's own page, or from its table the page to which the rest of the
-- walk leads.
abbrev pub then_on : (PartialWalk → Option PartialWalk) → Cached → Option PartialWalk
then_on walk_with_rights (Table t) = walk_with_rights t
then_on walk_with_rights (Page w) = Some w

-- The page to which the rest of the page walk at position p (the number of an address counted without the non-canonical gap) leads,
-- if any, from the table of level n to which way t leads.
unfoldable pub walk_with_rights_from : (L : ℕ) → Words → (p n : ℕ) → PartialWalk → Option PartialWalk
walk_with_rights_from L tables p zero t = None
walk_with_rights_from L tables p (suc n) t = option_and_then (then_on (λ on. walk_with_rights_from L tables p n on)) (cached_item L tables t (index (suc n) p))

-- The page to which the whole page walk at position p leads from the root, if any, without any cache.
abbrev pub walk_with_rights : (L : ℕ) → Words → (root p : ℕ) → Option PartialWalk
walk_with_rights L tables root p = walk_with_rights_from L tables p L (start root)

-- What `page_walk` says of a page: the physical address at position p, with the page's rights to write and of user mode.
abbrev pub walked_in : (L p : ℕ) → PartialWalk → Walked
walked_in L p w = record { address = w.frame + p % span (level_of L w.path); write = w.rights.write; user = w.rights.user }

-- An access at position p may go to this page: it is in the TLB, or the page walk leads to it from the root or from a cached table
-- on the path of p.
abbrev pub MayAccess : (L root : ℕ) → Words → List Cached → (p : ℕ) → (page : PartialWalk) → Type 0
MayAccess L root tables cache p w = (In cache (Page w) × (begins w.path (page_path L p) ≡ true))
    ⊎ ((t : PartialWalk) × MayRead root cache t × (begins t.path (page_path L p) ≡ true) × (walk_with_rights_from L tables p (L - length t.path) t ≡ Some w))
