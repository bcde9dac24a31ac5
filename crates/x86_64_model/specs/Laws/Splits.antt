-- Laws of a table of smaller pages in the place of a larger page, and of a larger page in the place of such
-- a table.
use Rattle.std.specs.Prelude.{suc, ◌≡◌, ◌≢◌, ◌<◌, ◌≤◌, ◌+◌, ◌*◌, ◌-◌, ◌%◌, ◌&&◌, not, ℕ, Bool, true, false, List, [], ◌∷◌, ◌++◌, length, get_or, Option, option_map, bit_or, bit_and, cond}
use Rattle.std.specs.FinMap.{insert}
use Rattle.x86_64_model.specs.Caches.{PartialWalk}
use Rattle.x86_64_model.specs.Caches as caches
use Rattle.x86_64_model.specs.Entry.{present, writable, user, huge, no_execute, address, is_frame, names_table, has, flags}
use Rattle.x86_64_model.specs.Laws.EntriesInPlace.{IsInPlace, with_word}
use Rattle.x86_64_model.specs.Layout.{Layout}
use Rattle.x86_64_model.specs.Hierarchy.{◌laid_in◌, PoolFits, paths, words}
use Rattle.x86_64_model.specs.Mappings.{Rights, maps_page}
use Rattle.x86_64_model.specs.Memory.{Memory, Words, IsMapping}
use Rattle.x86_64_model.specs.PageWalk.{page_start, page_walk}
use Rattle.x86_64_model.specs.Path.{level_of}
use Rattle.x86_64_model.specs.PathMap.{PathMap, entry}
use Rattle.x86_64_model.specs.Pool.{TakesBack}
use Rattle.x86_64_model.specs.Position.{span, page_path}
use Rattle.x86_64_model.specs.Store.{KeepsPool}
use Rattle.x86_64_model.specs.Window.{begins_with}

-- ---- parts of a page

-- Where an access arrives: the address, and the rights that all words on the way grant.
pub record Arrival : Type 0 where
  pub address : ℕ
  pub rights : Rights

-- Where an access at position p arrives over the words of a way that leads to a page, with L levels.
abbrev pub arrival_of_way : (L p : ℕ) → PartialWalk → Arrival
arrival_of_way L p w = record { address = w.frame + p % span (level_of L w.path); rights = w.rights }

-- Where an access at position p (the number of an address counted without the gap of the address space)
-- arrives by a walk from the root, without any cache, None if it arrives nowhere.
abbrev pub arrival_at : (L : ℕ) → Words → (root p : ℕ) → Option Arrival
arrival_at L tables root p = option_map (arrival_of_way L p) (caches.walk_with_rights L tables root p)

-- The words of a table of this level are the parts of a page that the entry e of the level above maps: word
-- j maps the part at index j of its 512 parts of equal size. Below the entry t, which names the table, each
-- grants what e grants.
pub record AreParts (level e t : ℕ) (part : ℕ → ℕ) : Type 0 where
  pub pages : (j : ℕ) → j < 512 → maps_page level (part j) ≡ true
  pub frames : (j : ℕ) → j < 512 → page_start level (part j) ≡ page_start (suc level) e + j * span level
  pub present : (j : ℕ) → j < 512 → present (part j) ≡ present e
  pub write : (j : ℕ) → j < 512 → (writable t && writable (part j)) ≡ writable e
  pub user : (j : ℕ) → j < 512 → (user t && user (part j)) ≡ user e
  pub execute : (j : ℕ) → j < 512 → (not (no_execute t) && not (no_execute (part j))) ≡ not (no_execute e)

-- The entry e at a path maps a 2MiB or 1GiB page, t names the table in a frame and is present, and the
-- words of this table are the parts of the page.
pub record IsInParts (L : ℕ) (path : List ℕ) (e t frame : ℕ) (part : ℕ → ℕ) : Type 0 where
  pub at_least : 2 ≤ level_of L path
  pub at_most : level_of L path ≤ 3
  pub is_page : huge e ≡ true
  pub is_table : names_table t ≡ true
  pub is_present : present t ≡ true
  pub names : address t ≡ frame
  pub parts : AreParts (L - length path) e t part

-- ---- split

-- The memory after a table is written into a frame, and then named by a word of another frame.
abbrev pub split_memory : Layout → Memory → (frame : ℕ) → (table : List ℕ) → (above i entry : ℕ) → Memory
split_memory l m g table f i t = with_word l (insert m (l.places.place g) table) f i t

-- The path map N has t at the path, the parts directly below it, and is as M elsewhere.
pub record HasParts (path : List ℕ) (t : ℕ) (part : ℕ → ℕ) (M N : PathMap) : Type 0 where
  pub itself : entry N path ≡ t
  pub below : (j : ℕ) → j < 512 → entry N (path ++ j ∷ []) ≡ part j
  pub elsewhere : (q : List ℕ) → q ≢ path → ((j : ℕ) → q ≢ path ++ j ∷ []) → entry N q ≡ entry M q

-- A kernel may split a 2MiB or 1GiB page into 512 smaller ones, in a frame from its pool: it writes the
-- table, and then the entry. Each walk arrives as before, with the same rights, outside the recursive
-- window.
abbrev pub PagesMayBeSplit : Type 0
PagesMayBeSplit = (l : Layout) → IsMapping l.places → 0 < l.levels
    → (serves : ℕ → Bool) (m : Memory) (g : ℕ) (rest : List ℕ) → PoolFits (l laid_in m) serves (g ∷ rest)
    → (q : List ℕ) (f i t : ℕ) (table : List ℕ) → IsInPlace l m q f i → length table ≡ 512
    → IsInParts l.levels q (entry (paths (l laid_in m)) q) t g (λ j. get_or table j 0)
    → let n = split_memory l m g table f i t in
    KeepsPool l serves m (g ∷ rest) n rest
    × HasParts q t (λ j. get_or table j 0) (paths (l laid_in m)) (paths (l laid_in n))
    × ((p : ℕ) → begins_with l.window (page_path l.levels p) ≡ false
    → arrival_at l.levels (words (l laid_in n)) l.root p ≡ arrival_at l.levels (words (l laid_in m)) l.root p)

-- ---- join

-- The path map N has e at the path and no entry directly below it, and is as M elsewhere.
pub record IsJoined (path : List ℕ) (e : ℕ) (M N : PathMap) : Type 0 where
  pub itself : entry N path ≡ e
  pub below : (j : ℕ) → entry N (path ++ j ∷ []) ≡ 0
  pub elsewhere : (q : List ℕ) → q ≢ path → ((j : ℕ) → q ≢ path ++ j ∷ []) → entry N q ≡ entry M q

-- A kernel may join 512 pages that are the parts of a larger one, by one write. Each walk arrives as
-- before, with the same rights, outside the recursive window. The frame of their table goes back to the
-- pool. Caches may name it until tables are flushed.
abbrev pub PagesMayBeJoined : Type 0
PagesMayBeJoined = (l : Layout) → IsMapping l.places → 0 < l.levels
    → (serves : ℕ → Bool) (m : Memory) (pool : List ℕ) → PoolFits (l laid_in m) serves pool
    → (take_back : List ℕ → ℕ → List ℕ) → TakesBack take_back
    → (q : List ℕ) (f i e g : ℕ) → IsInPlace l m q f i
    → IsInParts l.levels q e (entry (paths (l laid_in m)) q) g
    (λ j. entry (paths (l laid_in m)) (q ++ j ∷ []))
    → let n = with_word l m f i e in
    KeepsPool l serves m pool n (take_back pool g) × IsJoined q e (paths (l laid_in m)) (paths (l laid_in n))
    × ((p : ℕ) → begins_with l.window (page_path l.levels p) ≡ false
    → arrival_at l.levels (words (l laid_in n)) l.root p ≡ arrival_at l.levels (words (l laid_in m)) l.root p)

-- ---- which words

-- The j-th part of a 2MiB page, as the entry of a 4KiB page: bit 12, the PAT bit of the larger page, is bit
-- 7 there. HUGE_PAGE goes.
abbrev pub part_of_2mib : (entry j : ℕ) → ℕ
part_of_2mib e j = bit_or (page_start 2 e + j * span 1)
    (bit_or (bit_and e 0xfff0_0000_0000_0f7f) (cond (has e 0x1000) 0x80 0))

-- The j-th part of a 1GiB page, as the entry of a 2MiB page, with all flags. The PAT bit, bit 12, is left
-- out.
abbrev pub part_of_1gib : (entry j : ℕ) → ℕ
part_of_1gib e j = bit_or (page_start 3 e + j * span 2) (flags e)

-- The entry of a table takes no right from the entries below it: it has WRITABLE and USER_ACCESSIBLE, and
-- lacks NO_EXECUTE.
pub record AllowsAll (t : ℕ) : Type 0 where
  pub write : writable t ≡ true
  pub user : user t ≡ true
  pub execute : no_execute t ≡ false

-- The words of `part_of_2mib` are the parts of a 2MiB page, and those of `part_of_1gib` the parts of a 1GiB
-- page whose PAT bit, bit 12, is clear, both below a table's entry that takes no right from them.
abbrev pub PagesHaveParts : Type 0
PagesHaveParts = (e t : ℕ) (part : ℕ → ℕ) → AllowsAll t
    → (((j : ℕ) → j < 512 → part j ≡ part_of_2mib e j) → AreParts 1 e t part)
    × (huge e ≡ true → has e 0x1000 ≡ false → ((j : ℕ) → j < 512 → part j ≡ part_of_1gib e j)
    → AreParts 2 e t part)

-- ---- and the page walk

-- The page walk arrives where an access without any cache arrives, with its rights to write and of user
-- mode.
abbrev pub ArrivalsSayWalks : Type 0
ArrivalsSayWalks = (L : ℕ) (T : Words) (root p : ℕ)
    → page_walk L T root p ≡ option_map
    (λ a. record { address = a.address; write = a.rights.write; user = a.rights.user }) (arrival_at L T root p)

-- A table with the words of `part_of_2mib` has the parts of each 2MiB page, and one with those of
-- `part_of_1gib` the parts of each 1GiB page whose PAT bit is clear. The table may be in any frame, and its
-- entry has PRESENT, WRITABLE and USER_ACCESSIBLE.
abbrev pub LargePagesHaveTables : Type 0
LargePagesHaveTables = (L : ℕ) (q : List ℕ) (e g : ℕ) (table : List ℕ) → is_frame g ≡ true → huge e ≡ true
    → (level_of L q ≡ 2 → ((j : ℕ) → j < 512 → get_or table j 0 ≡ part_of_2mib e j)
    → IsInParts L q e (bit_or g 0x7) g (λ j. get_or table j 0))
    × (level_of L q ≡ 3 → has e 0x1000 ≡ false → ((j : ℕ) → j < 512 → get_or table j 0 ≡ part_of_1gib e j)
    → IsInParts L q e (bit_or g 0x7) g (λ j. get_or table j 0))
