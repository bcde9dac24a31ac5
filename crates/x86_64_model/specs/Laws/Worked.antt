-- Worked examples of the definitions. The root is in frame 0x1000, and there are four levels unless an example says otherwise.
use Rattle.std.specs.Prelude.{◌≡◌, ℕ, ◌==◌, nat_lt, true, false, if◌then◌else◌, List, [], ◌∷◌, replicate, Option, Some, None}
use Rattle.std.specs.FinMap.{empty, insert}
use Rattle.std.specs.Ordering.{nat_cmp}
use Rattle.x86_64_model.specs.PathMap.{PathMap, put}
use Rattle.x86_64_model.specs.Memory.{Words, Memory, words_of, identity_places}
use Rattle.x86_64_model.specs.Validity.{IsValid}
use Rattle.x86_64_model.specs.Window.{Window, entry_at}
use Rattle.x86_64_model.specs.PageWalk.{page_walk}
use Rattle.x86_64_model.specs.Translation.{translate, Mapped}
use Rattle.x86_64_model.specs.Refusal.{Done, Refused, PageNotMapped, ParentEntryHugePage, FrameAllocationFailed}
use Rattle.x86_64_model.specs.MapRule.{map_call}
use Rattle.x86_64_model.specs.PageRules.{unmap, update_flags, translate_page, set_flags}
use Rattle.x86_64_model.specs.Pool.{Fits}
use Rattle.x86_64_model.specs.Alike.{Alike}

-- The path map of an empty root.
unfoldable pub nothing_mapped : PathMap
nothing_mapped = empty

-- A supply of three free frames.
abbrev pub three_frames : List ℕ
three_frames = 0x2000 ∷ 0x3000 ∷ 0x4000 ∷ []

-- ---- the 4KiB page 0x1000 is mapped to frame 0x5000 with PRESENT and WRITABLE

-- The path map with four levels in which the 4KiB page 0x1000 is mapped to frame 0x5000 with PRESENT and WRITABLE, by three
-- tables in frames 0x2000, 0x3000 and 0x4000.
unfoldable pub small_mapped : PathMap
small_mapped = put (put (put (put nothing_mapped (0 ∷ []) 0x2003) (0 ∷ 0 ∷ []) 0x3003) (0 ∷ 0 ∷ 0 ∷ []) 0x4003) (0 ∷ 0 ∷ 0 ∷ 1 ∷ []) 0x5003

-- The page tables of `small_mapped` as the words of a memory, with the root in frame 0x1000.
unfoldable pub small_memory : Memory
small_memory = insert (insert (insert (insert (empty {X = List ℕ} {R = nat_cmp})
    1 (0x2003 ∷ replicate 511 0)) 2 (0x3003 ∷ replicate 511 0)) 3 (0x4003 ∷ replicate 511 0)) 4 (0 ∷ 0x5003 ∷ replicate 510 0)

-- With four levels, a map of the 4KiB page 0x1000 to frame 0x5000 with PRESENT and WRITABLE turns an empty root into
-- `small_mapped` and takes three frames. At 0x1abc `translate` returns this frame with offset 0xabc, and the page walk arrives
-- at 0x5abc.
pub record SmallMap : Type 0 where
  pub left : map_call 4 nothing_mapped three_frames 3 0 (0 ∷ 0 ∷ 0 ∷ 1 ∷ []) 0x5000 3 ≡ record { paths = small_mapped; supply = []; answer = Done 0x5000 }
  pub translated : translate 4 (entry_at None small_mapped) 0x1abc ≡ Mapped 0x1000 0x5000 0xabc 3
  pub walked : page_walk 4 (words_of small_memory identity_places) 0x1000 0x1abc ≡ Some (record { address = 0x5abc; write = true; user = false })

-- If the flags of the mapped 4KiB page 0x1000 become WRITABLE alone, `translate` still names the page, and the page walk
-- doesn't arrive.
pub record PageWithoutPresent : Type 0 where
  pub left : update_flags 4 (entry_at None small_mapped) small_mapped (0 ∷ 0 ∷ 0 ∷ 1 ∷ []) 2
      ≡ record { paths = put small_mapped (0 ∷ 0 ∷ 0 ∷ 1 ∷ []) 0x5002; answer = Done 0x5000 }
  pub translated : translate 4 (entry_at None (put small_mapped (0 ∷ 0 ∷ 0 ∷ 1 ∷ []) 0x5002)) 0x1000 ≡ Mapped 0x1000 0x5000 0 2
  pub walked : page_walk 4 (words_of (insert small_memory 4 (0 ∷ 0x5002 ∷ replicate 510 0)) identity_places) 0x1000 0x1000 ≡ None

-- ---- the 2MiB page 0x20_0000 is mapped to frame 0x40_0000 with PRESENT

-- The path map with four levels in which the 2MiB page 0x20_0000 is mapped to frame 0x40_0000 with PRESENT, by two tables in
-- frames 0x2000 and 0x3000.
unfoldable pub large_mapped : PathMap
large_mapped = put (put (put nothing_mapped (0 ∷ []) 0x2001) (0 ∷ 0 ∷ []) 0x3001) (0 ∷ 0 ∷ 1 ∷ []) 0x400081

-- With four levels, a map of the 2MiB page 0x20_0000 to frame 0x40_0000 with PRESENT turns an empty root into `large_mapped`
-- and takes two of three frames. At 0x23_4567 `translate` returns this frame with offset 0x3_4567.
pub record LargeMap : Type 0 where
  pub left : map_call 4 nothing_mapped three_frames 1 0 (0 ∷ 0 ∷ 1 ∷ []) 0x400000 1 ≡ record { paths = large_mapped; supply = 0x4000 ∷ []; answer = Done 0x400000 }
  pub translated : translate 4 (entry_at None large_mapped) 0x23_4567 ≡ Mapped 0x20_0000 0x400000 0x34567 0x81

-- With four levels, a map of a 4KiB page below the 2MiB page of `large_mapped` is refused. The parent flags are added to the
-- entries above, also to the huge one.
abbrev pub MapBelowHuge : Type 0
MapBelowHuge = map_call 4 large_mapped (0x4000 ∷ []) 3 0 (0 ∷ 0 ∷ 1 ∷ 1 ∷ []) 0x9000 3
    ≡ record { paths = put (put (put large_mapped (0 ∷ []) 0x2003) (0 ∷ 0 ∷ []) 0x3003) (0 ∷ 0 ∷ 1 ∷ []) 0x400083; supply = 0x4000 ∷ []; answer = Refused ParentEntryHugePage }

-- ---- an image in which two words of the root name one table

-- The words of frames below 0x8000, in which the first two words of the root, in frame 0x1000, name one table, in frame 0x2000.
-- All other words are 0.
unfoldable pub shared_table_image : Words
shared_table_image = λ f. if f == 0x1000 then Some (0x2003 ∷ 0x2002 ∷ replicate 510 0) else (if nat_lt f 0x8000 then Some (replicate 512 0) else None)

-- No path map makes `shared_table_image` a valid hierarchy, since two words of its root name one table.
abbrev pub SharedTableIsInvalid : Type 0
SharedTableIsInvalid = (M : PathMap) → IsValid 4 shared_table_image 0x1000 M → ⊥

-- ---- the same pages with five levels

-- A supply of four free frames.
abbrev pub four_frames : List ℕ
four_frames = 0x2000 ∷ 0x3000 ∷ 0x4000 ∷ 0x5000 ∷ []

-- The path map of three tables, each named by the first entry of the one above, the first of them by that of the root. They are
-- in frames 0x2000, 0x3000 and 0x4000.
unfoldable pub three_tables : PathMap
three_tables = put (put (put nothing_mapped (0 ∷ []) 0x2003) (0 ∷ 0 ∷ []) 0x3003) (0 ∷ 0 ∷ 0 ∷ []) 0x4003

-- The path map with five levels in which the 4KiB page 0x1000 is mapped to frame 0x6000 with PRESENT and WRITABLE, by four
-- tables in frames 0x2000 to 0x5000.
unfoldable pub small_mapped_5 : PathMap
small_mapped_5 = put (put three_tables (0 ∷ 0 ∷ 0 ∷ 0 ∷ []) 0x5003) (0 ∷ 0 ∷ 0 ∷ 0 ∷ 1 ∷ []) 0x6003

-- The page tables of `small_mapped_5` as the words of a memory, with the root in frame 0x1000.
unfoldable pub small_memory_5 : Memory
small_memory_5 = insert (insert (insert (insert (insert (empty {X = List ℕ} {R = nat_cmp}) 1 (0x2003 ∷ replicate 511 0)) 2 (0x3003 ∷ replicate 511 0))
    3 (0x4003 ∷ replicate 511 0)) 4 (0x5003 ∷ replicate 511 0)) 5 (0 ∷ 0x6003 ∷ replicate 510 0)

-- With five levels, a map of the 4KiB page 0x1000 to frame 0x6000 with PRESENT and WRITABLE turns an empty root into
-- `small_mapped_5` and takes four frames. At 0x1abc `translate` returns this frame with offset 0xabc, and the page walk arrives
-- at 0x6abc. With three frames the map is refused, and leaves three tables.
pub record SmallMapFive : Type 0 where
  pub left : map_call 5 nothing_mapped four_frames 3 0 (0 ∷ 0 ∷ 0 ∷ 0 ∷ 1 ∷ []) 0x6000 3
      ≡ record { paths = small_mapped_5; supply = []; answer = Done 0x6000 }
  pub translated : translate 5 (entry_at None small_mapped_5) 0x1abc ≡ Mapped 0x1000 0x6000 0xabc 3
  pub walked : page_walk 5 (words_of small_memory_5 identity_places) 0x1000 0x1abc ≡ Some (record { address = 0x6abc; write = true; user = false })
  pub short_of_frames : map_call 5 nothing_mapped three_frames 3 0 (0 ∷ 0 ∷ 0 ∷ 0 ∷ 1 ∷ []) 0x6000 3
      ≡ record { paths = three_tables; supply = []; answer = Refused FrameAllocationFailed }

-- The path map with five levels in which the 2MiB page 0x20_0000 is mapped to frame 0x40_0000 with PRESENT, by three tables in
-- frames 0x2000, 0x3000 and 0x4000.
unfoldable pub large_mapped_5 : PathMap
large_mapped_5 = put (put (put (put nothing_mapped (0 ∷ []) 0x2001) (0 ∷ 0 ∷ []) 0x3001) (0 ∷ 0 ∷ 0 ∷ []) 0x4001) (0 ∷ 0 ∷ 0 ∷ 1 ∷ []) 0x400081

-- With five levels, a map of the 2MiB page 0x20_0000 to frame 0x40_0000 with PRESENT turns an empty root into `large_mapped_5`
-- and takes three of four frames.
abbrev pub LargeMapFive : Type 0
LargeMapFive = map_call 5 nothing_mapped four_frames 1 0 (0 ∷ 0 ∷ 0 ∷ 1 ∷ []) 0x400000 1
    ≡ record { paths = large_mapped_5; supply = 0x5000 ∷ []; answer = Done 0x400000 }

-- ---- HUGE_PAGE one level below the root leads to a page with four levels, and nowhere with five

-- The memory of a root in frame 0x1000 whose first word names a table in frame 0x2000. The first word of this table has
-- HUGE_PAGE, PRESENT and WRITABLE, and address 0.
unfoldable pub huge_memory : Memory
huge_memory = insert (insert (empty {X = List ℕ} {R = nat_cmp}) 1 (0x2003 ∷ replicate 511 0)) 2 (0x83 ∷ replicate 511 0)

-- A word with HUGE_PAGE one level below the root leads the page walk to a 1GiB page with four levels, and nowhere with five.
pub record HugeBelowTheRoot : Type 0 where
  pub four_levels : page_walk 4 (words_of huge_memory identity_places) 0x1000 0x1abc ≡ Some (record { address = 0x1abc; write = true; user = false })
  pub five_levels : page_walk 5 (words_of huge_memory identity_places) 0x1000 0x1abc ≡ None

-- ---- if several refusals apply, the first in order is answered, and nothing changes

-- The path map of three tables and the 4KiB page 0x1000, whose entry has HUGE_PAGE and lacks PRESENT.
unfoldable pub huge_page_absent : PathMap
huge_page_absent = put three_tables (0 ∷ 0 ∷ 0 ∷ 1 ∷ []) 0x5080

-- The path map of a huge entry of level three, below a table that the root names without PRESENT.
unfoldable pub huge_below_absent : PathMap
huge_below_absent = put (put nothing_mapped (0 ∷ []) 0x2002) (0 ∷ 0 ∷ []) 0x4000_0083

-- The path map of a huge entry of level three without PRESENT, below a table.
unfoldable pub huge_absent : PathMap
huge_absent = put (put nothing_mapped (0 ∷ []) 0x2003) (0 ∷ 0 ∷ []) 0x4000_0080

-- With four levels, if several refusals of a call apply, the first in order is answered, and nothing changes.
pub record FirstRefusals : Type 0 where
  -- A page without PRESENT isn't mapped, even with HUGE_PAGE.
  pub unmap_absent : unmap 4 (entry_at None huge_page_absent) huge_page_absent (0 ∷ 0 ∷ 0 ∷ 1 ∷ [])
      ≡ record { paths = huge_page_absent; answer = Refused PageNotMapped }
  -- An entry that names a table instead of a 2MiB page is refused as a table, whatever its address.
  pub unmap_table : unmap 4 (entry_at None three_tables) three_tables (0 ∷ 0 ∷ 0 ∷ [])
      ≡ record { paths = three_tables; answer = Refused ParentEntryHugePage }
  -- An unused 2MiB page isn't mapped, and has no address that could be refused.
  pub translate_unused : translate_page 4 (entry_at None three_tables) (0 ∷ 0 ∷ 1 ∷ []) ≡ Refused PageNotMapped
  -- A parent refuses before the page's own entry does: a 4KiB page below a huge entry of 2MiB.
  pub parent_first : unmap 4 (entry_at None large_mapped) large_mapped (0 ∷ 0 ∷ 1 ∷ 1 ∷ [])
      ≡ record { paths = large_mapped; answer = Refused ParentEntryHugePage }
  -- Of several parents that could refuse, the shortest one does.
  pub shortest_parent : unmap 4 (entry_at None huge_below_absent) huge_below_absent (0 ∷ 0 ∷ 0 ∷ [])
      ≡ record { paths = huge_below_absent; answer = Refused PageNotMapped }
  -- Nothing is mapped below a parent without PRESENT, even if it has HUGE_PAGE.
  pub absent_parent : unmap 4 (entry_at None huge_absent) huge_absent (0 ∷ 0 ∷ 0 ∷ [])
      ≡ record { paths = huge_absent; answer = Refused PageNotMapped }
  -- A level that isn't above the page's own is refused, even if nothing is mapped.
  pub level_first : set_flags 4 (entry_at None nothing_mapped) nothing_mapped 2 (0 ∷ 0 ∷ 0 ∷ []) 3
      ≡ record { paths = nothing_mapped; answer = Refused ParentEntryHugePage }

-- ---- path maps that differ in WRITABLE

-- The path map of the 4KiB page 0x1000 with this entry, below tables without WRITABLE.
unfoldable pub plain_tables : (page_entry : ℕ) → PathMap
plain_tables e = put (put (put (put nothing_mapped (0 ∷ []) 0x2001) (0 ∷ 0 ∷ []) 0x3001) (0 ∷ 0 ∷ 0 ∷ []) 0x4001) (0 ∷ 0 ∷ 0 ∷ 1 ∷ []) e

-- The path map of the 4KiB page 0x1000 with this entry, below tables with WRITABLE.
unfoldable pub writable_tables : (page_entry : ℕ) → PathMap
writable_tables e = put (put (put (put nothing_mapped (0 ∷ []) 0x2003) (0 ∷ 0 ∷ []) 0x3003) (0 ∷ 0 ∷ 0 ∷ []) 0x4003) (0 ∷ 0 ∷ 0 ∷ 1 ∷ []) e

-- Two path maps with one page, below tables without and with WRITABLE, are alike if the page's own entries are equal, and not
-- if these differ in WRITABLE.
pub record AlikeButForTables : Type 0 where
  pub alike : Alike 4 (plain_tables 0x5001) (writable_tables 0x5001)
  pub not_alike : Alike 4 (plain_tables 0x5003) (writable_tables 0x5001) → ⊥

-- ---- the premises of the laws can be met, with any number of levels, with and without a recursive index

-- The recursive index 510, whose self-entry names the root in frame 0x1000, with PRESENT and WRITABLE.
abbrev pub self_window : Window
self_window = record { index = 510; self_entry = 0x1003 }

-- There are words that are a valid hierarchy of L levels with an empty root in frame 0x1000, and four free frames fit it.
abbrev pub SomeWordsFit : (L : ℕ) → Option Window → Type 0
SomeWordsFit L window = (T : Words) × Fits L window T 0x1000 nothing_mapped (λ f. true) four_frames

-- With any number of levels, with and without a recursive index, there are words of an empty root that four free frames fit. So
-- the premises of the laws can be met.
pub record SomePoolFits : Type 0 where
  pub direct : (L : ℕ) → SomeWordsFit L None
  pub recursive : (L : ℕ) → SomeWordsFit L (Some self_window)
