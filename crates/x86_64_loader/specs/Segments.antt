-- Segments of a program and what it means to load them: consecutive pages of 4KiB are mapped to consecutive frames.
use Rattle.std.specs.Prelude.{◌≡◌, ◌+◌, ◌-◌, ◌*◌, ◌/◌, ◌%◌, ◌^◌, ◌<◌, ◌≤◌, ◌==◌, nat_lt, ℕ, true, cond, List, ◌∷◌, ◌++◌, length, map, take, flat_map, get_or, Some}
use Rattle.std.specs.List.{All, AllByRecursion, range_with_len, sum_by}
use Rattle.x86_64_model.specs.Arrivals.{NoWorse}
use Rattle.x86_64_model.specs.Entry.{present, writable, user}
use Rattle.x86_64_model.specs.Hierarchy.{Hierarchy, ArrivesIn, IsMappedAs, paths, walk}
use Rattle.x86_64_model.specs.PageMappings.{PageMapping, IsUnmapped, entry_path}
use Rattle.x86_64_model.specs.PageWalk.{Walked}
use Rattle.x86_64_model.specs.Position.{span}
use Rattle.x86_64_tables.specs.MapperAnswers.{map_refusal}
use Rattle.x86_64_tables.specs.PageTableFlags.{bits_of}
use Rattle.x86_64_loader.specs.declared.segment.Segment.{Segment}
use Rattle.x86_64_loader.specs.declared.segment.LoadError.{LoadError}
use Rattle.x86_64_loader.specs.Maps.{Refuses}
use Rattle.x86_64_loader.specs.Pages.{MayBeMapped}

-- The number of bytes of a segment, each of whose pages has 4KiB.
abbrev pub size_of : Segment → ℕ
size_of s = s.pages * 0x1000

-- Each page of the segment may be mapped to its frame with its flags, which have PRESENT.
pub record IsAllowed {Lent : Type 0} (h : Hierarchy Lent) (s : Segment) : Type 0 where
  pub is_present : present (bits_of s.flags) ≡ true
  pub each_page : (k : ℕ) → k < s.pages → MayBeMapped h 1 0x1000 s.page s.frame (bits_of s.flags) k

-- The last of the segment's pages of 4KiB exists, if it has any pages.
abbrev pub IsInside : Segment → Type 0
IsInside s = 0 < s.pages → s.page + (s.pages - 1) * 0x1000 < 2 ^ 48

-- The position (an address counted without the gap) lies in the segment.
abbrev pub Has : Segment → (position : ℕ) → Type 0
Has s p = (s.page ≤ p) × (p < s.page + size_of s)

-- No two of the first `count` segments have a position in common.
abbrev pub SegmentsAreApart : List Segment → (count : ℕ) → Type 0
SegmentsAreApart segments n = (i j : ℕ) (d : Segment) → i < j → j < n → (p : ℕ) → Has (get_or segments i d) p → Has (get_or segments j d) p → ⊥

-- No two of the segments have a position in common.
abbrev pub Disjoint : List Segment → Type 0
Disjoint segments = SegmentsAreApart segments (length segments)

-- ---- the pages with which a segment is mapped

-- A page of a level, to be mapped to a frame with these flags.
abbrev pub page_mapping : (level page frame flags : ℕ) → PageMapping
page_mapping level page frame given = record { level = level; page = page; frame = frame; flags = given }

-- Consecutive pages of a level from a page on, to be mapped to the frames from a frame on with equal flags.
abbrev pub run_of : (level page frame flags count : ℕ) → List PageMapping
run_of level page frame given count = map (λ k. page_mapping level (page + k * span level) (frame + k * span level) given) (range_with_len 0 count)

-- Consecutive pages of a level, from the segment's 4KiB page with the number `first` on, with the segment's frames and flags.
abbrev pub pages_of_part : (level : ℕ) → Segment → (first count : ℕ) → List PageMapping
pages_of_part level s first count = run_of level (s.page + first * 0x1000) (s.frame + first * 0x1000) (bits_of s.flags) count

-- The pages with which a segment is mapped if all of them have 4KiB.
abbrev pub small_pages : Segment → List PageMapping
small_pages s = pages_of_part 1 s 0 s.pages

-- The number of 4KiB pages before the first of 2MiB: all of the segment, if page and frame have different offsets in their 2MiB
-- pages.
abbrev pub count_before : Segment → ℕ
count_before s = let number = s.page / 0x1000 % 512 in let before = (512 - number) % 512 in
    cond (s.frame / 0x1000 % 512 == number) (cond (nat_lt before s.pages) before s.pages) s.pages

-- The number of 2MiB pages with which a segment is mapped, if large pages are used.
abbrev pub count_large : Segment → ℕ
count_large s = (s.pages - count_before s) / 512

-- The pages with which a segment is mapped if large pages are used. They are pages of 2MiB where page and frame start at a
-- multiple of 2MiB and enough of the segment is left, and pages of 4KiB before and after them.
abbrev pub large_pages : Segment → List PageMapping
large_pages s = let first = count_before s in let behind = first + count_large s * 512 in
    pages_of_part 1 s 0 first ++ (pages_of_part 2 s first (count_large s) ++ pages_of_part 1 s behind (s.pages - behind))

-- ---- the effect of a load

-- Each of these pages stands (is mapped as `map_to` maps it).
abbrev pub AllStand : {Lent : Type 0} → Hierarchy Lent → List PageMapping → Type 0
AllStand h pages = AllByRecursion (λ x. IsMappedAs h x.level x.page x.frame x.flags) pages

-- The segment starts at the start of a page, its positions exist, and its pages stand, so each is mapped with all of its flags.
-- The page walk of each of its addresses arrives at the first frame's start plus the offset in the segment, with the rights to
-- write and of user code that its flags have.
pub record IsLoaded {Lent : Type 0} (pages_of : Segment → List PageMapping) (h : Hierarchy Lent) (s : Segment) : Type 0 where
  pub aligned : s.page % 0x1000 ≡ 0
  pub there : (offset : ℕ) → offset < size_of s → s.page + offset < 2 ^ 48
  pub stand : AllStand h (pages_of s)
  pub arrives : ArrivesIn h (size_of s) s.page s.frame (bits_of s.flags)

-- The page walk of this offset in the segment arrives at the first frame's start plus the offset, with at least the rights of the
-- segment's flags.
abbrev pub ReachesAt : {Lent : Type 0} → Hierarchy Lent → Segment → (offset : ℕ) → Type 0
ReachesAt h s o = (walked : Walked) × (walk h (s.page + o) ≡ Some walked)
    × NoWorse (record { address = s.frame + o; write = writable (bits_of s.flags); user = user (bits_of s.flags) }) walked

-- The page walk of each of the first `size` offsets in the segment arrives where it should, with no right missing.
abbrev pub SegmentIsReached : {Lent : Type 0} → Hierarchy Lent → Segment → (size : ℕ) → Type 0
SegmentIsReached h s size = (offset : ℕ) → offset < size → ReachesAt h s offset

-- The load was refused at a page of the segment. All maps before were accepted, and the last map was the one of this page, which
-- was refused for the reason reported. The segments before are reached, and so are the pages of this segment before the page.
pub record IsRefusedAt {Lent : Type 0} (pages_of : Segment → List PageMapping) (h : Hierarchy Lent) (supply : List ℕ) (segments : List Segment) (error : LoadError) (after : Hierarchy Lent) (rest : List ℕ) (s : Segment) : Type 0 where
  pub there : error.segment < length segments
  pub is_segment : s ≡ get_or segments error.segment s
  pub before : List PageMapping
  pub next : PageMapping
  pub left : List PageMapping
  pub pages : pages_of s ≡ before ++ next ∷ left
  pub page : error.page ≡ next.page
  pub mapped : next.page ≡ s.page + error.mapped * 0x1000
  pub within : error.mapped < s.pages
  pub refused : Refuses h supply (flat_map pages_of (take error.segment segments) ++ before) next (map_refusal error.why) after rest
  pub segments_before : (i : ℕ) (d : Segment) → i < error.segment → SegmentIsReached after (get_or segments i d) (size_of (get_or segments i d))
  pub pages_before : SegmentIsReached after s (error.mapped * 0x1000)

-- The load was refused at a page of one of the segments, as the error names both.
abbrev pub LoadIsRefused : {Lent : Type 0} → (pages_of : Segment → List PageMapping) → Hierarchy Lent → (supply : List ℕ) → List Segment → LoadError → (after : Hierarchy Lent) → (rest : List ℕ) → Type 0
LoadIsRefused pages_of h supply segments error after rest = (s : Segment) × IsRefusedAt pages_of h supply segments error after rest s

-- ---- the number of frames that suffices

-- The number of entries of a level on the paths to the segment's pages of 4KiB, if it has any pages.
abbrev pub entries_of : Segment → (level : ℕ) → ℕ
entries_of s level = (s.page + (s.pages - 1) * 0x1000) / span level - s.page / span level + 1

-- The number of tables below the root on the paths to the segment's pages of 4KiB, with four levels.
abbrev pub table_estimate : Segment → ℕ
table_estimate s = cond (s.pages == 0) 0 (entries_of s 4 + entries_of s 3 + entries_of s 2)

-- A number of frames that is enough to load the segments: one for each table on the paths to a segment's pages. A table for two
-- segments counts twice.
abbrev pub frames_for : List Segment → ℕ
frames_for segments = sum_by table_estimate segments

-- Nothing is mapped in the way of the pages, no two segments overlap, and there are enough frames.
pub record Suffices {Lent : Type 0} (pages_of : Segment → List PageMapping) (h : Hierarchy Lent) (supply : List ℕ) (segments : List Segment) : Type 0 where
  pub unmapped : All (λ s. AllByRecursion (λ x. IsUnmapped (paths h) (entry_path h.layout.levels x)) (pages_of s)) segments
  pub disjoint : Disjoint segments
  pub frames : frames_for segments ≤ length supply
