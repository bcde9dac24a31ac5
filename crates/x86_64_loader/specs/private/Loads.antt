-- The effect of the load of one segment. A page stands if it is mapped as `map_to` maps it.
use Rattle.std.specs.Prelude.{◌≡◌, ◌+◌, ◌*◌, ◌<◌, ◌≤◌, ℕ, List, ◌∷◌, ◌++◌, Result, Ok, Err}
use Rattle.x86_64_model.specs.Hierarchy.{Hierarchy}
use Rattle.x86_64_model.specs.PageMappings.{PageMapping}
use Rattle.x86_64_model.specs.Position.{span}
use Rattle.x86_64_model.specs.Refusal.{Refusal}
use Rattle.x86_64_tables.specs.MapperAnswers.{map_refusal}
use Rattle.x86_64_tables.specs.PageTableFlags.{bits_of}
use Rattle.x86_64_mappers.specs.Supplies.{Supply}
use Rattle.x86_64_loader.specs.declared.loader.Sizes.{Sizes}
use Rattle.x86_64_loader.specs.declared.loader.Sizes.TheVariants as sizes
use Rattle.x86_64_loader.specs.declared.pages.Stopped.{Stopped}
use Rattle.x86_64_loader.specs.declared.segment.Segment.{Segment}
use Rattle.x86_64_loader.specs.private.Held.{IsHeld}
use Rattle.x86_64_loader.specs.Maps.{Accepts, Refuses, KeptWithSupply}
use Rattle.x86_64_loader.specs.Pages.{IsFree, LeavesSupply, RunStands}
use Rattle.x86_64_loader.specs.Segments.{AllStand, ReachesAt, large_pages, page_mapping, run_of, size_of, small_pages}

-- The pages with which a segment is mapped: only those of 4KiB, or those of 2MiB where they fit, too.
abbrev pub pages_by : Sizes → Segment → List PageMapping
pages_by sizes.Small = small_pages
pages_by sizes.Large = large_pages

-- A run of maps stopped after `mapped` pages, at a page that was refused for this reason. The pages before it stand, and pages up
-- to its level that stood still stand.
pub record IsStopped {Lent : Type 0} (h : Hierarchy Lent) (supply : Supply) (level size page frame flags count mapped : ℕ) (why : Refusal) (after : Hierarchy Lent) (rest : Supply) : Type 0 where
  pub within : mapped < count
  pub stand : RunStands after level size page frame flags mapped
  pub leaves : LeavesSupply level h supply after rest
  pub refused : Refuses h supply.frames (run_of level page frame flags mapped) (page_mapping level (page + mapped * span level) (frame + mapped * span level) flags) why after rest.frames

-- The `count` pages of a run are mapped: they stand, no page that stood overlapped them, and what stood still stands.
pub record AreMapped {Lent : Type 0} (h : Hierarchy Lent) (supply : Supply) (level size page frame flags count : ℕ) (after : Hierarchy Lent) (rest : Supply) : Type 0 where
  pub stand : RunStands after level size page frame flags count
  pub were_free : IsFree h page (count * size)
  pub leaves : LeavesSupply 3 h supply after rest
  pub accepted : Accepts h supply.frames (run_of level page frame flags count) after rest.frames

-- The segment's positions from one offset up to another, which isn't included, are held and mapped where they should be.
abbrev pub HoldsPart : {Lent : Type 0} → Hierarchy Lent → Segment → (low high : ℕ) → Type 0
HoldsPart h s low high = (offset : ℕ) → low ≤ offset → offset < high → IsHeld h (s.page + offset) (s.frame + offset) (bits_of s.flags)

-- Each position of the segment is held and mapped where it should be.
abbrev pub HoldsSegment : {Lent : Type 0} → Hierarchy Lent → Segment → Type 0
HoldsSegment h s = HoldsPart h s 0 (size_of s)

-- The load of these pages, which begin at an offset in the segment, was refused for this reason at the segment's 4KiB page with
-- the number `mapped`, counted from 0. The pages before it are reached.
pub record IsHalted {Lent : Type 0} (h : Hierarchy Lent) (supply : Supply) (s : Segment) (pages : List PageMapping) (low mapped : ℕ) (why : Refusal) (after : Hierarchy Lent) (rest : Supply) : Type 0 where
  pub above : low ≤ mapped * 0x1000
  pub within : mapped < s.pages
  pub pages_before : (offset : ℕ) → low ≤ offset → offset < mapped * 0x1000 → ReachesAt after s offset
  pub kept : KeptWithSupply h supply after rest
  pub before : List PageMapping
  pub next : PageMapping
  pub left : List PageMapping
  pub cut : pages ≡ before ++ next ∷ left
  pub page : next.page ≡ s.page + mapped * 0x1000
  pub refused : Refuses h supply.frames before next why after rest.frames

-- These pages, which are `size` bytes of the segment from an offset on, were mapped. They are held, no page that stood overlapped
-- them, and what stood still stands.
pub record SegmentIsMapped {Lent : Type 0} (h : Hierarchy Lent) (supply : Supply) (s : Segment) (pages : List PageMapping) (low size : ℕ) (after : Hierarchy Lent) (rest : Supply) : Type 0 where
  pub held : HoldsPart after s low (low + size)
  pub were_free : IsFree h (s.page + low) size
  pub leaves : LeavesSupply 3 h supply after rest
  pub stand : AllStand after pages
  pub accepted : Accepts h supply.frames pages after rest.frames

-- The effect of a load of these pages, which are `size` bytes of the segment from an offset on, by its result.
abbrev pub LoadsPart : {Lent Value Size : Type 0} → Hierarchy Lent → (supply : Supply) → Segment → List PageMapping → (low size : ℕ) → Result Value (Stopped Size)
    → (after : Hierarchy Lent) → (rest : Supply) → Type 0
LoadsPart h supply s pages low size (Ok _) after rest = SegmentIsMapped h supply s pages low size after rest
LoadsPart h supply s pages low size (Err stopped) after rest = IsHalted h supply s pages low stopped.mapped (map_refusal stopped.why) after rest

-- The effect of the load of a whole segment, by its result.
abbrev pub LoadsSegment : {Lent Value Size : Type 0} → (pages_of : Segment → List PageMapping) → Hierarchy Lent → (supply : Supply) → Segment → Result Value (Stopped Size)
    → (after : Hierarchy Lent) → (rest : Supply) → Type 0
LoadsSegment pages_of h supply s result after rest = LoadsPart h supply s (pages_of s) 0 (size_of s) result after rest
