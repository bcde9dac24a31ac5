-- Ranges of pages of all sizes: which entries of pages lie in them, and what is done with these.
use Rattle.std.specs.Prelude.{◌≡◌, ◌⊎◌, ◌<◌, ◌≤◌, ◌+◌, ◌*◌, ◌/◌, ◌%◌, ◌==◌, ◌&&◌, ◌||◌, ◌++◌, ℕ, Bool, true, false, cond, List, [], ◌∷◌, length, map, drop, Option, Some, None, bit_and}
use Rattle.std.specs.List.{filter_map, flat_map}
use Rattle.x86_64_live.specs.declared.ranges.PageWord.{PageWord}
use Rattle.x86_64_live.specs.declared.ranges.RangeEnd.{RangeEnd}
use Rattle.x86_64_live.specs.declared.ranges.RangeEnd.TheVariants.{All, More, LargerPage}
use Rattle.x86_64_live.specs.declared.ranges.RangeSeen.{RangeSeen}
use Rattle.x86_64_live.specs.declared.ranges.RangeStop.{RangeStop}
use Rattle.x86_64_live.specs.declared.ranges.RangeStop.TheVariants as stop
use Rattle.x86_64_model.specs.Entry.{huge}
use Rattle.x86_64_model.specs.Hierarchy.{◌laid_in◌, PoolFits}
use Rattle.x86_64_model.specs.Laws.Live.{IsLiveAfter}
use Rattle.x86_64_model.specs.Layout.{Layout}
use Rattle.x86_64_model.specs.Live.{Happening, Exchanges}
use Rattle.x86_64_model.specs.Memory.{Memory}
use Rattle.x86_64_model.specs.Path.{path_at}
use Rattle.x86_64_model.specs.PathMap.{PathMap, entry}
use Rattle.x86_64_model.specs.Position.{span, raw}
use Rattle.x86_64_model.specs.Range.{exclusive_range}

-- ---- pages

-- The entry of a page: the position at which the page starts (the number of an address counted without the gap), its level and its word.
pub record PageEntry : Type 0 where
  pub start : ℕ
  pub level : ℕ
  pub word : ℕ

-- Whether an entry of a level is the entry of a page, and its word is a wanted one: it is of level one, or has HUGE_PAGE.
abbrev pub is_page : (wanted : ℕ → Bool) → (level entry : ℕ) → Bool
is_page wanted level e = wanted e && ((level == 1) || huge e)

-- The wanted page of a level that starts at a position, if there is one.
abbrev pub page_entry_at : (L : ℕ) → (wanted : ℕ → Bool) → PathMap → (position level : ℕ) → Option PageEntry
page_entry_at L wanted M x level = let e = entry M (path_at L level x) in
    cond ((x % span level == 0) && is_page wanted level e) (Some (record { start = x; level = level; word = e })) None

-- The wanted pages that start at a position, of 4KiB, 2MiB or 1GiB. A valid hierarchy has at most one.
abbrev pub pages_at : (L : ℕ) → (wanted : ℕ → Bool) → PathMap → (position : ℕ) → List PageEntry
pages_at L wanted M x = filter_map (page_entry_at L wanted M x) (1 ∷ 2 ∷ 3 ∷ [])

-- The wanted pages that start at the positions from `first` up to but excluding `next`, in order.
unfoldable pub page_entries : (L : ℕ) → (wanted : ℕ → Bool) → PathMap → (first next : ℕ) → List PageEntry
page_entries L wanted M first next = flat_map (pages_at L wanted M) (exclusive_range 4096 first next)

-- The page of a level that has a position lies in the positions from `first` up to but excluding `next`.
abbrev pub LiesIn : (first next level position : ℕ) → Type 0
LiesIn first next level x = (first ≤ x / span level * span level) × (x / span level * span level + span level ≤ next)

-- Each wanted page that has a position from `first` up to but excluding `next` lies there as a whole.
abbrev pub AllWhole : (L : ℕ) → (wanted : ℕ → Bool) → PathMap → (first next : ℕ) → Type 0
AllWhole L wanted M first next = (x level : ℕ) → first ≤ x → x < next → 1 ≤ level → level ≤ 3
    → is_page wanted level (entry M (path_at L level x)) ≡ true → LiesIn first next level x

-- No position from p up to but excluding q is one of a wanted page.
abbrev pub HasNoPage : (L : ℕ) → (wanted : ℕ → Bool) → PathMap → (p q : ℕ) → Type 0
HasNoPage L wanted M p q = (x level : ℕ) → p ≤ x → x < q → 1 ≤ level → level ≤ 3 → is_page wanted level (entry M (path_at L level x)) ≡ false

-- ---- why a range ends

-- The position up to which a range from `first` to the page at `last` came.
abbrev pub reached : {Levels : Type 0} → (last : ℕ) → RangeEnd Levels → ℕ
reached last All = last + 4096
reached last (More next) = next
reached last (LargerPage next) = next

-- The position at which a range goes on, if not all pages are there.
abbrev pub goes_on_at : {Levels : Type 0} → RangeEnd Levels → Option ℕ
goes_on_at All = None
goes_on_at (More next) = Some next
goes_on_at (LargerPage next) = Some next

-- Why a range ends, without the page.
abbrev pub stop_of : {Levels : Type 0} → RangeEnd Levels → RangeStop
stop_of All = stop.All
stop_of (More next) = stop.More
stop_of (LargerPage next) = stop.LargerPage

-- At the position `next` of the range from `first` to the page at `last` there is a wanted page of a level, which has this relation to
-- the range.
pub record HasPageAt (L : ℕ) (wanted : ℕ → Bool) (M : PathMap) (first last next : ℕ) (Relation : (level : ℕ) → Type 0) : Type 0 where
  pub from : first ≤ next
  pub to : next ≤ last
  pub level : ℕ
  pub low : 1 ≤ level
  pub high : level ≤ 3
  pub page : is_page wanted level (entry M (path_at L level next)) ≡ true
  pub is : Relation level

-- At the position `next` of the range from `first` to the page at `last` there is a wanted page that is larger and lies only partly in
-- the range.
abbrev pub StopsAtLarger : (L : ℕ) → (wanted : ℕ → Bool) → PathMap → (first last next : ℕ) → Type 0
StopsAtLarger L wanted M first last next =
    HasPageAt L wanted M first last next (λ level. (next / span level * span level < first) ⊎ (last + 4096 < next / span level * span level + span level))

-- Why a range ends, with so many places in the array and so many pages in it: all pages are there, or the array is full and the next
-- page lies in the range, or the next page is larger and lies only partly in the range.
abbrev pub EndsFor : {Levels : Type 0} → (L : ℕ) → (wanted : ℕ → Bool) → PathMap → (first last places count : ℕ) → RangeEnd Levels → Type 0
EndsFor L wanted M first last places count All = Unit {0}
EndsFor L wanted M first last places count (More next) = (count ≡ places)
    × HasPageAt L wanted M first last next (λ level. (next % span level ≡ 0) × (next + span level ≤ last + 4096))
EndsFor L wanted M first last places count (LargerPage next) = StopsAtLarger L wanted M first last next

-- ---- what a range sees and changes

-- A page as it is told: its address, its size in bytes and its word.
abbrev pub told : (L : ℕ) → PageEntry → PageWord
told L p = record { page = raw L p.start; size = span p.level; word = p.word }

-- An array got the wanted pages of a path map that start at the positions from `first` up to but excluding `next`, in order and
-- counted, and keeps what it held behind them. No wanted page lies there only partly.
pub record ListsPages (L : ℕ) (wanted : ℕ → Bool) (M : PathMap) (first next count : ℕ) (before after : List PageWord) : Type 0 where
  pub number : count ≡ length (page_entries L wanted M first next)
  pub array : after ≡ map (told L) (page_entries L wanted M first next) ++ drop count before
  pub whole : AllWhole L wanted M first next

-- The array gets the wanted pages of a path map from the page at `first` to the page at `last`, up to where the range ends.
pub record SeesPages {Levels : Type 0} (L : ℕ) (wanted : ℕ → Bool) (M : PathMap) (first last : ℕ) (before after : List PageWord) (seen : RangeSeen Levels) : Type 0 where
  pub listed : ListsPages L wanted M first (reached last seen.end) seen.count before after
  pub end : EndsFor L wanted M first last (length before) seen.count seen.end

-- The exchange of a page's entry, by which its word becomes another one.
abbrev pub exchange_of : (L : ℕ) → (next : ℕ → ℕ) → PageEntry → Happening
exchange_of L next p = Exchanges (path_at L p.level p.start) next

-- From the memory m to the memory n the entries of these pages were exchanged, in order, and nothing else has changed. So the hierarchy
-- has the same tables, and any pool fits that did.
abbrev pub ExchangesPages : Layout → (next : ℕ → ℕ) → List PageEntry → (m n : Memory) → Type 0
ExchangesPages l next pages m n = (serves : ℕ → Bool) (pool : List ℕ) → PoolFits (l laid_in m) serves pool
    → IsLiveAfter l serves pool m (map (exchange_of l.levels next) pages) n

-- Whether masks change flags alone: the bits that are kept have HUGE_PAGE and all bits of the address, and those that are set have
-- none of these.
abbrev pub are_flag_masks : (keep set : ℕ) → Bool
are_flag_masks keep set = (bit_and keep 0x000f_ffff_ffff_f080 == 0x000f_ffff_ffff_f080) && (bit_and set 0x000f_ffff_ffff_f080 == 0)
