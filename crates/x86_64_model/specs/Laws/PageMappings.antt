-- Laws of pages that are mapped one after another.
use Rattle.std.specs.Prelude.{◌≡◌, ◌<◌, ◌≤◌, ◌%◌, ℕ, Bool, true, false, List, [], ◌∷◌, None, length, map}
use Rattle.std.specs.List.{AllByRecursion}
use Rattle.x86_64_model.specs.Allowed.{allowed}
use Rattle.x86_64_model.specs.Arrivals.{Asks}
use Rattle.x86_64_model.specs.Call.{Answered}
use Rattle.x86_64_model.specs.Entry.{used, present}
use Rattle.x86_64_model.specs.Laws.Steps.{FitsState}
use Rattle.x86_64_model.specs.Laws.Worked.{nothing_mapped, four_frames}
use Rattle.x86_64_model.specs.Lists.{In}
use Rattle.x86_64_model.specs.Machine.{Machine, IsMachine, State, replies_of, state_after}
use Rattle.x86_64_model.specs.Memory.{Words}
use Rattle.x86_64_model.specs.PageMappings.{PageMapping, IsUnmapped, EachApart, entry_path, map_call_of, map_calls, accepted}
use Rattle.x86_64_model.specs.Path.{parents}
use Rattle.x86_64_model.specs.PathMap.{PathMap, entry}
use Rattle.x86_64_model.specs.Position.{span, position_count}
use Rattle.x86_64_model.specs.Refusal.{Done}
use Rattle.x86_64_model.specs.Standing.{IsMappedIn}

-- The page starts at a position (the number of an address counted without the gap) that is a multiple of its size, may be mapped
-- with PRESENT, and isn't mapped.
pub record IsMappable (m : Machine) (paths : PathMap) (x : PageMapping) : Type 0 where
  pub low : 1 ≤ x.level
  pub high : x.level ≤ 3
  pub levels : x.level ≤ m.levels
  pub multiple : x.page % span x.level ≡ 0
  pub inside : x.page < position_count m.levels
  pub is_present : present x.flags ≡ true
  pub unmapped : IsUnmapped paths (entry_path m.levels x)
  pub allowed : allowed m.levels m.window paths (map_call_of x) ≡ true

-- Each parent of the page that has no entry is among these paths.
abbrev pub HasMissing : (L : ℕ) → PathMap → (tables : List (List ℕ)) → PageMapping → Type 0
HasMissing L paths tables x = AllByRecursion (λ p. used (entry paths p) ≡ false → In tables p) (parents (entry_path L x))

-- Unmapped pages that may be mapped with PRESENT and lie apart from each other are all mapped, if the pool has a frame for each
-- table that is missing on their paths.
abbrev pub MappingsSucceed : Type 0
MappingsSucceed = (m : Machine) → IsMachine m → (T : Words) (root : ℕ) (serves : ℕ → Bool) (s : State) → FitsState m T root serves s
    → (xs : List PageMapping) → AllByRecursion (IsMappable m s.paths) xs → EachApart xs
    → (tables : List (List ℕ)) → AllByRecursion (HasMissing m.levels s.paths tables) xs → length tables ≤ length s.pool
    → replies_of m s (map_calls xs) ≡ map accepted xs

-- ---- pages that stand

-- The request of the page's `map_to`: flags with PRESENT, and a frame of the page's size.
abbrev pub AsksFor : (L : ℕ) → PageMapping → Type 0
AsksFor L x = Asks L x.level (entry_path L x) x.frame x.flags

-- If pages are all mapped with PRESENT, one after another, each of them stands afterwards, and so does each page that stood
-- before. A page stands if its entry is the one that `map_to` writes, below parents that name tables and have its parent flags.
abbrev pub MappingsStand : Type 0
MappingsStand = (m : Machine) → IsMachine m → (T : Words) (root : ℕ) (serves : ℕ → Bool) (s : State) → FitsState m T root serves s
    → (xs : List PageMapping) → AllByRecursion (AsksFor m.levels) xs → replies_of m s (map_calls xs) ≡ map accepted xs
    → let after = (state_after m s (map_calls xs)).paths in
    AllByRecursion (λ x. IsMappedIn m.levels x.level after (entry_path m.levels x) x.frame x.flags) xs
    × ((level : ℕ) (page : List ℕ) (frame flags : ℕ) → IsMappedIn m.levels level s.paths page frame flags → IsMappedIn m.levels level after page frame flags)

-- ---- two pages, with four levels, from an empty root and four free frames

-- The machine with four levels, without a recursive index or added flags. Its pool puts a returned frame at the front.
abbrev pub four_levels : Machine
four_levels = record { levels = 4; window = None; added_flags = 0; take_back = λ held f. f ∷ held }

-- The state of an empty root, with four free frames.
abbrev pub nothing_yet : State
nothing_yet = record { paths = nothing_mapped; pool = four_frames }

-- A 4KiB page to be mapped with PRESENT and WRITABLE, and a 2MiB page to be mapped with PRESENT.
abbrev pub two_pages : List PageMapping
two_pages = record { level = 1; page = 0x1000; frame = 0x6000; flags = 3 } ∷ record { level = 2; page = 0x20_0000; frame = 0x40_0000; flags = 1 } ∷ []

-- The paths of three tables: those that an empty root lacks for the 4KiB page at 0x1000 and the 2MiB page at 0x20_0000.
abbrev pub their_tables : List (List ℕ)
their_tables = (0 ∷ []) ∷ (0 ∷ 0 ∷ []) ∷ (0 ∷ 0 ∷ 0 ∷ []) ∷ []

-- With four levels, an empty root and four free frames, a 4KiB page and a 2MiB page meet the premises of the laws of pages that
-- are mapped one after another, and both are mapped.
pub record TwoPagesMapped : Type 0 where
  pub machine : IsMachine four_levels
  pub fits : (T : Words) × FitsState four_levels T 0x1000 (λ f. true) nothing_yet
  pub mappable : AllByRecursion (IsMappable four_levels nothing_mapped) two_pages
  pub apart : EachApart two_pages
  pub tables : AllByRecursion (HasMissing 4 nothing_mapped their_tables) two_pages
  pub asks : AllByRecursion (AsksFor 4) two_pages
  pub replies : replies_of four_levels nothing_yet (map_calls two_pages) ≡ Answered (Done 0x6000) ∷ Answered (Done 0x40_0000) ∷ []
