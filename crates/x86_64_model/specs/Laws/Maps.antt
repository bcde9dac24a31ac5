-- Laws of map calls.
use Rattle.std.specs.Prelude.{◌≡◌, ◌⊎◌, ◌<◌, ◌≤◌, ◌+◌, ◌-◌, ◌*◌, ◌^◌, ◌%◌, ℕ, true, false, List, [], ◌∷◌, ◌++◌, length, take, Option, Some}
use Rattle.std.specs.List.{AllByRecursion}
use Rattle.x86_64_model.specs.Lists.{In}
use Rattle.x86_64_model.specs.Position.{span, page_path}
use Rattle.x86_64_model.specs.Entry.{IsParentFlags, has, used, writable, user, address}
use Rattle.x86_64_model.specs.Path.{parents, path_at}
use Rattle.x86_64_model.specs.PathMap.{PathMap, entry}
use Rattle.x86_64_model.specs.Memory.{Words}
use Rattle.x86_64_model.specs.Validity.{Holds}
use Rattle.x86_64_model.specs.Window.{Window, begins_with, IsValidFor}
use Rattle.x86_64_model.specs.PageWalk.{page_walk}
use Rattle.x86_64_model.specs.Refusal.{Refusal, Done, Refused}
use Rattle.x86_64_model.specs.MapRule.{map_rule, map_call, parent_part}
use Rattle.x86_64_model.specs.private.WalkDown.{walk_down}
use Rattle.x86_64_model.specs.Conserved.{IsFrame, Conserves, Takes}
use Rattle.x86_64_model.specs.Arrivals.{Arrives, Asks}

-- A map that walks down the parents of a page, one at a time, has the outcome of the rule of maps.
abbrev pub WalkedDown : Type 0
WalkedDown = (L : ℕ) (T : Words) (root : ℕ) (M : PathMap) → Holds L T root M → (supply : List ℕ) (more added : ℕ) (q : List ℕ) (e frame : ℕ)
    → walk_down more added q e frame M supply (parents q) ≡ map_rule M supply more added (parents q) q e frame

-- ---- walks after a map

-- The words T hold the hierarchy before a map call, and the words U hold what its rule leaves.
pub record IsMapOf (L : ℕ) (window : Option Window) (T U : Words) (root : ℕ) (M : PathMap) (supply : List ℕ) (more added : ℕ) (q : List ℕ) (frame given : ℕ) : Type 0 where
  pub before : IsValidFor L window T root M
  pub after : IsValidFor L window U root (map_call L M supply more added q frame given).paths

-- Whatever a map call answers, each page walk that arrived still arrives at the same address, loses no right, and gains only rights
-- that the parent flags grant.
abbrev pub MapKeepsWalks : Type 0
MapKeepsWalks = (L : ℕ) (window : Option Window) (T U : Words) (root : ℕ) (M : PathMap) (supply : List ℕ) (more added : ℕ) (q : List ℕ) (frame given : ℕ)
    → IsParentFlags more → IsMapOf L window T U root M supply more added q frame given
    → (p : ℕ) → Arrives more (page_walk L T root p) (page_walk L U root p)

-- A `map_to` with PRESENT of a page outside the recursive window, from a supply of frames (those to hand out, in order), was
-- accepted. The words T hold the hierarchy before it, and the words U the one after it.
pub record IsAccepted (L level : ℕ) (window : Option Window) (T U : Words) (root : ℕ) (M : PathMap) (supply : List ℕ) (added : ℕ) (q : List ℕ) (frame given : ℕ) : Type 0 where
  pub asks : Asks L level q frame given
  pub adds : IsParentFlags added
  pub outside : begins_with window q ≡ false
  pub frames : AllByRecursion IsFrame supply
  pub words : IsMapOf L window T U root M supply (parent_part given) added q frame given
  pub answer : (map_call L M supply (parent_part given) added q frame given).answer ≡ Done frame

-- After an accepted `map_to` with PRESENT of a page outside the recursive window, the page walk at each position of the page (the
-- number of an address counted without the non-canonical gap) arrives at the frame's start plus the offset, with exactly the
-- requested rights to write and of user mode.
abbrev pub MapArrives : Type 0
MapArrives = (L level : ℕ) (window : Option Window) (T U : Words) (root : ℕ) (M : PathMap) (supply : List ℕ) (added : ℕ) (q : List ℕ) (frame given : ℕ)
    → IsAccepted L level window T U root M supply added q frame given → (p : ℕ) → take (length q) (page_path L p) ≡ q
    → page_walk L U root p ≡ Some (record { address = frame + p % span level; write = writable given; user = user given })

-- After an accepted `map_to` with PRESENT of a page outside the recursive window that starts at a multiple of its size, the page
-- walk at each offset of the page arrives at the frame's start plus the offset, with exactly the requested rights to write and of
-- user mode.
abbrev pub MapArrivesInPage : Type 0
MapArrivesInPage = (L level : ℕ) (window : Option Window) (T U : Words) (root : ℕ) (M : PathMap) (supply : List ℕ) (added n frame given : ℕ)
    → let page = n * span level in IsAccepted L level window T U root M supply added (path_at L level page) frame given
    → (offset : ℕ) → offset < span level
    → page_walk L U root (page + offset) ≡ Some (record { address = frame + offset; write = writable given; user = user given })

-- ---- frames

-- A map call conserves frames: the set of free and table frames stays the same, and if each frame had one use before, it has one
-- use after.
abbrev pub MapConserves : Type 0
MapConserves = (L : ℕ) (T : Words) (root : ℕ) (M : PathMap) (supply : List ℕ) (more added i : ℕ) (q : List ℕ) (frame given : ℕ)
    → IsParentFlags more → IsParentFlags added → AllByRecursion IsFrame supply → length (i ∷ q) ≤ L → Holds L T root M
    → Conserves L root M supply (map_call L M supply more added (i ∷ q) frame given).paths (map_call L M supply more added (i ∷ q) frame given).supply

-- A map call takes the first frames of the supply, at most one for each level above the first: three with four levels.
abbrev pub MapTakesFew : Type 0
MapTakesFew = (L : ℕ) (T : Words) (root : ℕ) (M : PathMap) (supply : List ℕ) (more added : ℕ) (q : List ℕ) (frame given : ℕ) → length q ≤ L → Holds L T root M
    → Takes supply (map_call L M supply more added q frame given).supply (L - 1)

-- ---- a refused map

-- From the path map M to the path map N, as after a refused map of the page at path q, used entries keep their addresses. Entries
-- change only at the page's parents, and the flags of used ones only grow, by the parent flags. Entries that are used below a new
-- table are parents of the page.
pub record LeftByRefused (more : ℕ) (M N : PathMap) (q : List ℕ) : Type 0 where
  pub same_addresses : (r : List ℕ) → used (entry M r) ≡ true → address (entry N r) ≡ address (entry M r)
  pub flags_kept : (r : List ℕ) (flag : ℕ) → used (entry M r) ≡ true → has (entry M r) flag ≡ true → has (entry N r) flag ≡ true
  pub flags_gained : (r : List ℕ) (k : ℕ) → used (entry M r) ≡ true → has (entry N r) (2 ^ k) ≡ true → (has (entry M r) (2 ^ k) ≡ true) ⊎ (has more (2 ^ k) ≡ true)
  pub off_path : (r : List ℕ) → (In (parents q) r → ⊥) → entry N r ≡ entry M r
  pub new_tables : (i : ℕ) (r : List ℕ) (j : ℕ) → used (entry M (i ∷ r)) ≡ false → used (entry N (i ∷ r ++ j ∷ [])) ≡ true → In (parents q) (i ∷ r ++ j ∷ [])

-- A refused map changes only entries at the page's parents: used ones keep their addresses and gain at most the parent flags, and
-- unused ones may become tables.
abbrev pub RefusedMaps : Type 0
RefusedMaps = (L : ℕ) (window : Option Window) (T : Words) (root : ℕ) (M : PathMap) (supply : List ℕ) (more added : ℕ) (q : List ℕ) (frame given : ℕ)
    → IsValidFor L window T root M → IsParentFlags more
    → (why : Refusal) → (map_call L M supply more added q frame given).answer ≡ Refused why → LeftByRefused more M (map_call L M supply more added q frame given).paths q
