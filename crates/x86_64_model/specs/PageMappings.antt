-- Lists of pages to map one after another: which page, to which frame, with which flags.
use Rattle.std.specs.Prelude.{◌≡◌, ◌+◌, ◌<◌, ◌≤◌, ℕ, false, List, [], ◌∷◌, map}
use Rattle.std.specs.List.{AllByRecursion}
use Rattle.x86_64_model.specs.Call.{Call, MapTo, Reply, Answered}
use Rattle.x86_64_model.specs.Entry.{used, huge}
use Rattle.x86_64_model.specs.Path.{parents, path_at}
use Rattle.x86_64_model.specs.PathMap.{PathMap, entry}
use Rattle.x86_64_model.specs.Position.{span}
use Rattle.x86_64_model.specs.Refusal.{Done}

-- A page of a level, by its first position (the number of an address counted without the gap), to be mapped to a frame with these
-- flags.
pub record PageMapping : Type 0 where
  pub level : ℕ
  pub page : ℕ
  pub frame : ℕ
  pub flags : ℕ

-- The path of the entry that maps the page, with L levels.
abbrev pub entry_path : (L : ℕ) → PageMapping → List ℕ
entry_path L x = path_at L x.level x.page

-- The call of `map_to` that maps the page.
abbrev pub map_call_of : PageMapping → Call
map_call_of x = MapTo x.level x.page x.frame x.flags

-- The calls of `map_to` that map these pages, one call for each page, in order.
abbrev pub map_calls : List PageMapping → List Call
map_calls xs = map map_call_of xs

-- The reply to the page's `map_to` if it is accepted: done, with the page's frame.
abbrev pub accepted : PageMapping → Reply
accepted x = Answered (Done x.frame)

-- The entry at a path is unused, and none of its parents is huge.
pub record IsUnmapped (paths : PathMap) (q : List ℕ) : Type 0 where
  pub unused : used (entry paths q) ≡ false
  pub none_huge : AllByRecursion (λ p. huge (entry paths p) ≡ false) (parents q)

-- No position lies in both pages.
abbrev pub AreApart : PageMapping → PageMapping → Type 0
AreApart x y = (p : ℕ) → x.page ≤ p → p < x.page + span x.level → y.page ≤ p → p < y.page + span y.level → ⊥

-- No position lies in two of the pages of the list.
abbrev pub EachApart : List PageMapping → Type 0
EachApart [] = Unit {0}
EachApart (x ∷ xs) = AllByRecursion (AreApart x) xs × EachApart xs
