-- The search for the next page of a range, from table to table.
use Rattle.std.specs.Prelude.{◌≡◌, ◌≢◌, ◌⊎◌, ◌<◌, ◌≤◌, ◌+◌, ◌-◌, ◌%◌, ◌==◌, ◌&&◌, nat_le, ℕ, Bool, true, false, not, cond, Option, Some, None, Result, Ok, Err}
use Rattle.x86_64_live.specs.PageRanges.{HasNoPage, is_page}
use Rattle.x86_64_live.specs.declared.ranges.RangeEnd.{RangeEnd}
use Rattle.x86_64_live.specs.declared.ranges.RangeEnd.TheVariants.{All, More, LargerPage}
use Rattle.x86_64_live.specs.declared.ranges.search.Cursor.{Cursor}
use Rattle.x86_64_live.specs.declared.ranges.search.Spot.{Spot}
use Rattle.x86_64_live.specs.declared.ranges.search.Wanted.{Wanted}
use Rattle.x86_64_live.specs.declared.ranges.search.Wanted.TheVariants.{Used, Present}
use Rattle.x86_64_mappers.specs.Layouts.{direct_at}
use Rattle.x86_64_model.specs.Entry.{present, used, huge, names_table, address}
use Rattle.x86_64_model.specs.Hierarchy.{◌laid_in◌, Valid, paths}
use Rattle.x86_64_model.specs.Memory.{Memory, Places}
use Rattle.x86_64_model.specs.Path.{path_at}
use Rattle.x86_64_model.specs.PathMap.{PathMap, entry, table_at}
use Rattle.x86_64_model.specs.Position.{span, index, position_count}

-- Whether a word is a wanted one.
abbrev pub wanted_by : Wanted → ℕ → Bool
wanted_by Used = used
wanted_by Present = present

-- The frame holds the table of a level on the way to a position.
pub record IsOnWay (L root : ℕ) (M : PathMap) (position level frame : ℕ) : Type 0 where
  pub low : 1 ≤ level
  pub high : level ≤ L
  pub leads : table_at L root M (path_at L (level + 1) position) ≡ Some frame

-- The spot's word is the entry of its level on the way to its position, in its table.
pub record IsSpot (L root : ℕ) (M : PathMap) (s : Spot) : Type 0 where
  pub way : IsOnWay L root M s.position s.level s.frame
  pub reads : entry M (path_at L s.level s.position) ≡ s.word

-- Whether a word of a level names a table.
abbrev pub leads_down : (level word : ℕ) → Bool
leads_down level e = not (level == 1) && names_table e

-- The table below a spot, if its word names one.
abbrev pub below_of : Spot → Option Cursor
below_of s = cond (leads_down s.level s.word) (Some (record { position = s.position; frame = address s.word; level = s.level - 1 })) None

-- A look down from a cursor arrives at a spot on the way, in each valid hierarchy of the memory in which the cursor is on the way.
abbrev pub LooksDown : (L : ℕ) → Places → Memory → Cursor → Spot → Type 0
LooksDown L places m c s = (root : ℕ) → let h = direct_at L places root laid_in m in Valid h → IsOnWay L root (paths h) c.position c.level c.frame → IsSpot L root (paths h) s

-- The way to the cursor's position starts at the root, or goes on in a table of this level in a frame, since the position isn't the
-- table's first.
abbrev pub StartsAt : (L root frame level : ℕ) → Cursor → Type 0
StartsAt L root frame level c = ((c.frame ≡ root) × (c.level ≡ L)) ⊎ ((c.frame ≡ frame) × ((c.level ≡ level) × (index level c.position ≢ 0)))

-- The first wanted page from a position on, with a position before `end`, is at this spot, to which the relation holds.
pub record IsFirstPage (L root : ℕ) (wanted : ℕ → Bool) (M : PathMap) (from end : ℕ) (s : Spot) (relation : Bool) : Type 0 where
  pub after : from ≤ s.position
  pub before : s.position < end
  pub none : HasNoPage L wanted M from s.position
  pub spot : IsSpot L root M s
  pub aligned : s.position % 4096 ≡ 0
  pub page : is_page wanted s.level s.word ≡ true
  pub is : (s.position % span s.level == 0) && nat_le (s.position + span s.level) end ≡ relation

-- What a search from a position on finds, up to but excluding `end`: the spot of a page, or why there is none.
abbrev pub SearchFinds : {Levels : Type 0} → (L root : ℕ) → (wanted : ℕ → Bool) → PathMap → (from end : ℕ) → Result Spot (RangeEnd Levels) → Type 0
SearchFinds L root wanted M from end (Ok s) = IsFirstPage L root wanted M from end s true
SearchFinds L root wanted M from end (Err All) = HasNoPage L wanted M from end
SearchFinds L root wanted M from end (Err (More next)) = ⊥
SearchFinds L root wanted M from end (Err (LargerPage next)) = (s : Spot) × (s.position ≡ next) × IsFirstPage L root wanted M from end s false

-- The position is one of the range from `first` up to `end`, or `end`, and a multiple of 4KiB. It is `first` if the range is empty.
pub record IsWithin (first end position : ℕ) : Type 0 where
  pub from : first ≤ position
  pub to : (position ≤ end) ⊎ (position ≡ first)
  pub aligned : position % 4096 ≡ 0

-- At all positions from one on the two path maps have the same entries.
abbrev pub AreAlikeFrom : (L : ℕ) → (M N : PathMap) → (from : ℕ) → Type 0
AreAlikeFrom L M N from = (x level : ℕ) → from ≤ x → x < position_count L → 1 ≤ level → level ≤ L → entry N (path_at L level x) ≡ entry M (path_at L level x)

-- What words of larger pages become is 0 or the word of a larger page again.
abbrev pub KeepPages : (next : ℕ → ℕ) → Type 0
KeepPages next = (e : ℕ) → huge e ≡ true → (next e ≡ 0) ⊎ (huge (next e) ≡ true)
