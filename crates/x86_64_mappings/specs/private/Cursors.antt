-- Where a listing of mappings continues: at a position, with the entries of a table from the one that spans the position on.
use Rattle.std.specs.Prelude.{◌≡◌, ℕ, ◌+◌, ◌-◌, ◌*◌, ◌/◌, ◌<◌, ◌≤◌, ◌==◌, ◌&&◌, Bool, false, cond, List, [], ◌∷◌, length, get_or, Option, Some, None}
use Rattle.x86_64_model.specs.Entry.{present, huge, address}
use Rattle.x86_64_model.specs.Memory.{Words}
use Rattle.x86_64_model.specs.Position.{span, position_count}
use Rattle.x86_64_model.specs.Mappings.{Rights, Mapping, maps_page, mappings_from, mappings_of, granted}
use Rattle.x86_64_tables.specs.declared.page_table.target.EntryTarget.{EntryTarget}
use Rattle.x86_64_tables.specs.declared.page_table.target.EntryTarget.TheVariants.{Table}
use Rattle.x86_64_model.specs.private.Found.{page_at, found_on, found}
use Rattle.x86_64_mappings.specs.declared.listing.cursor.Cursor.{Cursor}

-- The mapping at a position in the span of an entry of a level, below words that grant rights r: the page that the entry maps, or
-- what is found in the table that it names. It is None if nothing is mapped there.
abbrev pub found_by : Words → (position level : ℕ) → Rights → (entry : ℕ) → Option Mapping
found_by T x level r e = cond (present e)
    (cond (maps_page level e) (Some (page_at x level r e)) (cond (huge e) None (found_on T x (level - 1) (granted r e) (address e))))
    None

-- The entries `rest` are of this level, below words that grant rights r, and their spans follow one another within the address
-- space, from the one with the position `next` on. From this position on, what is found below the root at a position in one of
-- these spans is what its entry leads to. There may be no entries.
pub record IsOn (L : ℕ) (T : Words) (root next level : ℕ) (r : Rights) (rest : List ℕ) : Type 0 where
  pub low : 1 ≤ level
  pub high : level ≤ L
  pub inside : next ≤ position_count L
  pub room : next / span level * span level + length rest * span level ≤ position_count L
  pub reads : (i x : ℕ) → i < length rest → next ≤ x → x / span level ≡ next / span level + i → found L T root x ≡ found_by T x level r (get_or rest i 0)

-- The cursor is one of a listing below this root, with L levels of tables: what is found below the root in the spans of its
-- remaining entries, from its position on, is what these entries lead to.
abbrev pub IsCursor : (L : ℕ) → Words → (root : ℕ) → Cursor → Type 0
IsCursor L T root c = IsOn L T root c.next c.level c.rights c.rest.now

-- The mappings below a root with L levels of tables, in order, without those that end before the position `next`.
abbrev pub listed_from : (L : ℕ) → Words → (root next : ℕ) → List Mapping
listed_from L T root next = mappings_from next (mappings_of L T root)

-- The mappings that a listing has yet to return at a cursor: those below the root that don't end before the cursor's position, in
-- order.
abbrev pub to_come : (L : ℕ) → Words → (root : ℕ) → Cursor → List Mapping
to_come L T root c = listed_from L T root c.next

-- The mappings that a listing has yet to return at a cursor are those below the root that don't end before the position `next`: no
-- mapping lies between that position and the cursor's.
abbrev pub ComesFrom : (L : ℕ) → Words → (root next : ℕ) → Cursor → Type 0
ComesFrom L T root next c = listed_from L T root next ≡ to_come L T root c

-- The position at which the span of a level starts that lies `count` spans after the one with the position `next`.
abbrev pub position_past : (level next count : ℕ) → ℕ
position_past level next count = next / span level * span level + count * span level

-- Whether the first remaining entry is of level one and maps a 4KiB page.
abbrev pub small_page_first : (level : ℕ) (rest : List ℕ) → Bool
small_page_first level [] = false
small_page_first level (e ∷ rest) = (level == 1) && present e

-- Whether a listing is at a page or at its end: the first remaining entry maps a page, or no entry remains and all positions of the
-- address space are past.
abbrev pub cursor_is_there : (L next level : ℕ) (rest : List ℕ) → Bool
cursor_is_there L next level [] = next == position_count L
cursor_is_there L next level (e ∷ rest) = present e && maps_page level e

-- A bound on the steps that a listing of mappings takes from a position, with these remaining entries of a level, to the end of the
-- address space.
abbrev pub way_left : (L next level : ℕ) (rest : List ℕ) → ℕ
way_left L next level [] = (position_count L - next) * 8 + 7
way_left L next level (e ∷ rest) = (position_count L - next) * 8 + level

-- The table in the memory that an entry names, by the entry's target, or None if the target is no table or the memory has no table
-- there.
abbrev pub table_by : Words → EntryTarget → Option (List ℕ)
table_by T (Table frame) = T frame
table_by T _ = None

-- A listing of mappings moves by one step from one cursor to another: it stays below the same root, has the same mappings yet to
-- return, and is nearer to its end.
pub record IsStep (L : ℕ) (T : Words) (root : ℕ) (from to : Cursor) : Type 0 where
  pub on : IsCursor L T root to
  pub same : to_come L T root from ≡ to_come L T root to
  pub nearer : way_left L to.next to.level to.rest.now < way_left L from.next from.level from.rest.now
