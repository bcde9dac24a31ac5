-- The way down the parents of a page if no table is created: to the table that their path leads to, or to the first parent that
-- stops it.
use Rattle.std.specs.Prelude.{◌≡◌, ℕ, Bool, not, cond, List, [], ◌∷◌, ◌++◌, Option, Some, None, IsSome, Result, Ok, Err, is_ok}
use Rattle.x86_64_model.specs.Entry.{present, huge, address}
use Rattle.x86_64_model.specs.Layout.{Layout}
use Rattle.x86_64_model.specs.Hierarchy.{◌laid_in◌, read_entry, words}
use Rattle.x86_64_model.specs.Memory.{Memory, word}
use Rattle.x86_64_model.specs.PathMap.{table_of}
use Rattle.x86_64_model.specs.Refusal.{Refusal, ParentEntryHugePage, PageNotMapped, first_stop}

-- The frame of the table that a parent's entry names, or the reason why it isn't a present table entry.
abbrev pub table_below : (entry : ℕ) → Result ℕ Refusal
table_below e = cond (not (present e)) (Err PageNotMapped) (cond (huge e) (Err ParentEntryHugePage) (Ok (address e)))

-- Whether an entry is present and names a table.
abbrev pub leads_to_table : (entry : ℕ) → Bool
leads_to_table e = is_ok (table_below e)

-- The frame of the table that a path leads to, by the entries E at paths, with L levels of tables: the root for the empty path,
-- otherwise the table that the entry at the path's end names, if it does.
abbrev pub table_read : (L root : ℕ) (E : List ℕ → ℕ) → List ℕ → Option ℕ
table_read L root E [] = Some root
table_read L root E (i ∷ q) = table_of L (i ∷ q) (E (i ∷ q))

-- A path leads to the table in a frame, which is in the memory. The entries at the paths one index longer are read in the words of
-- this table.
pub record PathLeadsTo (l : Layout) (m : Memory) (path : List ℕ) (frame : ℕ) : Type 0 where
  pub table : table_read l.levels l.root (read_entry (l laid_in m)) path ≡ Some frame
  pub there : IsSome (words (l laid_in m) frame)
  pub entries : (i : ℕ) → read_entry (l laid_in m) (path ++ i ∷ []) ≡ word (words (l laid_in m)) frame i

-- No entry on the path of a page's parents refuses a page below: each is a present table entry.
abbrev pub NeverStops : Layout → Memory → (path : List ℕ) → Type 0
NeverStops l m path = (last : ℕ) → first_stop (read_entry (l laid_in m)) (path ++ last ∷ []) ≡ None

-- The path of a page's parents leads through present table entries to the table in the frame of the result, or the first parent
-- that isn't one refuses the page for the reason in the result.
abbrev pub IsFound : Layout → Memory → (path : List ℕ) → Result ℕ Refusal → Type 0
IsFound l m path (Ok frame) = PathLeadsTo l m path frame × NeverStops l m path
IsFound l m path (Err why) = (last : ℕ) → first_stop (read_entry (l laid_in m)) (path ++ last ∷ []) ≡ Some why

-- The first entry on a path that isn't a present table entry, the one at the path's end included, refuses each page below the path
-- for this reason.
abbrev pub StopsBelow : Layout → Memory → (path : List ℕ) → Refusal → Type 0
StopsBelow l m path why = (rest : List ℕ) → IsFound l m (path ++ rest) (Err why)
