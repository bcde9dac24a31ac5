-- Mappings: everything that words map below a root. The words are arbitrary, and L is any number of levels.
-- Intel SDM vol. 3A, "4-Level Paging and 5-Level Paging"; AMD APM vol. 2, "Long-Mode Page Translation".
use Rattle.std.specs.Prelude.{ℕ, ◌+◌, ◌-◌, ◌==◌, ◌&&◌, ◌||◌, nat_lt, nat_le, Bool, true, false, not, cond, List, [], ◌∷◌, filter, Option, Some, None, option_and_then, option_map, unwrap_or}
use Rattle.std.specs.List.{filter_map, list_all, last_or}
use Rattle.x86_64_model.specs.Entry.{present, writable, user, huge, no_execute, address, flags}
use Rattle.x86_64_model.specs.Memory.{Words}
use Rattle.x86_64_model.specs.PageWalk.{read, page_start}
use Rattle.x86_64_model.specs.Path.{level_of, span_start, span_size, paths_below}

-- ---- leaves: paths at whose end a page walk arrives

-- The words read along a path from a frame's table down, each but the first in the frame that the word before it names. None if one
-- of these frames isn't in memory.
unfoldable pub words_along : Words → (frame : ℕ) → List ℕ → Option (List ℕ)
words_along tables frame [] = Some []
words_along tables frame (i ∷ q) = option_and_then
    (λ e. option_map (λ below. e ∷ below) (words_along tables (address e) q))
    (read tables frame i)

-- Whether an entry of a level maps a page, if it is present: at level one every entry does, at levels two and three those with
-- HUGE_PAGE.
abbrev pub maps_page : (level entry : ℕ) → Bool
maps_page level e = (level == 1) || (huge e && ((level == 2) || (level == 3)))

-- Whether words along a path, the first of this level and each other of the next lower one, are those of a leaf (lead a page walk
-- to a page): all are present, the last one maps a page, and none before it has HUGE_PAGE.
unfoldable pub is_leaf : (level : ℕ) → (words : List ℕ) → Bool
is_leaf level [] = false
is_leaf level (e ∷ []) = present e && maps_page level e
is_leaf level (e ∷ f ∷ below) = present e && not (huge e) && is_leaf (level - 1) (f ∷ below)

-- ---- mappings

-- The rights to a page that all words on its path grant: to write if each has WRITABLE, of user mode if each has USER_ACCESSIBLE,
-- and to execute if none has NO_EXECUTE.
pub record Rights : Type 0 where
  pub write : Bool
  pub user : Bool
  pub execute : Bool

-- The rights that all these words grant together.
abbrev pub rights_of : (words : List ℕ) → Rights
rights_of words = record {
  write = list_all writable words;
  user = list_all user words;
  execute = list_all (λ e. not (no_execute e)) words;
}

-- All rights, which a page walk has before it reads a word.
abbrev pub every_right : Rights
every_right = record { write = true; user = true; execute = true }

-- The rights r, restricted to those that one more entry grants.
abbrev pub granted : Rights → (entry : ℕ) → Rights
granted r e = record { write = r.write && writable e; user = r.user && user e; execute = r.execute && not (no_execute e) }

-- What a leaf (a path at whose end a page walk arrives) maps: the span of its path, as its first position and its size, with the
-- frame and the flags of the last word, and the rights that all words grant. A position is the number of an address counted without
-- the non-canonical gap.
pub record Mapping : Type 0 where
  pub start : ℕ
  pub size : ℕ
  pub frame : ℕ
  pub flags : ℕ
  pub rights : Rights

-- The last of these words, 0 if there is none.
abbrev pub last_word : (words : List ℕ) → ℕ
last_word words = unwrap_or (last_or None words) 0

-- What a leaf maps in a hierarchy of L levels, by its path and the words along it.
abbrev pub mapping_of : (L : ℕ) (path words : List ℕ) → Mapping
mapping_of L q words = record {
  start = span_start L q;
  size = span_size L q;
  frame = page_start (level_of L q) (last_word words);
  flags = flags (last_word words);
  rights = rights_of words;
}

-- What a path maps in a hierarchy of L levels, by the words along it, if they are those of a leaf (lead a page walk to a page).
unfoldable pub leaf_of : (L : ℕ) (path words : List ℕ) → Option Mapping
leaf_of L q words = cond (is_leaf L words) (Some (mapping_of L q words)) None

-- What a path maps below a root, by the words read along it, if they are those of a leaf (lead a page walk to a page).
unfoldable pub mapping_at : (L : ℕ) → Words → (root : ℕ) (path : List ℕ) → Option Mapping
mapping_at L tables root q = option_and_then (leaf_of L q) (words_along tables root q)

-- The mappings of all leaves (paths at whose end a page walk arrives) below a root, in the order of their paths.
unfoldable pub mappings_of : (L : ℕ) → Words → (root : ℕ) → List Mapping
mappings_of L tables root = filter_map (mapping_at L tables root) (paths_below L [])

-- ---- mappings by positions

-- Whether a mapping has a position (the number of an address counted without the non-canonical gap).
abbrev pub has_position : (position : ℕ) → Mapping → Bool
has_position p m = nat_le m.start p && nat_lt p (m.start + m.size)

-- The mappings among these that have this position or a later one.
unfoldable pub mappings_from : (position : ℕ) → List Mapping → List Mapping
mappings_from p = filter (λ m. nat_lt p (m.start + m.size))
