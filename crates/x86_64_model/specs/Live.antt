-- Live tables: a processor marks entries as accessed and dirty at any moment, and a kernel or a hypervisor
-- exchanges entries, each in one locked step. Intel SDM vol. 3A, "Accessed and Dirty Flags"; AMD APM vol.
-- 2, "Accessed (A) Bit" and "Dirty (D) Bit".
use Rattle.std.specs.Prelude.{ℕ, List, [], ◌∷◌, bit_and, bit_or}
use Rattle.x86_64_model.specs.Laws.EntriesInPlace.{IsInPlace, MayReplace, with_word}
use Rattle.x86_64_model.specs.Layout.{Layout}
use Rattle.x86_64_model.specs.Hierarchy.{◌laid_in◌, paths, words}
use Rattle.x86_64_model.specs.Memory.{Memory, word}
use Rattle.x86_64_model.specs.PathMap.{PathMap, entry, put}

-- ---- of entries

-- A change of one entry of tables in use, by a processor, a kernel or a hypervisor.
pub data Happening : Type 0 where
  -- A processor adds a mark to the entry at a path: ACCESSED (0x20), or ACCESSED and DIRTY (0x60).
  Marks : (path : List ℕ) (mark : ℕ) → Happening
  -- A kernel puts another word in the place of the entry at a path, and learns the entry. The word may
  -- depend on it, as in a loop that compares and exchanges until it succeeds.
  Exchanges : (path : List ℕ) (next : ℕ → ℕ) → Happening

-- What an exchange by masks makes of an entry: the bits that aren't kept are cleared, then those given are
-- set.
abbrev pub by_masks : (keep given : ℕ) → (entry : ℕ) → ℕ
by_masks keep given e = bit_or (bit_and e keep) given

-- The path of the entry that a happening changes.
abbrev pub changed_path : Happening → List ℕ
changed_path (Marks q mark) = q
changed_path (Exchanges q next) = q

-- The word that a happening makes of an entry.
abbrev pub next_word : Happening → (entry : ℕ) → ℕ
next_word (Marks q mark) e = bit_or e mark
next_word (Exchanges q next) e = next e

-- The path map after a happening has changed one entry.
abbrev pub after_happening : PathMap → Happening → PathMap
after_happening paths h = put paths (changed_path h) (next_word h (entry paths (changed_path h)))

-- The path map after a list of happenings, in order.
abbrev pub after_happenings : PathMap → List Happening → PathMap
after_happenings paths [] = paths
after_happenings paths (h ∷ hs) = after_happenings (after_happening paths h) hs

-- What the exchanges among these happenings learn, in order: the path of each, and the entry that was there.
abbrev pub learned : PathMap → List Happening → List (List ℕ × ℕ)
learned paths [] = []
learned paths (Marks q mark ∷ hs) = learned (after_happening paths (Marks q mark)) hs
learned paths (Exchanges q next ∷ hs) = (q, entry paths q) ∷ learned
    (after_happening paths (Exchanges q next)) hs

-- ---- of words

-- A happening, with the frame and the index of the word that it changes.
pub record Placed : Type 0 where
  pub what : Happening
  pub frame : ℕ
  pub index : ℕ

-- The memory after a happening has changed its word.
abbrev pub after_placed : Layout → Memory → Placed → Memory
after_placed l m x = with_word l m x.frame x.index
    (next_word x.what (word (words (l laid_in m)) x.frame x.index))

-- The memory after happenings, in order, have changed their words.
abbrev pub after_all_placed : Layout → Memory → List Placed → Memory
after_all_placed l m [] = m
after_all_placed l m (x ∷ xs) = after_all_placed l (after_placed l m x) xs

-- The happening may change its word: this is the word of the entry at its path, and the new word may take the
-- entry's place.
abbrev pub MayTakePlace : Layout → Memory → Placed → Type 0
MayTakePlace l m x = IsInPlace l m (changed_path x.what) x.frame x.index
    × MayReplace l.levels (changed_path x.what) (entry (paths (l laid_in m)) (changed_path x.what))
    (next_word x.what (entry (paths (l laid_in m)) (changed_path x.what)))

-- The happenings may change their words one after the other, each in the memory that those before it leave.
abbrev pub AllMayTakePlace : Layout → Memory → List Placed → Type 0
AllMayTakePlace l m [] = Unit {0}
AllMayTakePlace l m (x ∷ xs) = MayTakePlace l m x × AllMayTakePlace l (after_placed l m x) xs

-- What a happening that finds this entry learns, in front of what later ones learn: an exchange learns its
-- path and the entry, a mark nothing.
abbrev pub with_learned : Happening → (entry : ℕ) → List (List ℕ × ℕ) → List (List ℕ × ℕ)
with_learned (Marks q mark) e more = more
with_learned (Exchanges q next) e more = (q, e) ∷ more

-- What the exchanges among these happenings read in memory, in order: the path of each, and the word that was
-- there.
abbrev pub words_learned : Layout → Memory → List Placed → List (List ℕ × ℕ)
words_learned l m [] = []
words_learned l m (x ∷ xs) = with_learned x.what (word (words (l laid_in m)) x.frame x.index)
    (words_learned l (after_placed l m x) xs)
