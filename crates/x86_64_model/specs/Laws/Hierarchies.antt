-- Laws of words that hold path maps, and of valid hierarchies.
use Rattle.std.specs.Prelude.{◌≡◌, ◌≢◌, ◌<◌, ℕ, false, List, [], ◌∷◌, ◌++◌, length, Some, IsSome}
use Rattle.std.specs.FinMap.{empty}
use Rattle.x86_64_model.specs.Entry.{huge}
use Rattle.x86_64_model.specs.Path.{level_of}
use Rattle.x86_64_model.specs.PathMap.{PathMap, entry, put, table_of, table_at}
use Rattle.x86_64_model.specs.Memory.{Words, word, set_word}
use Rattle.x86_64_model.specs.Validity.{entry_in, Holds, IsValid, paths_of}

-- Words hold at most one path map from a root.
abbrev pub OnePathMap : Type 0
OnePathMap = (L root : ℕ) (T : Words) (M N : PathMap) → Holds L T root M → Holds L T root N → M ≡ N

-- A path map that words hold from a root is the one that is read from the words.
abbrev pub HeldIsPathsOf : Type 0
HeldIsPathsOf = (L : ℕ) → 0 < L → (T : Words) (root : ℕ) (M : PathMap) → Holds L T root M → M ≡ paths_of L T root

-- Words hold the path map that is read from them, if each table that it leads to is in the memory.
abbrev pub PathsOfIsHeld : Type 0
PathsOfIsHeld = (L : ℕ) → 0 < L → (T : Words) (root : ℕ) → ((q : List ℕ) (f : ℕ) → table_at L root (paths_of L T root) q ≡ Some f → IsSome (T f))
    → Holds L T root (paths_of L T root)

-- The entry at index i of the table that p leads to may become w. The table that w names, if any, is in the memory, isn't in
-- frame 0, belongs to no other path, and holds what the map has below the path. Above level three w isn't huge.
pub record MayBecome (L : ℕ) (T : Words) (root : ℕ) (M : PathMap) (p : List ℕ) (i w : ℕ) : Type 0 where
  pub below : (j : ℕ) → entry M ((p ++ i ∷ []) ++ j ∷ []) ≡ entry_in T (table_of L (p ++ i ∷ []) w) j
  pub fresh : (g : ℕ) (q : List ℕ) → table_of L (p ++ i ∷ []) w ≡ Some g → table_at L root M q ≡ Some g → q ≡ p ++ i ∷ []
  pub in_memory : (g : ℕ) → table_of L (p ++ i ∷ []) w ≡ Some g → IsSome (T g)
  pub not_zero : table_of L (p ++ i ∷ []) w ≢ Some 0
  pub none_huge : 3 < level_of L (p ++ i ∷ []) → huge w ≡ false

-- If one word of a table in a valid hierarchy is set to a word that its entry may become, the hierarchy is valid again, and its
-- path map changed at one path.
abbrev pub OneWordChanges : Type 0
OneWordChanges = (L : ℕ) (T : Words) (root : ℕ) (M : PathMap) (p : List ℕ) (i w f : ℕ) (words : List ℕ) → IsValid L T root M
    → table_at L root M p ≡ Some f → T f ≡ Some words → i < length words → i < 512 → MayBecome L T root M p i w
    → IsValid L (set_word T f i w) root (put M (p ++ i ∷ []) w)

-- A root in memory whose words are all 0 is a valid hierarchy with no used entry.
abbrev pub EmptyIsValid : Type 0
EmptyIsValid = (L : ℕ) (T : Words) (root : ℕ) → IsSome (T root) → ((i : ℕ) → word T root i ≡ 0) → IsValid L T root empty

-- A hierarchy stays valid, with the same path map, if only words outside its tables change.
abbrev pub OthersMayChange : Type 0
OthersMayChange = (L : ℕ) (T U : Words) (root : ℕ) (M : PathMap) → ((q : List ℕ) (f : ℕ) → table_at L root M q ≡ Some f → U f ≡ T f)
    → IsValid L T root M → IsValid L U root M
