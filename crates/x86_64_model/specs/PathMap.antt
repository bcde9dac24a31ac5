-- Path maps: the meaning of a hierarchy, its used entries by their paths, without any memory.
use Rattle.std.specs.Prelude.{ℕ, ◌&&◌, cond, List, [], ◌∷◌, length, Option, Some, None, unwrap_or, nat_lt, ◌≢◌}
use Rattle.std.specs.Ordering.{nat_cmp}
use Rattle.std.specs.Cmp.Lexicographic.{slice_cmp}
use Rattle.std.specs.FinMap.{FinMap, get, insert, remove}
use Rattle.x86_64_model.specs.Entry.{used, address, names_table}

-- A path map: the used entries of a hierarchy by their paths, as a finite map from paths to entries.
abbrev pub PathMap : Type 0
PathMap = FinMap (slice_cmp nat_cmp) ℕ

-- The entry at a path, 0 if there is none.
unfoldable pub entry : PathMap → List ℕ → ℕ
entry paths q = unwrap_or (get paths q) 0

-- The map with this entry at the path. A used entry is stored, an absent one is removed.
unfoldable pub put : PathMap → List ℕ → (entry : ℕ) → PathMap
put paths q e = cond (used e) (insert paths q e) (remove paths q)

-- The path map stores no absent entry (one that is 0).
abbrev pub HasUsedAlone : PathMap → Type 0
HasUsedAlone paths = (q : List ℕ) → get paths q ≢ Some 0

-- The frame of the table that an entry at a path names, if the entry is used, above level one and not huge.
unfoldable pub table_of : (L : ℕ) → List ℕ → (entry : ℕ) → Option ℕ
table_of L q e = cond (names_table e && nat_lt (length q) L) (Some (address e)) None

-- The frame of the table that a path leads to: the root for the empty path, otherwise the table that its entry names.
abbrev pub table_at : (L root : ℕ) → PathMap → List ℕ → Option ℕ
table_at L root paths [] = Some root
table_at L root paths (i ∷ q) = table_of L (i ∷ q) (entry paths (i ∷ q))
