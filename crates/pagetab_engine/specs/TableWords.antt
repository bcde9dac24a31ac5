-- Every word after a call, by the path map and the free frames that the call leaves.
use Rattle.std.specs.Prelude.{ℕ, ◌==◌, ◌&&◌, Bool, false, cond, List, [], ◌∷◌, ◌++◌, Option, Some, None, find}
use Rattle.std.specs.FinMap.{keys}
use Rattle.x86_64_model.specs.Layout.{Layout}
use Rattle.x86_64_model.specs.Machine.{State}
use Rattle.x86_64_model.specs.PathMap.{PathMap, entry, table_at}
use Rattle.x86_64_model.specs.Window.{Window}
use Rattle.x86_64_tables.specs.LentPool.{is_in}

-- Whether this is the frame, if there is one.
abbrev pub is_there : (frame : ℕ) → Option ℕ → Bool
is_there frame None = false
is_there frame (Some found) = found == frame

-- The path that leads to the table in a frame, if there is one. The empty path leads to the root.
abbrev pub path_to : (levels root : ℕ) → PathMap → (frame : ℕ) → Option (List ℕ)
path_to levels root paths frame = find (λ q. is_there frame (table_at levels root paths q)) ([] ∷ keys paths)

-- The word at an index of the table that a path leads to: the entry there, or the self-entry.
abbrev pub table_word : Option Window → PathMap → (path : List ℕ) → (i : ℕ) → ℕ
table_word (Some window) paths [] i = cond (i == window.index) window.self_entry (entry paths (i ∷ []))
table_word window paths q i = entry paths (q ++ i ∷ [])

-- The word at an index of the table that a path leads to, or this other word if there is no path.
abbrev pub table_word_or : Option Window → PathMap → (path : Option (List ℕ)) → (i other : ℕ) → ℕ
table_word_or window paths None i other = other
table_word_or window paths (Some q) i other = table_word window paths q i

-- Each word after a call, by those before, the state after it, and the frames that it returned. Tables hold the entries of the
-- path map, and returned frames that are free hold zeros. All other words stay.
abbrev pub words_after : Layout → State → (back : List ℕ) → (words : ℕ → ℕ → ℕ) → (frame i : ℕ) → ℕ
words_after layout state back words f i =
    table_word_or layout.window state.paths (path_to layout.levels layout.root state.paths f) i (cond (is_in state.pool f && is_in back f) 0 (words f i))
