-- The recursive window. The root's entry at the recursive index names the root itself, so that the tables can be reached as
-- pages.
-- The path map of such a hierarchy has no entry at this index.
use Rattle.std.specs.Prelude.{◌≡◌, ℕ, ◌==◌, Bool, true, false, cond, List, [], ◌∷◌, Option, Some, None}
use Rattle.x86_64_model.specs.Entry.{present, huge, address}
use Rattle.x86_64_model.specs.PathMap.{PathMap, entry}
use Rattle.x86_64_model.specs.Memory.{Words, word, set_word}
use Rattle.x86_64_model.specs.Validity.{IsValid}

-- A recursive index, and the root's entry at this index, the self-entry.
pub record Window : Type 0 where
  pub index : ℕ
  pub self_entry : ℕ

-- Whether a path lies in the recursive window: it begins with the recursive index.
abbrev pub begins_with : Option Window → List ℕ → Bool
begins_with None q = false
begins_with (Some w) [] = false
begins_with (Some w) (i ∷ q) = i == w.index

-- The entry read at a path if the root has a recursive index. A path that begins with this index and goes on is read without
-- it, and the path of this index alone leads to the self-entry.
abbrev pub windowed : Window → PathMap → List ℕ → ℕ
windowed w paths [] = 0
windowed w paths (i ∷ []) = cond (i == w.index) w.self_entry (entry paths (i ∷ []))
windowed w paths (i ∷ j ∷ q) = cond (i == w.index) (windowed w paths (j ∷ q)) (entry paths (i ∷ j ∷ q))

-- The entry read at a path, through the recursive index if there is one.
unfoldable pub entry_at : Option Window → PathMap → List ℕ → ℕ
entry_at None paths q = entry paths q
entry_at (Some w) paths q = windowed w paths q

-- The tables as the path map sees them: the root's word at the recursive index is read as 0.
abbrev pub outside_window : Option Window → (root : ℕ) → Words → Words
outside_window None root tables = tables
outside_window (Some w) root tables = set_word tables root w.index 0

-- The root's word at the recursive index is the self-entry. It is present, isn't huge and names the root.
pub record IsSelfEntry (tables : Words) (root : ℕ) (w : Window) : Type 0 where
  pub is_word : w.self_entry ≡ word tables root w.index
  pub is_present : present w.self_entry ≡ true
  pub not_huge : huge w.self_entry ≡ false
  pub names_root : address w.self_entry ≡ root

-- If there is a recursive index, the root's word at this index is the self-entry: it is present, isn't huge and names the root.
abbrev pub SelfEntry : Words → (root : ℕ) → Option Window → Type 0
SelfEntry tables root None = Unit {0}
SelfEntry tables root (Some w) = IsSelfEntry tables root w

-- The hierarchy is valid, including the self-entry if there is a recursive index.
pub record IsValidFor (L : ℕ) (window : Option Window) (tables : Words) (root : ℕ) (paths : PathMap) : Type 0 where
  pub valid : IsValid L (outside_window window root tables) root paths
  pub self : SelfEntry tables root window
