-- The root's word at a recursive index.
use Rattle.std.specs.Prelude.{ℕ, ◌==◌, ◌&&◌, Bool, not, Option, Some, None}
use Rattle.x86_64_model.specs.Entry.{present, huge, address}
use Rattle.x86_64_model.specs.Memory.{Words, word}
use Rattle.x86_64_model.specs.Window.{Window}

-- Whether a word is present, isn't huge and names the frame.
abbrev pub names_frame : (word frame : ℕ) → Bool
names_frame w f = present w && not (huge w) && (address w == f)

-- Whether the root's word at the index is present, isn't huge and names the root.
abbrev pub has_self_entry : Words → (root index : ℕ) → Bool
has_self_entry T root r = names_frame (word T root r) root

-- The recursive window of an index: the index itself, and the root's word at this index as the self-entry.
abbrev pub window_at : Words → (root index : ℕ) → Window
window_at T root r = record { index = r; self_entry = word T root r }

-- The recursive window, with the root's word at the recursive index as the self-entry. None if there is no recursive index.
abbrev pub window_in : Words → (root : ℕ) → (recursive : Option ℕ) → Option Window
window_in T root None = None
window_in T root (Some r) = Some (window_at T root r)
