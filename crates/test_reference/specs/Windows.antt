-- The plain program's recursive index as that of the model, and the entries read through it.
use Rattle.std.specs.Prelude.{ℕ, List, Option, Some, None}
use Rattle.x86_64_model.specs.PathMap.{PathMap}
use Rattle.x86_64_model.specs.Window.{Window, entry_at}
use Rattle.test_reference.specs.declared.windows.PlainWindow.{PlainWindow}

-- The plain program's recursive index and the root's entry at this index, as the model has them.
abbrev pub the_window : PlainWindow → Window
the_window w = record { index = w.index; self_entry = w.self_entry }

-- The plain program's recursive index and the root's entry at it, if it has such an index, as the model has them.
abbrev pub window_of : Option PlainWindow → Option Window
window_of None = None
window_of (Some w) = Some (the_window w)

-- The entry that is read at a path, through the recursive window if there is a recursive index.
abbrev pub entry_read : Option PlainWindow → PathMap → List ℕ → ℕ
entry_read window paths = entry_at (window_of window) paths
