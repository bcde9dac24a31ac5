-- The path map of a list of paths and entries.
use Rattle.std.specs.Prelude.{ℕ, List, map, filter, find, not, Option, option_map}
use Rattle.std.specs.Str.{bytes_eq}
use Rattle.std.specs.FinMap.{from_entries}
use Rattle.x86_64_model.specs.PathMap.{PathMap}
use Rattle.test_reference.specs.declared.entries.PathEntry.{PathEntry}

-- The pairs of each item's path and its entry, in order.
abbrev pub pairs : List PathEntry → List (List ℕ × ℕ)
pairs items = map (λ item. (item.path.items, item.word)) items

-- The path map of a list of paths with entries. If a path occurs twice, its first entry counts.
abbrev pub paths_of_items : List PathEntry → PathMap
paths_of_items items = from_entries (pairs items)

-- The first entry that a list of paths with entries has for a path, or None if it has none.
abbrev pub found_entry : List PathEntry → List ℕ → Option ℕ
found_entry items q = option_map (λ item. item.word) (find (λ item. bytes_eq item.path.items q) items)

-- The items of a list of paths with entries whose path isn't this one.
abbrev pub without_entry : List PathEntry → List ℕ → List PathEntry
without_entry items q = filter (λ item. not (bytes_eq item.path.items q)) items
