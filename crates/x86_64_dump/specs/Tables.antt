-- Tables: the frames of the tables that a root leads to, level by level.
use Rattle.std.specs.Prelude.{ℕ, zero, suc, ◌==◌, ◌&&◌, Bool, not, cond, List, [], ◌∷◌, ◌++◌, reverse, Option, None, Some, is_some}
use Rattle.std.specs.List.{filter_map, flat_map, fold, list_any}
use Rattle.std.specs.Option.{unwrap_or}
use Rattle.x86_64_model.specs.Entry.{present, huge, address}
use Rattle.x86_64_model.specs.Memory.{Words}

-- The frame of the table that a word above level one names, if W has the table.
abbrev pub table_named : Words → (word : ℕ) → Option ℕ
table_named W e = cond (present e && not (huge e) && is_some (W (address e))) (Some (address e)) None

-- The frames of the tables that the words of a frame name, in order.
abbrev pub tables_named : Words → (frame : ℕ) → List ℕ
tables_named W f = filter_map (table_named W) (unwrap_or (W f) [])

-- Whether a frame is one of some frames.
abbrev pub is_among : (frames : List ℕ) → (frame : ℕ) → Bool
is_among frames f = list_any (λ g. f == g) frames

-- The frames that were found so far, with one more at their end unless it is one of them.
abbrev pub met : (frames : List ℕ) → (frame : ℕ) → List ℕ
met frames f = cond (is_among frames f) frames (frames ++ f ∷ [])

-- The frames, each once, in the order in which they are found.
abbrev pub each_once : (frames : List ℕ) → List ℕ
each_once frames = fold met [] frames

-- The frames of the tables of some levels, level by level from the highest down. `frames` are those of the highest level.
abbrev pub tables_of_levels : (levels : ℕ) → Words → (frames : List ℕ) → List (List ℕ)
tables_of_levels zero W frames = []
tables_of_levels (suc n) W frames = frames ∷ tables_of_levels n W (each_once (flat_map (tables_named W) frames))

-- The root, in a list of its own, or no frame if W doesn't have it.
abbrev pub if_there : Words → (root : ℕ) → List ℕ
if_there W root = cond (is_some (W root)) (root ∷ []) []

-- The frames of the tables that a root leads to in W, with L levels of tables, level one first.
unfoldable pub tables_by_level : (L : ℕ) → Words → (root : ℕ) → List (List ℕ)
tables_by_level L W root = reverse (tables_of_levels L W (if_there W root))

-- Whether a frame is at one of some levels.
abbrev pub is_in_levels : (levels : List (List ℕ)) → (frame : ℕ) → Bool
is_in_levels levels f = list_any (λ frames. is_among frames f) levels

-- The words that W has in the frames of these levels, and none in other frames.
abbrev pub words_in_frames : (levels : List (List ℕ)) → Words → Words
words_in_frames levels W f = cond (is_in_levels levels f) (W f) None
