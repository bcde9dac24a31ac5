-- Whether a hierarchy is valid and free frames fit it, as a function of the words.
use Rattle.std.specs.Prelude.{ℕ, suc, ◌-◌, ◌+◌, nat_le, ◌==◌, ◌&&◌, ◌||◌, Bool, true, not, List, [], ◌∷◌, ◌++◌, length, Option, Some, None, is_some}
use Rattle.std.specs.List.{list_all}
use Rattle.std.specs.FinMap.{keys}
use Rattle.x86_64_model.specs.Entry.{present, huge, address}
use Rattle.x86_64_model.specs.Validity.{paths_of, read_at}
use Rattle.x86_64_model.specs.Layout.{Layout}
use Rattle.x86_64_model.specs.Memory.{Memory, Words, words_of}
use Rattle.x86_64_model.specs.Pool.{serves_below}
use Rattle.x86_64_model.specs.Window.{Window, outside_window}
use Rattle.x86_64_model.specs.private.Tables.{tables_from}
use Rattle.x86_64_tables.specs.LentPool.{is_in}

-- Whether no number stands twice in a list.
abbrev pub are_distinct : List ℕ → Bool
are_distinct [] = true
are_distinct (number ∷ numbers) = not (is_in numbers number) && are_distinct numbers

-- Whether the self-entry, if there is a recursive index, is present, isn't huge and names the root.
abbrev pub names_root : Option Window → (root : ℕ) → Bool
names_root None root = true
names_root (Some window) root = present window.self_entry && (not (huge window.self_entry) && (address window.self_entry == root))

-- Whether no entry above level three is huge, in the words of n + 1 levels.
abbrev pub none_huge : (n : ℕ) → Words → (root : ℕ) → Bool
none_huge n tables root = list_all (λ q. not (nat_le (length q + 3) (suc n)) || not (huge (read_at (suc n) tables root q))) (keys (paths_of (suc n) tables root))

-- Whether a frame is in the memory, and is the root or has a number from 1 to limit - 1.
abbrev pub is_usable : Words → (root limit frame : ℕ) → Bool
is_usable tables root limit f = is_some (tables f) && ((f == root) || serves_below limit f)

-- Whether the tables of n + 1 levels and the free frames are distinct and usable, and no entry above level three is huge.
abbrev pub is_sound : (n : ℕ) → Words → (root limit : ℕ) → (free : List ℕ) → Bool
is_sound n tables root limit free =
    let frames : List ℕ = tables_from n tables root ++ free in
    none_huge n tables root && (are_distinct frames && list_all (is_usable tables root limit) frames)

-- Whether the hierarchy of a layout in a memory is valid, and these free frames with numbers below a limit fit it.
abbrev pub fits_in : Layout → Memory → (limit : ℕ) → (free : List ℕ) → Bool
fits_in layout memory limit free =
    let tables : Words = outside_window layout.window layout.root (words_of memory layout.places) in
    names_root layout.window layout.root && is_sound (layout.levels - 1) tables layout.root limit free
