-- The modes: the mapper that tests the image, the mapper that executes the commands, and whether it reaches each place.
use Rattle.std.specs.Prelude.{◌+◌, ◌*◌, ◌&&◌, zero, suc, ℕ, Bool, true, false}
use Rattle.x86_64_model.specs.Call.{Call}
use Rattle.x86_64_model.specs.Layout.{Layout}
use Rattle.x86_64_model.specs.Memory.{Memory}
use Rattle.x86_64_model.specs.Position.{raw}
use Rattle.x86_64.specs.Calls.{names_by}
use Rattle.pagetab_engine.specs.Arguments.{count, levels_of}
use Rattle.pagetab_engine.specs.Frames.{direct_layout, recursive_layout, without_self_entry}
use Rattle.pagetab_engine.specs.Starts.{is_canonical_number}
use Rattle.pagetab_engine.specs.declared.arguments.Mode.{Mode}
use Rattle.pagetab_engine.specs.declared.arguments.Mode.TheVariants.{Direct, Offset, Recursive, Pair}

-- The layout in which the image is tested, which is the recursive mapper's in a pair.
abbrev pub image_layout : Mode → Memory → Layout
image_layout (Direct levels) memory = direct_layout (count levels)
image_layout (Offset offset) memory = direct_layout 4
image_layout (Recursive levels index) memory = recursive_layout (count levels) memory index
image_layout (Pair levels index) memory = recursive_layout (count levels) memory index

-- The memory before the first command, which lacks the self-entry in a pair, since it is the direct mapper's.
abbrev pub first_memory : Mode → Memory → Memory
first_memory (Pair levels index) memory = without_self_entry index memory
first_memory mode memory = memory

-- The layout of the mapper that executes the commands in a mode, which is the direct mapper's in a pair.
abbrev pub layout : Mode → Memory → Layout
layout (Pair levels index) memory = direct_layout (count levels)
layout mode memory = image_layout mode memory

-- Whether the mode is a pair with a recursive index among these indices.
abbrev pub is_index_named : Mode → (names : ℕ → Bool) → Bool
is_index_named (Pair levels index) names = names index
is_index_named mode names = false

-- Whether no mapper executes the call: its page or address has the recursive index of a pair.
abbrev pub is_refused : Mode → Call → Bool
is_refused mode call = is_index_named mode (names_by (count (levels_of mode)) call)

-- Whether the sum of the address at this position and of a frame's address is canonical, for each of so many places.
abbrev pub are_reached : (offset places : ℕ) → Bool
are_reached offset zero = true
are_reached offset (suc place) = is_canonical_number 4 (raw 4 offset + place * 4096) && are_reached offset place

-- Whether the mapper of a mode reaches each of so many places. Only an offset may be such that it doesn't.
abbrev pub mode_reaches : Mode → (places : ℕ) → Bool
mode_reaches (Offset offset) places = are_reached offset places
mode_reaches mode places = true
