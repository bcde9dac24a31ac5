-- The program's arguments.
use Rattle.std.specs.Prelude.{◌&&◌, nat_le, ℕ, cond, List, [], ◌∷◌, bytes_eq, codes, find, Option, Some, None, option_and_then, option_map}
use Rattle.pagetab_engine.specs.Fields.{number_in}
use Rattle.pagetab_engine.specs.Starts.{address_in, index_in}
use Rattle.pagetab_engine.specs.declared.arguments.Arguments.{Arguments}
use Rattle.x86_64_addr.specs.declared.level_count.Levels.{Levels}
use Rattle.x86_64_addr.specs.declared.level_count.Levels.TheVariants.{Four, Five}
use Rattle.pagetab_engine.specs.declared.arguments.Mode.{Mode}
use Rattle.pagetab_engine.specs.declared.arguments.Mode.TheVariants.{Direct, Offset, Recursive, Pair}

-- ---- levels

-- The number of levels of tables, 4 or 5.
abbrev pub count : Levels → ℕ
count Four = 4
count Five = 5

-- The levels of tables in a mode. With an offset there are four.
abbrev pub levels_of : Mode → Levels
levels_of (Direct levels) = levels
levels_of (Offset address) = Four
levels_of (Recursive levels index) = levels
levels_of (Pair levels index) = levels

-- ---- modes

-- The modes without a number, by their words.
abbrev pub plain_modes : List (List ℕ × Option Mode)
plain_modes = (codes "direct", Some (Direct Four)) ∷ (codes "direct5", Some (Direct Five)) ∷ []

-- The modes with this number, by their words: the address for an offset, or an index.
abbrev pub modes_with : (number : ℕ) → List (List ℕ × Option Mode)
modes_with number =
    (codes "offset", option_map Offset (address_in 4 number))
    ∷ (codes "recursive", option_map (Recursive Four) (index_in number))
    ∷ (codes "recursive5", option_map (Recursive Five) (index_in number))
    ∷ (codes "pair", option_map (Pair Four) (index_in number))
    ∷ (codes "pair5", option_map (Pair Five) (index_in number))
    ∷ []

-- The one of these modes that a word chooses, if it chooses one.
abbrev pub mode_named : (word : List ℕ) → List (List ℕ × Option Mode) → Option Mode
mode_named word modes = option_and_then (λ row. row.1) (find (λ row. bytes_eq word row.0) modes)

-- The mode that a word and the text that may follow choose, if they choose one.
abbrev pub mode_in : (word : List ℕ) → (more : List (List ℕ)) → Option Mode
mode_in word [] = mode_named word plain_modes
mode_in word (text ∷ []) = option_and_then (λ number. mode_named word (modes_with number)) (number_in text)
mode_in word more = None

-- The number of places that a text is, if it is one from 2 to 65536 (a place is the index of a table in memory).
abbrev pub places_in : (text : List ℕ) → Option ℕ
places_in text = option_and_then (λ number. cond (nat_le 2 number && nat_le number 65536) (Some number) None) (number_in text)

-- The arguments that the words are, if they are any: the word of a mode, the number of places, and the text that the mode needs.
abbrev pub arguments_in : (words : List (List ℕ)) → Option Arguments
arguments_in (word ∷ places ∷ more) = option_and_then (λ places. option_map (λ mode. record { mode = mode; places = places }) (mode_in word more)) (places_in places)
arguments_in words = None
