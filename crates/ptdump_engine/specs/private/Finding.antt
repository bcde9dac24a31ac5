-- Finding: the lines for mappings that are visited in the search for a physical address.
use Rattle.std.specs.Prelude.{ℕ, Bool, true, false, List, [], ◌∷◌}
use Rattle.std.specs.List.{flat_map}
use Rattle.x86_64_model.specs.Mappings.{Mapping}
use Rattle.ptdump_check.specs.FindingTexts.{rights_at_text}
use Rattle.ptdump_check.specs.private.Reaching.{address_leading_to}
use Rattle.ptdump_json.specs.Json.{json_of_found}
use Rattle.ptdump_engine.specs.Said.{Said, line_of}
use Rattle.ptdump_json.specs.declared.options.Form.{Form}

-- The text and the JSON object of the virtual address in a mapping that leads to a physical address, with the rights there.
abbrev pub said_of_found : (L physical : ℕ) → Mapping → Said
said_of_found L a m =
    record { text = rights_at_text (address_leading_to L a m) m.rights; object = json_of_found a (address_leading_to L a m) m.rights }

-- A line in a form for each mapping that is visited, in order, with the virtual address in it that leads to a physical address.
abbrev pub visited_lines : Form → (L physical : ℕ) → List Mapping → List ℕ
visited_lines form L a ms = flat_map (λ m. line_of form (said_of_found L a m)) ms

-- Whether there is at least one mapping.
abbrev pub some_there : List Mapping → Bool
some_there [] = false
some_there (m ∷ ms) = true
