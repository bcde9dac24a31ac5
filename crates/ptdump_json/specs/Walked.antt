-- Walks as values.
use Rattle.std.specs.Prelude.{◌≡◌, ℕ, ◌++◌, Bool, List, Option, Some, None, codes, is_some, map}
use Rattle.std.specs.List.{flat_map}
use Rattle.serde_json.specs.Data.{Data, Members, array, member, object}
use Rattle.serde_json.specs.View.{items_of}
use Rattle.x86_64_access.specs.Accesses.{outcome_of}
use Rattle.x86_64_access.specs.declared.controls.Controls.{Controls}
use Rattle.x86_64_model.specs.Mappings.{Rights, every_right}
use Rattle.ptdump_json.specs.Json.{hexadecimal_string, end_members, json_of_access, json_of_word, with_access}
use Rattle.ptdump_json.specs.Walks.{End, arrives_at, not_present, no_table, huge_page, Walk, end_text, line, walk_rights, word_lines}
use Rattle.ptdump_json.specs.declared.access_line.AccessLine.{AccessLine}
use Rattle.ptdump_json.specs.declared.walked.Walk.{Walk as WalkValue}
use Rattle.ptdump_json.specs.declared.walked.WalkEnd.{WalkEnd}
use Rattle.ptdump_json.specs.declared.walked.WalkEnd.TheVariants as ends

-- The end of a walk as code represents it, with these rights if the walk arrives.
abbrev pub walk_end_at : Rights → End → WalkEnd
walk_end_at rights (arrives_at to size) = ends.Arrives (record { address = to; rights = rights }) size
walk_end_at rights not_present = ends.NotPresent
walk_end_at rights (no_table frame) = ends.MissingTable frame
walk_end_at rights (huge_page level) = ends.HugePage level

-- The value represents a walk in code: its words, and its end, which has the rights that all words grant if the walk arrives.
pub record IsWalk (walk : Walk) (value : WalkValue) : Type 0 where
  pub words : value.words.items ≡ walk.words
  pub end : value.end ≡ walk_end_at (walk_rights walk) walk.end

-- The rights at the address where a walk arrives, by its end as code represents it, or all rights if it doesn't arrive.
abbrev pub rights_at : WalkEnd → Rights
rights_at (ends.Arrives at size) = at.rights
rights_at end = every_right

-- The end of a walk, by its end as code represents it.
abbrev pub end_said : WalkEnd → End
end_said (ends.Arrives at size) = arrives_at at.address size
end_said ends.NotPresent = not_present
end_said (ends.MissingTable frame) = no_table frame
end_said (ends.HugePage level) = huge_page level

-- The size in bytes of the page in which a walk arrives, or None if it doesn't arrive.
abbrev pub page_size : End → Option ℕ
page_size (arrives_at to size) = Some size
page_size other = None

-- Whether a walk with this end arrives at a physical address.
abbrev pub is_arrival : End → Bool
is_arrival end = is_some (page_size end)

-- ---- the text of a walk's value

-- The text of the end of a walk, by its end as code represents it: the address at which it arrives with its rights, or why it
-- doesn't arrive.
abbrev pub text_of_end : WalkEnd → List ℕ
text_of_end end = end_text (rights_at end) (end_said end)

-- The lines of a walk, by its value in code: one for each word, another if a processor with these controls faults there, and one
-- for the end.
abbrev pub text_of_value : Controls → WalkValue → List ℕ
text_of_value c value = flat_map (word_lines c) value.words.items ++ line (text_of_end value.end)

-- ---- its object

-- The JSON object of an access, by its line in code: its name, what a processor does with it, and the controls that decide that.
abbrev pub json_of_line : AccessLine → Data
json_of_line line = json_of_access line.access line.controls line.source (outcome_of line.end)

-- The members of a walk's JSON object, by its end as code represents it: the address, how the walk ends, and the words that it
-- reads.
abbrev pub value_members : (address words : Data) → WalkEnd → Members
value_members address words end = member (codes "address") address (end_members words (rights_at end) (end_said end))

-- The JSON object of a walk to a virtual address, by its value in code, with the access there, if there is one.
abbrev pub json_of_value : (address : ℕ) → WalkValue → Option Data → Data
json_of_value address value access = object (with_access access
    (value_members (hexadecimal_string address) (array (items_of (map json_of_word value.words.items))) value.end))
