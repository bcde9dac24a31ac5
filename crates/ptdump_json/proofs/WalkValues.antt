-- The values of walks: their texts, their objects, and whether they arrive.
use Rattle.std.proofs.Common.{◌≡◌, ◌∙◌, ◌++◌, ℕ, Option, None, Some, codes, is_some, map, option_map, unwrap_or, refl, ap, ap₂}
use Rattle.std.specs.List.{flat_map}
use Rattle.serde_json.specs.Data.{Data, array, member, object}
use Rattle.serde_json.specs.View.{items_of}
use Rattle.x86_64_model.specs.Mappings.{Rights}
use Rattle.x86_64_model.specs.Memory.{Words}
use Rattle.x86_64_model.specs.PageWalk.{page_walk}
use Rattle.ptdump_json.specs.Accesses.{is_arrived, is_access_there, outcome_in}
use Rattle.ptdump_json.specs.Explanations.{explained, explanation_text}
use Rattle.ptdump_json.specs.Json.{end_members, hexadecimal_string, json_of_walk, json_of_word, with_access}
use Rattle.ptdump_json.specs.Walks.{End, arrives_at, not_present, no_table, huge_page, Walk, end_text, line, walk_of, walk_rights, walk_text, word_lines}
use Rattle.x86_64_access.specs.declared.controls.Controls.{Controls}
use Rattle.x86_64_access.specs.declared.request.Access.{Access}
use Rattle.ptdump_json.specs.declared.walked.Walk.{Walk as WalkValue}
use Rattle.ptdump_json.specs.Walked.{IsWalk, walk_end_at, end_said, is_arrival, json_of_value, text_of_end, text_of_value, value_members}
use Rattle.ptdump_json.proofs.WalkLaws.{page-walk}

-- the value of an end says which it is
same_end : (r : Rights) (end : End) → end_said (walk_end_at r end) ≡ end
same_end r (arrives_at to size) = refl
same_end r not_present = refl
same_end r (no_table frame) = refl
same_end r (huge_page level) = refl

same_end_text : (r : Rights) (end : End) → text_of_end (walk_end_at r end) ≡ end_text r end
same_end_text r (arrives_at to size) = refl
same_end_text r not_present = refl
same_end_text r (no_table frame) = refl
same_end_text r (huge_page level) = refl

-- the value of a walk has its text, its explanation and its object
pub text_of_walk : (c : Controls) (walk : Walk) (value : WalkValue) → IsWalk walk value → text_of_value c value ≡ walk_text c walk
unfolding walk_text
text_of_walk c walk value is =
    ap₂ (λ words end. flat_map (word_lines c) words ++ line (text_of_end end)) is.words is.end
    ∙ ap (λ text. flat_map (word_lines c) walk.words ++ line text) (same_end_text (walk_rights walk) walk.end)

pub explanation_of_walk : (walk : Walk) (value : WalkValue) → IsWalk walk value → explained (end_said value.end) value.words.items ≡ explanation_text walk
explanation_of_walk walk value is = ap₂ explained (ap end_said is.end ∙ same_end (walk_rights walk) walk.end) is.words

pub object_of_walk : (address : ℕ) (walk : Walk) (value : WalkValue) (access : Option Data) → IsWalk walk value → json_of_value address value access ≡ json_of_walk address walk access
object_of_walk address walk value access is =
    ap₂ (λ words end. object (with_access access (value_members (hexadecimal_string address) (array (items_of (map json_of_word words))) end))) is.words is.end
    ∙ ap (λ members. object (with_access access members)) (by walk.end)
  where
    by : (end : End) → value_members (hexadecimal_string address) (array (items_of (map json_of_word walk.words))) (walk_end_at (walk_rights walk) end)
        ≡ member (codes "address") (hexadecimal_string address) (end_members (array (items_of (map json_of_word walk.words))) (walk_rights walk) end)
    by (arrives_at to size) = refl
    by not_present = refl
    by (no_table frame) = refl
    by (huge_page level) = refl

-- the value of a walk arrives if the page walk does
pub value_arrives : (L : ℕ) (T : Words) (root p : ℕ) (value : WalkValue) → IsWalk (walk_of L T root p) value → is_arrival (end_said value.end) ≡ is_some (page_walk L T root p)
value_arrives L T root p value is =
    let walk = walk_of L T root p in ap is_arrival (ap end_said is.end ∙ same_end (walk_rights walk) walk.end) ∙ page-walk L T root p

-- the access that is asked for, or else the walk
pub asked_there : (c : Controls) (asked : Option Access) (L : ℕ) (T : Words) (root p : ℕ)
    → unwrap_or (option_map (λ a. is_arrived (outcome_in L T root p c a)) asked) (is_some (page_walk L T root p)) ≡ is_access_there c asked L T root p
asked_there c None L T root p = refl
asked_there c (Some a) L T root p = refl
