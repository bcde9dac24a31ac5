use Rattle.std.proofs.Common.{◌∙◌, lit<}
use Rattle.std.proofs.lemmas.Str.Pattern.{split_parts}
use Rattle.pagetab_engine.proofs.Splitting.{fields_empty, fields_trimmed, no_space_first, first_field, last_field}
use Rattle.pagetab_engine.proofs.fields.Rest.next_field.Goals as goal

pub returns-then-is_empty : goal.returns-then-is_empty
returns-then-is_empty c =
    let trim = c.trim_start_matches-text.ensures.matches in
    fields_trimmed _ trim.0.0 _ trim.0.1 ∙ fields_empty _ c.if-is_empty.ensures

pub returns-in_default : goal.returns-in_default
returns-in_default c =
    let trim = c.trim_start_matches-text.ensures.matches in
    let parts = split_parts 32 c.trim_start_matches-text.result.now c.split_once.result c.split_once.ensures.cases (lit< tt) in
    let none = rw c.in_default.is at parts in
    fields_trimmed _ trim.0.0 _ trim.0.1 ∙ last_field _ c.if-is_empty.ensures none

pub returns : goal.returns
returns c =
    let trim = c.trim_start_matches-text.ensures.matches in
    let parts = split_parts 32 c.trim_start_matches-text.result.now c.split_once.result c.split_once.ensures.cases (lit< tt) in
    let at = rw c.in-Some.is at parts in
    fields_trimmed _ trim.0.0 _ trim.0.1 ∙ first_field _ _ _ (no_space_first _ trim.1) at.0 at.1
