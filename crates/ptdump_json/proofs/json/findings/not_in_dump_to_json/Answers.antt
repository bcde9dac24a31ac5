use Rattle.std.proofs.Common.{◌∙◌, codes}
use Rattle.serde_json.specs.Data.{object, put, string}
use Rattle.ptdump_json.specs.Json.{hexadecimal_string}
use Rattle.ptdump_json.proofs.json.findings.not_in_dump_to_json.Goals as goal

pub returns : goal.returns
returns c =
    let table = c.as_u64.ensures.value ∙ c.start_address.ensures.value in
    let one = c.in_ok-put_text.ensures ∙ (λ k. put (codes "finding") (string (codes "table not in the dump")) (c.new.ensures k)) in
    let two = c.in_ok-put_hexadecimal.ensures ∙ (λ k. put (codes "table") (hexadecimal_string (table k)) (one k)) in
    let all = c.in_ok-object.ensures ∙ (λ k. put (codes "named_by") (c.in_ok-to_json.ensures k) (two k)) in
    c.finish.ensures ∙ (λ k. object (all k))
