use Rattle.std.proofs.Common.{◌∙◌, codes}
use Rattle.serde_json.specs.Data.{object, put, string}
use Rattle.ptdump_json.specs.Json.{hexadecimal_string, json_count}
use Rattle.ptdump_json.proofs.json.findings.huge_page_to_json.Goals as goal

pub returns : goal.returns
returns c =
    let table = c.as_u64.ensures.value ∙ c.start_address.ensures.value in
    let one = c.in_ok-put_text.ensures ∙ (λ k. put (codes "finding") (string (codes "HUGE_PAGE above level three")) (c.new.ensures k)) in
    let two = c.in_ok-put_number.ensures ∙ (λ k. put (codes "level") (json_count c.args.level) (one k)) in
    let three = c.in_ok-put_hexadecimal.ensures ∙ (λ k. put (codes "table") (hexadecimal_string (table k)) (two k)) in
    let all = c.in_ok-object.ensures ∙ (λ k. put (codes "index") (json_count c.args.slot.index) (three k)) in
    c.finish.ensures ∙ (λ k. object (all k))
