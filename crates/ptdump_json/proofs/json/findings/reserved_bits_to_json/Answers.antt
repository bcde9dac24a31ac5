use Rattle.std.proofs.Common.{◌∙◌, codes}
use Rattle.serde_json.specs.Data.{object, put, string}
use Rattle.ptdump_json.specs.Json.{hexadecimal_string, json_count}
use Rattle.ptdump_json.proofs.json.findings.reserved_bits_to_json.Goals as goal

pub returns : goal.returns
returns c =
    let entry = c.args.entry in
    let table = c.as_u64.ensures.value ∙ c.start_address.ensures.value in
    let one = c.in_ok-put_text.ensures ∙ (λ k. put (codes "finding") (string (codes "reserved bits")) (c.new.ensures k)) in
    let two = c.in_ok-put_number.ensures ∙ (λ k. put (codes "level") (json_count entry.level) (one k)) in
    let three = c.in_ok-put_hexadecimal.ensures ∙ (λ k. put (codes "table") (hexadecimal_string (table k)) (two k)) in
    let four = c.in_ok-put_number-2.ensures ∙ (λ k. put (codes "index") (json_count entry.slot.index) (three k)) in
    let five = c.in_ok-object.ensures ∙ (λ k. put (codes "word") (hexadecimal_string entry.word) (four k)) in
    c.finish.ensures ∙ (λ k. object (five k))
