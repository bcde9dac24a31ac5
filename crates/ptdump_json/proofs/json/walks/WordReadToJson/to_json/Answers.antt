use Rattle.std.proofs.Common.{◌∙◌, codes}
use Rattle.serde_json.specs.Data.{object, put}
use Rattle.ptdump_json.specs.Json.{hexadecimal_string, json_count}
use Rattle.ptdump_json.proofs.json.walks.WordReadToJson.to_json.Goals as goal

pub returns : goal.returns
returns c =
    let read = c.args.self.now in
    let table = c.as_u64.ensures.value ∙ c.start_address.ensures.value in
    let one = c.in_ok-put_number.ensures ∙ (λ k. put (codes "level") (json_count read.level) (c.new.ensures k)) in
    let two = c.in_ok-put_hexadecimal.ensures ∙ (λ k. put (codes "table") (hexadecimal_string (table k)) (one k)) in
    let three = c.in_ok-put_number-2.ensures ∙ (λ k. put (codes "index") (json_count read.index) (two k)) in
    let all = c.in_ok-object.ensures ∙ (λ k. put (codes "word") (hexadecimal_string read.word) (three k)) in
    c.finish.ensures ∙ (λ k. object (all k))
