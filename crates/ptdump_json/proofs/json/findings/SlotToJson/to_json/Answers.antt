use Rattle.std.proofs.Common.{◌∙◌, codes}
use Rattle.serde_json.specs.Data.{object, put}
use Rattle.ptdump_json.specs.Json.{hexadecimal_string, json_count}
use Rattle.ptdump_json.proofs.json.findings.SlotToJson.to_json.Goals as goal

pub returns : goal.returns
returns c =
    let slot = c.args.self.now in
    let table = c.as_u64.ensures.value ∙ c.start_address.ensures.value in
    let one = c.in_ok-put_hexadecimal.ensures ∙ (λ k. put (codes "table") (hexadecimal_string (table k)) (c.new.ensures k)) in
    let all = c.in_ok-object.ensures ∙ (λ k. put (codes "index") (json_count slot.index) (one k)) in
    c.finish.ensures ∙ (λ k. object (all k))
