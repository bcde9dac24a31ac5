use Rattle.std.proofs.Common.{◌∙◌, codes, map, option_map, sym}
use Rattle.serde_json.specs.Data.{array, object, put}
use Rattle.serde_json.specs.View.{items_of}
use Rattle.ptdump_json.specs.Json.{hexadecimal_string, json_of_word}
use Rattle.ptdump_json.specs.Walked.{json_of_line, json_of_value, value_members}
use Rattle.ptdump_json.proofs.json.walks.WalkReportToJson.to_json.Goals as goal

pub returns-in-None : goal.returns-in-None
returns-in-None c =
    let report = c.args.self.now in
    let words = c.in_ok-words.ensures ∙ (λ k. array (items_of (map json_of_word (c.as_slice.ensures.value k)))) in
    let members = c.in_ok-object.ensures ∙ (λ k. value_members (hexadecimal_string report.address) (words k) report.walk.end) in
    c.finish-in-None.ensures ∙ (λ k. object (members k))
    ∙ (λ k. json_of_value report.address report.walk (option_map json_of_line (sym c.in-None.is k)))

pub returns-in_ok-put-in-Some : goal.returns-in_ok-put-in-Some
returns-in_ok-put-in-Some c =
    let report = c.args.self.now in
    let words = c.in_ok-words.ensures ∙ (λ k. array (items_of (map json_of_word (c.as_slice.ensures.value k)))) in
    let members = c.in_ok-object.ensures ∙ (λ k. value_members (hexadecimal_string report.address) (words k) report.walk.end) in
    let all = c.in_ok-put-in-Some.ensures ∙ (λ k. put (codes "access") (c.in_ok-to_json-in-Some.ensures k) (members k)) in
    c.finish.ensures ∙ (λ k. object (all k))
    ∙ (λ k. json_of_value report.address report.walk (option_map json_of_line (sym c.in-Some.is k)))
