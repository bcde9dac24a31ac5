use Rattle.std.proofs.Common.{rules, ◌≡◌, ◌∙◌, Err, codes, sym}
use Rattle.serde_json.specs.Data.{object, put, string}
use Rattle.x86_64_access.specs.Accesses.{outcome_of}
use Rattle.x86_64_access.specs.declared.request.Fault.TheVariants.{NoMemory, PageFault}
use Rattle.ptdump_json.specs.Json.{hexadecimal_string, json_count, json_of_access}
use Rattle.ptdump_json.specs.private.Objects.{members_in}
use Rattle.ptdump_json.proofs.json.walks.AccessLineToJson.to_json.Goals as goal
use Rattle.ptdump_json.proofs.json.walks.AccessLineToJson.to_json.Goals.{in-Ok+in_ok-put_text-in-Ok+in_ok-object-in-Ok, in-Err-NoMemory+in_ok-put_text-in-Err-NoMemory+in_ok-object-in-Err-NoMemory, in-Err-PageFault+in_ok-put_text-in-Err-PageFault+in_ok-put_number-in-Err-PageFault+in_ok-object-in-Err-PageFault}

pub returns : goal.returns
returns c =
    let line = c.args.self.now in
    let name = c.in_ok-put_text.ensures ∙ (λ k. put (codes "name") (string (c.access_name.ensures k)) (c.new.ensures k)) in
    let front = c.in_ok-object.ensures ∙ (λ k. put (codes "controls") (c.in_ok-controls_to_json.ensures k) (name k)) in
    c.finish.ensures ∙ elim c.match-self.branch [
      | in-Ok+in_ok-put_text-in-Ok+in_ok-object-in-Ok w ↦
          let end = w.in_ok-put_text-in-Ok.ensures ∙ (λ k. put (codes "end") (string (codes "arrives")) (front k)) in
          let all = w.in_ok-object-in-Ok.ensures ∙ (λ k. put (codes "physical") (hexadecimal_string (w.as_u64.ensures.value k)) (end k)) in
          (λ k. object (members_in (w.object-is k))) ∙ (λ k. object (all k))
          ∙ (λ k. json_of_access line.access line.controls line.source (outcome_of (sym w.in-Ok.is k)))
      | in-Err-NoMemory+in_ok-put_text-in-Err-NoMemory+in_ok-object-in-Err-NoMemory w ↦
          let end = w.in_ok-put_text-in-Err-NoMemory.ensures ∙ (λ k. put (codes "end") (string (codes "missing table")) (front k)) in
          let all = w.in_ok-object-in-Err-NoMemory.ensures
          ∙ (λ k. put (codes "table") (hexadecimal_string ((w.as_u64-in-Err-NoMemory.ensures.value
          ∙ w.start_address.ensures.value) k)) (end k)) in
          let arm = w.in-Err-NoMemory in
          let is : line.end ≡ Err (NoMemory arm.frame) = search (rules, arm.is, arm.field-0-is) in
          (λ k. object (members_in (w.object-is k))) ∙ (λ k. object (all k))
          ∙ (λ k. json_of_access line.access line.controls line.source (outcome_of (sym is k)))
      | in-Err-PageFault+in_ok-put_text-in-Err-PageFault+in_ok-put_number-in-Err-PageFault+in_ok-object-in-Err-PageFault w ↦
          let end = w.in_ok-put_text-in-Err-PageFault.ensures ∙ (λ k. put (codes "end") (string (codes "fault")) (front k)) in
          let level = w.in_ok-put_number-in-Err-PageFault.ensures ∙ (λ k. put (codes "level") (json_count w.in-Err-PageFault.level) (end k)) in
          let all = w.in_ok-object-in-Err-PageFault.ensures ∙ (λ k. put (codes "code") (hexadecimal_string (w.bits.ensures tt k)) (level k)) in
          let arm = w.in-Err-PageFault in
          let is : line.end ≡ Err (PageFault arm.code arm.level) = search (rules, arm.is, arm.field-0-is) in
          (λ k. object (members_in (w.object-is k))) ∙ (λ k. object (all k))
          ∙ (λ k. json_of_access line.access line.controls line.source (outcome_of (sym is k)))
    ]
