use Rattle.std.proofs.Common.{◌≡◌, ◌∙◌, IfOk, codes, subst, sym}
use Rattle.serde_json.specs.Data.{boolean, Members, put, string}
use Rattle.serde_json.specs.View.{view}
use Rattle.ptdump_json.specs.Json.{hexadecimal_string, json_count}
use Rattle.ptdump_json.specs.Walked.{value_members}
use Rattle.ptdump_json.specs.private.Objects.{members_in}
use Rattle.ptdump_json.proofs.json.walks.walk_object.Goals as goal

pub returns-in-NotPresent : goal.returns-in-NotPresent
returns-in-NotPresent c =
    let words = view c.args.words in
    let address = hexadecimal_string c.args.address in
    let begun = c.in_ok-put_hexadecimal.ensures ∙ (λ k. put (codes "address") address (c.new.ensures k)) in
    let front = c.in_ok-object.ensures ∙ (λ k. put (codes "words") words (begun k)) in
    subst (λ (members : Members). IfOk c.put_text-in-NotPresent.result (λ object. members_in object ≡ members))
    ((λ k. put (codes "end") (string (codes "not present")) (front k))
    ∙ (λ k. value_members address words (sym c.in-NotPresent.is k))) c.put_text-in-NotPresent.ensures

pub returns-in_ok-put_text-in-HugePage : goal.returns-in_ok-put_text-in-HugePage
returns-in_ok-put_text-in-HugePage c =
    let words = view c.args.words in
    let address = hexadecimal_string c.args.address in
    let begun = c.in_ok-put_hexadecimal.ensures ∙ (λ k. put (codes "address") address (c.new.ensures k)) in
    let front = c.in_ok-object.ensures ∙ (λ k. put (codes "words") words (begun k)) in
    let end = c.in_ok-put_text-in-HugePage.ensures ∙ (λ k. put (codes "end") (string (codes "huge page")) (front k)) in
    subst (λ (members : Members). IfOk c.put_number.result (λ object. members_in object ≡ members))
    ((λ k. put (codes "level") (json_count c.in-HugePage.level) (end k))
    ∙ (λ k. value_members address words (sym c.in-HugePage.is k))) c.put_number.ensures

pub returns-in_ok-put_text-in-MissingTable : goal.returns-in_ok-put_text-in-MissingTable
returns-in_ok-put_text-in-MissingTable c =
    let words = view c.args.words in
    let address = hexadecimal_string c.args.address in
    let begun = c.in_ok-put_hexadecimal.ensures ∙ (λ k. put (codes "address") address (c.new.ensures k)) in
    let front = c.in_ok-object.ensures ∙ (λ k. put (codes "words") words (begun k)) in
    let end = c.in_ok-put_text-in-MissingTable.ensures ∙ (λ k. put (codes "end") (string (codes "missing table")) (front k)) in
    let frame = c.as_u64.ensures.value ∙ c.start_address.ensures.value in
    subst (λ (members : Members). IfOk c.put_hexadecimal-in-MissingTable.result (λ object. members_in object ≡ members))
    ((λ k. put (codes "table") (hexadecimal_string (frame k)) (end k))
    ∙ (λ k. value_members address words (sym c.in-MissingTable.is k))) c.put_hexadecimal-in-MissingTable.ensures

pub returns-in_ok-put_hexadecimal-in-Arrives : goal.returns-in_ok-put_hexadecimal-in-Arrives
returns-in_ok-put_hexadecimal-in-Arrives c =
    let words = view c.args.words in
    let address = hexadecimal_string c.args.address in
    let begun = c.in_ok-put_hexadecimal.ensures ∙ (λ k. put (codes "address") address (c.new.ensures k)) in
    let front = c.in_ok-object.ensures ∙ (λ k. put (codes "words") words (begun k)) in
    let at = c.in-Arrives.at in
    let end = c.in_ok-put_text-in-Arrives.ensures ∙ (λ k. put (codes "end") (string (codes "arrives")) (front k)) in
    let physical = c.in_ok-put_hexadecimal-in-Arrives.ensures ∙ (λ k. put (codes "physical") (hexadecimal_string at.address) (end k)) in
    let user = boolean at.rights.user in
    let execute = boolean at.rights.execute in
    let write = boolean at.rights.write in
    subst (λ (members : Members). IfOk c.put_rights.result (λ object. members_in object ≡ members))
    ((λ k. put (codes "user") user (put (codes "execute") execute (put (codes "write") write (physical k))))
    ∙ (λ k. value_members address words (sym c.in-Arrives.is k))) c.put_rights.ensures
