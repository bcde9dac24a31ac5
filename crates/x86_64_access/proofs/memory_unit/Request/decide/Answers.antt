use Rattle.std.proofs.Common.{rules, ap, ◌≡◌, ◌∙◌, ◌==◌, true, false, sym, bit_and}
use Rattle.x86_64_model.specs.Access.{Arrives}
use Rattle.x86_64_access.specs.Accesses.{access_of, controls_of}
use Rattle.x86_64_access.specs.private.Walking.{rights_by}
use Rattle.x86_64_access.proofs.Walked.{accepted, ends_arriving, read_on}
use Rattle.x86_64_access.proofs.memory_unit.Request.decide.Goals as goal

pub returns-then-word-masks-eq-PRESENT-clause-on : goal.returns-then-word-masks-eq-PRESENT-clause-on
returns-then-word-masks-eq-PRESENT-clause-on c =
    let controls = controls_of c.args.self.controls in
    let e = c.args.entry.now in
    let one : (bit_and e c.args.masks.table == 1) ≡ true = search rules in
    let other : (c.args.level == 1) ≡ false = search rules in
    read_on controls c.args.level e other (sym (c.requires.masks.table e) ∙ one)

pub returns-then-suffice-clause-end : goal.returns-then-suffice-clause-end
returns-then-suffice-clause-end c =
    let controls = controls_of c.args.self.controls in
    let asked = access_of c.args.self.access in
    let masks = c.args.masks in
    let e = c.args.entry.now in
    let parts = accepted controls c.args.level e (bit_and e masks.page == 1) masks.no_1gib_pages (c.requires.masks.page e) c.requires.masks.giant (sym c.accept.ensures ∙ c.if-accept.true) in
    let enough : (bit_and c.args.rights.0 masks.asked == masks.needed) ≡ true = search rules in
    ap Arrives c.address_in_page.ensures
    ∙ ends_arriving controls asked c.args.position (rights_by c.args.rights.0) (record { level = c.args.level; frame = 0; index = 0; word = e }) parts.0 parts.1 parts.2
    (sym (c.requires.masks.rights c.args.rights.0) ∙ enough)
