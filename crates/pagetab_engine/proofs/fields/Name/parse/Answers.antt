use Rattle.std.proofs.Common.{◌≡◌, ◌<◌, ◌+◌, ℕ, bytes_eq, cond, drop, false, true, get_or, length, Some, ap, refl, sym, ◌∙◌, arith}
use Rattle.std.specs.List.{find}
use Rattle.std.proofs.lemmas.List.{at_drop_more}
use Rattle.pagetab_engine.specs.Fields.{all_names, name_text}
use Rattle.pagetab_engine.specs.declared.fields.Name.{Name}
use Rattle.pagetab_engine.specs.declared.fields.Name.TheVariants.{Word}
use Rattle.pagetab_engine.proofs.fields.Name.parse.Goals as goal

pub loop-name-preserved : goal.loop-name-preserved
loop-name-preserved c =
    let field = c.args.field.now in let at = c.loop-name.name-index in
    let other : bytes_eq (name_text (get_or all_names at Word)) field ≡ false = ap (λ text. bytes_eq text field) (sym c.text.ensures) ∙ sym c.eq.ensures ∙ c.if-eq.false in
    let small : at < length all_names = omega arith in
    c.loop-name.invariant ∙ at_drop_more (find (λ (name : Name). bytes_eq (name_text name) field)) all_names at Word small ∙ ap (λ b. cond b (Some (get_or all_names at Word)) (find (λ (name : Name). bytes_eq (name_text name) field) (drop (at + 1) all_names))) other

pub loop-name-init : goal.loop-name-init
loop-name-init c = refl

pub returns-then-eq : goal.returns-then-eq
returns-then-eq c =
    let field = c.args.field.now in let at = c.loop-name.name-index in let name = get_or all_names at Word in
    let found = find (λ (name : Name). bytes_eq (name_text name) field) in
    let this : bytes_eq (name_text name) field ≡ true = ap (λ text. bytes_eq text field) (sym c.text.ensures) ∙ sym c.eq.ensures ∙ c.if-eq.true in
    let small : at < length all_names = omega arith in
    sym (c.loop-name.invariant ∙ at_drop_more found all_names at Word small ∙ ap (λ b. cond b (Some name) (found (drop (at + 1) all_names))) this)

pub returns : goal.returns
returns c =
    let end : c.loop-name.name-index ≡ 19 = omega arith in
    sym (c.loop-name.invariant ∙ ap (λ (at : ℕ). find (λ (name : Name). bytes_eq (name_text name) c.args.field.now) (drop at all_names)) end)
