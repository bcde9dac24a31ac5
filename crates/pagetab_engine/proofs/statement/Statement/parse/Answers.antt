use Rattle.std.proofs.Common.{rules, arith, ◌≡◌, ℕ, List, Option, None, Some, IsUtf8, refl, ap, ◌∙◌, option_and_then}
use Rattle.std.proofs.lemmas.Grind.{common_steps}
use Rattle.pagetab_engine.specs.Fields.{Parts, fields_of, parts_in}
use Rattle.pagetab_engine.specs.Statements.{statement_by, statement_of_fields}
use Rattle.pagetab_engine.proofs.Characters.{is_text}
use Rattle.pagetab_engine.proofs.Parsing.{short_suffices, statement_with}
use Rattle.pagetab_engine.proofs.statement.Statement.parse.Goals as goal

-- a line that is no text is no statement
no_statement : (levels places : ℕ) (line : List ℕ) → ¬ (IsUtf8 line) → None ≡ statement_of_fields levels places line
no_statement levels places line no_text = by (parts_in (fields_of line)) refl
  where
    by : (read : Option Parts) → parts_in (fields_of line) ≡ read → None ≡ option_and_then (statement_with levels places) read
    by None is = refl
    by (Some read) is = absurd (no_text (is_text line read is))

pub returns-in_err-ok : goal.returns-in_err-ok
returns-in_err-ok g c =
    let no_text : ¬ (IsUtf8 c.args.line.now) = search rules in
    rw c.from_residual.ensures (no_statement g.L.LevelCount.LEVELS c.args.places c.args.line.now no_text)

pub returns-in_err-fields : goal.returns-in_err-fields
returns-in_err-fields g c =
    let levels = g.L.LevelCount.LEVELS in let places = c.args.places in
    let text : c.in_ok-ok.field-0.now ≡ c.args.line.now = search rules in
    let none = rw (c.in_err-fields.was) at c.parse.ensures in
    rw c.from_residual-in_err-fields.ensures (ap (option_and_then (statement_with levels places)) none ∙ short_suffices levels places c.in_ok-ok.field-0.now ∙ ap (statement_of_fields levels places) text)

pub returns : goal.returns
returns g c =
    let text : c.in_ok-ok.field-0.now ≡ c.args.line.now = grind (arith, common_steps) in
    let levels = g.L.LevelCount.LEVELS in let places = c.args.places in let fields = c.in_ok-fields.fields in
    let read = rw (c.in_ok-fields.was) at c.parse.ensures in
    c.from_fields.ensures ∙ ap (statement_by levels places fields.name fields.size) c.numbers.ensures
    ∙ ap (option_and_then (statement_with levels places)) read ∙ short_suffices levels places c.in_ok-ok.field-0.now ∙ ap (statement_of_fields levels places) text
