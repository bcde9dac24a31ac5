use Rattle.std.proofs.Common.{◌≡◌, false, length, is_some, not, sym, ap, ◌∙◌}
use Rattle.std.proofs.lemmas.Bool.{true≢false}
use Rattle.x86_64_mappings.specs.Wanted.{asked_of, asked_mappings}
use Rattle.x86_64_mappings.specs.private.Known.{asking}
use Rattle.x86_64_mappings.proofs.Summed.{of_none}
use Rattle.x86_64_mappings.proofs.Tables.{asked_none, none_copied}
use Rattle.x86_64_mappings.proofs.summaries.table_summaries.child_summary.Goals as goal

pub returns-in-None : goal.returns-in-None
returns-in-None g c =
    let asked = asked_of g.T.TableMemory.tables g.P.PageTableFrameMapping.places (asking c.args.query.now) in
    let level = length c.args.known.now in
    let none : is_some c.table.result ≡ false = c.is_none.ensures ∙ ap not c.if-is_none.true in
    of_none (asked_mappings asked level c.args.frame)
    (asked_none asked level c.args.frame (sym c.table.ensures ∙ none_copied c.table.result (λ x e. true≢false (sym (ap is_some e) ∙ none))))
