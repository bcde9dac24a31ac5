use Rattle.std.proofs.Common.{◌≡◌, ◌∙◌, [], Some, option_map, sym, ap, subst, slice_index}
use Rattle.x86_64_model.specs.Hierarchy.{◌laid_in◌, words}
use Rattle.x86_64_model.specs.Memory.{word}
use Rattle.x86_64_mappers.proofs.Memory.Words.{entry_is_word}
use Rattle.x86_64_mappers.proofs.Way.ReachedSteps.{here_first}
use Rattle.x86_64_mappers.specs.Reached.{IsReached}
use Rattle.x86_64.proofs.SharedEntries.{at_recursive, compared, elsewhere}
use Rattle.x86_64.proofs.sharing.root_word.Goals as goal

pub returns-then-eq : goal.returns-then-eq
returns-then-eq g c =
    let h = g.M.Tables.hierarchy c.args.mapper.now in
    sym (c.requires.valid.holds.entries [] c.args.index
    ∙ at_recursive h.layout.window h.layout.root (words (h.layout laid_in h.memory)) c.args.index
    (sym c.recursive_index.ensures ∙ (compared c.recursive_index.result c.args.index c.eq.result c.eq.ensures).0 c.if-eq.true))

pub table-requires-clause-reached : goal.table-requires-clause-reached
table-requires-clause-reached g c =
    let h = g.M.Tables.hierarchy c.args.mapper.now in
    subst (IsReached h.layout h.memory []) (sym c.root.ensures) (here_first h.layout h.memory [] c.requires).reached

pub returns : goal.returns
returns g c =
    let h = g.M.Tables.hierarchy c.args.mapper.now in
    let T = words (h.layout laid_in h.memory) in
    let differs = λ (is : option_map (λ w. w.index) h.layout.window ≡ Some c.args.index).
    (compared c.recursive_index.result c.args.index c.eq.result c.eq.ensures).1 c.if-eq.false (c.recursive_index.ensures ∙ is) in
    let here = c.index.ensures.0 ∙ ap (slice_index c.table.result.now) c.from.ensures.0
    ∙ entry_is_word T c.root.result c.args.index c.table.result.now c.table.ensures (rw c.from.ensures.0 at c.from.ensures.1) in
    c.word.ensures ∙ here ∙ ap (λ f. word T f c.args.index) c.root.ensures
    ∙ sym (c.requires.valid.holds.entries [] c.args.index ∙ elsewhere h.layout.window h.layout.root T c.args.index differs)
