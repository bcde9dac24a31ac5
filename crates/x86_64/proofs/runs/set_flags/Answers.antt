use Rattle.std.proofs.Common.{refl, sym, subst}
use Rattle.x86_64_model.specs.Hierarchy.{Does, named}
use Rattle.x86_64_model.specs.Call.{SetFlags}
use Rattle.x86_64_model.specs.Refusal.{Done, answer_unless}
use Rattle.x86_64_tables.specs.PageTableFlags.{bits_of}
use Rattle.x86_64.proofs.runs.set_flags.Goals as goal

pub returns-clause-sets : goal.returns-clause-sets
returns-clause-sets g c =
    let h = g.M.Tables.hierarchy c.args.mapper.now in
    let on = SetFlags c.args.level g.S.PageSize.LEVEL c.args.page (bits_of c.args.flags) in
    let told = c.take_all.result in
    (told, refl, subst (λ refusal. Does h on (answer_unless refusal (Done (named h on))) (g.M.Tables.hierarchy c.set_table_flags-set.new.mapper)) (sym c.take_all.ensures.result) c.set_table_flags-set.ensures)
