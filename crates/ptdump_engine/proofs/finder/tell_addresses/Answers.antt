use Rattle.std.proofs.Common.{rules, ◌≡◌, map, Some, subst}
use Rattle.ptdump_engine.specs.private.Asked.{mappings_asked}
use Rattle.ptdump_engine.specs.private.Finding.{said_of_found}
use Rattle.ptdump_engine.specs.private.Telling.{AreTold}
use Rattle.ptdump_engine.proofs.Told.{said_of_each, told_since}
use Rattle.ptdump_engine.proofs.finder.tell_addresses.Goals as goal

pub returns : goal.returns
returns g c =
    let Lines = g.O.LineOutput.Lines in
    let L = g.L.LevelCount.LEVELS in
    let said = said_of_found L c.args.physical in
    let begun = c.new-teller.result in
    let end = c.visit_mappings.new.visitor in
    let ms = mappings_asked c.args.summaries.now L c.args.root in
    let told : AreTold Lines (λ finder m. Some (said_of_found L finder.physical m)) begun end ms = c.in_ok-visit_mappings.ensures in
    let name : c.visit_mappings.new.visitor.output.ghost_name ≡ c.new-teller.result.output.ghost_name = told.output in
    let lines : Lines c.args.output.now c.visit_mappings.new.visitor.output.now (map (said_of_found L c.args.physical) (mappings_asked c.args.summaries.now L c.args.root)) =
    subst (Lines c.args.output.now end.output.now) (said_of_each said ms)
    (told_since Lines _ begun end ms _ c.args.output.now c.new-teller.ensures.telling c.new-teller.ensures.now told) in
    search rules
