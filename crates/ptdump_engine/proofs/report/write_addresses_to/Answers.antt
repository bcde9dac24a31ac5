use Rattle.std.proofs.Common.{◌≡◌, ◌∙◌, Some, IfOk, ap, subst}
use Rattle.x86_64_model.specs.Mappings.{mappings_of}
use Rattle.ptdump_check.specs.Loaded.{words_loaded}
use Rattle.ptdump_engine.specs.Output.{Puts}
use Rattle.ptdump_engine.specs.private.Asked.{mappings_asked}
use Rattle.ptdump_engine.specs.private.Finding.{some_there, visited_lines}
use Rattle.ptdump_engine.proofs.Searches.{lines_found, some_found}
use Rattle.ptdump_json.proofs.Results.{on_ok}
use Rattle.ptdump_engine.proofs.report.write_addresses_to.Goals as goal

pub returns-clause-text : goal.returns-clause-text
returns-clause-text g c =
    let L = g.L.LevelCount.LEVELS in
    let root = c.args.loaded.now.root in
    let asked = c.in_ok-summaries.ensures ∙ ap (λ m. record { memory = m; mapping = record {}; wanted = Some c.args.physical }) c.memory-memory.ensures in
    on_ok c.write_addresses_by.result (subst (Puts g.W.Destination.contents c.args.output.now c.write_addresses_by.new.output)
    (ap (λ s. visited_lines c.args.form L c.args.physical (mappings_asked s L root)) asked ∙ lines_found c.args.form L (words_loaded c.args.loaded.now) root c.args.physical))
    c.write_addresses_by.ensures.text

pub returns-clause-found : goal.returns-clause-found
returns-clause-found g c =
    let L = g.L.LevelCount.LEVELS in
    let root = c.args.loaded.now.root in
    let asked = c.in_ok-summaries.ensures ∙ ap (λ m. record { memory = m; mapping = record {}; wanted = Some c.args.physical }) c.memory-memory.ensures in
    subst (λ b. IfOk c.write_addresses_by.result (λ found. found ≡ b))
    (ap (λ s. some_there (mappings_asked s L root)) asked ∙ some_found c.args.physical (mappings_of L (words_loaded c.args.loaded.now) root))
    c.write_addresses_by.ensures.found
