use Rattle.std.proofs.Common.{rules, ◌≡◌, ◌∙◌, filter, Some, ap, subst}
use Rattle.std.specs.List.{filter_map, flat_map}
use Rattle.x86_64_model.specs.Mappings.{mappings_of}
use Rattle.x86_64_mappings.specs.Selections.{is_mapping_selected}
use Rattle.ptdump_check.specs.Loaded.{words_loaded}
use Rattle.ptdump_engine.specs.Reports.{pages_text}
use Rattle.ptdump_engine.specs.Said.{line_of}
use Rattle.ptdump_engine.specs.private.Counting.{AreCounted}
use Rattle.ptdump_engine.specs.private.Listed.{said_of_page}
use Rattle.ptdump_engine.proofs.Told.{lines_of_each, put_since, said_of_each}
use Rattle.ptdump_engine.proofs.report.write_pages.Goals as goal

pub returns : goal.returns
unfolding pages_text
returns g c =
    let puts = g.O.Lines.puts in
    let L = g.L.LevelCount.LEVELS in
    let loaded = c.args.loaded.now in
    let T = words_loaded loaded in
    let form = c.args.form in
    let columns = c.args.listing.columns in
    let layout = c.args.listing.layout in
    let said = said_of_page columns c.args.listing.has_names layout L in
    let begun = c.new-lines.result in
    let end = c.tell_mappings.new.output in
    let ms = filter (is_mapping_selected L c.args.selection) (mappings_of L T loaded.root) in
    let counted : AreCounted puts begun end (filter_map (λ x. Some (said x)) ms) = c.in_ok-tell_mappings.ensures in
    let name : c.tell_mappings.new.output.output.ghost_name ≡ c.new-lines.result.output.ghost_name = counted.output in
    let put : puts c.args.output.now c.tell_mappings.new.output.output.now (pages_text c.args.selection c.args.listing.has_names form columns layout L T loaded.root) =
    subst (puts c.args.output.now end.output.now) (ap (flat_map (line_of form)) (said_of_each said ms) ∙ lines_of_each form said ms)
    (put_since puts begun end _ form c.args.output.now c.new-lines.ensures.form c.new-lines.ensures.now counted) in
    search rules
