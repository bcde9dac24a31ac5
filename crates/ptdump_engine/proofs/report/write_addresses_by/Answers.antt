use Rattle.std.proofs.Common.{rules, ◌≡◌, map, subst}
use Rattle.ptdump_engine.specs.private.Asked.{mappings_asked}
use Rattle.ptdump_engine.specs.private.Counting.{AreCounted}
use Rattle.ptdump_engine.specs.private.Finding.{said_of_found, visited_lines}
use Rattle.ptdump_engine.proofs.Told.{lines_of_each, put_since, some_counted}
use Rattle.ptdump_engine.proofs.report.write_addresses_by.Goals as goal

pub returns-clause-text : goal.returns-clause-text
returns-clause-text g c =
    let puts = g.O.Lines.puts in
    let L = g.L.LevelCount.LEVELS in
    let said = said_of_found L c.args.physical in
    let form = c.args.form in
    let begun = c.new-lines.result in
    let end = c.tell_addresses.new.output in
    let ms = mappings_asked c.args.summaries.now L c.args.loaded.now.root in
    let counted : AreCounted puts begun end (map said ms) = c.in_ok-tell_addresses.ensures in
    let name : c.tell_addresses.new.output.output.ghost_name ≡ c.new-lines.result.output.ghost_name = counted.output in
    let put : puts c.args.output.now c.tell_addresses.new.output.output.now (visited_lines c.args.form L c.args.physical ms) =
    subst (puts c.args.output.now end.output.now) (lines_of_each form said ms)
    (put_since puts begun end (map said ms) form c.args.output.now c.new-lines.ensures.form c.new-lines.ensures.now counted) in
    search rules

pub returns-clause-found : goal.returns-clause-found
returns-clause-found g c =
    let L = g.L.LevelCount.LEVELS in
    let ms = mappings_asked c.args.summaries.now L c.args.loaded.now.root in
    rw c.count.ensures (some_counted (said_of_found L c.args.physical) ms c.new-lines.result.count c.tell_addresses.new.output.count c.new-lines.ensures.count c.in_ok-tell_addresses.ensures.count)
