use Rattle.std.proofs.Common.{◌∙◌, Some, filter, subst}
use Rattle.x86_64_model.specs.Regions.{regions_of}
use Rattle.x86_64_mappings.specs.Selections.{is_selected}
use Rattle.ptdump_check.specs.Findings.{has_flaw}
use Rattle.ptdump_check.specs.Loaded.{words_loaded}
use Rattle.ptdump_engine.specs.CheckReports.{said_of_flawed}
use Rattle.ptdump_json.proofs.Results.{on_ok}
use Rattle.ptdump_engine.proofs.Told.{said_of_each, said_of_passing}
use Rattle.ptdump_engine.proofs.check.regions.write_flawed.Goals as goal

pub returns : goal.returns
returns g c =
    let L = g.L.LevelCount.LEVELS in
    let loaded = c.args.loaded.now in
    let flaw = c.args.flaw in
    let rs = filter (is_selected L c.args.selection.now) (regions_of L (words_loaded loaded) loaded.root) in
    on_ok c.tell_regions.result (subst (g.O.LineOutput.Lines c.args.output.now c.tell_regions.new.output)
    (said_of_passing (has_flaw L flaw) (λ r. Some (said_of_flawed L flaw r)) rs ∙ said_of_each (said_of_flawed L flaw) (filter (has_flaw L flaw) rs)))
    c.tell_regions.ensures
