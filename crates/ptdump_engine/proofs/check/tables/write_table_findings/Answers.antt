use Rattle.std.proofs.Common.{◌++◌, refl}
use Rattle.std.specs.List.{filter_map}
use Rattle.x86_64_model.specs.Memory.{identity_places, words_of}
use Rattle.ptdump_check.specs.Findings.{all_named_often, findings_by, flawed_entries, missing}
use Rattle.ptdump_check.specs.declared.findings.finding.EntryFlaw.TheVariants as flaws
use Rattle.ptdump_engine.specs.CheckReports.{said_of}
use Rattle.ptdump_engine.proofs.BothLines.{both_lines}
use Rattle.ptdump_json.proofs.Results.{on_ok}
use Rattle.ptdump_engine.proofs.check.tables.write_table_findings.Goals as goal

pub returns : goal.returns
returns g c =
    let subject = c.args.subject.now in
    let T = words_of subject.memory.now identity_places in
    let Lines = g.O.LineOutput.Lines in
    let parts = g.O.LineOutput.parts in
    let often = all_named_often subject.names.now subject.root in
    let lacking = filter_map (missing T) subject.names.now in
    let huge = flawed_entries flaws.HugePage T subject.tables.now in
    let begun = c.args.output.now in
    let reserved = flawed_entries (flaws.ReservedBits subject.processor) T subject.tables.now in
    let before = findings_by subject.processor T subject.root subject.tables.now subject.names.now in
    on_ok c.write_each.result (λ last.
    both_lines Lines parts said_of begun c.write_flawed_entries-2.new.output c.write_each.new.output before subject.reached.now (before ++ subject.reached.now) refl
    (both_lines Lines parts said_of begun c.write_flawed_entries.new.output c.write_flawed_entries-2.new.output (often ++ lacking ++ huge) reserved before refl
    (both_lines Lines parts said_of begun c.write_missing.new.output c.write_flawed_entries.new.output (often ++ lacking) huge (often ++ lacking ++ huge) refl
    (both_lines Lines parts said_of begun c.write_named_often.new.output c.write_missing.new.output often lacking (often ++ lacking) refl c.in_ok-write_named_often.ensures c.in_ok-write_missing.ensures)
    c.in_ok-write_flawed_entries.ensures)
    c.in_ok-write_flawed_entries-2.ensures)
    last)
    c.write_each.ensures
