use Rattle.std.proofs.Common.{refl}
use Rattle.x86_64_dump.specs.Loaded.{frames_in, loaded_words}
use Rattle.ptdump_check.specs.Findings.{flawed_entries, processor, tables_from_level}
use Rattle.ptdump_check.specs.declared.findings.finding.EntryFlaw.TheVariants as flaws
use Rattle.ptdump_engine.specs.CheckReports.{said_of}
use Rattle.ptdump_check.specs.ReservedEntries.{reserved_entries}
use Rattle.ptdump_engine.proofs.BothLines.{both_lines}
use Rattle.ptdump_json.proofs.Results.{on_ok}
use Rattle.ptdump_engine.proofs.reserved.write_reserved_entries.Goals as goal

pub returns : goal.returns
returns g c =
    let T = loaded_words c.args.tables.now in
    let ts = tables_from_level 1 (frames_in c.args.tables.now) in
    on_ok c.write_flawed_by_level-2.result (λ last.
    both_lines g.O.LineOutput.Lines g.O.LineOutput.parts said_of c.args.output.now c.write_flawed_by_level.new.output c.write_flawed_by_level-2.new.output
    (flawed_entries flaws.HugePage T ts) (flawed_entries (flaws.ReservedBits processor) T ts) (reserved_entries T ts) refl
    c.in_ok-write_flawed_by_level.ensures last)
    c.write_flawed_by_level-2.ensures
