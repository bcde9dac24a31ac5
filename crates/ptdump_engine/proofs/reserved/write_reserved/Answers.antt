use Rattle.std.proofs.Common.{◌≡◌, ◌∙◌, ◌-◌, ◌^◌, if◌then◌else◌, ℕ, [], length, min, sym, ap, subst}
use Rattle.x86_64_dump.specs.Loaded.{frames_in}
use Rattle.ptdump_check.specs.Findings.{tables_from_level}
use Rattle.ptdump_check.specs.Loaded.{HasAllTables, words_loaded}
use Rattle.ptdump_check.specs.declared.loaded.Loaded.{Loaded}
use Rattle.ptdump_engine.specs.Output.{Puts}
use Rattle.ptdump_check.specs.ReservedEntries.{reserved_count, reserved_entries}
use Rattle.ptdump_engine.specs.Reserved.{reserved_line, reserved_note}
use Rattle.ptdump_json.proofs.Results.{on_ok}
use Rattle.ptdump_engine.proofs.reserved.write_reserved.Goals as goal

-- the tables that were read are all
counted : {X : Type 0} (L : ℕ) (loaded : Loaded X) → HasAllTables L loaded
    → min (length (reserved_entries (words_loaded loaded) (tables_from_level 1 (frames_in loaded.tables.now)))) (2 ^ 64 - 1) ≡ reserved_count L (words_loaded loaded) loaded.root
unfolding reserved_count
counted L loaded all = ap (λ levels. min (length (reserved_entries (words_loaded loaded) (tables_from_level 1 levels))) (2 ^ 64 - 1)) all

pub returns-then-lists_mappings : goal.returns-then-lists_mappings
returns-then-lists_mappings g c = λ all.
    let L = g.L.LevelCount.LEVELS in
    let loaded = c.args.loaded.now in
    let command = c.args.command.now in
    let wanted = reserved_count L (words_loaded loaded) loaded.root in
    let text : reserved_line c.in_ok-count.count ≡ reserved_note command L (words_loaded loaded) loaded.root =
    ap reserved_line (c.in_ok-count.ensures ∙ counted L loaded all)
    ∙ ap (λ lists. if lists then reserved_line wanted else []) (sym c.if-lists_mappings.true ∙ c.lists_mappings.ensures) in
    on_ok c.write_count.result (subst (Puts g.E.Destination.contents c.args.notes.now c.write_count.new.notes) text) c.write_count.ensures
