use Rattle.std.proofs.Common.{◌≡◌, ◌∙◌, ◌==◌, ◌++◌, ℕ, Bool, if◌then◌else◌, List, [], filter, length, map, refl, sym, ap, ap₂, subst}
use Rattle.std.specs.List.{flat_map}
use Rattle.x86_64_dump.specs.Loaded.{frames_of}
use Rattle.x86_64_model.specs.Memory.{Words, identity_places, words_of}
use Rattle.x86_64_model.specs.Mappings.{mappings_of}
use Rattle.x86_64_model.specs.Regions.{regions_of}
use Rattle.ptdump_check.specs.Findings.{findings_by, frames_above, names_in, names_in_order, processor_of, table_findings, tables_from_level, tables_by_address}
use Rattle.ptdump_check.specs.ReachedTables.{all_reached}
use Rattle.ptdump_check.specs.Loaded.{HasAllTables, words_loaded}
use Rattle.ptdump_check.specs.WritableTables.{all_writable}
use Rattle.ptdump_check.specs.declared.findings.entry.Table.{Table}
use Rattle.ptdump_check.specs.declared.findings.finding.Finding.{Finding}
use Rattle.x86_64_mappings.specs.Selections.{is_selected}
use Rattle.ptdump_check.specs.declared.findings.flaw.Flaw.TheVariants.{WritableAndExecutable, UserInUpperHalf}
use Rattle.ptdump_check.specs.declared.findings.names.Name.{Name}
use Rattle.ptdump_check.specs.declared.loaded.Loaded.{Loaded}
use Rattle.ptdump_check.specs.declared.checking.Checking.{Checking}
use Rattle.ptdump_check.specs.Ascending.{Ascend}
use Rattle.ptdump_check.proofs.InOrder.{ascend_in_order}
use Rattle.ptdump_engine.specs.CheckReports.{alias_lines, check_text, finding_lines, flawed_lines, line_count, said_of, said_of_count}
use Rattle.ptdump_engine.specs.Output.{Puts}
use Rattle.x86_64_mappings.specs.declared.selection.Selection.{Selection}
use Rattle.x86_64_access.specs.declared.controls.Controls.{Controls}
use Rattle.ptdump_engine.specs.Said.{Said, line_of}
use Rattle.ptdump_engine.specs.declared.check.subject.Subject.{Subject}
use Rattle.ptdump_engine.specs.private.Checked.{finding_lines_by}
use Rattle.ptdump_engine.specs.private.Puts.{puts_both}
use Rattle.ptdump_engine.proofs.Counting.{none_counted}
use Rattle.ptdump_engine.proofs.check.write_findings.Goals as goal

-- the findings of tables to which mappings lead
abbrev mapped : Checking → (L : ℕ) → Words → (root : ℕ) → List Table → List Finding
mapped checking L T root tables = all_reached L T root tables ++ all_writable L T root checking.direct_map tables

-- the lines for the tables in order, their names and those that are reached are those of the report
all_lines : {X : Type 0} (checking : Checking) (L : ℕ) (loaded : Loaded X) (subject : Subject) → HasAllTables L loaded → subject.selection ≡ checking.selection → subject.processor ≡ processor_of checking → subject.memory.now ≡ loaded.tables.now.memory → subject.root ≡ loaded.root
    → subject.tables.now ≡ tables_by_address (frames_of loaded.tables.now.frames.items) → subject.names.now ≡ names_in_order (words_of subject.memory.now identity_places) subject.tables.now
    → subject.reached.now ≡ mapped checking L (words_of subject.memory.now identity_places) subject.root subject.tables.now
    → subject.aliases ≡ checking.aliases
    → finding_lines_by L loaded subject ≡ finding_lines checking L (words_loaded loaded) loaded.root
unfolding finding_lines table_findings
all_lines checking L loaded subject all selection processor memory root tables names reached aliases =
    let T = words_loaded loaded in
    let rs = regions_of L T loaded.root in
    let ms = mappings_of L T loaded.root in
    let lines_of : Bool → Selection → List Finding → List Said = λ b s fs.
    flawed_lines L WritableAndExecutable (filter (is_selected L s) rs) ++ flawed_lines L UserInUpperHalf (filter (is_selected L s) rs) ++ map said_of fs
    ++ (if b then alias_lines L s ms else []) in
    let lines = lines_of checking.aliases checking.selection in
    let W = words_of subject.memory.now identity_places in
    let found : Words → (root : ℕ) → List Table → List Finding = λ T r ts. findings_by (processor_of checking) T r ts (names_in_order T ts) ++ mapped checking L T r ts in
    ap₂ (λ b s. lines_of b s (findings_by subject.processor W subject.root subject.tables.now subject.names.now ++ subject.reached.now)) aliases selection
    ∙ ap (λ (p : Controls). lines (findings_by p W subject.root subject.tables.now subject.names.now ++ subject.reached.now)) processor
    ∙ ap (λ ns. lines (findings_by (processor_of checking) W subject.root subject.tables.now ns ++ subject.reached.now)) names
    ∙ ap (λ fs. lines (findings_by (processor_of checking) W subject.root subject.tables.now (names_in_order W subject.tables.now) ++ fs)) reached
    ∙ ap (λ m. lines (found (words_of m identity_places) subject.root subject.tables.now)) memory
    ∙ ap (λ r. lines (found T r subject.tables.now)) root
    ∙ ap (λ ts. lines (found T loaded.root ts)) (tables ∙ ap tables_by_address all)

ascend_tables : (levels : List (List ℕ)) → Ascend (λ (table : Table). table.frame) (tables_by_address levels)
unfolding tables_by_address
ascend_tables levels = ascend_in_order (λ table. table.frame) (tables_from_level 1 levels)

ascend_names : (T : Words) (tables : List Table) → Ascend (λ (name : Name). name.frame) (names_in_order T tables)
unfolding names_in_order
ascend_names T tables = ascend_in_order (λ name. name.frame) (flat_map (names_in T) (frames_above tables))

pub mapped_tables-requires : goal.mapped_tables-requires
mapped_tables-requires g c =
    subst (Ascend (λ (table : Table). table.frame)) (sym (c.deref-2.ensures.value ∙ c.in_ok-tables.ensures)) (ascend_tables (frames_of c.frames.result.now))

pub write_counted-requires-clause-names : goal.write_counted-requires-clause-names
write_counted-requires-clause-names g c =
    subst (Ascend (λ (name : Name). name.frame)) (sym (c.deref-4.ensures.value ∙ c.in_ok-names.ensures)) (ascend_names (words_of c.memory-memory.result.now identity_places) c.deref.result.now)

pub returns-clause-text : goal.returns-clause-text
unfolding check_text
returns-clause-text g c = λ all.
    let L = g.L.LevelCount.LEVELS in
    let loaded = c.args.loaded.now in
    let contents = g.W.Destination.contents in
    let subject : Subject = record { memory = c.memory-memory.result; selection = c.args.checking.selection; processor = c.processor_of.result; root = loaded.root; tables = c.deref-3.result; names = c.deref-4.result; reached = c.deref-5.result; aliases = c.args.checking.aliases } in
    let W = words_of c.memory-memory.result.now identity_places in
    let tables : c.deref-3.result.now ≡ tables_by_address (frames_of loaded.tables.now.frames.items) =
    c.deref-3.ensures.value ∙ c.in_ok-tables.ensures ∙ ap (λ fs. tables_by_address (frames_of fs)) c.frames.ensures in
    let names : c.deref-4.result.now ≡ names_in_order W c.deref-3.result.now =
    c.deref-4.ensures.value ∙ c.in_ok-names.ensures ∙ ap (names_in_order W) (c.deref.ensures.value ∙ sym c.deref-3.ensures.value) in
    let reached : c.deref-5.result.now ≡ mapped c.args.checking L W loaded.root c.deref-3.result.now =
    c.deref-5.ensures.value ∙ c.in_ok-reached.ensures ∙ ap (mapped c.args.checking L W loaded.root) (c.deref-2.ensures.value ∙ sym c.deref-3.ensures.value) in
    let same : finding_lines_by L loaded subject ≡ finding_lines c.args.checking L (words_loaded loaded) loaded.root = all_lines c.args.checking L loaded subject all refl c.processor_of.ensures c.memory-memory.ensures refl tables names reached refl in
    let form = c.args.form in
    let end = c.write_as.new.output in
    subst (λ ls. Puts contents c.args.output.now end (flat_map (line_of form) ls ++ line_of form (said_of_count (line_count ls)))) same
    (subst (λ n. Puts contents c.args.output.now end (flat_map (line_of form) (finding_lines_by L loaded subject) ++ line_of form (said_of_count n))) c.in_ok-count.ensures.count
    (puts_both contents c.args.output.now c.write_counted.new.output end _ _ c.in_ok-count.ensures.lines c.in_ok-write_as.ensures))

pub returns-clause-nothing : goal.returns-clause-nothing
returns-clause-nothing g c = λ all.
    let L = g.L.LevelCount.LEVELS in
    let loaded = c.args.loaded.now in
    let subject : Subject = record { memory = c.memory-memory.result; selection = c.args.checking.selection; processor = c.processor_of.result; root = loaded.root; tables = c.deref-3.result; names = c.deref-4.result; reached = c.deref-5.result; aliases = c.args.checking.aliases } in
    let W = words_of c.memory-memory.result.now identity_places in
    let tables : c.deref-3.result.now ≡ tables_by_address (frames_of loaded.tables.now.frames.items) =
    c.deref-3.ensures.value ∙ c.in_ok-tables.ensures ∙ ap (λ fs. tables_by_address (frames_of fs)) c.frames.ensures in
    let names : c.deref-4.result.now ≡ names_in_order W c.deref-3.result.now =
    c.deref-4.ensures.value ∙ c.in_ok-names.ensures ∙ ap (names_in_order W) (c.deref.ensures.value ∙ sym c.deref-3.ensures.value) in
    let reached : c.deref-5.result.now ≡ mapped c.args.checking L W loaded.root c.deref-3.result.now =
    c.deref-5.ensures.value ∙ c.in_ok-reached.ensures ∙ ap (mapped c.args.checking L W loaded.root) (c.deref-2.ensures.value ∙ sym c.deref-3.ensures.value) in
    let same : finding_lines_by L loaded subject ≡ finding_lines c.args.checking L (words_loaded loaded) loaded.root = all_lines c.args.checking L loaded subject all refl c.processor_of.ensures c.memory-memory.ensures refl tables names reached refl in
    ap (λ n. n == 0) c.in_ok-count.ensures.count ∙ none_counted (length (finding_lines_by L loaded subject)) ∙ ap (λ ls. length ls == 0) same
