use Rattle.std.proofs.Common.{rules, ◌≡◌, ◌∙◌, ◌+◌, ◌++◌, [], None, Some, false, get_or, map, option_map, sym, ap, subst, arith}
use Rattle.std.proofs.lemmas.List.Elements.{filter_map-append}
use Rattle.std.specs.List.{cons_option, filter_map, range_with_len}
use Rattle.std.specs.Option.{option_copied}
use Rattle.x86_64_model.specs.Memory.{identity_places, words_of}
use Rattle.x86_64_model.specs.Path.{indices}
use Rattle.ptdump_check.specs.Findings.{entries_in, entry_in_table, flaw_in}
use Rattle.ptdump_check.proofs.Flawless.{none_in}
use Rattle.ptdump_check.proofs.Found.{filter_nothing, range_more}
use Rattle.ptdump_engine.specs.CheckReports.{said_of}
use Rattle.ptdump_engine.proofs.BothLines.{both_lines}
use Rattle.ptdump_engine.proofs.flawed_entries.write_flawed_in.Goals as goal

pub returns-then-not-may_be_at : goal.returns-then-not-may_be_at
returns-then-not-may_be_at g c =
    let flaw = c.args.flaw in
    let T = words_of c.args.memory.now identity_places in
    let t = c.args.table.now in
    let not : c.may_be_at.result ≡ false = search rules in
    let nothing : filter_map (flaw_in flaw) (entries_in T t) ≡ [] = none_in flaw T t (c.may_be_at.ensures not) in
    subst (λ fs. g.O.LineOutput.Lines c.args.output.now c.args.output.now (map said_of fs)) (sym nothing) (g.O.LineOutput.nothing c.args.output.now)

pub returns-in_default : goal.returns-in_default
unfolding entries_in
returns-in_default g c =
    let T = words_of c.args.memory.now identity_places in
    let t = c.args.table.now in
    let none : T t.frame ≡ None = sym c.table_in.ensures ∙ ap option_copied c.in_default.is in
    let nothing : filter_map (flaw_in c.args.flaw) (filter_map (entry_in_table T t) indices) ≡ [] =
    ap (filter_map (flaw_in c.args.flaw)) (filter_nothing (entry_in_table T t) (λ i. ap (λ o. option_map (λ e. record { slot = record { table = t.frame; index = i }; level = t.level; word = e }) (option_map (λ words. get_or words i 0) o)) none) indices) in
    subst (λ fs. g.O.LineOutput.Lines c.args.output.now c.args.output.now (map said_of fs)) (sym nothing) (g.O.LineOutput.nothing c.args.output.now)

pub loop-index-init : goal.loop-index-init
loop-index-init g c = g.O.LineOutput.nothing c.args.output.now

pub loop-index-preserved : goal.loop-index-preserved
loop-index-preserved g c =
    let T = words_of c.args.memory.now identity_places in
    let t = c.args.table.now in
    let i = c.loop-index.index in
    let so_far = filter_map (entry_in_table T t) (range_with_len 0 i) in
    let there : T t.frame ≡ Some c.in-Some.words.now = sym c.table_in.ensures ∙ ap option_copied c.in-Some.is in
    let word : c.word.result ≡ get_or c.in-Some.words.now i 0 = search rules in
    let entry : entry_in_table T t i ≡ Some c.new-entry.result =
    ap (λ o. option_map (λ e. record { slot = record { table = t.frame; index = i }; level = t.level; word = e }) (option_map (λ words. get_or words i 0) o)) there
    ∙ ap (λ e. Some (record { slot = record { table = t.frame; index = i }; level = t.level; word = e })) (sym word)
    ∙ ap Some (sym c.new-entry.ensures) in
    both_lines g.O.LineOutput.Lines g.O.LineOutput.parts said_of c.args.output.now c.loop-index.output c.write_finding.new.output
    (filter_map (flaw_in c.args.flaw) so_far) (cons_option c.of_entry.result []) (filter_map (flaw_in c.args.flaw) (filter_map (entry_in_table T t) (range_with_len 0 (i + 1))))
    (ap (filter_map (flaw_in c.args.flaw)) (range_more (entry_in_table T t) i)
    ∙ filter_map-append (flaw_in c.args.flaw) so_far (cons_option (entry_in_table T t i) [])
    ∙ ap (λ o. filter_map (flaw_in c.args.flaw) so_far ++ filter_map (flaw_in c.args.flaw) (cons_option o [])) entry
    ∙ ap (λ o. filter_map (flaw_in c.args.flaw) so_far ++ cons_option o []) (sym c.of_entry.ensures))
    c.loop-index.invariant c.in_ok-write_finding.ensures

pub returns : goal.returns
unfolding entries_in indices
returns g c =
    let T = words_of c.args.memory.now identity_places in
    let end : c.loop-index.index ≡ 512 = omega (arith, c.loop-index-test.false, c.loop-index.auto.index-end) in
    subst (λ n. g.O.LineOutput.Lines c.args.output.now c.loop-index.output (map said_of (filter_map (flaw_in c.args.flaw) (filter_map (entry_in_table T c.args.table.now) (range_with_len 0 n))))) end c.loop-index.invariant
