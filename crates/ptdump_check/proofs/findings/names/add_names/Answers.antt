use Rattle.std.proofs.Common.{◌≡◌, ◌∙◌, ◌++◌, ℕ, [], Option, None, Some, get_or, option_and_then, option_map, sym, ap, append_assoc, append-nil, arith}
use Rattle.std.specs.List.{cons_option, filter_map, range_with_len}
use Rattle.std.specs.Option.{option_copied}
use Rattle.x86_64_model.specs.Memory.{identity_places, words_of}
use Rattle.x86_64_model.specs.PageWalk.{read}
use Rattle.x86_64_model.specs.Path.{indices}
use Rattle.ptdump_check.specs.Findings.{name_by, names_in}
use Rattle.ptdump_check.specs.declared.findings.names.Name.{Name}
use Rattle.ptdump_check.proofs.Found.{filter_nothing, range_more}
use Rattle.ptdump_check.proofs.findings.names.add_names.Goals as goal

pub returns-in_default : goal.returns-in_default
unfolding names_in
returns-in_default c =
    let T = words_of c.args.memory.now identity_places in
    let f = c.args.frame in
    let none : T f ≡ None = sym c.table_in.ensures ∙ ap option_copied c.in_default.is in
    sym (append-nil c.args.names.now.items) ∙ ap (λ ns. c.args.names.now.items ++ ns)
    (sym (filter_nothing (λ i. option_and_then (name_by (record { table = f; index = i })) (read T f i)) (λ i. ap (λ o. option_and_then (name_by (record { table = f; index = i })) (option_map (λ words. get_or words i 0) o)) none) indices))

pub loop-index-preserved : goal.loop-index-preserved
loop-index-preserved c =
    let T = words_of c.args.memory.now identity_places in
    let f = c.args.frame in
    let i = c.loop-index.index in
    let at : ℕ → Option Name = λ i. option_and_then (name_by (record { table = f; index = i })) (read T f i) in
    let there : T f ≡ Some c.in-Some.table.now = sym c.table_in.ensures ∙ ap option_copied c.in-Some.is in
    let name : at i ≡ c.of.result =
    ap (λ o. option_and_then (name_by (record { table = f; index = i })) (option_map (λ words. get_or words i 0) o)) there
    ∙ ap (name_by (record { table = f; index = i })) (sym c.index.ensures.0)
    ∙ sym c.of.ensures in
    c.in_ok-add_name.ensures
    ∙ ap (λ ns. ns ++ cons_option c.of.result []) c.loop-index.invariant
    ∙ append_assoc c.args.names.now.items (filter_map at (range_with_len 0 i)) (cons_option c.of.result [])
    ∙ ap (λ o. c.args.names.now.items ++ (filter_map at (range_with_len 0 i) ++ cons_option o [])) (sym name)
    ∙ ap (λ ns. c.args.names.now.items ++ ns) (sym (range_more at i))

pub returns : goal.returns
unfolding names_in indices
returns c =
    let T = words_of c.args.memory.now identity_places in
    let f = c.args.frame in
    let end : c.loop-index.index ≡ 512 = omega (arith, c.loop-index-test.false, c.loop-index.auto.index-end) in
    c.loop-index.invariant ∙ ap (λ n. c.args.names.now.items ++ filter_map (λ i. option_and_then (name_by (record { table = f; index = i })) (read T f i)) (range_with_len 0 n)) end
