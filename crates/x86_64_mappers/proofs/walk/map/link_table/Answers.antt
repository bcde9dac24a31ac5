use Rattle.std.proofs.Common.{◌≡◌, true, false, bit_or, ap, ◌∙◌, subst, get_or, arith, IsSome}
use Rattle.std.specs.FinMap.{insert}
use Rattle.std.specs.Option.{is_some}
use Rattle.x86_64_model.specs.Layout.{Layout}
use Rattle.x86_64_model.specs.Hierarchy.{◌laid_in◌, words}
use Rattle.x86_64_mappers.proofs.Map.Linking.{same_layout, may_after, zeros_after, linked_after, cleared_after}
use Rattle.x86_64_mappers.proofs.walk.map.link_table.Goals as goal

pub name_table-requires-clause-cleared : goal.name_table-requires-clause-cleared
name_table-requires-clause-cleared g c =
    let s = c.args.mapper.now in
    let cleared = c.clear_unnamed-cleared in λ reaches.
    zeros_after (g.M.Tables.hierarchy s) (g.M.Tables.hierarchy cleared.new.self) (g.met.M.Tables.is_mapping s).distinct c.args.parents.now c.args.k c.args.table c.args.frame c.args.flags.0 c.requires.may
    cleared.result cleared.ensures.cleared (cleared.ensures.result ∙ reaches)

pub name_table-requires-clause-may : goal.name_table-requires-clause-may
name_table-requires-clause-may g c =
    let s = c.args.mapper.now in
    let cleared = c.clear_unnamed-cleared in
    may_after (g.M.Tables.hierarchy s) (g.M.Tables.hierarchy cleared.new.self) (g.met.M.Tables.is_mapping s).distinct c.args.parents.now c.args.k c.args.table c.args.frame c.args.flags.0 c.requires.may
    cleared.result cleared.ensures.cleared

pub returns-then-not-cleared-clause-linked : goal.returns-then-not-cleared-clause-linked
returns-then-not-cleared-clause-linked g c =
    let s = c.args.mapper.now in
    let f = c.args.frame in
    let cleared = c.clear_unnamed-cleared in
    let h = g.M.Tables.hierarchy s in
    let after = g.M.Tables.hierarchy cleared.new.self in
    let t = c.name_table.new.mapper in
    let n = (g.M.Tables.hierarchy t).memory in
    let apart = (g.met.M.Tables.is_mapping s).distinct in
    let done : cleared.result ≡ false = (let e = c.if-not-cleared.true in grind arith) in
    let kept = c.name_table.ensures.layout ∙ same_layout h after apart c.args.parents.now c.args.k c.args.table f c.args.flags.0 c.requires.may cleared.result cleared.ensures.cleared in
    let there = ap is_some c.table_mut.ensures.value in
    cleared_after h after apart c.args.parents.now c.args.k c.args.table f c.args.flags.0 c.requires.may cleared.result cleared.ensures.cleared done
    (get_or c.args.parents.now c.args.k 0) (bit_or f c.args.flags.0) n _ c.name_table.ensures.named (record {
      there = subst (λ (l : Layout). IsSome (words (l laid_in n) f)) kept there;
      after = g.met.M.TableAccess.puts t f c.zero.new.self there ∙ ap (λ (l : Layout). insert n (l.places.place f) c.zero.new.self) kept
          ∙ ap (insert n (h.layout.places.place f)) c.zero.ensures;
    })

pub returns-else-not-cleared-clause-linked : goal.returns-else-not-cleared-clause-linked
returns-else-not-cleared-clause-linked g c =
    let s = c.args.mapper.now in
    let cleared = c.clear_unnamed-cleared in
    let done : cleared.result ≡ true = (let e = c.if-not-cleared.false in grind arith) in
    linked_after (g.M.Tables.hierarchy s) (g.M.Tables.hierarchy cleared.new.self) (g.met.M.Tables.is_mapping s).distinct c.args.parents.now c.args.k c.args.table c.args.frame c.args.flags.0 c.requires.may
    cleared.result cleared.ensures.cleared done (get_or c.args.parents.now c.args.k 0) (bit_or c.args.frame c.args.flags.0) _ c.name_table.ensures.named
