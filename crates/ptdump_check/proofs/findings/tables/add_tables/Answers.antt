use Rattle.std.proofs.Common.{◌≡◌, ◌∙◌, ◌++◌, ◌∷◌, [], ℕ, map, take, sym, ap, append_assoc}
use Rattle.std.proofs.lemmas.List.{map_more, take_all}
use Rattle.ptdump_check.specs.declared.findings.entry.Table.{Table}
use Rattle.ptdump_check.proofs.findings.tables.add_tables.Goals as goal

pub loop-frame-preserved : goal.loop-frame-preserved
loop-frame-preserved c =
    let i = c.loop-frame.frame-index in
    let frames = c.args.frames.now in
    let before = c.args.tables.now.items in
    let frame = c.frame-item.result in
    let table : ℕ → Table = λ f. record { frame = f; level = c.args.level } in
    c.in_ok-push.ensures.items
    ∙ ap (λ tables. tables ++ table frame ∷ []) c.loop-frame.invariant
    ∙ append_assoc before (map table (take i frames)) (table frame ∷ [])
    ∙ ap (λ f. before ++ (map table (take i frames) ++ table f ∷ [])) c.frame-item.is
    ∙ ap (λ tables. before ++ tables) (sym (map_more table frames i frame c.loop-frame-test.true))

pub returns : goal.returns
returns c =
    let table : ℕ → Table = λ f. record { frame = f; level = c.args.level } in
    c.loop-frame.invariant ∙ ap (λ fs. c.args.tables.now.items ++ map table fs) (take_all c.loop-frame.frame-index c.args.frames.now c.loop-frame-test.false)
