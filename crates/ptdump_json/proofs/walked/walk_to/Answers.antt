use Rattle.std.proofs.Common.{rules, ◌≡◌, ◌∙◌, ◌++◌, ◌∷◌, [], None, map, refl, sym, ap, ap₂}
use Rattle.std.proofs.lemmas.List.{map-append}
use Rattle.std.specs.List.{last_or}
use Rattle.x86_64_model.specs.Steps.{rights_in, steps}
use Rattle.x86_64_tables.proofs.StepsRead.{last_more, read_all, read_more, read_none}
use Rattle.ptdump_check.specs.Loaded.{words_loaded}
use Rattle.ptdump_json.specs.Walked.{walk_end_at}
use Rattle.ptdump_json.specs.Walks.{read_word, walk_end}
use Rattle.ptdump_json.proofs.WalkLaws.{is_walk}
use Rattle.ptdump_json.proofs.walked.walk_to.Goals as goal

pub loop-step-init : goal.loop-step-init
loop-step-init g c = (read_none c.into_iter-step-iterator.result, search rules, refl)

pub loop-step-preserved : goal.loop-step-preserved
loop-step-preserved g c =
    let before = c.loop-step.invariant in
    let read = c.loop-step.yielded in
    let step = c.in-Some.step in
    let added : c.push.new.self.items ≡ c.loop-step.words.items ++ c.of.result ∷ [] = search rules in (
      rw (c.below-rights.ensures, c.entry.ensures) (read_more _ _ _ _ _ _ before.0 c.in-Some.ensures.steps),
      added ∙ ap₂ (λ words word. words ++ word ∷ []) before.1 c.of.ensures ∙ sym (map-append read_word read (step ∷ [])),
      c.end_at-end.ensures ∙ ap (λ last. walk_end_at c.below-rights.result (walk_end c.position-position.result c.args.loaded.now.root last)) (sym (last_more None read step)),
    )

pub returns : goal.returns
returns g c =
    let T = words_loaded c.args.loaded.now in
    let L = g.L.LevelCount.LEVELS in
    let root = c.args.loaded.now.root in
    let before = c.loop-step.invariant in
    let all : c.into_iter-step-iterator.result ≡ steps T c.args.address L root = search rules in
    let read = read_all _ _ _ _ before.0 c.in-None.ensures.steps.0 ∙ all in
    is_walk L T root c.args.address _ c.loop-step.rights (before.1 ∙ ap (map read_word) read) (before.0.rights_are ∙ ap rights_in read)
    (before.2 ∙ (λ i. walk_end_at c.loop-step.rights (walk_end (c.position-position.ensures.value i) root (last_or None (read i)))))
