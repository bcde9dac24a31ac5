use Rattle.std.proofs.Common.{rules, ◌≡◌, ◌∙◌, ap, map}
use Rattle.std.proofs.lemmas.List.{take_all}
use Rattle.serde_json.specs.Data.{array}
use Rattle.serde_json.specs.View.{items_of, view}
use Rattle.serde_json.specs.declared.value.Value.{the_lemmas}
use Rattle.serde_json.specs.declared.value.Value as values
use Rattle.ptdump_json.specs.Json.{json_of_word}
use Rattle.ptdump_json.proofs.json.walks.words_to_json.Goals as goal

pub returns : goal.returns
returns c =
    let seen : view (values.Array c.loop-word.values) ≡ array (items_of (map view c.loop-word.values.items)) = search (rules, the_lemmas) in
    seen ∙ ap (λ ds. array (items_of ds)) (c.loop-word.invariant ∙ ap (map json_of_word) (take_all c.loop-word.word-index c.args.words.now c.loop-word-test.false))
