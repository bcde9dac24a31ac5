use Rattle.std.proofs.Common.{rules, ◌≡◌, ◌∙◌, ap, sym, map, take, get_or, ◌++◌, ◌∷◌, []}
use Rattle.std.proofs.lemmas.List.{map-append, take_all, take_more}
use Rattle.serde_json.specs.Data.{array}
use Rattle.serde_json.specs.View.{items_of, view}
use Rattle.serde_json.specs.declared.value.Value.{the_lemmas}
use Rattle.serde_json.specs.declared.value.Value as values
use Rattle.ptdump_json.specs.Json.{json_count}
use Rattle.ptdump_json.proofs.json.group.numbers_to_json.Goals as goal

pub loop-number-preserved : goal.loop-number-preserved
loop-number-preserved c =
    let i = c.loop-number.number-index in
    let numbers = c.args.numbers.now in
    let so_far = c.loop-number.values.items in
    let both : map view so_far ++ (view c.from.result ∷ []) ≡ map json_count (take i numbers) ++ (json_count (get_or numbers i 0) ∷ []) = cc (c.loop-number.invariant, c.from.ensures) in
    ap (map view) c.in_ok-push.ensures.items ∙ map-append view so_far (c.from.result ∷ []) ∙ both
    ∙ sym (ap (map json_count) (take_more numbers i 0 c.loop-number-test.true) ∙ map-append json_count (take i numbers) (get_or numbers i 0 ∷ []))

pub returns : goal.returns
returns c =
    let seen : view (values.Array c.loop-number.values) ≡ array (items_of (map view c.loop-number.values.items)) = search (rules, the_lemmas) in
    seen ∙ ap (λ ds. array (items_of ds)) (c.loop-number.invariant ∙ ap (map json_count) (take_all c.loop-number.number-index c.args.numbers.now c.loop-number-test.false))
