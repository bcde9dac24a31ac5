use Rattle.std.proofs.Common.{◌∙◌, [], nat_eq, option_and_then, ap, subst}
use Rattle.std.specs.Map.{lookup}
use Rattle.x86_64_model.specs.Mappings.{mappings_of}
use Rattle.x86_64_model.proofs.Lemmas.Mappings.Placed.{mappings_fit}
use Rattle.x86_64_model.proofs.Lemmas.Mappings.Positions.{mappings_are_apart}
use Rattle.x86_64_mappings.specs.Kinds.{distinct}
use Rattle.x86_64_mappings.specs.Wanted.{asked_mappings, asked_of}
use Rattle.x86_64_mappings.proofs.Unselected.{all_selected}
use Rattle.ptdump_check.specs.Loaded.{words_loaded}
use Rattle.ptdump_check.specs.Aliasing.{frame_key, other_in, AreFirstsAfter}
use Rattle.ptdump_check.proofs.Asked.{all_asked}
use Rattle.ptdump_check.proofs.FirstAliases.{after_distinct}
use Rattle.ptdump_check.proofs.first_mappings.FirstMappings.of.Goals as goal

pub returns : goal.returns
returns g c =
    let L = g.L.LevelCount.LEVELS in
    let loaded = c.args.loaded.now in
    let T = words_loaded loaded in
    let firsts = c.visit_distinct_mappings.new.visitor in
    let visited : AreFirstsAfter firsts (distinct (mappings_of L T loaded.root)) =
    subst (λ ms. AreFirstsAfter firsts (distinct ms)) (all_selected L _ ∙ all_asked loaded c.requires L loaded.root)
    (c.in_ok-visit_distinct_mappings.ensures [] (record { pages = tt; others = λ f aligned r. ap (λ es. option_and_then (other_in r) (lookup (nat_eq (frame_key f)) es)) c.new.ensures.empty })) in
    record { after = after_distinct firsts (mappings_of L T loaded.root) visited; order = mappings_are_apart L T loaded.root; fit = mappings_fit L T loaded.root }
