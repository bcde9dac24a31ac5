use Rattle.std.proofs.Common.{◌≡◌, ◌∙◌, ap}
use Rattle.x86_64_mappings.specs.Summaries.{summary_of}
use Rattle.x86_64_mappings.specs.Wanted.{asked_mappings, asked_of}
use Rattle.x86_64_model.specs.Mappings.{mappings_of}
use Rattle.x86_64_model.specs.Memory.{identity_places}
use Rattle.ptdump_check.specs.Loaded.{words_loaded}
use Rattle.ptdump_check.proofs.Asked.{all_asked}
use Rattle.ptdump_engine.proofs.totals.Totals.of.Goals as goal
use Rattle.ptdump_engine.proofs.totals.Totals.of.Goals.{in-Some, in-None}

pub returns-clause-mapped : goal.returns-clause-mapped
unfolding summary_of
returns-clause-mapped g c = λ is.
    let L = g.L.LevelCount.LEVELS in
    let loaded = c.args.loaded.now in
    let asked = asked_of (λ memory. memory) (λ mapping. identity_places) loaded.summaries.now in
    let all = all_asked loaded is L loaded.root in
    elim c.match-of.branch [
      | in-Some w ↦
          let summary : w.in-Some.summary ≡ summary_of (mappings_of L (words_loaded loaded) loaded.root) =
          w.in-Some.ensures ∙ ap (λ level. summary_of (asked_mappings asked level loaded.root)) c.LEVELS.ensures ∙ ap summary_of all in
          (ap (λ pair. pair.0) w.mappings-is ∙ ap (λ s. s.count) summary, ap (λ pair. pair.1) w.mappings-is ∙ ap (λ s. s.bytes) summary)
      | in-None w ↦ (ap (λ pair. pair.0) w.mappings-is ∙ w.count_mappings.ensures.count, ap (λ pair. pair.1) w.mappings-is ∙ w.count_mappings.ensures.bytes)
    ]
