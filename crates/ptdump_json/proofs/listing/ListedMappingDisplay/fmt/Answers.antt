use Rattle.std.proofs.Common.{List, refl, subst, sym, ℕ}
use Rattle.std.proofs.lemmas.Grind.{put_two}
use Rattle.std.specs.Fmt.{HasWritten}
use Rattle.x86_64_mappings.specs.Texts.{mapping_text}
use Rattle.ptdump_json.specs.Columns.{aligned_mapping, aligned_named, mapping_in}
use Rattle.ptdump_json.specs.ListedAreas.{area_text}
use Rattle.ptdump_json.specs.Names.{named_text}
use Rattle.ptdump_json.proofs.listing.ListedMappingDisplay.fmt.Goals as goal
use Rattle.ptdump_json.proofs.listing.ListedMappingDisplay.fmt.Goals.{in-Plain-false+in_ok-write-in-Plain-false, in-Plain-true+in_ok-write_named-in-Plain-true, in-Aligned-false+in_ok-write_aligned-in-Aligned-false, in-Aligned-true+in_ok-write_aligned_named-in-Aligned-true}

pub returns-clause-writes : goal.returns-clause-writes
returns-clause-writes g c = λ plain ok.
    let took = g.W.Write.write_str_gives in
    let L = g.L.LevelCount.LEVELS in
    let f = c.args.f.now in
    let listed = c.args.self.now in
    let text = mapping_in listed.listing.columns listed.listing.has_names L listed.mapping in
    let Given : List ℕ → Type 0 = λ text. HasWritten took f text c.match-self.f in
    let front : HasWritten took f text c.match-self.f = elim c.match-self.branch [
      | in-Plain-false+in_ok-write-in-Plain-false w ↦
          subst Given (λ k. mapping_in (sym w.in-Plain-false.is-0 k) (sym w.in-Plain-false.is-1 k) L listed.mapping)
          (subst (HasWritten took f (mapping_text L listed.mapping)) (sym w.f-is) (w.in_ok-write-in-Plain-false.ensures.writes plain refl))
      | in-Plain-true+in_ok-write_named-in-Plain-true w ↦
          subst Given (λ k. mapping_in (sym w.in-Plain-true.is-0 k) (sym w.in-Plain-true.is-1 k) L listed.mapping)
          (subst (HasWritten took f (named_text L listed.mapping)) (sym w.f-is) (w.in_ok-write_named-in-Plain-true.ensures plain refl))
      | in-Aligned-false+in_ok-write_aligned-in-Aligned-false w ↦
          subst Given (λ k. mapping_in (sym w.in-Aligned-false.is-0 k) (sym w.in-Aligned-false.is-1 k) L listed.mapping)
          (subst (HasWritten took f (aligned_mapping L listed.mapping)) (sym w.f-is) (w.in_ok-write_aligned-in-Aligned-false.ensures plain refl))
      | in-Aligned-true+in_ok-write_aligned_named-in-Aligned-true w ↦
          subst Given (λ k. mapping_in (sym w.in-Aligned-true.is-0 k) (sym w.in-Aligned-true.is-1 k) L listed.mapping)
          (subst (HasWritten took f (aligned_named L listed.mapping)) (sym w.f-is) (w.in_ok-write_aligned_named-in-Aligned-true.ensures plain refl))
    ] in
    put_two took f c.match-self.f c.write_area.new.f text (area_text listed.area) _ front (c.write_area.ensures front.plain ok) refl
