use Rattle.std.proofs.Common.{refl, subst, sym}
use Rattle.std.proofs.lemmas.Grind.{put_two}
use Rattle.std.specs.Fmt.{HasWritten}
use Rattle.x86_64_mappings.specs.Texts.{region_text}
use Rattle.ptdump_json.specs.Columns.{aligned_region, region_in}
use Rattle.ptdump_json.specs.ListedAreas.{area_text}
use Rattle.ptdump_json.proofs.listing.ListedRegionDisplay.fmt.Goals as goal
use Rattle.ptdump_json.proofs.listing.ListedRegionDisplay.fmt.Goals.{in-Plain+in_ok-write-in-Plain, in-Aligned+in_ok-write_aligned_region-in-Aligned}

pub returns-clause-writes : goal.returns-clause-writes
returns-clause-writes g c = λ plain ok.
    let took = g.W.Write.write_str_gives in
    let L = g.L.LevelCount.LEVELS in
    let f = c.args.f.now in
    let listed = c.args.self.now in
    let text = region_in listed.listing.columns L listed.region in
    let front : HasWritten took f text c.match-self.f = elim c.match-self.branch [
      | in-Plain+in_ok-write-in-Plain w ↦
          subst (λ columns. HasWritten took f (region_in columns L listed.region) c.match-self.f) (sym w.in-Plain.is)
          (subst (HasWritten took f (region_text L listed.region)) (sym w.f-is) (w.in_ok-write-in-Plain.ensures.writes plain refl))
      | in-Aligned+in_ok-write_aligned_region-in-Aligned w ↦
          subst (λ columns. HasWritten took f (region_in columns L listed.region) c.match-self.f) (sym w.in-Aligned.is)
          (subst (HasWritten took f (aligned_region L listed.region)) (sym w.f-is) (w.in_ok-write_aligned_region-in-Aligned.ensures plain refl))
    ] in
    put_two took f c.match-self.f c.write_area.new.f text (area_text listed.area) _ front (c.write_area.ensures front.plain ok) refl
