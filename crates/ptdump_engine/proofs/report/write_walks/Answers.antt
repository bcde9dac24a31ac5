use Rattle.std.proofs.Common.{◌∙◌, ◌%◌, ◌&&◌, ap₂, sym, refl}
use Rattle.x86_64_model.specs.Position.{position_count}
use Rattle.ptdump_check.specs.Loaded.{words_loaded}
use Rattle.ptdump_json.specs.Accesses.{is_access_there}
use Rattle.ptdump_engine.specs.Reports.{are_several, headed_walk, walks_text}
use Rattle.ptdump_engine.specs.private.Puts.{puts_nothing}
use Rattle.ptdump_engine.proofs.Listed.{puts_more, all_more}
use Rattle.ptdump_engine.proofs.report.write_walks.Goals as goal

pub loop-address-init : goal.loop-address-init
unfolding walks_text
loop-address-init g c = (puts_nothing g.W.Destination.contents c.args.output.now, refl)

pub loop-address-preserved : goal.loop-address-preserved
unfolding walks_text
loop-address-preserved g c =
    let L = g.L.LevelCount.LEVELS in
    let T = words_loaded c.args.loaded.now in
    let root = c.args.loaded.now.root in
    let asked = c.args.options in
    let xs = c.args.addresses.now in
    let i = c.loop-address.address-index in (
      puts_more g.W.Destination.contents (headed_walk c.args.form (are_several xs) L T root asked) c.args.output.now c.loop-address.output c.write_headed_walk.new.output xs i 0
          c.loop-address-test.true c.loop-address.invariant.0 c.in_ok-arrives.ensures.text,
      ap₂ (λ b d. b && d) c.loop-address.invariant.1 c.in_ok-arrives.ensures.arrives
          ∙ sym (all_more (λ a. is_access_there asked.controls asked.access L T root (a % position_count L)) xs i c.loop-address-test.true),
    )
