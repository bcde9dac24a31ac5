use Rattle.std.proofs.Common.{◌≡◌, ◌∙◌, ◌^◌, ◌&&◌, false, get_or, ap, ap₂, sym, subst, nat_le, refl, arith}
use Rattle.std.proofs.lemmas.Bool.Decides.{nat_tests}
use Rattle.std.specs.List.{list_any}
use Rattle.x86_64_model.specs.Mappings.{mappings_of}
use Rattle.x86_64_mappings.specs.Wanted.{leads_to}
use Rattle.ptdump_check.specs.Loaded.{words_loaded}
use Rattle.ptdump_engine.specs.Output.{Puts}
use Rattle.ptdump_engine.specs.Reports.{are_several, find_text, headed_addresses}
use Rattle.ptdump_engine.specs.private.Puts.{puts_nothing}
use Rattle.ptdump_engine.proofs.Listed.{puts_more, all_more, none_passes}
use Rattle.ptdump_engine.proofs.report.write_found.Goals as goal

pub loop-address-init : goal.loop-address-init
unfolding find_text
loop-address-init g c = (puts_nothing g.W.Destination.contents c.args.output.now, refl)

pub new-physical-requires : goal.new-physical-requires
new-physical-requires g c =
    let low : nat_le (2 ^ 52) (get_or c.args.addresses.now c.loop-address.address-index 0) ≡ false =
    none_passes (λ a. nat_le (2 ^ 52) a) c.args.addresses.now c.loop-address.address-index c.requires c.loop-address-test.true in
    grind (arith, nat_tests)

pub loop-address-preserved : goal.loop-address-preserved
unfolding find_text
loop-address-preserved g c =
    let L = g.L.LevelCount.LEVELS in
    let T = words_loaded c.args.loaded.now in
    let root = c.args.loaded.now.root in
    let xs = c.args.addresses.now in
    let i = c.loop-address.address-index in
    let at = c.new-physical.ensures in (
      puts_more g.W.Destination.contents (headed_addresses c.args.form (are_several xs) L T root) c.args.output.now c.loop-address.output c.write_headed_addresses.new.output xs i 0
          c.loop-address-test.true c.loop-address.invariant.0
          (subst (λ a. Puts g.W.Destination.contents c.loop-address.output c.write_headed_addresses.new.output (headed_addresses c.args.form (are_several xs) L T root a)) at c.in_ok-is_found.ensures.text),
      ap₂ (λ b d. b && d) c.loop-address.invariant.1 (c.in_ok-is_found.ensures.found ∙ ap (λ a. list_any (leads_to a) (mappings_of L T root)) at)
          ∙ sym (all_more (λ a. list_any (leads_to a) (mappings_of L T root)) xs i c.loop-address-test.true),
    )
