use Rattle.std.proofs.Common.{◌∙◌, ap, subst}
use Rattle.std.specs.List.{flat_map}
use Rattle.ptdump_engine.specs.Output.{Puts}
use Rattle.ptdump_engine.specs.private.Roots.{number_at}
use Rattle.ptdump_engine.specs.private.Puts.{puts_nothing}
use Rattle.ptdump_engine.proofs.Listed.{all_placed, puts_placed}
use Rattle.ptdump_engine.proofs.Turns.{numbers_joined}
use Rattle.ptdump_engine.proofs.roots.write_numbers.Goals as goal

pub loop-index-init : goal.loop-index-init
loop-index-init g c = puts_nothing g.W.Destination.contents c.args.output.now

pub loop-index-preserved : goal.loop-index-preserved
loop-index-preserved g c =
    puts_placed g.W.Destination.contents (λ (i, n). number_at i n) c.args.output.now c.loop-index.output c.write_number.new.output c.args.numbers.now c.loop-index.index 0 c.loop-index-test.true
    c.loop-index.invariant c.in_ok-write_number.ensures

pub returns : goal.returns
returns g c =
    subst (Puts g.W.Destination.contents c.args.output.now c.loop-index.output)
    (ap (flat_map (λ (i, n). number_at i n)) (all_placed c.args.numbers.now c.loop-index.index c.loop-index-test.false) ∙ numbers_joined c.args.numbers.now) c.loop-index.invariant
