use Rattle.std.proofs.Common.{◌∙◌, ap, find, not, option_map, sym}
use Rattle.ptdump_engine.specs.Program.{argument_failure, is_canonical_address, level_count}
use Rattle.ptdump_engine.specs.declared.failure.Failure.TheVariants.{NotCanonical}
use Rattle.ptdump_engine.proofs.arguments.argument_failure.Goals as goal

pub returns-in_ok-address-in-Walk : goal.returns-in_ok-address-in-Walk
returns-in_ok-address-in-Walk c =
    let levels = c.args.levels in
    ap (option_map (λ a. NotCanonical a levels)) (c.in_ok-address-in-Walk.ensures ∙ ap (find (λ a. not (is_canonical_address (level_count levels) a))) c.deref.ensures.value)
    ∙ sym (ap (argument_failure levels) c.in-Walk.is)
