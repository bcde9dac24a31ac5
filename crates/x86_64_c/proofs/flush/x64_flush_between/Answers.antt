use Rattle.std.proofs.Common.{None, refl, sym, ap, ◌∙◌}
use Rattle.x86_64.specs.FlushesDue.{rank}
use Rattle.x86_64_c.proofs.flush.x64_flush_between.Goals as goal

pub returns : goal.returns
returns c = λ L q short at.
    rw (sym c.from_word.ensures, sym c.from_word-2.ensures) (c.number_of.ensures ∙ ap rank (c.flush_between.ensures L None q short at refl))
