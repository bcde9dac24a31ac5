use Rattle.std.proofs.Common.{refl}
use Rattle.std.proofs.lemmas.Result.{err_from_is_err_and}
use Rattle.x86_64_c.proofs.EntryChanges.{valid_over}
use Rattle.x86_64_c.proofs.reads.TranslateOperation.execute.Goals as goal

pub returns-in_err-address-clause-bad : goal.returns-in_err-address-clause-bad
returns-in_err-address-clause-bad g c =
    let e = err_from_is_err_and c.from_residual.result c.from_residual.ensures.1 in
    rw (e.1, c.in_err-address.ensures.bad, e.2) refl

pub returns-in-Mapped-clause-good : goal.returns-in-Mapped-clause-good
returns-in-Mapped-clause-good g c = c.in_ok-address.ensures.good

pub new-mapper-requires : goal.new-mapper-requires
new-mapper-requires g c = c.requires.may c.in_ok-address.ensures.good

pub translate-requires : goal.translate-requires
translate-requires g c = valid_over _ _ _ _ c.new-mapper.ensures.layout c.new-mapper.ensures.memory (c.requires.may c.in_ok-address.ensures.good)
