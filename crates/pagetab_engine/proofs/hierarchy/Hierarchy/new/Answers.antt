use Rattle.std.proofs.Common.{⊎_elim, refl, sym, subst}
use Rattle.pagetab_engine.specs.Hierarchy.{IsCopy}
use Rattle.pagetab_engine.specs.declared.arguments.Mode.{Mode}
use Rattle.pagetab_engine.proofs.Images.{empty_copy}
use Rattle.pagetab_engine.proofs.hierarchy.Hierarchy.new.Goals as goal
use Rattle.pagetab_engine.proofs.hierarchy.Hierarchy.new.Goals.{in-Direct, in-Pair}

pub returns : goal.returns
returns c =
    let frames = c.in_ok-new.field-0 in let twin = c.in_ok-new-2.field-0 in
    let made = c.in_ok-new.ensures in let copied = c.in_ok-new-2.ensures in
    let copy : IsCopy c.args.arguments.mode frames twin =
    elim c.match-arguments.branch [
      | in-Direct w ↦ ⊎_elim
          (λ at. subst (λ (mode : Mode). IsCopy mode frames twin) (sym at.1) tt)
          (⊎_elim (λ at. subst (λ (mode : Mode). IsCopy mode frames twin) (sym at.1) tt)
          (λ at. subst (λ (mode : Mode). IsCopy mode frames twin) (sym at.2) tt)) w.in-Direct.is
      | in-Pair w ↦ subst (λ (mode : Mode). IsCopy mode frames twin) (sym w.in-Pair.is)
          (empty_copy w.in-Pair.field-0 w.in-Pair.field-1 frames twin c.args.arguments.places c.match-arguments.copied_places w.copied_places-is made.memory copied.memory made.pool copied.pool made.limit copied.limit)
    ] in
    record { mode = refl; memory = made.memory; free = made.pool; limit = made.limit; copy = copy }
