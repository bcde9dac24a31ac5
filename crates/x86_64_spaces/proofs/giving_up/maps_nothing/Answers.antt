use Rattle.std.proofs.Common.{⊎_elim, arith, refl}
use Rattle.std.proofs.lemmas.Bool.{cases_lt}
use Rattle.x86_64_model.specs.Memory.{words_of}
use Rattle.x86_64_model.proofs.Lemmas.Hierarchies.Held.{word_past}
use Rattle.x86_64_spaces.specs.private.SpaceTables.{words_without}
use Rattle.x86_64_spaces.proofs.giving_up.maps_nothing.Goals as goal

pub returns : goal.returns
returns g c =
    let words = words_of (g.T.TableMemory.tables c.args.memory.now) (g.P.PageTableFrameMapping.places c.args.mapping.now) in
    let space = c.args.space.now in (
      λ _ i off. ⊎_elim
          (λ small. c.loop-index.invariant i (omega (arith, small, c.loop-index-test.false)) off)
          (λ past. word_past (words_without words space) space.root i past)
          (cases_lt i 512),
      λ _. refl,
    )
