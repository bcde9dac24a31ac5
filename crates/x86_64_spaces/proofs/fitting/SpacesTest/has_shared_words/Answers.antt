use Rattle.std.proofs.Common.{⊎_elim, arith, refl, sym, ◌∙◌}
use Rattle.std.proofs.lemmas.Bool.{cases_lt}
use Rattle.x86_64_model.specs.Memory.{words_of}
use Rattle.x86_64_model.proofs.Lemmas.Hierarchies.Held.{word_past}
use Rattle.x86_64_spaces.specs.private.SpaceTables.{words_without, grouped_at, owner}
use Rattle.x86_64_spaces.proofs.fitting.SpacesTest.has_shared_words.Goals as goal

pub returns : goal.returns
returns g c =
    let words = words_of (g.T.TableMemory.tables c.args.self.now.memory.now) (g.P.PageTableFrameMapping.places c.args.self.now.mapping.now) in
    let list = g.S.SpaceList.spaces c.args.spaces.now in let s = grouped_at list c.args.n in (
      λ _ i. ⊎_elim
          (λ small. c.loop-index.invariant i (omega (arith, small, c.loop-index-test.false)))
          (λ past. word_past (words_without words s.space) s.space.root i past
          ∙ sym (word_past (words_without words (owner list s i).space) (owner list s i).space.root i past))
          (cases_lt i 512),
      λ _. refl,
    )
