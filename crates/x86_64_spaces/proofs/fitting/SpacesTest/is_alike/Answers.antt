use Rattle.std.proofs.Common.{◌≡◌, ◌-◌, suc, true, false, sym, ◌∙◌, subst, arith}
use Rattle.x86_64_model.specs.Memory.{words_of}
use Rattle.x86_64_model.specs.private.Tables.{NoneHuge}
use Rattle.x86_64_spaces.specs.private.SpaceTables.{words_without, grouped_at}
use Rattle.x86_64_spaces.proofs.fitting.SpacesTest.is_alike.Goals as goal
use Rattle.x86_64_spaces.proofs.fitting.SpacesTest.is_alike.Goals.{then-names_itself, else-names_itself}

pub returns-then-none_huge : goal.returns-then-none_huge
returns-then-none_huge g c =
    let self = c.args.self.now in let space = (grouped_at (g.S.SpaceList.spaces c.args.spaces.now) c.args.n).space in
    let words = words_of (g.T.TableMemory.tables self.memory.now) (g.P.PageTableFrameMapping.places self.mapping.now) in
    let n = g.L.LevelCount.LEVELS in
    let levels : n - 1 ≡ suc ((n - 1) - 1) = let some = g.L.LevelCount.at_least_four in omega (arith, some) in
    elim c.if-names_itself.branch [
      | then-names_itself w ↦
          let low = rw (c.test_at.ensures, c.space_at-root.ensures, w.levels_below.ensures) at w.none_huge.ensures.0 (sym w.value-is ∙ c.if-none_huge.true) in (
            λ same. record {
              self = (rw c.test_at.ensures at c.names_itself.ensures).0 w.if-names_itself.true;
              none_huge = subst (λ n. NoneHuge n (words_without words space) space.root) levels low;
              alike = c.has_shared_words.ensures.0 same;
            },
            λ like. c.has_shared_words.ensures.1 like.alike,
          )
      | else-names_itself w ↦ absurd (let t : true ≡ false = sym c.if-none_huge.true ∙ w.value-is ∙ w.if-names_itself.false in cc)
    ]
