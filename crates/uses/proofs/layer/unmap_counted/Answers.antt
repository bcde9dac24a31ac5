use Rattle.std.proofs.Common.{◌≡◌, rules}
use Rattle.x86_64_model.proofs.Lemmas.Machines.WordsAlone.{in_words, changes_alone}
use Rattle.x86_64_model.specs.Call.{Call, Unmap}
use Rattle.x86_64_model.specs.Layout.{Layout}
use Rattle.x86_64_model.specs.Memory.{Memory}
use Rattle.x86_64_model.specs.Hierarchy.{◌laid_in◌, Hierarchy, Does}
use Rattle.x86_64_model.specs.Refusal.{Answer}
use Rattle.uses.proofs.layer.unmap_counted.Goals as goal

-- the effect of a call on a hierarchy is its effect on the memory that was lent
owner_does : {Lent : Type 0} (h after : Hierarchy Lent) (call : Call) (answer : Answer) → Does h call answer after
    → (layout : Layout) (memory last : Memory) → h.layout ≡ layout → h.memory ≡ memory → after.memory ≡ last → Does (layout laid_in memory) call answer (layout laid_in last)
owner_does h after call answer does layout memory last layout_is memory_is last_is =
    in_words h after layout memory last layout_is memory_is last_is does.keeps.layout (λ before last. Does before call answer last) (changes_alone does)

pub returns : goal.returns
returns g c = owner_does _ _ (Unmap g.S.PageSize.LEVEL c.args.page) _ c.unmap_by_layer.ensures _ _ _ c.new-mapper.ensures.layout c.new-mapper.ensures.memory (search rules)
