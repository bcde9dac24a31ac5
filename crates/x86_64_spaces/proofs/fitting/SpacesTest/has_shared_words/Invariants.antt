use Rattle.std.proofs.Common.{◌≡◌, ◌<◌, ℕ}
use Rattle.x86_64_spaces.specs.private.SpaceTables.{root_words, grouped_at, owner}
use Rattle.x86_64_spaces.proofs.fitting.SpacesTest.has_shared_words.Given as goal

abbrev pub invariant-loop-index : goal.invariant-loop-index
invariant-loop-index g l =
    let words = root_words (g.T.TableMemory.tables l.self.memory.now) (g.P.PageTableFrameMapping.places l.self.mapping.now) in
    let list = g.S.SpaceList.spaces l.spaces in let s = grouped_at list l.n in
    (i : ℕ) → i < l.index → words s.space i ≡ words (owner list s i).space i
