use Rattle.std.proofs.Common.{◌≡◌, ◌+◌, ap, sym, ◌∙◌, subst, refl, IsSome}
use Rattle.std.specs.FinMap.{insert}
use Rattle.std.specs.Prelude.{slice_set}
use Rattle.x86_64_model.specs.Memory.{word, words_of}
use Rattle.x86_64_spaces.specs.SpaceLayouts.{indices_of}
use Rattle.x86_64_spaces.specs.private.SpaceTables.{words_without}
use Rattle.x86_64_spaces.specs.private.Writes.{HasShared}
use Rattle.x86_64_spaces.proofs.Stored.{none_shared, passed_over, one_shared, words_stay, seen_same}
use Rattle.x86_64_spaces.proofs.making.fill_root.Goals as goal
use Rattle.x86_64_spaces.proofs.making.fill_root.Goals.{then-contains, else-contains}

pub loop-index-init : goal.loop-index-init
loop-index-init g c =
    let m = g.T.TableMemory.tables c.args.memory.now in
    let words = words_without (words_of m (g.P.PageTableFrameMapping.places c.args.mapping.now)) c.args.template.now in (
      none_shared (indices_of c.args.shared) (word words c.args.template.now.root) m c.args.place
          (g.T.TableMemory.tables (g.T.TableMemory.with_table c.args.memory.now c.args.place c.zero.new.self))
          (g.met.T.TableMemory.puts c.args.memory.now c.args.place c.zero.new.self c.requires.there ∙ ap (insert m c.args.place) c.zero.ensures),
      g.met.T.TableMemory.keeps_lent c.args.memory.now c.args.place c.zero.new.self,
    )

pub loop-index-preserved : goal.loop-index-preserved
loop-index-preserved g c =
    let shared = indices_of c.args.shared in let place = c.args.place in let template = c.args.template.now in
    let m = g.T.TableMemory.tables c.args.memory.now in let places = g.P.PageTableFrameMapping.places c.args.mapping.now in
    let words = word (words_without (words_of m places) template) template.root in
    let now = c.loop-index.memory in let n = g.T.TableMemory.tables now in let i = c.loop-index.index in
    let has = c.loop-index.invariant.0 in
    elim c.if-contains.branch [
      | then-contains w ↦
          let lent = w.table_at_mut-then-contains.result.now in let at = w.table_at_mut-then-contains.ensures.value in
          let written = slice_set lent i w.set_word.new.self in
          let same = seen_same (words_of n places) (words_of m places) template i (words_stay m n places place has.table has.stored template.root c.requires.apart) in
          subst (λ memory. HasShared shared words m place (i + 1) (g.T.TableMemory.tables memory) × (g.T.TableMemory.lent memory ≡ g.T.TableMemory.lent c.args.memory.now))
          (sym w.memory-is) (
            one_shared shared words m place n i has (sym c.contains.ensures ∙ w.if-contains.true) c.loop-index-test.true w.set_word.new.self
                (w.set_word.ensures ∙ w.word-word.ensures ∙ same) lent at
                (g.T.TableMemory.tables (g.T.TableMemory.with_table now place written))
                (g.met.T.TableMemory.puts now place written (subst IsSome (sym at) refl)),
            g.met.T.TableMemory.keeps_lent now place written ∙ c.loop-index.invariant.1,
          )
      | else-contains w ↦
          subst (λ memory. HasShared shared words m place (i + 1) (g.T.TableMemory.tables memory) × (g.T.TableMemory.lent memory ≡ g.T.TableMemory.lent c.args.memory.now))
          (sym w.memory-is) (
            passed_over shared words m place n i has (sym c.contains.ensures ∙ w.if-contains.false),
            c.loop-index.invariant.1,
          )
    ]
