use Rattle.std.proofs.Common.{◌≡◌, ◌∙◌, ap, sym, Some}
use Rattle.x86_64_model.specs.Memory.{word, words_of}
use Rattle.x86_64_model.specs.private.Tables.{without_word}
use Rattle.std.specs.Prelude.{unwrap_or}
use Rattle.x86_64_tables.proofs.WordsSeen.{word-read, word-without_same, word-without_none, are_equal, not_equal}
use Rattle.x86_64_tables.proofs.phys_memory.hierarchy_view.HierarchyView.entry.Goals as goal
use Rattle.x86_64_tables.proofs.phys_memory.hierarchy_view.HierarchyView.entry.Goals.{in_default-via-in-Some+then-eq+else-index-from, in_default-via-in-Some+else-eq, in_default-via-in_default}

pub returns-in-Some : goal.returns-in-Some
returns-in-Some g c =
    let self = c.args.self.now in
    let words = words_of (g.T.TableMemory.tables self.memory.now) (g.P.PageTableFrameMapping.places self.mapping.now) in
    word-without_same c.in-Some.recursive self.root words c.args.frame c.args.index
    (are_equal c.args.frame self.root c.eq.result c.eq.ensures c.if-eq.true) (c.if-index-from.true ∙ c.from.ensures.0)
    ∙ ap (λ recursive. word (without_word recursive self.root words) c.args.frame c.args.index) (sym c.in-Some.is)

pub returns-in_default : goal.returns-in_default
returns-in_default g c =
    let self = c.args.self.now in
    let words = words_of (g.T.TableMemory.tables self.memory.now) (g.P.PageTableFrameMapping.places self.mapping.now) in
    ap (λ word. unwrap_or word 0) c.entry_at.ensures ∙ word-read words c.args.frame c.args.index c.requires
    ∙ word-without_none self.recursive self.root words c.args.frame c.args.index
    (λ r e f i. elim c.in_default.branch [
      | in_default-via-in-Some+then-eq+else-index-from w ↦ w.if-index-from.false (let s : Some r ≡ Some w.in-Some.recursive = sym e ∙ w.in-Some.is in let n = w.from.ensures.0 in cc)
      | in_default-via-in-Some+else-eq w ↦ not_equal c.args.frame self.root w.eq.result w.eq.ensures w.if-eq.false f
      | in_default-via-in_default w ↦ w.in_default.not-Some r e
    ])
