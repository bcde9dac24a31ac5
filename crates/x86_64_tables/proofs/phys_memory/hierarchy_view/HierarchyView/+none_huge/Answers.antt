use Rattle.std.proofs.Common.{sym, ◌∙◌, subst, ◌≡◌, ◌-◌, refl, true, false, arith}
use Rattle.x86_64_model.specs.Memory.{word}
use Rattle.x86_64_model.specs.private.Tables.{NoneHuge}
use Rattle.x86_64_model.proofs.Lemmas.Tables.Huge.{few_levels, all_words, one_word}
use Rattle.x86_64_tables.specs.Views.{seen}
use Rattle.x86_64_tables.proofs.WordsSeen.{is_named, named_at}
use Rattle.x86_64_tables.proofs.phys_memory.hierarchy_view.HierarchyView.+none_huge.Goals as goal

pub returns-then-is_huge : goal.returns-then-is_huge
returns-then-is_huge g t c =
    let self = c.args.self.now in
    let words = seen (g.T.TableMemory.tables self.memory.now) (g.P.PageTableFrameMapping.places self.mapping.now) self.root self.recursive in
    let w = word words c.args.frame c.loop-index.index in (
      λ t. cc,
      λ none. let e : true ≡ false = sym c.if-is_huge.true ∙ c.is_huge.ensures
          ∙ (one_word c.args.levels words c.args.frame c.if-levels-gt2.true none c.loop-index.index w refl).here in cc,
    )

pub returns-then-not-none_huge : goal.returns-then-not-none_huge
returns-then-not-none_huge g t c =
    let self = c.args.self.now in
    let words = seen (g.T.TableMemory.tables self.memory.now) (g.P.PageTableFrameMapping.places self.mapping.now) self.root self.recursive in
    let w = word words c.args.frame c.loop-index.index in
    let below = sym c.in-Some.is ∙ c.table_below.ensures in (
      λ t. cc,
      λ none. c.if-not-none_huge.ensures.1 (subst (NoneHuge (c.args.levels - 1) words) (sym (named_at w c.in-Some.below below))
          ((one_word c.args.levels words c.args.frame c.if-levels-gt2.true none c.loop-index.index w refl).below (is_named w c.in-Some.below below))),
    )

pub returns-after-loop-index : goal.returns-after-loop-index
returns-after-loop-index g t c =
    let self = c.args.self.now in
    let words = seen (g.T.TableMemory.tables self.memory.now) (g.P.PageTableFrameMapping.places self.mapping.now) self.root self.recursive in
    (λ _. all_words c.args.levels words c.args.frame c.if-levels-gt2.true (λ i l. c.loop-index.invariant i (omega arith)), λ _. refl)

pub returns-else-levels-gt2 : goal.returns-else-levels-gt2
returns-else-levels-gt2 g t c =
    let self = c.args.self.now in
    let words = seen (g.T.TableMemory.tables self.memory.now) (g.P.PageTableFrameMapping.places self.mapping.now) self.root self.recursive in
    (λ _. few_levels c.args.levels words c.args.frame c.if-levels-gt2.false, λ _. refl)
