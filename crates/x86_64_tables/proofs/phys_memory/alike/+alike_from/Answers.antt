use Rattle.std.proofs.Common.{◌≡◌, ◌∙◌, inl, inr, sym, refl, subst, eqb-true, eq-eqb, true, false, arith, ⊎_elim}
use Rattle.std.proofs.lemmas.Bool.{cases_lt}
use Rattle.x86_64_model.specs.Alike.{without_writable}
use Rattle.x86_64_model.specs.Memory.{word}
use Rattle.x86_64_tables.specs.Views.{seen}
use Rattle.x86_64_tables.proofs.AlikeSteps.{AlikeIndex, all_indices, leaves, tables, below, words_else, same_leaves, one_table}
use Rattle.x86_64_tables.proofs.phys_memory.alike.+alike_from.Goals as goal
use Rattle.x86_64_tables.proofs.phys_memory.alike.+alike_from.Goals.{in-Some+in-Some-table_below+then-equal_but_writable, in-Some+in-Some-table_below+else-equal_but_writable, in-Some+in-None, in_default, in_default-via-in-Some+else-levels-gt0, in_default-via-in_default}

pub returns-then-not-is_alike : goal.returns-then-not-is_alike
returns-then-not-is_alike g t c =
    let one = c.args.one.now in
    let other = c.args.other.now in
    let T = seen (g.T.TableMemory.tables one.memory.now) (g.P.PageTableFrameMapping.places one.mapping.now) one.root one.recursive in
    let U = seen (g.U.TableMemory.tables other.memory.now) (g.Q.PageTableFrameMapping.places other.mapping.now) other.root other.recursive in
    let f = c.args.frame in
    let h = c.args.other_frame in
    let n = c.args.levels in
    let i = c.loop-index.index in (
      λ t. cc,
      λ alike. elim c.match-table_below.branch [
        | in-Some+in-Some-table_below+then-equal_but_writable b ↦
            sym c.if-not-is_alike.true ∙ b.is_alike-is ∙ b.alike_from.ensures.1
            (below T f U h n i b.in-Some.below b.in-Some-table_below.other_below b.if-levels-gt0.true
            (sym b.in-Some.is ∙ c.table_below.ensures) (sym b.in-Some-table_below.is ∙ b.table_below-in-Some.ensures) alike)
        | in-Some+in-Some-table_below+else-equal_but_writable b ↦
            sym c.if-not-is_alike.true ∙ b.is_alike-is ∙ rw (c.word-word.ensures, c.word-other_word.ensures) at b.equal_but_writable.ensures
            ∙ eq-eqb (without_writable (word T f i)) (without_writable (word U h i)) (words_else T f U h n i alike)
        | in-Some+in-None b ↦ absurd (one_table T f U h n i b.in-Some.below (sym b.in-Some.is ∙ c.table_below.ensures) (sym b.in-None.is ∙ b.table_below-in-Some.ensures) alike)
        | in_default b ↦
            let unlike = sym c.if-not-is_alike.true ∙ rw (c.word-word.ensures, c.word-other_word.ensures) at b.is_alike-is in
            elim b.in_default.branch [
              | in_default-via-in-Some+else-levels-gt0 d ↦
                  unlike ∙ eq-eqb (word T f i) (word U h i) (same_leaves T f U h n i (inl d.if-levels-gt0.false) alike)
              | in_default-via-in_default d ↦
                  unlike ∙ eq-eqb (word T f i) (word U h i) (same_leaves T f U h n i (inr (sym d.in_default.is ∙ c.table_below.ensures)) alike)
            ]
      ],
    )

pub loop-index-preserved : goal.loop-index-preserved
loop-index-preserved g t c k l =
    let one = c.args.one.now in
    let other = c.args.other.now in
    let T = seen (g.T.TableMemory.tables one.memory.now) (g.P.PageTableFrameMapping.places one.mapping.now) one.root one.recursive in
    let U = seen (g.U.TableMemory.tables other.memory.now) (g.Q.PageTableFrameMapping.places other.mapping.now) other.root other.recursive in
    let f = c.args.frame in
    let h = c.args.other_frame in
    let n = c.args.levels in
    let i = c.loop-index.index in
    let here : AlikeIndex T f U h n i = elim c.match-table_below.branch [
      | in-Some+in-Some-table_below+then-equal_but_writable b ↦
          let e = sym (rw (c.word-word.ensures, c.word-other_word.ensures) at b.equal_but_writable.ensures) ∙ b.if-equal_but_writable.true in
          tables T f U h n i b.in-Some.below b.in-Some-table_below.other_below b.if-levels-gt0.true
          (sym b.in-Some.is ∙ c.table_below.ensures) (sym b.in-Some-table_below.is ∙ b.table_below-in-Some.ensures)
          (eqb-true (without_writable (word T f i)) (without_writable (word U h i)) e)
          (b.alike_from.ensures.0 (sym b.is_alike-is ∙ c.if-not-is_alike.false))
      | in-Some+in-Some-table_below+else-equal_but_writable b ↦
          absurd (let e : false ≡ true = sym b.if-equal_but_writable.false ∙ sym b.is_alike-is ∙ c.if-not-is_alike.false in cc)
      | in-Some+in-None b ↦ absurd (let e : false ≡ true = sym b.is_alike-is ∙ c.if-not-is_alike.false in cc)
      | in_default b ↦
          let e = eqb-true (word T f i) (word U h i) (sym (rw (c.word-word.ensures, c.word-other_word.ensures) at b.is_alike-is) ∙ c.if-not-is_alike.false) in
          elim b.in_default.branch [
            | in_default-via-in-Some+else-levels-gt0 d ↦ leaves T f U h n i (inl d.if-levels-gt0.false) e
            | in_default-via-in_default d ↦ leaves T f U h n i (inr (sym d.in_default.is ∙ c.table_below.ensures)) e
          ]
    ] in
    ⊎_elim (λ before. c.loop-index.invariant k before)
    (λ past. let e : i ≡ k = omega (arith, l, past) in subst (AlikeIndex T f U h n) e here) (cases_lt k i)

pub returns : goal.returns
returns g t c =
    let one = c.args.one.now in
    let other = c.args.other.now in
    let T = seen (g.T.TableMemory.tables one.memory.now) (g.P.PageTableFrameMapping.places one.mapping.now) one.root one.recursive in
    let U = seen (g.U.TableMemory.tables other.memory.now) (g.Q.PageTableFrameMapping.places other.mapping.now) other.root other.recursive in
    (λ _. all_indices T c.args.frame U c.args.other_frame c.args.levels (λ i l. c.loop-index.invariant i (omega arith)), λ _. refl)
