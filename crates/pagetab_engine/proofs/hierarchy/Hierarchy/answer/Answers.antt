use Rattle.std.proofs.Common.{◌≡◌, ℕ, arith, refl, sym, ap, ap₂, ◌∙◌, subst, subst₂}
use Rattle.std.specs.Result.{IfOk}
use Rattle.std.proofs.lemmas.Bool.Decides.{nat_tests}
use Rattle.std.proofs.lemmas.Result.{on_err_weaker}
use Rattle.x86_64_model.specs.Call.{Call}
use Rattle.x86_64_model.specs.Hierarchy.{◌laid_in◌}
use Rattle.x86_64_model.specs.Layout.{Layout}
use Rattle.x86_64_model.specs.Position.{raw}
use Rattle.x86_64_mappers.specs.Offsets.{OffsetFits}
use Rattle.x86_64.specs.Calls.{to_call}
use Rattle.x86_64.specs.Pairs.{pool_store}
use Rattle.x86_64.specs.Replies.{Reply}
use Rattle.pagetab_engine.specs.Arguments.{count, levels_of}
use Rattle.pagetab_engine.specs.Calls.{IsAnswered}
use Rattle.pagetab_engine.specs.Hierarchy.{AnswersRecursively, IsTwin, TwinTells, hierarchy_of}
use Rattle.pagetab_engine.specs.declared.arguments.Mode.{Mode}
use Rattle.pagetab_engine.specs.declared.arguments.Mode.TheVariants.{Direct, Offset, Recursive, Pair}
use Rattle.pagetab_engine.specs.declared.frames.Frames.{Frames}
use Rattle.pagetab_engine.specs.declared.hierarchy.Hierarchy.{Hierarchy}
use Rattle.pagetab_engine.proofs.ByMode.{layout_in, here, lies, fits_in, kept_in, kept_in_pair, twin_in}
use Rattle.pagetab_engine.proofs.hierarchy.Hierarchy.answer.Goals as goal

-- addresses with one raw value are at one position
one_position : (p q : ℕ) → raw 4 p ≡ raw 4 q → p ≡ q
one_position p q same = grind (arith, nat_tests)

pub returns-in-Direct-clause-keeps : goal.returns-in-Direct-clause-keeps
returns-in-Direct-clause-keeps g c =
    kept_in c.args.self.now g.L.LevelCount.LEVELS c.requires.levels (Direct c.in-Direct.field-0) c.in-Direct.is _ refl tt tt c.answer_direct.ensures.keeps

pub returns-in-Recursive-clause-keeps : goal.returns-in-Recursive-clause-keeps
returns-in-Recursive-clause-keeps g c =
    kept_in c.args.self.now g.L.LevelCount.LEVELS c.requires.levels (Recursive c.in-Recursive.field-0 c.in-Recursive.index) c.in-Recursive.is _ refl tt tt c.answer_recursively.ensures.keeps

pub returns-in-Pair-clause-keeps : goal.returns-in-Pair-clause-keeps
returns-in-Pair-clause-keeps g c =
    let done = c.answer_by_both.ensures in let levels = g.L.LevelCount.LEVELS in let before = c.args.self.now in let mode = Pair c.in-Pair.field-0 c.in-Pair.index in
    let known = here before levels c.requires.levels mode c.in-Pair.is in
    kept_in before levels c.requires.levels mode c.in-Pair.is _ refl tt (twin_in _ _ _ _ _ known done.twin)
    (kept_in_pair _ levels before.frames c.answer_by_both.new.frames (to_call g.L.LevelCount.LEVELS g.P5.LevelFiveFlags.bits c.args.call) c.answer_by_both.result (fits_in before levels c.requires.levels mode c.in-Pair.is c.requires.fits.fits) done.answered done.unchanged)

pub returns-in-Offset-clause-keeps : goal.returns-in-Offset-clause-keeps
returns-in-Offset-clause-keeps g c =
    let done = c.answer_at_offset.ensures in let mode = Offset c.in-Offset.offset in
    let known = here c.args.self.now g.L.LevelCount.LEVELS c.requires.levels mode c.in-Offset.is in
    let offset = c.new-offset.result in
    let raws : raw 4 offset ≡ raw 4 c.in-Offset.offset = ap (λ n. raw n offset) known ∙ c.new-offset.ensures.value ∙ c.as_u64.ensures.value in
    let same = one_position offset c.in-Offset.offset raws in
    kept_in c.args.self.now g.L.LevelCount.LEVELS c.requires.levels mode c.in-Offset.is _ refl
    (subst₂ (λ n offset. OffsetFits n c.answer_at_offset.new.frames.memory offset) (sym known) same done.offset) tt done.answered.keeps

pub answer_direct-requires : goal.answer_direct-requires
answer_direct-requires g c =
    fits_in c.args.self.now g.L.LevelCount.LEVELS c.requires.levels (Direct c.in-Direct.field-0) c.in-Direct.is c.requires.fits.fits

pub answer_at_offset-requires-clause-fits : goal.answer_at_offset-requires-clause-fits
answer_at_offset-requires-clause-fits g c =
    fits_in c.args.self.now g.L.LevelCount.LEVELS c.requires.levels (Offset c.in-Offset.offset) c.in-Offset.is c.requires.fits.fits

pub answer_recursively-requires : goal.answer_recursively-requires
answer_recursively-requires g c =
    fits_in c.args.self.now g.L.LevelCount.LEVELS c.requires.levels (Recursive c.in-Recursive.field-0 c.in-Recursive.index) c.in-Recursive.is c.requires.fits.fits

pub answer_by_both-requires-clause-fits : goal.answer_by_both-requires-clause-fits
answer_by_both-requires-clause-fits g c =
    fits_in c.args.self.now g.L.LevelCount.LEVELS c.requires.levels (Pair c.in-Pair.field-0 c.in-Pair.index) c.in-Pair.is c.requires.fits.fits

pub answer_by_both-requires-clause-twin : goal.answer_by_both-requires-clause-twin
answer_by_both-requires-clause-twin g c =
    let before = c.args.self.now in
    let known = here before g.L.LevelCount.LEVELS c.requires.levels (Pair c.in-Pair.field-0 c.in-Pair.index) c.in-Pair.is in
    subst (λ n. IsTwin n c.in-Pair.index before.frames before.twin) known (rw c.in-Pair.is at c.requires.fits.twin)

pub answer_by_both-requires-clause-unnamed : goal.answer_by_both-requires-clause-unnamed
answer_by_both-requires-clause-unnamed g c = rw c.in-Pair.is at c.requires.unnamed

pub answer_at_offset-requires-clause-offset : goal.answer_at_offset-requires-clause-offset
answer_at_offset-requires-clause-offset g c =
    let known = here c.args.self.now g.L.LevelCount.LEVELS c.requires.levels (Offset c.in-Offset.offset) c.in-Offset.is in
    let offset = c.new-offset.result in
    let raws : raw 4 offset ≡ raw 4 c.in-Offset.offset = ap (λ n. raw n offset) known ∙ c.new-offset.ensures.value ∙ c.as_u64.ensures.value in
    let same = one_position offset c.in-Offset.offset raws in
    subst₂ (λ n offset. OffsetFits n c.args.self.now.frames.memory offset) known (sym same) (rw c.in-Offset.is at c.requires.fits.reached)

-- the call was executed in the program's hierarchy if it was in that of its mode
module _ (before : Hierarchy) (levels : ℕ) (known : count (levels_of before.mode) ≡ levels) (mode : Mode) (is : before.mode ≡ mode)
    (frames twin : Frames) where
  abbrev after : Hierarchy
  after = record { mode = before.mode; frames = frames; twin = twin }

  abbrev Answered : (l k : Layout) → Call → Reply → Type 0
  Answered l k call = IsAnswered (l laid_in before.frames.memory) (pool_store before.frames.pool) call (k laid_in frames.memory)
      (pool_store frames.pool)

  answered_in : (call : Call) (reply : Reply) → Answered (layout_in mode levels before.frames.memory) (layout_in mode levels frames.memory) call reply
      → IsAnswered (hierarchy_of before) (pool_store before.frames.pool) call (hierarchy_of after) (pool_store frames.pool) reply
  answered_in call reply = subst₂ (λ l k. Answered l k call reply) (sym (lies before levels known mode is)) (sym (lies after levels known mode is))

pub returns-in-Direct-clause-answered : goal.returns-in-Direct-clause-answered
returns-in-Direct-clause-answered g c =
    answered_in c.args.self.now g.L.LevelCount.LEVELS c.requires.levels (Direct c.in-Direct.field-0) c.in-Direct.is c.answer_direct.new.frames
    c.args.self.now.twin
    (to_call g.L.LevelCount.LEVELS g.P5.LevelFiveFlags.bits c.args.call) c.answer_direct.result c.answer_direct.ensures

pub returns-in-Offset-clause-answered : goal.returns-in-Offset-clause-answered
returns-in-Offset-clause-answered g c =
    answered_in c.args.self.now g.L.LevelCount.LEVELS c.requires.levels (Offset c.in-Offset.offset) c.in-Offset.is c.answer_at_offset.new.frames
    c.args.self.now.twin
    (to_call g.L.LevelCount.LEVELS g.P5.LevelFiveFlags.bits c.args.call) c.answer_at_offset.result c.answer_at_offset.ensures.answered

pub returns-in-Recursive-clause-answered : goal.returns-in-Recursive-clause-answered
returns-in-Recursive-clause-answered g c =
    answered_in c.args.self.now g.L.LevelCount.LEVELS c.requires.levels (Recursive c.in-Recursive.field-0 c.in-Recursive.index) c.in-Recursive.is
    c.answer_recursively.new.frames c.args.self.now.twin
    (to_call g.L.LevelCount.LEVELS g.P5.LevelFiveFlags.bits c.args.call) c.answer_recursively.result c.answer_recursively.ensures

pub returns-in-Pair-clause-answered : goal.returns-in-Pair-clause-answered
returns-in-Pair-clause-answered g c =
    let before = c.args.self.now in
    let frames = c.answer_by_both.new.frames in
    let call = to_call g.L.LevelCount.LEVELS g.P5.LevelFiveFlags.bits c.args.call in
    let mode = Pair c.in-Pair.field-0 c.in-Pair.index in
    let next : Hierarchy = record { mode = before.mode; frames = frames; twin = c.answer_by_both.new.twin } in
    subst₂ (λ (l k : Layout). IfOk c.answer_by_both.result (IsAnswered (l laid_in before.frames.memory) (pool_store before.frames.pool) call
    (k laid_in frames.memory) (pool_store frames.pool)))
    (sym (lies before g.L.LevelCount.LEVELS c.requires.levels mode c.in-Pair.is)) (sym (lies next g.L.LevelCount.LEVELS c.requires.levels mode
    c.in-Pair.is)) c.answer_by_both.ensures.answered

pub returns-in-Direct-clause-both : goal.returns-in-Direct-clause-both
returns-in-Direct-clause-both g c =
    let call = to_call g.L.LevelCount.LEVELS g.P5.LevelFiveFlags.bits c.args.call in
    let twin = c.args.self.now.twin in
    subst (λ (mode : Mode). TwinTells mode call twin twin c.answer_direct.result) (sym c.in-Direct.is) tt

pub returns-in-Offset-clause-both : goal.returns-in-Offset-clause-both
returns-in-Offset-clause-both g c =
    let call = to_call g.L.LevelCount.LEVELS g.P5.LevelFiveFlags.bits c.args.call in
    let twin = c.args.self.now.twin in
    subst (λ (mode : Mode). TwinTells mode call twin twin c.answer_at_offset.result) (sym c.in-Offset.is) tt

pub returns-in-Recursive-clause-both : goal.returns-in-Recursive-clause-both
returns-in-Recursive-clause-both g c =
    let call = to_call g.L.LevelCount.LEVELS g.P5.LevelFiveFlags.bits c.args.call in
    let twin = c.args.self.now.twin in
    subst (λ (mode : Mode). TwinTells mode call twin twin c.answer_recursively.result) (sym c.in-Recursive.is) tt

pub returns-in-Pair-clause-both : goal.returns-in-Pair-clause-both
returns-in-Pair-clause-both g c =
    let before = c.args.self.now in
    let twin = c.answer_by_both.new.twin in
    let call = to_call g.L.LevelCount.LEVELS g.P5.LevelFiveFlags.bits c.args.call in
    let known = here before g.L.LevelCount.LEVELS c.requires.levels (Pair c.in-Pair.field-0 c.in-Pair.index) c.in-Pair.is in
    subst (λ (mode : Mode). IfOk c.answer_by_both.result (TwinTells mode call before.twin twin)) (sym c.in-Pair.is)
    (subst (λ n. IfOk c.answer_by_both.result (AnswersRecursively n c.in-Pair.index before.twin call twin)) (sym known) c.answer_by_both.ensures.both)

pub returns-in-Pair-clause-unchanged : goal.returns-in-Pair-clause-unchanged
returns-in-Pair-clause-unchanged g c =
    let mode = c.args.self.now.mode in
    on_err_weaker c.answer_by_both.result
    (λ same. ap₂ (λ (frames twin : Frames). record { mode = mode; frames = frames; twin = twin }) same.0 same.1)
    c.answer_by_both.ensures.unchanged
