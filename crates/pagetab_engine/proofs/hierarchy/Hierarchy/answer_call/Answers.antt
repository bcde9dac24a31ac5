use Rattle.std.proofs.Common.{◌∙◌, Result, Ok, Err, sym}
use Rattle.std.specs.Result.{IfOk}
use Rattle.x86_64.specs.Calls.{to_call}
use Rattle.x86_64.specs.Pairs.{pool_store}
use Rattle.x86_64.specs.Replies.{Reply}
use Rattle.pagetab_engine.specs.Calls.{IsAnswered}
use Rattle.pagetab_engine.specs.Commands.{Call}
use Rattle.pagetab_engine.specs.Hierarchy.{hierarchy_of, TwinTells}
use Rattle.pagetab_engine.specs.private.RunParts.{AnswersCommand}
use Rattle.pagetab_engine.specs.Reply.{Answered}
use Rattle.pagetab_engine.proofs.Refusing.{answers_executed, answers_refused, refused_by}
use Rattle.pagetab_engine.proofs.hierarchy.Hierarchy.answer_call.Goals as goal

pub returns-then-is_named-clause-answers : goal.returns-then-is_named-clause-answers
returns-then-is_named-clause-answers g c =
    let call = to_call g.L.LevelCount.LEVELS g.P5.LevelFiveFlags.bits c.args.call in
    let refused = refused_by c.args.self.now.mode g.L.LevelCount.LEVELS call c.requires.levels ∙ sym c.is_named.ensures ∙ c.if-is_named.true in
    answers_refused c.args.self.now call refused c.requires.fits

-- two facts of a value give a third
both_ok : {T E : Type 0} (r : Result T E) (P Q R : T → Type 0) → ((x : T) → P x → Q x → R x) → IfOk r P → IfOk r Q → IfOk r R
both_ok (Ok x) P Q R f p q = f x p q
both_ok (Err y) P Q R f p q = tt

pub returns-clause-answers : goal.returns-clause-answers
returns-clause-answers g c =
    let call = to_call g.L.LevelCount.LEVELS g.P5.LevelFiveFlags.bits c.args.call in let before = c.args.self.now in let after = c.answer.new.self in
    let executed = refused_by before.mode g.L.LevelCount.LEVELS call c.requires.levels ∙ sym c.is_named.ensures ∙ c.if-is_named.false in
    both_ok c.answer.result (IsAnswered (hierarchy_of before) (pool_store before.frames.pool) call (hierarchy_of after) (pool_store after.frames.pool)) (TwinTells before.mode call before.twin after.twin)
    (λ (reply : Reply). AnswersCommand (Call call) before (Answered reply) after)
    (λ reply answered twin. answers_executed before call after reply executed c.answer.ensures.keeps twin answered) c.answer.ensures.answered c.answer.ensures.both
