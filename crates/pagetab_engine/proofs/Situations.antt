-- What commands act on after a command, as a function, is what the hierarchy has then.
use Rattle.std.proofs.Common.{◌≡◌, ℕ, List, Option, Some, sym, ap, ◌∙◌, subst}
use Rattle.x86_64_model.specs.Call as model
use Rattle.x86_64_model.specs.Layout.{Layout}
use Rattle.x86_64_model.specs.Machine.{State}
use Rattle.x86_64_model.specs.Hierarchy.{◌laid_in◌, words}
use Rattle.x86_64_model.specs.Memory.{IsMapping, Memory, Places, identity_places, word, words_of}
use Rattle.x86_64_model.specs.Pool.{serves_below}
use Rattle.x86_64_model.proofs.Lemmas.Hierarchies.Memories.{identity_is_mapping}
use Rattle.x86_64.specs.Runs as runs
use Rattle.pagetab_engine.specs.Commands.{Command, Call, Walk, Show}
use Rattle.pagetab_engine.specs.Commands as command
use Rattle.pagetab_engine.specs.Hierarchy.{layout_of}
use Rattle.pagetab_engine.specs.Lines.{Numbered}
use Rattle.pagetab_engine.specs.Program.{behind_reply, served_transcript, statements_in}
use Rattle.pagetab_engine.specs.Reply.{Reply}
use Rattle.pagetab_engine.specs.Situation.{call_back, call_step, command_after}
use Rattle.pagetab_engine.specs.TableWords.{words_after}
use Rattle.pagetab_engine.specs.declared.hierarchy.Hierarchy.{Hierarchy}
use Rattle.pagetab_engine.specs.private.RunParts.{AnswersCommand, IsShown, situation_of, with_first}
use Rattle.pagetab_engine.proofs.Keeping.{by_number}
use Rattle.pagetab_engine.proofs.TableWords.{words_told}

module _ (call : model.Call) (before after : Hierarchy) (reply : Reply) (answers : AnswersCommand (Call call) before reply after) where
  abbrev m : Memory
  m = before.frames.memory

  abbrev n : Memory
  n = after.frames.memory

  abbrev l : Layout
  l = layout_of before

  abbrev state : State
  state = (call_step (situation_of before) call).state

  abbrev back : List ℕ
  back = call_back (situation_of before) call

  places : l.places ≡ identity_places
  places = by_number before.mode m

  state_is : runs.state_in l n after.frames.pool.frames ≡ state
  state_is = ap (λ (l : Layout). runs.state_in l n after.frames.pool.frames) (sym answers.keeps.keeps.layout) ∙ answers.state

  word_is : (f i : ℕ) → word (words_of n identity_places) f i ≡ words_after l state back (word (words_of m identity_places)) f i
  word_is f i =
      subst (λ (places : Places). word (words_of n places) f i ≡ words_after l state back (word (words_of m places)) f i) places
      (subst (λ (s : State). word (words (l laid_in n)) f i ≡ words_after l s back (word (words (l laid_in m))) f i) state_is
      (words_told l (subst IsMapping (sym places) identity_is_mapping) (serves_below before.frames.pool.limit) m n before.frames.pool.frames back after.frames.pool.frames answers.keeps.keeps.keeps answers.free f i))

  call_told : situation_of after ≡ command_after (situation_of before) (Call call)
  call_told = λ i. record { mode = answers.keeps.mode i; layout = answers.keeps.keeps.layout i; state = answers.state i; words = λ f j. word_is f j i }

command_told : (asked : Command) (before after : Hierarchy) (reply : Reply) → AnswersCommand asked before reply after → situation_of after ≡ command_after (situation_of before) asked
command_told (Call call) before after reply answers = call_told call before after reply answers
command_told (Walk position) before after reply answers = ap situation_of (answers.reads tt)
command_told (Show slot) before after reply answers = ap situation_of (answers.reads tt)
command_told command.Pool before after reply answers = ap situation_of (answers.reads tt)

-- so the transcript of a command begins with its reply
pub answer_told : (levels places : ℕ) (asked : Command) (before after : Hierarchy) (reply : Reply) → AnswersCommand asked before reply after → IsShown asked → (behind : List Numbered)
    → served_transcript (with_first levels places (Some asked) behind) (situation_of before) ≡ behind_reply (Some reply) (served_transcript (statements_in levels places behind) (situation_of after))
answer_told levels places asked before after reply answers shown behind =
    ap (λ (told : Option Reply). behind_reply told (served_transcript (statements_in levels places behind) (command_after (situation_of before) asked))) (answers.reply shown)
    ∙ ap (λ s. behind_reply (Some reply) (served_transcript (statements_in levels places behind) s)) (sym (command_told asked before after reply answers))
