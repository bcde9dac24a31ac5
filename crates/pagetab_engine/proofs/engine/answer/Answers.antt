use Rattle.std.proofs.Common.{◌≡◌, IfOk, Ok, Option, Some, option_map, refl, sym, ap, ◌∙◌, subst, rules}
use Rattle.std.proofs.Math.Nat.{mul-mod_left}
use Rattle.x86_64_model.specs.Memory.{identity_places, word, words_of}
use Rattle.x86_64_model.specs.PageWalk.{Walked, page_walk}
use Rattle.x86_64_tables.specs.Walks.{walked_of}
use Rattle.x86_64.specs.Calls.{to_call}
use Rattle.x86_64.specs.Replies.{Reply as CallReply}
use Rattle.pagetab_engine.specs.Commands.{Call, Walk, Show}
use Rattle.pagetab_engine.specs.Commands as command
use Rattle.pagetab_engine.specs.private.RunParts.{AnswersCommand, situation_of}
use Rattle.pagetab_engine.specs.Reply.{Answered, Arrival, Word, Pool}
use Rattle.pagetab_engine.specs.Situation.{command_reply, tables_with}
use Rattle.pagetab_engine.specs.Arguments.{count, levels_of}
use Rattle.pagetab_engine.specs.Slot.{word_at_place}
use Rattle.pagetab_engine.proofs.Keeping.{keeps_itself, free_itself}
use Rattle.pagetab_engine.proofs.SameWalks.{same_walk, slot_word, word_of_tables}
use Rattle.pagetab_engine.proofs.engine.answer.Goals as goal
use Rattle.pagetab_engine.proofs.engine.answer.Goals.{in-Call+in_ok-answer_call-in-Call, in-Walk, in-Show, in-Pool+in_ok-free_frames-in-Pool}

pub returns-clause-answers : goal.returns-clause-answers
returns-clause-answers g c = let before = c.args.hierarchy.now in let tables = words_of before.frames.memory identity_places in elim c.match-command.branch [
  | in-Call+in_ok-answer_call-in-Call w ↦ rw (w.hierarchy-is, w.in-Call.is, w.result-is)
      (let is : w.answer_call.result ≡ Ok w.in_ok-answer_call-in-Call.field-0 = search rules in
      let answers : CallReply → Type 0 = λ reply. AnswersCommand (Call (to_call g.L.LevelCount.LEVELS g.P5.LevelFiveFlags.bits w.in-Call.call)) before (Answered reply) w.answer_call.new.self in
      let told : IfOk w.answer_call.result answers = w.answer_call.ensures.answers in
      subst (λ r. IfOk r answers) is told)
  | in-Walk w ↦ rw (w.hierarchy-is, w.in-Walk.is, w.result-is)
      (let reply : Some (Arrival (page_walk (count (levels_of before.mode)) tables 0x1000 w.in-Walk.address)) ≡ Some (Arrival (option_map walked_of w.walk.result)) = search rules in
      record { reply = λ _. sym (ap (λ (arrival : Option Walked). Some (Arrival arrival)) (same_walk (count (levels_of before.mode)) tables (tables_with (word tables)) (word_of_tables tables) 0x1000 w.in-Walk.address)) ∙ reply; state = refl; reads = λ _. refl; free = free_itself before _ refl; keeps = keeps_itself before c.requires.fits; both = tt })
  | in-Show w ↦ rw (w.hierarchy-is, w.in-Show.is, w.result-is)
      (let slot = w.in-Show.slot in
      let reply : Some (Word (word_at_place before.frames.memory slot.place slot.index)) ≡ Some (Word w.word.result) = search rules in
      record { reply = λ shown. sym (ap (λ n. Some (Word n)) (slot_word before.frames.memory slot.place slot.index shown.1 shown.0 (mul-mod_left slot.place 4096))) ∙ reply; state = refl; reads = λ _. refl; free = free_itself before _ refl; keeps = keeps_itself before c.requires.fits; both = tt })
  | in-Pool+in_ok-free_frames-in-Pool w ↦ rw (w.hierarchy-is, w.in-Pool.is, w.result-is)
      (let reply : command_reply (situation_of before) command.Pool ≡ Some (Pool w.in_ok-free_frames-in-Pool.field-0.items) = search rules in
      record { reply = λ _. reply; state = refl; reads = λ _. refl; free = free_itself before _ refl; keeps = keeps_itself before c.requires.fits; both = tt })
]
