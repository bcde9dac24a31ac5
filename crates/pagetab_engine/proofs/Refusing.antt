-- What is said of a call that names the recursive index of a pair, and so isn't executed, and of one that is.
use Rattle.std.proofs.Common.{◌≡◌, ℕ, true, false, cond, [], Some, option_map, refl, sym, ap, ◌∙◌, subst}
use Rattle.x86_64_model.specs.Call as model
use Rattle.x86_64_model.specs.Layout.{Layout}
use Rattle.x86_64_model.specs.Flushing.{freed_by}
use Rattle.x86_64.specs.Calls.{names_by}
use Rattle.x86_64.specs.Pairs.{pool_store}
use Rattle.x86_64.specs.Replies.{Reply}
use Rattle.x86_64.specs.Runs as runs
use Rattle.x86_64.specs.Runs.{AfterStep}
use Rattle.x86_64.specs.declared.call_values.MapperReply.TheVariants.{NotAllowed}
use Rattle.pagetab_engine.specs.Arguments.{count, levels_of}
use Rattle.pagetab_engine.specs.Calls.{IsAnswered}
use Rattle.pagetab_engine.specs.Commands.{Call}
use Rattle.pagetab_engine.specs.Hierarchy.{hierarchy_of, hierarchy_state, layout_of, IsHierarchy, KeepsFreeWords, KeepsHierarchy, TwinTells}
use Rattle.pagetab_engine.specs.Situation.{call_back, call_step, situation_machine}
use Rattle.pagetab_engine.specs.Modes.{is_index_named, is_refused}
use Rattle.pagetab_engine.specs.private.RunParts.{AnswersCommand, situation_of}
use Rattle.pagetab_engine.specs.Reply.{Answered}
use Rattle.pagetab_engine.specs.declared.arguments.Mode.{Mode}
use Rattle.pagetab_engine.specs.declared.hierarchy.Hierarchy.{Hierarchy}
use Rattle.pagetab_engine.proofs.Keeping.{free_itself, keeps_itself}

-- whether a call is refused, by the mode's number of levels
pub refused_by : (mode : Mode) (levels : ℕ) (call : model.Call) → count (levels_of mode) ≡ levels → is_refused mode call ≡ is_index_named mode (names_by levels call)
refused_by mode levels call same = ap (λ n. is_index_named mode (names_by n call)) same

module _ (hierarchy : Hierarchy) (call : model.Call) where
  -- the call is not allowed, and changes nothing
  abbrev refused : AfterStep Reply
  refused = record { state = hierarchy_state hierarchy; reply = Some NotAllowed }

  pub answers_refused : is_refused hierarchy.mode call ≡ true → IsHierarchy hierarchy → AnswersCommand (Call call) hierarchy (Answered NotAllowed) hierarchy
  answers_refused is fits =
      let machine = situation_machine (situation_of hierarchy) in
      let step : call_step (situation_of hierarchy) call ≡ refused = ap (λ b. cond b refused (runs.step_by machine (hierarchy_state hierarchy) call)) is in
      record {
        reply = λ _. ap (λ (after : AfterStep Reply). option_map Answered after.reply) step;
        state = sym (ap (λ (after : AfterStep Reply). after.state) step);
        reads = λ _. refl;
        free = free_itself hierarchy _ (ap (λ b. cond b [] (freed_by machine.levels (hierarchy_state hierarchy) call)) is);
        keeps = keeps_itself hierarchy fits;
        both = λ executed. absurd (let t : true ≡ false = sym is ∙ executed in cc);
      }

  -- the call is executed
  pub answers_executed : (after : Hierarchy) (reply : Reply) → is_refused hierarchy.mode call ≡ false → KeepsHierarchy hierarchy after → TwinTells hierarchy.mode call hierarchy.twin after.twin reply
      → IsAnswered (hierarchy_of hierarchy) (pool_store hierarchy.frames.pool) call (hierarchy_of after) (pool_store after.frames.pool) reply → AnswersCommand (Call call) hierarchy (Answered reply) after
  answers_executed after reply is keeps twin answered =
      let machine = situation_machine (situation_of hierarchy) in
      let step : call_step (situation_of hierarchy) call ≡ record { state = runs.state_in (layout_of hierarchy) after.frames.memory after.frames.pool.frames; reply = Some reply } =
      ap (λ b. cond b refused (runs.step_by machine (hierarchy_state hierarchy) call)) is ∙ answered.step in
      let back : call_back (situation_of hierarchy) call ≡ freed_by machine.levels (hierarchy_state hierarchy) call =
      ap (λ b. cond b [] (freed_by machine.levels (hierarchy_state hierarchy) call)) is in
      record {
        reply = λ _. ap (λ (after : AfterStep Reply). option_map Answered after.reply) step;
        state = ap (λ (l : Layout). runs.state_in l after.frames.memory after.frames.pool.frames) keeps.keeps.layout ∙ sym (ap (λ (after : AfterStep Reply). after.state) step);
        reads = λ refuses. absurd (let t : true ≡ false = sym refuses ∙ is in cc);
        free = subst (λ back. KeepsFreeWords hierarchy back after) (sym back) answered.free;
        keeps = keeps;
        both = λ _. twin;
      }
