-- What `run_call` ensures lets a call happen between a kernel and a processor.
use Rattle.std.proofs.Common.{sym, subst}
use Rattle.x86_64_model.specs.Lists.{In}
use Rattle.x86_64_model.specs.Machine.{State}
use Rattle.x86_64_model.specs.Hierarchy.{◌laid_in◌, words}
use Rattle.x86_64_model.specs.Window.{IsValidFor}
use Rattle.x86_64.specs.CallEvents.{RunCallsAreEvents}

pub run_calls_are_events : RunCallsAreEvents
run_calls_are_events l take_back serves m n pool rest call step free fits = record {
  valid = subst (λ (t : State). IsValidFor l.levels l.window (words (l laid_in n)) l.root t.paths) (sym step) fits.valid;
  came_back = λ f i. free.came_back f (subst (λ (t : State). In t.pool f) step i);
  was_free = λ f i. free.was_free f (subst (λ (t : State). In t.pool f) step i);
  same_words = λ f i. free.same_words f (subst (λ (t : State). In t.pool f) step i);
}
