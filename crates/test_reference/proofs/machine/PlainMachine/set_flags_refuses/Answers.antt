use Rattle.std.proofs.Common.{sym, ap, ◌∙◌, ◌≡◌, ◌||◌, not, nat_le, is_some}
use Rattle.x86_64_model.specs.Entry.{used}
use Rattle.x86_64_model.specs.Path.{front_at}
use Rattle.x86_64_model.specs.Window.{entry_at}
use Rattle.x86_64_model.specs.Refusal.{first_stop}
use Rattle.test_reference.specs.Windows.{window_of}
use Rattle.test_reference.proofs.Allowed.{set_flags_refuses_is, is_some-refusals}
use Rattle.test_reference.proofs.machine.PlainMachine.set_flags_refuses.Goals as goal

pub returns : goal.returns
returns c given = (λ i. nat_le c.args.level (c.level_of.ensures.value i) || stops i || not (is_in_use i)) ∙ sym (set_flags_refuses_is c.args.self.now.levels (entry_at (window_of c.args.self.now.window) c.args.paths.now) c.args.paths.now c.args.level c.args.page.now given)
  where
    stops : c.is_some.result ≡ is_some (first_stop (entry_at (window_of c.args.self.now.window) c.args.paths.now) (front_at c.args.self.now.levels c.args.level c.args.page.now))
    stops = c.is_some.ensures ∙ is_some-refusals c.first_stop.result ∙ ap is_some c.first_stop.ensures ∙ ap (λ q. is_some (first_stop (entry_at (window_of c.args.self.now.window) c.args.paths.now) q)) c.front_at-path.ensures

    is_in_use : c.is_used.result ≡ used (entry_at (window_of c.args.self.now.window) c.args.paths.now (front_at c.args.self.now.levels c.args.level c.args.page.now))
    is_in_use = c.is_used.ensures ∙ ap used c.entry_at.ensures ∙ ap (λ q. used (entry_at (window_of c.args.self.now.window) c.args.paths.now q)) c.front_at-path.ensures
