-- Unmaps, and changes of a page's flags, as calls on the entry of a page.
use Rattle.std.proofs.Common.{◌≤◌, ℕ, refl}
use Rattle.x86_64_model.specs.Call.{Unmap, UpdateFlags}
use Rattle.x86_64_model.specs.Layout.{Layout}
use Rattle.x86_64_model.specs.Machine.{do_call}
use Rattle.x86_64_model.specs.Path.{path_at}
use Rattle.x86_64_model.specs.private.MapperCalls.{after_unmap, after_update}
use Rattle.x86_64_mappers.specs.private.PageCalls.{unmap_says, update_says}
use Rattle.x86_64_mappers.proofs.Entry.PageCallRules.{unmap_rule, unmap_changes, unmap_outside, update_rule, update_changes, update_outside}
use Rattle.x86_64_mappers.proofs.Range.ChangeParts.{IsEntryCall}

module _ (l : Layout) (level : ℕ) (high : level ≤ 3) where
  pub unmap_is : IsEntryCall l level (unmap_says level) (λ page. Unmap level page) (λ m q. after_unmap l m q)
  unfolding do_call
  unmap_is = record {
    rule = λ m q at_level. unmap_rule l m level q at_level;
    does = λ m page pool take_back. refl;
    change = λ m q at_level out some w frame said. unmap_changes l m level q at_level out high some w frame said;
    outside = λ m page may. unmap_outside l.window (path_at l.levels level page) may;
    still = λ m n page may. may;
  }

  pub update_is : (given : ℕ) → IsEntryCall l level (update_says level given) (λ page. UpdateFlags level page given) (λ m q. after_update l m q given)
  unfolding do_call
  update_is given = record {
    rule = λ m q at_level. update_rule l m level q at_level given;
    does = λ m page pool take_back. refl;
    change = λ m q at_level out some w frame said. update_changes l m level q at_level out high some given w frame said;
    outside = λ m page may. update_outside l.window (path_at l.levels level page) given may;
    still = λ m n page may. may;
  }
