use Rattle.std.proofs.Common.{◌≡◌, ℕ, List, ◌∷◌, drop, Option, Some, None, IfSome, sym, ap, ◌∙◌}
use Rattle.std.specs.List.{slice_get}
use Rattle.x86_64_spaces.proofs.NewRoot.{taken}
use Rattle.uses.proofs.ProcessCalls.{started}
use Rattle.uses.proofs.processes.start.Goals as goal

-- if there was a frame
if_taken : {A B : ℕ → Type 0} (r : Option ℕ) (pool rest : List ℕ) → r ≡ slice_get pool 0 → rest ≡ drop 1 pool → IfSome r A → ((f : ℕ) → pool ≡ f ∷ rest → A f → B f) → IfSome r B
if_taken None pool rest first left a makes = tt
if_taken (Some f) pool rest first left a makes = makes f (taken pool f (sym first) ∙ ap (λ r. f ∷ r) (sym left)) a

pub returns-clause-started : goal.returns-clause-started
returns-clause-started g c = if_taken c.new_space.result c.args.pool.now.frames c.new_space.new.store.frames c.new_space.ensures.taken.0 c.new_space.ensures.taken.1 c.new_space.ensures.made
    (λ root takes made. started c.args.kernel root _ _ _ _ _ takes made.root made.spaces)
