-- A list of calls after another: the replies to both, and the state after both.
use Rattle.std.specs.Prelude.{◌≡◌, List, [], ◌∷◌, ◌++◌}
use Rattle.std.proofs.Common.{refl, ap}
use Rattle.x86_64_model.specs.Call.{Call}
use Rattle.x86_64_model.specs.Machine.{Machine, State, step, replies_of, state_after}

pub replies_append : (m : Machine) (s : State) (xs ys : List Call) → replies_of m s (xs ++ ys) ≡ replies_of m s xs ++ replies_of m (state_after m s xs) ys
replies_append m s [] ys = refl
replies_append m s (call ∷ xs) ys = ap (λ replies. (step m s call).reply ∷ replies) (replies_append m (step m s call).state xs ys)

pub state_append : (m : Machine) (s : State) (xs ys : List Call) → state_after m s (xs ++ ys) ≡ state_after m (state_after m s xs) ys
state_append m s [] ys = refl
state_append m s (call ∷ xs) ys = state_append m (step m s call).state xs ys
