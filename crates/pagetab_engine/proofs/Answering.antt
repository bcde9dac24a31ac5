-- What a mapper does with a call is done in the memory that was lent to it.
use Rattle.std.proofs.Common.{◌≡◌, ◌∙◌, ℕ, List, [], ◌∷◌, ◌++◌, Some, None, get_or, refl, sym, ap, subst, append-nil, arith}
use Rattle.x86_64_model.specs.Call.{Call}
use Rattle.x86_64_model.specs.Layout.{Layout}
use Rattle.x86_64_model.specs.Machine.{State}
use Rattle.x86_64_model.specs.Hierarchy.{◌laid_in◌, Hierarchy}
use Rattle.x86_64_model.specs.Memory.{Memory}
use Rattle.x86_64_model.specs.Store.{Store, Keeps}
use Rattle.x86_64_model.specs.Flushing.{freed_by}
use Rattle.x86_64.specs.FreeFrames.{KeepsFree}
use Rattle.x86_64.specs.Replies.{Reply}
use Rattle.x86_64.specs.Runs.{Ran, Stepped, LeavesFree, machine_with, state_with, state_in, step_by}
use Rattle.pagetab_engine.specs.Calls.{IsAnswered}

pub answered_in : {Lent : Type 0} (h after : Hierarchy Lent) (store rest : Store) (call : Call) (reply : Reply) → Keeps h store after rest → Stepped h store call reply after rest.frames → LeavesFree h store call after rest.frames
    → (l k : Layout) (m n : Memory) → h.layout ≡ l → after.layout ≡ k → h.memory ≡ m → n ≡ after.memory → IsAnswered (l laid_in m) store call (k laid_in n) rest reply
answered_in h after store rest call reply keeps step free l k m n lies lies_after first last =
    let own : IsAnswered (h.layout laid_in h.memory) store call (after.layout laid_in after.memory) rest reply =
    record { step = step; free = free; keeps = record { keeps = keeps.keeps; serves = keeps.serves; layout = keeps.layout; lent = refl } } in
    subst (λ (k : Layout). IsAnswered (l laid_in m) store call (k laid_in n) rest reply) lies_after
    (subst (λ (n : Memory). IsAnswered (l laid_in m) store call (after.layout laid_in n) rest reply) (sym last)
    (subst (λ (m : Memory). IsAnswered (l laid_in m) store call (after.layout laid_in after.memory) rest reply) first
    (subst (λ (l : Layout). IsAnswered (l laid_in h.memory) store call (after.layout laid_in after.memory) rest reply) lies own)))

-- a list of one call is that call
pub one_pushed : {C : Type 0} (calls all held : List C) (call : C) → calls ≡ all → all ≡ held ++ call ∷ [] → held ≡ [] → calls ≡ call ∷ []
one_pushed calls all held call same pushed none = same ∙ pushed ∙ ap (λ held. held ++ call ∷ []) none

module _ {C Lent : Type 0} (asks : C → Call) (h after : Hierarchy Lent) (store : Store) (rest : List ℕ) (call : C) where
  stepped_one : (replies : List Reply) (reply : Reply) → Ran asks h store (call ∷ []) [] replies after rest → reply ≡ get_or replies 0 reply → Stepped h store (asks call) reply after rest
  stepped_one [] reply ran is = absurd (omega (arith, ran.one_each))
  stepped_one (one ∷ more) reply ran is =
      let step = step_by (machine_with h store) (state_with h store) (asks call) in
      let told : Some one ≡ step.reply = ap (λ told. get_or told 0 None) ran.replies in
      ap (λ (s : State). record { state = s; reply = step.reply }) (sym ran.state) ∙ ap (λ r. record { state = state_in h.layout after.memory rest; reply = r }) (sym told ∙ ap Some (sym is))

  free_one : (replies : List Reply) → Ran asks h store (call ∷ []) [] replies after rest → LeavesFree h store (asks call) after rest
  free_one replies ran =
      let back = freed_by h.layout.levels (state_with h store) (asks call) in
      subst (λ (back : List ℕ). KeepsFree h.layout h.memory store.frames back after.memory rest) (append-nil back) ran.free

pub answered_one : {C Lent : Type 0} (asks : C → Call) (h after : Hierarchy Lent) (store rest : Store) (call : C) (calls : List C) (replies : List Reply) (reply : Reply)
    → calls ≡ call ∷ [] → Ran asks h store calls [] replies after rest.frames → Keeps h store after rest → reply ≡ get_or replies 0 reply
    → (l k : Layout) (m n : Memory) → h.layout ≡ l → after.layout ≡ k → h.memory ≡ m → n ≡ after.memory → IsAnswered (l laid_in m) store (asks call) (k laid_in n) rest reply
answered_one asks h after store rest call calls replies reply one ran keeps told =
    let ran_one : Ran asks h store (call ∷ []) [] replies after rest.frames = subst (λ calls. Ran asks h store calls [] replies after rest.frames) one ran in
    answered_in h after store rest (asks call) reply keeps (stepped_one asks h after store rest.frames call replies reply ran_one told) (free_one asks h after store rest.frames call replies ran_one)
