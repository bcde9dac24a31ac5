-- A change of one entry, stated of the words in the caller's memory.
use Rattle.std.proofs.Common.{◌≡◌, ◌≤◌, ◌<◌, inr, ℕ, Bool, true, cond, List, ◌∷◌, sym, ap, ◌∙◌, subst, arith}
use Rattle.std.proofs.lemmas.List.Sorted.{IsPermutation-refl}
use Rattle.x86_64_model.specs.Call.{Call, IsCall, IsPageLevel, Answered, NotAllowed}
use Rattle.x86_64_model.specs.Entry.{IsParentFlags}
use Rattle.x86_64_model.specs.Layout.{Layout}
use Rattle.x86_64_model.specs.Machine.{AfterCall, only_reply, do_call, step}
use Rattle.x86_64_model.specs.Hierarchy.{Hierarchy, Does, PoolFits, Valid, allows, machine_of, state_in, SupplyFits}
use Rattle.x86_64_model.specs.Memory.{Memory}
use Rattle.x86_64_model.specs.Pool.{TakesBack}
use Rattle.x86_64_model.specs.Refusal.{Answer}
use Rattle.x86_64_model.proofs.Lemmas.Machines.Fitting.{ready_of_fits}
use Rattle.x86_64_model.proofs.Lemmas.Machines.Giving.{giving_from}
use Rattle.x86_64_model.proofs.Lemmas.Machines.Owners.{change_leads}
use Rattle.x86_64_model.proofs.Lemmas.Machines.WordsAlone.{in_words, changes_alone}
use Rattle.x86_64_mappers.specs.private.ImplLaws.{no_flags}
use Rattle.x86_64.proofs.Keeping.{keeps_step}
use Rattle.x86_64_c.specs.Calls.{Changes, answer_status}
use Rattle.x86_64_model.specs.Store.{put_first, KeepsPool}

-- a layout's hierarchy in a memory
abbrev pub of : Layout → Memory → Hierarchy (Unit {0})
of l m = record { layout = l; memory = m; lent = tt }

pub gives : TakesBack put_first
gives = giving_from put_first (λ held f. IsPermutation-refl (f ∷ held))

-- a pool that fitted the hierarchy still does
keeps : {Lent : Type 0} (h after : Hierarchy Lent) (call : Call) (answer : Answer) → IsParentFlags h.layout.added_flags → IsCall h.layout.levels call → allows h call ≡ true
    → Does h call answer after → (serves : ℕ → Bool) (pool : List ℕ) → PoolFits h serves pool → KeepsPool h.layout serves h.memory pool after.memory pool
keeps h after call answer adds is may does serves pool fits =
    let machine = machine_of h.layout put_first in
    let before = state_in h.layout h.memory pool in
    let did = subst (λ l. do_call machine before call ≡ record { state = state_in l after.memory pool; reply = Answered answer }) does.keeps.layout (change_leads h call answer after does.outcome pool put_first) in
    let one : step machine before call ≡ record { state = state_in h.layout after.memory pool; reply = Answered answer } =
    ap (λ b. cond b (do_call machine before call) (only_reply before NotAllowed)) may ∙ did in
    keeps_step h.layout adds put_first gives serves h.memory pool fits call is after.memory pool (sym (ap (λ (x : AfterCall). x.state) one))
    (subst (λ l. SupplyFits (of l after.memory) pool) does.keeps.layout (does.fits pool (ready_of_fits h.layout h.memory serves pool fits))) (λ k none. does.keeps.others k (λ f table. none f (inr table)))

-- what the words in the caller's memory say holds of a mapper's layout and memory
module _ (k l : Layout) (n m : Memory) (layout : k ≡ l) (memory : n ≡ m) where
  abbrev over : (P : Hierarchy (Unit {0}) → Type 0) → P (of l m) → P (of k n)
  over P holds = subst (λ n. P (of k n)) (sym memory) (subst (λ k. P (of k m)) (sym layout) holds)

  pub valid_over : Valid (of l m) → Valid (of k n)
  valid_over = over (λ a. Valid a)

  pub supply_over : (serves : ℕ → Bool) (pool : List ℕ) → PoolFits (of l m) serves pool → SupplyFits (of k n) pool
  supply_over serves pool fits = over (λ a. SupplyFits a pool) (ready_of_fits l m serves pool fits)

pub changes : {Lent : Type 0} (h after : Hierarchy Lent) (l : Layout) (m n : Memory) → h.layout ≡ l → h.memory ≡ m → after.memory ≡ n
    → (call : Call) (answer : Answer) (status : ℕ) → IsParentFlags l.added_flags → IsCall l.levels call → allows (of l m) call ≡ true
    → Does h call answer after → status ≡ answer_status answer → Changes (of l m) call answer (of l n) status
changes h after l m n layout memory left call answer status adds is may does told =
    let did = in_words h after l m n layout memory left does.keeps.layout (λ before last. Does before call answer last) (changes_alone does) in
    record { does = did; status_is = told; keeps = keeps (of l m) (of l n) call answer adds is may did }

-- a mapper without recursive index adds no flags to the parent flags
pub plain : IsParentFlags 0
plain = no_flags.adds

pub is_page_level : (L : ℕ) → 3 < L → (level : ℕ) → 1 ≤ level → level ≤ 3 → IsPageLevel L level
is_page_level L some level low high = (low, high, omega (arith, some, high))
