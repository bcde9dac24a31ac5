-- The result of a clean up is the machine's step.
use Rattle.std.proofs.Common.{◌≡◌, ℕ, Bool, List, Some, inr, sym, ap, ◌∙◌, subst}
use Rattle.x86_64_model.specs.Call as machine
use Rattle.x86_64_model.specs.Entry.{IsParentFlags}
use Rattle.x86_64_model.specs.Machine.{AfterCall, do_call, step}
use Rattle.x86_64_model.specs.Memory.{IsMapping, word}
use Rattle.x86_64_model.specs.Hierarchy.{◌laid_in◌, Hierarchy, PoolFits, MayCleanUp, CleansUp, freed_frames, SupplyFits, words}
use Rattle.x86_64_model.specs.Pool.{TakesBack, with_returned}
use Rattle.x86_64_model.proofs.Lemmas.Machines.Fitting.{ready_of_fits, may_clean_up}
use Rattle.x86_64_model.proofs.Lemmas.Machines.Owners.{clean_up_leads}
use Rattle.x86_64.specs.declared.call_values.MapperReply.TheVariants as reply
use Rattle.x86_64.specs.FreeFrames.{KeepsFree}
use Rattle.x86_64.specs.Replies.{reply_of}
use Rattle.x86_64.specs.Runs.{machine_of, state_in, step_by, Keeps}
use Rattle.x86_64.proofs.FreeFrames.{clean_up_keeps_free}
use Rattle.x86_64.proofs.Keeping.{keeps_step}

-- a hierarchy with a pool that fits it, which a frame store holds
module _ {Lent : Type 0} (h : Hierarchy Lent) (serves : ℕ → Bool) (pool held : List ℕ) (same : pool ≡ held) (fits : PoolFits h serves pool) where
  pub held_may_clean_up : MayCleanUp h serves held
  held_may_clean_up = subst (MayCleanUp h serves) same (may_clean_up h serves pool fits)

  module _ (take_back : List ℕ → ℕ → List ℕ) (low high : ℕ) (after : Hierarchy Lent) (rest left : List ℕ) (last : rest ≡ left) (cleans : CleansUp h take_back held low high after left) where
    one : step (machine_of h.layout take_back) (state_in h.layout h.memory pool) (machine.CleanUp low high) ≡ record { state = state_in h.layout after.memory rest; reply = machine.Cleaned }
    one = ap (λ fs. do_call (machine_of h.layout take_back) (state_in h.layout h.memory fs) (machine.CleanUp low high)) same ∙ clean_up_leads h take_back held low high after left cleans
        ∙ ap (λ fs. record { state = state_in after.layout after.memory fs; reply = machine.Cleaned }) (sym last) ∙ ap (λ l. record { state = state_in l after.memory rest; reply = machine.Cleaned }) cleans.keeps.layout

    pub cleaned_up : step_by (machine_of h.layout take_back) (state_in h.layout h.memory pool) (machine.CleanUp low high)
        ≡ record { state = state_in h.layout after.memory rest; reply = Some reply.Cleaned }
    cleaned_up = ap (λ (x : AfterCall). record { state = x.state; reply = reply_of (machine.CleanUp low high) x.reply }) one

    pub kept_cleaned : IsParentFlags h.layout.added_flags → TakesBack take_back → (serves_after : ℕ → Bool) → serves_after ≡ serves
        → Keeps h (record { frames = pool; serves = serves; take_back = take_back }) after (record { frames = rest; serves = serves_after; take_back = take_back })
    kept_cleaned adds gives serves_after same_served =
        let ready : SupplyFits (h.layout laid_in after.memory) held_now = subst (λ l. SupplyFits (l laid_in after.memory) held_now) cleans.keeps.layout (cleans.fits take_back gives pool (ready_of_fits h.layout h.memory serves pool fits)) in
        record {
          keeps = keeps_step h.layout adds take_back gives serves h.memory pool fits (machine.CleanUp low high) tt after.memory rest (sym (ap (λ (x : AfterCall). x.state) one))
              (subst (SupplyFits (h.layout laid_in after.memory)) (ap (λ fs. with_returned take_back fs (freed_frames h low high)) same ∙ sym cleans.returned ∙ sym last) ready) (λ k none. cleans.keeps.others k (λ f table. none f (inr table)));
          serves = same_served;
          layout = cleans.keeps.layout;
          lent = cleans.keeps.lent;
        }
      where
        held_now : List ℕ
        held_now = with_returned take_back pool (freed_frames h low high)

    pub free_cleaned : IsMapping h.layout.places → TakesBack take_back → KeepsFree h.layout h.memory pool (freed_frames h low high) after.memory rest
    free_cleaned mapping gives = clean_up_keeps_free h.layout mapping serves h.memory pool fits take_back gives after.memory (freed_frames h low high) rest (last ∙ cleans.returned ∙ ap (λ fs. with_returned take_back fs (freed_frames h low high)) (sym same))
        (λ f came i. subst (λ l. word (words (l laid_in after.memory)) f i ≡ 0) cleans.keeps.layout (cleans.empty f came i)) cleans.keeps.others
