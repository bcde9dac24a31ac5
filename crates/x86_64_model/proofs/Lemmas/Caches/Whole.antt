-- A call as one change of the words.
use Rattle.std.proofs.Common.{◌≡◌, ◌⊎◌, inl, inr, ⊎_elim, ℕ, Bool, true, false, cond, List, [], ◌∷◌, ◌++◌, nat_lt, Some, None, Option, refl, sym, ap, ◌∙◌, subst}
use Rattle.std.proofs.lemmas.Bool.{cases_eq}
use Rattle.std.proofs.lemmas.Option.{same_Some}
use Rattle.x86_64_model.specs.Lists.{In}
use Rattle.x86_64_model.specs.Memory.{Words, word, word_in}
use Rattle.x86_64_model.specs.PathMap.{PathMap, entry, table_of, table_at}
use Rattle.x86_64_model.specs.Call.{Call}
use Rattle.x86_64_model.specs.Machine.{State, Machine, IsMachine, step}
use Rattle.x86_64_model.specs.Flushing.{HasZeros, freed_by, due_after, System, MayMake}
use Rattle.x86_64_model.specs.Laws.Caches.{IsAfterCall, CallsMayHappen}
use Rattle.x86_64_model.specs.Laws.Steps.{FitsState}
use Rattle.x86_64_model.proofs.Lemmas.Hierarchies.Trees.{table_of_gives, used_table, some_not_none}
use Rattle.x86_64_model.proofs.Lemmas.Machines.Fitting.{sound_of_fits}
use Rattle.x86_64_model.proofs.Lemmas.Caches.Calls.{call_does}
use Rattle.x86_64_model.proofs.Lemmas.Caches.Kept.{target_table}
use Rattle.x86_64_model.proofs.Lemmas.Caches.Windowed.{Becomes, AsBefore, Made, Marked, Remapped, Reflagged, Removed}

pub same_zeros : (T U : Words) (f : ℕ) → U f ≡ T f → HasZeros T f → HasZeros U f
unfolding word
same_zeros T U f same zeros i = ap (λ o. cond (nat_lt i 512) (word_in o i) 0) same ∙ zeros i

in_or_not : (fs : List ℕ) (f : ℕ) → In fs f ⊎ (In fs f → ⊥)
in_or_not [] f = inr (λ i. absurd i)
in_or_not (g ∷ fs) f = ⊎_elim (λ e. inl (inl e)) (λ n. ⊎_elim (λ i. inl (inr i)) (λ k. inr (⊎_elim n k)) (in_or_not fs f)) (cases_eq g f)

-- a frame that is free after a call
pub free_after : (m : Machine) (root : ℕ) (T U : Words) (s : State) (call : Call) → IsAfterCall m root T U s call → (f : ℕ) → In (step m s call).state.pool f → HasZeros U f ⊎ (In s.pool f × (U f ≡ T f))
free_after m root T U s call after f i = ⊎_elim (λ back. inl (after.came_back f i back)) (λ n. inr (after.was_free f i n, after.same_words f i n)) (in_or_not (freed_by m.levels s call) f)

module _ (m : Machine) (is : IsMachine m) (root : ℕ) (serves : ℕ → Bool) (s : System) (fits : FitsState m s.words root serves s.state) (call : Call) (loses : Bool) (may : MayMake m s call loses)
    (U : Words) (after : IsAfterCall m root s.words U s.state call) where
  -- a table that the call removes has only words 0
  emptied : (q : List ℕ) (f : ℕ) → table_at m.levels root s.state.paths q ≡ Some f → table_at m.levels root (step m s.state call).state.paths q ≡ None → HasZeros U f
  emptied [] f t n = absurd (some_not_none root n)
  emptied (i ∷ q) f t n = by ((call_does m is root serves s.state (sound_of_fits m.levels m.window s.words root serves s.state fits) s.due call may.is_call).0 (i ∷ q))
    where
      gone : (o : Option ℕ) → o ≡ Some f → o ≡ None → HasZeros U f
      gone o a b = absurd (some_not_none f (sym a ∙ b))

      by : Becomes m.levels m.window (due_after m s.state call ++ s.due) (step m s.state call).state.pool (i ∷ q) (entry s.state.paths (i ∷ q)) (entry (step m s.state call).state.paths (i ∷ q)) → HasZeros U f
      by (AsBefore e) = gone _ (ap (table_of m.levels (i ∷ q)) e ∙ t) n
      by (Made u) = absurd (let x : true ≡ false = sym (used_table _ (table_of_gives m.levels (i ∷ q) _ f t).is_table) ∙ u in cc)
      by (Marked k same) = gone _ (target_table m.levels (i ∷ q) _ _ same ∙ t) n
      by (Remapped none d w) = gone _ t none
      by (Reflagged same r d b w) = gone _ (target_table m.levels (i ∷ q) _ _ same ∙ t) n
      by (Removed z w g names d free) = ⊎_elim (λ zeros. zeros)
          (λ x. absurd (fits.no_table f x.0 (i ∷ q, t)))
          (free_after m root s.words U s.state call after f (subst (In (step m s.state call).state.pool) (same_Some _ _ (sym names ∙ t)) free))

pub calls_may_happen : CallsMayHappen
calls_may_happen m is root serves s fits call loses may U after = record {
  valid = after.valid;
  between = λ q. inr refl;
  empty = λ q f t n. emptied m is root serves s fits call loses may U after q f (subst (λ (M : PathMap). table_at m.levels root M q ≡ Some f) may.done t) n;
  keeps = λ f unflushed free zeros. ⊎_elim (λ z. z) (λ x. same_zeros s.words U f x.1 zeros) (free_after m root s.words U s.state call after f free);
}
