-- A change of flags writes one entry at most.
use Rattle.std.proofs.Common.{◌≡◌, ◌⊎◌, inl, inr, ⊎_elim, ℕ, Bool, true, false, cond, List, Option, Some, None, refl, sym, ap, ◌∙◌, subst, nat_le}
use Rattle.std.proofs.lemmas.Option.{same_Some}
use Rattle.x86_64_model.specs.Call.{Call, UpdateFlags, SetFlags}
use Rattle.x86_64_model.specs.Entry.{used}
use Rattle.x86_64_model.specs.Flushing.{LosesNothing}
use Rattle.x86_64_model.specs.Machine.{Machine, State, do_call, step}
use Rattle.x86_64_model.specs.PageRules.{AfterChange, refused_or, update_flags, set_flags}
use Rattle.x86_64_model.specs.Path.{level_of, front_at, path_at}
use Rattle.x86_64_model.specs.PathMap.{PathMap, entry, put}
use Rattle.x86_64_model.specs.Refusal.{Refusal}
use Rattle.x86_64_model.proofs.Lemmas.Machines.Effects.{step_cases}
use Rattle.x86_64_model.proofs.Lemmas.Paths.Puts.{cases_path, entry-put_other}
use Rattle.x86_64.specs.OneEntry.{changed_by, OneEntryDecides}

-- nothing changes, or the entry at the path
abbrev Changes : PathMap → List ℕ → PathMap → Type 0
Changes M q N = (N ≡ M) ⊎ ((e : ℕ) × (N ≡ put M q e))

refused_changes : (M : PathMap) (q : List ℕ) (o : Option Refusal) (next : AfterChange) → Changes M q next.paths → Changes M q (refused_or M o next).paths
refused_changes M q None next is = is
refused_changes M q (Some why) next is = inl refl

either_changes : (M : PathMap) (q : List ℕ) (b : Bool) (x y : AfterChange) → Changes M q x.paths → Changes M q y.paths → Changes M q (cond b x y).paths
either_changes M q true x y first second = first
either_changes M q false x y first second = second

update_changes : (L : ℕ) (E : List ℕ → ℕ) (M : PathMap) (q : List ℕ) (given : ℕ) → Changes M q (update_flags L E M q given).paths
unfolding update_flags
update_changes L E M q given = refused_changes M q _ _ (refused_changes M q _ _ (inr (_, refl)))

set_changes : (L : ℕ) (E : List ℕ → ℕ) (M : PathMap) (level : ℕ) (q : List ℕ) (given : ℕ) → Changes M (front_at L level q) (set_flags L E M level q given).paths
unfolding set_flags
set_changes L E M level q given = either_changes M (front_at L level q) (nat_le level (level_of L q)) _ _ (inl refl)
    (refused_changes M (front_at L level q) _ _ (refused_changes M (front_at L level q) _ _ (inr (_, refl))))

call_changes : (m : Machine) (s : State) (call : Call) (q : List ℕ) → changed_by m.levels call ≡ Some q → Changes s.paths q (do_call m s call).state.paths
unfolding do_call
call_changes m s (UpdateFlags level page given) q is = subst (λ q. Changes s.paths q (do_call m s (UpdateFlags level page given)).state.paths) (same_Some _ _ is) (update_changes m.levels _ s.paths (path_at m.levels level page) given)
call_changes m s (SetFlags at level page given) q is = subst (λ q. Changes s.paths q (do_call m s (SetFlags at level page given)).state.paths) (same_Some _ _ is) (set_changes m.levels _ s.paths at (path_at m.levels level page) given)
call_changes m s call q is = cc

nothing_lost : (e : ℕ) → used e ≡ true → LosesNothing e e
nothing_lost e is = record {
  is_used = is;
  is_present = λ h. h;
  same_huge = refl;
  same_address = refl;
  same_kind = refl;
  accessed = λ h. h;
  dirty = λ h. h;
  write = λ h. h;
  user = λ h. h;
  execute = λ h. h;
}

others_stay : (M N : PathMap) (q : List ℕ) → Changes M q N → (used (entry M q) ≡ true → LosesNothing (entry M q) (entry N q)) → (p : List ℕ) → used (entry M p) ≡ true → LosesNothing (entry M p) (entry N p)
others_stay M N q (inl same) one p is = subst (λ N. LosesNothing (entry M p) (entry N p)) (sym same) (nothing_lost _ is)
others_stay M N q (inr (e, same)) one p is = ⊎_elim
    (λ here. subst (λ p. used (entry M p) ≡ true → LosesNothing (entry M p) (entry N p)) (sym here) one is)
    (λ apart. subst (λ f. LosesNothing (entry M p) f) (sym (ap (λ N. entry N p) same ∙ entry-put_other M q e p apart)) (nothing_lost _ is))
    (cases_path p q)

pub one_entry_decides : OneEntryDecides
one_entry_decides m s call q is one p used =
    others_stay s.paths (step m s call).state.paths q (step_cases m s call (λ after. Changes s.paths q after.state.paths) (λ h. call_changes m s call q is) (inl refl)) one p used
