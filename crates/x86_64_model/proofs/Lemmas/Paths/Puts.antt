-- Path maps by their entries.
use Rattle.std.proofs.Common.{◌≡◌, ◌≢◌, ◌⊎◌, inl, inr, ℕ, ◌==◌, Bool, true, false, not, cond, List, [], ◌∷◌, ◌++◌, Some, None, Option, unwrap_or, refl, sym, ap, ◌∙◌, subst, eqb-true, append-nil, append_assoc}
use Rattle.std.specs.Ordering.{nat_cmp, eq_by_cmp, is_eq}
use Rattle.std.proofs.Common.{Ordering}
use Rattle.std.proofs.lemmas.Option.{none-some}
use Rattle.std.specs.Cmp.Lexicographic.{slice_cmp, nat_list_cmp_total}
use Rattle.std.specs.Cmp.{tied_itself, Equal-is}
use Rattle.std.specs.FinMap.{get, insert, remove, get-insert, get-remove, same_map, IsAntisymmetric, nat_cmp-IsAntisymmetric, slice_cmp-IsAntisymmetric, empty, get-empty}
use Rattle.x86_64_model.specs.Entry.{used}
use Rattle.x86_64_model.specs.PathMap.{PathMap, entry, put, HasUsedAlone}

abbrev pub path_cmp : List ℕ → List ℕ → Ordering
path_cmp = slice_cmp nat_cmp

pub path_exact : IsAntisymmetric path_cmp
path_exact = slice_cmp-IsAntisymmetric nat_cmp-IsAntisymmetric

-- whether two paths are equal
abbrev pub same_path : List ℕ → List ℕ → Bool
same_path = eq_by_cmp path_cmp

pub same_path_itself : (p : List ℕ) → same_path p p ≡ true
same_path_itself p = ap is_eq (tied_itself nat_list_cmp_total p)

pub same_path_true : (q p : List ℕ) → same_path q p ≡ true → q ≡ p
same_path_true q p h = path_exact q p ((Equal-is _).0 h)

pub same_path_false : (q p : List ℕ) → q ≢ p → same_path q p ≡ false
same_path_false q p apart = elim (same_path q p) as (λ b. same_path q p ≡ b → b ≡ false) [ true ↦ λ e. absurd (apart (same_path_true q p e)) | false ↦ λ _. refl ] refl

pub cases_path : (q p : List ℕ) → (q ≡ p) ⊎ (q ≢ p)
cases_path q p = elim (same_path q p) as (λ b. same_path q p ≡ b → (q ≡ p) ⊎ (q ≢ p)) [
  | true ↦ λ e. inl (same_path_true q p e)
  | false ↦ λ e. inr (λ is. let t : same_path q p ≡ true = ap (same_path q) (sym is) ∙ same_path_itself q in cc)
] refl

-- if nothing is mapped
pub entry-empty : (q : List ℕ) → entry empty q ≡ 0
unfolding entry
entry-empty q = ap (λ o. unwrap_or o 0) (get-empty path_cmp q)

pub used_alone-empty : HasUsedAlone empty
used_alone-empty q h = none-some 0 (sym (get-empty path_cmp q) ∙ h)

pub entry-put : (M : PathMap) (p : List ℕ) (e : ℕ) (q : List ℕ) → entry (put M p e) q ≡ cond (same_path q p) e (entry M q)
unfolding entry put used
entry-put M p e q = by (e == 0) refl
  where
    gone : (b : Bool) (o : Option ℕ) → e ≡ 0 → unwrap_or (cond b None o) 0 ≡ cond b e (unwrap_or o 0)
    gone true o z = sym z
    gone false o z = refl

    there : (b : Bool) (o : Option ℕ) → unwrap_or (cond b (Some e) o) 0 ≡ cond b e (unwrap_or o 0)
    there true o = refl
    there false o = refl

    by : (b : Bool) → (e == 0) ≡ b → unwrap_or (get (cond (not b) (insert M p e) (remove M p)) q) 0 ≡ cond (same_path q p) e (unwrap_or (get M q) 0)
    by true z = ap (λ o. unwrap_or o 0) (get-remove nat_list_cmp_total M p q) ∙ gone (same_path q p) (get M q) (eqb-true e 0 z)
    by false z = ap (λ o. unwrap_or o 0) (get-insert nat_list_cmp_total M p e q) ∙ there (same_path q p) (get M q)

pub entry-put_same : (M : PathMap) (p : List ℕ) (e : ℕ) → entry (put M p e) p ≡ e
entry-put_same M p e = entry-put M p e p ∙ ap (λ b. cond b e (entry M p)) (same_path_itself p)

pub entry-put_other : (M : PathMap) (p : List ℕ) (e : ℕ) (q : List ℕ) → q ≢ p → entry (put M p e) q ≡ entry M q
entry-put_other M p e q apart = entry-put M p e q ∙ ap (λ b. cond b e (entry M q)) (same_path_false q p apart)

-- a path map has the used paths alone after any write
pub used_alone-put : (M : PathMap) (p : List ℕ) (e : ℕ) → HasUsedAlone M → HasUsedAlone (put M p e)
unfolding put used
used_alone-put M p e alone q = by (e == 0) refl
  where
    gone : (b : Bool) → cond b None (get M q) ≢ Some 0
    gone true h = cc
    gone false h = alone q h

    there : (b : Bool) → e ≢ 0 → cond b (Some e) (get M q) ≢ Some 0
    there true n h = n (ap (λ o. unwrap_or o 0) h)
    there false n h = alone q h

    by : (b : Bool) → (e == 0) ≡ b → get (cond (not b) (insert M p e) (remove M p)) q ≢ Some 0
    by true z h = gone (same_path q p) (sym (get-remove nat_list_cmp_total M p q) ∙ h)
    by false z h = there (same_path q p) (λ n. let t : (e == 0) ≡ true = ap (λ x. x == 0) n in cc) (sym (get-insert nat_list_cmp_total M p e q) ∙ h)

-- path maps with equal entries are equal
pub same_paths : (M N : PathMap) → HasUsedAlone M → HasUsedAlone N → ((p : List ℕ) → entry M p ≡ entry N p) → M ≡ N
unfolding entry
same_paths M N m n is = same_map nat_list_cmp_total path_exact M N (λ p. by (get M p) (get N p) (m p) (n p) (is p))
  where
    by : (a b : Option ℕ) → a ≢ Some 0 → b ≢ Some 0 → unwrap_or a 0 ≡ unwrap_or b 0 → a ≡ b
    by None None a b e = refl
    by None (Some y) a b e = absurd (b (ap Some (sym e)))
    by (Some x) None a b e = absurd (a (ap Some e))
    by (Some x) (Some y) a b e = ap Some e

-- a path that goes on is another one
pub append_longer : (p : List ℕ) (k : ℕ) (s : List ℕ) → p ++ k ∷ s ≢ p
append_longer [] k s e = cc
append_longer (i ∷ p) k s e = append_longer p k s (let t : p ++ k ∷ s ≡ p = cc in t)

pub no_end : (p : List ℕ) (i : ℕ) → [] ≢ p ++ i ∷ []
no_end [] i e = cc
no_end (j ∷ p) i e = cc

-- an induction that adds an index at the end
pub by_last : (P : List ℕ → Type 0) → P [] → ((q : List ℕ) (i : ℕ) → P q → P (q ++ i ∷ [])) → (p : List ℕ) → P p
by_last P start step p = from [] start p
  where
    from : (q : List ℕ) → P q → (p : List ℕ) → P (q ++ p)
    from q h [] = subst P (sym (append-nil q)) h
    from q h (i ∷ p) = subst P (append_assoc q (i ∷ []) p) (from (q ++ i ∷ []) (step q i h) p)
