-- The list of the tables that a clean up returns, and tests over the used paths.
use Rattle.std.proofs.Common.{◌≡◌, ◌≢◌, ⊎_elim, ℕ, zero, suc, ◌-◌, map, ◌==◌, Bool, true, false, not, cond, List, [], ◌∷◌, Some, None, Option, is_some, refl, sym, ap, ◌∙◌, arith, unwrap_or, ne_eqb}
use Rattle.std.specs.List.{list_all, list_any}
use Rattle.std.specs.FinMap.{keys, get, contains_key-keys, retain_keys, get-retain_keys}
use Rattle.std.proofs.lemmas.Bool.{and_parts, and_from, or_cases, or_left, or_right}
use Rattle.std.proofs.lemmas.Option.{none-some}
use Rattle.x86_64_model.specs.Entry.{used, address}
use Rattle.x86_64_model.specs.PathMap.{PathMap, entry, HasUsedAlone}
use Rattle.x86_64_model.specs.Path.{paths_below}
use Rattle.x86_64_model.specs.CleanUp.{is_removed, clean_up}
use Rattle.x86_64_model.proofs.Lemmas.Lists.All.{every, filter_none}
use Rattle.x86_64_model.proofs.Lemmas.Paths.Puts.{same_path, same_path_true, same_path_itself, same_paths, path_exact}

-- ---- tests over all keys

pub key_of_used : (M : PathMap) (p : List ℕ) → used (entry M p) ≡ true → list_any (same_path p) (keys M) ≡ true
unfolding entry used
key_of_used M p u = sym (contains_key-keys M p) ∙ by (get M p) u
  where
    by : (o : Option ℕ) → not (unwrap_or o 0 == 0) ≡ true → is_some o ≡ true
    by None h = cc
    by (Some x) h = refl

pub all_at : (P : List ℕ → Bool) (ks : List (List ℕ)) (p : List ℕ) → list_all P ks ≡ true → list_any (same_path p) ks ≡ true → P p ≡ true
all_at P [] p h g = cc
all_at P (k ∷ ks) p h g = let parts = and_parts _ _ h in ⊎_elim (λ e. ap P (same_path_true p k e) ∙ parts.0) (λ g. all_at P ks p parts.1 g) (or_cases _ _ g)

pub all_from : (P : List ℕ → Bool) (ks : List (List ℕ)) → ((p : List ℕ) → list_any (same_path p) ks ≡ true → P p ≡ true) → list_all P ks ≡ true
all_from P [] h = refl
all_from P (k ∷ ks) h = and_from _ _ (h k (or_left _ _ (same_path_itself k))) (all_from P ks (λ p g. h p (or_right _ _ g)))

-- a test holds at all keys exactly if it does at all used paths
pub at_used : (M : PathMap) (P : List ℕ → Bool) → list_all P (keys M) ≡ true → (p : List ℕ) → used (entry M p) ≡ true → P p ≡ true
at_used M P h p u = all_at P (keys M) p h (key_of_used M p u)

pub used_of_key : (M : PathMap) → HasUsedAlone M → (p : List ℕ) → list_any (same_path p) (keys M) ≡ true → used (entry M p) ≡ true
unfolding entry used
used_of_key M alone p h = by (get M p) (alone p) (contains_key-keys M p ∙ h)
  where
    by : (o : Option ℕ) → o ≢ Some 0 → is_some o ≡ true → not (unwrap_or o 0 == 0) ≡ true
    by None n h = cc
    by (Some zero) n h = absurd (n refl)
    by (Some (suc x)) n h = ap not (ne_eqb (suc x) 0 (λ e. absurd (omega arith)))

pub from_used : (M : PathMap) → HasUsedAlone M → (P : List ℕ → Bool) → ((p : List ℕ) → used (entry M p) ≡ true → P p ≡ true) → list_all P (keys M) ≡ true
from_used M alone P h = all_from P (keys M) (λ p g. h p (used_of_key M alone p g))

-- ---- what is left where some paths are removed

module _ (M : PathMap) (gone : List ℕ → Bool) (q : List ℕ) where
  got : get (retain_keys M (λ q. not (gone q))) q ≡ cond (not (gone q)) (get M q) None
  got = get-retain_keys M (λ q. not (gone q)) q (λ x e. ap (λ x. not (gone x)) (sym (path_exact q x e)))

  pub entry-retained : entry (retain_keys M (λ q. not (gone q))) q ≡ cond (gone q) 0 (entry M q)
  unfolding entry
  entry-retained = ap (λ o. unwrap_or o 0) got ∙ by (gone q) (get M q)
    where
      by : (b : Bool) (o : Option ℕ) → unwrap_or (cond (not b) o None) 0 ≡ cond b 0 (unwrap_or o 0)
      by true o = refl
      by false o = refl

  used_alone_at : HasUsedAlone M → get (retain_keys M (λ q. not (gone q))) q ≢ Some 0
  used_alone_at alone e = by (gone q) (get M q) (alone q) (sym got ∙ e)
    where
      by : (b : Bool) (o : Option ℕ) → o ≢ Some 0 → cond (not b) o None ≡ Some 0 → ⊥
      by true o n e = none-some 0 e
      by false o n e = n e

pub used_alone-retained : (M : PathMap) (gone : List ℕ → Bool) → HasUsedAlone M → HasUsedAlone (retain_keys M (λ q. not (gone q)))
used_alone-retained M gone alone q = used_alone_at M gone q alone

-- what a clean up leaves
pub entry-cleaned : (L : ℕ) (M : PathMap) (low high : ℕ) (q : List ℕ) → entry (clean_up L M low high).paths q ≡ cond (is_removed L M low high q) 0 (entry M q)
unfolding clean_up
entry-cleaned L M low high q = entry-retained M (is_removed L M low high) q

-- where it removes nothing it changes nothing
pub nothing_removed : (L : ℕ) (M : PathMap) → HasUsedAlone M → (low high : ℕ) → ((q : List ℕ) → is_removed L M low high q ≡ false) → clean_up L M low high ≡ record { paths = M; back = [] }
unfolding clean_up
nothing_removed L M alone low high none = λ n. record {
  paths = same_paths _ M (used_alone-retained M (is_removed L M low high) alone) alone (λ q. entry-cleaned L M low high q ∙ ap (λ b. cond b 0 (entry M q)) (none q)) n;
  back = map (λ q. address (entry M q)) (filter_none (is_removed L M low high) (paths_below (L - 1) []) (every _ none (paths_below (L - 1) [])) n);
}
