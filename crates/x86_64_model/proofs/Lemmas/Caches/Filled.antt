-- The processor may come to cache the page of a walk.
use Rattle.std.proofs.Common.{zero, suc, ◌≡◌, inl, inr, ⊎_elim, ℕ, List, [], ◌∷◌, Some, None, Option, option_and_then, refl, ap, ◌∙◌}
use Rattle.std.proofs.lemmas.Option.{same_Some}
use Rattle.x86_64_model.specs.Memory.{Words}
use Rattle.x86_64_model.specs.Position.{index}
use Rattle.x86_64_model.specs.Caches.{PartialWalk, start, Cached, Table, Page, cached_item, MayRead, Caches, then_on, walk_with_rights_from}
use Rattle.x86_64_model.specs.Laws.Caches.{CachesInTurn, WalksAreCached}

module _ (L : ℕ) (T : Words) (root p : ℕ) (w : PartialWalk) where
  -- one item alone
  one_item : (before : List Cached) (t : PartialWalk) (i : ℕ) (c : Cached) → MayRead root before t → cached_item L T t i ≡ Some c → Caches L root T before (c ∷ [])
  one_item before t i c may is d = ⊎_elim (λ e. inr (t, i, may, is ∙ ap Some e)) (λ h. absurd h)

  filled : (n : ℕ) (t : PartialWalk) (before : List Cached) → MayRead root before t → walk_with_rights_from L T p n t ≡ Some w → (between : List (List Cached)) × CachesInTurn L root T before between (Page w ∷ [])
  unfolding walk_with_rights_from
  filled zero t before may is = cc
  filled (suc n) t before may is = by (λ u next there is. filled n u next there is) (cached_item L T t (index (suc n) p)) refl is
    where
      by : ((u : PartialWalk) (next : List Cached) → MayRead root next u → walk_with_rights_from L T p n u ≡ Some w → (between : List (List Cached)) × CachesInTurn L root T next between (Page w ∷ []))
          → (o : Option Cached) → cached_item L T t (index (suc n) p) ≡ o → option_and_then (then_on (λ on. walk_with_rights_from L T p n on)) o ≡ Some w → (between : List (List Cached)) × CachesInTurn L root T before between (Page w ∷ [])
      by go None e is = cc
      by go (Some (Page v)) e is = ((Page v ∷ []) ∷ [], (one_item before t (index (suc n) p) (Page v) may e, ap (λ v. Page v ∷ []) (same_Some _ _ is)))
      by go (Some (Table u)) e is = let more = go u (Table u ∷ []) (inr (inl refl)) is in
          ((Table u ∷ []) ∷ more.0, (one_item before t (index (suc n) p) (Table u) may e, more.1))

pub walks_are_cached : WalksAreCached
walks_are_cached L T root p w is before = filled L T root p w L (start root) before (inl refl) is
