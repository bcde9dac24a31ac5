-- Where a clean up comes to.
use Rattle.std.proofs.Common.{◌≡◌, ◌≢◌, ℕ, ◌&&◌, true, List, [], ◌∷◌, ◌++◌, refl, sym, ap, ◌∙◌}
use Rattle.std.proofs.lemmas.Bool.{and_parts, and_from}
use Rattle.std.proofs.lemmas.List.Folds.{list_all-append}
use Rattle.std.specs.List.{list_all}
use Rattle.x86_64_model.specs.PathMap.{PathMap}
use Rattle.x86_64_model.specs.Path.{parents}
use Rattle.x86_64_model.specs.CleanUp.{in_range, meets}
use Rattle.x86_64_model.proofs.Lemmas.CleanUps.Removed.{parents_last}
use Rattle.x86_64_model.proofs.Lemmas.CleanUps.Below.{Visits}

parents_more : (q : List ℕ) (i j : ℕ) → parents ((q ++ i ∷ []) ++ j ∷ []) ≡ parents (q ++ i ∷ []) ++ (q ++ i ∷ []) ∷ []
parents_more [] i j = parents_last i [] j
parents_more (k ∷ q) i j = parents_last k (q ++ i ∷ []) j

pub next_visits : (L : ℕ) (M : PathMap) (low high : ℕ) (q : List ℕ) (i : ℕ) → Visits L M low high q → in_range L M low high (q ++ i ∷ []) ≡ true → Visits L M low high (q ++ i ∷ [])
next_visits L M low high q i v h j = ap (list_all (in_range L M low high)) (parents_more q i j)
    ∙ list_all-append (in_range L M low high) (parents (q ++ i ∷ [])) ((q ++ i ∷ []) ∷ []) ∙ and_from _ _ (v i) (and_from _ _ h refl)

-- and q itself is in range, if it isn't the root's
pub visits_in_range : (L : ℕ) (M : PathMap) (low high : ℕ) (q : List ℕ) → Visits L M low high q → q ≢ [] → in_range L M low high q ≡ true
visits_in_range L M low high [] v n = absurd (n refl)
visits_in_range L M low high (k ∷ c) v n =
    let all : (list_all (in_range L M low high) (parents (k ∷ c)) && (in_range L M low high (k ∷ c) && true)) ≡ true =
    sym (list_all-append (in_range L M low high) (parents (k ∷ c)) ((k ∷ c) ∷ [])) ∙ ap (list_all (in_range L M low high)) (sym (parents_last k c 0)) ∙ v 0 in
    (and_parts _ _ (and_parts _ _ all).1).0

pub visits_meets : (L : ℕ) (M : PathMap) (low high : ℕ) (q : List ℕ) → Visits L M low high q → q ≢ [] → meets L low high q ≡ true
visits_meets L M low high q v n = (and_parts _ _ (visits_in_range L M low high q v n)).1
