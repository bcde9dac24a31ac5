-- Paths outside the recursive index.
use Rattle.std.proofs.Common.{◌≡◌, ◌<◌, ℕ, suc, true, false, ◌==◌, List, [], ◌∷◌, ◌++◌, length, take, drop, get_or, Option, Some, refl, sym, ap, ◌∙◌, eq-eqb}
use Rattle.std.proofs.lemmas.List.{take-append-drop}
use Rattle.std.proofs.Math.Seq.{drop-cons}
use Rattle.x86_64_model.proofs.Lemmas.Lists.All.{all_mapped}
use Rattle.x86_64_model.proofs.Lemmas.Pairs.AlikeEntries.{LikeAt, like_same}
use Rattle.x86_64_model.proofs.Lemmas.Pairs.AlikeRules.{same_stop}
use Rattle.x86_64_model.proofs.Lemmas.Maps.Arrives.{parents_outside}
use Rattle.x86_64_model.specs.Memory.{Memory}
use Rattle.x86_64_model.specs.Layout.{Layout}
use Rattle.x86_64_model.specs.Hierarchy.{◌laid_in◌, Valid, paths}
use Rattle.x86_64_model.specs.Path.{parents}
use Rattle.x86_64_model.specs.PathMap.{PathMap, entry, table_at}
use Rattle.x86_64_model.specs.Refusal.{first_stop}
use Rattle.x86_64_model.specs.Window.{Window, entry_at, begins_with}
use Rattle.x86_64_mappers.specs.private.Linked.{Beside}

-- an entry on a path outside the index isn't the self-entry
pub beside_on : (l : Layout) (m : Memory) → Valid (l laid_in m) → (done : List ℕ) (i : ℕ) (left : List ℕ) → begins_with l.window (done ++ i ∷ left) ≡ false → (f : ℕ) → table_at l.levels l.root (paths (l laid_in m)) done ≡ Some f → Beside l.window l.root f i
beside_on l m valid [] i left o f leads v e h k = let a : (i == v.index) ≡ false = ap (λ w. begins_with w (i ∷ left)) (sym e) ∙ o in let b : (i == v.index) ≡ true = eq-eqb i v.index k in cc
beside_on l m valid (j ∷ done) i left o f leads v e h k = let a : j ∷ done ≡ [] = valid.valid.own_frames (j ∷ done) [] l.root (leads ∙ ap Some h) refl in cc

pub beside_at : (l : Layout) (m : Memory) → Valid (l laid_in m) → (path : List ℕ) (k : ℕ) → k < length path → begins_with l.window path ≡ false → (f : ℕ) → table_at l.levels l.root (paths (l laid_in m)) (take k path) ≡ Some f → Beside l.window l.root f (get_or path k 0)
beside_at l m valid path k within o f leads = beside_on l m valid (take k path) (get_or path k 0) (drop (suc k) path)
    (ap (λ d. begins_with l.window (take k path ++ d)) (sym (drop-cons path k 0 within)) ∙ ap (begins_with l.window) (take-append-drop k path) ∙ o) f leads

-- outside the index, the path map alone decides whether a page is stopped
pub first_stop_outside : (window : Option Window) (M : PathMap) (q : List ℕ) → begins_with window q ≡ false → first_stop (entry_at window M) q ≡ first_stop (entry M) q
unfolding first_stop
first_stop_outside window M [] o = refl
first_stop_outside window M (i ∷ p) o = same_stop (entry M) (entry_at window M) (i ∷ p)
    (all_mapped _ (λ q. LikeAt (entry M q) (entry_at window M q)) (λ q. like_same (entry M q) (entry_at window M q)) (parents (i ∷ p)) (parents_outside window M i p o))
