-- A map takes the first frames of the supply, at most one for each level above the page's.
use Rattle.std.proofs.Common.{◌≡◌, ◌≤◌, ◌-◌, zero-le, ℕ, List, [], ◌∷◌, length, refl, ap, arith}
use Rattle.std.proofs.lemmas.List.{length-map}
use Rattle.x86_64_model.specs.Conserved.{Takes}
use Rattle.x86_64_model.specs.PathMap.{PathMap}
use Rattle.x86_64_model.specs.Path.{parents}
use Rattle.x86_64_model.specs.MapRule.{map_call, leaf_entry}
use Rattle.x86_64_model.proofs.Lemmas.Maps.Accepted.{map_ind}
use Rattle.x86_64_model.proofs.Lemmas.Hierarchies.Trees.{IsTree}
use Rattle.x86_64_model.proofs.Lemmas.Maps.Trees.{page_descends}

count_parents : (i : ℕ) (q : List ℕ) → length (parents (i ∷ q)) ≡ length q
count_parents i [] = refl
count_parents i (j ∷ q) = let e = length-map (parents (j ∷ q)) (λ q. i ∷ q) in let k = count_parents j q in omega arith

parents_few : (L : ℕ) (q : List ℕ) → length q ≤ L → length (parents q) ≤ L - 1
parents_few L [] l = let z : 0 ≤ L - 1 = zero-le in z
parents_few L (i ∷ q) l = let e = count_parents i q in omega arith

pub map_takes : (L root : ℕ) (M : PathMap) (supply : List ℕ) (more added : ℕ) (q : List ℕ) (frame given : ℕ) → IsTree L root M → length q ≤ L → Takes supply (map_call L M supply more added q frame given).supply (L - 1)
map_takes L root M supply more added q frame given tree l =
    let t = map_ind more added q (leaf_entry L q frame given) frame (λ M s ps m. Takes s m.supply (length ps))
    (λ M s u. record { taken = []; first = refl; few = omega arith })
    (λ M s u. record { taken = []; first = refl; few = omega arith })
    (λ M s p ps u h. record { taken = []; first = refl; few = omega arith })
    (λ M s p ps d u h m ih. let f = ih.few in record { taken = ih.taken; first = ih.first; few = omega arith })
    (λ M p ps u. record { taken = []; first = refl; few = omega arith })
    (λ M f fs p ps d u m ih. let n = ih.few in record { taken = f ∷ ih.taken; first = ap (λ gs. f ∷ gs) ih.first; few = omega arith })
    M supply (parents q) (page_descends L root M tree q) in
    let n = t.few in let k = parents_few L q l in record { taken = t.taken; first = t.first; few = omega arith }
