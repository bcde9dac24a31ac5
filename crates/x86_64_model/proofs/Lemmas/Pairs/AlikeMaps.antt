-- A map call on path maps that are alike.
use Rattle.std.proofs.Common.{◌≡◌, ◌⊎◌, inl, inr, ⊎_elim, ◌≤◌, ℕ, ◌||◌, Bool, true, false, not, cond, List, [], ◌∷◌, length, find, Some, bit_or, refl, sym, ap, ◌∙◌, subst, subst₂}
use Rattle.std.specs.List.{AllByRecursion}
use Rattle.std.proofs.lemmas.Bool.{or_cases}
use Rattle.x86_64_model.specs.Entry.{IsParentFlags, used, present, huge}
use Rattle.x86_64_model.specs.PathMap.{PathMap, entry, put}
use Rattle.x86_64_model.specs.Path.{parents}
use Rattle.x86_64_model.specs.Refusal.{FrameAllocationFailed, Refused}
use Rattle.x86_64_model.specs.MapRule.{AfterMap, map_call, leaf_entry}
use Rattle.x86_64_model.specs.Allowed.{none_absent, parents_present}
use Rattle.x86_64_model.specs.Alike.{Alike}
use Rattle.x86_64_model.proofs.Lemmas.Entries.Bits.{used_present}
use Rattle.x86_64_model.proofs.Lemmas.Maps.Down.{Descends, descends_same, others, walked_down}
use Rattle.x86_64_model.specs.private.WalkDown.{walk_down, with_first}
use Rattle.x86_64_model.proofs.Lemmas.Maps.Frames.{IsFrame, AreParents}
use Rattle.x86_64_model.proofs.Lemmas.Hierarchies.Trees.{IsTree}
use Rattle.x86_64_model.proofs.Lemmas.Maps.Trees.{page_descends, parents_are}
pub use Rattle.x86_64_model.specs.Laws.Pairs.{IsAdded, NoneNames, AlikeRuns}
use Rattle.x86_64_model.proofs.Lemmas.Pairs.AlikeEntries.{like, alike_put, alike_marked, new_tables}

-- ---- a map

pub record AlikeMapped (L : ℕ) (m n : AfterMap) : Type 0 where
  pub paths : Alike L m.paths n.paths
  pub supply : m.supply ≡ n.supply
  pub answer : m.answer ≡ n.answer

-- down to and with the first huge one each entry is present
abbrev pub AllPresent : PathMap → List (List ℕ) → Type 0
AllPresent M [] = Unit {0}
AllPresent M (p ∷ ps) = (present (entry M p) ≡ true) × (huge (entry M p) ≡ false → AllPresent M ps)

pub all_present_same : (M N : PathMap) (ps : List (List ℕ)) → AllByRecursion (λ r. entry N r ≡ entry M r) ps → AllPresent M ps → AllPresent N ps
all_present_same M N [] same h = tt
all_present_same M N (p ∷ ps) same h = (ap present same.0 ∙ h.0, λ g. all_present_same M N ps same.1 (h.1 (ap huge (sym same.0) ∙ g)))

pub all_present : (M : PathMap) (ps : List (List ℕ)) → none_absent M (find (λ p. not (present (entry M p)) || huge (entry M p)) ps) ≡ true → AllPresent M ps
all_present M [] h = tt
all_present M (p ∷ ps) h = by (all_present M ps) (present (entry M p)) (huge (entry M p)) refl refl h
  where
    by : (none_absent M (find (λ p. not (present (entry M p)) || huge (entry M p)) ps) ≡ true → AllPresent M ps) → (a b : Bool) → present (entry M p) ≡ a → huge (entry M p) ≡ b → none_absent M (cond (not a || b) (Some p) (find (λ p. not (present (entry M p)) || huge (entry M p)) ps)) ≡ true
        → (present (entry M p) ≡ true) × (huge (entry M p) ≡ false → AllPresent M ps)
    by rest true true x y h = (x, λ g. let t : true ≡ false = sym y ∙ g in cc)
    by rest true false x y h = (x, λ g. rest h)
    by rest false b x y h = let t : true ≡ false = sym h ∙ x in cc

pub by_test : (L : ℕ) (u u' : Bool) (A B A' B' : AfterMap) → u' ≡ u → AlikeMapped L A A' → AlikeMapped L B B' → AlikeMapped L (cond u A B) (cond u' A' B')
by_test L u u' A B A' B' uu a b = subst (λ x. AlikeMapped L (cond u A B) (cond x A' B')) (sym uu) (elim u as (λ x. AlikeMapped L (cond x A B) (cond x A' B')) [ true ↦ a | false ↦ b ])

pub by_tests : (L : ℕ) (u h u' h' : Bool) (A B C A' B' C' : AfterMap) → u' ≡ u → h' ≡ h → (u ≡ true → h ≡ true → AlikeMapped L A A') → (u ≡ true → h ≡ false → AlikeMapped L B B') → (u ≡ false → AlikeMapped L C C')
    → AlikeMapped L (cond u (cond h A B) C) (cond u' (cond h' A' B') C')
by_tests L u h u' h' A B C A' B' C' uu hh a b c = subst₂ (λ x y. AlikeMapped L (cond u (cond h A B) C) (cond x (cond y A' B') C')) (sym uu) (sym hh)
    (elim u as (λ x. u ≡ x → AlikeMapped L (cond x (cond h A B) C) (cond x (cond h A' B') C')) [
      | true ↦ λ eu. elim h as (λ x. h ≡ x → AlikeMapped L (cond x A B) (cond x A' B')) [ true ↦ λ eh. a eu eh | false ↦ λ eh. b eu eh ] refl
      | false ↦ λ eu. c eu
    ] refl)

module _ (L more a b : ℕ) (marks : IsParentFlags more) (ia : IsAdded a) (ib : IsAdded b) (q : List ℕ) (e frame : ℕ) where
  pub walk_alike : (M N : PathMap) (supply : List ℕ) (ps : List (List ℕ)) → Alike L M N → Descends M ps q → Descends N ps q → (present more ≡ true) ⊎ AllPresent M ps → AreParents L ps → AllByRecursion IsFrame supply
      → AlikeMapped L (walk_down more a q e frame M supply ps) (walk_down more b q e frame N supply ps)
  walk_alike M N supply [] alike d c ready are fr = by_test L (used (entry M q)) (used (entry N q)) _ _ _ _ (like L M N alike q).same_used
      (record { paths = alike; supply = refl; answer = refl }) (record { paths = alike_put L M N alike q e e (inl refl); supply = refl; answer = refl })
  walk_alike M N supply (p ∷ ps) alike d c ready are fr =
      let l = like L M N alike p in
      let alike_on = alike_marked L more marks M N alike p in
      by_tests L (used (entry M p)) (huge (entry M p)) (used (entry N p)) (huge (entry N p)) _ _ _ _ _ _ l.same_used l.same_huge
      (λ u h. record { paths = alike_on; supply = refl; answer = refl })
      (λ u h. walk_alike (put M p (bit_or (entry M p) more)) (put N p (bit_or (entry N p) more)) supply ps alike_on
      (descends_same M _ ps q (others more a q e frame M p _ ps d.1) d.3) (descends_same N _ ps q (others more b q e frame N p _ ps c.1) c.3)
      (⊎_elim (λ m. inl m) (λ r. inr (all_present_same M _ ps (others more a q e frame M p _ ps d.1) (r.1 h))) ready) are.1 fr)
      (λ u. ⊎_elim (λ m. elim supply as (λ s. AllByRecursion IsFrame s → AlikeMapped L
      (with_first s (record { paths = M; supply = []; answer = Refused FrameAllocationFailed }) (λ f fs. walk_down more a q e frame (put M p (bit_or f (bit_or more a))) fs ps))
      (with_first s (record { paths = N; supply = []; answer = Refused FrameAllocationFailed }) (λ f fs. walk_down more b q e frame (put N p (bit_or f (bit_or more b))) fs ps))) [
        | [] ↦ λ fr. record { paths = alike; supply = refl; answer = refl }
        | f ∷ fs ↦ λ fr. walk_alike (put M p (bit_or f (bit_or more a))) (put N p (bit_or f (bit_or more b))) fs ps
            (alike_put L M N alike p _ _ (inr (are.0.1, new_tables more a b f marks m ia ib fr.0)))
            (descends_same M _ ps q (others more a q e frame M p _ ps d.1) d.3) (descends_same N _ ps q (others more b q e frame N p _ ps c.1) c.3) (inl m) are.1 fr.1
      ] fr) (λ r. absurd (let t : true ≡ false = sym (used_present _ r.0) ∙ u in cc)) ready)

pub map_alike : (L more a b : ℕ) → IsParentFlags more → IsAdded a → IsAdded b → (root root' : ℕ) (M N : PathMap) → IsTree L root M → IsTree L root' N → (supply q : List ℕ) (frame given : ℕ) → length q ≤ L → Alike L M N
    → parents_present M more q ≡ true → AllByRecursion IsFrame supply → AlikeMapped L (map_call L M supply more a q frame given) (map_call L N supply more b q frame given)
map_alike L more a b marks ia ib root root' M N tree tree' supply q frame given l alike ready fr =
    let d = page_descends L root M tree q in let c = page_descends L root' N tree' q in
    subst₂ (AlikeMapped L) (walked_down more a q (leaf_entry L q frame given) frame M supply (parents q) d) (walked_down more b q (leaf_entry L q frame given) frame N supply (parents q) c)
    (walk_alike L more a b marks ia ib q (leaf_entry L q frame given) frame M N supply (parents q) alike d c (⊎_elim (λ m. inl m) (λ r. inr (all_present M (parents q) r)) (or_cases _ _ ready)) (parents_are L q l) fr)
