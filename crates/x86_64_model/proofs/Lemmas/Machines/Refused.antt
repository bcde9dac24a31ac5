-- What a refused map leaves.
use Rattle.std.proofs.Common.{◌≡◌, ◌≢◌, ◌⊎◌, inl, inr, ⊎_elim, ◌^◌, ℕ, true, false, List, [], ◌∷◌, ◌++◌, refl, sym, ap, ◌∙◌}
use Rattle.std.specs.List.{AllByRecursion}
use Rattle.x86_64_model.specs.Entry.{IsParentFlags, has, used, address}
use Rattle.x86_64_model.specs.PathMap.{PathMap, entry}
use Rattle.x86_64_model.specs.Path.{parents}
use Rattle.x86_64_model.specs.Lists.{In}
use Rattle.x86_64_model.specs.Refusal.{Refusal, Done, Refused}
use Rattle.x86_64_model.specs.MapRule.{map_rule, map_call, leaf_entry}
use Rattle.x86_64_model.proofs.Lemmas.Entries.Bits.{address_or}
use Rattle.x86_64_model.proofs.Lemmas.Paths.Puts.{cases_path, entry-put_other}
use Rattle.x86_64_model.proofs.Lemmas.Hierarchies.Changes.{zero_not_used}
use Rattle.x86_64_model.proofs.Lemmas.Maps.Down.{Descends}
use Rattle.x86_64_model.proofs.Lemmas.Maps.Rights.{map_grows}
use Rattle.x86_64_model.proofs.Lemmas.Maps.Flags.{has_kept, has_gained}
use Rattle.x86_64_model.proofs.Lemmas.Maps.Accepted.{map_ind}
use Rattle.x86_64_model.proofs.Lemmas.Hierarchies.Trees.{IsTree, no_table_unused}
use Rattle.x86_64_model.proofs.Lemmas.Maps.Trees.{page_descends}
pub use Rattle.x86_64_model.specs.Laws.Steps.{UsedPresent}
pub use Rattle.x86_64_model.specs.Laws.Maps.{LeftByRefused}

-- ---- a refused map

module _ (more added : ℕ) (q : List ℕ) (e frame : ℕ) where
  pub refused_leaves : (r : List ℕ) → (M : PathMap) (supply : List ℕ) (ps : List (List ℕ)) → Descends M ps q → AllByRecursion (λ p. r ≢ p) ps → (why : Refusal) → (map_rule M supply more added ps q e frame).answer ≡ Refused why
      → entry (map_rule M supply more added ps q e frame).paths r ≡ entry M r
  refused_leaves r = map_ind more added q e frame (λ M s ps m. AllByRecursion (λ p. r ≢ p) ps → (why : Refusal) → m.answer ≡ Refused why → entry m.paths r ≡ entry M r)
      (λ M s u a why x. refl)
      (λ M s u a why x. let t : Done frame ≡ Refused why = x in cc)
      (λ M s p ps u h a why x. entry-put_other M p _ r a.0)
      (λ M s p ps d u h m ih a why x. ih a.1 why x ∙ entry-put_other M p _ r a.0)
      (λ M p ps u a why x. refl)
      (λ M f fs p ps d u m ih a why x. ih a.1 why x ∙ entry-put_other M p _ r a.0)

pub in_or_none : (r : List ℕ) (ps : List (List ℕ)) → In ps r ⊎ AllByRecursion (λ p. r ≢ p) ps
in_or_none r [] = inr tt
in_or_none r (p ∷ ps) = ⊎_elim (λ e. inl (inl (sym e))) (λ n. ⊎_elim (λ h. inl (inr h)) (λ a. inr (n, a)) (in_or_none r ps)) (cases_path r p)

pub refused_map : (L root : ℕ) (M : PathMap) (supply : List ℕ) (more added : ℕ) (q : List ℕ) (frame given : ℕ) → IsTree L root M → IsParentFlags more
    → (why : Refusal) → (map_call L M supply more added q frame given).answer ≡ Refused why → LeftByRefused more M (map_call L M supply more added q frame given).paths q
refused_map L root M supply more added q frame given tree marks why refused =
    let g = map_grows more added q (leaf_entry L q frame given) frame M supply (parents q) (page_descends L root M tree q) in
    let left : (r : List ℕ) → AllByRecursion (λ p. r ≢ p) (parents q) → entry (map_call L M supply more added q frame given).paths r ≡ entry M r =
    λ r a. refused_leaves more added q (leaf_entry L q frame given) frame r M supply (parents q) (page_descends L root M tree q) a why refused in record {
      same_addresses = λ r u. ⊎_elim (λ is. ap address is) (λ is. ap address is ∙ address_or (entry M r) more marks.no_address) (g r u);
      flags_kept = λ r flag u h. ⊎_elim (λ is. ap (λ e. has e flag) is ∙ h) (λ is. ap (λ e. has e flag) is ∙ has_kept (entry M r) more flag h) (g r u);
      flags_gained = λ r k u h. ⊎_elim (λ is. inl (sym (ap (λ e. has e (2 ^ k)) is) ∙ h)) (λ is. has_gained (entry M r) more k (sym (ap (λ e. has e (2 ^ k)) is) ∙ h)) (g r u);
      off_path = λ r n. left r (⊎_elim (λ i. absurd (n i)) (λ a. a) (in_or_none r (parents q)));
      new_tables = λ i r j u v. ⊎_elim (λ h. h) (λ a. absurd (let z : false ≡ true = sym (ap used (left (i ∷ r ++ j ∷ []) a ∙ tree.below (i ∷ r) j (no_table_unused L root M i r u)) ∙ zero_not_used) ∙ v in cc)) (in_or_none (i ∷ r ++ j ∷ []) (parents q));
    }
