-- An entry that is put where its table is there leaves a hierarchy.
use Rattle.std.proofs.Common.{◌≡◌, ◌≢◌, ◌<◌, ℕ, true, false, List, [], ◌∷◌, ◌++◌, Some, None, sym, ap, ◌∙◌, subst, arith, ⊎_elim}
use Rattle.std.proofs.lemmas.List.{same_from_push}
use Rattle.x86_64_model.specs.Entry.{used, huge}
use Rattle.x86_64_model.specs.PathMap.{PathMap, entry, put, table_of, table_at}
use Rattle.x86_64_model.specs.Path.{level_of}
use Rattle.x86_64_model.proofs.Lemmas.Paths.Puts.{cases_path, entry-put_same, entry-put_other, used_alone-put, append_longer}
use Rattle.x86_64_model.proofs.Lemmas.Hierarchies.Trees.{IsTree, IsHierarchy, used_last}
use Rattle.x86_64_model.proofs.Lemmas.Hierarchies.Held.{table_at-put_other, table_at-put_same}

-- ---- a path whose table is there

abbrev pub Reached : ℕ → ℕ → PathMap → List ℕ → Type 0
Reached L root M q = (p : List ℕ) (i : ℕ) → q ≡ p ++ i ∷ [] → (i < 512) × (table_at L root M p ≢ None)

pub reached_used : (L root : ℕ) (M : PathMap) → IsTree L root M → (q : List ℕ) → used (entry M q) ≡ true → Reached L root M q
reached_used L root M tree q u p i e = used_last L root M tree p i (subst (λ q. used (entry M q) ≡ true) e u)

pub reached_next : (L root : ℕ) (M : PathMap) (p : List ℕ) (i : ℕ) → table_at L root M p ≢ None → i < 512 → Reached L root M (p ++ i ∷ [])
reached_next L root M p i leads small r j e = let ends : (p ≡ r) × (i ≡ j) = same_from_push p r i j e in
    (subst (λ j. j < 512) ends.1 small, subst (λ r. table_at L root M r ≢ None) ends.0 leads)

module _ (L root : ℕ) (M : PathMap) (q : List ℕ) (w : ℕ) (nonempty : q ≢ []) where
  at_put : table_at L root (put M q w) q ≡ table_of L q w
  at_put = table_at-put_same L root M q w nonempty

  else_put : (r : List ℕ) → r ≢ q → table_at L root (put M q w) r ≡ table_at L root M r
  else_put = table_at-put_other L root M q w

  pub tree_put : IsTree L root M → Reached L root M q → (table_of L q w ≡ None → table_at L root M q ≡ None) → IsTree L root (put M q w)
  tree_put tree reached keeps = record {
    nothing_above = entry-put_other M q w [] (λ e. nonempty (sym e)) ∙ tree.nothing_above;
    used_alone = used_alone-put M q w tree.used_alone;
    below = λ r i h. ⊎_elim
        (λ e. absurd ((reached r i (sym e)).1 (sym (else_put r (λ is. append_longer q i [] (ap (λ r. r ++ i ∷ []) (sym is) ∙ e))) ∙ h)))
        (λ n. entry-put_other M q w (r ++ i ∷ []) n ∙ tree.below r i (⊎_elim
        (λ is. ap (table_at L root M) is ∙ keeps (sym at_put ∙ ap (table_at L root (put M q w)) (sym is) ∙ h))
        (λ n. sym (else_put r n) ∙ h) (cases_path r q))) (cases_path (r ++ i ∷ []) q);
    small = λ r i l. ⊎_elim
        (λ e. absurd (let h = (reached r i (sym e)).0 in omega arith))
        (λ n. entry-put_other M q w (r ++ i ∷ []) n ∙ tree.small r i l) (cases_path (r ++ i ∷ []) q);
  }

  pub hierarchy_put : IsHierarchy L root M → Reached L root M q → (table_of L q w ≡ None → table_at L root M q ≡ None) → table_of L q w ≢ Some 0 → (3 < level_of L q → huge w ≡ false)
      → IsHierarchy L root (put M q w)
  hierarchy_put h reached keeps nonzero low = record {
    tree = tree_put h.tree reached keeps;
    not_zero = λ i p t. ⊎_elim (λ e. nonzero (sym at_put ∙ ap (table_at L root (put M q w)) (sym e) ∙ t)) (λ n. h.not_zero i p (sym (else_put (i ∷ p) n) ∙ t)) (cases_path (i ∷ p) q);
    none_huge = λ r up. ⊎_elim (λ e. ap (λ r. huge (entry (put M q w) r)) e ∙ ap huge (entry-put_same M q w) ∙ low (subst (λ q. 3 < level_of L q) e up)) (λ n. ap huge (entry-put_other M q w r n) ∙ h.none_huge r up) (cases_path r q);
  }
