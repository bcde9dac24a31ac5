-- An entry that is replaced by another, which names another table or none, whose words name no tables: the
-- path map is known.
use Rattle.std.proofs.Common.{◌≡◌, ◌≢◌, ◌⊎◌, inl, inr, ⊎_elim, ◌<◌, ◌≤◌, ℕ, List, [], ◌∷◌, ◌++◌, length, Some, None, Option, IsSome, refl, sym, ap, ap₂, ◌∙◌, arith, append_assoc}
use Rattle.std.proofs.lemmas.Bool.{cases_eq}
use Rattle.std.proofs.lemmas.List.{same_from_push}
use Rattle.std.proofs.lemmas.Option.{none-some, same_Some}
use Rattle.x86_64_model.specs.Entry.{huge}
use Rattle.x86_64_model.specs.Validity.{entry_in, IsValid, paths_of}
use Rattle.x86_64_model.specs.Memory.{Words, word}
use Rattle.x86_64_model.specs.Path.{level_of}
use Rattle.x86_64_model.specs.PathMap.{PathMap, entry, table_of, table_at}
use Rattle.x86_64_model.proofs.Lemmas.Hierarchies.Exists.{law_paths_of, holds_paths_of, nothing_above_paths_of}
use Rattle.x86_64_model.proofs.Lemmas.Hierarchies.Held.{table_at_same}
use Rattle.x86_64_model.proofs.Lemmas.Hierarchies.Trees.{table_at_is}
use Rattle.x86_64_model.proofs.Lemmas.Paths.Puts.{by_last, cases_path, append_longer, no_end}
use Rattle.x86_64_model.proofs.Lemmas.Walks.Walked.{one_more}

-- Before are words V, which hold M; afterwards words W. The entry at q, which is word i of frame f, becomes
-- t, which names the table o.
pub record IsReplaced (L : ℕ) (V W : Words) (root : ℕ) (M : PathMap) (q : List ℕ) (f i t : ℕ)
    (o : Option ℕ) : Type 0 where
  pub above : List ℕ
  pub is : q ≡ above ++ i ∷ []
  pub leads : table_at L root M above ≡ Some f
  pub named : table_of L q t ≡ o
  pub fresh : (g : ℕ) (r : List ℕ) → o ≡ Some g → table_at L root M r ≢ Some g
  pub not_zero : o ≢ Some 0
  pub low : level_of L q ≤ 3
  pub no_tables : (j : ℕ) → table_of L (q ++ j ∷ []) (entry_in W o j) ≡ None
  pub none_below : (j k : ℕ) → entry M (q ++ j ∷ k ∷ []) ≡ 0
  pub written : word W f i ≡ t
  pub beside : (j : ℕ) → j ≢ i → word W f j ≡ word V f j
  pub others : (h : ℕ) → h ≢ f → o ≢ Some h → (j : ℕ) → word W h j ≡ word V h j
  pub there : (h : ℕ) → IsSome (V h) → IsSome (W h)
  pub table_there : (g : ℕ) → o ≡ Some g → IsSome (W g)

module _ (L : ℕ) (V W : Words) (root : ℕ) (M : PathMap) (some : 0 < L) (valid : IsValid L V root M)
    (q : List ℕ) (f i t : ℕ) (o : Option ℕ) (x : IsReplaced L V W root M q f i t o) where
  abbrev pub N : PathMap
  N = paths_of L W root

  -- neither the path nor one just below it
  abbrev pub Apart : List ℕ → Type 0
  Apart r = (r ≢ q) × ((j : ℕ) → r ≢ q ++ j ∷ [])

  pub nonempty : q ≢ []
  nonempty e = no_end x.above i (sym e ∙ x.is)

  pub kind : (r : List ℕ) → (r ≡ q) ⊎ (((j : ℕ) × (r ≡ q ++ j ∷ [])) ⊎ Apart r)
  kind = by_last (λ r. (r ≡ q) ⊎ (((j : ℕ) × (r ≡ q ++ j ∷ [])) ⊎ Apart r))
      (inr (inr (λ e. nonempty (sym e), λ j e. no_end q j e)))
      (λ r j h. ⊎_elim
      (λ e. inl e)
      (λ n. ⊎_elim (λ e. inr (inl (j, ap (λ r. r ++ j ∷ []) e)))
      (λ m. inr (inr (n, λ k e. m (ends r q j k e).0))) (cases_path r q))
      (cases_path (r ++ j ∷ []) q))
    where
      ends : (r q : List ℕ) (j k : ℕ) → r ++ j ∷ [] ≡ q ++ k ∷ [] → (r ≡ q) × (j ≡ k)
      ends r q j k e = same_from_push r q j k e

  pub record Now (r : List ℕ) : Type 0 where
    pub itself : r ≡ q → entry N r ≡ t
    pub below : (j : ℕ) → r ≡ q ++ j ∷ [] → entry N r ≡ entry_in W o j
    pub elsewhere : Apart r → entry N r ≡ entry M r

  -- ---- the tables of the new map

  pub table_itself : (r : List ℕ) → Now r → r ≡ q → table_at L root N r ≡ o
  table_itself r now e = table_at_is L root N r (λ z. nonempty (sym e ∙ z))
      ∙ ap₂ (table_of L) e (now.itself e) ∙ x.named

  table_below : (r : List ℕ) (j : ℕ) → Now r → r ≡ q ++ j ∷ [] → table_at L root N r ≡ None
  table_below r j now e = table_at_is L root N r (λ z. no_end q j (sym z ∙ e))
      ∙ ap₂ (table_of L) e (now.below j e) ∙ x.no_tables j

  pub table_elsewhere : (r : List ℕ) → Now r → Apart r → table_at L root N r ≡ table_at L root M r
  table_elsewhere r now a = table_at_same L root N M r (now.elsewhere a)

  -- ---- its entries

  law : (r : List ℕ) (j : ℕ) → entry N (r ++ j ∷ []) ≡ entry_in W (table_at L root N r) j
  law r j = law_paths_of L W root some r j

  ends : (r s : List ℕ) (j k : ℕ) → r ++ j ∷ [] ≡ s ++ k ∷ [] → (r ≡ s) × (j ≡ k)
  ends r s j k e = same_from_push r s j k e

  next_itself : (r : List ℕ) (j : ℕ) → Now r → r ≡ q → Now (r ++ j ∷ [])
  next_itself r j now e =
      let value : entry N (r ++ j ∷ []) ≡ entry_in W o j = law r j
      ∙ ap (λ o. entry_in W o j) (table_itself r now e) in record {
        itself = λ z. absurd (append_longer q j [] (ap (λ r. r ++ j ∷ []) (sym e) ∙ z));
        below = λ k z. value ∙ ap (entry_in W o) (ends r q j k z).1;
        elsewhere = λ a. absurd (a.1 j (ap (λ r. r ++ j ∷ []) e));
      }

  next_below : (r : List ℕ) (j k : ℕ) → Now r → r ≡ q ++ k ∷ [] → Now (r ++ j ∷ [])
  next_below r j k now e =
      let value : entry N (r ++ j ∷ []) ≡ 0 = law r j ∙ ap (λ o. entry_in W o j) (table_below r k now e) in
      let longer : r ++ j ∷ [] ≡ q ++ k ∷ j ∷ [] = ap (λ r. r ++ j ∷ []) e
      ∙ append_assoc q (k ∷ []) (j ∷ []) in record {
        itself = λ z. absurd (append_longer q k (j ∷ []) (sym longer ∙ z));
        below = λ l z. absurd (append_longer q k [] (sym e ∙ (ends r q j l z).0));
        elsewhere = λ a. value ∙ sym (ap (entry M) longer ∙ x.none_below k j);
      }

  next_elsewhere : (r : List ℕ) (j : ℕ) → Now r → Apart r → Now (r ++ j ∷ [])
  next_elsewhere r j now a = by (table_at L root M r) refl
    where
      at : (o' : Option ℕ) → table_at L root M r ≡ o' → entry N (r ++ j ∷ []) ≡ entry_in W o' j
      at o' is = law r j ∙ ap (λ o. entry_in W o j) (table_elsewhere r now a ∙ is)

      was : (o' : Option ℕ) → table_at L root M r ≡ o' → entry M (r ++ j ∷ []) ≡ entry_in V o' j
      was o' is = valid.holds.entries r j ∙ ap (λ o. entry_in V o j) is

      not_below : (k : ℕ) → r ++ j ∷ [] ≢ q ++ k ∷ []
      not_below k z = a.0 (ends r q j k z).0

      at_above : r ++ j ∷ [] ≡ q → (r ≡ x.above) × (j ≡ i)
      at_above z = ends r x.above j i (z ∙ x.is)

      in_frame : (h : ℕ) → table_at L root M r ≡ Some h → Now (r ++ j ∷ [])
      in_frame h is = ⊎_elim
          (λ hf. let up : r ≡ x.above = valid.own_frames r x.above f (is ∙ ap Some hf) x.leads in ⊎_elim
          (λ ji. let here : r ++ j ∷ [] ≡ q = ap₂ (λ r j. r ++ j ∷ []) up ji ∙ sym x.is in record {
            itself = λ z. at (Some h) is ∙ ap₂ (word W) hf ji ∙ x.written;
            below = λ k z. absurd (not_below k z);
            elsewhere = λ b. absurd (b.0 here);
          })
          (λ n. record {
            itself = λ z. absurd (n (at_above z).1);
            below = λ k z. absurd (not_below k z);
            elsewhere = λ b. at (Some h) is ∙ ap (λ h. word W h j) hf ∙ x.beside j n
                ∙ sym (was (Some h) is ∙ ap (λ h. word V h j) hf);
          })
          (cases_eq j i))
          (λ n. record {
            itself = λ z. absurd
                (n (same_Some h f (sym is ∙ ap (table_at L root M) (at_above z).0 ∙ x.leads)));
            below = λ k z. absurd (not_below k z);
            elsewhere = λ b. at (Some h) is ∙ x.others h n (λ g. x.fresh h r g is) j ∙ sym (was (Some h) is);
          })
          (cases_eq h f)

      by : (o' : Option ℕ) → table_at L root M r ≡ o' → Now (r ++ j ∷ [])
      by None is = record {
        itself = λ z. absurd (none-some f (sym is ∙ ap (table_at L root M) (at_above z).0 ∙ x.leads));
        below = λ k z. absurd (not_below k z);
        elsewhere = λ b. at None is ∙ sym (was None is);
      }
      by (Some h) is = in_frame h is

  pub all_now : (r : List ℕ) → Now r
  all_now = by_last Now
      (record {
        itself = λ z. absurd (nonempty (sym z));
        below = λ k z. absurd
            (no_end q k z);
        elsewhere = λ a. nothing_above_paths_of L W root
            ∙ sym valid.holds.nothing_above;
      })
      (λ r j now. ⊎_elim (λ e. next_itself r j now e)
      (λ z. ⊎_elim (λ y. next_below r j y.0 now y.1) (λ a. next_elsewhere r j now a) z) (kind r))

  -- ---- validity

  pub comes_from : (r : List ℕ) (h : ℕ) → table_at L root N r ≡ Some h → ((r ≡ q) × (o ≡ Some h))
      ⊎ ((r ≢ q) × (table_at L root M r ≡ Some h))
  comes_from r h leads = ⊎_elim
      (λ e. inl (e, sym (table_itself r (all_now r) e) ∙ leads))
      (λ z. ⊎_elim
      (λ y. absurd (none-some h (sym (table_below r y.0 (all_now r) y.1) ∙ leads)))
      (λ a. inr (a.0, sym (table_elsewhere r (all_now r) a) ∙ leads)) z)
      (kind r)

  pub valid_replaced : IsValid L W root N
  valid_replaced = record {
    holds = holds_paths_of L W root some
        (λ r h leads. ⊎_elim (λ y. x.table_there h y.1) (λ y. x.there h (valid.holds.in_memory r h y.1))
        (comes_from r h leads));
    own_frames = λ p r h a b. ⊎_elim
        (λ y. ⊎_elim (λ z. y.0 ∙ sym z.0) (λ z. absurd (x.fresh h r y.1 z.1)) (comes_from r h b))
        (λ y. ⊎_elim (λ z. absurd (x.fresh h p z.1 y.1)) (λ z. valid.own_frames p r h y.1 z.1)
        (comes_from r h b))
        (comes_from p h a);
    not_zero = λ j r leads. ⊎_elim (λ y. x.not_zero y.1) (λ y. valid.not_zero j r y.1)
        (comes_from (j ∷ r) 0 leads);
    none_huge = λ r up. ⊎_elim
        (λ e. absurd (let its = ap length e in let low = x.low in omega (arith, its, low, up)))
        (λ z. ⊎_elim
        (λ y. absurd (let its = ap length y.1 in let low = x.low in let more = one_more q y.0 in omega
        (arith, its, low, up, more)))
        (λ a. ap huge ((all_now r).elsewhere a) ∙ valid.none_huge r up) z)
        (kind r);
  }
