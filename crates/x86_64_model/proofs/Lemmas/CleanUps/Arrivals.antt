-- A clean up keeps the result of each walk.
use Rattle.std.proofs.Common.{zero, suc, ◌≡◌, ◌+◌, ◌%◌, ℕ, ◌&&◌, Bool, true, false, cond, List, [], ◌∷◌, ◌++◌, length, nat_le, None, Option, refl, sym, ap, ap₂, ◌∙◌, arith}
use Rattle.std.proofs.lemmas.Bool.{cond-false}
use Rattle.x86_64_model.specs.Position.{index, span}
use Rattle.x86_64_model.specs.Entry.{present, writable, user, huge, address}
use Rattle.x86_64_model.specs.PathMap.{PathMap, entry}
use Rattle.x86_64_model.specs.PageWalk.{Walked, arrives, page_start}
use Rattle.x86_64_model.specs.CleanUp.{is_removed, clean_up}
use Rattle.x86_64_model.proofs.Lemmas.Entries.Bits.{zero_absent, unused_absent}
use Rattle.x86_64_model.proofs.Lemmas.Walks.Walked.{walked, passed, one_more}
use Rattle.x86_64_model.proofs.Lemmas.Hierarchies.Trees.{IsTree}
use Rattle.x86_64_model.proofs.Lemmas.CleanUps.Removed.{removed_gives}
use Rattle.x86_64_model.proofs.Lemmas.CleanUps.Answers.{is_table, gone, stays, child_unused, leaf_stays}

-- a word that isn't present leads nowhere, and one that names a table leads where the walk on does
absent_passed : (level p e : ℕ) (w u : Bool) (x : Option Walked) → present e ≡ false → passed level p w u e x ≡ None
absent_passed level p e w u x h = cond-false (present e) _ None h

table_passed : (level p e : ℕ) (w u : Bool) (x : Option Walked) → huge e ≡ false → x ≡ None → passed level p w u e x ≡ None
table_passed level p e w u x g z = by (present e)
  where
    low : cond (huge e) (cond (nat_le level 3) (arrives (page_start level e + p % span level) (w && writable e) (u && user e)) None) x ≡ None
    low = cond-false (huge e) _ x g ∙ z

    by : (h : Bool) → cond h (cond (huge e) (cond (nat_le level 3) (arrives (page_start level e + p % span level) (w && writable e) (u && user e)) None) x) None ≡ None
    by true = low
    by false = refl

module _ (L root : ℕ) (M : PathMap) (tree : IsTree L root M) (low high : ℕ) where
  abbrev N : PathMap
  N = (clean_up L M low high).paths

  -- below a removed table no walk arrives
  none_below : (p level i : ℕ) (c : List ℕ) (w u : Bool) → length (i ∷ c) + level ≡ L → is_removed L M low high (i ∷ c) ≡ true → walked (entry M) p level (i ∷ c) w u ≡ None
  none_below p zero i c w u l r = refl
  none_below p (suc zero) i c w u l r = let j = index 1 p in
      cond-false (present (entry M (i ∷ c ++ j ∷ []))) _ None (unused_absent _ (child_unused L root M tree low high i c j r (leaf_stays L root M tree low high (i ∷ c ++ j ∷ []) (omega (arith, one_more (i ∷ c) j, l)))))
  none_below p (suc (suc n)) i c w u l r = let j = index (suc (suc n)) p in
      elim (is_removed L M low high (i ∷ c ++ j ∷ [])) as (λ b. is_removed L M low high (i ∷ c ++ j ∷ []) ≡ b → walked (entry M) p (suc (suc n)) (i ∷ c) w u ≡ None) [
        | true ↦ λ k. table_passed (suc (suc n)) p (entry M (i ∷ c ++ j ∷ [])) w u _ (is_table L root M tree low high _ (removed_gives L M low high _ k).itself)
            (none_below p (suc n) i (c ++ j ∷ []) _ _ (omega (arith, one_more (i ∷ c) j, l)) k)
        | false ↦ λ k. absent_passed (suc (suc n)) p _ w u _ (unused_absent _ (child_unused L root M tree low high i c j r k))
      ] refl

  none_at : (p level : ℕ) (q : List ℕ) (j : ℕ) (w u : Bool) → length (q ++ j ∷ []) + level ≡ L → is_removed L M low high (q ++ j ∷ []) ≡ true → walked (entry M) p level (q ++ j ∷ []) w u ≡ None
  none_at p level [] j w u l r = none_below p level j [] w u l r
  none_at p level (i ∷ c) j w u l r = none_below p level i (c ++ j ∷ []) w u l r

  same : (p level : ℕ) (q : List ℕ) (w u : Bool) → length q + level ≡ L → walked (entry N) p level q w u ≡ walked (entry M) p level q w u
  same p zero q w u l = refl
  same p (suc zero) q w u l = let r = q ++ index 1 p ∷ [] in
      ap (λ e. cond (present e) (arrives (address e + p % span 1) (w && writable e) (u && user e)) None) (stays L root M tree low high r (leaf_stays L root M tree low high r (omega (arith, one_more q (index 1 p), l))))
  same p (suc (suc n)) q w u l = let level = suc (suc n) in let j = index level p in let r = q ++ j ∷ [] in
      elim (is_removed L M low high r) as (λ b. is_removed L M low high r ≡ b → walked (entry N) p level q w u ≡ walked (entry M) p level q w u) [
        | true ↦ λ k. absent_passed level p (entry N r) w u _ (ap present (gone L root M tree low high r k) ∙ zero_absent)
            ∙ sym (table_passed level p (entry M r) w u _ (is_table L root M tree low high r (removed_gives L M low high r k).itself) (none_at p (suc n) q j _ _ (omega (arith, one_more q j, l)) k))
        | false ↦ λ k. ap₂ (λ e x. passed level p w u e x) (stays L root M tree low high r k)
            (same p (suc n) r _ _ (omega (arith, one_more q j, l)) ∙ ap (λ e. walked (entry M) p (suc n) r (w && writable e) (u && user e)) (stays L root M tree low high r k))
      ] refl

  pub walked_cleaned : (p : ℕ) → walked (entry (clean_up L M low high).paths) p L [] true true ≡ walked (entry M) p L [] true true
  walked_cleaned p = same p L [] true true (omega arith)
