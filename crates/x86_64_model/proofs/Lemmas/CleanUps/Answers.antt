-- A clean up changes no answer of `translate`.
use Rattle.std.proofs.Common.{zero, suc, ◌≡◌, ◌≤◌, ◌+◌, ◌%◌, ℕ, ◌&&◌, true, false, cond, List, [], ◌∷◌, ◌++◌, length, nat_le, None, Option, refl, sym, ap, ap₂, ◌∙◌, arith}
use Rattle.std.proofs.lemmas.Bool.{cond-false}
use Rattle.x86_64_model.specs.Entry.{used, present, huge, address, flags}
use Rattle.x86_64_model.specs.PathMap.{PathMap, entry}
use Rattle.x86_64_model.proofs.Lemmas.Hierarchies.Trees.{IsTree}
use Rattle.x86_64_model.specs.Window.{Window, entry_at, begins_with}
use Rattle.x86_64_model.proofs.Lemmas.Walks.Fronts.{translated_outside, through}
use Rattle.x86_64_model.specs.Position.{index, span, page_path}
use Rattle.x86_64_model.specs.PageWalk.{page_start}
use Rattle.x86_64_model.specs.Translation.{NotMapped, Mapped, translate, translate_on}
use Rattle.x86_64_model.specs.CleanUp.{is_removed, in_range, clean_up}
use Rattle.x86_64_model.proofs.Lemmas.Entries.Bits.{zero_absent, unused_absent}
use Rattle.x86_64_model.proofs.Lemmas.Walks.Walked.{one_more}
use Rattle.x86_64_model.proofs.Lemmas.CleanUps.Removed.{removed_gives, removed_from, child_removed, in_range_parts}
use Rattle.x86_64_model.proofs.Lemmas.CleanUps.Keys.{entry-cleaned}

module _ (L root : ℕ) (M : PathMap) (tree : IsTree L root M) (low high : ℕ) where
  abbrev pub N : PathMap
  N = (clean_up L M low high).paths

  pub is_table : (q : List ℕ) → in_range L M low high q ≡ true → huge (entry M q) ≡ false
  is_table q h = (in_range_parts L M low high q h).2

  pub gone : (q : List ℕ) → is_removed L M low high q ≡ true → entry N q ≡ 0
  gone q h = entry-cleaned L M low high q ∙ ap (λ b. cond b 0 (entry M q)) h

  pub stays : (q : List ℕ) → is_removed L M low high q ≡ false → entry N q ≡ entry M q
  stays q h = entry-cleaned L M low high q ∙ ap (λ b. cond b 0 (entry M q)) h

  -- below a removed path, what isn't removed is unused
  pub child_unused : (i : ℕ) (c : List ℕ) (j : ℕ) → is_removed L M low high (i ∷ c) ≡ true → is_removed L M low high (i ∷ c ++ j ∷ []) ≡ false → used (entry M (i ∷ c ++ j ∷ [])) ≡ false
  child_unused i c j h k = elim (used (entry M (i ∷ c ++ j ∷ []))) as (λ u. used (entry M (i ∷ c ++ j ∷ [])) ≡ u → u ≡ false) [
    | true ↦ λ u. let r = removed_gives L M low high (i ∷ c) h in
        let t : true ≡ false = sym (removed_from L M tree.used_alone low high _ (child_removed L root M tree low high i c r.itself r.above r j u)) ∙ k in cc
    | false ↦ λ u. refl
  ] refl

  -- entries of level one are never removed
  pub leaf_stays : (q : List ℕ) → L ≤ length q → is_removed L M low high q ≡ false
  leaf_stays q l = elim (is_removed L M low high q) as (λ b. is_removed L M low high q ≡ b → b ≡ false) [
    | true ↦ λ r. absurd (omega (arith, (in_range_parts L M low high q (removed_gives L M low high q r).itself).0, l))
    | false ↦ λ r. refl
  ] refl

  -- below a removed table nothing is mapped
  none_below : (p level i : ℕ) (c : List ℕ) → length (i ∷ c) + level ≡ L → is_removed L M low high (i ∷ c) ≡ true → translate_on (entry M) p level (i ∷ c) ≡ NotMapped
  unfolding translate_on
  none_below p zero i c l r = refl
  none_below p (suc zero) i c l r = let j = index 1 p in
      cond-false (used (entry M (i ∷ c ++ j ∷ []))) _ _ (child_unused i c j r (leaf_stays (i ∷ c ++ j ∷ []) (omega (arith, one_more (i ∷ c) j, l))))
  none_below p (suc (suc n)) i c l r = let j = index (suc (suc n)) p in
      elim (is_removed L M low high (i ∷ c ++ j ∷ [])) as (λ b. is_removed L M low high (i ∷ c ++ j ∷ []) ≡ b → translate_on (entry M) p (suc (suc n)) (i ∷ c) ≡ NotMapped) [
        | true ↦ λ k. through (present (entry M (i ∷ c ++ j ∷ []))) (nat_le (suc (suc n)) 3) _ _ _ (is_table _ (removed_gives L M low high _ k).itself)
            (none_below p (suc n) i (c ++ j ∷ []) (omega (arith, one_more (i ∷ c) j, l)) k)
        | false ↦ λ k. cond-false (present (entry M (i ∷ c ++ j ∷ []))) _ _ (unused_absent _ (child_unused i c j r k))
      ] refl

  none_at : (p level : ℕ) (q : List ℕ) (j : ℕ) → length (q ++ j ∷ []) + level ≡ L → is_removed L M low high (q ++ j ∷ []) ≡ true → translate_on (entry M) p level (q ++ j ∷ []) ≡ NotMapped
  none_at p level [] j l r = none_below p level j [] l r
  none_at p level (i ∷ c) j l r = none_below p level i (c ++ j ∷ []) l r

  same : (p level : ℕ) (q : List ℕ) → length q + level ≡ L → translate_on (entry N) p level q ≡ translate_on (entry M) p level q
  unfolding translate_on
  same p zero q l = refl
  same p (suc zero) q l = let r = q ++ index 1 p ∷ [] in
      ap (λ e. cond (used e) (Mapped (span 1) (address e) (p % span 1) (flags e)) NotMapped) (stays r (leaf_stays r (omega (arith, one_more q (index 1 p), l))))
  same p (suc (suc n)) q l = let level = suc (suc n) in let j = index level p in let r = q ++ j ∷ [] in
      elim (is_removed L M low high r) as (λ b. is_removed L M low high r ≡ b → translate_on (entry N) p level q ≡ translate_on (entry M) p level q) [
        | true ↦ λ k. cond-false (present (entry N r)) _ _ (ap present (gone r k) ∙ zero_absent)
            ∙ sym (through (present (entry M r)) (nat_le level 3) _ _ _ (is_table r (removed_gives L M low high r k).itself) (none_at p (suc n) q j (omega (arith, one_more q j, l)) k))
        | false ↦ λ k. ap₂ (λ e t. cond (present e) (cond (nat_le level 3 && huge e) (Mapped (span level) (page_start level e) (p % span level) (flags e)) t) NotMapped)
            (stays r k) (same p (suc n) r (omega (arith, one_more q j, l)))
      ] refl

  pub translate_cleaned : (p : ℕ) → translate L (entry_at None (clean_up L M low high).paths) p ≡ translate L (entry_at None M) p
  unfolding translate entry_at
  translate_cleaned p = same p L [] (omega arith)

  -- for the recursive mapper too, outside its window
  pub translate_cleaned_outside : (window : Option Window) (p : ℕ) → begins_with window (page_path L p) ≡ false
      → translate L (entry_at window (clean_up L M low high).paths) p ≡ translate L (entry_at window M) p
  unfolding translate
  translate_cleaned_outside window p out =
      translated_outside L window (clean_up L M low high).paths p out ∙ same p L [] (omega arith) ∙ sym (translated_outside L window M p out)
