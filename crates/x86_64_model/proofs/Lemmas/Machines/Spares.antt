-- What an accepted call leaves of `translate` elsewhere.
use Rattle.std.proofs.Common.{◌≡◌, zero, suc, ◌+◌, ◌&&◌, nat_le, ap₂, ◌≢◌, ⊎_elim, ◌<◌, ◌%◌, ℕ, true, false, cond, List, [], ◌∷◌, ◌++◌, length, None, Option, bit_or, refl, sym, ap, ◌∙◌, subst, arith}
use Rattle.std.specs.List.{AllByRecursion}
use Rattle.x86_64_model.specs.Entry.{IsParentFlags, used, present, huge, address, flags}
use Rattle.x86_64_model.specs.PathMap.{PathMap, entry, put, table_of, table_at}
use Rattle.x86_64_model.specs.Path.{level_of, parents, IsPage, begins}
use Rattle.x86_64_model.specs.Window.{Window, entry_at, begins_with}
use Rattle.x86_64_model.specs.Position.{span, index, page_path}
use Rattle.x86_64_model.specs.PageWalk.{page_start}
use Rattle.x86_64_model.specs.Translation.{Translated, NotMapped, Mapped, translate_on, translate}
use Rattle.x86_64_model.specs.Refusal.{Answer, Done, Refused}
use Rattle.x86_64_model.specs.MapRule.{map_rule, map_call, leaf_entry}
use Rattle.x86_64_model.specs.PageRules.{unmap, update_flags}
use Rattle.x86_64_model.proofs.Lemmas.Entries.Bits.{has_or, unused_absent}
use Rattle.x86_64_model.proofs.Lemmas.Paths.Puts.{cases_path, entry-put_same, entry-put_other, append_longer}
use Rattle.x86_64_model.proofs.Lemmas.Maps.Down.{Descends, others}
use Rattle.x86_64_model.proofs.Lemmas.Maps.Frames.{IsFrame, AreParents, flags_or, frame_not_huge}
use Rattle.x86_64_model.proofs.Lemmas.Maps.Flags.{has_kept}
use Rattle.x86_64_model.proofs.Lemmas.Maps.Accepted.{map_ind}
use Rattle.x86_64_model.proofs.Lemmas.Hierarchies.Trees.{IsTree, IsHierarchy, some_not_none, unused_leads_nowhere}
use Rattle.x86_64_model.proofs.Lemmas.Maps.Trees.{Chain, page_chain, page_descends, parents_are, marked_hierarchy, new_hierarchy, leads_on, new_leads, nonempty}
use Rattle.x86_64_model.proofs.Lemmas.Maps.PageCalls.{leaf_low}
use Rattle.x86_64_model.proofs.Lemmas.Maps.Leaves.{none_at_leaf}
use Rattle.x86_64_model.proofs.Lemmas.Machines.Changes.{unmap_change, update_change}
use Rattle.x86_64_model.proofs.Lemmas.Walks.Walked.{one_more}
use Rattle.x86_64_model.proofs.Lemmas.Walks.Fronts.{translated_outside, translated_same, put_same, SameTests, same_tests, tested_same, nothing_mapped, through}
pub use Rattle.x86_64_model.specs.Laws.Steps.{UsedPresent}
pub use Rattle.x86_64_model.specs.Laws.Maps.{LeftByRefused}
use Rattle.x86_64_model.proofs.Lemmas.Lists.All.{all_both}

-- outside the window `translate` reads the path map
abbrev pub translated_by : (L : ℕ) → PathMap → ℕ → Translated
translated_by L M p = translate_on (entry M) p L []

pub translate_outside : (L : ℕ) (window : Option Window) (M : PathMap) (p : ℕ) → begins_with window (page_path L p) ≡ false → translate L (entry_at window M) p ≡ translated_by L M p
unfolding translate
translate_outside L window M p out = translated_outside L window M p out

-- ---- one write

pub put_elsewhere : (L : ℕ) (M : PathMap) (p : ℕ) (r : List ℕ) (w : ℕ) → begins r (page_path L p) ≡ false → translated_by L (put M r w) p ≡ translated_by L M p
put_elsewhere L M p r w off = translated_same L p (entry (put M r w)) (entry M) (put_same L p M r w off) L [] refl

pub length_path : (n p : ℕ) → length (page_path n p) ≡ n
unfolding page_path
length_path zero p = refl
length_path (suc n) p = ap suc (length_path n p)

-- flags that a present table entry gets
pub marked_elsewhere : (L more : ℕ) → IsParentFlags more → (M : PathMap) (p : ℕ) (r : List ℕ) → length r < L → present (entry M r) ≡ true → huge (entry M r) ≡ false
    → translated_by L (put M r (bit_or (entry M r) more)) p ≡ translated_by L M p
marked_elsewhere L more marks M p r short h g = tested_same L p (entry M) (entry (put M r (bit_or (entry M r) more)))
    (λ q l. ⊎_elim
    (λ is. subst (λ q. SameTests (entry M q) (entry (put M r (bit_or (entry M r) more)) q)) (sym is) (subst (SameTests (entry M r)) (sym (entry-put_same M r _)) (record {
      same_present = has_kept (entry M r) more 1 h ∙ sym h;
      same_huge = has_or (entry M r) more 0x80 marks.not_huge;
      same_leaf = λ big. let t : true ≡ false = sym big ∙ g in cc;
    })))
    (λ n. same_tests _ _ (entry-put_other M r _ q n)) (cases_path q r))
    (entry-put_other M r _ (page_path L p) (λ e. let x : length (page_path L p) ≡ length r = ap length e in absurd (omega (arith, x, length_path L p))))
    L [] (omega arith) refl

-- the entry of a new table, below which nothing is used
module _ (L root : ℕ) (M : PathMap) (tree : IsTree L root M) (p : ℕ) (r : List ℕ) (w : ℕ) (nonempty : r ≢ []) (unused : used (entry M r) ≡ false) (low : huge w ≡ false) where
  -- what is below stays absent
  pub below : (j : ℕ) → entry (put M r w) (r ++ j ∷ []) ≡ 0
  below j = entry-put_other M r w (r ++ j ∷ []) (append_longer r j []) ∙ tree.below r j (unused_leads_nowhere L root M r nonempty unused)

  pub new_from : (level : ℕ) (q : List ℕ) → length q + level ≡ L → length r < L → translate_on (entry (put M r w)) p level q ≡ translate_on (entry M) p level q
  unfolding translate_on
  new_from zero q l short = refl
  new_from (suc zero) q l short = let t = q ++ index 1 p ∷ [] in
      ap (λ e. cond (used e) (Mapped (span 1) (address e) (p % span 1) (flags e)) NotMapped)
      (entry-put_other M r w t (λ e. let x : length t ≡ length r = ap length e in absurd (omega (arith, x, one_more q (index 1 p), l))))
  new_from (suc (suc n)) q l short = let level = suc (suc n) in let j = index level p in let t = q ++ j ∷ [] in ⊎_elim
      (λ is. through (present (entry (put M r w) t)) (nat_le level 3) (huge (entry (put M r w) t)) _ _ (ap (λ t. huge (entry (put M r w) t)) is ∙ ap huge (entry-put_same M r w) ∙ low)
      (nothing_mapped (entry (put M r w)) p (suc n) t (λ j. ap (λ t. entry (put M r w) (t ++ j ∷ [])) is ∙ below j))
      ∙ sym (ap (λ b. cond b (cond (nat_le level 3 && huge (entry M t)) (Mapped (span level) (page_start level (entry M t)) (p % span level) (flags (entry M t))) (translate_on (entry M) p (suc n) t)) NotMapped)
      (ap (λ t. present (entry M t)) is ∙ unused_absent _ unused)))
      (λ n'. ap₂ (λ e x. cond (present e) (cond (nat_le level 3 && huge e) (Mapped (span level) (page_start level e) (p % span level) (flags e)) x) NotMapped)
      (entry-put_other M r w t n') (new_from (suc n) t (omega (arith, one_more q j, l)) short))
      (cases_path t r)

  pub new_elsewhere : length r < L → translated_by L (put M r w) p ≡ translated_by L M p
  new_elsewhere short = new_from L [] (omega arith) short

-- ---- an accepted map

abbrev pub IsDone : Answer → Type 0
IsDone (Done f) = Unit {0}
IsDone (Refused why) = ⊥

module _ (L root more added : ℕ) (marks : IsParentFlags more) (adds : IsParentFlags added) (q : List ℕ) (e frame : ℕ) (no_table : table_of L q e ≡ None) (low : 3 < level_of L q → huge e ≡ false) (p : ℕ) (off : begins q (page_path L p) ≡ false) where
  pub still_present : (M : PathMap) (r : List ℕ) (x : ℕ) (ps : List (List ℕ)) → AllByRecursion (λ t. t ≢ r) ps → UsedPresent M ps → UsedPresent (put M r x) ps
  still_present M r x ps apart h = all_both (λ t. used (entry M t) ≡ true → present (entry M t) ≡ true) (λ t. entry (put M r x) t ≡ entry M t) (λ t. used (entry (put M r x) t) ≡ true → present (entry (put M r x) t) ≡ true)
      (λ t h is u. ap present is ∙ h (ap used (sym is) ∙ u)) ps h (others more added q e frame M r x ps apart)

  pub map_spares : (M : PathMap) (supply : List ℕ) (ps : List (List ℕ)) → Descends M ps q → (pre : List ℕ) → Chain pre ps q → table_at L root M pre ≢ None → AreParents L ps → IsHierarchy L root M → AllByRecursion IsFrame supply
      → UsedPresent M ps → IsDone (map_rule M supply more added ps q e frame).answer → translated_by L (map_rule M supply more added ps q e frame).paths p ≡ translated_by L M p
  map_spares = map_ind more added q e frame (λ M s ps m. (pre : List ℕ) → Chain pre ps q → table_at L root M pre ≢ None → AreParents L ps → IsHierarchy L root M → AllByRecursion IsFrame s
      → UsedPresent M ps → IsDone m.answer → translated_by L m.paths p ≡ translated_by L M p)
      (λ M s u pre c leads a h fr w x. refl)
      (λ M s u pre c leads a h fr w x. put_elsewhere L M p q e off)
      (λ M s r ps u g pre c leads a h fr w x. absurd x)
      (λ M s r ps d u g m ih pre c leads a h fr w x.
      let n : r ≢ [] = nonempty r pre c.0 c.2 in
      ih r c.3 (leads_on L root more added marks adds q e frame no_table low M r u g a.0.1 n) a.1 (marked_hierarchy L root more M r marks h n u) fr (still_present M r _ ps d.1 w.1) x
      ∙ marked_elsewhere L more marks M p r a.0.1 (w.0 u) g)
      (λ M r ps u pre c leads a h fr w x. refl)
      (λ M f fs r ps d u m ih pre c leads a h fr w x.
      let n : r ≢ [] = nonempty r pre c.0 c.2 in
      ih r c.3 (λ z. some_not_none f (sym (new_leads L root more added marks adds q e frame no_table low M r f fr.0 a.0.1 n) ∙ z)) a.1
      (new_hierarchy L root more added marks adds q e frame no_table low M r pre c.0 f c.1 c.2 leads a.0.1 fr.0 h u) fr.1 (still_present M r _ ps d.1 w.1) x
      ∙ new_elsewhere L root M h.tree p r _ n u (has_or f (bit_or more added) 0x80 (flags_or more added marks adds).not_huge ∙ frame_not_huge f fr.0.aligned) a.0.1)

-- an accepted map changes no answer of `translate` outside the page and outside the window, if no parent was used without PRESENT
pub map_elsewhere : (L : ℕ) (window : Option Window) (root : ℕ) (M : PathMap) (supply : List ℕ) (more added : ℕ) (q : List ℕ) (frame given : ℕ)
    → IsHierarchy L root M → AllByRecursion IsFrame supply → IsPage L q → IsParentFlags more → IsParentFlags added
    → AllByRecursion (λ r. used (entry M r) ≡ true → present (entry M r) ≡ true) (parents q) → IsDone (map_call L M supply more added q frame given).answer
    → (p : ℕ) → begins q (page_path L p) ≡ false → begins_with window (page_path L p) ≡ false
    → translate L (entry_at window (map_call L M supply more added q frame given).paths) p ≡ translate L (entry_at window M) p
map_elsewhere L window root M supply more added q frame given h frames page marks adds before accepted p off out =
    translate_outside L window _ p out
    ∙ map_spares L root more added marks adds q (leaf_entry L q frame given) frame (none_at_leaf L q frame given) (leaf_low L q _ page) p off M supply (parents q) (page_descends L root M h.tree q)
    [] (page_chain L q page) (some_not_none root) (parents_are L q page.at_most) h frames before accepted
    ∙ sym (translate_outside L window M p out)

-- and `unmap` and `update_flags` none outside the page, whatever the parents are
pub unmap_elsewhere : (L : ℕ) (window : Option Window) (M : PathMap) (q : List ℕ) → IsPage L q → begins_with window q ≡ false
    → (p : ℕ) → begins q (page_path L p) ≡ false → begins_with window (page_path L p) ≡ false
    → translate L (entry_at window (unmap L (entry_at window M) M q).paths) p ≡ translate L (entry_at window M) p
unmap_elsewhere L window M q page aside p off out = unmap_change L window M q page aside (λ c. translate L (entry_at window c.paths) p ≡ translate L (entry_at window M) p) (λ why. refl)
    (λ c. translate_outside L window _ p out ∙ put_elsewhere L M p q 0 off ∙ sym (translate_outside L window M p out))

pub update_elsewhere : (L : ℕ) (window : Option Window) (M : PathMap) (q : List ℕ) (given : ℕ) → IsPage L q → begins_with window q ≡ false
    → (p : ℕ) → begins q (page_path L p) ≡ false → begins_with window (page_path L p) ≡ false
    → translate L (entry_at window (update_flags L (entry_at window M) M q given).paths) p ≡ translate L (entry_at window M) p
update_elsewhere L window M q given page aside p off out = update_change L window M q page aside given (λ c. translate L (entry_at window c.paths) p ≡ translate L (entry_at window M) p) (λ why. refl)
    (λ c. translate_outside L window _ p out ∙ put_elsewhere L M p q _ off ∙ sym (translate_outside L window M p out))
