-- The walk and `translate` read the entries at the front parts of the position's path, and nothing else.
use Rattle.std.proofs.Common.{zero, suc, ◌≡◌, ◌≢◌, ◌<◌, ◌+◌, ◌%◌, ℕ, ◌&&◌, Bool, true, false, cond, List, [], ◌∷◌, ◌++◌, length, nat_le, None, Option, refl, sym, ap, ap₂, ◌∙◌, subst, arith, append_assoc, eq-eqb}
use Rattle.std.proofs.lemmas.Bool.{and_from, and_right, cond-false}
use Rattle.x86_64_model.specs.Position.{index, span, page_path}
use Rattle.x86_64_model.specs.Entry.{used, present, writable, user, huge, address, flags}
use Rattle.x86_64_model.specs.Path.{begins}
use Rattle.x86_64_model.specs.PathMap.{PathMap, entry, put}
use Rattle.x86_64_model.specs.Window.{Window, entry_at, begins_with}
use Rattle.x86_64_model.specs.PageWalk.{page_start, arrives}
use Rattle.x86_64_model.specs.Translation.{Translated, NotMapped, Mapped, translate_on}
use Rattle.x86_64_model.proofs.Lemmas.Entries.Bits.{zero_absent}
use Rattle.x86_64_model.proofs.Lemmas.Hierarchies.Changes.{zero_not_used}
use Rattle.x86_64_model.proofs.Lemmas.Paths.Puts.{entry-put_other}
use Rattle.x86_64_model.proofs.Lemmas.Walks.Walked.{walked, passed, one_more}
use Rattle.x86_64_model.proofs.Lemmas.Maps.Arrives.{entry_outside, first_alone}

-- E and F are equal at the front parts of the path
abbrev pub SameOnPath : (L p : ℕ) → (E F : List ℕ → ℕ) → Type 0
SameOnPath L p E F = (c : List ℕ) (j : ℕ) (t : List ℕ) → page_path L p ≡ c ++ j ∷ t → E (c ++ j ∷ []) ≡ F (c ++ j ∷ [])

-- the way so far goes on
pub goes_on : (L p n : ℕ) (q : List ℕ) → page_path L p ≡ q ++ page_path (suc n) p → page_path L p ≡ (q ++ index (suc n) p ∷ []) ++ page_path n p
unfolding page_path
goes_on L p n q e = e ∙ sym (append_assoc q (index (suc n) p ∷ []) (page_path n p))

module _ (L p : ℕ) (E F : List ℕ → ℕ) (same : SameOnPath L p E F) where
  at : (n : ℕ) (q : List ℕ) → page_path L p ≡ q ++ page_path (suc n) p → E (q ++ index (suc n) p ∷ []) ≡ F (q ++ index (suc n) p ∷ [])
  unfolding page_path
  at n q e = same q (index (suc n) p) (page_path n p) e

  pub walked_same : (level : ℕ) (q : List ℕ) (w u : Bool) → page_path L p ≡ q ++ page_path level p → walked E p level q w u ≡ walked F p level q w u
  walked_same zero q w u way = refl
  walked_same (suc zero) q w u way = ap (λ e. cond (present e) (arrives (address e + p % span 1) (w && writable e) (u && user e)) None) (at 0 q way)
  walked_same (suc (suc n)) q w u way = let r = q ++ index (suc (suc n)) p ∷ [] in
      ap₂ (λ e x. passed (suc (suc n)) p w u e x) (at (suc n) q way)
      (walked_same (suc n) r (w && writable (E r)) (u && user (E r)) (goes_on L p (suc n) q way)
      ∙ ap (λ e. walked F p (suc n) r (w && writable e) (u && user e)) (at (suc n) q way))

  pub translated_same : (level : ℕ) (q : List ℕ) → page_path L p ≡ q ++ page_path level p → translate_on E p level q ≡ translate_on F p level q
  unfolding translate_on
  translated_same zero q way = refl
  translated_same (suc zero) q way = ap (λ e. cond (used e) (Mapped (span 1) (address e) (p % span 1) (flags e)) NotMapped) (at 0 q way)
  translated_same (suc (suc n)) q way = let level = suc (suc n) in
      ap₂ (λ e t. cond (present e) (cond (nat_le level 3 && huge e) (Mapped (span level) (page_start level e) (p % span level) (flags e)) t) NotMapped)
      (at (suc n) q way) (translated_same (suc n) (q ++ index level p ∷ []) (goes_on L p (suc n) q way))

-- outside the window the entries are the map's
pub outside_same : (L : ℕ) (window : Option Window) (M : PathMap) (p : ℕ) → begins_with window (page_path L p) ≡ false → SameOnPath L p (entry_at window M) (entry M)
outside_same L window M p out [] j t is = entry_outside window M j [] (first_alone window j t [] (sym (ap (begins_with window) is) ∙ out))
outside_same L window M p out (i ∷ c) j t is = entry_outside window M i (c ++ j ∷ []) (first_alone window i (c ++ j ∷ t) (c ++ j ∷ []) (sym (ap (begins_with window) is) ∙ out))

pub walked_outside : (L : ℕ) (window : Option Window) (M : PathMap) (p : ℕ) → begins_with window (page_path L p) ≡ false → walked (entry_at window M) p L [] true true ≡ walked (entry M) p L [] true true
walked_outside L window M p out = walked_same L p (entry_at window M) (entry M) (outside_same L window M p out) L [] true true refl

pub translated_outside : (L : ℕ) (window : Option Window) (M : PathMap) (p : ℕ) → begins_with window (page_path L p) ≡ false → translate_on (entry_at window M) p L [] ≡ translate_on (entry M) p L []
translated_outside L window M p out = translated_same L p (entry_at window M) (entry M) (outside_same L window M p out) L [] refl

-- ---- an entry that is not on the path

begins_front : (r s : List ℕ) → begins r (r ++ s) ≡ true
begins_front [] s = refl
begins_front (i ∷ r) s = and_from _ _ (eq-eqb i i refl) (begins_front r s)

-- a path that the position's path doesn't begin with is none of its front parts
pub not_front : (q r s p : List ℕ) → p ≡ r ++ s → begins q p ≡ false → r ≢ q
not_front q r s p is h e = let t : true ≡ false = sym (begins_front r s) ∙ ap (λ q. begins q (r ++ s)) e ∙ ap (begins q) (sym is) ∙ h in cc

pub put_same : (L p : ℕ) (M : PathMap) (q : List ℕ) (w : ℕ) → begins q (page_path L p) ≡ false → SameOnPath L p (entry (put M q w)) (entry M)
put_same L p M q w off c j t is = entry-put_other M q w (c ++ j ∷ []) (not_front q (c ++ j ∷ []) t (page_path L p) (is ∙ sym (append_assoc c (j ∷ []) t)) off)

-- ---- entries that `translate` tests alike

-- an entry that is read as the other is, where `translate` goes on to the next level
pub record SameTests (e f : ℕ) : Type 0 where
  pub same_present : present f ≡ present e
  pub same_huge : huge f ≡ huge e
  pub same_leaf : huge e ≡ true → f ≡ e

pub same_tests : (e f : ℕ) → f ≡ e → SameTests e f
same_tests e f is = record { same_present = ap present is; same_huge = ap huge is; same_leaf = λ h. is }

same_inner : (b : Bool) (level o e f : ℕ) (x y : Translated) → SameTests e f → y ≡ x
    → cond (present f) (cond (b && huge f) (Mapped (span level) (page_start level f) o (flags f)) y) NotMapped ≡ cond (present e) (cond (b && huge e) (Mapped (span level) (page_start level e) o (flags e)) x) NotMapped
same_inner b level o e f x y s yx = elim (huge e) as (λ h. huge e ≡ h → cond (present f) (cond (b && huge f) (Mapped (span level) (page_start level f) o (flags f)) y) NotMapped ≡ cond (present e) (cond (b && huge e) (Mapped (span level) (page_start level e) o (flags e)) x) NotMapped) [
  | true ↦ λ h. ap₂ (λ e x. cond (present e) (cond (b && huge e) (Mapped (span level) (page_start level e) o (flags e)) x) NotMapped) (s.same_leaf h) yx
  | false ↦ λ h. ap₂ (λ h x. cond h x NotMapped) s.same_present (cond-false _ _ y (and_right b (huge f) (s.same_huge ∙ h)) ∙ yx ∙ sym (cond-false _ _ x (and_right b (huge e) h)))
] refl

module _ (L p : ℕ) (E F : List ℕ → ℕ) (inner : (q : List ℕ) → length q < L → SameTests (E q) (F q)) (leaf : F (page_path L p) ≡ E (page_path L p)) where
  pub tested_same : (level : ℕ) (q : List ℕ) → length q + level ≡ L → page_path L p ≡ q ++ page_path level p → translate_on F p level q ≡ translate_on E p level q
  unfolding translate_on page_path
  tested_same zero q l way = refl
  tested_same (suc zero) q l way = ap (λ e. cond (used e) (Mapped (span 1) (address e) (p % span 1) (flags e)) NotMapped) (subst (λ r. F r ≡ E r) way leaf)
  tested_same (suc (suc n)) q l way = let r = q ++ index (suc (suc n)) p ∷ [] in
      same_inner (nat_le (suc (suc n)) 3) (suc (suc n)) (p % span (suc (suc n))) (E r) (F r) _ _ (inner r (omega (arith, one_more q (index (suc (suc n)) p), l)))
      (tested_same (suc n) r (omega (arith, one_more q (index (suc (suc n)) p), l)) (goes_on L p (suc n) q way))

-- ---- where nothing is used below

-- an entry that is no page leads on, and where nothing is mapped below, nowhere
pub through : (h b g : Bool) (x y : Translated) → g ≡ false → y ≡ NotMapped → cond h (cond (b && g) x y) NotMapped ≡ NotMapped
through true b g x y e z = cond-false (b && g) x y (and_right b g e) ∙ z
through false b g x y e z = refl

pub nothing_mapped : (E : List ℕ → ℕ) (p level : ℕ) (q : List ℕ) → ((j : ℕ) → E (q ++ j ∷ []) ≡ 0) → translate_on E p level q ≡ NotMapped
unfolding translate_on
nothing_mapped E p zero q h = refl
nothing_mapped E p (suc zero) q h = cond-false (used (E (q ++ index 1 p ∷ []))) _ NotMapped (ap used (h (index 1 p)) ∙ zero_not_used)
nothing_mapped E p (suc (suc n)) q h = cond-false (present (E (q ++ index (suc (suc n)) p ∷ []))) _ NotMapped (ap present (h (index (suc (suc n)) p)) ∙ zero_absent)
