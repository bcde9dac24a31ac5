-- The address of the root's window.
use Rattle.std.proofs.Common.{◌≡◌, ◌<◌, ◌≤◌, ◌%◌, ◌==◌, ◌&&◌, ℕ, zero, suc, Bool, true, false, [], ◌∷◌, ◌++◌, replicate, get_or, drop, refl, sym, ap, ap₂, ◌∙◌, eqb-true, eq-eqb, ne_eqb, append-nil}
use Rattle.std.proofs.lemmas.Bool.{and_parts}
use Rattle.x86_64_model.specs.Path.{span_start}
use Rattle.x86_64_model.specs.Position.{index, page_path, position_count}
use Rattle.x86_64_mappers.proofs.Way.PagePaths.{start_of_path}
use Rattle.x86_64_mappers.specs.InvalidPageTables.{all_indices_are, is_root_window}

-- a path that repeats one index has this index at each level
all_same : (n r p : ℕ) → page_path n p ≡ replicate n r → all_indices_are n r p ≡ true
unfolding page_path
all_same zero r p e = refl
all_same (suc n) r p e =
    ap₂ (λ a b. a && b) (eq-eqb (index (suc n) p) r (ap (λ q. get_or q 0 0) e)) (all_same n r p (ap (λ q. drop 1 q) e))

one_index : (n r p : ℕ) → all_indices_are n r p ≡ true → page_path n p ≡ replicate n r
unfolding page_path
one_index zero r p h = refl
one_index (suc n) r p h =
    let parts = and_parts (index (suc n) p == r) (all_indices_are n r p) h in
    ap₂ (λ i q. i ∷ q) (eqb-true (index (suc n) p) r parts.0) (one_index n r p parts.1)

-- a position is that of the root's window if and only if its indices are equal and its offset in the page is 0
pub root_window_is : (L p w : ℕ) → 1 ≤ L → p < position_count L → w < position_count L → w % 4096 ≡ 0
    → page_path L w ≡ replicate L (index L p) ++ [] → (p == w) ≡ is_root_window L p
root_window_is L p w some p_inside w_inside aligned path = by (is_root_window L p) refl
  where
    r : ℕ
    r = index L p

    window : page_path L w ≡ replicate L r
    window = path ∙ append-nil (replicate L r)

    is_window : p ≡ w → is_root_window L p ≡ true
    is_window e = ap₂ (λ a b. a && b) (all_same L r p (ap (page_path L) e ∙ window)) (eq-eqb (p % 4096) 0 (ap (λ p. p % 4096) e ∙ aligned))

    is_same : is_root_window L p ≡ true → p ≡ w
    is_same h =
        let parts = and_parts (all_indices_are L r p) (p % 4096 == 0) h in
        sym (start_of_path L p some p_inside (eqb-true (p % 4096) 0 parts.1)) ∙ ap (span_start L) (one_index L r p parts.0 ∙ sym window)
        ∙ start_of_path L w some w_inside aligned

    by : (b : Bool) → is_root_window L p ≡ b → (p == w) ≡ b
    by true h = eq-eqb p w (is_same h)
    by false h = ne_eqb p w (λ e. let t : true ≡ false = sym (is_window e) ∙ h in cc)
