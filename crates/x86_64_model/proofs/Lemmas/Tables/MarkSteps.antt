-- The steps of the loops that mark frames.
use Rattle.std.proofs.Common.{◌≡◌, ◌<◌, ◌≤◌, ◌+◌, ◌-◌, ℕ, zero, suc, Bool, true, false, cond, List, [], ◌∷◌, ◌++◌, length, get_or, drop, Some, None, Option, option_and_then, refl, sym, ap, ◌∙◌, arith, add-one, drop-cons}
use Rattle.std.specs.List.{flat_map, range_with_len}
use Rattle.x86_64_model.specs.Entry.{address, names_table}
use Rattle.x86_64_model.specs.Memory.{Words, word}
use Rattle.x86_64_model.specs.Path.{indices}
use Rattle.x86_64_model.specs.private.Tables.{tables_from}
use Rattle.x86_64_model.specs.private.Marks.{mark_one, mark_all}
use Rattle.x86_64_model.proofs.Lemmas.Tables.Walked.{part}
use Rattle.x86_64_model.proofs.Lemmas.Tables.Marked.{mark_all-append}

-- the tables below a frame's, from an index on
abbrev pub rest : ℕ → Words → ℕ → ℕ → List ℕ
rest n T f i = flat_map (part n T f) (range_with_len i (512 - i))

rest_more : (n : ℕ) (T : Words) (f i : ℕ) → i < 512 → rest n T f i ≡ part n T f i ++ rest n T f (i + 1)
rest_more n T f i h =
    let e : 512 - i ≡ suc (512 - (i + 1)) = omega arith in
    ap (λ k. flat_map (part n T f) (range_with_len i k)) e

module _ (slot : ℕ → Option ℕ) where
  pub rest_named : (n : ℕ) (T : Words) (f i : ℕ) (m : List Bool) (o : Option (List Bool)) (w a : ℕ) → i < 512 → w ≡ word T f i → names_table w ≡ true → a ≡ address w
      → o ≡ mark_all slot m (tables_from n T a) → mark_all slot m (rest n T f i) ≡ option_and_then (λ m. mark_all slot m (rest n T f (i + 1))) o
  rest_named n T f i m o w a h is named at e =
      ap (mark_all slot m) (rest_more n T f i h
      ∙ ap (λ w. cond (names_table w) (tables_from n T (address w)) [] ++ rest n T f (i + 1)) (sym is)
      ∙ ap (λ b. cond b (tables_from n T (address w)) [] ++ rest n T f (i + 1)) named
      ∙ ap (λ a. tables_from n T a ++ rest n T f (i + 1)) (sym at))
      ∙ mark_all-append slot m (tables_from n T a) (rest n T f (i + 1))
      ∙ ap (option_and_then (λ m. mark_all slot m (rest n T f (i + 1)))) (sym e)

  pub rest_other : (n : ℕ) (T : Words) (f i : ℕ) (m : List Bool) (w : ℕ) → i < 512 → w ≡ word T f i → names_table w ≡ false → mark_all slot m (rest n T f i) ≡ mark_all slot m (rest n T f (i + 1))
  rest_other n T f i m w h is other = ap (mark_all slot m) (rest_more n T f i h
      ∙ ap (λ w. cond (names_table w) (tables_from n T (address w)) [] ++ rest n T f (i + 1)) (sym is)
      ∙ ap (λ b. cond b (tables_from n T (address w)) [] ++ rest n T f (i + 1)) other)

  pub rest_done : (n : ℕ) (T : Words) (f i : ℕ) (m : List Bool) → 512 ≤ i → mark_all slot m (rest n T f i) ≡ Some m
  unfolding mark_all
  rest_done n T f i m h = let e : 512 - i ≡ 0 = omega arith in ap (λ k. mark_all slot m (flat_map (part n T f) (range_with_len i k))) e

  pub tables_begin : (n : ℕ) (T : Words) (f : ℕ) (m : List Bool) (o : Option (List Bool)) → 0 < n → o ≡ mark_one slot m f
      → mark_all slot m (tables_from n T f) ≡ option_and_then (λ m. mark_all slot m (rest (n - 1) T f 0)) o
  unfolding tables_from mark_all indices
  tables_begin zero T f m o h e = absurd (omega arith)
  tables_begin (suc n) T f m o h e = sym (let k : suc n - 1 ≡ n = omega arith in ap (λ k. option_and_then (λ m. mark_all slot m (rest k T f 0)) o) k ∙ ap (option_and_then (λ m. mark_all slot m (rest n T f 0))) e)

  pub tables_none : (n : ℕ) (T : Words) (f : ℕ) (m : List Bool) → None ≡ mark_one slot m f → None ≡ mark_all slot m (tables_from n T f)
  unfolding tables_from mark_all
  tables_none zero T f m e = ap (option_and_then (λ m. Some m)) e
  tables_none (suc n) T f m e = ap (option_and_then (λ m. mark_all slot m (flat_map (part n T f) indices))) e

  pub tables_one : (n : ℕ) (T : Words) (f : ℕ) (m : List Bool) (o : Option (List Bool)) → n ≤ 0 → o ≡ mark_one slot m f → o ≡ mark_all slot m (tables_from n T f)
  unfolding tables_from mark_all
  tables_one zero T f m o h e = e ∙ by (mark_one slot m f)
    where
      by : (o : Option (List Bool)) → o ≡ option_and_then (λ m. Some m) o
      by None = refl
      by (Some m) = refl
  tables_one (suc n) T f m o h e = absurd (omega arith)

  pub pool_more : (xs : List ℕ) (k d : ℕ) (m : List Bool) (o : Option (List Bool)) → k < length xs → o ≡ mark_one slot m (get_or xs k d) → mark_all slot m (drop k xs) ≡ option_and_then (λ m. mark_all slot m (drop (k + 1) xs)) o
  unfolding mark_all
  pool_more xs k d m o h e = ap (mark_all slot m) (drop-cons xs k d h ∙ ap (λ j. get_or xs k d ∷ drop j xs) (sym (add-one k))) ∙ ap (option_and_then (λ m. mark_all slot m (drop (k + 1) xs))) (sym e)
