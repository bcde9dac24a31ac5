-- Alike hierarchies, compared table by table.
use Rattle.std.proofs.Common.{◌≡◌, ◌⊎◌, ◌↔◌, inl, inr, ⊎_elim, ◌<◌, ◌≤◌, ◌-◌, ℕ, zero, suc, Bool, true, false, cond, List, [], ◌∷◌, length, Option, Some, None, refl, sym, ap, ◌∙◌, subst, arith}
use Rattle.x86_64_model.specs.Alike.{Alike, AlikeTables, without_writable}
use Rattle.x86_64_model.specs.Entry.{address, names_table}
use Rattle.x86_64_model.specs.Validity.{read_at, paths_of}
use Rattle.x86_64_model.specs.Memory.{Words, word}
use Rattle.x86_64_model.specs.PathMap.{entry}
use Rattle.x86_64_model.specs.private.Tables.{without_word}
use Rattle.x86_64_model.specs.Window.{outside_window}
use Rattle.x86_64_model.proofs.Lemmas.Hierarchies.Exists.{read_or_in, entry_paths_of}
use Rattle.x86_64_tables.specs.Views.{below_word}
use Rattle.x86_64_tables.specs.PathsSeen.{AlikeFrom, paths_in}
use Rattle.x86_64_tables.specs.SelfEntries.{window_in}
use Rattle.x86_64_tables.proofs.WordsSeen.{is_named, named_at, is_not_named}

-- ---- the entries at a path

abbrev pub AlikeEntries : (L : ℕ) → List ℕ → (e f : ℕ) → Type 0
AlikeEntries L q e f = (e ≡ f) ⊎ ((length q < L) × AlikeTables e f)

same_else : (L : ℕ) (q : List ℕ) (e f : ℕ) → AlikeEntries L q e f → without_writable e ≡ without_writable f
same_else L q e f = ⊎_elim (λ same. ap without_writable same) (λ r. r.1.same_else)

same : (L : ℕ) (q : List ℕ) (e f : ℕ) → (L ≤ length q) ⊎ (names_table e ≡ false) → AlikeEntries L q e f → e ≡ f
same L q e f leaf = ⊎_elim (λ same. same) (λ r. absurd (⊎_elim
    (λ long. let l = r.0 in omega (arith, long, l))
    (λ none. let t : true ≡ false = sym r.1.one_names ∙ none in cc)
    leaf))

other_names : (L : ℕ) (q : List ℕ) (e f : ℕ) → names_table e ≡ true → AlikeEntries L q e f → names_table f ≡ true
other_names L q e f names = ⊎_elim (λ same. ap names_table (sym same) ∙ names) (λ r. r.1.other_names)

-- alike entries at a path with one index more in front, and with one less
further : (L i : ℕ) (q : List ℕ) (e f : ℕ) → AlikeEntries L q e f → AlikeEntries (suc L) (i ∷ q) e f
further L i q e f = ⊎_elim (λ same. inl same) (λ r. let l = r.0 in inr (omega (arith, l), r.1))

nearer : (L i : ℕ) (q : List ℕ) (e f : ℕ) → AlikeEntries (suc L) (i ∷ q) e f → AlikeEntries L q e f
nearer L i q e f = ⊎_elim (λ same. inl same) (λ r. let l = r.0 in inr (omega (arith, l), r.1))

entries : (L : ℕ) (q : List ℕ) (a b x y : ℕ) → a ≡ x → b ≡ y → AlikeEntries L q a b → AlikeEntries L q x y
entries L q a b x y e d h = subst (λ x. AlikeEntries L q x y) e (subst (λ y. AlikeEntries L q a y) d h)

-- the entry at a path through a table is read there
read_below : (n : ℕ) (T : Words) (f i j : ℕ) (p : List ℕ) → names_table (word T f i) ≡ true
    → read_at (suc n) T f (i ∷ j ∷ p) ≡ read_at n T (address (word T f i)) (j ∷ p)
read_below n T f i j p names = ap (λ c. cond c (read_at n T (address (word T f i)) (j ∷ p)) 0) names

module _ (T : Words) (f : ℕ) (U : Words) (g : ℕ) where
  -- ---- the paths that begin with an index

  pub record AlikeIndex (n i : ℕ) : Type 0 where
    pub at : (p : List ℕ) → AlikeEntries (suc n) (i ∷ p) (read_at (suc n) T f (i ∷ p)) (read_at (suc n) U g (i ∷ p))

  -- a path with an index that is too large has no entry
  pub all_indices : (n : ℕ) → ((i : ℕ) → i < 512 → AlikeIndex n i) → AlikeFrom n T f U g
  all_indices n each = record { at = at }
    where
      at : (q : List ℕ) → AlikeEntries (suc n) q (read_at (suc n) T f q) (read_at (suc n) U g q)
      at [] = inl refl
      at (i ∷ p) = ⊎_elim
          (λ none. ⊎_elim (λ other_none. inl (none ∙ sym other_none)) (λ r. (each i r.1.0).at p) (read_or_in (suc n) U g i p))
          (λ r. (each i r.1.0).at p)
          (read_or_in (suc n) T f i p)

  -- the case of words at the index that name no tables, or are of level one
  pub leaves : (n i : ℕ) → (n ≤ 0) ⊎ (None ≡ below_word (word T f i)) → word T f i ≡ word U g i → AlikeIndex n i
  leaves n i leaf e = record { at = at }
    where
      no_choice : (b : Bool) → cond {A = ℕ} b 0 0 ≡ 0
      no_choice true = refl
      no_choice false = refl

      nothing : (n : ℕ) (V : Words) (w j : ℕ) (p : List ℕ) → (n ≤ 0) ⊎ (None ≡ below_word w) → cond (names_table w) (read_at n V (address w) (j ∷ p)) 0 ≡ 0
      nothing zero V w j p leaf = no_choice (names_table w)
      nothing (suc n) V w j p leaf = ⊎_elim
          (λ l. absurd (omega (arith, l)))
          (λ none. ap (λ b. cond b (read_at (suc n) V (address w) (j ∷ p)) 0) (is_not_named w none))
          leaf

      at : (p : List ℕ) → AlikeEntries (suc n) (i ∷ p) (read_at (suc n) T f (i ∷ p)) (read_at (suc n) U g (i ∷ p))
      at [] = inl e
      at (j ∷ p) = inl (nothing n T (word T f i) j p leaf ∙ sym (nothing n U (word U g i) j p (subst (λ w. (n ≤ 0) ⊎ (None ≡ below_word w)) e leaf)))

  -- the case of words that name tables
  tables_from : (n i : ℕ) → names_table (word T f i) ≡ true → names_table (word U g i) ≡ true
      → without_writable (word T f i) ≡ without_writable (word U g i)
      → AlikeFrom n T (address (word T f i)) U (address (word U g i)) → AlikeIndex (suc n) i
  tables_from n i names other else below = record { at = at }
    where
      L : ℕ
      L = suc (suc n)

      at : (p : List ℕ) → AlikeEntries L (i ∷ p) (read_at L T f (i ∷ p)) (read_at L U g (i ∷ p))
      at [] = inr (omega arith, record { one_names = names; other_names = other; same_else = else })
      at (j ∷ p) =
          let x = read_at (suc n) T (address (word T f i)) (j ∷ p) in
          let y = read_at (suc n) U (address (word U g i)) (j ∷ p) in
          entries L (i ∷ j ∷ p) x y (read_at L T f (i ∷ j ∷ p)) (read_at L U g (i ∷ j ∷ p))
          (sym (read_below (suc n) T f i j p names)) (sym (read_below (suc n) U g i j p other)) (further (suc n) i (j ∷ p) x y (below.at (j ∷ p)))

  below_from : (n i : ℕ) → names_table (word T f i) ≡ true → names_table (word U g i) ≡ true → AlikeFrom (suc n) T f U g
      → AlikeFrom n T (address (word T f i)) U (address (word U g i))
  below_from n i names other alike = record { at = at }
    where
      L : ℕ
      L = suc (suc n)

      at : (p : List ℕ) → AlikeEntries (suc n) p (read_at (suc n) T (address (word T f i)) p) (read_at (suc n) U (address (word U g i)) p)
      at [] = inl refl
      at (j ∷ p) =
          let x = read_at (suc n) T (address (word T f i)) (j ∷ p) in
          let y = read_at (suc n) U (address (word U g i)) (j ∷ p) in
          nearer (suc n) i (j ∷ p) x y (entries L (i ∷ j ∷ p) (read_at L T f (i ∷ j ∷ p)) (read_at L U g (i ∷ j ∷ p)) x y
          (read_below (suc n) T f i j p names) (read_below (suc n) U g i j p other) (alike.at (i ∷ j ∷ p)))

  pub tables : (n i a b : ℕ) → 0 < n → Some a ≡ below_word (word T f i) → Some b ≡ below_word (word U g i)
      → without_writable (word T f i) ≡ without_writable (word U g i) → AlikeFrom (n - 1) T a U b → AlikeIndex n i
  tables zero i a b levels is other else below = absurd (omega arith)
  tables (suc n) i a b levels is other else below =
      let w = word T f i in
      let v = word U g i in
      let e : suc n - 1 ≡ n = omega arith in
      tables_from n i (is_named w a is) (is_named v b other) else (subst (λ n. AlikeFrom n T (address w) U (address v)) e
      (subst (λ a. AlikeFrom (suc n - 1) T a U (address v)) (named_at w a is) (subst (λ b. AlikeFrom (suc n - 1) T a U b) (named_at v b other) below)))

  -- ---- tables that are alike are alike at each index

  pub below : (n i a b : ℕ) → 0 < n → Some a ≡ below_word (word T f i) → Some b ≡ below_word (word U g i)
      → AlikeFrom n T f U g → AlikeFrom (n - 1) T a U b
  below zero i a b levels is other alike = absurd (omega arith)
  below (suc n) i a b levels is other alike =
      let w = word T f i in
      let v = word U g i in
      let e : n ≡ suc n - 1 = omega arith in
      subst (λ n. AlikeFrom n T a U b) e
      (subst (λ a. AlikeFrom n T a U b) (sym (named_at w a is)) (subst (λ b. AlikeFrom n T (address w) U b) (sym (named_at v b other))
      (below_from n i (is_named w a is) (is_named v b other) alike)))

  pub words_else : (n i : ℕ) → AlikeFrom n T f U g → without_writable (word T f i) ≡ without_writable (word U g i)
  words_else n i alike = same_else (suc n) (i ∷ []) (word T f i) (word U g i) (alike.at (i ∷ []))

  pub same_leaves : (n i : ℕ) → (n ≤ 0) ⊎ (None ≡ below_word (word T f i)) → AlikeFrom n T f U g → word T f i ≡ word U g i
  same_leaves n i leaf alike = same (suc n) (i ∷ []) (word T f i) (word U g i) (⊎_elim (λ l. inl (omega (arith, l))) (λ none. inr (is_not_named (word T f i) none)) leaf) (alike.at (i ∷ []))

  pub one_table : (n i a : ℕ) → Some a ≡ below_word (word T f i) → None ≡ below_word (word U g i) → AlikeFrom n T f U g → ⊥
  one_table n i a is other alike =
      let names = other_names (suc n) (i ∷ []) (word T f i) (word U g i) (is_named (word T f i) a is) (alike.at (i ∷ [])) in
      let t : true ≡ false = sym names ∙ is_not_named (word U g i) other in
      cc

-- ---- the path maps

seen_outside : (T : Words) (root : ℕ) (recursive : Option ℕ) → without_word recursive root T ≡ outside_window (window_in T root recursive) root T
seen_outside T root None = refl
seen_outside T root (Some r) = refl

module _ (L : ℕ) (T : Words) (root : ℕ) (U : Words) (other_root : ℕ) where
  abbrev AlikeRead : Type 0
  AlikeRead = (q : List ℕ) → AlikeEntries L q (read_at L T root q) (read_at L U other_root q)

  alike_paths : AlikeRead → Alike L (paths_of L T root) (paths_of L U other_root)
  alike_paths alike q = entries L q (read_at L T root q) (read_at L U other_root q) (entry (paths_of L T root) q) (entry (paths_of L U other_root) q)
      (sym (entry_paths_of L T root q)) (sym (entry_paths_of L U other_root q)) (alike q)

  alike_read : Alike L (paths_of L T root) (paths_of L U other_root) → AlikeRead
  alike_read alike q = entries L q (entry (paths_of L T root) q) (entry (paths_of L U other_root) q) (read_at L T root q) (read_at L U other_root q)
      (entry_paths_of L T root q) (entry_paths_of L U other_root q) (alike q)

-- hierarchies are alike from their roots exactly if the path maps that are read are alike
module _ (words other_words : Words) (root other_root : ℕ) (index other_index : Option ℕ) where
  abbrev AlikeMaps : (L : ℕ) → Words → Words → Type 0
  AlikeMaps L T U = Alike L (paths_of L T root) (paths_of L U other_root)

  abbrev IsAlikeThrough : (levels L : ℕ) → Type 0
  IsAlikeThrough levels L =
      AlikeFrom levels (without_word index root words) root (without_word other_index other_root other_words) other_root
      ↔ Alike L (paths_in L words root index) (paths_in L other_words other_root other_index)

  alike_above : (levels : ℕ) → IsAlikeThrough levels (suc levels)
  alike_above levels =
      let L = suc levels in
      let e = seen_outside words root index in
      let d = seen_outside other_words other_root other_index in
      let T = without_word index root words in
      let U = without_word other_index other_root other_words in
      let V = outside_window (window_in words root index) root words in
      let W = outside_window (window_in other_words other_root other_index) other_root other_words in (
        λ alike. subst (λ T. AlikeMaps L T W) e (subst (λ U. AlikeMaps L T U) d (alike_paths L T root U other_root alike.at)),
        λ alike. record { at = alike_read L T root U other_root (subst (λ V. AlikeMaps L V U) (sym e) (subst (λ W. AlikeMaps L V W) (sym d) alike)) },
      )

  pub alike_seen : (levels L : ℕ) → suc levels ≡ L → IsAlikeThrough levels L
  alike_seen levels L more = subst (IsAlikeThrough levels) more (alike_above levels)
