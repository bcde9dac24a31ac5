-- Changes of the entries of a path map, as they are seen through the recursive window.
use Rattle.std.proofs.Common.{◌≡◌, ◌⊎◌, inl, inr, ⊎_elim, ◌<◌, ◌≤◌, ℕ, ◌==◌, ◌&&◌, true, false, cond, List, [], ◌∷◌, ◌++◌, ◌-◌, filter, length, nat_lt, Some, None, Option, refl, sym, ap, ◌∙◌, subst, subst₂, arith, lt-ltb, ltb-true, eqb-true}
use Rattle.std.proofs.lemmas.Bool.{and_parts, and_right, cond-false, cases_Bool, cases_lt}
use Rattle.x86_64_model.specs.Entry.{used, present, address, names_table}
use Rattle.x86_64_model.specs.Lists.{In}
use Rattle.x86_64_model.specs.Memory.{Words}
use Rattle.x86_64_model.specs.PathMap.{PathMap, entry, table_of, table_at}
use Rattle.x86_64_model.specs.Path.{paths_below, begins}
use Rattle.x86_64_model.specs.CleanUp.{is_removed, clean_up}
use Rattle.x86_64_model.specs.Pool.{IsTable}
use Rattle.x86_64_model.specs.Window.{Window, windowed, entry_at, begins_with, SelfEntry}
use Rattle.x86_64_model.specs.Flushing.{Due, PageDue, TablesDue, WindowDue, BelowDue, HasZeros, IsUnflushed, loosens}
use Rattle.x86_64_model.proofs.Lemmas.Walks.Agrees.{named}
use Rattle.x86_64_model.proofs.Lemmas.Walks.Walked.{names}
use Rattle.x86_64_model.proofs.Lemmas.Hierarchies.Trees.{IsTree, table_of_gives, some_not_none}
use Rattle.x86_64_model.proofs.Lemmas.Lists.Members.{in_filter, in_map}
use Rattle.x86_64_model.proofs.Lemmas.CleanUps.Frames.{listed}
use Rattle.x86_64_model.proofs.Lemmas.Caches.Agrees.{leads}
use Rattle.x86_64_model.proofs.Lemmas.Caches.Kept.{Kept, SameTarget, PageDrops}
use Rattle.x86_64_model.proofs.Lemmas.Caches.Moved.{Moves, Stays, Begins, Grew, Leaf, Flags, Freed, Unseen}

-- ---- tables of entries at longer paths

short_table : (L : ℕ) (y q : List ℕ) (e : ℕ) → length q < L → length y < L → table_of L q e ≡ table_of L y e
unfolding table_of
short_table L y q e l k = λ i. cond (names_table e && (lt-ltb _ _ l ∙ sym (lt-ltb _ _ k)) i) (Some (address e)) None

long_table : (L : ℕ) (q : List ℕ) (e : ℕ) → L ≤ length q → table_of L q e ≡ None
unfolding table_of
long_table L q e l = cond-false _ (Some (address e)) None (and_right (names_table e) _ (⊎_elim (λ t. absurd (let k = ltb-true (length q) L t in omega arith)) (λ f. f) (cases_Bool (nat_lt (length q) L))))

-- ---- entries of the path map

-- the window is due, if there is one
abbrev pub HasWindow : Option Window → List Due → Type 0
HasWindow window due = (w : Window) → window ≡ Some w → In due WindowDue

-- how the entry at a path of the path map may change, by what is due
pub data Becomes (L : ℕ) (window : Option Window) (due : List Due) (pool : List ℕ) (q : List ℕ) (e f : ℕ) : Type 0 where
  AsBefore : f ≡ e → Becomes L window due pool q e f
  Made : used e ≡ false → Becomes L window due pool q e f
  Marked : (present e ≡ true → Kept e f) → SameTarget e f → Becomes L window due pool q e f
  Remapped : table_of L q e ≡ None → In due (PageDue q (address e)) → (length q < L → HasWindow window due) → Becomes L window due pool q e f
  Reflagged : SameTarget e f → (r : List ℕ) → In due (BelowDue r) → begins r q ≡ true → HasWindow window due → Becomes L window due pool q e f
  Removed : f ≡ 0 → HasWindow window due → (g : ℕ) → table_of L q e ≡ Some g → IsUnflushed due g → In pool g → Becomes L window due pool q e f

-- an entry outside the window that names no table and isn't present, while no other entry on its path is due with all items
pub record IsUnseen (L : ℕ) (window : Option Window) (due : List Due) (q : List ℕ) (e : ℕ) : Type 0 where
  pub is_absent : present e ≡ false
  pub is_leaf : table_of L q e ≡ None
  pub is_outside : begins_with window q ≡ false
  pub settled : (r : List ℕ) → In due (BelowDue r) → (begins r q ≡ false) × (begins_with window r ≡ false)

-- an entry may also change if it isn't present
abbrev pub Alters : (L : ℕ) (window : Option Window) (due : List Due) (pool : List ℕ) (q : List ℕ) (e f : ℕ) → Type 0
Alters L window due pool q e f = Becomes L window due pool q e f ⊎ IsUnseen L window due q e

-- where a path that isn't empty begins, it begins in the window if the path does
front_window : (window : Option Window) (j : ℕ) (r q : List ℕ) → begins (j ∷ r) q ≡ true → begins_with window q ≡ true → begins_with window (j ∷ r) ≡ true
front_window None j r q b h = h
front_window (Some w) j r [] b h = cc
front_window (Some w) j r (i ∷ q) b h = ap (λ j. j == w.index) (eqb-true j i (and_parts _ _ b).0) ∙ h

module _ (L : ℕ) (window : Option Window) (due : List Due) (pool : List ℕ) where
  -- outside the window
  pub outside : (q : List ℕ) (e f : ℕ) → Becomes L window due pool q e f → Moves L window due pool q e f
  outside q e f (AsBefore is) = Stays is
  outside q e f (Made u) = Begins u
  outside q e f (Marked k same) = Grew k same
  outside q e f (Remapped n d w) = Leaf n (inl d)
  outside q e f (Reflagged same r d b w) = Flags same (BelowDue r, d, b)
  outside q e f (Removed z w g is d i) = Freed z g is d i

  -- through the window the entry at y is seen at a longer path
  inside : (w : Window) → window ≡ Some w → (y q : List ℕ) (e f : ℕ) → begins_with window q ≡ true → length y < length q → length q ≤ L → Becomes L window due pool y e f → Moves L window due pool q e f
  inside w is y q e f within l top (AsBefore same) = Stays same
  inside w is y q e f within l top (Made u) = Begins u
  inside w is y q e f within l top (Marked k same) = Grew k same
  inside w is y q e f within l top (Remapped n d has) = Leaf
      (⊎_elim (λ k. short_table L y q e k (omega arith) ∙ n) (λ k. long_table L q e k) (cases_lt (length q) L))
      (inr (has (omega arith) w is, within))
  inside w is y q e f within l top (Reflagged same r d b has) = Flags same (WindowDue, has w is, within)
  inside w is y q e f within l top (Removed z has g names d i) = ⊎_elim
      (λ k. Freed z g (short_table L y q e k (omega arith) ∙ names) d i)
      (λ k. Leaf (long_table L q e k) (inr (has w is, within))) (cases_lt (length q) L)

  -- an entry that isn't present
  unseen : (q : List ℕ) (e f : ℕ) → IsUnseen L window due q e → Moves L window due pool q e f
  unseen q e f u = Unseen u.is_absent u.is_leaf (λ l. drops l.0 l.1 l.2)
    where
      drops : (d : Due) → In due d → loosens window d q ≡ true → PageDrops window due q (address e)
      drops (PageDue r g) i l = cc
      drops (TablesDue freed) i l = cc
      drops WindowDue i l = absurd (let t : true ≡ false = sym l ∙ u.is_outside in cc)
      drops (BelowDue r) i l = absurd (let t : true ≡ false = sym l ∙ (u.settled r i).0 in cc)

  -- through the window it is seen at a longer path
  unseen_inside : (y q : List ℕ) (e f : ℕ) → begins_with window q ≡ true → length y < length q → length q ≤ L → IsUnseen L window due y e → Moves L window due pool q e f
  unseen_inside y q e f within l top u = Unseen u.is_absent
      (⊎_elim (λ k. short_table L y q e k (omega arith) ∙ u.is_leaf) (λ k. long_table L q e k) (cases_lt (length q) L))
      (λ l. drops l.0 l.1 l.2)
    where
      drops : (d : Due) → In due d → loosens window d q ≡ true → PageDrops window due q (address e)
      drops (PageDue r g) i l = cc
      drops (TablesDue freed) i l = cc
      drops WindowDue i l = inr (i, within)
      drops (BelowDue []) i l = absurd (let t : true ≡ false = (u.settled [] i).0 in cc)
      drops (BelowDue (j ∷ r)) i l = absurd (let t : true ≡ false = sym (front_window window j r q l within) ∙ (u.settled (j ∷ r) i).1 in cc)

-- ---- paths through the window

module _ (w : Window) where
  -- a path without the recursive indices at its front
  abbrev strip : List ℕ → List ℕ
  strip [] = []
  strip (i ∷ q) = cond (i == w.index) (strip q) (i ∷ q)

  abbrev entry_of : PathMap → List ℕ → ℕ
  entry_of M [] = w.self_entry
  entry_of M (j ∷ y) = entry M (j ∷ y)

  windowed_is : (M : PathMap) (i : ℕ) (q : List ℕ) → windowed w M (i ∷ q) ≡ entry_of M (strip (i ∷ q))
  windowed_is M i [] = elim (i == w.index) as (λ b. cond b w.self_entry (entry M (i ∷ [])) ≡ entry_of M (cond b [] (i ∷ []))) [ true ↦ refl | false ↦ refl ]
  windowed_is M i (j ∷ q) = elim (i == w.index) as (λ b. cond b (windowed w M (j ∷ q)) (entry M (i ∷ j ∷ q)) ≡ entry_of M (cond b (strip (j ∷ q)) (i ∷ j ∷ q))) [ true ↦ windowed_is M j q | false ↦ refl ]

  strip_short : (q : List ℕ) → length (strip q) ≤ length q
  strip_short [] = omega arith
  strip_short (i ∷ q) = let l = strip_short q in elim (i == w.index) as (λ b. length (cond b (strip q) (i ∷ q)) ≤ length (i ∷ q)) [ true ↦ omega (arith, l) | false ↦ omega arith ]

  strip_cases : (i : ℕ) (q : List ℕ) → (strip (i ∷ q) ≡ i ∷ q) ⊎ (((i == w.index) ≡ true) × (length (strip (i ∷ q)) < length (i ∷ q)))
  strip_cases i q = let l = strip_short q in elim (i == w.index) as (λ b. (cond b (strip q) (i ∷ q) ≡ i ∷ q) ⊎ ((b ≡ true) × (length (cond b (strip q) (i ∷ q)) < length (i ∷ q)))) [
    | true ↦ inr (refl, omega (arith, l))
    | false ↦ inl refl
  ]

  strip_more : (q s : List ℕ) (j : ℕ) (y : List ℕ) → strip q ≡ j ∷ y → strip (q ++ s) ≡ j ∷ y ++ s
  strip_more [] s j y e = cc
  strip_more (i ∷ q) s j y e = elim (i == w.index) as (λ b. cond b (strip q) (i ∷ q) ≡ j ∷ y → cond b (strip (q ++ s)) (i ∷ q ++ s) ≡ j ∷ y ++ s) [
    | true ↦ strip_more q s j y
    | false ↦ λ e. ap (λ x. x ++ s) e
  ] e

-- ---- the path map M becomes N

module _ (L root : ℕ) (M N : PathMap) (due : List Due) (pool : List ℕ) (U : Words) where
  pub seen_alters : (window : Option Window) → ((q : List ℕ) → Alters L window due pool q (entry M q) (entry N q)) → (q : List ℕ) → length q ≤ L → Moves L window due pool q (entry_at window M q) (entry_at window N q)
  unfolding entry_at
  seen_alters None moves q l = ⊎_elim (λ b. outside L None due pool q _ _ b) (λ u. unseen L None due pool q _ _ u) (moves q)
  seen_alters (Some w) moves [] l = Stays refl
  seen_alters (Some w) moves (i ∷ q) l = subst₂ (Moves L (Some w) due pool (i ∷ q)) (sym (windowed_is w M i q)) (sym (windowed_is w N i q)) (by (strip w (i ∷ q)) refl)
    where
      by : (y : List ℕ) → strip w (i ∷ q) ≡ y → Moves L (Some w) due pool (i ∷ q) (entry_of w M y) (entry_of w N y)
      by [] e = Stays refl
      by (j ∷ y) e = ⊎_elim
          (λ same. subst (λ x. Moves L (Some w) due pool (i ∷ q) (entry M x) (entry N x)) (sym same ∙ e)
          (⊎_elim (λ b. outside L (Some w) due pool (i ∷ q) _ _ b) (λ u. unseen L (Some w) due pool (i ∷ q) _ _ u) (moves (i ∷ q))))
          (λ x. ⊎_elim (λ b. inside L (Some w) due pool w refl (j ∷ y) (i ∷ q) _ _ x.0 (omega (arith, x.1, ap length e)) l b)
          (λ u. unseen_inside L (Some w) due pool (j ∷ y) (i ∷ q) _ _ x.0 (omega (arith, x.1, ap length e)) l u) (moves (j ∷ y)))
          (strip_cases w i q)

  pub seen_moves : (window : Option Window) → ((q : List ℕ) → Becomes L window due pool q (entry M q) (entry N q)) → (q : List ℕ) → length q ≤ L → Moves L window due pool q (entry_at window M q) (entry_at window N q)
  seen_moves window moves q l = seen_alters window (λ q. inl (moves q)) q l

  pub seen_below : (window : Option Window) → SelfEntry U root window → IsTree L root N → (q : List ℕ) (i : ℕ) → length q < L → leads L root (entry_at window N) q ≡ None → entry_at window N (q ++ i ∷ []) ≡ 0
  unfolding entry_at
  seen_below window self tree [] i l n = absurd (some_not_none root n)
  seen_below None self tree (a ∷ q) i l n = tree.below (a ∷ q) i n
  seen_below (Some w) self tree (a ∷ q) i l n = by (strip w (a ∷ q)) refl
    where
      by : (y : List ℕ) → strip w (a ∷ q) ≡ y → windowed w N (a ∷ q ++ i ∷ []) ≡ 0
      by [] e = absurd (some_not_none _ (sym (named L (a ∷ q) w.self_entry (names _ self.is_present self.not_huge) l) ∙ ap (table_of L (a ∷ q)) (sym (windowed_is w N a q ∙ ap (entry_of w N) e)) ∙ n))
      by (j ∷ y) e = let s = strip_short w (a ∷ q) in
          windowed_is w N a (q ++ i ∷ []) ∙ ap (entry_of w N) (strip_more w (a ∷ q) (i ∷ []) j y e)
          ∙ tree.below (j ∷ y) i (sym (short_table L (j ∷ y) (a ∷ q) _ l (omega (arith, l, s, ap length e))) ∙ ap (table_of L (a ∷ q)) (sym (windowed_is w N a q ∙ ap (entry_of w N) e)) ∙ n)

  pub seen_empty : (window : Option Window) → ((q : List ℕ) (f : ℕ) → table_at L root M q ≡ Some f → table_at L root N q ≡ None → HasZeros U f)
      → (q : List ℕ) (f : ℕ) → leads L root (entry_at window M) q ≡ Some f → leads L root (entry_at window N) q ≡ None → HasZeros U f
  unfolding entry_at
  seen_empty window empty [] f t n = absurd (some_not_none root n)
  seen_empty None empty (a ∷ q) f t n = empty (a ∷ q) f t n
  seen_empty (Some w) empty (a ∷ q) f t n = by (strip w (a ∷ q)) refl
    where
      by : (y : List ℕ) → strip w (a ∷ q) ≡ y → HasZeros U f
      by [] e = absurd (some_not_none f (sym t ∙ ap (table_of L (a ∷ q)) (windowed_is w M a q ∙ ap (entry_of w M) e ∙ sym (windowed_is w N a q ∙ ap (entry_of w N) e)) ∙ n))
      by (j ∷ y) e = let s = strip_short w (a ∷ q) in let l = (table_of_gives L (a ∷ q) _ f t).high in
          let k : length (j ∷ y) < L = omega (arith, l, s, ap length e) in
          empty (j ∷ y) f
          (sym (short_table L (j ∷ y) (a ∷ q) _ l k) ∙ ap (table_of L (a ∷ q)) (sym (windowed_is w M a q ∙ ap (entry_of w M) e)) ∙ t)
          (sym (short_table L (j ∷ y) (a ∷ q) _ l k) ∙ ap (table_of L (a ∷ q)) (sym (windowed_is w N a q ∙ ap (entry_of w N) e)) ∙ n)

  pub seen_table : (window : Option Window) → SelfEntry U root window → (q : List ℕ) (f : ℕ) → leads L root (entry_at window N) q ≡ Some f → IsTable L root N f
  unfolding entry_at
  seen_table window self [] f t = ([], t)
  seen_table None self (a ∷ q) f t = (a ∷ q, t)
  seen_table (Some w) self (a ∷ q) f t = by (strip w (a ∷ q)) refl
    where
      by : (y : List ℕ) → strip w (a ∷ q) ≡ y → IsTable L root N f
      by [] e = ([], ap Some (sym self.names_root ∙ ap address (sym (windowed_is w N a q ∙ ap (entry_of w N) e)) ∙ (table_of_gives L (a ∷ q) _ f t).at))
      by (j ∷ y) e = let s = strip_short w (a ∷ q) in let l = (table_of_gives L (a ∷ q) _ f t).high in
          (j ∷ y, sym (short_table L (j ∷ y) (a ∷ q) _ l (omega (arith, l, s, ap length e))) ∙ ap (table_of L (a ∷ q)) (sym (windowed_is w N a q ∙ ap (entry_of w N) e)) ∙ t)

-- the frame of a table that a clean up removes is freed
pub removed_back : (L root : ℕ) (M : PathMap) → IsTree L root M → (low high i : ℕ) (q : List ℕ) → is_removed L M low high (i ∷ q) ≡ true → In (clean_up L M low high).back (address (entry M (i ∷ q)))
unfolding clean_up
removed_back L root M tree low high i q r = in_map (λ q. address (entry M q)) (filter (is_removed L M low high) (paths_below (L - 1) [])) (i ∷ q)
    (in_filter (is_removed L M low high) (paths_below (L - 1) []) (i ∷ q) (listed L root M tree low high i q r) r)
