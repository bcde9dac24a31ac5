-- Changes of entries, by what is due, and what becomes of cached items that agree with them.
use Rattle.std.proofs.Common.{◌≡◌, ◌⊎◌, inl, inr, ⊎_elim, ◌<◌, ◌≤◌, ◌+◌, ◌*◌, ◌/◌, ◌==◌, ◌&&◌, ◌||◌, ℕ, true, false, List, [], ◌∷◌, ◌++◌, length, Some, None, Option, sym, ap, ◌∙◌, subst, arith, append_assoc, append-nil, length-append}
use Rattle.std.proofs.lemmas.Option.{same_Some}
use Rattle.x86_64_model.specs.Entry.{used, present, huge, address}
use Rattle.x86_64_model.specs.Lists.{In}
use Rattle.x86_64_model.specs.PathMap.{table_of}
use Rattle.x86_64_model.specs.Path.{level_of, begins}
use Rattle.x86_64_model.specs.Position.{span}
use Rattle.x86_64_model.specs.Window.{Window}
use Rattle.x86_64_model.specs.Memory.{Words}
use Rattle.x86_64_model.specs.Caches.{PartialWalk, Table, Page}
use Rattle.x86_64_model.specs.Flushing.{Due, HasZeros, IsUnflushed, IsEmptied}
use Rattle.x86_64_model.proofs.Lemmas.Entries.Bits.{used_present, zero_absent}
use Rattle.x86_64_model.proofs.Lemmas.Hierarchies.Changes.{unused_no_table, zero_not_used}
use Rattle.x86_64_model.proofs.Lemmas.Paths.Begins.{from_begins}
use Rattle.x86_64_model.proofs.Lemmas.Walks.Walked.{names, one_more}
use Rattle.x86_64_model.proofs.Lemmas.Walks.Agrees.{named}
use Rattle.x86_64_model.proofs.Lemmas.Hierarchies.Trees.{table_of_gives, used_table, some_not_none}
use Rattle.x86_64_model.proofs.Lemmas.Caches.Agrees.{front_cases, front_more, IsWay, AgreesTable, AgreesPage, leads}
use Rattle.x86_64_model.proofs.Lemmas.Caches.Kept.{Kept, kept_same, SameTarget, target_table, PageDrops, LooseAt, loose_more, Stands, leads_any, page_no_table, agrees_kept}

-- how the entry at a path may change, by what is due: it stays, was absent, grows, is a leaf whose page is due, leads where it led
-- while all items on its path are due, named a table that is freed, or was a leaf that isn't present
pub data Moves (L : ℕ) (window : Option Window) (due : List Due) (pool : List ℕ) (q : List ℕ) (e f : ℕ) : Type 0 where
  Stays : f ≡ e → Moves L window due pool q e f
  Begins : used e ≡ false → Moves L window due pool q e f
  Grew : (present e ≡ true → Kept e f) → SameTarget e f → Moves L window due pool q e f
  Leaf : table_of L q e ≡ None → PageDrops window due q (address e) → Moves L window due pool q e f
  Flags : SameTarget e f → LooseAt window due q → Moves L window due pool q e f
  Freed : f ≡ 0 → (g : ℕ) → table_of L q e ≡ Some g → IsUnflushed due g → In pool g → Moves L window due pool q e f
  Unseen : present e ≡ false → table_of L q e ≡ None → (LooseAt window due q → PageDrops window due q (address e)) → Moves L window due pool q e f

-- the entries E become F, and the words become U. Nothing is used below what isn't a table
module _ (L root : ℕ) (window : Option Window) (E F : List ℕ → ℕ) (due : List Due) (pool : List ℕ) (U : Words)
    (below : (q : List ℕ) (i : ℕ) → length q < L → leads L root F q ≡ None → F (q ++ i ∷ []) ≡ 0)
    (moves : (q : List ℕ) → length q ≤ L → Moves L window due pool q (E q) (F q))
    (empty : (q : List ℕ) (f : ℕ) → leads L root E q ≡ Some f → leads L root F q ≡ None → HasZeros U f) where
  -- a table of the hierarchy stays, or is freed
  pub leads_or_freed : (q : List ℕ) (f : ℕ) → leads L root E q ≡ Some f → (leads L root F q ≡ Some f) ⊎ IsEmptied due pool U f
  leads_or_freed [] f t = inl t
  leads_or_freed (i ∷ q) f t = let high = (table_of_gives L (i ∷ q) _ f t).high in by (moves (i ∷ q) (omega arith))
    where
      by : Moves L window due pool (i ∷ q) (E (i ∷ q)) (F (i ∷ q)) → (leads L root F (i ∷ q) ≡ Some f) ⊎ IsEmptied due pool U f
      by (Stays e) = inl (ap (table_of L (i ∷ q)) e ∙ t)
      by (Begins u) = absurd (let x : true ≡ false = sym (used_table _ (table_of_gives L (i ∷ q) _ f t).is_table) ∙ u in cc)
      by (Grew k same) = inl (target_table L (i ∷ q) _ _ same ∙ t)
      by (Leaf none d) = absurd (some_not_none f (sym t ∙ none))
      by (Flags same d) = inl (target_table L (i ∷ q) _ _ same ∙ t)
      by (Unseen h none d) = absurd (some_not_none f (sym t ∙ none))
      by (Freed z g is d i') = let same = same_Some _ _ (sym is ∙ t) in inr (subst (IsUnflushed due) same d, subst (In pool) same i', empty (i ∷ q) f t (ap (table_of L (i ∷ q)) z ∙ unused_no_table L (i ∷ q)))

  -- nothing is used below a table that is freed
  below_freed : (s q : List ℕ) (j : ℕ) → length q + length s < L → leads L root F q ≡ None → F (q ++ j ∷ s) ≡ 0
  below_freed [] q j l none = below q j (omega arith) none
  below_freed (k ∷ s) q j l none = ap F (sym (append_assoc q (j ∷ []) (k ∷ s)))
      ∙ below_freed s (q ++ j ∷ []) k (omega (arith, one_more q j)) (absent q)
    where
      zero_there : F (q ++ j ∷ []) ≡ 0
      zero_there = below q j (omega arith) none

      absent : (q' : List ℕ) → leads L root F (q ++ j ∷ []) ≡ None
      absent q' = at q zero_there
        where
          at : (q : List ℕ) → F (q ++ j ∷ []) ≡ 0 → leads L root F (q ++ j ∷ []) ≡ None
          at [] z = ap (table_of L (j ∷ [])) z ∙ unused_no_table L (j ∷ [])
          at (i ∷ q) z = ap (table_of L (i ∷ q ++ j ∷ [])) z ∙ unused_no_table L (i ∷ q ++ j ∷ [])

  -- the entries on a way are kept, if the items there aren't due, and none is freed
  kept_way : (i : ℕ) (c : List ℕ) → present (E (i ∷ c)) ≡ true → (g : ℕ) → leads L root E (i ∷ c) ≡ Some g → (LooseAt window due (i ∷ c) → ⊥) → (leads L root F (i ∷ c) ≡ None → ⊥) → Kept (E (i ∷ c)) (F (i ∷ c))
  kept_way i c h g t none stays = let high = (table_of_gives L (i ∷ c) _ g t).high in by (moves (i ∷ c) (omega arith))
    where
      by : Moves L window due pool (i ∷ c) (E (i ∷ c)) (F (i ∷ c)) → Kept (E (i ∷ c)) (F (i ∷ c))
      by (Stays e) = kept_same _ _ h e
      by (Begins u) = absurd (let x : true ≡ false = sym (used_present _ h) ∙ u in cc)
      by (Grew k same) = k h
      by (Leaf n d) = absurd (some_not_none g (sym t ∙ n))
      by (Flags same d) = absurd (none d)
      by (Unseen n none d) = absurd (let x : true ≡ false = sym h ∙ n in cc)
      by (Freed z g' is d i') = absurd (stays (ap (table_of L (i ∷ c)) z ∙ unused_no_table L (i ∷ c)))

  way_table : (x : List ℕ) → IsWay L E x → (i : ℕ) (c : List ℕ) → begins (i ∷ c) x ≡ true → (g : ℕ) × (leads L root E (i ∷ c) ≡ Some g)
  way_table x way i c b = let more = from_begins (i ∷ c) x b in let short = way.short in
      let l : length (i ∷ c) < L = omega (arith, short, ap length more.1, length-append (i ∷ c) more.0) in
      (address (E (i ∷ c)), named L (i ∷ c) _ (names _ (way.is_present i c b) (way.not_huge i c b)) l)

  -- a table agrees still, if it is one and the items on its path aren't due
  pub table_moves : (t : PartialWalk) → (LooseAt window due t.path → ⊥) → AgreesTable L root E t → leads L root F t.path ≡ Some t.frame → AgreesTable L root F t
  table_moves t none a there = agrees_kept L root E F (Table t) a (λ i c b h. let g = way_table t.path a.way i c b in
      kept_way i c h g.0 g.1 (λ l. none (loose_more window due (i ∷ c) t.path b l)) (λ n. let more = from_begins (i ∷ c) t.path b in on more.0 i c n more.1))
    where
      on : (s : List ℕ) (i : ℕ) (c : List ℕ) → leads L root F (i ∷ c) ≡ None → t.path ≡ i ∷ c ++ s → ⊥
      on [] i c n e = some_not_none t.frame (sym there ∙ ap (leads L root F) (e ∙ append-nil (i ∷ c)) ∙ n)
      on (j ∷ s) i c n e = let short = a.way.short in
          let l : length (i ∷ c) + length s < L = omega (arith, short, ap length e, length-append (i ∷ c) (j ∷ s)) in
          some_not_none t.frame (sym there ∙ ap (leads L root F) e ∙ ap (table_of L (i ∷ c ++ j ∷ s)) (below_freed s (i ∷ c) j l n) ∙ unused_no_table L (i ∷ c ++ j ∷ s))

  -- a page agrees still, or what is due drops it
  pub page_moves : (w : PartialWalk) → (LooseAt window due w.path → ⊥) → AgreesPage L E w → AgreesPage L F w ⊎ PageDrops window due w.path (address (E w.path))
  page_moves w none a = let short = a.way.short in by (moves w.path (omega (arith, short, ap length a.path, one_more a.front a.last)))
    where
      agreed : Kept (E w.path) (F w.path) → AgreesPage L F w
      agreed kept = agrees_kept L root E F (Page w) a (λ i c b h. ⊎_elim
          (λ b. let g = way_table a.front a.way i c b in kept_way i c h g.0 g.1 (λ l. none (loose_more window due (i ∷ c) w.path (front_on i c b) l)) (λ n. let more = from_begins (i ∷ c) a.front b in
          let further : w.path ≡ i ∷ c ++ (more.0 ++ a.last ∷ []) = a.path ∙ ap (λ q. q ++ a.last ∷ []) more.1 ∙ append_assoc (i ∷ c) more.0 (a.last ∷ []) in
          on more.0 i c n more.1 further))
          (λ e. subst (λ c. Kept (E c) (F c)) (sym (e ∙ sym a.path)) kept)
          (front_cases (i ∷ c) a.front a.last (ap (begins (i ∷ c)) (sym a.path) ∙ b)))
        where
          front_on : (i : ℕ) (c : List ℕ) → begins (i ∷ c) a.front ≡ true → begins (i ∷ c) w.path ≡ true
          front_on i c b = ap (begins (i ∷ c)) a.path ∙ front_more (i ∷ c) a.front (a.last ∷ []) b

          absent : (q : List ℕ) → w.path ≡ q → F q ≡ 0 → ⊥
          absent q e z = let t : true ≡ false = sym kept.is_present ∙ ap (λ q. present (F q)) e ∙ ap present z ∙ zero_absent in cc

          on : (s : List ℕ) (i : ℕ) (c : List ℕ) → leads L root F (i ∷ c) ≡ None → a.front ≡ i ∷ c ++ s → w.path ≡ i ∷ c ++ (s ++ a.last ∷ []) → ⊥
          on [] i c n f e = let short = a.way.short in absent _ e (below_freed [] (i ∷ c) a.last (omega (arith, short, ap length f, length-append (i ∷ c) [])) n)
          on (j ∷ s) i c n f e = let short = a.way.short in
              absent _ e (below_freed (s ++ a.last ∷ []) (i ∷ c) j (omega (arith, short, ap length f, length-append (i ∷ c) (j ∷ s), one_more s a.last)) n)

      by : Moves L window due pool w.path (E w.path) (F w.path) → AgreesPage L F w ⊎ PageDrops window due w.path (address (E w.path))
      by (Stays e) = inl (agreed (kept_same _ _ a.is_present e))
      by (Begins u) = absurd (let x : true ≡ false = sym (used_present _ a.is_present) ∙ u in cc)
      by (Grew k same) = inl (agreed (k a.is_present))
      by (Leaf n d) = inr d
      by (Flags same d) = absurd (none d)
      by (Freed z g is d i) = absurd (page_no_table L w.path (E w.path) g a.maps is)
      by (Unseen n none d) = absurd (let x : true ≡ false = sym a.is_present ∙ n in cc)

  -- a page whose entry leads there has such an entry still, or what is due drops it, if all items on its path are due
  pub stands_moves : (w : PartialWalk) → LooseAt window due w.path → Stands L E w → Stands L F w ⊎ PageDrops window due w.path (address (E w.path))
  stands_moves w loose s = let short = s.short in by (moves w.path (omega (arith, short, ap length s.path, one_more s.front s.last)))
    where
      still : used (F w.path) ≡ true → leads L 0 F s.front ≡ None → ⊥
      still u n = let z = below s.front s.last s.short (leads_any L 0 root F s.front n) in
          let t : true ≡ false = sym u ∙ ap (λ q. used (F q)) s.path ∙ ap used z ∙ zero_not_used in cc

      same : SameTarget (E w.path) (F w.path) → Stands L F w
      same t = let level = level_of L w.path in record {
        front = s.front;
        last = s.last;
        path = s.path;
        short = s.short;
        named = still t.is_used;
        is_used = t.is_used;
        maps = ap (λ h. (level == 1) || (h && ((level == 2) || (level == 3)))) t.same_huge ∙ s.maps;
        frame = s.frame ∙ ap (λ x. x / span level * span level) (sym t.same_address);
      }

      by : Moves L window due pool w.path (E w.path) (F w.path) → Stands L F w ⊎ PageDrops window due w.path (address (E w.path))
      by (Stays e) = inl (same (record { was_used = s.is_used; is_used = ap used e ∙ s.is_used; same_huge = ap huge e; same_address = ap address e }))
      by (Begins u) = absurd (let x : true ≡ false = sym s.is_used ∙ u in cc)
      by (Grew k t) = inl (same t)
      by (Leaf n d) = inr d
      by (Flags t d) = inl (same t)
      by (Freed z g is d i) = absurd (page_no_table L w.path (E w.path) g s.maps is)
      by (Unseen n none d) = inr (d loose)
