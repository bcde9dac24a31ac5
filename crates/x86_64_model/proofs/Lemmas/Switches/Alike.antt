-- Pages below shared indices, as any of the spaces has them.
use Rattle.std.proofs.Common.{◌≡◌, ◌⊎◌, inl, inr, ⊎_elim, ◌<◌, ◌≤◌, ◌*◌, ◌/◌, ◌==◌, ◌&&◌, ◌||◌, ℕ, Bool, true, false, not, nat_lt, cond, List, [], ◌∷◌, ◌++◌, length, Some, None, Option, refl, sym, ap, ◌∙◌, subst, subst₂}
use Rattle.std.proofs.lemmas.Bool.{cases_Bool}
use Rattle.x86_64_model.specs.Lists.{In}
use Rattle.x86_64_model.specs.Entry.{LeadAlike, present}
use Rattle.x86_64_model.specs.Memory.{Words}
use Rattle.x86_64_model.specs.Path.{level_of, begins}
use Rattle.x86_64_model.specs.PathMap.{PathMap, entry, table_of, table_at}
use Rattle.x86_64_model.specs.Mappings.{maps_page}
use Rattle.x86_64_model.specs.Position.{span}
use Rattle.x86_64_model.specs.Window.{Window, begins_with, entry_at}
use Rattle.x86_64_model.specs.Spaces.{is_shared}
use Rattle.x86_64_model.specs.Caches.{PartialWalk, Page}
use Rattle.x86_64_model.specs.Flushing.{Due, HasZeros}
use Rattle.x86_64_model.proofs.Lemmas.Hierarchies.Changes.{unused_no_table}
use Rattle.x86_64_model.proofs.Lemmas.Hierarchies.Trees.{IsTree, some_not_none}
use Rattle.x86_64_model.proofs.Lemmas.Maps.Arrives.{entry_outside}
use Rattle.x86_64_model.proofs.Lemmas.Paths.Begins.{begins_itself, begins_on, from_begins}
use Rattle.x86_64_model.proofs.Lemmas.Paths.Puts.{no_end}
use Rattle.x86_64_model.proofs.Lemmas.Caches.Agrees.{AgreesPage, leads}
use Rattle.x86_64_model.proofs.Lemmas.Caches.Items.{StalePage, page_written}
use Rattle.x86_64_model.proofs.Lemmas.Caches.Kept.{Kept, Stands, agrees_kept}
use Rattle.x86_64_model.proofs.Lemmas.Caches.Moved.{Moves, Stays}
use Rattle.x86_64_model.proofs.Lemmas.Caches.Windowed.{Becomes, AsBefore, Made, Marked, Remapped, Reflagged, Removed, HasWindow, outside}

-- ---- more is due

module _ (L : ℕ) (window other : Option Window) (due more : List Due) (pool : List ℕ) (q : List ℕ) (e f : ℕ) (grows : (d : Due) → In due d → In more d)
    (windows : HasWindow window due → HasWindow other more) where
  pub become_more : Becomes L window due pool q e f → Becomes L other more pool q e f
  become_more (AsBefore is) = AsBefore is
  become_more (Made u) = Made u
  become_more (Marked k same) = Marked k same
  become_more (Remapped n d w) = Remapped n (grows _ d) (λ l. windows (w l))
  become_more (Reflagged same r d b w) = Reflagged same r (grows _ d) b (windows w)
  become_more (Removed z w g is d i) = Removed z (windows w) g is (d.0, grows _ d.1, d.2) i

-- ---- entries that lead alike

pub alike_itself : (e : ℕ) → LeadAlike e e
alike_itself e = record { same_used = refl; same_present = refl; same_huge = refl; same_address = refl; same_write = refl; same_user = refl; same_execute = refl }

pub alike_equal : (e f : ℕ) → f ≡ e → LeadAlike e f
alike_equal e f is = subst (LeadAlike e) (sym is) (alike_itself e)

pub alike_kept : (e f : ℕ) → LeadAlike e f → present e ≡ true → Kept e f
alike_kept e f a h = record {
  is_present = a.same_present ∙ h;
  same_huge = a.same_huge;
  same_address = a.same_address;
  grants = λ r g. record { write = λ x. a.same_write ∙ g.write x; user = λ x. a.same_user ∙ g.user x; execute = λ x. a.same_execute ∙ g.execute x };
}

pub alike_table : (L : ℕ) (q : List ℕ) (e f : ℕ) → LeadAlike e f → table_of L q f ≡ table_of L q e
unfolding table_of
alike_table L q e f a = λ i. cond (a.same_used i && not (a.same_huge i) && nat_lt (length q) L) (Some (a.same_address i)) None

alike_maps : (level e f : ℕ) → LeadAlike e f → maps_page level f ≡ maps_page level e
alike_maps level e f a = ap (λ h. (level == 1) || (h && ((level == 2) || (level == 3)))) a.same_huge

-- ---- a page with such entries on its path

module _ (L : ℕ) (E F : List ℕ → ℕ) (w : PartialWalk) (same : (i : ℕ) (c : List ℕ) → begins (i ∷ c) w.path ≡ true → LeadAlike (E (i ∷ c)) (F (i ∷ c))) where
  pub agrees_alike : AgreesPage L E w → AgreesPage L F w
  agrees_alike a = agrees_kept L 0 E F (Page w) a (λ i c b h. alike_kept _ _ (same i c b) h)

  at_end : (x q : List ℕ) (j : ℕ) → w.path ≡ x → x ≡ q ++ j ∷ [] → LeadAlike (E x) (F x)
  at_end [] q j p e = absurd (no_end q j e)
  at_end (i ∷ c) q j p e = same i c (ap (begins (i ∷ c)) p ∙ begins_itself (i ∷ c))

  pub stands_alike : Stands L E w → Stands L F w
  stands_alike s = let at : LeadAlike (E w.path) (F w.path) = at_end w.path s.front s.last refl s.path in let level = level_of L w.path in record {
    front = s.front;
    last = s.last;
    path = s.path;
    short = s.short;
    named = λ n. s.named (sym (at_front s.front (ap (begins s.front) s.path ∙ begins_on s.front (s.last ∷ []))) ∙ n);
    is_used = at.same_used ∙ s.is_used;
    maps = alike_maps level _ _ at ∙ s.maps;
    frame = s.frame ∙ ap (λ x. x / span level * span level) (sym at.same_address);
  }
    where
      at_front : (q : List ℕ) → begins q w.path ≡ true → leads L 0 F q ≡ leads L 0 E q
      at_front [] b = refl
      at_front (i ∷ c) b = alike_table L (i ∷ c) _ _ (same i c b)

  -- what drops it, whatever the window
  pub safe_alike : (window : Option Window) (due : List Due) → AgreesPage L E w ⊎ StalePage L window due E w → AgreesPage L F w ⊎ StalePage L window due F w
  safe_alike window due (inl a) = inl (agrees_alike a)
  safe_alike window due (inr (inl x)) = inr (inl x)
  safe_alike window due (inr (inr x)) = inr (inr (x.0, stands_alike x.1))

-- ---- the entries below shared indices

pub shared_front : (shared : ℕ → Bool) (i : ℕ) (c x : List ℕ) → begins (i ∷ c) x ≡ true → is_shared shared x ≡ true → is_shared shared (i ∷ c) ≡ true
shared_front shared i c x b h = let more = from_begins (i ∷ c) x b in sym (ap (is_shared shared) more.1) ∙ h

-- the entry at a path outside the window is the map's
pub seen_outside : (window : Option Window) (M : PathMap) (shared : ℕ → Bool) → ((q : List ℕ) → begins_with window q ≡ true → is_shared shared q ≡ false)
    → (q : List ℕ) → is_shared shared q ≡ true → entry_at window M q ≡ entry M q
seen_outside window M shared apart [] h = cc
seen_outside window M shared apart (i ∷ q) h = ⊎_elim
    (λ b. absurd (let t : true ≡ false = sym h ∙ apart (i ∷ q) b in cc))
    (λ o. entry_outside window M i q o)
    (cases_Bool (begins_with window (i ∷ q)))

module _ (shared : ℕ → Bool) where
  -- the entries of a path map below shared indices, and none elsewhere
  abbrev pub part : PathMap → List ℕ → ℕ
  part M q = cond (is_shared shared q) (entry M q) 0

  pub part_is : (M : PathMap) (q : List ℕ) → is_shared shared q ≡ true → part M q ≡ entry M q
  part_is M q h = ap (λ b. cond b (entry M q) 0) h

  part_none : (M : PathMap) (q : List ℕ) → is_shared shared q ≡ false → part M q ≡ 0
  part_none M q h = ap (λ b. cond b (entry M q) 0) h

  module _ (L root : ℕ) (M N : PathMap) (due : List Due) (pool : List ℕ) (T U : Words) (tree : IsTree L root N)
      (moves : (q : List ℕ) → is_shared shared q ≡ true → Becomes L None due pool q (entry M q) (entry N q))
      (empty : (q : List ℕ) (f : ℕ) → table_at L root M q ≡ Some f → table_at L root N q ≡ None → HasZeros U f) where
    part_below : (q : List ℕ) (i : ℕ) → length q < L → leads L root (part N) q ≡ None → part N (q ++ i ∷ []) ≡ 0
    part_below [] i l n = absurd (some_not_none root n)
    part_below (j ∷ q) i l n = ⊎_elim
        (λ h. part_is N (j ∷ q ++ i ∷ []) h ∙ tree.below (j ∷ q) i (ap (table_of L (j ∷ q)) (sym (part_is N (j ∷ q) h)) ∙ n))
        (λ h. part_none N (j ∷ q ++ i ∷ []) h) (cases_Bool (shared j))

    part_moves : (q : List ℕ) → length q ≤ L → Moves L None due pool q (part M q) (part N q)
    part_moves q l = ⊎_elim
        (λ h. subst₂ (Moves L None due pool q) (sym (part_is M q h)) (sym (part_is N q h)) (outside L None due pool q _ _ (moves q h)))
        (λ h. Stays (part_none N q h ∙ sym (part_none M q h))) (cases_Bool (is_shared shared q))

    part_empty : (q : List ℕ) (f : ℕ) → leads L root (part M) q ≡ Some f → leads L root (part N) q ≡ None → HasZeros U f
    part_empty [] f t n = absurd (some_not_none root n)
    part_empty (j ∷ q) f t n = ⊎_elim
        (λ h. empty (j ∷ q) f (ap (table_of L (j ∷ q)) (sym (part_is M (j ∷ q) h)) ∙ t) (ap (table_of L (j ∷ q)) (sym (part_is N (j ∷ q) h)) ∙ n))
        (λ h. absurd (some_not_none f (sym t ∙ ap (table_of L (j ∷ q)) (part_none M (j ∷ q) h) ∙ unused_no_table L (j ∷ q)))) (cases_Bool (shared j))

    pub part_written : (w : PartialWalk) → AgreesPage L (part M) w ⊎ StalePage L None due (part M) w → AgreesPage L (part N) w ⊎ StalePage L None due (part N) w
    part_written w x = page_written L root None (part M) (part N) due pool T U part_below part_moves part_empty w x
