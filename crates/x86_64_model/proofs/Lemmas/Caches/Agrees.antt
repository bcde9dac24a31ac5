-- Cached items that agree with the entries at paths: what the processor finds agrees, and where an access goes the whole walk goes.
use Rattle.std.proofs.Common.{◌≡◌, ◌≢◌, ◌⊎◌, inl, inr, ⊎_elim, ◌<◌, ℕ, ◌==◌, Bool, true, false, not, cond, List, [], ◌∷◌, ◌++◌, length, Some, None, Option, IsSome, refl, sym, ap, ap₂, ◌∙◌, subst, arith, eqb-true, append_assoc}
use Rattle.std.proofs.lemmas.Bool.{and_parts, and_from, eqb-false, or_parts, not-true}
use Rattle.std.proofs.lemmas.Option.{same_Some}
use Rattle.x86_64_model.specs.Entry.{present, writable, user, huge, no_execute, address}
use Rattle.x86_64_model.specs.PathMap.{table_of}
use Rattle.x86_64_model.specs.Memory.{Words, word}
use Rattle.x86_64_model.specs.Path.{level_of, begins}
use Rattle.x86_64_model.specs.Mappings.{Rights, maps_page, granted}
use Rattle.x86_64_model.specs.PageWalk.{page_start}
use Rattle.x86_64_model.specs.Caches.{PartialWalk, start, over, AtMost, Cached, Table, Page, item_over, cached_item}
use Rattle.x86_64_model.proofs.Lemmas.Paths.Begins.{begins_on, begins_itself, from_begins}
use Rattle.x86_64_model.proofs.Lemmas.Walks.Agrees.{named}
use Rattle.x86_64_model.proofs.Lemmas.Hierarchies.Trees.{table_of_gives}
use Rattle.x86_64_model.proofs.Lemmas.Walks.Walked.{Reads, names, one_more}

-- ---- fronts

-- what one index more begins with
pub front_cases : (c q : List ℕ) (j : ℕ) → begins c (q ++ j ∷ []) ≡ true → (begins c q ≡ true) ⊎ (c ≡ q ++ j ∷ [])
front_cases [] q j h = inl refl
front_cases (i ∷ []) [] j h = inr (ap (λ k. k ∷ []) (eqb-true i j (and_parts _ _ h).0))
front_cases (i ∷ k ∷ c) [] j h = let t : false ≡ true = (and_parts (i == j) false h).1 in cc
front_cases (i ∷ c) (k ∷ q) j h = let parts = and_parts _ _ h in
    ⊎_elim (λ b. inl (and_from _ _ parts.0 b)) (λ e. inr (ap₂ (λ x y. x ∷ y) (eqb-true i k parts.0) e)) (front_cases c q j parts.1)

pub front_more : (c q s : List ℕ) → begins c q ≡ true → begins c (q ++ s) ≡ true
front_more c q s h = let more = from_begins c q h in ap (λ q. begins c (q ++ s)) more.1 ∙ ap (begins c) (append_assoc c more.0 s) ∙ begins_on c (more.0 ++ s)

-- ---- rights

-- an entry grants these rights
pub record Grants (e : ℕ) (r : Rights) : Type 0 where
  pub write : r.write ≡ true → writable e ≡ true
  pub user : r.user ≡ true → user e ≡ true
  pub execute : r.execute ≡ true → no_execute e ≡ false

pub grants_fewer : (e : ℕ) (r s : Rights) → AtMost r s → Grants e s → Grants e r
grants_fewer e r s m g = record { write = λ h. g.write (m.write h); user = λ h. g.user (m.user h); execute = λ h. g.execute (m.execute h) }

pub granted_fewer : (r : Rights) (e : ℕ) → AtMost (granted r e) r
granted_fewer r e = record { write = λ h. (and_parts _ _ h).0; user = λ h. (and_parts _ _ h).0; execute = λ h. (and_parts _ _ h).0 }

pub granted_grants : (r : Rights) (e : ℕ) → Grants e (granted r e)
granted_grants r e = record { write = λ h. (and_parts _ _ h).1; user = λ h. (and_parts _ _ h).1; execute = λ h. not-true _ (and_parts _ _ h).1 }

pub granted_most : (e : ℕ) (r s : Rights) → AtMost r s → AtMost (granted r e) (granted s e)
granted_most e r s m = record {
  write = λ h. let parts = and_parts _ _ h in and_from _ _ (m.write parts.0) parts.1;
  user = λ h. let parts = and_parts _ _ h in and_from _ _ (m.user parts.0) parts.1;
  execute = λ h. let parts = and_parts _ _ h in and_from _ _ (m.execute parts.0) parts.1;
}

-- rights that an entry grants stay
pub still_granted : (e : ℕ) (r s : Rights) → AtMost r s → Grants e r → AtMost r (granted s e)
still_granted e r s m g = record {
  write = λ h. and_from _ _ (m.write h) (g.write h);
  user = λ h. and_from _ _ (m.user h) (g.user h);
  execute = λ h. and_from _ _ (m.execute h) (ap not (g.execute h));
}

-- ---- items that agree

abbrev pub frame_at : (root : ℕ) → (List ℕ → ℕ) → List ℕ → ℕ
frame_at root E [] = root
frame_at root E (i ∷ q) = address (E (i ∷ q))

-- the table to which the entry at a path leads
abbrev pub leads : (L root : ℕ) → (List ℕ → ℕ) → List ℕ → Option ℕ
leads L root E [] = Some root
leads L root E (i ∷ q) = table_of L (i ∷ q) (E (i ∷ q))

-- every entry on the path is a present table entry
pub record IsWay (L : ℕ) (E : List ℕ → ℕ) (q : List ℕ) : Type 0 where
  pub short : length q < L
  pub is_present : (i : ℕ) (c : List ℕ) → begins (i ∷ c) q ≡ true → present (E (i ∷ c)) ≡ true
  pub not_huge : (i : ℕ) (c : List ℕ) → begins (i ∷ c) q ≡ true → huge (E (i ∷ c)) ≡ false

-- every entry on the path grants these rights
abbrev pub AllGrant : (List ℕ → ℕ) → List ℕ → Rights → Type 0
AllGrant E q r = (i : ℕ) (c : List ℕ) → begins (i ∷ c) q ≡ true → Grants (E (i ∷ c)) r

-- the table is where the map's present entries lead, and they grant its rights
pub record AgreesTable (L root : ℕ) (E : List ℕ → ℕ) (t : PartialWalk) : Type 0 where
  pub way : IsWay L E t.path
  pub frame : t.frame ≡ frame_at root E t.path
  pub grants : AllGrant E t.path t.rights

-- the page is the one that the last entry maps, a present one, below present table entries, and all grant its rights
pub record AgreesPage (L : ℕ) (E : List ℕ → ℕ) (w : PartialWalk) : Type 0 where
  pub front : List ℕ
  pub last : ℕ
  pub path : w.path ≡ front ++ last ∷ []
  pub way : IsWay L E front
  pub is_present : present (E w.path) ≡ true
  pub maps : maps_page (level_of L w.path) (E w.path) ≡ true
  pub frame : w.frame ≡ page_start (level_of L w.path) (E w.path)
  pub grants : AllGrant E w.path w.rights

abbrev pub Agrees : (L root : ℕ) → (List ℕ → ℕ) → Cached → Type 0
Agrees L root E (Table t) = AgreesTable L root E t
Agrees L root E (Page w) = AgreesPage L E w

pub start_agrees : (L root : ℕ) (E : List ℕ → ℕ) → 0 < L → AgreesTable L root E (start root)
start_agrees L root E l = record {
  way = record { short = l; is_present = λ i c h. cc; not_huge = λ i c h. cc };
  frame = refl;
  grants = λ i c h. cc;
}

-- ---- what is found agrees

-- by the word, which is the entry
pub led_cases : (L : ℕ) (t : PartialWalk) (i e : ℕ) (c : Cached) (P : Cached → Type 0)
    → (present e ≡ true → maps_page (level_of L (t.path ++ i ∷ [])) e ≡ true → P (Page (over t i e (page_start (level_of L (t.path ++ i ∷ [])) e))))
    → (present e ≡ true → maps_page (level_of L (t.path ++ i ∷ [])) e ≡ false → huge e ≡ false → P (Table (over t i e (address e))))
    → item_over L t i e ≡ Some c → P c
led_cases L t i e c P page table is = by (present e) (maps_page (level_of L (t.path ++ i ∷ [])) e) (huge e) page table is
  where
    by : (b m h : Bool) → (b ≡ true → m ≡ true → P (Page (over t i e (page_start (level_of L (t.path ++ i ∷ [])) e)))) → (b ≡ true → m ≡ false → h ≡ false → P (Table (over t i e (address e))))
        → cond b (cond m (Some (Page (over t i e (page_start (level_of L (t.path ++ i ∷ [])) e)))) (cond h None (Some (Table (over t i e (address e)))))) None ≡ Some c → P c
    by true true h page table is = subst P (same_Some _ _ is) (page refl refl)
    by true false true page table is = cc
    by true false false page table is = subst P (same_Some _ _ is) (table refl refl refl)
    by false m h page table is = cc

pub not_level_one : (level e : ℕ) → maps_page level e ≡ false → level ≢ 1
not_level_one level e h = eqb-false level 1 (or_parts _ _ h).0

module _ (L : ℕ) (E : List ℕ → ℕ) (q : List ℕ) (j : ℕ) where
  -- one present table entry more
  pub way_over : IsWay L E q → present (E (q ++ j ∷ [])) ≡ true → huge (E (q ++ j ∷ [])) ≡ false → length (q ++ j ∷ []) < L → IsWay L E (q ++ j ∷ [])
  way_over way h g l = record {
    short = l;
    is_present = λ i c b. ⊎_elim (λ b. way.is_present i c b) (λ e. ap (λ c. present (E c)) e ∙ h) (front_cases (i ∷ c) q j b);
    not_huge = λ i c b. ⊎_elim (λ b. way.not_huge i c b) (λ e. ap (λ c. huge (E c)) e ∙ g) (front_cases (i ∷ c) q j b);
  }

  pub grants_over : (r : Rights) → AllGrant E q r → AllGrant E (q ++ j ∷ []) (granted r (E (q ++ j ∷ [])))
  grants_over r g i c b = ⊎_elim
      (λ b. grants_fewer _ _ r (granted_fewer r _) (g i c b))
      (λ e. subst (λ c. Grants (E c) (granted r (E (q ++ j ∷ [])))) (sym e) (granted_grants r _)) (front_cases (i ∷ c) q j b)

pub found_agrees : (L root : ℕ) (E : List ℕ → ℕ) (t : PartialWalk) (i : ℕ) (c : Cached) → AgreesTable L root E t → item_over L t i (E (t.path ++ i ∷ [])) ≡ Some c → Agrees L root E c
found_agrees L root E t i c a is = let e = E (t.path ++ i ∷ []) in led_cases L t i e c (Agrees L root E)
    (λ h m. record { front = t.path; last = i; path = refl; way = a.way; is_present = h; maps = m; frame = refl; grants = grants_over L E t.path i t.rights a.grants })
    (λ h m g. let not_one = not_level_one _ e m in let short = a.way.short in
    let l : length (t.path ++ i ∷ []) < L = omega (arith, one_more t.path i) in record {
      way = way_over L E t.path i a.way h g l;
      frame = last_frame t.path;
      grants = grants_over L E t.path i t.rights a.grants;
    }) is
  where
    last_frame : (q : List ℕ) → address (E (q ++ i ∷ [])) ≡ frame_at root E (q ++ i ∷ [])
    last_frame [] = refl
    last_frame (k ∷ q) = refl

-- ---- the words of tables

-- the table that a way leads to
pub way_leads : (L root : ℕ) (E : List ℕ → ℕ) (q : List ℕ) → IsWay L E q → leads L root E q ≡ Some (frame_at root E q)
way_leads L root E [] way = refl
way_leads L root E (i ∷ q) way = named L (i ∷ q) _ (names _ (way.is_present i q (begins_itself (i ∷ q))) (way.not_huge i q (begins_itself (i ∷ q)))) way.short

pub agrees_leads : (L root : ℕ) (E : List ℕ → ℕ) (t : PartialWalk) → AgreesTable L root E t → leads L root E t.path ≡ Some t.frame
agrees_leads L root E t a = way_leads L root E t.path a.way ∙ ap Some (sym a.frame)

module _ (L : ℕ) (T : Words) (root : ℕ) (E : List ℕ → ℕ) (r : Reads L T root E) where
  -- the word at an index of a table is the entry
  pub word_below : (q : List ℕ) (f i : ℕ) → leads L root E q ≡ Some f → word T f i ≡ E (q ++ i ∷ [])
  word_below [] f i t = ap (λ f. word T f i) (same_Some _ _ (sym t)) ∙ sym (r.first i)
  word_below (j ∷ q) f i t = let n = table_of_gives L (j ∷ q) _ f t in ap (λ f. word T f i) (sym n.at) ∙ sym (r.next (j ∷ q) i n.is_table n.high)

  -- a table that a path leads to is in the memory
  pub table_there : (q : List ℕ) (f : ℕ) → leads L root E q ≡ Some f → IsSome (T f)
  table_there [] f t = subst (λ f. IsSome (T f)) (same_Some _ _ t) r.root_there
  table_there (j ∷ q) f t = let n = table_of_gives L (j ∷ q) _ f t in subst (λ f. IsSome (T f)) n.at (r.there (j ∷ q) n.is_table n.high)

  pub found_is : (t : PartialWalk) (i : ℕ) → leads L root E t.path ≡ Some t.frame → cached_item L T t i ≡ item_over L t i (E (t.path ++ i ∷ []))
  found_is t i l = ap (item_over L t i) (word_below t.path t.frame i l)

  -- what is found at a table that agrees, agrees
  pub finds : (t : PartialWalk) (i : ℕ) (c : Cached) → AgreesTable L root E t → cached_item L T t i ≡ Some c → Agrees L root E c
  finds t i c a is = found_agrees L root E t i c a (sym (found_is t i (agrees_leads L root E t a)) ∙ is)
