-- Items one by one: each agrees with the entries that the processor reads, or what is due drops it.
use Rattle.std.proofs.Common.{zero, suc, ◌≡◌, ◌⊎◌, inl, inr, ⊎_elim, ◌<◌, ◌≤◌, ◌-◌, ◌*◌, ◌/◌, ℕ, true, List, [], ◌∷◌, ◌++◌, length, Some, None, Option, option_and_then, refl, sym, ap, ◌∙◌, subst, arith}
use Rattle.std.proofs.lemmas.Bool.{cond-false}
use Rattle.std.proofs.lemmas.Option.{same_Some}
use Rattle.x86_64_model.specs.Entry.{present, address, names_table}
use Rattle.x86_64_model.specs.Lists.{In}
use Rattle.x86_64_model.specs.Memory.{Words, word}
use Rattle.x86_64_model.specs.Path.{level_of, begins}
use Rattle.x86_64_model.specs.Position.{index, span, page_path}
use Rattle.x86_64_model.specs.PageWalk.{page_start}
use Rattle.x86_64_model.specs.Window.{Window}
use Rattle.x86_64_model.specs.Caches.{PartialWalk, Cached, Table, Page, way_of, cached_item, item_over, then_on, walk_with_rights_from, walk_with_rights}
use Rattle.x86_64_model.specs.Flushing.{Due, PageDue, WindowDue, HasZeros, IsUnflushed, IsEmptied, StayEmpty, loosens}
use Rattle.x86_64_model.specs.Laws.Caches.{WalksThere}
use Rattle.x86_64_model.proofs.Lemmas.Entries.Bits.{zero_absent, used_present, address_address}
use Rattle.x86_64_model.proofs.Lemmas.Hierarchies.Trees.{table_of_gives, some_not_none}
use Rattle.x86_64_model.proofs.Lemmas.Paths.Begins.{begins_on, begins_more}
use Rattle.x86_64_model.proofs.Lemmas.Walks.Agrees.{named}
use Rattle.x86_64_model.proofs.Lemmas.Walks.Walked.{Reads, names, one_more}
use Rattle.x86_64_model.proofs.Lemmas.Caches.Agrees.{AgreesPage, Agrees, leads, agrees_leads, led_cases, not_level_one, found_is, finds}
use Rattle.x86_64_model.proofs.Lemmas.Caches.Accesses.{walks_on, hits}
use Rattle.x86_64_model.proofs.Lemmas.Caches.Kept.{PageDrops, LooseAt, loose_more, loose_or_not, Stands, agrees_stands, leads_any}
use Rattle.x86_64_model.proofs.Lemmas.Caches.Moved.{Moves, leads_or_freed, table_moves, page_moves, stands_moves}

-- a page that what is due drops: it was in a frame that is due, or its entry leads there and all items on its path are due
abbrev pub StalePage : (L : ℕ) → Option Window → List Due → (List ℕ → ℕ) → PartialWalk → Type 0
StalePage L window due E w = ((f : ℕ) × PageDrops window due w.path f × (w.frame ≡ page_start (level_of L w.path) f)) ⊎ (LooseAt window due w.path × Stands L E w)

-- a table that what is due drops: it is free and has only words 0, or it is one of the hierarchy, and all items on its path are due
abbrev pub StaleTable : (L root : ℕ) → Option Window → List Due → (pool : List ℕ) → Words → (List ℕ → ℕ) → PartialWalk → Type 0
StaleTable L root window due pool T E t = IsEmptied due pool T t.frame ⊎ (LooseAt window due t.path × (leads L root E t.path ≡ Some t.frame))

abbrev pub Stale : (L root : ℕ) → Option Window → List Due → (pool : List ℕ) → Words → (List ℕ → ℕ) → Cached → Type 0
Stale L root window due pool T E (Table t) = StaleTable L root window due pool T E t
Stale L root window due pool T E (Page w) = StalePage L window due E w

abbrev pub Safe : (L root : ℕ) → Option Window → List Due → (pool : List ℕ) → Words → (List ℕ → ℕ) → Cached → Type 0
Safe L root window due pool T E c = Agrees L root E c ⊎ Stale L root window due pool T E c

-- ---- what is due changes

-- all that drops the item stays due
pub record StaysDue (window : Option Window) (due new : List Due) (pool rest : List ℕ) (c : Cached) : Type 0 where
  pub pages : (w : PartialWalk) → c ≡ Page w → (f : ℕ) → In due (PageDue w.path f) → In new (PageDue w.path f)
  pub tables : (t : PartialWalk) → c ≡ Table t → IsUnflushed due t.frame → IsUnflushed new t.frame × (In pool t.frame → In rest t.frame)
  pub loose : (d : Due) → In due d → loosens window d (way_of c).path ≡ true → In new d

pub item_stays : (L root : ℕ) (window : Option Window) (due new : List Due) (pool rest : List ℕ) (T : Words) (E : List ℕ → ℕ) (c : Cached)
    → StaysDue window due new pool rest c → Safe L root window due pool T E c → Safe L root window new rest T E c
item_stays L root window due new pool rest T E c stays (inl a) = inl a
item_stays L root window due new pool rest T E (Table t) stays (inr (inl x)) = let s = stays.tables t refl x.0 in inr (inl (s.0, s.1 x.1, x.2))
item_stays L root window due new pool rest T E (Table t) stays (inr (inr x)) = inr (inr ((x.0.0, stays.loose x.0.0 x.0.1 x.0.2, x.0.2), x.1))
item_stays L root window due new pool rest T E (Page w) stays (inr (inl (f, inl d, e))) = inr (inl (f, inl (stays.pages w refl f d), e))
item_stays L root window due new pool rest T E (Page w) stays (inr (inl (f, inr d, e))) = inr (inl (f, inr (stays.loose WindowDue d.0 d.1, d.1), e))
item_stays L root window due new pool rest T E (Page w) stays (inr (inr x)) = inr (inr ((x.0.0, stays.loose x.0.0 x.0.1 x.0.2, x.0.2), x.1))

-- ---- words change

module _ (L root : ℕ) (window : Option Window) (E F : List ℕ → ℕ) (due : List Due) (pool : List ℕ) (T U : Words)
    (below : (q : List ℕ) (i : ℕ) → length q < L → leads L root F q ≡ None → F (q ++ i ∷ []) ≡ 0)
    (moves : (q : List ℕ) → length q ≤ L → Moves L window due pool q (E q) (F q))
    (empty : (q : List ℕ) (f : ℕ) → leads L root E q ≡ Some f → leads L root F q ≡ None → HasZeros U f) where
  there : (t : PartialWalk) → leads L root E t.path ≡ Some t.frame → (leads L root F t.path ≡ Some t.frame) ⊎ IsEmptied due pool U t.frame
  there t l = leads_or_freed L root window E F due pool U below moves empty t.path t.frame l

  drops : (w : PartialWalk) → w.frame ≡ page_start (level_of L w.path) (E w.path) → PageDrops window due w.path (address (E w.path)) → StalePage L window due F w
  drops w e d = let level = level_of L w.path in inl (address (E w.path), d, e ∙ ap (λ a. a / span level * span level) (sym (address_address (E w.path))))

  pub table_written : StayEmpty due pool T U → (t : PartialWalk) → Safe L root window due pool T E (Table t) → Safe L root window due pool U F (Table t)
  table_written keeps t (inl a) = ⊎_elim
      (λ l. ⊎_elim (λ loose. inr (inr (loose, l))) (λ none. inl (table_moves L root window E F due pool U below moves empty t none a l)) (loose_or_not window due t.path))
      (λ x. inr (inl x)) (there t (agrees_leads L root E t a))
  table_written keeps t (inr (inl x)) = inr (inl (x.0, x.1, keeps t.frame x.0 x.1 x.2))
  table_written keeps t (inr (inr x)) = ⊎_elim (λ l. inr (inr (x.0, l))) (λ y. inr (inl y)) (there t x.1)

  pub page_written : (w : PartialWalk) → AgreesPage L E w ⊎ StalePage L window due E w → AgreesPage L F w ⊎ StalePage L window due F w
  page_written w (inl a) = ⊎_elim
      (λ loose. inr (⊎_elim (λ s. inr (loose, s)) (λ d. drops w a.frame d) (stands_moves L root window E F due pool U below moves empty w loose (agrees_stands L E w a))))
      (λ none. ⊎_elim (λ b. inl b) (λ d. inr (drops w a.frame d)) (page_moves L root window E F due pool U below moves empty w none a))
      (loose_or_not window due w.path)
  page_written w (inr (inl x)) = inr (inl x)
  page_written w (inr (inr x)) = inr (⊎_elim (λ s. inr (x.0, s)) (λ d. drops w x.1.frame d) (stands_moves L root window E F due pool U below moves empty w x.0 x.1))

  pub item_written : StayEmpty due pool T U → (c : Cached) → Safe L root window due pool T E c → Safe L root window due pool U F c
  item_written keeps (Table t) x = table_written keeps t x
  item_written keeps (Page w) x = page_written w x

-- ---- what the processor finds

-- a word 0 leads nowhere
pub none_found : (L : ℕ) (T : Words) (t : PartialWalk) (i : ℕ) → word T t.frame i ≡ 0 → cached_item L T t i ≡ None
none_found L T t i z = ap (item_over L t i) z ∙ cond-false (present 0) _ None zero_absent

-- a table of the hierarchy, or a page whose entry, a present one, leads there
abbrev pub IsThere : (L root : ℕ) → (List ℕ → ℕ) → Cached → Type 0
IsThere L root E (Table t) = leads L root E t.path ≡ Some t.frame
IsThere L root E (Page w) = Stands L E w × (present (E w.path) ≡ true)

module _ (L root : ℕ) (T : Words) (E : List ℕ → ℕ) (r : Reads L T root E) (levels : 0 < L) where
  -- what is found at a table of the hierarchy
  pub finds_there : (t : PartialWalk) (i : ℕ) (c : Cached) → leads L root E t.path ≡ Some t.frame → cached_item L T t i ≡ Some c → IsThere L root E c × (begins t.path (way_of c).path ≡ true)
  finds_there t i c there is = let e = E (t.path ++ i ∷ []) in led_cases L t i e c (λ c. IsThere L root E c × (begins t.path (way_of c).path ≡ true))
      (λ h m. (
        (
          record {
            front = t.path;
            last = i;
            path = refl;
            short = table_short t.path there;
            named = λ n. some_not_none t.frame (sym there ∙ leads_any L 0 root E t.path n);
            is_used = used_present e h;
            maps = m;
            frame = refl;
          },
          h,
        ),
        begins_on t.path (i ∷ []),
      ))
      (λ h m g. let not_one = not_level_one _ e m in let short = table_short t.path there in
      let l : length (t.path ++ i ∷ []) < L = omega (arith, one_more t.path i) in (leads_over t.path (names e h g) l, begins_on t.path (i ∷ [])))
      (sym (found_is L T root E r t i there) ∙ is)
    where
      table_short : (q : List ℕ) → leads L root E q ≡ Some t.frame → length q < L
      table_short [] h = levels
      table_short (j ∷ q) h = (table_of_gives L (j ∷ q) _ t.frame h).high

      leads_over : (q : List ℕ) → names_table (E (q ++ i ∷ [])) ≡ true → length (q ++ i ∷ []) < L → leads L root E (q ++ i ∷ []) ≡ Some (address (E (q ++ i ∷ [])))
      leads_over [] n l = named L (i ∷ []) _ n l
      leads_over (j ∷ q) n l = named L (j ∷ q ++ i ∷ []) _ n l

  -- where a walk goes from a table of the hierarchy
  pub walk_stands : (p n : ℕ) (t w : PartialWalk) → leads L root E t.path ≡ Some t.frame → walk_with_rights_from L T p n t ≡ Some w → IsThere L root E (Page w) × (begins t.path w.path ≡ true)
  unfolding walk_with_rights_from
  walk_stands p zero t w there is = cc
  walk_stands p (suc n) t w there is = by (λ u l go. walk_stands p n u w l go) (cached_item L T t (index (suc n) p)) refl is
    where
      by : ((u : PartialWalk) → leads L root E u.path ≡ Some u.frame → walk_with_rights_from L T p n u ≡ Some w → IsThere L root E (Page w) × (begins u.path w.path ≡ true))
          → (o : Option Cached) → cached_item L T t (index (suc n) p) ≡ o → option_and_then (then_on (λ on. walk_with_rights_from L T p n on)) o ≡ Some w → IsThere L root E (Page w) × (begins t.path w.path ≡ true)
      by go None e is = cc
      by go (Some (Page v)) e is = let x = finds_there t (index (suc n) p) (Page v) there e in
          (subst (λ v. IsThere L root E (Page v)) (same_Some _ _ is) x.0, subst (λ v. begins t.path v.path ≡ true) (same_Some _ _ is) x.1)
      by go (Some (Table u)) e is = let x = finds_there t (index (suc n) p) (Table u) there e in let y = go u x.0 is in
          (y.0, begins_more t.path u.path w.path x.1 y.1)

  -- a walk from a table with only words 0 leads nowhere
  pub nowhere : (p n : ℕ) (t : PartialWalk) → HasZeros T t.frame → walk_with_rights_from L T p n t ≡ None
  unfolding walk_with_rights_from
  nowhere p zero t z = refl
  nowhere p (suc n) t z = ap (option_and_then (then_on (λ on. walk_with_rights_from L T p n on))) (none_found L T t (index (suc n) p) (z (index (suc n) p)))

  module _ (window : Option Window) (due : List Due) (pool : List ℕ) where
    pub item_found : (t : PartialWalk) (i : ℕ) (c : Cached) → Safe L root window due pool T E (Table t) → cached_item L T t i ≡ Some c → Safe L root window due pool T E c
    item_found t i c (inl a) is = inl (finds L T root E r t i c a is)
    item_found t i c (inr (inl x)) is = absurd (let n : None ≡ Some c = sym (none_found L T t i (x.2 i)) ∙ is in cc)
    item_found t i c (inr (inr x)) is = let f = finds_there t i c x.1 is in by c f.0 (loose_more window due t.path (way_of c).path f.1 x.0)
      where
        by : (c : Cached) → IsThere L root E c → LooseAt window due (way_of c).path → Safe L root window due pool T E c
        by (Table u) there loose = inr (inr (loose, there))
        by (Page w) there loose = inr (inr (loose, there.0))

    -- where an access goes: with the whole walk, or to a page that what is due drops
    abbrev pub Access : (p : ℕ) → PartialWalk → Type 0
    Access p w = WalksThere (walk_with_rights L T root p) w ⊎ StalePage L window due E w

    pub hit_goes : (p : ℕ) (w : PartialWalk) → Safe L root window due pool T E (Page w) → begins w.path (page_path L p) ≡ true → Access p w
    hit_goes p w (inl a) on = inl (hits L T root E r p w a on)
    hit_goes p w (inr x) on = inr x

    pub walk_goes : (p : ℕ) (t w : PartialWalk) → Safe L root window due pool T E (Table t) → begins t.path (page_path L p) ≡ true → walk_with_rights_from L T p (L - length t.path) t ≡ Some w → Access p w
    walk_goes p t w (inl a) on is = inl (walks_on L T root E r p t w a on is)
    walk_goes p t w (inr (inl x)) on is = absurd (let n : None ≡ Some w = sym (nowhere p (L - length t.path) t x.2) ∙ is in cc)
    walk_goes p t w (inr (inr x)) on is = let s = walk_stands p (L - length t.path) t w x.1 is in inr (inr (loose_more window due t.path w.path s.1 x.0, s.0.0))
