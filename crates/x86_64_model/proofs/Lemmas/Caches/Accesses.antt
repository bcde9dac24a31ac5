-- An access by cached items that agree goes with the whole walk.
use Rattle.std.proofs.Common.{zero, suc, ◌≡◌, ◌≢◌, ◌+◌, ◌-◌, ℕ, ◌==◌, Bool, true, false, cond, List, [], ◌∷◌, ◌++◌, length, Some, None, Option, option_and_then, refl, sym, ap, ◌∙◌, subst, arith, append_assoc, append-nil, length-append, ne_eqb}
use Rattle.std.proofs.lemmas.Bool.{and_left, or_from}
use Rattle.std.proofs.lemmas.List.{append_cancel_left}
use Rattle.std.proofs.lemmas.Option.{same_Some}
use Rattle.x86_64_model.specs.Entry.{present, huge, address}
use Rattle.x86_64_model.specs.Memory.{Words, word}
use Rattle.x86_64_model.specs.Path.{level_of, begins}
use Rattle.x86_64_model.specs.Position.{index, page_path}
use Rattle.x86_64_model.specs.Mappings.{Rights, maps_page, granted}
use Rattle.x86_64_model.specs.PageWalk.{page_start}
use Rattle.x86_64_model.specs.Caches.{PartialWalk, over, AtMost, Cached, Table, Page, item_over, cached_item, then_on, walk_with_rights_from, walk_with_rights}
use Rattle.x86_64_model.proofs.Lemmas.Paths.Begins.{begins_on, begins_itself, from_begins, begins_more}
use Rattle.x86_64_model.proofs.Lemmas.Walks.Walked.{Reads, one_more}
use Rattle.x86_64_model.proofs.Lemmas.Walks.Fronts.{goes_on}
use Rattle.x86_64_model.proofs.Lemmas.Caches.Agrees.{front_more, Grants, granted_most, still_granted, frame_at, IsWay, AllGrant, AgreesTable, AgreesPage, way_leads, word_below}

-- ---- more rights

-- a walk goes to the same page, with these rights at least
abbrev pub Goes : PartialWalk → Option PartialWalk → Type 0
Goes w walk_with_rights = (v : PartialWalk) × (walk_with_rights ≡ Some v) × (v.path ≡ w.path) × (v.frame ≡ w.frame) × AtMost w.rights v.rights

abbrev pub with_rights : PartialWalk → Rights → PartialWalk
with_rights t r = record { path = t.path; frame = t.frame; rights = r }

-- where an entry leads, by its tests
abbrev led : PartialWalk → (i e level : ℕ) (b m h : Bool) → Option Cached
led t i e level b m h = cond b (cond m (Some (Page (over t i e (page_start level e)))) (cond h None (Some (Table (over t i e (address e)))))) None

walk_more : (L : ℕ) (T : Words) (p n : ℕ) (t : PartialWalk) (s : Rights) (w : PartialWalk) → AtMost t.rights s → walk_with_rights_from L T p n t ≡ Some w → Goes w (walk_with_rights_from L T p n (with_rights t s))
unfolding walk_with_rights_from
walk_more L T p zero t s w m is = cc
walk_more L T p (suc n) t s w m is = by (present e) (maps_page level e) (huge e) (λ m is. walk_more L T p n (over t i e (address e)) (granted s e) w m is) is
  where
    i : ℕ
    i = index (suc n) p

    e : ℕ
    e = word T t.frame i

    level : ℕ
    level = level_of L (t.path ++ i ∷ [])

    by : (b m h : Bool) → (AtMost (granted t.rights e) (granted s e) → walk_with_rights_from L T p n (over t i e (address e)) ≡ Some w → Goes w (walk_with_rights_from L T p n (over (with_rights t s) i e (address e))))
        → option_and_then (then_on (λ on. walk_with_rights_from L T p n on)) (led t i e level b m h) ≡ Some w → Goes w (option_and_then (then_on (λ on. walk_with_rights_from L T p n on)) (led (with_rights t s) i e level b m h))
    by true true h on is = let same : over t i e (page_start level e) ≡ w = same_Some _ _ is in
        (over (with_rights t s) i e (page_start level e), refl, ap (λ w. w.path) same, ap (λ w. w.frame) same, subst (λ w. AtMost w.rights (granted s e)) same (granted_most e t.rights s m))
    by true false true on is = cc
    by true false false on is = on (granted_most e t.rights s m) is
    by false m h on is = cc

-- ---- down the tables

pub led_page : (L : ℕ) (t : PartialWalk) (i e : ℕ) → present e ≡ true → maps_page (level_of L (t.path ++ i ∷ [])) e ≡ true → item_over L t i e ≡ Some (Page (over t i e (page_start (level_of L (t.path ++ i ∷ [])) e)))
led_page L t i e h m = λ k. cond (h k) (cond (m k) (Some (Page (over t i e (page_start (level_of L (t.path ++ i ∷ [])) e)))) (cond (huge e) None (Some (Table (over t i e (address e)))))) None

pub led_table : (L : ℕ) (t : PartialWalk) (i e : ℕ) → present e ≡ true → huge e ≡ false → level_of L (t.path ++ i ∷ []) ≢ 1 → item_over L t i e ≡ Some (Table (over t i e (address e)))
led_table L t i e h g n = λ k. cond (h k) (cond (maps k) (Some (Page (over t i e (page_start level e)))) (cond (g k) None (Some (Table (over t i e (address e)))))) None
  where
    level : ℕ
    level = level_of L (t.path ++ i ∷ [])

    maps : maps_page level e ≡ false
    maps = or_from (level == 1) _ (ne_eqb level 1 n) (and_left (huge e) _ g)

last_frame : (root : ℕ) (E : List ℕ → ℕ) (q : List ℕ) (i : ℕ) → address (E (q ++ i ∷ [])) ≡ frame_at root E (q ++ i ∷ [])
last_frame root E [] i = refl
last_frame root E (k ∷ q) i = refl

-- an entry on a way
module _ (L : ℕ) (E : List ℕ → ℕ) (x : List ℕ) where
  way_present : IsWay L E x → (q : List ℕ) (i : ℕ) → begins (q ++ i ∷ []) x ≡ true → present (E (q ++ i ∷ [])) ≡ true
  way_present way [] i b = way.is_present i [] b
  way_present way (k ∷ q) i b = way.is_present k (q ++ i ∷ []) b

  way_plain : IsWay L E x → (q : List ℕ) (i : ℕ) → begins (q ++ i ∷ []) x ≡ true → huge (E (q ++ i ∷ [])) ≡ false
  way_plain way [] i b = way.not_huge i [] b
  way_plain way (k ∷ q) i b = way.not_huge k (q ++ i ∷ []) b

  grants_at : (r : Rights) → AllGrant E x r → (q : List ℕ) (i : ℕ) → begins (q ++ i ∷ []) x ≡ true → Grants (E (q ++ i ∷ [])) r
  grants_at r g [] i b = g i [] b
  grants_at r g (k ∷ q) i b = g k (q ++ i ∷ []) b

way_front : (L : ℕ) (E : List ℕ → ℕ) (q s : List ℕ) → IsWay L E (q ++ s) → IsWay L E q
way_front L E q s way = let short = way.short in record {
  short = omega (arith, short, length-append q s);
  is_present = λ i c b. way.is_present i c (front_more (i ∷ c) q s b);
  not_huge = λ i c b. way.not_huge i c (front_more (i ∷ c) q s b);
}

module _ (L : ℕ) (T : Words) (root : ℕ) (E : List ℕ → ℕ) (reads : Reads L T root E) (p : ℕ) where
  -- the table at a path, with rights
  abbrev table : List ℕ → Rights → PartialWalk
  table q s = record { path = q; frame = frame_at root E q; rights = s }

  -- the walk so far
  abbrev Here : (n : ℕ) → List ℕ → Type 0
  Here n q = page_path L p ≡ q ++ page_path n p

  found_at : (q : List ℕ) (n : ℕ) (s : Rights) → IsWay L E q → Here (suc n) q → cached_item L T (table q s) (index (suc n) p) ≡ item_over L (table q s) (index (suc n) p) (E (q ++ index (suc n) p ∷ []))
  found_at q n s way here = let i = index (suc n) p in
      ap (item_over L (table q s) i) (word_below L T root E reads q (frame_at root E q) i (way_leads L root E q way))

  index_is : (q : List ℕ) (n j : ℕ) (r : List ℕ) → Here (suc n) q → begins (q ++ j ∷ r) (page_path L p) ≡ true → index (suc n) p ≡ j
  unfolding page_path
  index_is q n j r here on = let more = from_begins (q ++ j ∷ r) (page_path L p) on in
      let same : index (suc n) p ∷ page_path n p ≡ j ∷ (r ++ more.0) = append_cancel_left q _ _ (sym here ∙ more.1 ∙ append_assoc q (j ∷ r) more.0) in cc

  -- the walk from a table on the way goes through the tables further down it
  reach : (rest q x : List ℕ) → x ≡ q ++ rest → (r s : Rights) (n : ℕ) → IsWay L E x → AllGrant E x r → AtMost r s → Here n q → length q + n ≡ L → begins x (page_path L p) ≡ true
      → (s' : Rights) × AtMost r s' × (walk_with_rights_from L T p n (table q s) ≡ walk_with_rights_from L T p (L - length x) (table x s')) × Here (L - length x) x
  unfolding walk_with_rights_from
  reach [] q x e r s n way g m here l on = subst (λ x. (s' : Rights) × AtMost r s' × (walk_with_rights_from L T p n (table q s) ≡ walk_with_rights_from L T p (L - length x) (table x s')) × Here (L - length x) x) (sym (e ∙ append-nil q))
      (s, m, ap (λ n. walk_with_rights_from L T p n (table q s)) left, subst (λ n. Here n q) left here)
    where
      left : n ≡ L - length q
      left = omega (arith, l)
  reach (j ∷ rest) q x e r s zero way g m here l on = let short = way.short in absurd (omega (arith, short, l, ap length e, length-append q (j ∷ rest)))
  reach (j ∷ rest) q x e r s (suc n) way g m here l on =
      let i = index (suc n) p in
      let same : i ≡ j = index_is q n j rest here (subst (λ x. begins x (page_path L p) ≡ true) e on) in
      let further : x ≡ (q ++ i ∷ []) ++ rest = e ∙ ap (λ j. q ++ j ∷ rest) (sym same) ∙ sym (append_assoc q (i ∷ []) rest) in
      let front : begins (q ++ i ∷ []) x ≡ true = ap (begins (q ++ i ∷ [])) further ∙ begins_on (q ++ i ∷ []) rest in
      let short = way.short in
      let w : Rights = granted s (E (q ++ i ∷ [])) in
      let deep : level_of L (q ++ i ∷ []) ≢ 1 = λ h. omega (arith, h, short, l, ap length further, length-append (q ++ i ∷ []) rest, one_more q i) in
      let more = reach rest (q ++ i ∷ []) x further r w n way g (still_granted _ r s m (grants_at L E x r g q i front)) (goes_on L p n q here) (omega (arith, l, one_more q i)) on in (
        more.0,
        more.1,
        ap (option_and_then (then_on (λ on. walk_with_rights_from L T p n on)))
            (found_at q n s (way_front L E q (j ∷ rest) (subst (IsWay L E) e way)) here ∙ led_table L (table q s) i _ (way_present L E x way q i front) (way_plain L E x way q i front) deep)
            ∙ ap (λ f. walk_with_rights_from L T p n (record { path = q ++ i ∷ []; frame = f; rights = w })) (last_frame root E q i)
            ∙ more.2,
        more.3,
      )

  -- an access that goes on from a table
  pub walks_on : (t w : PartialWalk) → AgreesTable L root E t → begins t.path (page_path L p) ≡ true → walk_with_rights_from L T p (L - length t.path) t ≡ Some w → Goes w (walk_with_rights L T root p)
  walks_on t w a on is =
      let way = reach t.path [] t.path refl t.rights _ L a.way a.grants (record { write = λ h. refl; user = λ h. refl; execute = λ h. refl }) refl (omega arith) on in
      let more = walk_more L T p (L - length t.path) t way.0 w way.1 is in
      (more.0, way.2 ∙ ap (λ f. walk_with_rights_from L T p (L - length t.path) (record { path = t.path; frame = f; rights = way.0 })) (sym a.frame) ∙ more.1, more.2, more.3, more.4)

  -- an access by the TLB
  pub hits : (w : PartialWalk) → AgreesPage L E w → begins w.path (page_path L p) ≡ true → Goes w (walk_with_rights L T root p)
  unfolding walk_with_rights_from
  hits w a on =
      let q = a.front in let way = a.way in
      let on' : begins (q ++ a.last ∷ []) (page_path L p) ≡ true = subst (λ x. begins x (page_path L p) ≡ true) a.path on in
      let grants : AllGrant E (q ++ a.last ∷ []) w.rights = subst (λ x. AllGrant E x w.rights) a.path a.grants in
      let more = reach q [] q refl w.rights _ L way (λ i c b. grants i c (front_more (i ∷ c) q (a.last ∷ []) b)) (record { write = λ h. refl; user = λ h. refl; execute = λ h. refl }) refl (omega arith)
      (begins_more q (q ++ a.last ∷ []) (page_path L p) (begins_on q (a.last ∷ [])) on') in
      by (L - length q) refl more.0 more.1 more.2 more.3 on' grants
    where
      by : (n : ℕ) → L - length a.front ≡ n → (s : Rights) → AtMost w.rights s → walk_with_rights L T root p ≡ walk_with_rights_from L T p (L - length a.front) (table a.front s) → Here (L - length a.front) a.front
          → begins (a.front ++ a.last ∷ []) (page_path L p) ≡ true → AllGrant E (a.front ++ a.last ∷ []) w.rights → Goes w (walk_with_rights L T root p)
      by zero l s m is here on grants = let short = a.way.short in absurd (omega (arith, short, l))
      by (suc n) l s m is here on grants =
          let q = a.front in let i = index (suc n) p in
          let here' : Here (suc n) q = subst (λ n. Here n q) l here in
          let path : w.path ≡ q ++ i ∷ [] = a.path ∙ ap (λ j. q ++ j ∷ []) (sym (index_is q n a.last [] here' on)) in
          let e = E (q ++ i ∷ []) in let level = level_of L (q ++ i ∷ []) in (
            over (table q s) i e (page_start level e),
            is ∙ ap (λ n. walk_with_rights_from L T p n (table q s)) l
                ∙ ap (option_and_then (then_on (λ on. walk_with_rights_from L T p n on)))
                (found_at q n s a.way here' ∙ led_page L (table q s) i e (subst (λ x. present (E x) ≡ true) path a.is_present) (subst (λ x. maps_page (level_of L x) (E x) ≡ true) path a.maps)),
            sym path,
            sym (a.frame ∙ ap (λ x. page_start (level_of L x) (E x)) path),
            still_granted e w.rights s m (grants_at L E w.path w.rights a.grants q i (ap (begins (q ++ i ∷ [])) path ∙ begins_itself (q ++ i ∷ []))),
          )
