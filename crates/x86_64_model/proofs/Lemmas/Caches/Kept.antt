-- Cached items that agree with the entries at paths agree with the next ones, if those on their paths are kept.
use Rattle.std.proofs.Common.{◌≡◌, ◌⊎◌, inl, inr, ⊎_elim, ◌<◌, ◌*◌, ◌/◌, ℕ, ◌==◌, ◌&&◌, ◌||◌, true, false, not, cond, List, [], ◌∷◌, ◌++◌, length, nat_lt, Some, None, Option, refl, sym, ap, ◌∙◌, subst, arith, eqb-true}
use Rattle.std.proofs.lemmas.Bool.{and_parts, or_cases, false_from_ne_true, cases_Bool}
use Rattle.x86_64_model.specs.Entry.{IsParentFlags, used, present, huge, no_execute, address}
use Rattle.x86_64_model.specs.Lists.{In}
use Rattle.x86_64_model.specs.PathMap.{table_of}
use Rattle.x86_64_model.specs.Path.{level_of, begins}
use Rattle.x86_64_model.specs.PageWalk.{page_start}
use Rattle.x86_64_model.specs.Position.{span}
use Rattle.x86_64_model.specs.Window.{Window, begins_with}
use Rattle.x86_64_model.specs.Mappings.{Rights, maps_page}
use Rattle.x86_64_model.specs.Caches.{PartialWalk, Cached, Table, Page, way_of}
use Rattle.x86_64_model.specs.Flushing.{Due, PageDue, TablesDue, WindowDue, BelowDue, loosens}
use Rattle.x86_64_model.proofs.Lemmas.Entries.Bits.{used_present}
use Rattle.x86_64_model.proofs.Lemmas.Paths.Puts.{no_end}
use Rattle.x86_64_model.proofs.Lemmas.Paths.Begins.{begins_itself, from_begins, begins_more}
use Rattle.x86_64_model.proofs.Lemmas.Maps.Flags.{Grown, same_after}
use Rattle.x86_64_model.proofs.Lemmas.Hierarchies.Trees.{table_of_gives, plain_table, some_not_none}
use Rattle.x86_64_model.proofs.Lemmas.Caches.Agrees.{front_cases, front_more, Grants, frame_at, IsWay, AgreesPage, Agrees, leads, way_leads}

-- an entry leads where it led, with no right lost
pub record Kept (e f : ℕ) : Type 0 where
  pub is_present : present f ≡ true
  pub same_huge : huge f ≡ huge e
  pub same_address : address f ≡ address e
  pub grants : (r : Rights) → Grants e r → Grants f r

pub kept_same : (e f : ℕ) → present e ≡ true → f ≡ e → Kept e f
kept_same e f h is = subst (Kept e) (sym is) (record { is_present = h; same_huge = refl; same_address = refl; grants = λ r g. g })

-- parent flags that don't have NO_EXECUTE take no right
pub kept_grown : (more e f : ℕ) → IsParentFlags more → no_execute more ≡ false → present e ≡ true → Grown more e f → Kept e f
kept_grown more e f marks x h grown = let s = same_after more e f marks h grown in record {
  is_present = s.is_present;
  same_huge = s.same_huge;
  same_address = s.same_address;
  grants = λ r g. record {
    write = λ w. s.still 0x2 (g.write w);
    user = λ u. s.still 0x4 (g.user u);
    execute = λ y. false_from_ne_true _ (λ z. ⊎_elim (λ a. let t : true ≡ false = sym a ∙ g.execute y in cc) (λ b. let t : true ≡ false = sym b ∙ x in cc) (s.gained 63 z));
  };
}

-- an entry leads where it led, present or not
pub record SameTarget (e f : ℕ) : Type 0 where
  pub was_used : used e ≡ true
  pub is_used : used f ≡ true
  pub same_huge : huge f ≡ huge e
  pub same_address : address f ≡ address e

pub target_table : (L : ℕ) (q : List ℕ) (e f : ℕ) → SameTarget e f → table_of L q f ≡ table_of L q e
unfolding table_of
target_table L q e f same = let u = same.is_used ∙ sym same.was_used in
    λ i. cond (u i && not (same.same_huge i) && nat_lt (length q) L) (Some (same.same_address i)) None

-- what is due drops the page at a path, which was in this frame: it is due, or it lies in the window, which is due
abbrev pub PageDrops : Option Window → List Due → List ℕ → ℕ → Type 0
PageDrops window due q f = In due (PageDue q f) ⊎ (In due WindowDue × (begins_with window q ≡ true))

-- ---- items with more rights than their entries

-- where a path that lies in the window begins, so does what begins with it
pub window_front : (window : Option Window) (q p : List ℕ) → begins q p ≡ true → begins_with window q ≡ true → begins_with window p ≡ true
window_front None q p b h = cc
window_front (Some w) [] p b h = cc
window_front (Some w) (i ∷ q) p b h = let more = from_begins (i ∷ q) p b in ap (begins_with (Some w)) more.1 ∙ h

-- something due drops all items on a path
abbrev pub LooseAt : Option Window → List Due → List ℕ → Type 0
LooseAt window due x = (d : Due) × In due d × (loosens window d x ≡ true)

pub loosens_more : (window : Option Window) (d : Due) (q x : List ℕ) → begins q x ≡ true → loosens window d q ≡ true → loosens window d x ≡ true
loosens_more window (PageDue r f) q x b h = cc
loosens_more window (TablesDue freed) q x b h = cc
loosens_more window WindowDue q x b h = window_front window q x b h
loosens_more window (BelowDue r) q x b h = begins_more r q x h b

pub loose_more : (window : Option Window) (due : List Due) (q x : List ℕ) → begins q x ≡ true → LooseAt window due q → LooseAt window due x
loose_more window due q x b l = (l.0, l.1, loosens_more window l.0 q x b l.2)

pub loose_or_not : (window : Option Window) (due : List Due) (x : List ℕ) → LooseAt window due x ⊎ (LooseAt window due x → ⊥)
loose_or_not window [] x = inr (λ l. l.1)
loose_or_not window (d ∷ due) x = ⊎_elim
    (λ h. inl (d, inl refl, h))
    (λ n. ⊎_elim
    (λ l. inl (l.0, inr l.1, l.2))
    (λ none. inr (λ l. ⊎_elim
    (λ e. let t : true ≡ false = sym l.2 ∙ ap (λ d. loosens window d x) (sym e) ∙ n in cc)
    (λ i. none (l.0, i, l.2)) l.1))
    (loose_or_not window due x))
    (cases_Bool (loosens window d x))

-- ---- items

module _ (L root : ℕ) (E F : List ℕ → ℕ) where
  abbrev pub KeptOn : List ℕ → Type 0
  KeptOn x = (i : ℕ) (c : List ℕ) → begins (i ∷ c) x ≡ true → present (E (i ∷ c)) ≡ true → Kept (E (i ∷ c)) (F (i ∷ c))

  way_kept : (x : List ℕ) → IsWay L E x → KeptOn x → IsWay L F x
  way_kept x way k = record {
    short = way.short;
    is_present = λ i c b. (k i c b (way.is_present i c b)).is_present;
    not_huge = λ i c b. (k i c b (way.is_present i c b)).same_huge ∙ way.not_huge i c b;
  }

  frame_kept : (x : List ℕ) → IsWay L E x → KeptOn x → frame_at root F x ≡ frame_at root E x
  frame_kept [] way k = refl
  frame_kept (i ∷ q) way k = (k i q (begins_itself (i ∷ q)) (way.is_present i q (begins_itself (i ∷ q)))).same_address

  kept_at : (x q : List ℕ) (j : ℕ) → x ≡ q ++ j ∷ [] → KeptOn x → present (E x) ≡ true → Kept (E x) (F x)
  kept_at [] q j e k h = absurd (no_end q j e)
  kept_at (i ∷ c) q j e k h = k i c (begins_itself (i ∷ c)) h

  -- the entries on a page's path are present
  page_present : (w : PartialWalk) → AgreesPage L E w → (i : ℕ) (c : List ℕ) → begins (i ∷ c) w.path ≡ true → present (E (i ∷ c)) ≡ true
  page_present w a i c b = ⊎_elim (λ b. a.way.is_present i c b) (λ e. ap (λ c. present (E c)) (e ∙ sym a.path) ∙ a.is_present)
      (front_cases (i ∷ c) a.front a.last (ap (begins (i ∷ c)) (sym a.path) ∙ b))

  pub agrees_kept : (c : Cached) → Agrees L root E c → KeptOn (way_of c).path → Agrees L root F c
  agrees_kept (Table t) a k = record {
    way = way_kept t.path a.way k;
    frame = a.frame ∙ sym (frame_kept t.path a.way k);
    grants = λ i c b. (k i c b (a.way.is_present i c b)).grants t.rights (a.grants i c b);
  }
  agrees_kept (Page w) a k = let level = level_of L w.path in let here = kept_at w.path a.front a.last a.path k a.is_present in record {
    front = a.front;
    last = a.last;
    path = a.path;
    way = way_kept a.front a.way (λ i c b. k i c (ap (begins (i ∷ c)) a.path ∙ front_more (i ∷ c) a.front (a.last ∷ []) b));
    is_present = here.is_present;
    maps = ap (λ h. (level == 1) || (h && ((level == 2) || (level == 3)))) here.same_huge ∙ a.maps;
    frame = a.frame ∙ ap (λ x. x / span level * span level) (sym here.same_address);
    grants = λ i c b. (k i c b (page_present w a i c b)).grants w.rights (a.grants i c b);
  }

-- ---- pages whose entries lead there, with whatever rights

-- the entry at the page's path maps it, present or not, below an entry that names a table
pub record Stands (L : ℕ) (E : List ℕ → ℕ) (w : PartialWalk) : Type 0 where
  pub front : List ℕ
  pub last : ℕ
  pub path : w.path ≡ front ++ last ∷ []
  pub short : length front < L
  pub named : leads L 0 E front ≡ None → ⊥
  pub is_used : used (E w.path) ≡ true
  pub maps : maps_page (level_of L w.path) (E w.path) ≡ true
  pub frame : w.frame ≡ page_start (level_of L w.path) (E w.path)

pub agrees_stands : (L : ℕ) (E : List ℕ → ℕ) (w : PartialWalk) → AgreesPage L E w → Stands L E w
agrees_stands L E w a = record {
  front = a.front;
  last = a.last;
  path = a.path;
  short = a.way.short;
  named = λ n. some_not_none _ (sym (way_leads L 0 E a.front a.way) ∙ n);
  is_used = used_present _ a.is_present;
  maps = a.maps;
  frame = a.frame;
}

-- a path that leads to no table leads to none from any root
pub leads_any : (L root other : ℕ) (E : List ℕ → ℕ) (q : List ℕ) → leads L root E q ≡ None → leads L other E q ≡ None
leads_any L root other E [] n = absurd (some_not_none root n)
leads_any L root other E (i ∷ q) n = n

-- an entry that maps a page names no table
pub page_no_table : (L : ℕ) (x : List ℕ) (e g : ℕ) → maps_page (level_of L x) e ≡ true → table_of L x e ≡ Some g → ⊥
page_no_table L x e g maps t = let is = table_of_gives L x e g t in not_table (level_of L x) refl is.high (plain_table _ is.is_table) maps
  where
    not_table : (level : ℕ) → level_of L x ≡ level → length x < L → huge e ≡ false → maps_page level e ≡ true → ⊥
    not_table level l short plain maps = ⊎_elim
        (λ one. let is = eqb-true level 1 one in absurd (omega (arith, l, is, short)))
        (λ both. let t : true ≡ false = sym (and_parts _ _ both).0 ∙ plain in cc)
        (or_cases _ _ maps)
