-- Each item agrees with the entries of the space whose items its PCID holds, or of all spaces if it is global, or what is due for its
-- tag drops it.
use Rattle.std.proofs.Common.{◌≡◌, ◌⊎◌, inl, inr, ⊎_elim, ◌<◌, ℕ, Bool, true, false, cond, List, [], ◌∷◌, ◌++◌, Some, None, Option, refl, sym, ap, ◌∙◌, subst, subst₂, eqb-true}
use Rattle.std.proofs.lemmas.Option.{same_Some}
use Rattle.x86_64_model.specs.Lists.{In}
use Rattle.x86_64_model.specs.Entry.{LeadAlike, present, global}
use Rattle.x86_64_model.specs.Memory.{word}
use Rattle.x86_64_model.specs.Path.{level_of, begins}
use Rattle.x86_64_model.specs.PathMap.{entry}
use Rattle.x86_64_model.specs.Mappings.{maps_page}
use Rattle.x86_64_model.specs.Window.{Window, entry_at}
use Rattle.x86_64_model.specs.Spaces.{is_shared}
use Rattle.x86_64_model.specs.Caches.{PartialWalk, start, Cached, Table, Page, cached_item, MayRead, MayAccess, walk_with_rights}
use Rattle.x86_64_model.specs.Flushing.{Due, PageDue, TablesDue, WindowDue, BelowDue, loosens}
use Rattle.x86_64_model.specs.Laws.Caches.{WalksThere}
use Rattle.x86_64_model.specs.Laws.Switches.{due_here}
use Rattle.x86_64_model.specs.Tags.{Tag, Of, Global, Tagged, is_current, usable, MayTag, CachesTagged}
use Rattle.x86_64_model.specs.Switches.{Kernel, Space, AreHeld, Switching}
use Rattle.x86_64_model.proofs.Lemmas.Lists.Members.{in_left, in_right, from_map, from_filter, passes}
use Rattle.x86_64_model.proofs.Lemmas.Walks.Agrees.{reads}
use Rattle.x86_64_model.proofs.Lemmas.Walks.Walked.{Reads}
use Rattle.x86_64_model.proofs.Lemmas.Caches.Agrees.{AgreesTable, AgreesPage, leads, agrees_leads, start_agrees, led_cases, word_below, found_is, finds}
use Rattle.x86_64_model.proofs.Lemmas.Caches.Items as items
use Rattle.x86_64_model.proofs.Lemmas.Caches.Items.{StalePage, none_found, finds_there, item_found, hit_goes, walk_goes}
use Rattle.x86_64_model.proofs.Lemmas.Caches.Kept.{LooseAt, loose_more}
use Rattle.x86_64_model.proofs.Lemmas.Caches.Windowed.{Becomes}
use Rattle.x86_64_model.proofs.Lemmas.Switches.Alike.{alike_equal, agrees_alike, stands_alike, safe_alike, shared_front, seen_outside, part, part_is}
use Rattle.x86_64_model.proofs.Lemmas.Switches.Dues.{AreDue}

-- what the call under way makes due for items of a root, and for global translations
abbrev pub own : Switching → ℕ → List Due
own s root = cond (s.reaches root) s.under_way []

abbrev pub wide : Switching → List Due
wide s = cond s.everywhere s.under_way []

abbrev pub tagged : Tag → Cached → Tagged
tagged tag x = record { tag = tag; item = x }

abbrev pub SafeIn : Kernel → Switching → Space → (c : ℕ) → Cached → Type 0
SafeIn k s a c x = items.Safe k.levels a.root a.window (s.due (Of c)) s.pool s.words (entry_at a.window a.paths) x

abbrev pub GlobalIn : Kernel → Switching → Space → PartialWalk → Type 0
GlobalIn k s a w = AgreesPage k.levels (part k.shared a.paths) w ⊎ StalePage k.levels None (s.due Global) (part k.shared a.paths) w

-- a global translation is a page below a shared index
abbrev pub IsGlobal : Kernel → Switching → Cached → Type 0
IsGlobal k s x = (w : PartialWalk) × (x ≡ Page w) × (is_shared k.shared w.path ≡ true) × ((a : Space) → In s.spaces a → GlobalIn k s a w)

-- the invariant
pub record IsSafe (k : Kernel) (s : Switching) : Type 0 where
  pub held : AreHeld k s.words s.spaces
  pub current : (a : Space) × In s.spaces a × (a.root ≡ s.root)
  pub holds : s.holder s.pcid ≡ Some s.root
  pub moves : (a : Space) → In s.spaces a → (q : List ℕ) → Becomes k.levels a.window (own s a.root) s.pool q (entry a.paths q) (entry a.next q)
  pub moves_shared : (a : Space) → In s.spaces a → (q : List ℕ) → is_shared k.shared q ≡ true → Becomes k.levels None (wide s) s.pool q (entry a.paths q) (entry a.next q)
  pub dues : AreDue k.shared s
  pub items : (c : ℕ) (x : Cached) → In s.cache (tagged (Of c) x) → (a : Space) → In s.spaces a → s.holder c ≡ Some a.root → SafeIn k s a c x
  pub globals : (x : Cached) → In s.cache (tagged Global x) → IsGlobal k s x

-- ---- more is due

pub stale_more : (L : ℕ) (window : Option Window) (due more : List Due) (E : List ℕ → ℕ) (w : PartialWalk) → ((d : Due) → In due d → In more d) → StalePage L window due E w → StalePage L window more E w
stale_more L window due more E w grows (inl (f, inl d, e)) = inl (f, inl (grows _ d), e)
stale_more L window due more E w grows (inl (f, inr d, e)) = inl (f, inr (grows _ d.0, d.1), e)
stale_more L window due more E w grows (inr x) = inr ((x.0.0, grows _ x.0.1, x.0.2), x.1)

stale_windowed : (L : ℕ) (window : Option Window) (due : List Due) (E : List ℕ → ℕ) (w : PartialWalk) → StalePage L None due E w → StalePage L window due E w
stale_windowed L window due E w (inl (f, inl d, e)) = inl (f, inl d, e)
stale_windowed L window due E w (inl (f, inr d, e)) = cc
stale_windowed L window due E w (inr ((d, i, l), st)) = by d i l
  where
    by : (d : Due) → In due d → loosens None d w.path ≡ true → StalePage L window due E w
    by (PageDue q f) i l = cc
    by (TablesDue freed) i l = cc
    by WindowDue i l = cc
    by (BelowDue q) i l = inr ((BelowDue q, i, l), st)

from_usable : (pcid : ℕ) (cache : List Tagged) (x : Cached) → In (usable pcid cache) x → (c : Tagged) × In cache c × (is_current pcid c.tag ≡ true) × (c.item ≡ x)
from_usable pcid cache x i = let test : Tagged → Bool = λ c. is_current pcid c.tag in let m = from_map (λ (c : Tagged). c.item) _ x i in
    (m.0, from_filter test cache m.0 m.1, passes test cache m.0 m.1, m.2)

module _ (k : Kernel) (levels : 0 < k.levels) (s : Switching) (safe : IsSafe k s) where
  -- ---- a space

  module _ (a : Space) (ia : In s.spaces a) where
    -- the entries that the processor reads
    abbrev pub E : List ℕ → ℕ
    E = entry_at a.window a.paths

    pub r : Reads k.levels s.words a.root E
    r = reads k.levels s.words a.root a.paths a.window (safe.held.valid a ia)

    -- below shared indices they are those of any space's map
    pub same_part : (b : Space) → In s.spaces b → (w : PartialWalk) → is_shared k.shared w.path ≡ true → (i : ℕ) (c : List ℕ) → begins (i ∷ c) w.path ≡ true → LeadAlike (E (i ∷ c)) (part k.shared b.paths (i ∷ c))
    same_part b ib w h i c on = let h' = shared_front k.shared i c w.path on h in
        subst₂ LeadAlike (sym (seen_outside a.window a.paths k.shared (safe.held.windows a ia) (i ∷ c) h')) (sym (part_is k.shared b.paths (i ∷ c) h')) (safe.held.alike a b ia ib (i ∷ c) h')

    -- and of its own map they are the same
    same_own : (w : PartialWalk) → is_shared k.shared w.path ≡ true → (i : ℕ) (c : List ℕ) → begins (i ∷ c) w.path ≡ true → LeadAlike (part k.shared a.paths (i ∷ c)) (E (i ∷ c))
    same_own w h i c on = let h' = shared_front k.shared i c w.path on h in
        alike_equal _ _ (seen_outside a.window a.paths k.shared (safe.held.windows a ia) (i ∷ c) h' ∙ sym (part_is k.shared a.paths (i ∷ c) h'))

    -- what drops all items on a path below a shared index is due for global translations
    loose_everywhere : (c : ℕ) (x : List ℕ) → is_shared k.shared x ≡ true → LooseAt a.window (s.due (Of c)) x → LooseAt None (s.due Global) x
    loose_everywhere c x h (d, i, l) = by d i l
      where
        below : (q : List ℕ) → In (s.due (Of c)) (BelowDue q) → begins q x ≡ true → LooseAt None (s.due Global) x
        below [] i l = absurd (safe.dues.never_all (Of c) i)
        below (j ∷ q) i l = (BelowDue (j ∷ q), safe.dues.narrow c (j ∷ q) i (shared_front k.shared j q x l h), l)

        by : (d : Due) → In (s.due (Of c)) d → loosens a.window d x ≡ true → LooseAt None (s.due Global) x
        by (PageDue q f) i l = cc
        by (TablesDue freed) i l = cc
        by WindowDue i l = absurd (let t : true ≡ false = sym h ∙ safe.held.windows a ia x l in cc)
        by (BelowDue q) i l = below q i l

    module _ (here : a.root ≡ s.root) where
      holds_here : s.holder s.pcid ≡ Some a.root
      holds_here = safe.holds ∙ ap Some (sym here)

      current_safe : (c : Tagged) (x : Cached) → In s.cache c → is_current s.pcid c.tag ≡ true → c.item ≡ x → SafeIn k s a s.pcid x ⊎ ((c.tag ≡ Global) × IsGlobal k s x)
      current_safe c x i cur e = by c.tag c.item i cur e
        where
          by : (tag : Tag) (y : Cached) → In s.cache (tagged tag y) → is_current s.pcid tag ≡ true → y ≡ x → SafeIn k s a s.pcid x ⊎ ((tag ≡ Global) × IsGlobal k s x)
          by (Of d) y i cur e = let same : d ≡ s.pcid = eqb-true d s.pcid cur in
              inl (subst (λ x. SafeIn k s a s.pcid x) e (subst (λ d. SafeIn k s a d y) same (safe.items d y i a ia (ap s.holder same ∙ holds_here))))
          by Global y i cur e = inr (refl, subst (λ x. IsGlobal k s x) e (safe.globals y i))

      pub table_safe : (t : PartialWalk) → MayRead s.root (usable s.pcid s.cache) t → SafeIn k s a s.pcid (Table t)
      table_safe t (inl e) = inl (subst (λ t. AgreesTable k.levels a.root E t) (sym (e ∙ ap start (sym here))) (start_agrees k.levels a.root E levels))
      table_safe t (inr there) = let c = from_usable s.pcid s.cache (Table t) there in
          ⊎_elim (λ x. x) (λ g. let w = g.1.0 in absurd (let z : Table t ≡ Page w = g.1.1 in cc)) (current_safe c.0 (Table t) c.1 c.2 c.3)

      -- where an access goes
      pub goes : (p : ℕ) (w : PartialWalk) → MayAccess k.levels s.root s.words (usable s.pcid s.cache) p w → WalksThere (walk_with_rights k.levels s.words s.root p) w ⊎ StalePage k.levels a.window (due_here s) E w
      goes p w (inl (there, on)) = let c = from_usable s.pcid s.cache (Page w) there in ⊎_elim
          (λ x. mine p w (hit_goes k.levels a.root s.words E r levels a.window (s.due (Of s.pcid)) s.pool p w x on))
          (λ g. let v = g.1.0 in let same : w ≡ v = let z : Page w ≡ Page v = g.1.1 in cc in
          let shared : is_shared k.shared w.path ≡ true = ap (λ (w : PartialWalk). is_shared k.shared w.path) same ∙ g.1.2 in
          let x = safe_alike k.levels (part k.shared a.paths) E w (same_own w shared) None (s.due Global) (subst (λ w. GlobalIn k s a w) (sym same) (g.1.3 a ia)) in
          ⊎_elim (λ y. inl (at_root p w y)) (λ y. inr (stale_more k.levels a.window (s.due Global) (due_here s) E w (λ d i. in_right (s.due (Of s.pcid)) (s.due Global) d i) (stale_windowed k.levels a.window (s.due Global) E w y)))
          (hit_goes k.levels a.root s.words E r levels None (s.due Global) s.pool p w x on))
          (current_safe c.0 (Page w) c.1 c.2 c.3)
        where
          at_root : (p : ℕ) (w : PartialWalk) → WalksThere (walk_with_rights k.levels s.words a.root p) w → WalksThere (walk_with_rights k.levels s.words s.root p) w
          at_root p w x = subst (λ root. WalksThere (walk_with_rights k.levels s.words root p) w) here x

          mine : (p : ℕ) (w : PartialWalk) → WalksThere (walk_with_rights k.levels s.words a.root p) w ⊎ StalePage k.levels a.window (s.due (Of s.pcid)) E w → WalksThere (walk_with_rights k.levels s.words s.root p) w ⊎ StalePage k.levels a.window (due_here s) E w
          mine p w x = ⊎_elim (λ y. inl (at_root p w y)) (λ y. inr (stale_more k.levels a.window (s.due (Of s.pcid)) (due_here s) E w (λ d i. in_left (s.due (Of s.pcid)) (s.due Global) d i) y)) x
      goes p w (inr (t, may, on, arrives)) = ⊎_elim
          (λ y. inl (subst (λ root. WalksThere (walk_with_rights k.levels s.words root p) w) here y))
          (λ y. inr (stale_more k.levels a.window (s.due (Of s.pcid)) (due_here s) E w (λ d i. in_left (s.due (Of s.pcid)) (s.due Global) d i) y))
          (walk_goes k.levels a.root s.words E r levels a.window (s.due (Of s.pcid)) s.pool p t w (table_safe t may) on arrives)

      -- ---- a global page that is found

      -- the entry of a page that is found
      found_entry : (t : PartialWalk) (i : ℕ) (w : PartialWalk) → leads k.levels a.root E t.path ≡ Some t.frame → cached_item k.levels s.words t i ≡ Some (Page w)
          → (present (E w.path) ≡ true) × (maps_page (level_of k.levels w.path) (E w.path) ≡ true) × (E w.path ≡ word s.words t.frame i)
      found_entry t i w there is = let e = E (t.path ++ i ∷ []) in led_cases k.levels t i e (Page w) Fine
          (λ h m. (h, m, sym (word_below k.levels s.words a.root E r t.path t.frame i there))) (λ h m g. tt)
          (sym (found_is k.levels s.words a.root E r t i there) ∙ is)
        where
          Fine : Cached → Type 0
          Fine (Table u) = Unit {0}
          Fine (Page v) = (present (E v.path) ≡ true) × (maps_page (level_of k.levels v.path) (E v.path) ≡ true) × (E v.path ≡ word s.words t.frame i)

      pub global_found : (t : PartialWalk) (i : ℕ) (w : PartialWalk) → SafeIn k s a s.pcid (Table t) → cached_item k.levels s.words t i ≡ Some (Page w) → global (word s.words t.frame i) ≡ true → IsGlobal k s (Page w)
      global_found t i w safe_t is g = by safe_t
        where
          shared : leads k.levels a.root E t.path ≡ Some t.frame → is_shared k.shared w.path ≡ true
          shared there = let f = found_entry t i w there is in safe.held.globals a ia w.path f.0 f.1 (ap global f.2 ∙ g)

          by : SafeIn k s a s.pcid (Table t) → IsGlobal k s (Page w)
          by (inl agrees) = let h = shared (agrees_leads k.levels a.root E t agrees) in
              (w, refl, h, λ b ib. inl (agrees_alike k.levels E (part k.shared b.paths) w (same_part b ib w h) (finds k.levels s.words a.root E r t i (Page w) agrees is)))
          by (inr (inl x)) = absurd (let n : None ≡ Some (Page w) = sym (none_found k.levels s.words t i (x.2 i)) ∙ is in cc)
          by (inr (inr x)) = let h = shared x.1 in let f = finds_there k.levels a.root s.words E r levels t i (Page w) x.1 is in
              (w, refl, h, λ b ib. inr (inr (loose_everywhere s.pcid w.path h (loose_more a.window (s.due (Of s.pcid)) t.path w.path f.1 x.0), stands_alike k.levels E (part k.shared b.paths) w (same_part b ib w h) f.0.0)))

  -- ---- the caches change

  tag_is : (e c : ℕ) (x : Cached) → MayTag s.pcid e x (Of c) → c ≡ s.pcid
  tag_is e c (Table t) is = let z : Of c ≡ Of s.pcid = is in cc
  tag_is e c (Page w) (inl is) = let z : Of c ≡ Of s.pcid = is in cc
  tag_is e c (Page w) (inr x) = let z : Of c ≡ Global = x.0 in cc

  module _ (after : List Tagged) (caches : CachesTagged k.levels s.root s.pcid s.words s.cache after) where
    change_items : (c : ℕ) (x : Cached) → In after (tagged (Of c) x) → (a : Space) → In s.spaces a → s.holder c ≡ Some a.root → SafeIn k s a c x
    change_items c x i a ia h = ⊎_elim (λ there. safe.items c x there a ia h)
        (λ y. let same : c ≡ s.pcid = tag_is (word s.words y.0.frame y.1) c x y.4 in
        let here : a.root ≡ s.root = same_Some _ _ (sym h ∙ ap s.holder same ∙ safe.holds) in
        subst (λ c. SafeIn k s a c x) (sym same) (item_found k.levels a.root s.words (E a ia) (r a ia) levels a.window (s.due (Of s.pcid)) s.pool y.0 y.1 x (table_safe a ia here y.0 y.2) y.3))
        (caches (tagged (Of c) x) i)

    change_globals : (x : Cached) → In after (tagged Global x) → IsGlobal k s x
    change_globals x i = ⊎_elim (λ there. safe.globals x there) (λ y. by x y.0 y.1 y.2 y.3 y.4) (caches (tagged Global x) i)
      where
        by : (x : Cached) (t : PartialWalk) (i : ℕ) → MayRead s.root (usable s.pcid s.cache) t → cached_item k.levels s.words t i ≡ Some x → MayTag s.pcid (word s.words t.frame i) x Global → IsGlobal k s x
        by (Table u) t i may is tag = let z : Global ≡ Of s.pcid = tag in cc
        by (Page w) t i may is (inl tag) = let z : Global ≡ Of s.pcid = tag in cc
        by (Page w) t i may is (inr g) = let a = safe.current in global_found a.0 a.1 a.2 t i w (table_safe a.0 a.1 a.2 t may) is g.1

    pub change_keeps : IsSafe k (record s { cache = after })
    change_keeps = record {
      held = safe.held;
      current = safe.current;
      holds = safe.holds;
      moves = safe.moves;
      moves_shared = safe.moves_shared;
      dues = record { covers = safe.dues.covers; narrow = safe.dues.narrow; never_all = safe.dues.never_all; avoids = safe.dues.avoids; never_all_now = safe.dues.never_all_now };
      items = change_items;
      globals = change_globals;
    }
