-- Pages that may be cached still, as the laws have it.
use Rattle.std.proofs.Common.{zero, suc, ◌≡◌, ◌≢◌, ◌⊎◌, inl, inr, ◌<◌, ◌+◌, ◌-◌, ◌*◌, ◌%◌, ℕ, true, false, List, [], ◌∷◌, ◌++◌, length, Some, None, Option, option_and_then, refl, sym, ap, ◌∙◌, subst, arith, mod-lt, pow_pos, le-leb, lt-ltb}
use Rattle.std.proofs.lemmas.Bool.{and_from}
use Rattle.std.proofs.lemmas.Option.{same_Some}
use Rattle.x86_64_model.specs.Lists.{In}
use Rattle.x86_64_model.specs.Memory.{Words, word}
use Rattle.x86_64_model.specs.Path.{level_of, begins}
use Rattle.x86_64_model.specs.Position.{span, index, page_path}
use Rattle.x86_64_model.specs.PageWalk.{page_start}
use Rattle.x86_64_model.specs.Window.{Window}
use Rattle.x86_64_model.specs.Caches.{PartialWalk, start, Cached, Table, Page, way_of, cached_item, then_on, walk_with_rights_from, walk_with_rights, walked_in}
use Rattle.x86_64_model.specs.Flushing.{Due, PageDue, TablesDue, WindowDue, BelowDue, loosens, concerns}
use Rattle.x86_64_model.specs.Laws.Caches.{IsMapped, IsStale, WasThere, HadRights, InWindow, in_page, IsLetGo, WalksThere}
use Rattle.x86_64_model.proofs.Lemmas.Paths.Begins.{begins_on, begins_more, from_begins}
use Rattle.x86_64_model.proofs.Lemmas.Walks.Fronts.{goes_on}
use Rattle.x86_64_model.proofs.Lemmas.Caches.Agrees.{led_cases}
use Rattle.x86_64_model.proofs.Lemmas.Caches.Kept.{window_front, Stands}
use Rattle.x86_64_model.proofs.Lemmas.Caches.Items.{StalePage, walk_stands}
use Rattle.x86_64_model.proofs.Lemmas.Walks.Walked.{Reads}

module _ (L : ℕ) (window : Option Window) (due : List Due) (E : List ℕ → ℕ) (w : PartialWalk) where
  mapped : Stands L E w → IsMapped L E w
  mapped s = record { is_used = s.is_used; maps = s.maps; frame = s.frame }

  pub stale : StalePage L window due E w → IsStale L window due E w
  stale (inl (f, inl d, e)) = WasThere f d e
  stale (inl (f, inr d, e)) = InWindow d.0 d.1
  stale (inr ((d, i, l), s)) = by d i l
    where
      by : (d : Due) → In due d → loosens window d w.path ≡ true → IsStale L window due E w
      by (PageDue q f) i l = cc
      by (TablesDue freed) i l = cc
      by WindowDue i l = InWindow i l
      by (BelowDue q) i l = HadRights q i l (mapped s)

  -- not where nothing that is due concerns the position
  pub settled_stale : (p : ℕ) → begins w.path (page_path L p) ≡ true → ((d : Due) → In due d → concerns L window d p ≡ false) → IsStale L window due E w → ⊥
  settled_stale p on settled (WasThere f d e) = let t : true ≡ false = sym on ∙ settled (PageDue w.path f) d in cc
  settled_stale p on settled (HadRights q d b s) = let t : true ≡ false = sym (begins_more q w.path (page_path L p) b on) ∙ settled (BelowDue q) d in cc
  settled_stale p on settled (InWindow d b) = let t : true ≡ false = sym (window_front window w.path (page_path L p) on b) ∙ settled WindowDue d in cc

-- ---- the page of a walk is on the path of the position

rest_of : (n p : ℕ) (q rest : List ℕ) → page_path n p ≡ q ++ rest → rest ≡ page_path (n - length q) p
unfolding page_path
rest_of n p [] rest e = let z : n ≡ n - 0 = omega arith in sym e ∙ ap (λ n. page_path n p) z
rest_of zero p (i ∷ q) rest e = cc
rest_of (suc n) p (i ∷ q) rest e = let z : n - length q ≡ suc n - length (i ∷ q) = omega arith in
    rest_of n p q rest (let t : page_path n p ≡ q ++ rest = cc in t) ∙ ap (λ n. page_path n p) z

found_path : (L : ℕ) (T : Words) (t : PartialWalk) (i : ℕ) (c : Cached) → cached_item L T t i ≡ Some c → (way_of c).path ≡ t.path ++ i ∷ []
found_path L T t i c is = led_cases L t i (word T t.frame i) c (λ c. (way_of c).path ≡ t.path ++ i ∷ []) (λ h m. refl) (λ h m g. refl) is

module _ (L : ℕ) (T : Words) (p : ℕ) where
  walked_on : (n : ℕ) (t w : PartialWalk) → page_path L p ≡ t.path ++ page_path n p → walk_with_rights_from L T p n t ≡ Some w → begins w.path (page_path L p) ≡ true
  unfolding walk_with_rights_from
  walked_on zero t w here is = cc
  walked_on (suc n) t w here is = by (λ u here is. walked_on n u w here is) (cached_item L T t (index (suc n) p)) refl is
    where
      further : (q : List ℕ) → q ≡ t.path ++ index (suc n) p ∷ [] → page_path L p ≡ q ++ page_path n p
      further q e = goes_on L p n t.path here ∙ ap (λ q. q ++ page_path n p) (sym e)

      by : ((u : PartialWalk) → page_path L p ≡ u.path ++ page_path n p → walk_with_rights_from L T p n u ≡ Some w → begins w.path (page_path L p) ≡ true)
          → (o : Option Cached) → cached_item L T t (index (suc n) p) ≡ o → option_and_then (then_on (λ on. walk_with_rights_from L T p n on)) o ≡ Some w → begins w.path (page_path L p) ≡ true
      by go None e is = cc
      by go (Some (Page v)) e is = subst (λ (w : PartialWalk). begins w.path (page_path L p) ≡ true) (same_Some _ _ is)
          (ap (begins v.path) (further v.path (found_path L T t (index (suc n) p) (Page v) e)) ∙ begins_on v.path (page_path n p))
      by go (Some (Table u)) e is = go u (further u.path (found_path L T t (index (suc n) p) (Table u) e)) is

  pub walked_path : (t w : PartialWalk) → begins t.path (page_path L p) ≡ true → walk_with_rights_from L T p (L - length t.path) t ≡ Some w → begins w.path (page_path L p) ≡ true
  walked_path t w on is = let more = from_begins t.path (page_path L p) on in
      walked_on (L - length t.path) t w (more.1 ∙ ap (λ r. t.path ++ r) (rest_of L p t.path more.0 more.1)) is

-- an access lies in the page
pub holds_none : (L p : ℕ) (w : PartialWalk) (a : ℕ) → in_page L w.path w.frame a ≡ false → (walked_in L p w).address ≢ a
holds_none L p w a none is = let t : true ≡ false = sym inside ∙ ap (in_page L w.path w.frame) is ∙ none in cc
  where
    inside : in_page L w.path w.frame (w.frame + p % span (level_of L w.path)) ≡ true
    inside = and_from _ _ (le-leb w.frame _ (omega arith)) (lt-ltb _ _ (let l = mod-lt p (pow_pos (12 + 9 * (level_of L w.path - 1))) in omega (arith, l)))

-- no access reaches an address that is let go
module _ (L : ℕ) (window : Option Window) (due : List Due) (T : Words) (root : ℕ) (E : List ℕ → ℕ) (r : Reads L T root E) (levels : 0 < L) (a : ℕ) (free : IsLetGo L window due E a) (p : ℕ) (w : PartialWalk) where
  pub let_go : WalksThere (walk_with_rights L T root p) w ⊎ IsStale L window due E w → (walked_in L p w).address ≢ a
  let_go (inl x) = let there = (walk_stands L root T E r levels p L (start root) x.0 refl x.1).0 in let st = there.0 in
      let at : List ℕ = x.0.path in
      holds_none L p w a (ap (λ f. in_page L w.path f a) (sym x.3 ∙ st.frame) ∙ ap (λ q. in_page L q (page_start (level_of L at) (E at)) a) (sym x.2)
      ∙ free.unmapped at there.1 st.maps)
  let_go (inr (WasThere f due at)) = holds_none L p w a (ap (λ f. in_page L w.path f a) at ∙ free.not_due w.path f due)
  let_go (inr (HadRights q due b mapped)) = holds_none L p w a (ap (λ f. in_page L w.path f a) mapped.frame ∙ free.none_loose q w.path due b mapped.is_used mapped.maps)
  let_go (inr (InWindow due b)) = absurd (free.window_flushed due)
