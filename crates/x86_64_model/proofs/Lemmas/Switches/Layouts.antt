-- Address spaces of a memory as spaces between which a processor switches.
use Rattle.std.proofs.Common.{None, ◌≡◌, ◌≢◌, ◌⊎◌, inl, inr, ⊎_elim, ◌<◌, ℕ, Bool, true, false, List, [], ◌∷◌, map, refl, sym, ap, ◌∙◌, subst, subst₂, cond, eq-eqb, Some}
use Rattle.std.proofs.lemmas.Bool.{cases_Bool, cases_eq}
use Rattle.x86_64_model.specs.Lists.{In}
use Rattle.x86_64_model.specs.Entry.{LeadAlike, present, global}
use Rattle.x86_64_model.specs.Layout.{Layout}
use Rattle.x86_64_model.specs.Laws.Spaces.{KeepsRootEntries, StaysSharing}
use Rattle.x86_64_model.specs.Laws.SwitchedSpaces.{space_for, MaySwitchIn, AllShare, SpacesAreHeld, SpacesMayStart, NewSpacesMayBegin}
use Rattle.x86_64_model.specs.Hierarchy.{◌laid_in◌, PoolFits}
use Rattle.x86_64_model.specs.Mappings.{maps_page}
use Rattle.x86_64_model.specs.Memory.{Memory, Words, Places, IsMapping, words_of}
use Rattle.x86_64_model.specs.Path.{level_of}
use Rattle.x86_64_model.specs.PathMap.{entry}
use Rattle.x86_64_model.specs.Spaces.{is_shared, Shares, ArePaired}
use Rattle.x86_64_model.specs.Store.{KeepsPool}
use Rattle.x86_64_model.specs.Window.{begins_with, entry_at, IsValidFor}
use Rattle.x86_64_model.specs.Switches.{Kernel, Space, AreHeld}
use Rattle.x86_64_model.proofs.Lemmas.Lists.Members.{in_map, from_map}
use Rattle.x86_64_model.proofs.Lemmas.Switches.Alike.{alike_equal}
use Rattle.x86_64_model.proofs.Lemmas.Spaces.Tables.{shared_entries_are_the_same, shared_tables_stay}

-- a layout with the kernel's number of levels and a mapping
abbrev pub like : Kernel → Places → Layout → Layout
like k places l = record { levels = k.levels; places = places; root = l.root; window = l.window; added_flags = l.added_flags }

module _ (k : Kernel) (places : Places) (mapping : IsMapping places) (some : 0 < k.levels) (sharing : (root other : ℕ) → ℕ → Bool) (all : AllShare k sharing) (m : Memory) (pool : List ℕ) (layouts : List Layout)
    (are : ArePaired sharing m k.serves pool layouts) (may : MaySwitchIn k places (words_of m places) layouts) where
  abbrev T : Words
  T = words_of m places

  module _ (l : Layout) (il : In layouts l) where
    pub is_like : l ≡ like k places l
    is_like = let at_levels = may.same_levels l il in let at_places = may.mapping l il in
        λ i. record { levels = at_levels i; places = at_places i; root = l.root; window = l.window; added_flags = l.added_flags }

    pub fits_like : PoolFits (like k places l laid_in m) k.serves pool
    fits_like = subst (λ (l : Layout). PoolFits (l laid_in m) k.serves pool) is_like (are.fits l il)

  pub shares_like : (a b : Layout) (ia : In layouts a) (ib : In layouts b) → a.root ≢ b.root → Shares (sharing a.root b.root) (like k places a) m pool (like k places b)
  shares_like a b ia ib n = subst₂ (λ (a b : Layout). Shares (sharing a.root b.root) a m pool b) (is_like a ia) (is_like b ib) (are.share a b ia ib n)

  -- two have the same entries below the indices that they share
  pub alike_pair : (a b : Layout) → In layouts a → In layouts b → a.root ≢ b.root → (q : List ℕ) → is_shared (sharing a.root b.root) q ≡ true → entry (space_for k T b).paths q ≡ entry (space_for k T a).paths q
  alike_pair a b ia ib n q on = shared_entries_are_the_same (sharing a.root b.root) (like k places a) (like k places b) mapping some k.serves m pool (fits_like a ia) (shares_like a b ia ib n) q on

  all_shared : (a b : ℕ) (q : List ℕ) → is_shared k.shared q ≡ true → is_shared (sharing a b) q ≡ true
  all_shared a b [] on = cc
  all_shared a b (i ∷ q) on = all a b i on

  alike_in : (a b : Layout) → In layouts a → In layouts b → (q : List ℕ) → is_shared k.shared q ≡ true → entry (space_for k T b).paths q ≡ entry (space_for k T a).paths q
  alike_in a b ia ib q on = ⊎_elim
      (λ e. ap (λ (l : Layout). entry (space_for k T l).paths q) (sym (are.own_roots a b ia ib e)))
      (λ n. alike_pair a b ia ib n q (all_shared a.root b.root q on))
      (cases_eq a.root b.root)

  pub held_in : AreHeld k T (map (space_for k T) layouts)
  held_in = record {
    valid = λ a i. let o = from_map (space_for k T) layouts a i in let fits = fits_like o.0 o.1 in subst (λ (a : Space). IsValidFor k.levels a.window T a.root a.paths) o.2 fits.valid;
    alike = λ a b i j q on. let o = from_map (space_for k T) layouts a i in let p = from_map (space_for k T) layouts b j in
        subst₂ (λ (a b : Space). LeadAlike (entry a.paths q) (entry b.paths q)) o.2 p.2 (alike_equal _ _ (alike_in o.0 p.0 o.1 p.1 q on));
    globals = λ a i. let o = from_map (space_for k T) layouts a i in subst Globals o.2 (may.globals o.0 o.1);
    windows = λ a i. let o = from_map (space_for k T) layouts a i in
        subst (λ (a : Space). (q : List ℕ) → begins_with a.window q ≡ true → is_shared k.shared q ≡ false) o.2 (may.windows o.0 o.1);
    all_or_none = λ a b i j e. let o = from_map (space_for k T) layouts a i in let p = from_map (space_for k T) layouts b j in
        sym (ap (λ (b : Space). b.window) p.2) ∙ may.all_or_none o.0 p.0 o.1 p.1 (ap (λ (a : Space). a.window) o.2 ∙ e);
  }
    where
      Globals : Space → Type 0
      Globals a = (q : List ℕ) → present (entry_at a.window a.paths q) ≡ true → maps_page (level_of k.levels q) (entry_at a.window a.paths q) ≡ true → global (entry_at a.window a.paths q) ≡ true → is_shared k.shared q ≡ true

  -- ---- a call on one of them

  module _ (one : Layout) (ione : In layouts one) (n : Memory) (rest : List ℕ) (keeps : KeepsPool one k.serves m pool n rest)
      (roots : (b : Layout) → In layouts b → one.root ≢ b.root → KeepsRootEntries (sharing one.root b.root) one m n) where
    abbrev U : Words
    U = words_of n places

    -- another one sees it below shared indices, and elsewhere stays
    pub stays_in : (b : Layout) → In layouts b → one.root ≢ b.root → StaysSharing (sharing one.root b.root) (like k places one) (like k places b) k.serves m pool n rest
    stays_in b ib apart = shared_tables_stay (sharing one.root b.root) (like k places one) (like k places b) mapping some k.serves m n pool rest (fits_like one ione)
        (subst (λ (l : Layout). KeepsPool l k.serves m pool n rest) (is_like one ione) keeps)
        (subst (λ (l : Layout). KeepsRootEntries (sharing one.root b.root) l m n) (is_like one ione) (roots b ib apart)) (shares_like one b ione ib apart)

    pub changes_alike : (b : Layout) → In layouts b → (q : List ℕ)
        → (entry (space_for k U b).paths q ≡ entry (space_for k T b).paths q) ⊎ ((entry (space_for k T b).paths q ≡ entry (space_for k T one).paths q) × (entry (space_for k U b).paths q ≡ entry (space_for k U one).paths q))
    changes_alike b ib q = ⊎_elim
        (λ e. let same : one ≡ b = are.own_roots one b ione ib e in
        inr (ap (λ (l : Layout). entry (space_for k T l).paths q) (sym same), ap (λ (l : Layout). entry (space_for k U l).paths q) (sym same)))
        (λ apart. let stays = stays_in b ib apart in ⊎_elim
        (λ on. inr (alike_pair one b ione ib apart q on, stays.below_shared q on))
        (λ off. inl (stays.elsewhere q off)) (cases_Bool (is_shared (sharing one.root b.root) q)))
        (cases_eq one.root b.root)

pub spaces_are_held : SpacesAreHeld
spaces_are_held k places mapping some sharing all m pool layouts are may = held_in k places mapping some sharing all m pool layouts are may

pub spaces_may_start : SpacesMayStart
spaces_may_start k places mapping some sharing all m pool layouts are may one ione pcid = record {
  held = held_in k places mapping some sharing all m pool layouts are may;
  done = λ b ib. let o = from_map (space_for k (words_of m places)) layouts b ib in subst (λ (b : Space). b.paths ≡ b.next) o.2 refl;
  space = space_for k (words_of m places) one;
  there = in_map (space_for k (words_of m places)) layouts one ione;
  is_root = refl;
  holds = ap (λ b. cond b (Some one.root) None) (eq-eqb pcid pcid refl);
  none_cached = refl;
  none_due = λ tag. refl;
  none_under_way = refl;
}

pub new_spaces_may_begin : NewSpacesMayBegin
new_spaces_may_begin k places mapping some sharing all m pool new layouts are may s unused = record {
  done = refl;
  held = held_in k places mapping some sharing all m pool (new ∷ layouts) are may;
  unused = unused;
}
