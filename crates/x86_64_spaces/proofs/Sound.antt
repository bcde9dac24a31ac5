-- The list of all tables of address spaces is sound if and only if they are address spaces that share in pairs.
use Rattle.std.proofs.Common.{◌≡◌, ◌≢◌, ◌↔◌, inl, inr, ⊎_elim, ℕ, zero, suc, nat_lt, Bool, true, false, cond, List, [], ◌∷◌, ◌++◌, map, ◌<◌, Some, None, Option, refl, sym, ap, ap₂, ◌∙◌, subst, arith, eqb-true, eq-eqb}
use Rattle.std.specs.List.{flat_map}
use Rattle.std.proofs.lemmas.Bool.{cases_Bool, cases_eq}
use Rattle.std.proofs.lemmas.Option.{same_Some}
use Rattle.x86_64_model.specs.Entry.{address, names_table}
use Rattle.x86_64_model.specs.Hierarchy.{◌laid_in◌, PoolFits, paths}
use Rattle.x86_64_model.specs.Layout.{Layout}
use Rattle.x86_64_model.specs.Lists.{In, EachOnce}
use Rattle.x86_64_model.specs.Memory.{Memory, Places, Words, IsMapping, word, word_in, words_of}
use Rattle.x86_64_model.specs.Path.{indices}
use Rattle.x86_64_model.specs.PathMap.{entry, table_at}
use Rattle.x86_64_model.specs.Validity.{paths_of}
use Rattle.x86_64_model.specs.Pool.{serves_below}
use Rattle.x86_64_model.specs.Spaces.{is_shared, Shares, ArePaired}
use Rattle.x86_64_model.specs.Window.{outside_window}
use Rattle.x86_64_model.specs.private.Tables.{tables_from, without_word, SoundTables}
use Rattle.x86_64_model.proofs.Lemmas.Hierarchies.Held.{set_word_other}
use Rattle.x86_64_model.proofs.Lemmas.Hierarchies.Memories.{mappings_show_frames}
use Rattle.x86_64_model.proofs.Lemmas.Lists.Members.{in_left, in_right, in_append, in_flat_map, from_flat_map, in_indices, in_map, from_map}
use Rattle.x86_64_model.proofs.Lemmas.Lists.Once.{once_append, once_left, once_right, once_apart, once_part, once_map, once_indices, same_part}
use Rattle.x86_64_model.proofs.Lemmas.Spaces.Many.{shared_table}
use Rattle.x86_64_model.proofs.Lemmas.Spaces.Tables.{shared_entries_are_the_same}
use Rattle.x86_64_model.proofs.Lemmas.Tables.Checked.{still_there, was_there}
use Rattle.x86_64_model.proofs.Lemmas.Tables.Exact.{sound_fits, fits_sound}
use Rattle.x86_64_model.proofs.Lemmas.Tables.Walked.{frame_at, table_at_frame, in_tables, from_tables, in_below, from_below}
use Rattle.x86_64_spaces.specs.declared.space.Space.{Space}
use Rattle.x86_64_spaces.specs.SpaceGroups.{Grouped, spaces_of, are_one, sharing_of}
use Rattle.x86_64_spaces.specs.SpaceLayouts.{space_layout, layouts_of, roots_of}
use Rattle.x86_64_spaces.specs.private.SpaceTables.{words_without, part, owner, owns, own_tables, space_tables, SoundSpaces}
use Rattle.x86_64_spaces.proofs.Chosen.{from_yes, once_yes, once_keys, same_keys, once_lists}
use Rattle.x86_64_spaces.proofs.Groups.{root, roots_are, from_roots, in_roots, sharing_is, owner_in, owner_again, owner_same, owner_shares, one_owner}
use Rattle.x86_64_tables.specs.SelfEntries.{window_in}

-- ---- lists of tables

same_lists : (g h : ℕ → List ℕ) (xs : List ℕ) → ((i : ℕ) → In xs i → g i ≡ h i) → flat_map g xs ≡ flat_map h xs
same_lists g h [] same = refl
same_lists g h (x ∷ xs) same = ap₂ (λ a b. a ++ b) (same x (inl refl)) (same_lists g h xs (λ i k. same i (inr k)))

word_by : (T U : Words) (f i : ℕ) → T f ≡ U f → word T f i ≡ word U f i
unfolding word
word_by T U f i e = ap (λ o. cond (nat_lt i 512) (word_in o i) 0) e

-- the words of the tables alone determine which they are
same_part_by : (n : ℕ) (T U : Words) (f i : ℕ) → word T f i ≡ word U f i → ((a : ℕ) → ((g : ℕ) → In (tables_from n T a) g → T g ≡ U g) → tables_from n T a ≡ tables_from n U a)
    → ((g : ℕ) → In (part n T f i) g → T g ≡ U g) → part n T f i ≡ part n U f i
same_part_by n T U f i e on same =
    let a = address (word T f i) in
    elim (names_table (word T f i)) as (λ b. ((g : ℕ) → In (cond b (tables_from n T a) []) g → T g ≡ U g) → cond b (tables_from n T a) [] ≡ cond b (tables_from n U a) []) [
      | true ↦ λ same. on a same
      | false ↦ λ same. refl
    ] same
    ∙ ap (λ w. cond (names_table w) (tables_from n U (address w)) []) e

tables_by_words : (n : ℕ) (T U : Words) (f : ℕ) → ((g : ℕ) → In (tables_from n T f) g → T g ≡ U g) → tables_from n T f ≡ tables_from n U f
unfolding tables_from
tables_by_words zero T U f same = refl
tables_by_words (suc n) T U f same = ap (λ xs. f ∷ xs) (same_lists (part n T f) (part n U f) indices (λ i k.
    same_part_by n T U f i (word_by T U f i (same f (inl refl))) (λ a. tables_by_words n T U a) (λ g h. same g (inr (in_flat_map (part n T f) indices i g k h)))))

-- a space sees the words of all frames but its root
seen_elsewhere : (T : Words) (s : Space) (g : ℕ) → g ≢ s.root → words_without T s g ≡ T g
seen_elsewhere T s g = by s.recursive
  where
    by : (recursive : Option ℕ) → g ≢ s.root → without_word recursive s.root T g ≡ T g
    by None apart = refl
    by (Some r) apart = set_word_other T s.root r 0 g apart

pub seen_outside : (T : Words) (s : Space) → outside_window (window_in T s.root s.recursive) s.root T ≡ words_without T s
seen_outside T s = by s.recursive
  where
    by : (recursive : Option ℕ) → outside_window (window_in T s.root recursive) s.root T ≡ without_word recursive s.root T
    by None = refl
    by (Some r) = refl

-- the tables that an entry leads to are determined by the entry and the words of the tables
part_by : (n : ℕ) (T U : Words) (f f' i : ℕ) → word T f i ≡ word U f' i → ((g : ℕ) → In (part n T f i) g → T g ≡ U g) → part n T f i ≡ part n U f' i
part_by n T U f f' i e same =
    let a = address (word T f i) in
    elim (names_table (word T f i)) as (λ b. ((g : ℕ) → In (cond b (tables_from n T a) []) g → T g ≡ U g) → cond b (tables_from n T a) [] ≡ cond b (tables_from n U a) []) [
      | true ↦ λ same. tables_by_words n T U a same
      | false ↦ λ same. refl
    ] same
    ∙ ap (λ w. cond (names_table w) (tables_from n U (address w)) []) e

module _ (n : ℕ) (places : Places) (mapping : IsMapping places) (m : Memory) (spaces : List Grouped) (limit : ℕ) (pool : List ℕ) where
  abbrev T : Words
  T = words_of m places

  abbrev V : Grouped → Words
  V s = words_without T s.space

  abbrev serves : ℕ → Bool
  serves = serves_below limit

  abbrev layout : Grouped → Layout
  layout s = space_layout (suc (suc n)) places m s.space

  abbrev layouts : List Layout
  layouts = layouts_of (suc (suc n)) places m (spaces_of spaces)

  abbrev sharing : (root other : ℕ) → ℕ → Bool
  sharing = sharing_of spaces

  -- the tables of a space that an index leads to, if no earlier space shares the index, and all these tables
  abbrev P : Grouped → ℕ → List ℕ
  P s k = cond (owns spaces s k) (part n (V s) s.space.root k) []

  abbrev B : Grouped → List ℕ
  B s = flat_map (P s) indices

  abbrev O : Grouped → List ℕ
  O s = own_tables spaces n T s

  abbrev all : List ℕ
  all = space_tables spaces n T

  pub in_layouts : (s : Grouped) → In spaces s → In layouts (layout s)
  in_layouts s i = in_map (space_layout (suc (suc n)) places m) (spaces_of spaces) s.space (in_map (λ (s : Grouped). s.space) spaces s i)

  pub from_layouts : (a : Layout) → In layouts a → (s : Grouped) × In spaces s × (layout s ≡ a)
  from_layouts a h =
      let x = from_map (space_layout (suc (suc n)) places m) (spaces_of spaces) a h in
      let s = from_map (λ (s : Grouped). s.space) spaces x.0 x.1 in
      (s.0, s.1, ap (space_layout (suc (suc n)) places m) s.2 ∙ x.2)

  -- the tables of a space's path map
  table_frame : (s : Grouped) (q : List ℕ) → table_at (suc (suc n)) s.space.root (paths (layout s laid_in m)) q ≡ frame_at (suc n) (V s) s.space.root q
  table_frame s q = ap (λ (U : Words). table_at (suc (suc n)) s.space.root (paths_of (suc (suc n)) U s.space.root) q) (seen_outside T s.space) ∙ table_at_frame (suc n) (V s) s.space.root q

  -- the entries of its root
  root_entry : (s : Grouped) → PoolFits (layout s laid_in m) serves pool → (k : ℕ) → entry (paths (layout s laid_in m)) (k ∷ []) ≡ word (V s) s.space.root k
  root_entry s fits k = fits.valid.valid.holds.entries [] k ∙ ap (λ (U : Words). word U s.space.root k) (seen_outside T s.space)

  -- a path that begins with no index that an earlier space shares
  abbrev is_own : Grouped → List ℕ → Bool
  is_own s [] = true
  is_own s (k ∷ p) = owns spaces s k

  -- where the tables of a list stand
  from_own : (s : Grouped) (f : ℕ) → In (O s) f → (q : List ℕ) × (is_own s q ≡ true) × (frame_at (suc n) (V s) s.space.root q ≡ Some f)
  from_own s f (inl e) = ([], refl, ap Some e)
  from_own s f (inr h) = let i = from_yes (owns spaces s) (part n (V s) s.space.root) indices f h in let p = from_below n (V s) s.space.root i.0 f i.3 in (i.0 ∷ p.0, i.2, p.1)

  -- ---- a sound list

  module _ (sound : SoundSpaces spaces n T serves pool) where
    once_all : EachOnce all
    once_all = once_left all pool sound.each_once

    once_own : (s : Grouped) → In spaces s → EachOnce (O s)
    once_own s i = once_part O spaces once_all s i

    once_roots : EachOnce (map root spaces)
    once_roots = once_keys root O (λ s. inl refl) spaces once_all

    same_space : (s t : Grouped) (f : ℕ) → In spaces s → In spaces t → In (O s) f → In (O t) f → s ≡ t
    same_space s t f i j h k = same_part O spaces once_all s t f i j h k

    in_all : (s : Grouped) (f : ℕ) → In spaces s → In (O s) f → In all f
    in_all s f i h = in_flat_map O spaces s f i h

    pool_apart : (f : ℕ) → In all f → In pool f → ⊥
    pool_apart = once_apart all pool sound.each_once

    -- a table below a root is no root
    no_root : (s : Grouped) → In spaces s → (f : ℕ) → In (B s) f → (t : Grouped) → In spaces t → f ≡ t.space.root → ⊥
    no_root s i f h t j e =
        let same : s ≡ t = same_space s t f i j (inr h) (inl (sym e)) in
        (once_own s i).0 (subst (In (B s)) (e ∙ ap root (sym same)) h)

    one_index : (s : Grouped) → In spaces s → (j k f : ℕ) → In indices j → In indices k → In (P s j) f → In (P s k) f → j ≡ k
    one_index s i j k f a b h g = same_part (P s) indices (once_own s i).1 j k f a b h g

    module _ (s : Grouped) (i : In spaces s) where
      module _ (k : ℕ) (at : In indices k) where
        abbrev first : Grouped
        first = owner spaces s k

        pub is_space : In spaces first
        is_space = owner_in spaces k s i

        itself : owns spaces first k ≡ true
        itself = eq-eqb (owner spaces first k).space.root first.space.root (ap root (owner_again spaces k s i))

        in_first : (f : ℕ) → In (part n (V first) first.space.root k) f → In (P first k) f
        in_first f h = subst (λ b. In (cond b (part n (V first) first.space.root k) []) f) (sym itself) h

        below_first : (f : ℕ) → In (P first k) f → In (B first) f
        below_first f h = in_flat_map (P first) indices k f at h

        -- below a shared index it has the tables of the first one: none of them is a root, so both see the same words there
        same_below : part n (V first) first.space.root k ≡ part n (V s) s.space.root k
        same_below = part_by n (V first) (V s) first.space.root s.space.root k (sym ((sound.alike s i).alike k)) (λ f h.
            seen_elsewhere T first.space f (no_root first is_space f (below_first f (in_first f h)) first is_space)
            ∙ sym (seen_elsewhere T s.space f (no_root first is_space f (below_first f (in_first f h)) s i)))

        pub in_part : (f : ℕ) → In (part n (V s) s.space.root k) f → In (P first k) f
        in_part f h = in_first f (subst (λ xs. In xs f) (sym same_below) h)

        pub once_at : EachOnce (part n (V s) s.space.root k)
        once_at = subst EachOnce same_below (subst (λ b. EachOnce (cond b (part n (V first) first.space.root k) [])) itself
            (once_part (P first) indices (once_own first is_space).1 k at))

      -- the space among whose own tables is the one at a path
      pub where_is : (q : List ℕ) (f : ℕ) → frame_at (suc n) (V s) s.space.root q ≡ Some f → (t : Grouped) × In spaces t × In (O t) f
      where_is [] f e = (s, i, inl (same_Some s.space.root f e))
      where_is (k ∷ p) f e = let h = in_below n (V s) s.space.root k p f e in let at = in_indices k h.0 in
          (owner spaces s k, is_space k at, inr (below_first k at f (in_part k at f h.1)))

      -- an index below which it is
      pub below : (k : ℕ) (p : List ℕ) (f : ℕ) → frame_at (suc n) (V s) s.space.root (k ∷ p) ≡ Some f → In indices k × In (P (owner spaces s k) k) f
      below k p f e = let h = in_below n (V s) s.space.root k p f e in let at = in_indices k h.0 in (at, in_part k at f h.1)

      pub not_root : (k : ℕ) (p : List ℕ) (f : ℕ) → frame_at (suc n) (V s) s.space.root (k ∷ p) ≡ Some f → (t : Grouped) → In spaces t → f ≡ t.space.root → ⊥
      not_root k p f e = let h = below k p f e in no_root (owner spaces s k) (is_space k h.0) f (below_first k h.0 f h.1)

      once_parts : EachOnce (flat_map (part n (V s) s.space.root) indices)
      once_parts = once_lists (λ k. k) (part n (V s) s.space.root) indices (once_map (λ k. k) indices once_indices (λ x y a b e. e)) once_at
          (λ j k f a b differ h g.
          let x = in_part j a f h in let y = in_part k b f g in
          let same = same_space (owner spaces s j) (owner spaces s k) f (is_space j a) (is_space k b) (inr (below_first j a f x)) (inr (below_first k b f y)) in
          differ (one_index (owner spaces s j) (is_space j a) j k f a b x (subst (λ (t : Grouped). In (P t k) f) (sym same) y)))

      not_itself : In (flat_map (part n (V s) s.space.root) indices) s.space.root → ⊥
      not_itself h = let k = from_flat_map (part n (V s) s.space.root) indices s.space.root h in
          no_root (owner spaces s k.0) (is_space k.0 k.1) s.space.root (below_first k.0 k.1 s.space.root (in_part k.0 k.1 s.space.root k.2)) s i refl

      once_tables : EachOnce (tables_from (suc n) (V s) s.space.root)
      unfolding tables_from
      once_tables = (not_itself, once_parts)

      listed : (f : ℕ) → In (tables_from (suc n) (V s) s.space.root) f → In all f
      listed f h = let p = from_tables (suc n) (V s) s.space.root f h in let t = where_is p.0 f p.1 in in_all t.0 f t.1 t.2

      -- a root among its tables is its own
      root_is : (f : ℕ) → In (tables_from (suc n) (V s) s.space.root) f → In (roots_of (spaces_of spaces)) f → f ≡ s.space.root
      root_is f h is_root = let p = from_tables (suc n) (V s) s.space.root f h in let t = from_roots spaces f is_root in by p.0 p.1 t.0 t.1 (sym t.2)
        where
          by : (q : List ℕ) → frame_at (suc n) (V s) s.space.root q ≡ Some f → (t : Grouped) → In spaces t → f ≡ t.space.root → f ≡ s.space.root
          by [] e t j d = sym (same_Some s.space.root f e)
          by (k ∷ p) e t j d = absurd (not_root k p f e t j d)

      sound_root : SoundTables (suc n) (V s) s.space.root serves pool
      sound_root = record {
        none_huge = (sound.alike s i).none_huge;
        each_once = once_append (tables_from (suc n) (V s) s.space.root) pool once_tables (once_right all pool sound.each_once) (λ f h k. pool_apart f (listed f h) k);
        in_memory = λ f h. still_there s.space.recursive s.space.root T f (⊎_elim
            (λ x. sound.in_memory f (in_left all pool f (listed f x)))
            (λ x. sound.in_memory f (in_right all pool f x))
            (in_append (tables_from (suc n) (V s) s.space.root) pool f h));
        served = λ f h. ⊎_elim
            (λ x. ⊎_elim (λ is_root. inl (root_is f x is_root)) (λ served. inr served) (sound.served f (in_left all pool f (listed f x))))
            (λ x. ⊎_elim
            (λ is_root. let t = from_roots spaces f is_root in absurd (pool_apart f (in_all t.0 f t.1 (inl t.2)) x))
            (λ served. inr served)
            (sound.served f (in_right all pool f x)))
            (in_append (tables_from (suc n) (V s) s.space.root) pool f h);
      }

      root_fits : PoolFits (layout s laid_in m) serves pool
      root_fits = sound_fits (suc n) (window_in T s.space.root s.space.recursive) T s.space.root serves pool (λ f. mappings_show_frames m places mapping f) refl
          (sound.alike s i).self (subst (λ (U : Words). SoundTables (suc n) U s.space.root serves pool) (sym (seen_outside T s.space)) sound_root)

    module _ (s t : Grouped) (i : In spaces s) (j : In spaces t) (differ : s.space.root ≢ t.space.root) where
      both : (k : ℕ) (b : Bool) → sharing s.space.root t.space.root k ≡ b → are_one (s.group k) (t.group k) ≡ b
      both k b e = sym (sharing_is spaces once_roots s t i j k) ∙ e

      -- no table of both is below an index that they don't share
      clash : (q p : List ℕ) (f : ℕ) → is_shared (sharing s.space.root t.space.root) q ≡ false
          → frame_at (suc n) (V t) t.space.root q ≡ Some f → frame_at (suc n) (V s) s.space.root p ≡ Some f → ⊥
      clash [] [] f off e d = differ (same_Some s.space.root f d ∙ sym (same_Some t.space.root f e))
      clash [] (k ∷ p) f off e d = not_root s i k p f d t j (sym (same_Some t.space.root f e))
      clash (k ∷ q) [] f off e d = not_root t j k q f e s i (sym (same_Some s.space.root f d))
      clash (l ∷ q) (k ∷ p) f off e d =
          let x = below t j l q f e in let y = below s i k p f d in
          let is_t = is_space t j l x.0 in let is_s = is_space s i k y.0 in
          let same : owner spaces t l ≡ owner spaces s k = same_space (owner spaces t l) (owner spaces s k) f is_t is_s
          (inr (below_first t j l x.0 f x.1)) (inr (below_first s i k y.0 f y.1)) in
          let index : l ≡ k = one_index (owner spaces t l) is_t l k f x.0 y.0 x.1 (subst (λ (u : Grouped). In (P u k) f) (sym same) y.1) in
          let first : owner spaces s l ≡ owner spaces t l = ap (owner spaces s) index ∙ sym same in
          differ (ap root (one_owner spaces l s t i j first (both l false off)))

      roots_share : Shares (sharing s.space.root t.space.root) (layout s) m pool (layout t)
      roots_share = record {
        places = refl;
        levels = refl;
        valid = (root_fits t j).valid;
        root_entries = λ k on. root_entry t (root_fits t j) k ∙ (sound.alike t j).alike k
            ∙ ap (λ (u : Grouped). word (V u) u.space.root k) (sym (owner_same spaces k s t i (both k true on)))
            ∙ sym ((sound.alike s i).alike k) ∙ sym (root_entry s (root_fits s i) k);
        apart = λ q f off leads own. ⊎_elim
            (λ free. let u = where_is t j q f (sym (table_frame t q) ∙ leads) in pool_apart f (in_all u.0 f u.1 u.2) free)
            (λ p. clash q p.0 f off (sym (table_frame t q) ∙ leads) (sym (table_frame s p.0) ∙ p.1))
            own;
      }

    spaces_are : ArePaired sharing m serves pool layouts
    spaces_are = record {
      fits = λ a h. let x = from_layouts a h in subst (λ (l : Layout). PoolFits (l laid_in m) serves pool) x.2 (root_fits x.0 x.1);
      own_roots = λ a b h k e. let x = from_layouts a h in let y = from_layouts b k in
          let same : x.0.space.root ≡ y.0.space.root = ap (λ (l : Layout). l.root) x.2 ∙ e ∙ sym (ap (λ (l : Layout). l.root) y.2) in
          sym x.2 ∙ ap layout (same_space x.0 y.0 x.0.space.root x.1 y.1 (inl refl) (inl (sym same))) ∙ y.2;
      share = λ a b h k differ. let x = from_layouts a h in let y = from_layouts b k in
          subst (λ (l : Layout). Shares (sharing l.root b.root) l m pool b) x.2 (subst (λ (l : Layout). Shares (sharing x.0.space.root l.root) (layout x.0) m pool l) y.2
          (roots_share x.0 y.0 x.1 y.1 (λ e. differ (ap (λ (l : Layout). l.root) (sym x.2) ∙ e ∙ ap (λ (l : Layout). l.root) y.2))));
    }

    -- the table that a path of one of the hierarchies leads to is in the list
    pub table_listed : (s : Grouped) → In spaces s → (q : List ℕ) (f : ℕ) → table_at (suc (suc n)) s.space.root (paths (layout s laid_in m)) q ≡ Some f → In all f
    table_listed s i q f leads = listed s i f (in_tables (suc n) (V s) s.space.root q f (sym (table_frame s q) ∙ leads))

    are_spaces : EachOnce (roots_of (spaces_of spaces)) × ArePaired sharing m serves pool layouts
    are_spaces = (subst EachOnce (roots_are spaces) once_roots, spaces_are)

  -- ---- address spaces

  module _ (once : EachOnce (roots_of (spaces_of spaces))) (are : ArePaired sharing m serves pool layouts) where
    own_roots : EachOnce (map root spaces)
    own_roots = subst EachOnce (sym (roots_are spaces)) once

    fits_root : (s : Grouped) → In spaces s → PoolFits (layout s laid_in m) serves pool
    fits_root s i = are.fits (layout s) (in_layouts s i)

    share_root : (s t : Grouped) → In spaces s → In spaces t → s.space.root ≢ t.space.root → Shares (sharing s.space.root t.space.root) (layout s) m pool (layout t)
    share_root s t i j = are.share (layout s) (layout t) (in_layouts s i) (in_layouts t j)

    sound_of : (s : Grouped) → In spaces s → SoundTables (suc n) (V s) s.space.root serves pool
    sound_of s i = subst (λ (U : Words). SoundTables (suc n) U s.space.root serves pool) (seen_outside T s.space)
        (fits_sound (suc n) (window_in T s.space.root s.space.recursive) T s.space.root serves pool (λ f. mappings_show_frames m places mapping f) (fits_root s i))

    alike_root : (s : Grouped) → In spaces s → (k : ℕ) → word (V s) s.space.root k ≡ word (V (owner spaces s k)) (owner spaces s k).space.root k
    alike_root s i k =
        let first = owner spaces s k in
        let j = owner_in spaces k s i in ⊎_elim
        (λ e. ap (λ (s : Grouped). word (V s) s.space.root k) (sym e))
        (λ one. ⊎_elim
        (λ e. ap (λ (s : Grouped). word (V s) s.space.root k) (same_keys root spaces own_roots s first i j e))
        (λ differ. sym (root_entry s (fits_root s i) k)
        ∙ (share_root first s j i (λ e. differ (sym e))).root_entries k (sharing_is spaces own_roots first s j i k ∙ one)
        ∙ root_entry first (fits_root first j) k)
        (cases_eq s.space.root first.space.root))
        (owner_shares spaces k s i)

    leads : (s : Grouped) (q : List ℕ) (f : ℕ) → frame_at (suc n) (V s) s.space.root q ≡ Some f → table_at (suc (suc n)) s.space.root (paths (layout s laid_in m)) q ≡ Some f
    leads s q f e = table_frame s q ∙ e

    once_of : (s : Grouped) → In spaces s → EachOnce (tables_from (suc n) (V s) s.space.root)
    once_of s i = once_left (tables_from (suc n) (V s) s.space.root) pool (sound_of s i).each_once

    own_once : (s : Grouped) → In spaces s → EachOnce (O s)
    unfolding tables_from
    own_once s i = (
      λ h. let k = from_yes (owns spaces s) (part n (V s) s.space.root) indices s.space.root h in
          (once_of s i).0 (in_flat_map (part n (V s) s.space.root) indices k.0 s.space.root k.1 k.3),
      once_yes (owns spaces s) (part n (V s) s.space.root) indices (once_of s i).1,
    )

    -- a table of both below an index that they share is one of the first that shares it
    module _ (s t : Grouped) (f : ℕ) (i : In spaces s) (j : In spaces t) (differ : s.space.root ≢ t.space.root) where
      one_first : (q : List ℕ) → is_shared (sharing s.space.root t.space.root) q ≡ true → is_own s q ≡ true → is_own t q ≡ true → ⊥
      one_first [] on a b = cc
      one_first (k ∷ q) on a b = differ (sym (eqb-true (owner spaces s k).space.root s.space.root a)
          ∙ ap root (owner_same spaces k s t i (sym (sharing_is spaces own_roots s t i j k) ∙ on))
          ∙ eqb-true (owner spaces t k).space.root t.space.root b)

      same_path : (p q : List ℕ) → is_shared (sharing s.space.root t.space.root) q ≡ true
          → frame_at (suc n) (V s) s.space.root p ≡ Some f → frame_at (suc n) (V t) t.space.root q ≡ Some f → p ≡ q
      same_path p q on e d =
          let shares = share_root s t i j differ in
          let some : 0 < suc (suc n) = omega arith in
          let same = shared_entries_are_the_same (sharing s.space.root t.space.root) (layout s) (layout t) mapping some serves m pool (fits_root s i) shares q on in
          (fits_root s i).valid.valid.own_frames p q f (leads s p f e)
          (shared_table (sharing s.space.root t.space.root) (suc (suc n)) (suc (suc n)) s.space.root t.space.root (paths (layout s laid_in m)) (paths (layout t laid_in m)) q refl on (sym same)
          ∙ leads t q f d)

      own_apart : In (O s) f → In (O t) f → ⊥
      own_apart h g = let x = from_own s f h in let y = from_own t f g in ⊎_elim
          (λ on. one_first y.0 on (subst (λ q. is_own s q ≡ true) (same_path x.0 y.0 on x.2 y.2) x.1) y.1)
          (λ off. (share_root s t i j differ).apart y.0 f off (leads t y.0 f y.2) (inr (x.0, leads s x.0 f x.2)))
          (cases_Bool (is_shared (sharing s.space.root t.space.root) y.0))

    -- each table of the list is one of some root
    of_root : (f : ℕ) → In all f → (s : Grouped) × In spaces s × In (tables_from (suc n) (V s) s.space.root) f
    of_root f h = let s = from_flat_map O spaces f h in let x = from_own s.0 f s.2 in (s.0, s.1, in_tables (suc n) (V s.0) s.0.space.root x.0 f x.2)

    -- a path of one of the hierarchies leads to each table in the list
    pub led_to : (f : ℕ) → In all f → (s : Grouped) × In spaces s × ((q : List ℕ) × (table_at (suc (suc n)) s.space.root (paths (layout s laid_in m)) q ≡ Some f))
    led_to f h = let s = of_root f h in let p = from_tables (suc n) (V s.0) s.0.space.root f s.2 in (s.0, s.1, (p.0, leads s.0 p.0 f p.1))

    free_apart : (f : ℕ) → In all f → In pool f → ⊥
    free_apart f h k = let s = of_root f h in once_apart (tables_from (suc n) (V s.0) s.0.space.root) pool (sound_of s.0 s.1).each_once f s.2 k

    spaces_sound : (first : Grouped) → In spaces first → SoundSpaces spaces n T serves pool
    spaces_sound first member = record {
      alike = λ s i. record { self = (fits_root s i).valid.self; none_huge = (sound_of s i).none_huge; alike = alike_root s i };
      each_once = once_append all pool
          (once_lists root O spaces own_roots own_once (λ s t f i j differ. own_apart s t f i j differ))
          (fits_root first member).each_once free_apart;
      in_memory = λ f h. ⊎_elim
          (λ x. let s = of_root f x in was_there s.0.space.recursive s.0.space.root T f ((sound_of s.0 s.1).in_memory f (in_left (tables_from (suc n) (V s.0) s.0.space.root) pool f s.2)))
          (λ x. (fits_root first member).in_memory f x)
          (in_append all pool f h);
      served = λ f h. ⊎_elim
          (λ x. let s = of_root f x in ⊎_elim
          (λ e. inl (subst (In (roots_of (spaces_of spaces))) (sym e) (in_roots spaces s.0 s.1)))
          (λ served. inr served)
          ((sound_of s.0 s.1).served f (in_left (tables_from (suc n) (V s.0) s.0.space.root) pool f s.2)))
          (λ x. inr ((fits_root first member).serves_pool f x))
          (in_append all pool f h);
    }

  module _ (first : Grouped) (member : In spaces first) where
    pub sound_is_spaces : SoundSpaces spaces n T serves pool ↔ EachOnce (roots_of (spaces_of spaces)) × ArePaired sharing m serves pool layouts
    sound_is_spaces = (are_spaces, λ x. spaces_sound x.0 x.1 first member)

    -- with the number of levels as the caller has it
    pub fits_at : (L : ℕ) → suc (suc n) ≡ L → SoundSpaces spaces n T serves pool
        ↔ EachOnce (roots_of (spaces_of spaces)) × ArePaired sharing m serves pool (layouts_of L places m (spaces_of spaces))
    fits_at L more = subst (λ L. SoundSpaces spaces n T serves pool ↔ EachOnce (roots_of (spaces_of spaces)) × ArePaired sharing m serves pool (layouts_of L places m (spaces_of spaces))) more sound_is_spaces
