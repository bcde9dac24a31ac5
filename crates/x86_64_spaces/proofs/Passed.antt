-- What the test of address spaces knows while it goes through them.
use Rattle.std.proofs.Common.{◌≡◌, ◌⊎◌, ◌↔◌, inl, inr, ⊎_elim, ◌<◌, ◌≤◌, ◌+◌, ℕ, Bool, true, false, cond, List, [], ◌∷◌, ◌++◌, length, get_or, take, drop, Some, None, Option, IsSome, IsTrue, replicate, refl, sym, ap, ◌∙◌, subst, add-one, arith}
use Rattle.std.proofs.Math.Seq.{take-suc}
use Rattle.std.proofs.lemmas.Grind.{flat_map-append}
use Rattle.std.proofs.lemmas.List.{append-nil, take_all, take-append-drop}
use Rattle.std.specs.FinMap.{keys}
use Rattle.std.specs.List.{flat_map}
use Rattle.x86_64_model.specs.Lists.{In, EachOnce}
use Rattle.x86_64_model.specs.Memory.{Memory, Places, Words, IsMapping, words_of}
use Rattle.x86_64_model.specs.Pool.{serves_below}
use Rattle.x86_64_model.specs.private.Marks.{spot_of, mark_all}
use Rattle.x86_64_model.proofs.Lemmas.Lists.Members.{in_left, in_right, in_append, in_flat_map}
use Rattle.x86_64_model.proofs.Lemmas.Lists.Once.{once_left, once_apart, same_part}
use Rattle.x86_64_spaces.specs.SpaceGroups.{Grouped, spaces_of}
use Rattle.x86_64_spaces.specs.SpaceLayouts.{roots_of}
use Rattle.x86_64_spaces.specs.private.SpaceTables.{grouped_at, own_tables, space_tables, IsAlike, SoundSpaces}
use Rattle.x86_64_spaces.proofs.Groups.{root, from_roots, in_roots}
use Rattle.x86_64_spaces.proofs.Spots.{May, all_may, by_spots, was_marked, first_part, second_part, are_there, can_mark}
use Rattle.x86_64_tables.specs.Views.{mark_slot}
use Rattle.x86_64_tables.proofs.CountedMarks.{marked, marked_all, none_marked}

none_some : {X : Type 0} (o : Option X) → None ≡ o → IsSome o → ⊥
none_some None e h = cc
none_some (Some x) e h = cc

module _ (n : ℕ) (memory : Memory) (places : Places) (spaces : List Grouped) (limit : ℕ) (marks : List Bool) where
  abbrev T : Words
  T = words_of memory places

  abbrev serves : ℕ → Bool
  serves = serves_below limit

  abbrev spot : ℕ → Option ℕ
  spot = spot_of memory places

  abbrev slot : Grouped → ℕ → Option ℕ
  slot s = mark_slot memory places s.space.root limit

  abbrev O : Grouped → List ℕ
  O s = own_tables spaces n T s

  abbrev all : List ℕ
  all = space_tables spaces n T

  abbrev Sound : (pool : List ℕ) → Type 0
  Sound pool = SoundSpaces spaces n T serves pool

  -- what is sound with a pool is sound without
  pub sound_alone : (pool : List ℕ) → Sound pool → Sound []
  sound_alone pool sound = record {
    alike = sound.alike;
    each_once = subst EachOnce (sym (append-nil all)) (once_left all pool sound.each_once);
    in_memory = λ f h. sound.in_memory f (in_left all pool f (subst (λ xs. In xs f) (append-nil all) h));
    served = λ f h. sound.served f (in_left all pool f (subst (λ xs. In xs f) (append-nil all) h));
  }

  -- the marks that are set after the tables and the pool
  pub all_counted : marks ≡ replicate (length (keys memory)) false → (m : List Bool) → mark_all spot marks all ≡ Some m
      → (first : Grouped) (pool : List ℕ) (new : List Bool) → Some new ≡ mark_all (slot first) m pool → marked new ≡ length all + length pool
  all_counted clear m tables first pool new e =
      let none = none_marked marks (length (keys memory)) clear in
      let before = marked_all spot marks m all tables in
      let after = marked_all (slot first) m new pool (sym e) in
      omega (arith, none, before, after)

  -- ---- on the way

  abbrev tables : ℕ → List ℕ
  tables k = flat_map O (take k spaces)

  abbrev Allowed : ℕ → Type 0
  Allowed f = In (roots_of (spaces_of spaces)) f ⊎ (serves f ≡ true)

  -- the first spaces are alike, and their tables are marked
  pub record Passed (k : ℕ) (m : List Bool) : Type 0 where
    pub alike : (s : Grouped) → In (take k spaces) s → IsAlike spaces n T s
    pub allowed : (f : ℕ) → In (tables k) f → Allowed f
    pub marked : mark_all spot marks (tables k) ≡ Some m

  module _ (mapping : IsMapping places) (clear : (k : ℕ) → k < length (keys memory) → get_or marks k true ≡ false) where
    -- ---- of sound spaces

    module _ (pool : List ℕ) (sound : Sound pool) where
      can_mark_all : IsSome (mark_all spot marks (all ++ pool))
      can_mark_all = can_mark memory places mapping marks clear (all ++ pool) sound.each_once sound.in_memory

      once_all : EachOnce all
      once_all = once_left all pool sound.each_once

      in_own : (s : Grouped) (f : ℕ) → In spaces s → In (O s) f → In all f
      in_own s f i h = in_flat_map O spaces s f i h

      own_may : (s : Grouped) → In spaces s → (f : ℕ) → In (O s) f → May spot s.space.root serves f
      own_may s i f h = ⊎_elim
          (λ is_root. let t = from_roots spaces f is_root in inl (sym t.2 ∙ ap root (same_part O spaces once_all t.0 s f t.1 i (inl t.2) h)))
          (λ s. inr s)
          (sound.served f (in_left all pool f (in_own s f i h)))

      free_may : (first : Grouped) (f : ℕ) → In pool f → May spot first.space.root serves f
      free_may first f h = ⊎_elim
          (λ is_root. let s = from_roots spaces f is_root in absurd (once_apart all pool sound.each_once f (in_own s.0 f s.1 (inl s.2)) h))
          (λ s. inr s)
          (sound.served f (in_right all pool f h))

      can_mark_tables : IsSome (mark_all spot marks all)
      can_mark_tables = first_part spot marks all pool can_mark_all

    -- ---- the steps

    met_by : (s : Grouped) → In spaces s → (fs : List ℕ) (m m' : List Bool) → Some m' ≡ mark_all (slot s) m fs → (f : ℕ) → In fs f → Allowed f
    met_by s i fs m m' e f h = ⊎_elim
        (λ is. inl (subst (In (roots_of (spaces_of spaces))) (sym is) (in_roots spaces s i)))
        (λ served. inr served)
        (all_may spot s.space.root serves m fs (subst IsSome e refl) f h)

    pub begun : Passed 0 marks
    unfolding mark_all
    begun = record { alike = λ s h. absurd h; allowed = λ f h. absurd h; marked = refl }

    module _ (k : ℕ) (m : List Bool) (passed : Passed k m) (within : k < length spaces) where
      abbrev s : Grouped
      s = grouped_at spaces k

      one_more : take (k + 1) spaces ≡ take k spaces ++ (s ∷ [])
      one_more = ap (λ k. take k spaces) (add-one k) ∙ take-suc spaces k (record { space = record { root = 0; recursive = None }; group = λ i. None }) within

      more_tables : tables (k + 1) ≡ tables k ++ O s
      more_tables = ap (flat_map O) one_more ∙ flat_map-append O (take k spaces) (s ∷ []) ∙ ap (λ xs. flat_map O (take k spaces) ++ xs) (append-nil (O s))

      pub is_space : In spaces s
      is_space = subst (λ xs. In xs s) (take-append-drop (k + 1) spaces)
          (in_left (take (k + 1) spaces) (drop (k + 1) spaces) s (subst (λ xs. In xs s) (sym one_more) (in_right (take k spaces) (s ∷ []) s (inl refl))))

      pub further : IsAlike spaces n T s → (m' : List Bool) → Some m' ≡ mark_all (slot s) m (O s) → Passed (k + 1) m'
      further like m' e = record {
        alike = λ t h. ⊎_elim (λ i. passed.alike t i) (⊎_elim (λ (same : s ≡ t). subst (λ (s : Grouped). IsAlike spaces n T s) same like) (λ none. absurd none))
            (in_append (take k spaces) (s ∷ []) t (subst (λ xs. In xs t) one_more h));
        allowed = λ f h. ⊎_elim (passed.allowed f) (met_by s is_space (O s) m m' e f) (in_append (tables k) (O s) f (subst (λ xs. In xs f) more_tables h));
        marked = ap (mark_all spot marks) more_tables ∙ second_part spot marks m (tables k) (O s) passed.marked ∙ was_marked spot s.space.root serves (O s) m m' (sym e);
      }

      all_tables : all ≡ tables (k + 1) ++ flat_map O (drop (k + 1) spaces)
      all_tables = ap (flat_map O) (sym (take-append-drop (k + 1) spaces)) ∙ flat_map-append O (take (k + 1) spaces) (drop (k + 1) spaces)

      pub stopped : None ≡ mark_all (slot s) m (O s) → (pool : List ℕ) → Sound pool → ⊥
      stopped e pool sound =
          let some = first_part spot marks (tables (k + 1)) (flat_map O (drop (k + 1) spaces)) (subst (λ xs. IsSome (mark_all spot marks xs)) all_tables (can_mark_tables pool sound)) in
          let own = subst IsSome (ap (mark_all spot marks) more_tables ∙ second_part spot marks m (tables k) (O s) passed.marked) some in
          none_some (mark_all (slot s) m (O s)) e (subst IsSome (sym (by_spots spot s.space.root serves (O s) (own_may pool sound s is_space) m)) own)

    -- ---- after all spaces

    module _ (k : ℕ) (m : List Bool) (passed : Passed k m) (past : length spaces ≤ k) where
      taken : take k spaces ≡ spaces
      taken = take_all k spaces past

      pub all_marked : mark_all spot marks all ≡ Some m
      all_marked = subst (λ (xs : List Grouped). mark_all spot marks (flat_map O xs) ≡ Some m) taken passed.marked

      pub done : Sound []
      done =
          let there = are_there memory places mapping marks clear (all ++ []) (subst IsSome (sym (ap (mark_all spot marks) (append-nil all) ∙ all_marked)) refl) in
          record {
            alike = λ s i. passed.alike s (subst (λ (xs : List Grouped). In xs s) (sym taken) i);
            each_once = there.0;
            in_memory = there.1;
            served = λ f h. passed.allowed f (subst (λ (xs : List Grouped). In (flat_map O xs) f) (sym taken) (subst (λ xs. In xs f) (append-nil all) h));
          }

    -- ---- the pool is marked after the tables

    module _ (alone : Sound []) (m : List Bool) (tables_marked : mark_all spot marks all ≡ Some m) (first : Grouped) (member : In spaces first) (pool new : List _) where
      with_pool : Some new ≡ mark_all (slot first) m pool → Sound pool
      with_pool e =
          let marked = second_part spot marks m all pool tables_marked ∙ was_marked spot first.space.root serves pool m new (sym e) in
          let there = are_there memory places mapping marks clear (all ++ pool) (subst IsSome (sym marked) refl) in
          record {
            alike = alone.alike;
            each_once = there.0;
            in_memory = there.1;
            served = λ f h. ⊎_elim
                (λ i. alone.served f (in_left all [] f i))
                (λ i. met_by first member pool m new e f i)
                (in_append all pool f h);
          }

      pub pool_tells : (b : Bool) → cond b (Some new) None ≡ mark_all (slot first) m pool → IsTrue b ↔ Sound pool
      pool_tells true e = (λ _. with_pool e, λ _. refl)
      pool_tells false e = (
        λ t. cc,
        λ sound. absurd (none_some (mark_all (slot first) m pool) e (subst IsSome (sym (by_spots spot first.space.root serves pool (free_may pool sound first) m))
            (subst IsSome (second_part spot marks m all pool tables_marked) (can_mark_all pool sound)))),
      )
