-- Which calls change nothing below shared indices, and which leave the root's entries there.
use Rattle.std.proofs.Common.{zero, suc, ◌≡◌, ◌≢◌, ⊎_elim, ◌||◌, find, map, Some, ◌≤◌, ◌<◌, ◌+◌, ◌-◌, ℕ, ◌==◌, ◌&&◌, nat_lt, not, Bool, true, false, cond, List, [], ◌∷◌, length, take, Option, bit_or, refl, sym, ap, ◌∙◌, arith, eq-eqb, ne_eqb}
use Rattle.std.specs.List.{AllByRecursion}
use Rattle.std.proofs.lemmas.Bool.{and_parts, or_cases, not-true, cases_Bool, cases_eq}
use Rattle.x86_64_model.specs.Allowed.{none_absent, parents_present, allowed}
use Rattle.x86_64_model.specs.Call.{IsCall, Call, MapTo, MapToWithTableFlags, IdentityMap, Unmap, UpdateFlags, SetFlags, TranslatePage, Translate, TranslateAddress, CleanUp}
use Rattle.x86_64_model.specs.CleanUp.{meets, in_range, is_removed, clean_up}
use Rattle.x86_64_model.specs.Entry.{IsParentFlags, used, present, huge}
use Rattle.x86_64_model.specs.Laws.Spaces.{CallsKeepBelow, CallsKeepRootEntries, PinnedEntriesStay}
use Rattle.x86_64_model.specs.Laws.Steps.{AllCalls}
use Rattle.x86_64_model.specs.Machine.{State, do_call, step, state_after}
use Rattle.x86_64_model.specs.MapRule.{map_call, leaf_entry, parent_part}
use Rattle.x86_64_model.specs.Hierarchy.{◌laid_in◌, state_in, paths, words}
use Rattle.x86_64_model.specs.Path.{IsPage, parents, path_at}
use Rattle.x86_64_model.specs.PathMap.{PathMap, entry, put}
use Rattle.x86_64_model.specs.Pool.{TakesBack}
use Rattle.x86_64_model.specs.Spaces.{is_shared, Avoids, HasFlags, LeavesRootEntry}
use Rattle.x86_64_model.specs.Window.{Window}
use Rattle.x86_64_model.proofs.Lemmas.Entries.Bits.{unused_absent}
use Rattle.x86_64_model.proofs.Lemmas.CleanUps.Keys.{entry-cleaned}
use Rattle.x86_64_model.proofs.Lemmas.CleanUps.Removed.{removed_gives, in_range_parts}
use Rattle.x86_64_model.proofs.Lemmas.Hierarchies.Trees.{IsTree, IsHierarchy}
use Rattle.x86_64_model.proofs.Lemmas.Lists.All.{all_mapped}
use Rattle.x86_64_model.proofs.Lemmas.Machines.Changes.{unmap_change, update_change, set_flags_change}
use Rattle.x86_64_model.proofs.Lemmas.Machines.Effects.{machine, map_may, page_of_level, step_cases}
use Rattle.x86_64_model.proofs.Lemmas.Machines.Fitting.{sound_of_fits}
use Rattle.x86_64_model.proofs.Lemmas.Machines.States.{IsSound, step_sound}
use Rattle.x86_64_model.proofs.Lemmas.Maps.Accepted.{map_leaves, added_there}
use Rattle.x86_64_model.proofs.Lemmas.Maps.Rights.{map_grows}
use Rattle.x86_64_model.proofs.Lemmas.Maps.Trees.{page_descends, parents_begin}
use Rattle.x86_64_model.proofs.Lemmas.Paths.Puts.{entry-put_other}

-- ---- paths with shared first indices, and others

pub differ : (shared : ℕ → Bool) (r p : List ℕ) → is_shared shared r ≡ true → is_shared shared p ≡ false → r ≢ p
differ shared r p a b e = let z : true ≡ false = sym a ∙ ap (is_shared shared) e ∙ b in cc

parents_shared : (shared : ℕ → Bool) (q : List ℕ) → is_shared shared q ≡ false → AllByRecursion (λ p. is_shared shared p ≡ false) (parents q)
parents_shared shared [] h = tt
parents_shared shared (i ∷ q) h = all_mapped (λ p. (s : List ℕ) × (p ≡ i ∷ s)) (λ p. is_shared shared p ≡ false) (λ p x. ap (is_shared shared) x.1 ∙ h) (parents (i ∷ q)) (parents_begin i q)

pub front_shared : (shared : ℕ → Bool) (n : ℕ) (q : List ℕ) → 1 ≤ n → is_shared shared q ≡ false → is_shared shared (take n q) ≡ false
front_shared shared zero q l h = absurd (omega arith)
front_shared shared (suc n) [] l h = refl
front_shared shared (suc n) (i ∷ q) l h = h

-- ---- what maps and clean ups leave

pub map_avoids : (shared : ℕ → Bool) (L root more added : ℕ) (q : List ℕ) (frame given : ℕ) (M : PathMap) (supply : List ℕ) → IsTree L root M → is_shared shared q ≡ false
    → (r : List ℕ) → is_shared shared r ≡ true → entry (map_call L M supply more added q frame given).paths r ≡ entry M r
map_avoids shared L root more added q frame given M supply tree off r on =
    map_leaves more added q (leaf_entry L q frame given) frame r (differ shared r q on off) M supply (parents q) (page_descends L root M tree q)
    (all_mapped (λ p. is_shared shared p ≡ false) (λ p. r ≢ p) (λ p h. differ shared r p on h) (parents q) (parents_shared shared q off))

not_removed : (L : ℕ) (M : PathMap) (low high i : ℕ) (t : List ℕ) → meets L low high (i ∷ []) ≡ false → is_removed L M low high (i ∷ t) ≡ false
not_removed L M low high i t off = elim (is_removed L M low high (i ∷ t)) as (λ b. is_removed L M low high (i ∷ t) ≡ b → b ≡ false) [
  | true ↦ λ h. absurd (by t h)
  | false ↦ λ h. refl
] refl
  where
    no : in_range L M low high (i ∷ []) ≡ true → ⊥
    no h = let met : meets L low high (i ∷ []) ≡ true = (and_parts (nat_lt (length (i ∷ [])) L && present (entry M (i ∷ [])) && not (huge (entry M (i ∷ [])))) (meets L low high (i ∷ [])) h).1 in let z : true ≡ false = sym met ∙ off in cc

    by : (t : List ℕ) → is_removed L M low high (i ∷ t) ≡ true → ⊥
    by [] h = no (removed_gives L M low high (i ∷ []) h).itself
    by (j ∷ t) h = no (and_parts _ _ (removed_gives L M low high (i ∷ j ∷ t) h).above).0

clean_up_avoids : (shared : ℕ → Bool) (L : ℕ) (M : PathMap) (low high : ℕ) → ((i : ℕ) → shared i ≡ true → meets L low high (i ∷ []) ≡ false)
    → (r : List ℕ) → is_shared shared r ≡ true → entry (clean_up L M low high).paths r ≡ entry M r
clean_up_avoids shared L M low high off [] on = cc
clean_up_avoids shared L M low high off (i ∷ t) on = entry-cleaned L M low high (i ∷ t) ∙ ap (λ b. cond b 0 (entry M (i ∷ t))) (not_removed L M low high i t (off i on))

-- ---- calls that avoid the shared indices

module _ (shared : ℕ → Bool) (L : ℕ) (window : Option Window) (root added : ℕ) (take_back : List ℕ → ℕ → List ℕ) (s : State) (hierarchy : IsHierarchy L root s.paths) (r : List ℕ) (on : is_shared shared r ≡ true) where
  abbrev Same : PathMap → Type 0
  Same N = entry N r ≡ entry s.paths r

  put_avoids : (q : List ℕ) (w : ℕ) → is_shared shared q ≡ false → Same (put s.paths q w)
  put_avoids q w off = entry-put_other s.paths q w r (differ shared r q on off)

  maps_avoid : (q : List ℕ) (frame given more : ℕ) → is_shared shared q ≡ false → Same (map_call L s.paths s.pool more added q frame given).paths
  maps_avoid q frame given more off = map_avoids shared L root more added q frame given s.paths s.pool hierarchy.tree off r on

  done_avoids : (call : Call) → IsCall L call → allowed L window s.paths call ≡ true → Avoids L shared call → Same (do_call (machine L window added take_back) s call).state.paths
  unfolding do_call
  done_avoids (MapTo level page frame given) is h off = let q = path_at L level page in maps_avoid q frame given (parent_part given) off
  done_avoids (MapToWithTableFlags level page frame given more) is h off = let q = path_at L level page in maps_avoid q frame given more off
  done_avoids (IdentityMap level frame given) is h off = maps_avoid (path_at L level frame) frame given (parent_part given) off
  done_avoids (Unmap level page) is h off = let q = path_at L level page in unmap_change L window s.paths q (page_of_level L level page is) (not-true _ h) (λ c. Same c.paths) (λ why. refl) (λ c. put_avoids q _ off)
  done_avoids (UpdateFlags level page given) is h off = let q = path_at L level page in update_change L window s.paths q (page_of_level L level page is) (not-true _ (and_parts _ _ h).1) given (λ c. Same c.paths) (λ why. refl) (λ c. put_avoids q _ off)
  done_avoids (SetFlags at level page given) is h off = let q = path_at L level page in let a = and_parts _ _ h in let b = and_parts _ _ a.0 in let top = is.1 in
      set_flags_change L window root s.paths hierarchy at q given is.0 is.1 (page_of_level L level page is.2) (not-true _ b.1) b.0 a.1 (λ c. Same c.paths) (λ why. refl)
      (λ c. put_avoids _ _ (front_shared shared (L + 1 - at) q (omega (arith, top)) off))
  done_avoids (TranslatePage level page) is h off = refl
  done_avoids (Translate p) is h off = refl
  done_avoids (TranslateAddress p) is h off = refl
  done_avoids (CleanUp low high) is h off = clean_up_avoids shared L s.paths low high off r on

  pub step_avoids : (call : Call) → IsCall L call → Avoids L shared call → Same (step (machine L window added take_back) s call).state.paths
  step_avoids call is off = step_cases (machine L window added take_back) s call (λ after. Same after.state.paths) (λ h. done_avoids call is h off) refl

run_avoids : (shared : ℕ → Bool) (L : ℕ) (window : Option Window) (root : ℕ) (serves : ℕ → Bool) (added : ℕ) → IsParentFlags added → (take_back : List ℕ → ℕ → List ℕ) → TakesBack take_back
    → (calls : List Call) → AllCalls L calls → AllByRecursion (Avoids L shared) calls → (s : State) → IsSound L window root serves s → (r : List ℕ) → is_shared shared r ≡ true
    → entry (state_after (machine L window added take_back) s calls).paths r ≡ entry s.paths r
run_avoids shared L window root serves added adds take_back gives [] is off s sound r on = refl
run_avoids shared L window root serves added adds take_back gives (call ∷ calls) is off s sound r on =
    run_avoids shared L window root serves added adds take_back gives calls is.1 off.1 _ (step_sound L window root serves s sound added adds take_back gives call is.0) r on
    ∙ step_avoids shared L window root added take_back s sound.hierarchy r on call is.0 off.0

pub calls_keep_below : CallsKeepBelow
calls_keep_below shared layout adds take_back gives serves m n pool rest calls are fits led off q on =
    ap (λ (s : State). entry s.paths q) led
    ∙ run_avoids shared layout.levels layout.window layout.root serves layout.added_flags adds take_back gives calls are off (state_in layout m pool)
    (sound_of_fits layout.levels layout.window (words (layout laid_in m)) layout.root serves (state_in layout m pool) fits) q on

-- ---- calls that leave the root's entries

two_indices : (n : ℕ) (q : List ℕ) (i : ℕ) → 2 ≤ n → 2 ≤ length q → take n q ≢ i ∷ []
two_indices zero q i l k e = absurd (omega arith)
two_indices (suc zero) q i l k e = absurd (omega arith)
two_indices (suc (suc n)) [] i l k e = absurd (omega arith)
two_indices (suc (suc n)) (a ∷ []) i l k e = absurd (omega arith)
two_indices (suc (suc n)) (a ∷ b ∷ q) i l k e = cc

module _ (shared : ℕ → Bool) (L : ℕ) (four : 3 < L) (window : Option Window) (root added : ℕ) (take_back : List ℕ → ℕ → List ℕ) (s : State) (hierarchy : IsHierarchy L root s.paths)
    (E : ℕ → ℕ) (i : ℕ) (on : shared i ≡ true) (now : entry s.paths (i ∷ []) ≡ E i) where
  abbrev Kept : PathMap → Type 0
  Kept N = entry N (i ∷ []) ≡ entry s.paths (i ∷ [])

  -- no map of a page with another first index changes the root's entry
  elsewhere : (q : List ℕ) (frame given more : ℕ) → is_shared (λ k. k == i) q ≡ false → Kept (map_call L s.paths s.pool more added q frame given).paths
  elsewhere q frame given more off = map_avoids (λ k. k == i) L root more added q frame given s.paths s.pool hierarchy.tree off (i ∷ []) (eq-eqb i i refl)

  -- a map below an entry that isn't used isn't allowed, if it adds no flag to it
  not_allowed : (q : List ℕ) (more : ℕ) → IsPage L q → parents_present s.paths more q ≡ true → HasFlags shared E q more → used (entry s.paths (i ∷ [])) ≡ false → is_shared (λ k. k == i) q ≡ false
  not_allowed [] more page may has none = refl
  not_allowed (j ∷ q) more page may has none = ⊎_elim (λ same. absurd (by q page may (λ h. has h) same)) (λ n. ne_eqb j i n) (cases_eq j i)
    where
      absent : j ≡ i → present (entry s.paths (j ∷ [])) ≡ false
      absent same = ap (λ j. present (entry s.paths (j ∷ []))) same ∙ unused_absent _ none

      by : (q : List ℕ) → IsPage L (j ∷ q) → parents_present s.paths more (j ∷ q) ≡ true → (shared j ≡ true → bit_or (E j) more ≡ E j) → j ≡ i → ⊥
      by [] page may has same = let least = page.at_least in omega (arith, least, four)
      by (k ∷ q) page may has same = ⊎_elim
          (λ h. let t : true ≡ false = sym (added_there (E j) more 0x1 h) ∙ ap present (has (ap shared same ∙ on) ∙ ap E same ∙ sym now) ∙ unused_absent _ none in cc)
          (λ h. let first : none_absent s.paths (find (λ p. not (present (entry s.paths p)) || huge (entry s.paths p)) (parents (j ∷ k ∷ q))) ≡ false
          = ap (λ b. none_absent s.paths (cond (not b || huge (entry s.paths (j ∷ []))) (Some (j ∷ [])) (find (λ p. not (present (entry s.paths p)) || huge (entry s.paths p)) (map (λ p. j ∷ p) (parents (k ∷ q)))))) (absent same) ∙ absent same in
          let t : true ≡ false = sym h ∙ first in cc)
          (or_cases _ _ may)

  maps_spare : (q : List ℕ) (frame given more : ℕ) → IsPage L q → parents_present s.paths more q ≡ true → HasFlags shared E q more → Kept (map_call L s.paths s.pool more added q frame given).paths
  maps_spare q frame given more page may has = ⊎_elim
      (λ is_used. ⊎_elim (λ e. e) (λ e. by q has e)
      (map_grows more added q (leaf_entry L q frame given) frame s.paths s.pool (parents q) (page_descends L root s.paths hierarchy.tree q) (i ∷ []) is_used))
      (λ none. elsewhere q frame given more (not_allowed q more page may has none))
      (cases_Bool (used (entry s.paths (i ∷ []))))
    where
      by : (q : List ℕ) → HasFlags shared E q more → entry (map_call L s.paths s.pool more added q frame given).paths (i ∷ []) ≡ bit_or (entry s.paths (i ∷ [])) more
          → Kept (map_call L s.paths s.pool more added q frame given).paths
      by [] has e = elsewhere [] frame given more refl
      by (j ∷ q) has e = ⊎_elim
          (λ same. e ∙ ap (λ x. bit_or x more) (now ∙ ap E (sym same)) ∙ has (ap shared same ∙ on) ∙ ap E same ∙ sym now)
          (λ n. elsewhere (j ∷ q) frame given more (ne_eqb j i n))
          (cases_eq j i)

  put_longer : (q : List ℕ) (w : ℕ) → IsPage L q → Kept (put s.paths q w)
  put_longer q w page = entry-put_other s.paths q w (i ∷ []) (λ e. let most = page.at_least in let x : 1 ≡ length q = ap length e in absurd (omega (arith, x, most, four)))

  done_spares : (call : Call) → IsCall L call → allowed L window s.paths call ≡ true → LeavesRootEntry L shared E call → Kept (do_call (machine L window added take_back) s call).state.paths
  unfolding do_call
  done_spares (MapTo level page frame given) is h spares = let q = path_at L level page in maps_spare q frame given (parent_part given) (page_of_level L level page is) (map_may L window s.paths q given _ h).parents spares
  done_spares (MapToWithTableFlags level page frame given more) is h spares = let q = path_at L level page in maps_spare q frame given more (page_of_level L level page is) (map_may L window s.paths q given _ h).parents spares
  done_spares (IdentityMap level frame given) is h spares = maps_spare (path_at L level frame) frame given (parent_part given) (page_of_level L level frame is)
      (map_may L window s.paths (path_at L level frame) given _ (and_parts _ _ h).1).parents spares
  done_spares (Unmap level page) is h spares = let q = path_at L level page in unmap_change L window s.paths q (page_of_level L level page is) (not-true _ h) (λ c. Kept c.paths) (λ why. refl) (λ c. put_longer q _ (page_of_level L level page is))
  done_spares (UpdateFlags level page given) is h spares = let q = path_at L level page in update_change L window s.paths q (page_of_level L level page is) (not-true _ (and_parts _ _ h).1) given (λ c. Kept c.paths) (λ why. refl) (λ c. put_longer q _ (page_of_level L level page is))
  done_spares (SetFlags at level page given) is h spares = let q = path_at L level page in let a = and_parts _ _ h in let b = and_parts _ _ a.0 in let top = is.1 in let is_page = page_of_level L level page is.2 in let least = is_page.at_least in
      set_flags_change L window root s.paths hierarchy at q given is.0 is.1 is_page (not-true _ b.1) b.0 a.1 (λ c. Kept c.paths) (λ why. refl)
      (λ c. entry-put_other s.paths (take (L + 1 - at) q) _ (i ∷ []) (⊎_elim
      (λ mine e. let lower = spares mine in two_indices (L + 1 - at) q i (omega (arith, lower)) (omega (arith, least, four)) (sym e))
      (λ off. differ shared (i ∷ []) (take (L + 1 - at) q) on (front_shared shared (L + 1 - at) q (omega (arith, top)) off))
      (cases_Bool (is_shared shared q))))
  done_spares (TranslatePage level page) is h spares = refl
  done_spares (Translate p) is h spares = refl
  done_spares (TranslateAddress p) is h spares = refl
  done_spares (CleanUp low high) is h spares = clean_up_avoids shared L s.paths low high spares (i ∷ []) on

  step_spares : (call : Call) → IsCall L call → LeavesRootEntry L shared E call → Kept (step (machine L window added take_back) s call).state.paths
  step_spares call is spares = step_cases (machine L window added take_back) s call (λ after. Kept after.state.paths) (λ h. done_spares call is h spares) refl

run_spares : (shared : ℕ → Bool) (L : ℕ) → 3 < L → (window : Option Window) (root : ℕ) (serves : ℕ → Bool) (added : ℕ) → IsParentFlags added → (take_back : List ℕ → ℕ → List ℕ) → TakesBack take_back
    → (E : ℕ → ℕ) (i : ℕ) → shared i ≡ true
    → (calls : List Call) → AllCalls L calls → AllByRecursion (LeavesRootEntry L shared E) calls → (s : State) → IsSound L window root serves s → entry s.paths (i ∷ []) ≡ E i
    → entry (state_after (machine L window added take_back) s calls).paths (i ∷ []) ≡ E i
run_spares shared L four window root serves added adds take_back gives E i on [] is spares s sound now = now
run_spares shared L four window root serves added adds take_back gives E i on (call ∷ calls) is spares s sound now =
    run_spares shared L four window root serves added adds take_back gives E i on calls is.1 spares.1 _ (step_sound L window root serves s sound added adds take_back gives call is.0)
    (step_spares shared L four window root added take_back s sound.hierarchy E i on now call is.0 spares.0 ∙ now)

pub calls_keep_root_entries : CallsKeepRootEntries
calls_keep_root_entries shared layout four adds take_back gives serves m n pool rest calls are fits led spares i on =
    ap (λ (s : State). entry s.paths (i ∷ [])) led
    ∙ run_spares shared layout.levels four layout.window layout.root serves layout.added_flags adds take_back gives (λ i. entry (paths (layout laid_in m)) (i ∷ [])) i on calls are spares (state_in layout m pool)
    (sound_of_fits layout.levels layout.window (words (layout laid_in m)) layout.root serves (state_in layout m pool) fits) refl

-- ---- what keeps an entry of the root in a clean up

pub pinned_entries_stay : PinnedEntriesStay
pinned_entries_stay L M low high i q below is_used pin = entry-cleaned L M low high (i ∷ []) ∙ ap (λ b. cond b 0 (entry M (i ∷ []))) (
    elim (is_removed L M low high (i ∷ [])) as (λ b. is_removed L M low high (i ∷ []) ≡ b → b ≡ false) [
      | true ↦ λ h.
          let parts = in_range_parts L M low high q ((removed_gives L M low high (i ∷ []) h).below q below is_used) in
          let z : true ≡ false = sym (pin parts.0 parts.1) ∙ parts.2 in cc
      | false ↦ λ h. refl
    ] refl)
