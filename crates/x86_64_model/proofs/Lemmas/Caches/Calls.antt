-- How each call changes entries, by what has to be flushed after it.
use Rattle.std.proofs.Common.{◌≡◌, inl, inr, ⊎_elim, ℕ, ◌==◌, Bool, true, false, cond, ◌<◌, length, List, [], ◌∷◌, ◌++◌, Some, None, Option, refl, sym, ap, ◌∙◌, subst, arith, ne_eqb, eq-eqb, take}
use Rattle.std.proofs.lemmas.Bool.{and_parts, and_from, not-true, cases_Bool}
use Rattle.std.proofs.lemmas.Nat.{and_assoc, and_comm}
use Rattle.x86_64_model.specs.Entry.{has, used, no_execute, address}
use Rattle.x86_64_model.specs.Lists.{In}
use Rattle.x86_64_model.specs.PathMap.{entry, put, table_of}
use Rattle.x86_64_model.specs.Path.{is_small, path_at, front_at, begins}
use Rattle.x86_64_model.specs.Spaces.{is_shared}
use Rattle.x86_64_model.specs.Window.{Window}
use Rattle.x86_64_model.specs.MapRule.{map_call, parent_part, leaf_entry}
use Rattle.x86_64_model.specs.CleanUp.{is_removed, clean_up}
use Rattle.x86_64_model.specs.Pool.{with_returned}
use Rattle.x86_64_model.specs.Allowed.{allowed}
use Rattle.x86_64_model.specs.Call.{Call, IsCall, MapTo, MapToWithTableFlags, IdentityMap, Unmap, UpdateFlags, SetFlags, TranslatePage, Translate, TranslateAddress, CleanUp, parent_flags_of}
use Rattle.x86_64_model.specs.Machine.{Machine, IsMachine, State, do_call, step, after_map, after_change}
use Rattle.x86_64_model.specs.Flushing.{LosesNothing, Due, PageDue, TablesDue, BelowDue, if_accepted, if_window, page_due, below_due, flush_after, freed_by, due_after}
use Rattle.x86_64_model.proofs.Lemmas.Entries.Bits.{used_present, has_or, address_or}
use Rattle.x86_64_model.proofs.Lemmas.Hierarchies.Changes.{unused_no_table, zero_not_used}
use Rattle.x86_64_model.proofs.Lemmas.Lists.Members.{in_left, in_right}
use Rattle.x86_64_model.proofs.Lemmas.Paths.Puts.{cases_path, entry-put_same, entry-put_other}
use Rattle.x86_64_model.proofs.Lemmas.Maps.Frames.{used_or, used_not_zero}
use Rattle.x86_64_model.proofs.Lemmas.Maps.Leaves.{none_at_leaf}
use Rattle.x86_64_model.proofs.Lemmas.Maps.Rights.{Grows, map_grows}
use Rattle.x86_64_model.proofs.Lemmas.Maps.Trees.{page_descends}
use Rattle.x86_64_model.proofs.Lemmas.CleanUps.Answers.{gone, stays}
use Rattle.x86_64_model.proofs.Lemmas.CleanUps.Frames.{removed_leads, root_stays}
use Rattle.x86_64_model.proofs.Lemmas.CleanUps.Trees.{given_frames}
use Rattle.x86_64_model.proofs.Lemmas.Machines.Changes.{unmap_change, update_change, set_flags_kept}
use Rattle.x86_64_model.proofs.Lemmas.Machines.Effects.{MapMay, map_may, page_of_level, step_cases}
use Rattle.x86_64_model.proofs.Lemmas.Machines.States.{IsSound}
use Rattle.x86_64_model.proofs.Lemmas.Paths.Begins.{begins_itself}
use Rattle.x86_64_model.proofs.Lemmas.Spaces.Calls.{map_avoids}
use Rattle.x86_64_model.proofs.Lemmas.Caches.Kept.{SameTarget, kept_grown}
use Rattle.x86_64_model.proofs.Lemmas.Caches.Windowed.{HasWindow, Becomes, AsBefore, Made, Marked, Remapped, Reflagged, Removed, removed_back}

-- ---- the cases of a step, with what is due after it

no_execute_part : (given : ℕ) → no_execute (parent_part given) ≡ false
unfolding has
no_execute_part given = ap (λ x. x == 0x8000_0000_0000_0000) (and_assoc 0x8000_0000_0000_0000 given 0x7 ∙ and_comm given 0)

module _ (m : Machine) (root : ℕ) (serves : ℕ → Bool) (s : State) (sound : IsSound m.levels m.window root serves s) (P : Call → State → List Due → Type 0)
    (nothing : (call : Call) (d : List Due) → P call s d)
    (maps : (call : Call) (q : List ℕ) (frame given more : ℕ) (d : List Due) → parent_flags_of call ≡ Some more → MapMay m.window s.paths q given more → (no_execute more ≡ true → d ≡ below_due m.window (take 1 q))
    → P call (after_map (map_call m.levels s.paths s.pool more m.added_flags q frame given)).state d)
    (pages : (call : Call) (q : List ℕ) (w : ℕ) → table_of m.levels q (entry s.paths q) ≡ None → P call (record { paths = put s.paths q w; pool = s.pool }) (page_due m.levels m.window q (address (entry s.paths q))))
    (tables : (call : Call) (q : List ℕ) (w : ℕ) → SameTarget (entry s.paths q) w → P call (record { paths = put s.paths q w; pool = s.pool }) (below_due m.window q))
    (cleans : (low high : ℕ) → P (CleanUp low high) (record { paths = (clean_up m.levels s.paths low high).paths; pool = with_returned m.take_back s.pool (clean_up m.levels s.paths low high).back }) (TablesDue (clean_up m.levels s.paths low high).back ∷ if_window m.window)) where
  done_cases : (call : Call) → IsCall m.levels call → allowed m.levels m.window s.paths call ≡ true → P call (do_call m s call).state (flush_after m.levels m.window (freed_by m.levels s call) call (do_call m s call).reply)
  unfolding do_call
  done_cases (MapTo level page frame given) is h = let q = path_at m.levels level page in maps (MapTo level page frame given) q frame given (parent_part given) [] refl (map_may m.levels m.window s.paths q given _ h) (λ x. let t : true ≡ false = sym x ∙ no_execute_part given in cc)
  done_cases (MapToWithTableFlags level page frame given more) is h = let q = path_at m.levels level page in maps (MapToWithTableFlags level page frame given more) q frame given more _ refl (map_may m.levels m.window s.paths q given _ h) (λ x. ap (λ b. cond b (below_due m.window (take 1 q)) []) x)
  done_cases (IdentityMap level frame given) is h = maps (IdentityMap level frame given) (path_at m.levels level frame) frame given (parent_part given) [] refl
      (map_may m.levels m.window s.paths (path_at m.levels level frame) given _ (and_parts _ _ h).1) (λ x. let t : true ≡ false = sym x ∙ no_execute_part given in cc)
  done_cases (Unmap level page) is h = let q = path_at m.levels level page in unmap_change m.levels m.window s.paths q (page_of_level m.levels level page is) (not-true _ h) (λ c. P (Unmap level page) (after_change s.pool c).state (if_accepted (after_change s.pool c).reply (λ frame. page_due m.levels m.window q frame)))
      (λ why. nothing (Unmap level page) []) (λ c. pages (Unmap level page) q 0 (sym c.same_table ∙ unused_no_table m.levels q))
  done_cases (UpdateFlags level page given) is h = let q = path_at m.levels level page in update_change m.levels m.window s.paths q (page_of_level m.levels level page is) (not-true _ (and_parts _ _ h).1) given (λ c. P (UpdateFlags level page given) (after_change s.pool c).state (if_accepted (after_change s.pool c).reply (λ frame. page_due m.levels m.window q frame)))
      (λ why. nothing (UpdateFlags level page given) []) (λ c. pages (UpdateFlags level page given) q _ (sym c.same_table ∙ none_at_leaf m.levels q _ given))
  done_cases (SetFlags at level page given) is h = let q = path_at m.levels level page in let a = and_parts _ _ h in let b = and_parts _ _ a.0 in
      set_flags_kept m.levels m.window root s.paths sound.hierarchy at q given is.0 is.1 (page_of_level m.levels level page is.2) (not-true _ b.1) b.0 a.1 (λ c. P (SetFlags at level page given) (after_change s.pool c).state (if_accepted (after_change s.pool c).reply (λ frame. below_due m.window (front_at m.levels at q))))
      (λ why. nothing (SetFlags at level page given) []) (λ c k. tables (SetFlags at level page given) (front_at m.levels at q) _
      (record { was_used = c.is_used; is_used = k.is_used; same_huge = k.same_huge; same_address = k.same_address }))
  done_cases (TranslatePage level page) is h = nothing (TranslatePage level page) []
  done_cases (Translate p) is h = nothing (Translate p) []
  done_cases (TranslateAddress p) is h = nothing (TranslateAddress p) []
  done_cases (CleanUp low high) is h = cleans low high

  due_cases : (call : Call) → IsCall m.levels call → P call (step m s call).state (due_after m s call)
  due_cases call is = step_cases m s call (λ after. P call after.state (flush_after m.levels m.window (freed_by m.levels s call) call after.reply)) (done_cases call is) (nothing call _)

-- ---- what each call does to entries and to the pool

-- the window is due, if there is one
window_in : (window : Option Window) (due : List Due) → HasWindow window (if_window window ++ due)
window_in None due w is = cc
window_in (Some v) due w is = inl refl

pub below_window : (window : Option Window) (q : List ℕ) (due : List Due) → HasWindow window (below_due window q ++ due)
below_window None q due w is = cc
below_window (Some v) q due w is = inr (inl refl)

-- a page above level one shows in the window
pub page_window : (window : Option Window) (L : ℕ) (q : List ℕ) (due : List Due) → length q < L → HasWindow window (cond (is_small L q) [] (if_window window) ++ due)
page_window window L q due l = subst (λ b. HasWindow window (cond b [] (if_window window) ++ due)) (sym (ne_eqb (length q) L (λ e. omega (arith, l, e)))) (window_in window due)

module _ (m : Machine) (is : IsMachine m) (root : ℕ) (serves : ℕ → Bool) (s : State) (sound : IsSound m.levels m.window root serves s) (due : List Due) where
  abbrev MovesTo : State → List Due → Type 0
  MovesTo t d = (q : List ℕ) → Becomes m.levels m.window (d ++ due) t.pool q (entry s.paths q) (entry t.paths q)

  -- free frames stay free, unless the call is a map
  abbrev Keeps : Call → State → Type 0
  Keeps call t = parent_flags_of call ≡ None → (f : ℕ) → In s.pool f → In t.pool f

  abbrev Does : Call → State → List Due → Type 0
  Does call t d = MovesTo t d × Keeps call t

  by_map : (call : Call) (q : List ℕ) (frame given more : ℕ) (d : List Due) → parent_flags_of call ≡ Some more → MapMay m.window s.paths q given more → (no_execute more ≡ true → d ≡ below_due m.window (take 1 q))
      → Does call (after_map (map_call m.levels s.paths s.pool more m.added_flags q frame given)).state d
  by_map call q frame given more d flags may all = (moved, λ none f i. absurd (let t : Some more ≡ None = sym flags ∙ none in cc))
    where
      after : State
      after = (after_map (map_call m.levels s.paths s.pool more m.added_flags q frame given)).state

      apart : (i : ℕ) (r : List ℕ) → is_shared (λ k. k == i) q ≡ false → entry after.paths (i ∷ r) ≡ entry s.paths (i ∷ r)
      apart i r off = map_avoids (λ k. k == i) m.levels root more m.added_flags q frame given s.paths s.pool sound.hierarchy.tree off (i ∷ r) (eq-eqb i i refl)

      grows : Grows more s.paths after.paths
      grows = map_grows more m.added_flags q (leaf_entry m.levels q frame given) frame s.paths s.pool _ (page_descends m.levels root s.paths sound.hierarchy.tree q)

      same : (r : List ℕ) → used (entry s.paths r) ≡ true → SameTarget (entry s.paths r) (entry after.paths r)
      same r u = ⊎_elim
          (λ e. subst (SameTarget (entry s.paths r)) (sym e) (record { was_used = u; is_used = u; same_huge = refl; same_address = refl }))
          (λ e. subst (SameTarget (entry s.paths r)) (sym e) (record {
            was_used = u;
            is_used = used_or (entry s.paths r) more (used_not_zero _ u);
            same_huge = has_or (entry s.paths r) more 0x80 may.marks.not_huge;
            same_address = address_or (entry s.paths r) more may.marks.no_address;
          })) (grows r u)

      -- only entries below the page's first index lose the right to execute
      taken : (q' : List ℕ) → q' ≡ q → no_execute more ≡ true → (r : List ℕ) → used (entry s.paths r) ≡ true → Becomes m.levels m.window (d ++ due) after.pool r (entry s.paths r) (entry after.paths r)
      taken q' e x [] u = absurd (let t : false ≡ true = sym (ap used sound.hierarchy.tree.nothing_above ∙ zero_not_used) ∙ u in cc)
      taken [] e x (i ∷ r) u = AsBefore (apart i r (ap (is_shared (λ k. k == i)) (sym e)))
      taken (j ∷ q') e x (i ∷ r) u = ⊎_elim
          (λ h. let front : take 1 q ≡ j ∷ [] = ap (take 1) (sym e) in Reflagged (same (i ∷ r) u) (take 1 q)
          (subst (λ d. In (d ++ due) (BelowDue (take 1 q))) (sym (all x)) (inl refl))
          (ap (λ f. begins f (i ∷ r)) front ∙ and_from (j == i) true h refl)
          (subst (λ d. HasWindow m.window (d ++ due)) (sym (all x)) (below_window m.window (take 1 q) due)))
          (λ h. AsBefore (apart i r (ap (is_shared (λ k. k == i)) (sym e) ∙ h)))
          (cases_Bool (j == i))

      moved : MovesTo after d
      moved r = ⊎_elim
          (λ u. ⊎_elim
          (λ x. taken q refl x r u)
          (λ x. Marked (λ h. kept_grown more _ _ may.marks x h (λ h. grows r (used_present _ h))) (same r u))
          (cases_Bool (no_execute more)))
          (λ u. Made u)
          (cases_Bool (used (entry s.paths r)))

  by_page : (call : Call) (q : List ℕ) (w : ℕ) → table_of m.levels q (entry s.paths q) ≡ None → Does call (record { paths = put s.paths q w; pool = s.pool }) (page_due m.levels m.window q (address (entry s.paths q)))
  by_page call q w leaf = (
    λ r. ⊎_elim
        (λ e. Remapped (ap (λ r. table_of m.levels r (entry s.paths r)) e ∙ leaf) (inl (ap (λ r. PageDue r (address (entry s.paths r))) (sym e)))
        (λ l v is. inr (page_window m.window m.levels q due (subst (λ r. length r < m.levels) e l) v is)))
        (λ n. AsBefore (entry-put_other s.paths q w r n)) (cases_path r q),
    λ none f i. i,
  )

  by_table : (call : Call) (q : List ℕ) (w : ℕ) → SameTarget (entry s.paths q) w → Does call (record { paths = put s.paths q w; pool = s.pool }) (below_due m.window q)
  by_table call q w same = (
    λ r. ⊎_elim
        (λ e. subst (λ r. Becomes m.levels m.window (below_due m.window q ++ due) s.pool r (entry s.paths r) (entry (put s.paths q w) r)) (sym e)
        (Reflagged (subst (SameTarget (entry s.paths q)) (sym (entry-put_same s.paths q w)) same) q (inl refl) (begins_itself q) (below_window m.window q due)))
        (λ n. AsBefore (entry-put_other s.paths q w r n)) (cases_path r q),
    λ none f i. i,
  )

  by_clean_up : (low high : ℕ) → Does (CleanUp low high) (record { paths = (clean_up m.levels s.paths low high).paths; pool = with_returned m.take_back s.pool (clean_up m.levels s.paths low high).back }) (TablesDue (clean_up m.levels s.paths low high).back ∷ if_window m.window)
  by_clean_up low high = (moved, λ none f i. (given_frames m.take_back is.gives s.pool back f).1 (in_right back s.pool f i))
    where
      back : List ℕ
      back = (clean_up m.levels s.paths low high).back

      moved : MovesTo (record { paths = (clean_up m.levels s.paths low high).paths; pool = with_returned m.take_back s.pool back }) (TablesDue back ∷ if_window m.window)
      moved [] = AsBefore (stays m.levels root s.paths sound.hierarchy.tree low high [] (⊎_elim (λ r. absurd (root_stays m.levels root s.paths sound.hierarchy.tree low high r)) (λ k. k) (cases_Bool (is_removed m.levels s.paths low high []))))
      moved (i ∷ q) = ⊎_elim
          (λ r. Removed (gone m.levels root s.paths sound.hierarchy.tree low high (i ∷ q) r) (λ v is. inr (window_in m.window due v is))
          (address (entry s.paths (i ∷ q))) (removed_leads m.levels root s.paths sound.hierarchy.tree low high (i ∷ q) r)
          (back, inl refl, removed_back m.levels root s.paths sound.hierarchy.tree low high i q r)
          ((given_frames m.take_back is.gives s.pool back _).1 (in_left back s.pool _ (removed_back m.levels root s.paths sound.hierarchy.tree low high i q r))))
          (λ k. AsBefore (stays m.levels root s.paths sound.hierarchy.tree low high (i ∷ q) k))
          (cases_Bool (is_removed m.levels s.paths low high (i ∷ q)))

  pub call_does : (call : Call) → IsCall m.levels call → Does call (step m s call).state (due_after m s call)
  call_does = due_cases m root serves s sound Does (λ call d. (λ q. AsBefore refl, λ none f i. i)) by_map by_page by_table by_clean_up

  -- if the kernel learns that no used entry loses anything, nothing is due
  pub told_moves : (call : Call) → IsCall m.levels call → (loses : Bool) → (loses ≡ false → (q : List ℕ) → used (entry s.paths q) ≡ true → LosesNothing (entry s.paths q) (entry (step m s call).state.paths q))
      → MovesTo (step m s call).state (cond loses (due_after m s call) [])
  told_moves call c true kept q = (call_does call c).0 q
  told_moves call c false kept q = ⊎_elim
      (λ u. let k = kept refl q u in Marked
      (λ h. record {
        is_present = k.is_present h;
        same_huge = k.same_huge;
        same_address = k.same_address;
        grants = λ r g. record { write = λ x. k.write (g.write x); user = λ x. k.user (g.user x); execute = λ x. k.execute (g.execute x) };
      })
      (record { was_used = u; is_used = k.is_used; same_huge = k.same_huge; same_address = k.same_address }))
      (λ u. Made u) (cases_Bool (used (entry s.paths q)))
