-- Calls keep GLOBAL below shared indices.
use Rattle.std.proofs.Common.{zero, suc, ◌≡◌, ⊎_elim, ◌≤◌, ◌+◌, ◌-◌, ◌==◌, ◌&&◌, ◌||◌, ℕ, Bool, true, false, not, cond, List, [], ◌∷◌, take, bit_or, refl, sym, ap, ◌∙◌, subst, arith}
use Rattle.std.proofs.lemmas.Bool.{and_parts, not-true, cases_Bool}
use Rattle.std.specs.List.{AllByRecursion}
use Rattle.x86_64_model.specs.Allowed.{allowed}
use Rattle.x86_64_model.specs.Call.{Call, IsCall, MapTo, MapToWithTableFlags, IdentityMap, Unmap, UpdateFlags, SetFlags, TranslatePage, Translate, TranslateAddress, CleanUp}
use Rattle.x86_64_model.specs.CleanUp.{is_removed, clean_up}
use Rattle.x86_64_model.specs.Entry.{IsParentFlags, has, address, global}
use Rattle.x86_64_model.specs.Laws.Globals.{GlobalsBelow, GlobalIsShared, CallsKeepGlobals}
use Rattle.x86_64_model.specs.Machine.{Machine, IsMachine, State, do_call, step}
use Rattle.x86_64_model.specs.MapRule.{map_rule, map_call, leaf_entry, parent_part}
use Rattle.x86_64_model.specs.Mappings.{maps_page}
use Rattle.x86_64_model.specs.Path.{level_of, is_small, parents, path_at, front_at}
use Rattle.x86_64_model.specs.PathMap.{PathMap, entry, put}
use Rattle.x86_64_model.specs.Spaces.{is_shared}
use Rattle.std.proofs.lemmas.Nat.{and_assoc, and_comm}
use Rattle.x86_64_model.proofs.Lemmas.CleanUps.Keys.{entry-cleaned}
use Rattle.x86_64_model.proofs.Lemmas.Entries.Bits.{has_or, only_flags, address_address}
use Rattle.x86_64_model.proofs.Lemmas.Machines.Changes.{unmap_change, update_change, set_flags_change}
use Rattle.x86_64_model.proofs.Lemmas.Machines.Effects.{map_may, page_of_level, step_cases}
use Rattle.x86_64_model.proofs.Lemmas.Machines.Fitting.{sound_of_fits}
use Rattle.x86_64_model.proofs.Lemmas.Machines.States.{IsSound, all_in, step_sound}
use Rattle.x86_64_model.proofs.Lemmas.Maps.Accepted.{map_ind}
use Rattle.x86_64_model.proofs.Lemmas.Maps.Down.{Descends}
use Rattle.x86_64_model.proofs.Lemmas.Maps.Flags.{has_gained}
use Rattle.x86_64_model.proofs.Lemmas.Maps.Frames.{IsFrame}
use Rattle.x86_64_model.proofs.Lemmas.Maps.Trees.{page_descends}
use Rattle.x86_64_model.proofs.Lemmas.Paths.Puts.{cases_path, entry-put_same, entry-put_other}
use Rattle.x86_64_model.proofs.Lemmas.Spaces.Calls.{map_avoids}

zero_not_global : global 0 ≡ false
unfolding has
zero_not_global = refl

part_not_global : (given : ℕ) → global (parent_part given) ≡ false
unfolding has
part_not_global given = ap (λ x. x == 0x100) (and_assoc 0x100 given 0x7 ∙ and_comm given 0)

front_of_shared : (shared : ℕ → Bool) (n : ℕ) (q : List ℕ) → 1 ≤ n → is_shared shared q ≡ true → is_shared shared (take n q) ≡ true
front_of_shared shared zero q l h = absurd (omega (arith, l))
front_of_shared shared (suc n) [] l h = h
front_of_shared shared (suc n) (i ∷ q) l h = h

module _ (L : ℕ) (shared : ℕ → Bool) where
  -- an entry that maps a page has GLOBAL only below a shared index
  abbrev Fine : List ℕ → ℕ → Type 0
  Fine r e = maps_page (level_of L r) e ≡ true → global e ≡ true → is_shared shared r ≡ true

  plain : (r : List ℕ) (e : ℕ) → global e ≡ false → Fine r e
  plain r e none maps g = absurd (let t : true ≡ false = sym g ∙ none in cc)

  fine_put : (M : PathMap) (p : List ℕ) (x : ℕ) → Fine p x → ((r : List ℕ) → Fine r (entry M r)) → (r : List ℕ) → Fine r (entry (put M p x) r)
  fine_put M p x here all r = ⊎_elim
      (λ e. subst (λ r. Fine r (entry (put M p x) r)) (sym e) (subst (Fine p) (sym (entry-put_same M p x)) here))
      (λ n. subst (Fine r) (sym (entry-put_other M p x r n)) (all r))
      (cases_path r p)

  -- flags without GLOBAL are added
  fine_marked : (more : ℕ) → IsParentFlags more → global more ≡ false → (r : List ℕ) (e : ℕ) → Fine r e → Fine r (bit_or e more)
  fine_marked more marks none r e fine maps g = ⊎_elim
      (λ h. fine (ap (λ h. (level_of L r == 1) || (h && ((level_of L r == 2) || (level_of L r == 3)))) (sym (has_or e more 0x80 marks.not_huge)) ∙ maps) h)
      (λ h. absurd (let t : true ≡ false = sym h ∙ none in cc))
      (has_gained e more 8 g)

  new_plain : (more added f : ℕ) → global more ≡ false → global added ≡ false → IsFrame f → global (bit_or f (bit_or more added)) ≡ false
  new_plain more added f none less frame = only_flags f (bit_or more added) 0x100 frame.aligned refl ∙ by (global (bit_or more added)) refl
    where
      by : (b : Bool) → global (bit_or more added) ≡ b → global (bit_or more added) ≡ false
      by false h = h
      by true h = ⊎_elim (λ g. absurd (let t : true ≡ false = sym g ∙ none in cc)) (λ g. absurd (let t : true ≡ false = sym g ∙ less in cc)) (has_gained more added 8 h)

  module _ (more added : ℕ) (marks : IsParentFlags more) (none : global more ≡ false) (less : global added ≡ false) (q : List ℕ) (e frame : ℕ) (leaf : global e ≡ false) where
    map_fine : (M : PathMap) (supply : List ℕ) (ps : List (List ℕ)) → Descends M ps q → ((r : List ℕ) → Fine r (entry M r)) → AllByRecursion IsFrame supply
        → (r : List ℕ) → Fine r (entry (map_rule M supply more added ps q e frame).paths r)
    map_fine = map_ind more added q e frame (λ M s ps m. ((r : List ℕ) → Fine r (entry M r)) → AllByRecursion IsFrame s → (r : List ℕ) → Fine r (entry m.paths r))
        (λ M s u all fr. all)
        (λ M s u all fr. fine_put M q e (plain q e leaf) all)
        (λ M s p ps u h all fr. fine_put M p _ (fine_marked more marks none p (entry M p) (all p)) all)
        (λ M s p ps d u h m ih all fr. ih (fine_put M p _ (fine_marked more marks none p (entry M p) (all p)) all) fr)
        (λ M p ps u all fr. all)
        (λ M f fs p ps d u m ih all fr. ih (fine_put M p _ (plain p _ (new_plain more added f none less fr.0)) all) fr.1)

-- ---- calls

module _ (m : Machine) (is : IsMachine m) (less : global m.added_flags ≡ false) (root : ℕ) (serves : ℕ → Bool) (s : State) (sound : IsSound m.levels m.window root serves s) (shared : ℕ → Bool)
    (all : GlobalsBelow m.levels shared s.paths) where
  -- at paths that have an index
  abbrev Kept : PathMap → Type 0
  Kept N = (i : ℕ) (r : List ℕ) → Fine m.levels shared (i ∷ r) (entry N (i ∷ r))

  put_kept : (q : List ℕ) (w : ℕ) → (is_shared shared q ≡ false → global w ≡ false) → Kept (put s.paths q w)
  put_kept q w lacks i r = fine_put m.levels shared s.paths q w (⊎_elim (λ on maps g. on) (λ off. plain m.levels shared q w (lacks off)) (cases_Bool (is_shared shared q))) all (i ∷ r)

  -- a map of a page below a shared index changes nothing elsewhere
  map_kept : (q : List ℕ) (frame given more : ℕ) → IsParentFlags more → (is_shared shared q ≡ false → (global (leaf_entry m.levels q frame given) ≡ false) × (global more ≡ false))
      → Kept (map_call m.levels s.paths s.pool more m.added_flags q frame given).paths
  map_kept q frame given more marks lacks = ⊎_elim
      (λ on i r. ⊎_elim (λ h maps g. h) (λ off. elsewhere on i r off) (cases_Bool (is_shared shared (i ∷ r))))
      (λ off i r. let none = lacks off in map_fine m.levels shared more m.added_flags marks none.1 less q (leaf_entry m.levels q frame given) frame none.0 s.paths s.pool (parents q)
      (page_descends m.levels root s.paths sound.hierarchy.tree q) all (all_in s.pool sound.frames) (i ∷ r))
      (cases_Bool (is_shared shared q))
    where
      off_shared : (q : List ℕ) → is_shared shared q ≡ true → is_shared (λ k. not (shared k)) q ≡ false
      off_shared [] h = cc
      off_shared (i ∷ q) h = ap not h

      elsewhere : is_shared shared q ≡ true → (i : ℕ) (r : List ℕ) → shared i ≡ false → Fine m.levels shared (i ∷ r) (entry (map_call m.levels s.paths s.pool more m.added_flags q frame given).paths (i ∷ r))
      elsewhere on i r off = subst (Fine m.levels shared (i ∷ r))
          (sym (map_avoids (λ k. not (shared k)) m.levels root more m.added_flags q frame given s.paths s.pool sound.hierarchy.tree (off_shared q on) (i ∷ r) (ap not off))) (all (i ∷ r))

  leaf_plain : (q : List ℕ) (e given : ℕ) → global given ≡ false → global (leaf_entry m.levels q (address e) given) ≡ false
  leaf_plain q e given none = only_flags (address e) (cond (is_small m.levels q) given (bit_or given 0x80)) 0x100 (address_address e) refl ∙ by (is_small m.levels q)
    where
      by : (b : Bool) → global (cond b given (bit_or given 0x80)) ≡ false
      by true = none
      by false = has_or given 0x80 0x100 refl ∙ none

  clean_kept : (low high : ℕ) → Kept (clean_up m.levels s.paths low high).paths
  clean_kept low high i r = subst (Fine m.levels shared (i ∷ r)) (sym (entry-cleaned m.levels s.paths low high (i ∷ r))) (by (is_removed m.levels s.paths low high (i ∷ r)))
    where
      by : (b : Bool) → Fine m.levels shared (i ∷ r) (cond b 0 (entry s.paths (i ∷ r)))
      by true = plain m.levels shared (i ∷ r) 0 zero_not_global
      by false = all (i ∷ r)

  same_kept : Kept s.paths
  same_kept i r = all (i ∷ r)

  done_keeps : (call : Call) → IsCall m.levels call → allowed m.levels m.window s.paths call ≡ true → GlobalIsShared m.levels shared call → Kept (do_call m s call).state.paths
  unfolding do_call
  done_keeps (MapTo level page frame given) c h g = let q = path_at m.levels level page in map_kept q frame given (parent_part given) (map_may m.levels m.window s.paths q given _ h).marks (λ off. (g off, part_not_global given))
  done_keeps (MapToWithTableFlags level page frame given more) c h g = let q = path_at m.levels level page in map_kept q frame given more (map_may m.levels m.window s.paths q given _ h).marks g
  done_keeps (IdentityMap level frame given) c h g = map_kept (path_at m.levels level frame) frame given (parent_part given)
      (map_may m.levels m.window s.paths (path_at m.levels level frame) given _ (and_parts _ _ h).1).marks (λ off. (g off, part_not_global given))
  done_keeps (Unmap level page) c h g = let q = path_at m.levels level page in unmap_change m.levels m.window s.paths q (page_of_level m.levels level page c) (not-true _ h) (λ a. Kept a.paths) (λ why. same_kept) (λ _. put_kept q 0 (λ off. zero_not_global))
  done_keeps (UpdateFlags level page given) c h g = let q = path_at m.levels level page in update_change m.levels m.window s.paths q (page_of_level m.levels level page c) (not-true _ (and_parts _ _ h).1) given (λ a. Kept a.paths) (λ why. same_kept)
      (λ _. put_kept q _ (λ off. leaf_plain q (entry s.paths q) given (g off)))
  done_keeps (SetFlags at level page given) c h g = let q = path_at m.levels level page in let a = and_parts _ _ h in let b = and_parts _ _ a.0 in let top = c.1 in
      set_flags_change m.levels m.window root s.paths sound.hierarchy at q given c.0 c.1 (page_of_level m.levels level page c.2) (not-true _ b.1) b.0 a.1 (λ a. Kept a.paths) (λ why. same_kept)
      (λ _. put_kept (front_at m.levels at q) _ (λ off. only_flags (address (entry s.paths (front_at m.levels at q))) given 0x100 (address_address _) refl ∙ g (⊎_elim
      (λ on. absurd (let t : true ≡ false = sym (front_of_shared shared (m.levels + 1 - at) q (omega (arith, top)) on) ∙ off in cc)) (λ f. f) (cases_Bool (is_shared shared q)))))
  done_keeps (TranslatePage level page) c h g = same_kept
  done_keeps (Translate p) c h g = same_kept
  done_keeps (TranslateAddress p) c h g = same_kept
  done_keeps (CleanUp low high) c h g = clean_kept low high

  pub step_keeps : (call : Call) → IsCall m.levels call → GlobalIsShared m.levels shared call → GlobalsBelow m.levels shared (step m s call).state.paths
  step_keeps call c g [] maps h = absurd (let t : true ≡ false = sym h ∙ ap global (step_sound m.levels m.window root serves s sound m.added_flags is.adds m.take_back is.gives call c).hierarchy.tree.nothing_above ∙ zero_not_global in cc)
  step_keeps call c g (i ∷ r) maps h = step_cases m s call (λ after. Kept after.state.paths) (λ h. done_keeps call c h g) same_kept i r maps h

pub calls_keep_globals : CallsKeepGlobals
calls_keep_globals m is less T root serves s fits shared call c g all = step_keeps m is less root serves s (sound_of_fits m.levels m.window T root serves s fits) shared all call c g
