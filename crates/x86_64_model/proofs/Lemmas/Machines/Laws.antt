-- The machine's laws.
use Rattle.std.proofs.Common.{◌≡◌, ℕ, Bool, true, false, List, [], ◌∷◌, Option, refl, sym, ap, ◌∙◌, subst}
use Rattle.std.proofs.lemmas.Bool.{and_parts, not-true}
use Rattle.x86_64_model.specs.PathMap.{PathMap}
use Rattle.x86_64_model.specs.Path.{parents, IsPage, path_at, begins}
use Rattle.x86_64_model.specs.Window.{Window, entry_at, begins_with}
use Rattle.x86_64_model.specs.Position.{page_path}
use Rattle.x86_64_model.specs.Translation.{translate}
use Rattle.x86_64_model.specs.Refusal.{Answer, Done, Refused}
use Rattle.x86_64_model.specs.MapRule.{map_call, parent_part}
use Rattle.x86_64_model.specs.PageRules.{unmap, update_flags, set_flags}
use Rattle.x86_64_model.specs.Pool.{Fits}
use Rattle.x86_64_model.specs.Call.{IsCall, Call, MapTo, MapToWithTableFlags, IdentityMap, Unmap, UpdateFlags, SetFlags, TranslatePage, Translate, TranslateAddress, CleanUp, Answered}
use Rattle.x86_64_model.specs.Machine.{Machine, State, do_call, step, state_after, replies_of}
use Rattle.x86_64_model.specs.Allowed.{allowed}
use Rattle.x86_64_model.specs.Flush.{OnePage, Everything, if_done, items_of}
use Rattle.x86_64_model.specs.Laws.Steps.{StepKeepsFit, StepIsHeld, RunConserves, RunKeepsFit, RunIsHeld, FlushesSuffice, UsedPresent, CallsSpareOthers}
use Rattle.x86_64_model.specs.Laws.CleanUps.{CleanUpConserves, CleanUpKeepsAnswers, CleanUpsOnce}
use Rattle.x86_64_model.specs.Laws.Maps.{RefusedMaps, MapTakesFew, WalkedDown}
use Rattle.x86_64_model.specs.Laws.Pairs.{NoneNames, AlikeRuns, PairsReplyAlike}
use Rattle.x86_64_model.proofs.Lemmas.Hierarchies.Trees.{tree_of_holds}
use Rattle.x86_64_model.proofs.Lemmas.Machines.Effects.{machine, MapMay, map_may, page_of_level, step_cases}
use Rattle.x86_64_model.proofs.Lemmas.Machines.States.{IsSound, all_in, step_conserves}
use Rattle.x86_64_model.proofs.Lemmas.Machines.Fitting.{sound_of_fits, step_fits, run_conserves, run_fits}
use Rattle.x86_64_model.proofs.Lemmas.Machines.Witness.{step_witness}
use Rattle.x86_64_model.proofs.Lemmas.Machines.Flushes.{flushes_suffice}
use Rattle.x86_64_model.proofs.Lemmas.Machines.Spares.{IsDone, map_elsewhere, unmap_elsewhere, update_elsewhere}
use Rattle.x86_64_model.proofs.Lemmas.Machines.Refused.{refused_map}
use Rattle.x86_64_model.proofs.Lemmas.CleanUps.Trees.{clean_conserves}
use Rattle.x86_64_model.proofs.Lemmas.CleanUps.Answers.{translate_cleaned_outside}
use Rattle.x86_64_model.proofs.Lemmas.Maps.Takes.{map_takes}
use Rattle.x86_64_model.proofs.Lemmas.Maps.Down.{walked_down}
use Rattle.x86_64_model.proofs.Lemmas.Maps.Trees.{page_descends}
use Rattle.x86_64_model.proofs.Lemmas.CleanUps.Twice.{once}
use Rattle.x86_64_model.proofs.Lemmas.Pairs.Alike.{run_pair}
use Rattle.x86_64_model.specs.Entry.{IsParentFlags}

pub step_keeps_fit : StepKeepsFit
step_keeps_fit m is T U root serves s call c fits valid kept = step_fits m.levels m.window T U root serves m.added_flags is.adds m.take_back is.gives s call c fits valid kept

pub step_is_held : StepIsHeld
step_is_held m is T root serves s call c fits = step_witness m.levels m.window T root serves m.added_flags is.adds m.take_back is.gives s call c fits

pub run_keeps_frames : RunConserves
run_keeps_frames m is T root serves s calls c fits = (run_conserves m.levels m.window root serves m.added_flags is.adds m.take_back is.gives calls c s (sound_of_fits m.levels m.window T root serves s fits)).same_set

pub run_is_held : RunIsHeld
run_is_held m is T root serves s [] c fits = (T, fits, λ f n. refl)
run_is_held m is T root serves s (call ∷ calls) c fits =
    let one = step_is_held m is T root serves s call c.0 fits in
    let rest = run_is_held m is one.0 root serves (step m s call).state calls c.1 one.1 in
    let same = (step_conserves m.levels m.window root serves s (sound_of_fits m.levels m.window T root serves s fits) m.added_flags is.adds m.take_back is.gives call c.0).same_set in
    (rest.0, rest.1, λ f n. rest.2 f (λ own. n ((same f).1 own)) ∙ one.2 f n)

pub run_keeps_fit : RunKeepsFit
run_keeps_fit m is T U root serves s calls c fits valid kept = run_fits m.levels m.window T U root serves m.added_flags is.adds m.take_back is.gives s calls c fits valid kept

pub flushes_are_enough : FlushesSuffice
flushes_are_enough m is T V U root serves s calls c fits k first last p out none = flushes_suffice m.levels m.window T V U root serves m.added_flags is.adds m.take_back is.gives s calls c fits k first last p out none

pub clean_up_conserves : CleanUpConserves
clean_up_conserves L T root M holds take_back gives low high pool = clean_conserves take_back gives L root M (tree_of_holds L T root M holds) low high pool

pub clean_up_keeps_answers : CleanUpKeepsAnswers
clean_up_keeps_answers L window T root M valid low high p out = translate_cleaned_outside L root M (tree_of_holds L _ root M valid.valid.holds) low high window p out

pub clean_ups_once : CleanUpsOnce
clean_ups_once L window T root M valid low high = once L root M (tree_of_holds L _ root M valid.valid.holds) low high

pub refused_maps : RefusedMaps
refused_maps L window T root M supply more added q frame given valid marks why refused = refused_map L root M supply more added q frame given (tree_of_holds L _ root M valid.valid.holds) marks why refused

pub map_takes_few : MapTakesFew
map_takes_few L T root M supply more added q frame given l holds = map_takes L root M supply more added q frame given (tree_of_holds L T root M holds) l

pub map_walked_down : WalkedDown
map_walked_down L T root M holds supply more added q e frame = walked_down more added q e frame M supply (parents q) (page_descends L root M (tree_of_holds L T root M holds) q)

same_levels : (m : Machine) (L : ℕ) (take_back : List ℕ → ℕ → List ℕ) → m.levels ≡ L → m.take_back ≡ take_back → machine L m.window m.added_flags take_back ≡ m
same_levels m L take_back l g = λ i. record { levels = sym l i; window = m.window; added_flags = m.added_flags; take_back = sym g i }

pub pairs_reply_alike : PairsReplyAlike
pairs_reply_alike m n levels take_back gives ia ib T U root root' serves serves' calls is a b s t x y alike pools =
    let same = same_levels n m.levels m.take_back (sym levels) (sym take_back) in
    let b' : NoneNames m.levels n.window calls = subst (λ L. NoneNames L n.window calls) (sym levels) b in
    let y' : Fits m.levels n.window U root' t.paths serves' t.pool = subst (λ L. Fits L n.window U root' t.paths serves' t.pool) (sym levels) y in
    let pair = run_pair m.levels m.window n.window m.added_flags n.added_flags ia ib m.take_back gives root root' serves serves' calls is a b' s t (sound_of_fits m.levels m.window T root serves s x) (sound_of_fits m.levels n.window U root' serves' t y') alike pools in
    subst (λ n. AlikeRuns m.levels (state_after m s calls) (state_after n t calls) (replies_of m s calls) (replies_of n t calls)) same pair

-- ---- calls that name a page

done_item : (a : Answer) (r q : List ℕ) → if_done (Answered a) (OnePage r) ≡ OnePage q ∷ [] → IsDone a × (r ≡ q)
done_item (Done f) r q h = (tt, cc)
done_item (Refused why) r q h = cc

never_page : (a : Answer) (q : List ℕ) → if_done (Answered a) Everything ≡ OnePage q ∷ [] → ⊥
never_page (Done f) q h = cc
never_page (Refused why) q h = cc

none_recorded : (q : List ℕ) → [] ≡ OnePage q ∷ [] → ⊥
none_recorded q h = cc

module _ (L : ℕ) (window : Option Window) (root : ℕ) (serves : ℕ → Bool) (added : ℕ) (adds : IsParentFlags added) (take_back : List ℕ → ℕ → List ℕ) (s : State) (sound : IsSound L window root serves s)
    (q : List ℕ) (before : UsedPresent s.paths (parents q)) (p : ℕ) (off : begins q (page_path L p) ≡ false) (out : begins_with window (page_path L p) ≡ false) where
  abbrev Spared : PathMap → Type 0
  Spared N = translate L (entry_at window N) p ≡ translate L (entry_at window s.paths) p

  maps_spare : (r : List ℕ) (frame given more : ℕ) → IsPage L r → MapMay window s.paths r given more → if_done (Answered (map_call L s.paths s.pool more added r frame given).answer) (OnePage r) ≡ OnePage q ∷ []
      → Spared (map_call L s.paths s.pool more added r frame given).paths
  maps_spare r frame given more page may h = let d = done_item _ r q h in
      map_elsewhere L window root s.paths s.pool more added r frame given sound.hierarchy (all_in s.pool sound.frames) page may.marks adds (subst (λ q. UsedPresent s.paths (parents q)) (sym d.1) before) d.0 p (ap (λ r. begins r (page_path L p)) d.1 ∙ off) out

  done_spares : (call : Call) → IsCall L call → allowed L window s.paths call ≡ true → items_of L call (do_call (machine L window added take_back) s call).reply ≡ OnePage q ∷ [] → Spared (do_call (machine L window added take_back) s call).state.paths
  unfolding do_call
  done_spares (MapTo level page frame given) is h e = let r = path_at L level page in maps_spare r frame given (parent_part given) (page_of_level L level page is) (map_may L window s.paths r given _ h) e
  done_spares (MapToWithTableFlags level page frame given more) is h e = let r = path_at L level page in maps_spare r frame given more (page_of_level L level page is) (map_may L window s.paths r given more h) e
  done_spares (IdentityMap level frame given) is h e = maps_spare (path_at L level frame) frame given (parent_part given) (page_of_level L level frame is) (map_may L window s.paths (path_at L level frame) given _ (and_parts _ _ h).1) e
  done_spares (Unmap level page) is h e = let r = path_at L level page in let d = done_item (unmap L (entry_at window s.paths) s.paths r).answer r q e in unmap_elsewhere L window s.paths r (page_of_level L level page is) (not-true _ h) p (ap (λ r. begins r (page_path L p)) d.1 ∙ off) out
  done_spares (UpdateFlags level page given) is h e = let r = path_at L level page in let d = done_item (update_flags L (entry_at window s.paths) s.paths r given).answer r q e in update_elsewhere L window s.paths r given (page_of_level L level page is) (not-true _ (and_parts _ _ h).1) p (ap (λ r. begins r (page_path L p)) d.1 ∙ off) out
  done_spares (SetFlags at level page given) is h e = let r = path_at L level page in absurd (never_page (set_flags L (entry_at window s.paths) s.paths at r given).answer q e)
  done_spares (TranslatePage level page) is h e = refl
  done_spares (Translate t) is h e = refl
  done_spares (TranslateAddress t) is h e = refl
  done_spares (CleanUp low high) is h e = absurd (none_recorded q e)

  step_spares : (call : Call) → IsCall L call → items_of L call (step (machine L window added take_back) s call).reply ≡ OnePage q ∷ [] → Spared (step (machine L window added take_back) s call).state.paths
  step_spares call is = step_cases (machine L window added take_back) s call (λ after. items_of L call after.reply ≡ OnePage q ∷ [] → Spared after.state.paths) (done_spares call is) (λ e. refl)

pub calls_spare_others : CallsSpareOthers
calls_spare_others m is T root serves s call c fits q items before p off out =
    step_spares m.levels m.window root serves m.added_flags is.adds m.take_back s (sound_of_fits m.levels m.window T root serves s fits) q before p off out call c items
