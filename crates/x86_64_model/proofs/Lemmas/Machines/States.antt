-- One step keeps a state sound: a hierarchy, and a pool beside it.
use Rattle.std.proofs.Common.{◌≡◌, ◌≢◌, ◌⊎◌, inl, inr, ℕ, Bool, true, false, cond, List, [], ◌∷◌, Some, None, Option, refl, sym, ap, ◌∙◌, subst}
use Rattle.std.proofs.lemmas.Option.{same_Some}
use Rattle.std.specs.List.{AllByRecursion}
use Rattle.x86_64_model.specs.Entry.{IsParentFlags, used, address}
use Rattle.x86_64_model.specs.PathMap.{PathMap, entry, put, table_at}
use Rattle.x86_64_model.specs.Window.{Window, begins_with}
use Rattle.x86_64_model.specs.MapRule.{map_call}
use Rattle.x86_64_model.specs.CleanUp.{clean_up, is_removed}
use Rattle.x86_64_model.specs.Lists.{In}
use Rattle.x86_64_model.specs.Pool.{IsOwn, TakesBack, with_returned}
use Rattle.x86_64_model.specs.Path.{IsPage}
use Rattle.x86_64_model.specs.Call.{IsCall, Call}
use Rattle.x86_64_model.specs.Machine.{State, step, state_after}
use Rattle.x86_64_model.proofs.Lemmas.Entries.Bits.{address_address}
use Rattle.x86_64_model.proofs.Lemmas.Paths.Puts.{entry-put_other}
use Rattle.x86_64_model.proofs.Lemmas.Hierarchies.Changes.{zero_not_used}
use Rattle.x86_64_model.proofs.Lemmas.Maps.Frames.{IsFrame, OneEach, Conserves, conserves_nothing, conserves_marked, same_tables}
use Rattle.x86_64_model.proofs.Lemmas.Hierarchies.Trees.{IsHierarchy, table_of_gives}
use Rattle.x86_64_model.proofs.Lemmas.Hierarchies.Puts.{hierarchy_put, reached_used}
use Rattle.x86_64_model.proofs.Lemmas.Maps.PageCalls.{map_hierarchy, map_conserved, map_aside, not_first}
use Rattle.x86_64_model.proofs.Lemmas.CleanUps.Trees.{clean_hierarchy, clean_conserves}
use Rattle.x86_64_model.proofs.Lemmas.CleanUps.Keys.{entry-cleaned}
use Rattle.x86_64_model.proofs.Lemmas.Machines.Effects.{machine, MapMay, step_ind}
use Rattle.x86_64_model.proofs.Lemmas.Machines.Changes.{IsChange}
pub use Rattle.x86_64_model.specs.Laws.Steps.{AllCalls}

-- the map has no entry at the recursive index
abbrev pub Aside : Option Window → PathMap → Type 0
Aside None M = Unit {0}
Aside (Some w) M = entry M (w.index ∷ []) ≡ 0

-- what is known of a state beside any words: a hierarchy and a pool that fits
pub record IsSound (L : ℕ) (window : Option Window) (root : ℕ) (serves : ℕ → Bool) (s : State) : Type 0 where
  pub hierarchy : IsHierarchy L root s.paths
  pub aside : Aside window s.paths
  pub one_each : OneEach L root s.paths s.pool
  pub frames : (f : ℕ) → In s.pool f → IsFrame f
  pub served : (f : ℕ) → IsOwn L root s.paths s.pool f → (f ≡ root) ⊎ (serves f ≡ true)

pub all_in : (fs : List ℕ) → ((f : ℕ) → In fs f → IsFrame f) → AllByRecursion IsFrame fs
all_in [] h = tt
all_in (f ∷ fs) h = (h f (inl refl), all_in fs (λ g i. h g (inr i)))

pub from_all : (fs : List ℕ) → AllByRecursion IsFrame fs → (f : ℕ) → In fs f → IsFrame f
from_all [] a f h = absurd h
from_all (g ∷ gs) a f (inl e) = subst IsFrame e a.0
from_all (g ∷ gs) a f (inr h) = from_all gs a.1 f h

module _ (L : ℕ) (window : Option Window) (root : ℕ) (serves : ℕ → Bool) (s : State) (sound : IsSound L window root serves s) where
  -- frames that are free afterwards and were free or a table's before
  pub own_frame : (f : ℕ) → IsOwn L root s.paths s.pool f → f ≢ root → IsFrame f
  own_frame f (inl i) n = sound.frames f i
  own_frame f (inr t) n = table t.0 t.1
    where
      table : (q : List ℕ) → table_at L root s.paths q ≡ Some f → IsFrame f
      table [] e = absurd (n (sym (same_Some root f e)))
      table (i ∷ q) e = let names = table_of_gives L (i ∷ q) (entry s.paths (i ∷ q)) f e in record {
        aligned = ap address (sym names.at) ∙ address_address (entry s.paths (i ∷ q)) ∙ names.at;
        not_zero = λ z. sound.hierarchy.not_zero i q (e ∙ ap Some z);
      }

  pub kept_served : (M : PathMap) (pool : List ℕ) → Conserves L root s.paths s.pool M pool → (f : ℕ) → IsOwn L root M pool f → (f ≡ root) ⊎ (serves f ≡ true)
  kept_served M pool c f o = sound.served f ((c.same_set f).1 o)

  pub sound_map : (more added : ℕ) → IsParentFlags added → (q : List ℕ) (frame given : ℕ) → IsPage L q → MapMay window s.paths q given more
      → IsSound L window root serves (record { paths = (map_call L s.paths s.pool more added q frame given).paths; pool = (map_call L s.paths s.pool more added q frame given).supply })
  sound_map more added adds q frame given page may =
      let kept = map_hierarchy L root more added may.marks adds q frame given page s.paths s.pool sound.hierarchy (all_in s.pool sound.frames) in
      let c = map_conserved L root more added may.marks adds q frame given page s.paths s.pool sound.hierarchy (all_in s.pool sound.frames) in record {
        hierarchy = kept.0;
        aside = by window may.outside sound.aside;
        one_each = c.one_each sound.one_each;
        frames = from_all _ kept.1;
        served = kept_served _ _ c;
      }
    where
      by : (v : Option Window) → begins_with v q ≡ false → Aside v s.paths → Aside v (map_call L s.paths s.pool more added q frame given).paths
      by None o a = tt
      by (Some w) o a = map_aside L root more added may.marks adds q frame given page s.paths s.pool sound.hierarchy (all_in s.pool sound.frames) w o ∙ a

  pub sound_change : (q : List ℕ) (w : ℕ) → IsChange L window s.paths q w → IsSound L window root serves (record { paths = put s.paths q w; pool = s.pool })
  sound_change [] w c = absurd (let t : false ≡ true = sym (ap used sound.hierarchy.tree.nothing_above ∙ zero_not_used) ∙ c.is_used in cc)
  sound_change (i ∷ q) w c = let kept = conserves_marked L root s.paths _ s.pool (same_tables L root s.paths i q w c.same_table) in record {
    hierarchy = hierarchy_put L root s.paths (i ∷ q) w (λ e. cc) sound.hierarchy (reached_used L root s.paths sound.hierarchy.tree (i ∷ q) c.is_used) (λ z. sym c.same_table ∙ z)
        (λ z. sound.hierarchy.not_zero i q (sym c.same_table ∙ z)) c.low;
    aside = by window c.outside sound.aside;
    one_each = kept.one_each sound.one_each;
    frames = sound.frames;
    served = kept_served _ _ kept;
  }
    where
      by : (v : Option Window) → begins_with v (i ∷ q) ≡ false → Aside v s.paths → Aside v (put s.paths (i ∷ q) w)
      by None o a = tt
      by (Some v) o a = entry-put_other s.paths (i ∷ q) w (v.index ∷ []) (not_first i v.index q o) ∙ a

  pub sound_clean : (take_back : List ℕ → ℕ → List ℕ) → TakesBack take_back → (low high : ℕ)
      → IsSound L window root serves (record { paths = (clean_up L s.paths low high).paths; pool = with_returned take_back s.pool (clean_up L s.paths low high).back })
  sound_clean take_back gives low high = let c = clean_conserves take_back gives L root s.paths sound.hierarchy.tree low high s.pool in let one = c.one_each sound.one_each in record {
    hierarchy = clean_hierarchy L root s.paths sound.hierarchy low high;
    aside = by window sound.aside;
    one_each = one;
    frames = λ f i. own_frame f ((c.same_set f).1 (inl i)) (λ e. one.no_table f i ([], ap Some (sym e)));
    served = kept_served _ _ c;
  }
    where
      by : (v : Option Window) → Aside v s.paths → Aside v (clean_up L s.paths low high).paths
      by None a = tt
      by (Some w) a = entry-cleaned L s.paths low high (w.index ∷ []) ∙ elim (is_removed L s.paths low high (w.index ∷ [])) as (λ b. cond b 0 (entry s.paths (w.index ∷ [])) ≡ 0) [ true ↦ refl | false ↦ a ]

  -- one step
  pub step_sound : (added : ℕ) → IsParentFlags added → (take_back : List ℕ → ℕ → List ℕ) → TakesBack take_back → (call : Call) → IsCall L call → IsSound L window root serves (step (machine L window added take_back) s call).state
  step_sound added adds take_back gives call is = step_ind L window added take_back root s sound.hierarchy (λ t items. IsSound L window root serves t)
      sound (λ q frame given more items page may. sound_map more added adds q frame given page may) (λ q w item c covered. sound_change q w c) (λ low high. sound_clean take_back gives low high) call is

  -- frees and tables' frames stay one set, each once
  pub step_conserves : (added : ℕ) → IsParentFlags added → (take_back : List ℕ → ℕ → List ℕ) → TakesBack take_back → (call : Call) → IsCall L call
      → Conserves L root s.paths s.pool (step (machine L window added take_back) s call).state.paths (step (machine L window added take_back) s call).state.pool
  step_conserves added adds take_back gives call is = step_ind L window added take_back root s sound.hierarchy (λ t items. Conserves L root s.paths s.pool t.paths t.pool)
      (conserves_nothing L root s.paths s.pool)
      (λ q frame given more items page may. map_conserved L root more added may.marks adds q frame given page s.paths s.pool sound.hierarchy (all_in s.pool sound.frames))
      (λ q w item c covered. change q w c)
      (λ low high. clean_conserves take_back gives L root s.paths sound.hierarchy.tree low high s.pool) call is
    where
      change : (q : List ℕ) (w : ℕ) → IsChange L window s.paths q w → Conserves L root s.paths s.pool (put s.paths q w) s.pool
      change [] w c = absurd (let t : false ≡ true = sym (ap used sound.hierarchy.tree.nothing_above ∙ zero_not_used) ∙ c.is_used in cc)
      change (i ∷ q) w c = conserves_marked L root s.paths _ s.pool (same_tables L root s.paths i q w c.same_table)

-- any list of calls
pub run_sound : (L : ℕ) (window : Option Window) (root : ℕ) (serves : ℕ → Bool) (added : ℕ) → IsParentFlags added → (take_back : List ℕ → ℕ → List ℕ) → TakesBack take_back
    → (calls : List Call) → AllCalls L calls → (s : State) → IsSound L window root serves s → IsSound L window root serves (state_after (machine L window added take_back) s calls)
run_sound L window root serves added adds take_back gives [] is s sound = sound
run_sound L window root serves added adds take_back gives (call ∷ calls) is s sound = run_sound L window root serves added adds take_back gives calls is.1 _ (step_sound L window root serves s sound added adds take_back gives call is.0)
