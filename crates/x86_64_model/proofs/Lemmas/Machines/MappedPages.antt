-- Pages that are all mapped, one after the other, stand at the end.
use Rattle.std.proofs.Common.{◌≡◌, inr, ℕ, Bool, List, [], ◌∷◌, map, sym, ◌∙◌, arith}
use Rattle.std.specs.List.{AllByRecursion}
use Rattle.x86_64_model.specs.Call.{Reply, Answered, IsCall}
use Rattle.x86_64_model.specs.Laws.PageMappings.{AsksFor, MappingsStand}
use Rattle.x86_64_model.specs.Laws.Steps.{FitsState}
use Rattle.x86_64_model.specs.Machine.{Machine, IsMachine, State, AfterCall, do_call, step, replies_of, state_after}
use Rattle.x86_64_model.specs.MapRule.{AfterMap, map_call, parent_part}
use Rattle.x86_64_model.specs.Memory.{Words}
use Rattle.x86_64_model.specs.PageMappings.{PageMapping, entry_path, map_call_of, map_calls, accepted}
use Rattle.x86_64_model.specs.PathMap.{PathMap}
use Rattle.x86_64_model.specs.Refusal.{Answer, Done}
use Rattle.x86_64_model.specs.Standing.{IsMappedIn}
use Rattle.x86_64_model.proofs.Lemmas.Machines.Effects.{step_cases}
use Rattle.x86_64_model.proofs.Lemmas.Machines.Fitting.{sound_of_fits}
use Rattle.x86_64_model.proofs.Lemmas.Machines.Laws.{step_is_held}
use Rattle.x86_64_model.proofs.Lemmas.Machines.States.{all_in}
use Rattle.x86_64_model.proofs.Lemmas.Maps.Arrives.{part_is_flags}
use Rattle.x86_64_model.proofs.Lemmas.Maps.Standing.{accepted_stands, standing_is_left}

first_same : (r t : Reply) (rs ts : List Reply) → ◌≡◌ {A = List Reply} (r ∷ rs) (t ∷ ts) → r ≡ t
first_same r t rs ts e = cc

rest_same : (r t : Reply) (rs ts : List Reply) → ◌≡◌ {A = List Reply} (r ∷ rs) (t ∷ ts) → rs ≡ ts
rest_same r t rs ts e = cc

answer_same : (a b : Answer) → ◌≡◌ {A = Reply} (Answered a) (Answered b) → a ≡ b
answer_same a b e = cc

-- a page stands in a path map
abbrev pub StandsIn : (L : ℕ) → PathMap → PageMapping → Type 0
StandsIn L paths x = IsMappedIn L x.level paths (entry_path L x) x.frame x.flags

module _ (m : Machine) (is : IsMachine m) (T : Words) (root : ℕ) (serves : ℕ → Bool) (s : State) (fits : FitsState m T root serves s) (x : PageMapping) (asks : AsksFor m.levels x) where
  abbrev after : AfterMap
  after = map_call m.levels s.paths s.pool (parent_part x.flags) m.added_flags (entry_path m.levels x) x.frame x.flags

  is_call : IsCall m.levels (map_call_of x)
  is_call = (asks.low, asks.high, let at = asks.at_level in let some = asks.nonempty in omega (arith, at, some))

  -- what an accepted map leaves, an accepted step does
  by_map : (P : PathMap → Type 0) → (after.answer ≡ Done x.frame → P after.paths) → (step m s (map_call_of x)).reply ≡ accepted x → P (step m s (map_call_of x)).state.paths
  unfolding do_call
  by_map P done = step_cases m s (map_call_of x) (λ (a : AfterCall). a.reply ≡ accepted x → P a.state.paths) (λ _ e. done (answer_same after.answer (Done x.frame) e)) (λ e. cc)

  pub one_stands : (step m s (map_call_of x)).reply ≡ accepted x → StandsIn m.levels (step m s (map_call_of x)).state.paths x
  one_stands = by_map (λ paths. StandsIn m.levels paths x) (accepted_stands m.levels x.level _ root s.paths s.pool m.added_flags (entry_path m.levels x) x.frame x.flags fits.valid.valid.holds is.adds
      (all_in s.pool (sound_of_fits m.levels m.window T root serves s fits).frames) asks)

  pub one_leaves : (step m s (map_call_of x)).reply ≡ accepted x → (level : ℕ) (page : List ℕ) (frame flags : ℕ)
      → IsMappedIn m.levels level s.paths page frame flags → IsMappedIn m.levels level (step m s (map_call_of x)).state.paths page frame flags
  one_leaves e level page frame flags stands = by_map (λ paths. IsMappedIn m.levels level paths page frame flags)
      (λ done. standing_is_left m.levels level _ root s.paths s.pool (parent_part x.flags) m.added_flags (entry_path m.levels x) x.frame x.flags fits.valid.valid.holds (part_is_flags x.flags)
      (let at = asks.at_level in let low = asks.low in omega (arith, at, low)) page frame flags stands (inr (λ refused. let t = sym done ∙ refused in cc))) e

module _ (m : Machine) (is : IsMachine m) (root : ℕ) (serves : ℕ → Bool) where
  abbrev pub end : State → List PageMapping → PathMap
  end s xs = (state_after m s (map_calls xs)).paths

  -- pages that stood before
  pub pages_stay : (xs : List PageMapping) (T : Words) (s : State) → FitsState m T root serves s → AllByRecursion (AsksFor m.levels) xs → replies_of m s (map_calls xs) ≡ map accepted xs
      → (level : ℕ) (page : List ℕ) (frame flags : ℕ) → IsMappedIn m.levels level s.paths page frame flags → IsMappedIn m.levels level (end s xs) page frame flags
  pages_stay [] T s fits asks e level page frame flags stands = stands
  pages_stay (x ∷ xs) T s fits asks e level page frame flags stands =
      let held = step_is_held m is T root serves s (map_call_of x) (is_call m is T root serves s fits x asks.0) fits in
      pages_stay xs held.0 (step m s (map_call_of x)).state held.1 asks.1 (rest_same _ _ _ _ e) level page frame flags
      (one_leaves m is T root serves s fits x asks.0 (first_same _ _ _ _ e) level page frame flags stands)

  pub pages_stand : (xs : List PageMapping) (T : Words) (s : State) → FitsState m T root serves s → AllByRecursion (AsksFor m.levels) xs → replies_of m s (map_calls xs) ≡ map accepted xs
      → AllByRecursion (StandsIn m.levels (end s xs)) xs
  pages_stand [] T s fits asks e = tt
  pages_stand (x ∷ xs) T s fits asks e =
      let held = step_is_held m is T root serves s (map_call_of x) (is_call m is T root serves s fits x asks.0) fits in
      let next = (step m s (map_call_of x)).state in
      let rest = rest_same _ _ _ _ e in (
        pages_stay xs held.0 next held.1 asks.1 rest x.level (entry_path m.levels x) x.frame x.flags (one_stands m is T root serves s fits x asks.0 (first_same _ _ _ _ e)),
        pages_stand xs held.0 next held.1 asks.1 rest,
      )

pub mappings_stand : MappingsStand
mappings_stand m is T root serves s fits xs asks e = (pages_stand m is root serves xs T s fits asks e, pages_stay m is root serves xs T s fits asks e)
