-- The effect of loading a line of an image on a memory.
use Rattle.std.proofs.Common.{◌≡◌, ◌==◌, ℕ, Bool, true, false, List, Option, Some, None, IsSome, refl, sym, ap, ◌∙◌, subst, eqb-true}
use Rattle.std.proofs.lemmas.Bool.{eqb-false}
use Rattle.std.specs.FinMap.{get}
use Rattle.x86_64_model.specs.Memory.{Memory}
use Rattle.x86_64_mappers.proofs.Memory.Stored.{get-put}
use Rattle.pagetab_engine.specs.Hierarchy.{ModeReaches}
use Rattle.pagetab_engine.specs.Frames.{memory_loaded}
use Rattle.pagetab_engine.specs.Slot.{stored, stored_in}
use Rattle.pagetab_engine.specs.declared.arguments.Mode.{Mode}
use Rattle.pagetab_engine.specs.declared.arguments.Mode.TheVariants.{Direct, Offset, Recursive, Pair}
use Rattle.pagetab_engine.specs.declared.frames.Frames.{Frames}
use Rattle.pagetab_engine.specs.declared.statement.ImageLine.{ImageLine}
use Rattle.pagetab_engine.specs.declared.statement.ImageLine.TheVariants.{Word, Free}

-- a memory has no other places after a word was set
same_places : (m : Memory) (at index word place : ℕ) → IsSome (get (stored m at index word) place) → IsSome (get m place)
same_places m at index word place = by (get m at) refl
  where
    is_there : {o : Option (List ℕ)} (table : List ℕ) → o ≡ Some table → IsSome o
    is_there table is = subst (λ o. IsSome o) (sym is) refl

    by : (o : Option (List ℕ)) → get m at ≡ o → IsSome (get (stored_in m at index word o) place) → IsSome (get m place)
    by None is there = there
    by (Some table) is there = among (place == at) refl
      where
        among : (b : Bool) → (place == at) ≡ b → IsSome (get m place)
        among true same = is_there table (ap (λ k. get m k) (eqb-true place at same) ∙ is)
        among false apart = subst (λ o. IsSome o) (get-put m at place _ (eqb-false place at apart)) there

same_places_after : (frames : Frames) (image : ImageLine) (place : ℕ) → IsSome (get (memory_loaded frames image) place) → IsSome (get frames.memory place)
same_places_after frames (Word slot value) place = same_places frames.memory slot.place slot.index value place
same_places_after frames (Free frame) place = λ there. there

-- so a mapper that reached each place still does
pub reached_after : (mode : Mode) (frames : Frames) (image : ImageLine) (after : Memory) → after ≡ memory_loaded frames image → ModeReaches mode frames.memory → ModeReaches mode after
reached_after (Offset offset) frames image after is reached = λ place there. reached place (same_places_after frames image place (subst (λ (m : Memory). IsSome (get m place)) is there))
reached_after (Direct levels) frames image after is reached = tt
reached_after (Recursive levels index) frames image after is reached = tt
reached_after (Pair levels index) frames image after is reached = tt
