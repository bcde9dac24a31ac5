-- Calls keep the places of a memory: frames of the hierarchy and its pool are in the memory before and after, and all other
-- places stay.
use Rattle.std.specs.Prelude.{◌≡◌, ◌≢◌, ℕ, Bool, true, false, cond, List, Option, Some, None, IsSome}
use Rattle.std.specs.FinMap.{get}
use Rattle.std.proofs.Common.{refl, sym, ap, ◌∙◌, subst}
use Rattle.x86_64_model.specs.Layout.{Layout}
use Rattle.x86_64_model.specs.Hierarchy.{◌laid_in◌, Owns, PoolFits, words}
use Rattle.x86_64_model.specs.Memory.{Memory}
use Rattle.x86_64_model.proofs.Lemmas.Machines.Fitting.{own_there}
use Rattle.x86_64.specs.PlacesStay.{PlacesStay, OffsetsFitStill}
use Rattle.x86_64.specs.Runs.{state_in}

-- a frame with a table has its place in the memory
there_if : (c : Bool) (table : Option (List ℕ)) → IsSome (cond c table None) → IsSome table
there_if true table there = there
there_if false table there = cc there

-- the place of a frame of the hierarchy or of its pool is in the memory
own_place : (l : Layout) (serves : ℕ → Bool) (m : Memory) (pool : List ℕ) → PoolFits (l laid_in m) serves pool → (f : ℕ) → Owns (l laid_in m) pool f → IsSome (get m (l.places.place f))
own_place l serves m pool fits f own =
    there_if (l.places.covers f) (get m (l.places.place f)) (own_there l.levels l.window (words (l laid_in m)) l.root serves (state_in l m pool) fits f own)

-- a place is in the memory if it would be unchanged in case it weren't
there_by : {X : Type 0} (t u : Option X) → IsSome u → (t ≡ None → t ≡ u) → IsSome t
there_by (Some x) u there same = cc
there_by None u there same = subst IsSome (sym (same refl)) there

-- a place that isn't in the memory isn't that of a frame which is
no_own : (place at : ℕ) (m : Memory) → get m place ≡ None → IsSome (get m at) → at ≢ place
no_own place at m none there same = let gone : IsSome {T = List ℕ} None = subst IsSome (ap (get m) same ∙ none) there in cc gone

pub places_stay : PlacesStay
places_stay l serves m n pool rest fits kept place = (before, after)
  where
    before : IsSome (get n place) → IsSome (get m place)
    before there = there_by (get m place) (get n place) there (λ none. sym (kept.others place (λ f own. no_own place (l.places.place f) m none (own_place l serves m pool fits f own))))

    after : IsSome (get m place) → IsSome (get n place)
    after there =
        there_by (get n place) (get m place) there (λ none. kept.others place (λ f own. no_own place (l.places.place f) n none (own_place l serves n rest kept.fits f ((kept.conserved f).0 own))))

pub offsets_fit_still : OffsetsFitStill
offsets_fit_still l serves m n pool rest fits kept levels offset reached place there = reached place ((places_stay l serves m n pool rest fits kept place).0 there)
