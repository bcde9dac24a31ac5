-- What the tests mean: the sound lists are the valid hierarchies, and the pools that fit them.
use Rattle.std.proofs.Common.{◌≡◌, ◌≢◌, ◌↔◌, ⊎_elim, ◌/◌, ◌^◌, ◌&&◌, ℕ, suc, true, List, [], ◌∷◌, Some, Option, refl, sym, ap, ap₂, ◌∙◌, subst, arith, lt-ltb}
use Rattle.std.proofs.lemmas.Bool.{cases_lt}
use Rattle.x86_64_model.specs.Entry.{address}
use Rattle.x86_64_model.specs.Memory.{Words, OnlyFrames}
use Rattle.x86_64_model.specs.PathMap.{PathMap, entry}
use Rattle.x86_64_model.specs.Validity.{IsValid, paths_of}
use Rattle.x86_64_model.specs.Window.{Window, outside_window, SelfEntry}
use Rattle.x86_64_model.specs.Pool.{Fits}
use Rattle.x86_64_model.proofs.Lemmas.Entries.Bits.{same_frame, is_frame_address}
use Rattle.x86_64_model.proofs.Lemmas.Entries.Words.{address_within}
use Rattle.x86_64_model.proofs.Lemmas.Hierarchies.Exists.{held_is_paths_of}
use Rattle.x86_64_model.proofs.Lemmas.Hierarchies.Trees.{table_of_gives}
use Rattle.x86_64_model.specs.private.Tables.{SoundTables}
use Rattle.x86_64_model.specs.Pool.{serves_below}
use Rattle.x86_64_model.specs.Laws.Validity.{ValidForItsPaths, SoundIsValid, SoundIsFitting}
use Rattle.x86_64_model.proofs.Lemmas.Tables.Exact.{sound_valid, valid_sound, sound_fits, fits_sound}

-- frames are served by a pool with no limit, but for frame 0
served : (e : ℕ) → address e ≢ 0 → serves_below (2 ^ 40) (address e) ≡ true
unfolding address
served e n = ap₂ (λ a b. a && b)
    (lt-ltb 0 (address e / 4096) (⊎_elim (λ l. l) (λ l. absurd (n (same_frame (address e) 0 (is_frame_address e) (is_frame_address 0) (omega arith)))) (cases_lt 0 (address e / 4096))))
    (lt-ltb (address e / 4096) (2 ^ 40) (let l = address_within e in omega (arith, l)))

module _ (n : ℕ) (T : Words) (root : ℕ) where
  pub valid_means : SoundTables n T root (serves_below (2 ^ 40)) [] ↔ IsValid (suc n) T root (paths_of (suc n) T root)
  valid_means = (
    sound_valid n T root (serves_below (2 ^ 40)) [] refl,
    λ valid. valid_sound n T root (serves_below (2 ^ 40)) [] valid
        (λ i q f e. let a = (table_of_gives (suc n) (i ∷ q) (entry (paths_of (suc n) T root) (i ∷ q)) f e).at in
        subst (λ f. serves_below (2 ^ 40) f ≡ true) a (served (entry (paths_of (suc n) T root) (i ∷ q)) (λ z. valid.not_zero i q (e ∙ ap Some (sym a ∙ z)))))
        tt (λ f i. absurd i) (λ f i. absurd i) (λ f i. absurd i),
  )

  -- the path map of the words is the valid one, if there is one
  pub valid_some : ((M : PathMap) × IsValid (suc n) T root M) ↔ IsValid (suc n) T root (paths_of (suc n) T root)
  valid_some = (
    λ m. subst (IsValid (suc n) T root) (held_is_paths_of (suc n) T root (omega arith) m.0 m.1.holds) m.1,
    λ valid. (paths_of (suc n) T root, valid),
  )

module _ (n : ℕ) (window : Option Window) (T : Words) (root limit : ℕ) (pool : List ℕ) (frames : OnlyFrames T) where
  pub fits_means : SelfEntry T root window → SoundTables n (outside_window window root T) root (serves_below limit) pool ↔ Fits (suc n) window T root (paths_of (suc n) (outside_window window root T) root) (serves_below limit) pool
  fits_means self = (sound_fits n window T root (serves_below limit) pool frames refl self, fits_sound n window T root (serves_below limit) pool frames)

pub valid_for_its_paths : ValidForItsPaths
valid_for_its_paths n T root = valid_some n T root

pub sound_is_valid : SoundIsValid
sound_is_valid n T root = valid_means n T root

pub sound_is_fitting : SoundIsFitting
sound_is_fitting n window T root limit pool frames self = fits_means n window T root limit pool frames self
