-- The tables and free frames of a hierarchy are sound exactly if its tests pass.
use Rattle.std.proofs.Common.{◌≡◌, ◌↔◌, ◌^◌, suc, ℕ, [], Option, Some, None, subst}
use Rattle.x86_64_model.specs.Pool.{serves_below}
use Rattle.x86_64_model.specs.Memory.{Memory, Places, IsMapping, Words, words_of}
use Rattle.x86_64_model.specs.Window.{outside_window}
use Rattle.x86_64_model.proofs.Lemmas.Hierarchies.Memories.{mappings_show_frames}
use Rattle.x86_64_model.proofs.Lemmas.Tables.Meant.{valid_means, fits_means}
use Rattle.x86_64_tables.specs.FramePool.{FreeFrames}
use Rattle.x86_64_tables.specs.private.Soundness.{IsSound}
use Rattle.x86_64_tables.specs.SelfEntries.{window_at}
use Rattle.x86_64_tables.specs.Tested.{ValidWith, FitsWith}

module _ (levels : ℕ) (root : ℕ) where
  valid_above : (words : Words) (recursive : Option ℕ) → IsSound levels words root recursive (serves_below (2 ^ 40)) [] ↔ ValidWith (suc levels) words root recursive
  valid_above words None =
      let means = valid_means levels words root in (
        λ sound. record { valid = means.0 sound.tables; self = tt },
        λ valid. record { self = tt; tables = means.1 valid.valid },
      )
  valid_above words (Some r) =
      let means = valid_means levels (outside_window (Some (window_at words root r)) root words) root in (
        λ sound. record { valid = means.0 sound.tables; self = sound.self },
        λ valid. record { self = valid.self; tables = means.1 valid.valid },
      )

  fits_above : (memory : Memory) (places : Places) → IsMapping places → (recursive : Option ℕ) (pool : FreeFrames)
      → IsSound levels (words_of memory places) root recursive (serves_below pool.limit) pool.frames ↔ FitsWith (suc levels) (words_of memory places) root recursive pool
  fits_above memory places mapping None pool =
      let words = words_of memory places in
      let means = fits_means levels None words root pool.limit pool.frames (mappings_show_frames memory places mapping) tt in (
        λ sound. means.0 sound.tables,
        λ fits. record { self = tt; tables = means.1 fits },
      )
  fits_above memory places mapping (Some r) pool =
      let words = words_of memory places in
      let window = Some (window_at words root r) in
      let means = fits_means levels window words root pool.limit pool.frames (mappings_show_frames memory places mapping) in (
        λ sound. (means sound.self).0 sound.tables,
        λ fits. record { self = fits.valid.self; tables = (means fits.valid.self).1 fits },
      )

-- through L levels, the root's and those below it
module _ (levels L : ℕ) (more : suc levels ≡ L) (root : ℕ) (recursive : Option ℕ) where
  pub valid_if_sound : (words : Words) → IsSound levels words root recursive (serves_below (2 ^ 40)) [] ↔ ValidWith L words root recursive
  valid_if_sound words = subst (λ L. IsSound levels words root recursive (serves_below (2 ^ 40)) [] ↔ ValidWith L words root recursive) more (valid_above levels root words recursive)

  pub fits_if_sound : (memory : Memory) (places : Places) → IsMapping places → (pool : FreeFrames)
      → IsSound levels (words_of memory places) root recursive (serves_below pool.limit) pool.frames ↔ FitsWith L (words_of memory places) root recursive pool
  fits_if_sound memory places mapping pool =
      let words = words_of memory places in
      subst (λ L. IsSound levels words root recursive (serves_below pool.limit) pool.frames ↔ FitsWith L words root recursive pool) more (fits_above levels root memory places mapping recursive pool)
