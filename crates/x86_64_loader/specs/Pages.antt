-- Runs of pages of one size, mapped to a run of frames with equal flags, and the effect of such maps. A page stands if it is
-- mapped as `map_to` maps it.
use Rattle.std.specs.Prelude.{◌≡◌, ◌+◌, ◌*◌, ◌^◌, ◌%◌, ◌<◌, ◌≤◌, ℕ, true}
use Rattle.x86_64_model.specs.Call.{MapTo}
use Rattle.x86_64_model.specs.Hierarchy.{Hierarchy, IsMappedAs, allows}
use Rattle.x86_64_model.specs.Position.{span}
use Rattle.x86_64_mappers.specs.Supplies.{Supply}
use Rattle.x86_64_loader.specs.Maps.{KeptWithSupply}

-- Page k of a run, counted from 0, may be mapped to frame k of a run: both exist, and `map_to` allows it. `size` is the size of
-- each in bytes.
pub record MayBeMapped {Lent : Type 0} (h : Hierarchy Lent) (level size page frame flags k : ℕ) : Type 0 where
  pub page_there : page + k * size < 2 ^ 48
  pub frame_there : frame + k * size < 2 ^ 52
  pub allowed : allows h (MapTo level (page + k * size) (frame + k * size) flags) ≡ true

-- The first `count` pages of a run stand, each mapped to its frame with these flags.
abbrev pub RunStands : {Lent : Type 0} → Hierarchy Lent → (level size page frame flags count : ℕ) → Type 0
RunStands h level size page frame given count = (k : ℕ) → k < count → IsMappedAs h level (page + k * size) (frame + k * size) given

-- No page that stands overlaps these `size` positions from a start on.
abbrev pub IsFree : {Lent : Type 0} → Hierarchy Lent → (start size : ℕ) → Type 0
IsFree h start size =
    (level page frame given : ℕ) → page % span level ≡ 0 → IsMappedAs h level page frame given
    → (p : ℕ) → start ≤ p → p < start + size → page ≤ p → p < page + span level → ⊥

-- What maps leave of a hierarchy and a supply: all that maps keep, and pages up to the highest level that stood still stand.
pub record LeavesSupply {Lent : Type 0} (highest : ℕ) (h : Hierarchy Lent) (supply : Supply) (after : Hierarchy Lent) (rest : Supply) : Type 0 where
  pub kept : KeptWithSupply h supply after rest
  pub pages : (level page frame given : ℕ) → level ≤ highest → IsMappedAs h level page frame given → IsMappedAs after level page frame given
