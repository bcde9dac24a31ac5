-- The hierarchy after an image that fits.
use Rattle.std.proofs.Common.{◌≡◌, ◌↔◌, ◌∙◌, IsTrue, Bool, ℕ, List, [], Some, None, if◌then◌else◌, nat_lt, sym, ap, subst}
use Rattle.std.specs.Cmp.{nat_cmp_total}
use Rattle.std.specs.FinMap.{get, same_map, nat_cmp-IsAntisymmetric}
use Rattle.x86_64_model.specs.Alike.{Alike}
use Rattle.x86_64_model.specs.Layout.{Layout}
use Rattle.x86_64_model.specs.Hierarchy.{◌laid_in◌, PoolFits, paths}
use Rattle.x86_64_model.specs.Pool.{serves_below}
use Rattle.x86_64_model.specs.Memory.{Memory}
use Rattle.x86_64_model.specs.Store.{StoreFits}
use Rattle.x86_64_tables.specs.PageTable.{zero_words}
use Rattle.x86_64.specs.Pairs.{pool_store}
use Rattle.pagetab_engine.specs.Arguments.{count}
use Rattle.pagetab_engine.specs.Frames.{direct_layout, recursive_layout, without_self_entry}
use Rattle.pagetab_engine.specs.Hierarchy.{IsCopy, HasCopy, FitsImage, ModeReaches, IsHierarchy}
use Rattle.pagetab_engine.specs.Modes.{first_memory, image_layout}
use Rattle.x86_64_addr.specs.declared.level_count.Levels.{Levels}
use Rattle.pagetab_engine.specs.declared.arguments.Mode.{Mode}
use Rattle.pagetab_engine.specs.declared.arguments.Mode.TheVariants.{Direct, Offset, Recursive, Pair}
use Rattle.pagetab_engine.specs.declared.frames.Frames.{Frames}
use Rattle.pagetab_engine.specs.declared.hierarchy.Hierarchy.{Hierarchy}
use Rattle.pagetab_engine.proofs.Cleared.{cleared_alike, cleared_fits}

-- two memories with equally many places, into which no line was loaded, have the same image
pub empty_copy : (levels : Levels) (index : ℕ) (frames copy : Frames) (places copied : ℕ) → copied ≡ places
    → ((place : ℕ) → get frames.memory place ≡ (if nat_lt place places then Some zero_words else None)) → ((place : ℕ) → get copy.memory place ≡ (if nat_lt place copied then Some zero_words else None))
    → frames.pool.frames ≡ [] → copy.pool.frames ≡ [] → frames.pool.limit ≡ places → copy.pool.limit ≡ copied → IsCopy (Pair levels index) frames copy
empty_copy levels index frames copy places copied same words others free none limit other = (
  same_map nat_cmp_total nat_cmp-IsAntisymmetric copy.memory frames.memory
      (λ place. others place ∙ ap (λ places. if nat_lt place places then Some zero_words else None) same ∙ sym (words place)),
  none ∙ sym free,
  other ∙ same ∙ sym limit,
)

-- equal words, free frames in the same order, and equally many places
pub record SameFrames (f g : Frames) : Type 0 where
  pub memory : f.memory ≡ g.memory
  pub free : f.pool.frames ≡ g.pool.frames
  pub limit : f.pool.limit ≡ g.pool.limit

pub turned : (f g : Frames) → SameFrames f g → SameFrames g f
turned f g same = record { memory = sym same.memory; free = sym same.free; limit = sym same.limit }

-- the frames of one of them fit if those of the other do
pub fits_same_frames : (by : Memory → Layout) (f g : Frames) → SameFrames f g → StoreFits (by f.memory laid_in f.memory) (pool_store f.pool) → StoreFits (by g.memory laid_in g.memory) (pool_store g.pool)
fits_same_frames by f g same = subst (λ (at : Memory × ℕ × List ℕ). PoolFits (by at.0 laid_in at.0) (serves_below at.1) at.2) (λ i. (same.memory i, same.limit i, same.free i))

-- the hierarchy of the first commands
abbrev pub first_hierarchy : Mode → (frames twin : Frames) → Hierarchy
first_hierarchy mode frames twin = record { mode = mode; frames = record { memory = first_memory mode frames.memory; pool = frames.pool }; twin = twin }

-- The image fits and each place is reached if and only if the hierarchy of the first commands is valid and fits, in a pair with
-- an alike one.
pub fits_at_end : (mode : Mode) (frames twin : Frames) → IsCopy mode frames twin
    → (StoreFits (image_layout mode frames.memory laid_in frames.memory) (pool_store frames.pool) × ModeReaches mode frames.memory) ↔ IsHierarchy (first_hierarchy mode frames twin)
fits_at_end (Direct levels) frames twin copied = (λ fits. record { fits = fits.0; reached = tt; twin = tt }, λ is. (is.fits, tt))
fits_at_end (Offset offset) frames twin copied = (λ fits. record { fits = fits.0; reached = fits.1; twin = tt }, λ is. (is.fits, is.reached))
fits_at_end (Recursive levels index) frames twin copied = (λ fits. record { fits = fits.0; reached = tt; twin = tt }, λ is. (is.fits, tt))
fits_at_end (Pair levels index) frames twin copied =
    let same : SameFrames twin frames = record { memory = copied.0; free = copied.1; limit = copied.2 } in
    let lies : Memory → Layout = λ m. recursive_layout (count levels) m index in (
      λ fits. record {
        fits = cleared_fits levels frames.memory index (serves_below frames.pool.limit) frames.pool.frames fits.0;
        reached = tt;
        twin = record {
          fits = fits_same_frames lies frames twin (turned twin frames same) fits.0;
          alike = record {
            paths = subst (λ (m : Memory). Alike (count levels) (paths (direct_layout (count levels) laid_in without_self_entry index frames.memory)) (paths (lies m laid_in m))) (sym copied.0) (cleared_alike levels frames.memory index);
            pools = sym copied.1;
          };
        };
      },
      λ is. (fits_same_frames lies twin frames same is.twin.fits, tt),
    )

-- so the test of the image is that of the hierarchy after it
pub ends : (before after : Hierarchy) → HasCopy before → ModeReaches before.mode before.frames.memory → after.frames.memory ≡ first_memory before.mode before.frames.memory
    → after.frames.pool ≡ before.frames.pool → after.mode ≡ before.mode → after.twin ≡ before.twin → (fits : Bool) → IsTrue fits ↔ FitsImage before → IsTrue fits ↔ IsHierarchy after
ends before after copied reached memory pool mode twin fits tested =
    let same : after ≡ first_hierarchy before.mode before.frames before.twin = λ i. record { mode = mode i; frames = record { memory = memory i; pool = pool i }; twin = twin i } in
    let both = fits_at_end before.mode before.frames before.twin copied in
    (λ is. subst (λ (h : Hierarchy). IsHierarchy h) (sym same) (both.0 (tested.0 is, reached)), λ is. tested.1 (both.1 (subst (λ (h : Hierarchy). IsHierarchy h) same is)).0)
