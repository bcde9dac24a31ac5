-- What no command changes, and so no list of commands.
use Rattle.std.proofs.Common.{◌≡◌, List, [], ℕ, refl, sym, ap, ◌∙◌, subst, subst₂}
use Rattle.x86_64_model.specs.Layout.{Layout}
use Rattle.x86_64_model.specs.Hierarchy as mapper
use Rattle.x86_64_model.specs.Hierarchy.{◌laid_in◌, PoolFits}
use Rattle.x86_64_model.specs.Memory.{Memory, identity_places}
use Rattle.x86_64_model.specs.Store.{Store, StoreFits, Keeps}
use Rattle.x86_64.specs.Pairs.{pool_store}
use Rattle.x86_64.proofs.FreeFrames.{nothing_keeps_free}
use Rattle.x86_64.proofs.Keeping.{kept_none}
use Rattle.pagetab_engine.specs.Modes.{layout}
use Rattle.pagetab_engine.specs.Hierarchy.{hierarchy_of, layout_of, ModeReaches, HasTwin, IsHierarchy, KeepsHierarchy, KeepsFreeWords}
use Rattle.pagetab_engine.specs.declared.arguments.Mode.{Mode}
use Rattle.pagetab_engine.specs.declared.arguments.Mode.TheVariants.{Direct, Offset, Recursive, Pair}
use Rattle.pagetab_engine.specs.declared.hierarchy.Hierarchy.{Hierarchy}

pub keeps_itself : (hierarchy : Hierarchy) → IsHierarchy hierarchy → KeepsHierarchy hierarchy hierarchy
keeps_itself hierarchy fits = record { mode = refl; keeps = kept_none (hierarchy_of hierarchy) (pool_store hierarchy.frames.pool) fits.fits; fits = fits }

-- the rest of a store fits the hierarchy that is left
rest_fits : {Lent : Type 0} (h after : mapper.Hierarchy Lent) (store rest : Store) → Keeps h store after rest → StoreFits after rest
rest_fits h after store rest kept = subst₂ (λ (l : Layout) serves. PoolFits (l laid_in after.memory) serves rest.frames) (sym kept.layout) (sym kept.serves) kept.keeps.fits

-- each frame lies at the place of its number
pub by_number : (mode : Mode) (memory : Memory) → (layout mode memory).places ≡ identity_places
by_number (Direct levels) memory = refl
by_number (Offset offset) memory = refl
by_number (Recursive levels index) memory = refl
by_number (Pair levels index) memory = refl

-- what the mapper of the mode keeps is kept in the hierarchy
pub kept_by : (before after : Hierarchy) → after.mode ≡ before.mode → (mode : Mode) → before.mode ≡ mode → ModeReaches mode after.frames.memory → HasTwin mode after.frames after.twin
    → Keeps (layout mode before.frames.memory laid_in before.frames.memory) (pool_store before.frames.pool) (layout mode after.frames.memory laid_in after.frames.memory) (pool_store after.frames.pool) → KeepsHierarchy before after
kept_by before after same mode is reached twin kept =
    let m = before.frames.memory in let n = after.frames.memory in
    let store = pool_store before.frames.pool in let rest = pool_store after.frames.pool in
    let first : layout_of before ≡ layout mode m = ap (λ mode. layout mode m) is in
    let last : layout_of after ≡ layout mode n = ap (λ mode. layout mode n) (same ∙ is) in
    let keeps : Keeps (hierarchy_of before) store (hierarchy_of after) rest = subst₂ (λ (l k : Layout). Keeps (l laid_in m) store (k laid_in n) rest) (sym first) (sym last) kept in
    record {
      mode = same;
      keeps = keeps;
      fits = record {
        fits = rest_fits (hierarchy_of before) (hierarchy_of after) store rest keeps;
        reached = subst (λ mode. ModeReaches mode n) (sym (same ∙ is)) reached;
        twin = subst (λ mode. HasTwin mode after.frames after.twin) (sym (same ∙ is)) twin;
      };
    }

-- ---- the words of free frames

-- if nothing changes, no frame was returned
pub free_itself : (hierarchy : Hierarchy) (back : List ℕ) → back ≡ [] → KeepsFreeWords hierarchy back hierarchy
free_itself hierarchy back none = subst (λ back. KeepsFreeWords hierarchy back hierarchy) (sym none) (nothing_keeps_free (layout_of hierarchy) hierarchy.frames.memory hierarchy.frames.pool.frames)
