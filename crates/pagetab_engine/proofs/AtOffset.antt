-- The effect of a call of the mapper at an offset on the program's hierarchy.
use Rattle.std.proofs.Common.{◌≡◌, ◌∙◌, ℕ, Some, refl, sym, ap, subst}
use Rattle.x86_64_model.specs.Call.{Call}
use Rattle.x86_64_model.specs.Hierarchy.{◌laid_in◌, Hierarchy}
use Rattle.x86_64_model.specs.Layout.{Layout}
use Rattle.x86_64_model.specs.Machine.{Machine, State}
use Rattle.x86_64_model.specs.Memory.{Memory}
use Rattle.x86_64_model.specs.Store.{Store, StoreFits, Keeps}
use Rattle.x86_64_model.specs.Flushing.{freed_by}
use Rattle.x86_64_mappers.specs.Layouts.{direct_at}
use Rattle.x86_64_mappers.proofs.Memory.OffsetTables.{offset_fits}
use Rattle.x86_64_mappers.specs.Offsets.{OffsetFits, offset_places}
use Rattle.x86_64.proofs.Offsets.{same_state, same_kept, same_free}
use Rattle.x86_64.proofs.PlacesStay.{offsets_fit_still}
use Rattle.x86_64.specs.FreeFrames.{KeepsFree}
use Rattle.x86_64.specs.Runs as runs
use Rattle.x86_64.specs.Runs.{Stepped, LeavesFree}
use Rattle.x86_64.specs.Replies.{Reply}
use Rattle.pagetab_engine.specs.Calls.{IsAnswered}
use Rattle.pagetab_engine.specs.Frames.{direct_layout}
use Rattle.pagetab_engine.proofs.Answering.{answered_in}

-- the layout at the offset
abbrev pub layout_at : (levels offset : ℕ) → Layout
layout_at levels offset = direct_at levels (offset_places levels offset) 0x1000

-- what fits the hierarchy fits it at the offset
pub at_offset : (levels offset : ℕ) (m : Memory) (store : Store) → OffsetFits levels m offset → StoreFits (direct_layout levels laid_in m) store → StoreFits (layout_at levels offset laid_in m) store
at_offset levels offset m store reached fits = (offset_fits levels m offset reached 0x1000 store.serves store.frames).0 fits

-- a call that is executed at the offset is executed in the direct layout
answered_alike : (levels offset : ℕ) (m n : Memory) (store rest : Store) (call : Call) (reply : Reply) → OffsetFits levels m offset → OffsetFits levels n offset
    → IsAnswered (layout_at levels offset laid_in m) store call (layout_at levels offset laid_in n) rest reply → IsAnswered (direct_layout levels laid_in m) store call (direct_layout levels laid_in n) rest reply
answered_alike levels offset m n store rest call reply first last answered =
    let same = same_state levels offset 0x1000 m store.frames first in
    let machine : Machine = runs.machine_of (direct_layout levels) store.take_back in
    record {
      step = ap (λ (state : State). runs.step_by machine state call) (sym same) ∙ answered.step ∙ ap (λ (state : State). record { state = state; reply = Some reply }) (same_state levels offset 0x1000 n rest.frames last);
      free = subst (λ (state : State). KeepsFree (direct_layout levels) m store.frames (freed_by machine.levels state call) n rest.frames) same
          (same_free levels offset 0x1000 m n store.frames _ rest.frames first last answered.free);
      keeps = record {
        keeps = same_kept levels offset 0x1000 store.serves m n store.frames rest.frames first last answered.keeps.keeps;
        serves = answered.keeps.serves;
        layout = refl;
        lent = refl;
      };
    }

-- The mapper of a memory at the offset executes a call: then it is executed in the direct layout, and the places are still
-- reached.
pub answered_after : {Lent : Type 0} (h after : Hierarchy Lent) (store rest : Store) (call : Call) (reply : Reply) → Keeps h store after rest → Stepped h store call reply after rest.frames → LeavesFree h store call after rest.frames
    → (levels offset : ℕ) (m n : Memory) → n ≡ after.memory → h.layout ≡ layout_at levels offset → h.memory ≡ m → OffsetFits levels m offset → StoreFits (direct_layout levels laid_in m) store
    → OffsetFits levels n offset × IsAnswered (direct_layout levels laid_in m) store call (direct_layout levels laid_in n) rest reply
answered_after h after store rest call reply keeps step free levels offset m n last is first reached fits =
    let there : IsAnswered (layout_at levels offset laid_in m) store call (layout_at levels offset laid_in n) rest reply =
    answered_in h after store rest call reply keeps step free (layout_at levels offset) (layout_at levels offset) m n is (keeps.layout ∙ is) first last in
    let still = offsets_fit_still (layout_at levels offset) store.serves m n store.frames rest.frames (at_offset levels offset m store reached fits) there.keeps.keeps levels offset reached in
    (still, answered_alike levels offset m n store rest call reply reached still there)
