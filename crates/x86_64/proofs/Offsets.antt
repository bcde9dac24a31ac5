-- The result of a list of calls in a memory at an offset is the one with each frame at the place of its number.
use Rattle.std.specs.Prelude.{◌≡◌, ◌↔◌, ℕ, Bool, List, None}
use Rattle.std.proofs.Common.{sym, ap, ◌∙◌, subst}
use Rattle.x86_64_model.specs.Validity.{paths_of}
use Rattle.x86_64_model.specs.Hierarchy.{◌laid_in◌, Owns, paths}
use Rattle.x86_64_model.specs.Store.{KeepsPool}
use Rattle.x86_64_model.specs.Memory.{Memory, Words, identity_places, word}
use Rattle.x86_64_model.specs.PathMap.{PathMap}
use Rattle.x86_64_model.specs.Pool.{IsOwn}
use Rattle.x86_64_model.specs.Window.{outside_window}
use Rattle.x86_64_mappers.specs.Layouts.{direct_at}
use Rattle.x86_64_mappers.proofs.Memory.OffsetTables.{offset_words, offset_fits}
use Rattle.x86_64_mappers.specs.Offsets.{OffsetFits, offset_places}
use Rattle.x86_64.specs.FreeFrames.{KeepsFree}
use Rattle.x86_64.specs.Runs.{state_in}

same_paths : (levels offset root : ℕ) (m : Memory) → OffsetFits levels m offset → paths (direct_at levels (offset_places levels offset) root laid_in m) ≡ paths (direct_at levels identity_places root laid_in m)
same_paths levels offset root m reached = ap (λ tables. paths_of levels (outside_window None root tables) root) (offset_words levels m offset reached)

-- the words mean one state with both mappings
pub same_state : (levels offset root : ℕ) (m : Memory) (pool : List ℕ) → OffsetFits levels m offset → state_in (direct_at levels (offset_places levels offset) root) m pool ≡ state_in (direct_at levels identity_places root) m pool
same_state levels offset root m pool reached = ap (λ (M : PathMap). record { paths = M; pool = pool }) (same_paths levels offset root m reached)

same_own : (levels offset root : ℕ) (m : Memory) (pool : List ℕ) → OffsetFits levels m offset → (f : ℕ) → Owns (direct_at levels (offset_places levels offset) root laid_in m) pool f ↔ Owns (direct_at levels identity_places root laid_in m) pool f
same_own levels offset root m pool reached f =
    let same = same_paths levels offset root m reached in
    (subst (λ (M : PathMap). IsOwn levels root M pool f) same, subst (λ (M : PathMap). IsOwn levels root M pool f) (sym same))

-- what is kept is equal with both mappings
pub same_kept : (levels offset root : ℕ) (serves : ℕ → Bool) (m n : Memory) (pool rest : List ℕ) → OffsetFits levels m offset → OffsetFits levels n offset
    → KeepsPool (direct_at levels (offset_places levels offset) root) serves m pool n rest → KeepsPool (direct_at levels identity_places root) serves m pool n rest
same_kept levels offset root serves m n pool rest before after kept = record {
  fits = (offset_fits levels n offset after root serves rest).1 kept.fits;
  conserved = λ f.
      let first = same_own levels offset root m pool before f in
      let last = same_own levels offset root n rest after f in
      (λ own. last.0 ((kept.conserved f).0 (first.1 own)), λ own. first.0 ((kept.conserved f).1 (last.1 own)));
  others = λ place none. kept.others place (λ f own. none f ((same_own levels offset root m pool before f).0 own));
}

-- the words of free frames are equal with both mappings
pub same_free : (levels offset root : ℕ) (m n : Memory) (pool back rest : List ℕ) → OffsetFits levels m offset → OffsetFits levels n offset
    → KeepsFree (direct_at levels (offset_places levels offset) root) m pool back n rest → KeepsFree (direct_at levels identity_places root) m pool back n rest
same_free levels offset root m n pool back rest before after keeps =
    let first = offset_words levels m offset before in
    let last = offset_words levels n offset after in
    record {
      came_back = λ f left came i. subst (λ (T : Words). word T f i ≡ 0) last (keeps.came_back f left came i);
      was_free = keeps.was_free;
      same_words = λ f left none. sym (ap (λ (T : Words). T f) last) ∙ keeps.same_words f left none ∙ ap (λ (T : Words). T f) first;
    }
