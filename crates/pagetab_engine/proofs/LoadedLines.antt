-- What is loaded into frames, line by line, and before the first line.
use Rattle.std.proofs.Common.{◌≡◌, ◌/◌, ◌+◌, ◌*◌, ◌==◌, ◌&&◌, ℕ, zero, suc, nat_lt, Bool, true, false, not, cond, if◌then◌else◌, List, Option, Some, None, refl, sym, ap, ◌∙◌, subst, arith, ltb-true, lt-ltb, eqb-true, true≢false, ◌≢◌, IsSome}
use Rattle.std.proofs.lemmas.Bool.Decides.{Decides-and, Decides-below_and, Decides-eqb, Decides-ltb, Decides-not, nat_tests}
use Rattle.std.proofs.lemmas.Bool.{eqb-false}
use Rattle.std.specs.Bool.{Decides}
use Rattle.std.specs.Cmp.{nat_cmp_total}
use Rattle.std.specs.FinMap.{get, get-empty, get-insert, nat_cmp-IsAntisymmetric, same_map}
use Rattle.std.specs.Ordering.{nat_cmp, eq_by_cmp}
use Rattle.x86_64_addr.specs.Position.{IsCanonical, raw}
use Rattle.x86_64_model.specs.Memory.{Memory}
use Rattle.x86_64_model.proofs.Lemmas.Hierarchies.Memories.{same_key, other_key}
use Rattle.x86_64_tables.specs.PageTable.{zero_words}
use Rattle.pagetab_engine.specs.Frames.{IsLoadable}
use Rattle.pagetab_engine.specs.Hierarchy.{ModeReaches}
use Rattle.pagetab_engine.specs.Image.{empty_memory, is_loadable, load, nothing_loaded}
use Rattle.pagetab_engine.specs.Modes.{are_reached, mode_reaches}
use Rattle.pagetab_engine.specs.Starts.{is_canonical_number}
use Rattle.x86_64_tables.specs.LentPool.{is_in}
use Rattle.pagetab_engine.specs.declared.arguments.Arguments.{Arguments}
use Rattle.pagetab_engine.specs.declared.arguments.Mode.{Mode}
use Rattle.pagetab_engine.specs.declared.arguments.Mode.TheVariants.{Direct, Offset, Recursive, Pair}
use Rattle.pagetab_engine.specs.declared.frames.Frames.{Frames}
use Rattle.pagetab_engine.specs.declared.hierarchy.Hierarchy.{Hierarchy}
use Rattle.pagetab_engine.specs.declared.statement.ImageLine.{ImageLine}
use Rattle.pagetab_engine.specs.declared.statement.ImageLine.TheVariants.{Word, Free}
use Rattle.pagetab_engine.specs.private.RunParts.{IsEmpty, Loads, loaded_of}
use Rattle.pagetab_engine.proofs.Lists.{is_in_tells}
use Rattle.pagetab_engine.proofs.Parsing.{canonical_tells}

-- ---- a line

pub loadable_tells : (frames : Frames) (image : ImageLine) → Decides (is_loadable (loaded_of frames) image) (IsLoadable frames image)
loadable_tells frames (Word slot value) = (λ _. tt, λ _. refl)
loadable_tells frames (Free frame) =
    let free = frames.pool.frames in let limit = frames.pool.limit in
    let both = Decides-and (not (frame == 0)) (nat_lt (frame / 4096) limit && not (is_in free frame)) (Decides-not (frame == 0) (Decides-eqb frame 0))
    (Decides-and (nat_lt (frame / 4096) limit) (not (is_in free frame)) (Decides-ltb (frame / 4096) limit) (Decides-not (is_in free frame) (is_in_tells free frame))) in
    (λ e. let h = both.0 e in (h.0, h.1.0, h.1.1), λ is. both.1 (is.0, (is.1, is.2)))

pub load_told : (image : ImageLine) (before after : Hierarchy) → Loads image before after → loaded_of after.frames ≡ load (loaded_of before.frames) image
load_told (Word slot value) before after loads = λ i. record { memory = loads.memory i; free = loads.free i; limit = loads.limit i }
load_told (Free frame) before after loads = λ i. record { memory = loads.memory i; free = loads.free i; limit = loads.limit i }

-- ---- before the first line

same_test : (place n : ℕ) → place ≢ n → nat_lt place n ≡ nat_lt place (suc n)
same_test place n apart = grind (arith, nat_tests)

below_last : (place n : ℕ) → place ≡ n → nat_lt place (suc n) ≡ true
below_last place n last = lt-ltb place (suc n) (omega arith)

get-empty_memory : (places place : ℕ) → get (empty_memory places) place ≡ (if nat_lt place places then Some zero_words else None)
get-empty_memory zero place = by (nat_lt place 0) refl
  where
    by : (b : Bool) → nat_lt place 0 ≡ b → get (empty_memory 0) place ≡ (if b then Some zero_words else None)
    by false none = get-empty nat_cmp place
    by true low = absurd (let l = ltb-true place 0 low in omega arith)
get-empty_memory (suc n) place = get-insert nat_cmp_total (empty_memory n) n zero_words place ∙ by (place == n) refl (get-empty_memory n place)
  where
    rest : Option (List ℕ)
    rest = get (empty_memory n) place

    by : (b : Bool) → (place == n) ≡ b → rest ≡ (if nat_lt place n then Some zero_words else None)
        → cond (eq_by_cmp nat_cmp place n) (Some zero_words) rest ≡ (if nat_lt place (suc n) then Some zero_words else None)
    by true same below =
        let last = eqb-true place n same in
        ap (λ b. cond b (Some zero_words) rest) (ap (λ k. eq_by_cmp nat_cmp k n) last ∙ same_key n) ∙ ap (λ b. if b then Some zero_words else None) (sym (below_last place n last))
    by false apart below =
        ap (λ b. cond b (Some zero_words) rest) (other_key place n (eqb-false place n apart)) ∙ below ∙ ap (λ b. if b then Some zero_words else None) (same_test place n (eqb-false place n apart))

pub empty_told : (arguments : Arguments) (hierarchy : Hierarchy) → IsEmpty arguments hierarchy → loaded_of hierarchy.frames ≡ nothing_loaded arguments.places
empty_told arguments hierarchy is =
    let memory : hierarchy.frames.memory ≡ empty_memory arguments.places =
    same_map nat_cmp_total nat_cmp-IsAntisymmetric hierarchy.frames.memory (empty_memory arguments.places) (λ place. is.memory place ∙ sym (get-empty_memory arguments.places place)) in
    λ i. record { memory = memory i; free = is.free i; limit = is.limit i }

-- there is a table at each place below their number, and at no other
there_below : (places place : ℕ) (o : Option (List ℕ)) → o ≡ (if nat_lt place places then Some zero_words else None) → Decides (nat_lt place places) (IsSome o)
there_below places place o is = by (nat_lt place places) is
  where
    by : (b : Bool) → o ≡ (if b then Some zero_words else None) → Decides b (IsSome o)
    by true is = (λ _. subst IsSome (sym is) refl, λ _. refl)
    by false is = (λ e. absurd (true≢false (sym e)), λ some. absurd (true≢false (sym (subst IsSome is some))))

reached_tells : (mode : Mode) (places : ℕ) (memory : Memory) → ((place : ℕ) → get memory place ≡ (if nat_lt place places then Some zero_words else None)) → Decides (mode_reaches mode places) (ModeReaches mode memory)
reached_tells (Direct levels) places memory is = (λ _. tt, λ _. refl)
reached_tells (Recursive levels index) places memory is = (λ _. tt, λ _. refl)
reached_tells (Pair levels index) places memory is = (λ _. tt, λ _. refl)
reached_tells (Offset offset) places memory is =
    let all = Decides-below_and (λ place. is_canonical_number 4 (raw 4 offset + place * 4096)) (λ place. IsCanonical 4 (raw 4 offset + place * 4096)) (are_reached offset)
    (λ place. canonical_tells 4 (raw 4 offset + place * 4096)) refl (λ place. refl) places in (
      λ e place there. all.0 e place (ltb-true place places ((there_below places place (get memory place) (is place)).1 there)),
      λ fits. all.1 (λ place low. fits place ((there_below places place (get memory place) (is place)).0 (lt-ltb place places low))),
    )

pub empty_reached : (arguments : Arguments) (hierarchy : Hierarchy) → IsEmpty arguments hierarchy → Decides (mode_reaches arguments.mode arguments.places) (ModeReaches hierarchy.mode hierarchy.frames.memory)
empty_reached arguments hierarchy is =
    subst (λ (mode : Mode). Decides (mode_reaches mode arguments.places) (ModeReaches hierarchy.mode hierarchy.frames.memory)) is.mode (reached_tells hierarchy.mode arguments.places hierarchy.frames.memory is.memory)
