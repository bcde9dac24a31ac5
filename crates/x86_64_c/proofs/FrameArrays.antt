-- An array that takes frames, one after another, from its start on.
use Rattle.std.proofs.Common.{suc, ◌≡◌, ◌≤◌, ◌+◌, ℕ, true, cond, nat_lt, List, [], ◌∷◌, ◌++◌, drop, length, slice_set, ap, ap₂, ◌∙◌, arith}
use Rattle.std.specs.List.{fold}
use Rattle.std.proofs.lemmas.Bool.{lt-ltb}
use Rattle.std.proofs.lemmas.List.{length-set}
use Rattle.std.proofs.lemmas.List.Edits.{sets, sets-eq}
use Rattle.x86_64_c.specs.Ranges.{with_one}
use Rattle.x86_64_c.specs.declared.ranges.FrameArray.{FrameArray}

-- the array with these entries, of which so many were taken
abbrev pub holds : (array : FrameArray) (entries : List ℕ) (count : ℕ) → FrameArray
holds array entries n = record { frames = record { ref_ptr = array.frames.ref_ptr; ghost_name = array.frames.ghost_name; now = entries }; count = n }

-- each frame of a list is taken, if there is room for all
takes : (array : FrameArray) (fs entries : List ℕ) (n : ℕ) → n + length fs ≤ length entries → fold with_one (holds array entries n) fs ≡ holds array (sets entries n fs) (n + length fs)
takes array [] entries n room = ap (holds array entries) (let e : n ≡ n + 0 = omega arith in e)
takes array (f ∷ fs) entries n room =
    let here : nat_lt n (length entries) ≡ true = lt-ltb n (length entries) (omega (arith, room)) in
    let size = length-set entries n f in
    ap (λ b. fold with_one (cond b (holds array (slice_set entries n f) (n + 1)) (holds array entries n)) fs) here
    ∙ takes array fs (slice_set entries n f) (n + 1) (omega (arith, room, size))
    ∙ ap₂ (λ m k. holds array (sets (slice_set entries n f) m fs) k) (let e : n + 1 ≡ suc n = omega arith in e) (let e : n + 1 + length fs ≡ n + suc (length fs) = omega arith in e)

-- so from the start on the array has these frames, and what it held behind them
pub takes_all : (array : FrameArray) (fs : List ℕ) → array.count ≡ 0 → length fs ≤ length array.frames.now
    → fold with_one array fs ≡ holds array (fs ++ drop (length fs) array.frames.now) (length fs)
takes_all array fs empty room =
    let within : 0 + length fs ≤ length array.frames.now = omega (arith, room) in
    let all : 0 + length fs ≡ length fs = omega arith in
    ap (λ n. fold with_one (holds array array.frames.now n) fs) empty ∙ takes array fs array.frames.now 0 within
    ∙ ap₂ (λ entries n. holds array entries n) (sets-eq fs array.frames.now 0 within ∙ ap (λ n. fs ++ drop n array.frames.now) all) all
