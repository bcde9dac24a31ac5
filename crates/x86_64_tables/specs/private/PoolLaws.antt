-- Proofs of what a pool in a lent array keeps. A `ghost use` names no file of proofs/.
use Rattle.std.specs.Prelude.{◌≡◌, ℕ, ◌+◌, ◌*◌, ◌%◌, ◌==◌, ◌||◌, true, cond, List, [], ◌∷◌}
use Rattle.std.specs.Borrow.{GName}
use Rattle.std.specs.Coded.{×_prop, →_prop, Unit-prop}
use Rattle.std.proofs.Common.{inl, inr, subst, ap, ◌∙◌}
use Rattle.std.proofs.lemmas.Bool.{eq-eqb}
use Rattle.std.proofs.lemmas.Bool.Decides.{eqb_tells}
use Rattle.x86_64_model.specs.Entry.{is_frame, address}
use Rattle.x86_64_model.specs.Lists.{EachOnce}
use Rattle.x86_64_model.proofs.Lemmas.Entries.Words.{address_aligned}
use Rattle.x86_64_tables.specs.LentPool.{is_in, served_by}

-- There is at most one proof that a list has no duplicates, as must be so for a fact that a value keeps.
pub EachOnce-prop : (frames : List ℕ) → IsProp (EachOnce frames)
EachOnce-prop [] = Unit-prop
EachOnce-prop (f ∷ frames) = ×_prop (→_prop (λ e. absurd e)) (EachOnce-prop frames)

-- The address of a frame has address bits only.
pub is_address : (f : ℕ) → is_frame f ≡ true → address f ≡ f
is_address f is = elim (eqb_tells (address f) f) [ inl same ↦ same.1 | inr other ↦ cc ]

-- The address of a frame is a multiple of 4096.
pub frame_aligned : (f : ℕ) → is_frame f ≡ true → f % 4096 ≡ 0
frame_aligned f is = subst (λ a. a % 4096 ≡ 0) (is_address f is) (address_aligned f)

-- A number that is a multiple of 4096 is served by a pool if and only if it is among the pool's own frames.
pub served_aligned : (own : List ℕ) (array count : GName) (f : ℕ) → f % 4096 ≡ 0 → served_by own array count f ≡ is_in own f
served_aligned own array count f multiple =
    ap (λ b. cond b (is_in own f) (f == 4096 * array + 1 || f == 4096 * count + 2)) (eq-eqb (f % 4096) 0 multiple)

-- A pool serves each frame that is among its own frames.
pub served_frame : (own : List ℕ) (array count : GName) (f : ℕ) → is_frame f ≡ true → is_in own f ≡ true → served_by own array count f ≡ true
served_frame own array count f is among = served_aligned own array count f (frame_aligned f is) ∙ among
