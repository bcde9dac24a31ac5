-- The root's table of a mapper, and a mapper whose root table was lent.
use Rattle.std.proofs.Common.{◌≡◌, ℕ, ap, subst}
use Rattle.std.proofs.Props.{props}
use Rattle.x86_64_model.specs.Memory.{Memory, Places}
use Rattle.x86_64_mappers.specs.Layouts.{HasRoot}

-- a value built from a place and from the proof that the root is there depends on the place alone
pub alike : {X : Type 0} (places : Places) (root : ℕ) (after : (place : ℕ) → Memory)
    (make : (place : ℕ) → HasRoot places root (after place) → X)
    (a b : ℕ) → a ≡ b → (h : HasRoot places root (after a)) (k : HasRoot places root (after b)) → make a h ≡ make b k
alike places root after make a b e =
    let There : ℕ → Type 0 = λ place. HasRoot places root (after place) in
    let prop : (h k : There a) → h ≡ k = hlevel props in
    subst (λ b. (h : There a) (k : There b) → make a h ≡ make b k) e (λ h k. ap (make a) (prop h k))
