-- Held: frames that a dump has.
use Rattle.std.proofs.Common.{◌≡◌, ◌==◌, ◌||◌, ℕ, suc, Bool, true, false, true≢false, cond, List, [], ◌∷◌, ◌++◌, refl, reverse, ap, sym, subst, ◌∙◌, arith, eqb-true}
use Rattle.std.specs.Prelude.{Vec}
use Rattle.std.proofs.lemmas.List.Elements.{All-push}
use Rattle.std.proofs.lemmas.List.Sorted.{All-permutation, IsPermutation-reverse}
use Rattle.x86_64_dump.specs.Loaded.{frames_of}
use Rattle.x86_64_dump.specs.Tables.{is_among, is_in_levels, met}
use Rattle.x86_64_dump.specs.private.FrameNumbers.{AreAllHeld, HasAll}

-- one more frame that is held
pub met_held : (has : ℕ → Bool) (frames : List ℕ) (f : ℕ) → HasAll has frames → has f ≡ true → HasAll has (met frames f)
met_held has frames f held is = by (is_among frames f)
  where
    by : (b : Bool) → HasAll has (cond b frames (frames ++ f ∷ []))
    by true = held
    by false = All-push (λ f. has f ≡ true) frames f held is

among_held : (has : ℕ → Bool) (frames : List ℕ) (f : ℕ) → HasAll has frames → is_among frames f ≡ true → has f ≡ true
among_held has [] f held is = absurd (true≢false (sym is))
among_held has (g ∷ frames) f held is = by (f == g) refl is (among_held has frames f (λ i d below. held (suc i) d (omega (arith, below))))
  where
    by : (b : Bool) → (f == g) ≡ b → (b || is_among frames f) ≡ true → (is_among frames f ≡ true → has f ≡ true) → has f ≡ true
    by true same _ rest = ap has (eqb-true f g same) ∙ held 0 g (omega arith)
    by false _ later rest = rest later

-- all frames of some levels
pub all_held : {A : Type 0} (has : ℕ → Bool) (levels : List (Vec ℕ A)) → AreAllHeld has levels → (f : ℕ) → is_in_levels (frames_of levels) f ≡ true → has f ≡ true
all_held has [] held f is = absurd (true≢false (sym is))
all_held has (level ∷ levels) held f is = by (is_among level.items f) refl is (all_held has levels (λ i d below. held (suc i) d (omega (arith, below))) f)
  where
    by : (b : Bool) → is_among level.items f ≡ b → (b || is_in_levels (frames_of levels) f) ≡ true → (is_in_levels (frames_of levels) f ≡ true → has f ≡ true) → has f ≡ true
    by true here _ rest = among_held has level.items f (held 0 level (omega arith)) here
    by false _ later rest = rest later

-- likewise with one more level
pub more_held : {A : Type 0} (has : ℕ → Bool) (levels more : List (Vec ℕ A)) (level : Vec ℕ A) → more ≡ levels ++ level ∷ [] → AreAllHeld has levels → HasAll has level.items
    → AreAllHeld has more
more_held {A} has levels more level pushed held is =
    let P : List (Vec ℕ A) → Type 0 = AreAllHeld has in
    subst P (sym pushed) (All-push (λ level. HasAll has level.items) levels level held is)

-- and in the other order
pub turned_held : {A : Type 0} (has : ℕ → Bool) (levels turned : List (Vec ℕ A)) → turned ≡ reverse levels → AreAllHeld has levels → AreAllHeld has turned
turned_held {A} has levels turned is held =
    let P : List (Vec ℕ A) → Type 0 = AreAllHeld has in
    subst P (sym is) (All-permutation (λ level. HasAll has level.items) levels (reverse levels) (IsPermutation-reverse levels) held)
