-- An array that is filled from a list, one item after the other.
use Rattle.std.proofs.Common.{◌≡◌, ◌<◌, ◌≤◌, ◌+◌, zero, suc, ℕ, List, [], ◌∷◌, ◌++◌, map, take, drop, length, slice_set, sym, ap, ◌∙◌, arith}
use Rattle.std.proofs.lemmas.List.{length-drop, take_all, drop_all}

-- nothing is left of a list after its first n items, so there are n
pub ended : {X : Type 0} (all : List X) (n : ℕ) → n ≤ length all → drop n all ≡ [] → length all ≡ n
ended all n within none = let size = sym (length-drop n all) ∙ ap length none in omega (arith, within, size)

-- the items that an array of m places gets are all of them, if no more are left after n
pub all_taken : {X : Type 0} (all : List X) (n m : ℕ) → n ≤ length all → n ≤ m → drop n all ≡ [] → take m all ≡ all
all_taken all n m within room none = let size = ended all n within none in take_all m all (omega (arith, size, room))

pub none_left : {X : Type 0} (all : List X) (n m : ℕ) → n ≤ length all → n ≤ m → drop n all ≡ [] → drop m all ≡ []
none_left all n m within room none = let size = ended all n within none in drop_all m all (omega (arith, size, room))

-- an item more
pub more_within : {X : Type 0} (all : List X) (n : ℕ) (x : X) (rest : List X) → drop n all ≡ x ∷ rest → n + 1 ≤ length all
more_within [] zero x rest is = cc
more_within [] (suc n) x rest is = cc
more_within (a ∷ all) zero x rest is = omega arith
more_within (a ∷ all) (suc n) x rest is = let h = more_within all n x rest is in omega (arith, h)

pub more_left : {X : Type 0} (all : List X) (n : ℕ) (x : X) (rest : List X) → drop n all ≡ x ∷ rest → rest ≡ drop (suc n) all
more_left [] zero x rest is = cc
more_left [] (suc n) x rest is = cc
more_left (a ∷ all) zero x rest is = cc
more_left (a ∷ all) (suc n) x rest is = more_left all n x rest is

pub more_filled : {X Y : Type 0} (f : X → Y) (all : List X) (places : List Y) (n : ℕ) (x : X) (rest : List X) → drop n all ≡ x ∷ rest → n < length places
    → slice_set (map f (take n all) ++ drop n places) n (f x) ≡ map f (take (suc n) all) ++ drop (suc n) places
more_filled f [] places zero x rest is room = cc
more_filled f [] places (suc n) x rest is room = cc
more_filled f (a ∷ all) [] n x rest is room = absurd (omega (arith, room))
more_filled f (a ∷ all) (p ∷ places) zero x rest is room = cc
more_filled f (a ∷ all) (p ∷ places) (suc n) x rest is room = ap (λ ys. f a ∷ ys) (more_filled f all places n x rest is (omega (arith, room)))
