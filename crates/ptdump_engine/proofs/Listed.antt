-- Lists that are visited element by element.
use Rattle.std.proofs.Common.{◌≡◌, ◌∙◌, ◌+◌, ◌<◌, ◌≤◌, ◌++◌, ◌&&◌, ℕ, Bool, List, [], ◌∷◌, Option, None, Some, String, take, get_or, length, refl, sym, ap, subst, append-nil, zero, suc, true, false, cond, zero-add, arith}
use Rattle.std.proofs.Math.Bool.{and_assoc, and-true}
use Rattle.std.proofs.lemmas.Grind.{flat_map-append}
use Rattle.std.proofs.lemmas.List.{take_all, take_more}
use Rattle.std.proofs.lemmas.List.FromFn.{get_or-enumerate_from, length-enumerate_from}
use Rattle.std.specs.List.{enumerate_from, flat_map, list_all, find}
use Rattle.std.specs.declared.alloc.Global.{Global}
use Rattle.ptdump_engine.specs.Output.{Puts}
use Rattle.ptdump_engine.specs.declared.output.Output.{Output}
use Rattle.ptdump_engine.specs.private.Puts.{puts_both}

-- one more text is put in
pub puts_more : {W X : Type 0} (contents : W → Option (List ℕ)) (text : X → List ℕ) (old now new : Output W (String Global)) (xs : List X) (i : ℕ) (d : X) → i < length xs
    → Puts contents old now (flat_map text (take i xs)) → Puts contents now new (text (get_or xs i d)) → Puts contents old new (flat_map text (take (i + 1) xs))
puts_more contents text old now new xs i d below before next =
    let more : flat_map text (take (i + 1) xs) ≡ flat_map text (take i xs) ++ text (get_or xs i d) =
    ap (flat_map text) (take_more xs i d below) ∙ flat_map-append text (take i xs) (get_or xs i d ∷ []) ∙ ap (λ t. flat_map text (take i xs) ++ t) (append-nil (text (get_or xs i d))) in
    subst (Puts contents old new) (sym more) (puts_both contents old now new _ _ before next)

-- likewise of a list with places
pub puts_placed : {W X : Type 0} (contents : W → Option (List ℕ)) (text : (ℕ × X) → List ℕ) (old now new : Output W (String Global)) (xs : List X) (i : ℕ) (d : X) → i < length xs
    → Puts contents old now (flat_map text (take i (enumerate_from 0 xs))) → Puts contents now new (text (i, get_or xs i d)) → Puts contents old new (flat_map text (take (i + 1) (enumerate_from 0 xs)))
puts_placed contents text old now new xs i d below before next =
    let at : get_or (enumerate_from 0 xs) i (0, d) ≡ (i, get_or xs i d) = get_or-enumerate_from 0 xs i (0, d) below ∙ ap (λ n. (n, get_or xs i d)) (zero-add i) in
    let placed : i < length (enumerate_from 0 xs) = subst (λ n. i < n) (sym (length-enumerate_from 0 xs)) below in
    puts_more contents text old now new (enumerate_from 0 xs) i (0, d) placed before (subst (λ p. Puts contents now new (text p)) (sym at) next)

-- all places
pub all_placed : {X : Type 0} (xs : List X) (i : ℕ) → length xs ≤ i → take i (enumerate_from 0 xs) ≡ enumerate_from 0 xs
all_placed xs i all = take_all i (enumerate_from 0 xs) (subst (λ n. n ≤ i) (sym (length-enumerate_from 0 xs)) all)

all-append : (p : ℕ → Bool) (xs : List ℕ) (y : ℕ) → list_all p (xs ++ y ∷ []) ≡ (list_all p xs && p y)
all-append p [] y = and-true (p y)
all-append p (x ∷ xs) y = ap (λ b. p x && b) (all-append p xs y) ∙ sym (and_assoc (p x) (list_all p xs) (p y))

-- one more element passes the test, or doesn't
pub all_more : (p : ℕ → Bool) (xs : List ℕ) (i : ℕ) → i < length xs → list_all p (take (i + 1) xs) ≡ (list_all p (take i xs) && p (get_or xs i 0))
all_more p xs i below = ap (list_all p) (take_more xs i 0 below) ∙ all-append p (take i xs) (get_or xs i 0)

-- if nothing is found, no element passes the test
pub none_passes : (p : ℕ → Bool) (xs : List ℕ) (i : ℕ) → find p xs ≡ None → i < length xs → p (get_or xs i 0) ≡ false
none_passes p [] i none below = absurd (omega arith)
none_passes p (x ∷ xs) zero none below = by (p x) none
  where
    by : (b : Bool) → cond b (Some x) (find p xs) ≡ None → b ≡ false
    by true none = cc
    by false none = refl
none_passes p (x ∷ xs) (suc i) none below = none_passes p xs i (by (p x) none) (omega arith)
  where
    by : (b : Bool) → cond b (Some x) (find p xs) ≡ None → find p xs ≡ None
    by true none = cc
    by false none = none
