-- Counts of elements with one number at the front of a list.
use Rattle.std.proofs.Common.{◌≡◌, ◌∙◌, ◌+◌, ◌<◌, ◌≤◌, ◌==◌, ℕ, suc, Bool, true, false, cond, List, ◌∷◌, drop, get_or, length, eq-eqb, sym, ap, arith}
use Rattle.std.proofs.lemmas.List.{drop_all, drop_more}
use Rattle.ptdump_engine.specs.private.Alike.{alike}

module _ {X : Type 0} (n : X → ℕ) where
  alike_next : (f : ℕ) (xs : List X) (i : ℕ) (x : X) (b : Bool) → i < length xs → x ≡ get_or xs i x → (n x == f) ≡ b
      → alike n f (drop i xs) ≡ cond b (suc (alike n f (drop (i + 1) xs))) 0
  alike_next f xs i x b below is test =
      ap (alike n f) (drop_more xs i x below) ∙ ap (λ y. alike n f (y ∷ drop (i + 1) xs)) (sym is) ∙ ap (λ t. cond t (suc (alike n f (drop (i + 1) xs))) 0) test

  -- one more is counted
  pub alike_more : (f : ℕ) (xs : List X) (i count : ℕ) (x : X) → i < length xs → x ≡ get_or xs i x → n x ≡ f → count + alike n f (drop i xs) ≡ alike n f xs
      → count + 1 + alike n f (drop (i + 1) xs) ≡ alike n f xs
  alike_more f xs i count x below is same so_far = let next = alike_next f xs i x true below is (eq-eqb (n x) f same) in omega (arith, next, so_far)

  -- the next is not counted
  pub alike_end : (f : ℕ) (xs : List X) (i count : ℕ) (x : X) → i < length xs → x ≡ get_or xs i x → (n x == f) ≡ false → count + alike n f (drop i xs) ≡ alike n f xs
      → count ≡ alike n f xs
  alike_end f xs i count x below is other so_far = let next = alike_next f xs i x false below is other in omega (arith, next, so_far)

  pub alike_all : (f : ℕ) (xs : List X) (i count : ℕ) → length xs ≤ i → count + alike n f (drop i xs) ≡ alike n f xs → count ≡ alike n f xs
  alike_all f xs i count end so_far = let none : alike n f (drop i xs) ≡ 0 = ap (alike n f) (drop_all i xs end) in omega (arith, none, so_far)
