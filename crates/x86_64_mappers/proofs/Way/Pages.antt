-- The paths of pages: their indices, and their lengths.
use Rattle.std.specs.Prelude.{◌≡◌, ◌+◌, ◌==◌, ℕ, suc, Bool, true, false, List, [], ◌∷◌, ◌++◌, length, take, get_or}
use Rattle.std.proofs.Common.{refl, sym, ◌∙◌, arith, eqb-true, eq-eqb, ne_eqb}
use Rattle.std.proofs.lemmas.List.{take_all}
use Rattle.std.proofs.Math.Seq.{take-suc}
use Rattle.x86_64_model.specs.Path.{is_small}

-- a page's path is the indices of its parents and its last one
pub path_parted : (q : List ℕ) (n : ℕ) → length q ≡ n + 1 → take n q ++ get_or q n 0 ∷ [] ≡ q
path_parted q n long = sym (take-suc q n 0 (omega (arith, long))) ∙ take_all (suc n) q (omega (arith, long))

-- a page is one of 4KiB if and only if its entry is of level one
pub small_page : (L level : ℕ) (q : List ℕ) → length q + level ≡ L + 1 → is_small L q ≡ (level == 1)
small_page L level q at_level = by (level == 1) refl
  where
    by : (b : Bool) → (level == 1) ≡ b → (length q == L) ≡ b
    by true e = eq-eqb (length q) L (let t = eqb-true level 1 e in omega arith)
    by false e = ne_eqb (length q) L (λ t. let u : (level == 1) ≡ true = eq-eqb level 1 (omega (arith, t)) in let z : true ≡ false = sym u ∙ e in cc)
