-- The path of a position, index by index.
use Rattle.std.proofs.Common.{◌≡◌, ℕ, zero, suc, ◌-◌, ◌+◌, ◌<◌, ◌≤◌, List, [], ◌∷◌, ◌++◌, sym, ap, ◌∙◌, append_assoc, arith}
use Rattle.x86_64_model.specs.Position.{index, page_path}

page_path_step : (n p : ℕ) → 1 ≤ n → page_path n p ≡ index n p ∷ page_path (n - 1) p
unfolding page_path
page_path_step zero p h = absurd (omega arith)
page_path_step (suc n) p h = ap (λ m. index (suc n) p ∷ page_path m p) (sub n)
  where
    sub : (n : ℕ) → n ≡ suc n - 1
    sub n = omega arith

pub page_path_more : (path whole : List ℕ) (level below p : ℕ) → below < level → path ++ page_path (level - below) p ≡ whole → (path ++ index (level - below) p ∷ []) ++ page_path (level - (below + 1)) p ≡ whole
page_path_more path whole level below p h is = append_assoc path (index (level - below) p ∷ []) (page_path (level - (below + 1)) p)
    ∙ ap (λ r. path ++ r) (ap (λ m. index (level - below) p ∷ page_path m p) next ∙ sym (page_path_step (level - below) p (omega arith))) ∙ is
  where
    next : level - (below + 1) ≡ level - below - 1
    next = omega arith
