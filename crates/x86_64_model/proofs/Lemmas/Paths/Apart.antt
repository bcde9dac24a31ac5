-- Pages that lie apart: the path of neither begins with the other's.
use Rattle.std.proofs.Common.{zero, suc, ◌≡◌, ◌≢◌, ◌<◌, ◌≤◌, ◌+◌, ◌-◌, ◌*◌, ◌%◌, ℕ, true, List, [], ◌∷◌, length, take, fold, refl, sym, ap, ◌∙◌, subst, arith, eq-eqb, pow_pos}
use Rattle.std.proofs.Math.Nat.{mul-add-mod_self_right, mod-eq_of_lt}
use Rattle.std.proofs.lemmas.Bool.{and_from}
use Rattle.std.specs.List.{AllByRecursion}
use Rattle.x86_64_model.specs.Lists.{In}
use Rattle.x86_64_model.specs.PageMappings.{PageMapping, AreApart, entry_path}
use Rattle.x86_64_model.specs.Path.{parents, begins, span_start, span_size}
use Rattle.x86_64_model.specs.Position.{span, position_count, page_path}
use Rattle.x86_64_model.proofs.Lemmas.Lists.All.{every_in}
use Rattle.x86_64_model.proofs.Lemmas.Machines.Effects.{below_taken}
use Rattle.x86_64_model.proofs.Lemmas.Paths.Begins.{begins_more, begins_itself, parent_begins}
use Rattle.x86_64_model.proofs.Lemmas.Paths.Pages.{length_taken}
use Rattle.x86_64_model.proofs.Lemmas.Paths.Spans.{spans_are_intervals}

begins_taken : (k : ℕ) (t : List ℕ) → begins (take k t) t ≡ true
begins_taken zero t = refl
begins_taken (suc k) [] = refl
begins_taken (suc k) (i ∷ t) = and_from _ _ (eq-eqb i i refl) (begins_taken k t)

-- a multiple in an interval of its size is the start
multiple_is_start : (page n size : ℕ) → page % size ≡ 0 → n * size ≤ page → page < n * size + size → page ≡ n * size
multiple_is_start page n size multiple from to =
    let over : page ≡ n * size + (page - n * size) = omega (arith, from) in
    let rest : page % size ≡ page - n * size = ap (λ p. p % size) over ∙ mul-add-mod_self_right n size (page - n * size) ∙ mod-eq_of_lt (omega (arith, from, to)) in
    omega (arith, multiple, rest, from)

-- a page at a multiple of its size, inside the positions
pub record IsPlaced (L : ℕ) (x : PageMapping) : Type 0 where
  pub low : 1 ≤ x.level
  pub levels : x.level ≤ L
  pub multiple : x.page % span x.level ≡ 0
  pub inside : x.page < position_count L

module _ (L : ℕ) (x : PageMapping) (placed : IsPlaced L x) where
  long : length (entry_path L x) ≡ L + 1 - x.level
  long = let low = placed.low in length_taken x.page (L + 1 - x.level) L (omega (arith, low))

  its_size : span_size L (entry_path L x) ≡ span x.level
  its_size = ap span (let low = placed.low in let levels = placed.levels in omega (arith, long, low, levels))

  -- a position whose first indices are the page's lies in it
  pub lies_in : (p : ℕ) → p < position_count L → begins (entry_path L x) (page_path L p) ≡ true → (x.page ≤ p) × (p < x.page + span x.level)
  lies_in p inside begins_so =
      let low = placed.low in let levels = placed.levels in
      let interval = λ (at : ℕ) (within : at < position_count L). spans_are_intervals L (entry_path L x) at (omega (arith, long, levels)) (omega (arith, long, low)) (below_taken x.page (L + 1 - x.level) L) within in
      let own = (interval x.page placed.inside).0 (begins_taken (L + 1 - x.level) (page_path L x.page)) in
      let from = own.0 in let to = own.1 in
      let start : x.page ≡ span_start L (entry_path L x) = multiple_is_start x.page (fold (λ n i. n * 512 + i) 0 (entry_path L x)) (span_size L (entry_path L x)) (ap (λ s. x.page % s) its_size ∙ placed.multiple) from to in
      let its = (interval p inside).0 begins_so in let first = its.0 in let last = its.1 in
      (omega (arith, start, first), omega (arith, start, last, its_size))

module _ (L : ℕ) (x y : PageMapping) (x_placed : IsPlaced L x) (y_placed : IsPlaced L y) (apart : AreApart x y) where
  -- the path of one doesn't begin with the other's
  pub begins_not : begins (entry_path L y) (entry_path L x) ≡ true → ⊥
  begins_not h =
      let pos : 0 < span x.level = pow_pos (12 + 9 * (x.level - 1)) in
      let within = lies_in L y y_placed x.page x_placed.inside (begins_more (entry_path L y) (entry_path L x) (page_path L x.page) h (begins_taken (L + 1 - x.level) (page_path L x.page))) in
      apart x.page (omega arith) (omega (arith, pos)) within.0 within.1

  pub other_path : entry_path L y ≢ entry_path L x
  other_path is = begins_not (ap (begins (entry_path L y)) (sym is) ∙ begins_itself (entry_path L y))

  pub no_parent : AllByRecursion (λ p. entry_path L y ≢ p) (parents (entry_path L x))
  no_parent = every_in _ (parents (entry_path L x)) (λ p i is. begins_not (parent_begins (entry_path L x) (entry_path L y) (subst (In (parents (entry_path L x))) (sym is) i)))
