-- Lists of pages: runs, cut at a page, and properties of each page.
use Rattle.std.proofs.Common.{zero, suc, ◌≡◌, ◌<◌, ◌+◌, ◌*◌, ◌++◌, ℕ, List, [], ◌∷◌, map, length, drop, sym, ap, ◌∙◌, subst, append_assoc, arith}
use Rattle.std.proofs.Math.Seq.{drop-cons}
use Rattle.std.proofs.lemmas.List.{take-append-drop}
use Rattle.std.proofs.lemmas.List.FromFn.{length-map-range_with_len, get_or-map-range_with_len, map-range_with_len_more, take-map-range_with_len}
use Rattle.std.specs.List.{AllByRecursion, range_with_len}
use Rattle.x86_64_model.specs.PageMappings.{PageMapping}
use Rattle.x86_64_model.specs.Position.{span}
use Rattle.x86_64_loader.specs.Segments.{page_mapping, run_of}

pub all_both_lists : {X : Type 0} (P : X → Type 0) (xs ys : List X) → AllByRecursion P xs → AllByRecursion P ys → AllByRecursion P (xs ++ ys)
all_both_lists P [] ys all more = more
all_both_lists P (x ∷ xs) ys all more = (all.0, all_both_lists P xs ys all.1 more)

all_in_range : {X : Type 0} (P : X → Type 0) (f : ℕ → X) (a n : ℕ) → ((k : ℕ) → k < n → P (f (a + k))) → AllByRecursion P (map f (range_with_len a n))
all_in_range P f a zero each = tt
all_in_range P f a (suc n) each = (subst (λ j. P (f j)) (omega arith) (each 0 (omega arith)), all_in_range P f (a + 1) n (λ k below. subst (λ j. P (f j)) (omega arith) (each (k + 1) (omega (arith, below)))))

module _ (level page frame given : ℕ) where
  abbrev nth : ℕ → PageMapping
  nth k = page_mapping level (page + k * span level) (frame + k * span level) given

  pub all_in_run : (P : PageMapping → Type 0) (count : ℕ) → ((k : ℕ) → k < count → P (nth k)) → AllByRecursion P (run_of level page frame given count)
  all_in_run P count each = all_in_range P nth 0 count (λ k below. subst (λ j. P (nth j)) (omega arith) (each k below))

  pub run_more : (k : ℕ) → run_of level page frame given (k + 1) ≡ run_of level page frame given k ++ nth k ∷ []
  run_more k = map-range_with_len_more nth 0 k k (omega arith)

  -- a run is the pages before one of its pages, that page and the rest
  pub run_cut : (k count : ℕ) → k < count → run_of level page frame given count ≡ run_of level page frame given k ++ nth k ∷ drop (suc k) (run_of level page frame given count)
  run_cut k count below =
      let whole = run_of level page frame given count in
      let long : length whole ≡ count = length-map-range_with_len nth 0 count in
      sym (take-append-drop k whole)
      ∙ ap (λ xs. xs ++ drop k whole) (take-map-range_with_len nth 0 count k (omega (arith, below)))
      ∙ ap (λ xs. run_of level page frame given k ++ xs)
      (drop-cons whole k (nth 0) (omega (arith, long, below)) ∙ ap (λ x. x ∷ drop (suc k) whole) (get_or-map-range_with_len nth 0 count k k (nth 0) below (omega arith)))

-- a list that is cut at an element, with other elements before or behind it
pub cut_before : (xs ys before left : List PageMapping) (next : PageMapping) → ys ≡ before ++ next ∷ left → xs ++ ys ≡ (xs ++ before) ++ next ∷ left
cut_before xs ys before left next cut = ap (λ ys. xs ++ ys) cut ∙ sym (append_assoc xs before (next ∷ left))

pub cut_behind : (xs ys before left : List PageMapping) (next : PageMapping) → xs ≡ before ++ next ∷ left → xs ++ ys ≡ before ++ next ∷ (left ++ ys)
cut_behind xs ys before left next cut = ap (λ xs. xs ++ ys) cut ∙ append_assoc before (next ∷ left) ys
