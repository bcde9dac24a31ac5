-- A parent of a page that leads to no table refuses all pages below it.
use Rattle.std.proofs.Common.{◌≡◌, ◌<◌, ◌≤◌, ◌+◌, ◌-◌, ◌*◌, ◌/◌, ◌%◌, ◌^◌, ◌++◌, ℕ, List, length, take, drop, Err, sym, ap, ◌∙◌, subst, arith}
use Rattle.std.proofs.lemmas.List.{take-take, take-append-drop}
use Rattle.std.proofs.lemmas.Nat.{div-add-mod', div-mul-add}
use Rattle.std.proofs.Math.Nat.{div-div-eq-div-mul, add-mul-div_right}
use Rattle.x86_64_model.specs.Layout.{Layout}
use Rattle.x86_64_model.specs.Memory.{Memory}
use Rattle.x86_64_model.specs.Path.{path_at}
use Rattle.x86_64_model.specs.Position.{span, page_path}
use Rattle.x86_64_model.specs.Refusal.{Refusal}
use Rattle.x86_64_model.proofs.Lemmas.Paths.Pages.{front_in_page, length_taken, span_pos, span_up}
use Rattle.x86_64_mappers.specs.private.RangeChangeSteps.{AreStoppedIn, table_path}
use Rattle.x86_64_mappers.specs.private.Stops.{IsFound, StopsBelow}

-- ---- pages below an entry of a level

module _ (level e : ℕ) (low : 1 ≤ level) (above : level ≤ e) where
  abbrev pages : ℕ
  pages = 2 ^ (9 * (e - level))

  -- the pages up to the end of the entry's span
  pub to_the_end : (p k : ℕ) → k < pages - p / span level % pages → (p + k * span level) / span e ≡ p / span e
  to_the_end p k less =
      number (p + k * span level)
      ∙ ap (λ n. n / pages) (add-mul-div_right p k (span_pos level))
      ∙ ap (λ n. n / pages) parted ∙ div-mul-add (v / pages) pages (v % pages + k) (omega (arith, less))
      ∙ sym (number p)
    where
      v : ℕ
      v = p / span level

      number : (x : ℕ) → x / span e ≡ x / span level / pages
      number x = ap (λ s. x / s) (span_up level e low above) ∙ sym (div-div-eq-div-mul x (span level) pages)

      parted : v + k ≡ v / pages * pages + (v % pages + k)
      parted = let d = div-add-mod' v pages in omega (arith, d)

-- pages below one entry have the same path down to it
same_front : (L e p r : ℕ) → 1 ≤ e → e ≤ L → r / span e ≡ p / span e → path_at L e r ≡ path_at L e p
same_front L e p r low high same = start r ∙ ap (λ n. path_at L e (n * span e)) same ∙ sym (start p)
  where
    start : (x : ℕ) → path_at L e x ≡ path_at L e (x / span e * span e)
    start x =
        let n : ℕ = x / span e in
        let o : ℕ = x % span e in
        let long : length (path_at L e (n * span e)) ≡ L + 1 - e = length_taken (n * span e) (L + 1 - e) L (omega (arith, low)) in
        ap (path_at L e) (sym (div-add-mod' x (span e)))
        ∙ ap (λ k. take k (page_path L (n * span e + o))) (sym long)
        ∙ front_in_page L e n o low high (let some = span_pos e in omega (arith, some))

-- ---- a parent that ends the walk

module _ (l : Layout) (m : Memory) (level p : ℕ) (low : 1 ≤ level) (high : level ≤ l.levels) where
  abbrev L : ℕ
  L = l.levels

  abbrev q : ℕ → List ℕ
  q r = path_at l.levels level r

  long : (r : ℕ) → length (q r) ≡ L + 1 - level
  long r = length_taken r (L + 1 - level) L (omega (arith, low))

  module _ (depth : ℕ) (some : 0 < depth) (inside : depth ≤ L - level) where
    abbrev e : ℕ
    e = L + 1 - depth

    front : (r : ℕ) → take depth (table_path (q r)) ≡ path_at L e r
    front r =
        let size = long r in
        take-take depth (length (q r) - 1) (q r) (omega (arith, size, inside))
        ∙ take-take depth (L + 1 - level) (page_path L r) (omega (arith, inside))
        ∙ ap (λ k. take k (page_path L r)) (let same : depth ≡ L + 1 - e = omega (arith, inside) in same)

    pub refused_below : (why : Refusal) → StopsBelow l m (take depth (table_path (q p))) why → (count : ℕ) → ((k : ℕ) → k < count → (p + k * span level) / span e ≡ p / span e) → AreStoppedIn l m level p count why
    refused_below why ends count same k less =
        let r : ℕ = p + k * span level in
        let begins : take depth (table_path (q p)) ≡ take depth (table_path (q r)) = front p ∙ sym (same_front L e p r (omega (arith, inside, low)) (omega (arith, some)) (same k less)) ∙ sym (front r) in
        subst (λ path. IsFound l m path (Err why)) (ap (λ t. t ++ drop depth (table_path (q r))) begins ∙ take-append-drop depth (table_path (q r))) (ends (drop depth (table_path (q r))))
