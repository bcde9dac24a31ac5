-- The addresses of a page have one path.
use Rattle.std.proofs.Common.{zero, suc, ◌≡◌, ◌<◌, ◌≤◌, ◌+◌, ◌-◌, ◌*◌, ◌/◌, ◌%◌, ◌^◌, ℕ, ◌∷◌, length, take, Some, refl, sym, ap, ap₂, ◌∙◌, subst, arith, pow_pos}
use Rattle.std.proofs.lemmas.Nat.{pow-add, div-mul-add}
use Rattle.std.proofs.Math.Nat.{div-add-mod, div-div-eq-div-mul, mul_comm, mul-add-mod_self_right, mul-div_left, mod-eq_of_lt}
use Rattle.x86_64_model.specs.Entry.{writable, user}
use Rattle.x86_64_model.specs.Position.{index, span, page_path}
use Rattle.x86_64_model.specs.Path.{path_at}
use Rattle.x86_64_model.specs.Laws.Maps.{MapArrivesInPage}
use Rattle.x86_64_model.proofs.Lemmas.Maps.Arrives.{map_to_arrives}

pub length_taken : (p k n : ℕ) → k ≤ n → length (take k (page_path n p)) ≡ k
unfolding page_path
length_taken p zero n l = refl
length_taken p (suc k) zero l = absurd (omega arith)
length_taken p (suc k) (suc n) l = ap suc (length_taken p k n (omega arith))

pub span_pos : (level : ℕ) → 0 < span level
span_pos level = pow_pos (12 + 9 * (level - 1))

pub span_up : (level k : ℕ) → 1 ≤ level → level ≤ k → span k ≡ span level * 2 ^ (9 * (k - level))
span_up level k low high = ap (λ n. 2 ^ n) (let e : 12 + 9 * (k - 1) ≡ (12 + 9 * (level - 1)) + 9 * (k - level) = omega arith in e) ∙ pow-add 2 (12 + 9 * (level - 1)) (9 * (k - level))

index_same : (level k n o : ℕ) → 1 ≤ level → level ≤ k → o < span level → index k (n * span level + o) ≡ index k (n * span level)
unfolding index
index_same level k n o low high l = ap (λ x. x % 512) (
    by (n * span level + o) (div-mul-add n (span level) o l) ∙ sym (by (n * span level) (mul-div_left n (span_pos level))))
  where
    by : (x : ℕ) → x / span level ≡ n → x / span k ≡ n / 2 ^ (9 * (k - level))
    by x e = ap (λ s. x / s) (span_up level k low high) ∙ sym (div-div-eq-div-mul x (span level) (2 ^ (9 * (k - level)))) ∙ ap (λ y. y / 2 ^ (9 * (k - level))) e

front_same : (level k m n o : ℕ) → 1 ≤ level → k + level ≤ m + 1 → o < span level → take k (page_path m (n * span level + o)) ≡ take k (page_path m (n * span level))
unfolding page_path
front_same level zero m n o low fits l = refl
front_same level (suc k) zero n o low fits l = refl
front_same level (suc k) (suc m) n o low fits l = ap₂ (λ i r. i ∷ r) (index_same level (suc m) n o low (omega arith) l) (front_same level k m n o low (omega arith) l)

-- the path of each of a page's positions begins with the page's own path
pub front_in_page : (L level n o : ℕ) → 1 ≤ level → level ≤ L → o < span level
    → take (length (path_at L level (n * span level))) (page_path L (n * span level + o)) ≡ path_at L level (n * span level)
front_in_page L level n o low levels within =
    let long : length (path_at L level (n * span level)) ≡ L + 1 - level = length_taken (n * span level) (L + 1 - level) L (omega (arith, low)) in
    ap (λ k. take k (page_path L (n * span level + o))) long ∙ front_same level (L + 1 - level) L n o low (omega (arith, levels)) within

pub map_to_arrives_in_page : MapArrivesInPage
map_to_arrives_in_page L level window T U root M supply added n frame given is offset within =
    map_to_arrives L level window T U root M supply added (path_at L level (n * span level)) frame given is (n * span level + offset)
    (front_in_page L level n offset is.asks.low (let long = is.asks.at_level in let some = is.asks.nonempty in omega (arith, long, some)) within)
    ∙ ap (λ o. Some (record { address = frame + o; write = writable given; user = user given })) (mul-add-mod_self_right n (span level) offset ∙ mod-eq_of_lt within)

-- the same for a page that starts at a multiple of its size
pub front_of_page : (L level page o : ℕ) → 1 ≤ level → level ≤ L → page % span level ≡ 0 → o < span level
    → (take (length (path_at L level page)) (page_path L (page + o)) ≡ path_at L level page) × ((page + o) % span level ≡ o)
front_of_page L level page o low levels multiple within =
    let number : page / span level * span level ≡ page = mul_comm (page / span level) (span level) ∙ (let all = div-add-mod page (span level) in omega (arith, all, multiple)) in
    subst (λ page. (take (length (path_at L level page)) (page_path L (page + o)) ≡ path_at L level page) × ((page + o) % span level ≡ o)) number
    (front_in_page L level (page / span level) o low levels within, mul-add-mod_self_right (page / span level) (span level) o ∙ mod-eq_of_lt within)
