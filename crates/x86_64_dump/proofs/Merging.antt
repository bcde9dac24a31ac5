-- Merging of stretches: the state between two steps.
use Rattle.std.proofs.Common.{◌≡◌, ℕ, ◌≤◌, ◌<◌, ◌==◌, Bool, true, false, cond, List, [], ◌∷◌, ◌++◌, Option, None, Some, refl, ap, ap₂, sym, subst, ◌∙◌, arith, eqb-true, nat_le, le-leb, ⊎_elim}
use Rattle.std.specs.List.{fold}
use Rattle.std.specs.Option.{option_or, unwrap_or}
use Rattle.std.proofs.lemmas.Option.{none-some}
use Rattle.std.proofs.lemmas.Bool.{cases_lt, lt-leb}
use Rattle.std.proofs.lemmas.List.Sums.{fold-append}
use Rattle.x86_64_dump.specs.declared.search.Place.{Place}
use Rattle.x86_64_dump.specs.declared.search.Stretch.{Stretch}
use Rattle.x86_64_dump.specs.private.Merging.{rest_after, place_passed, next_from, lower}
use Rattle.x86_64_dump.specs.private.Search.{place_after, place_at, BeginFrom, AreInOrder}

-- stretches that begin after an address don't say its place
pub begin_later : (x r : ℕ) (p : Option Place) (l : List Stretch) → x < r → BeginFrom r l → fold (place_after x) p l ≡ p
begin_later x r p [] below begin = refl
begin_later x r p (s ∷ l) below begin =
    ap (λ b. fold (place_after x) (cond b s.place p) l) (lt-leb s.from x (omega (arith, begin.0, below)))
    ∙ begin_later x s.from p l (omega (arith, begin.0, below)) begin.1

-- passing a stretch changes no place from its beginning on
passed : (x a : ℕ) (p : Option Place) (l : List Stretch) → a ≤ x → fold (place_after x) (place_passed a p l) (rest_after a l) ≡ fold (place_after x) p l
passed x a p [] reached = refl
passed x a p (s ∷ l) reached = by (s.from == a) refl
  where
    by : (b : Bool) → (s.from == a) ≡ b → fold (place_after x) (cond b s.place p) (cond b l (s ∷ l)) ≡ fold (place_after x) p (s ∷ l)
    by true is = ap (λ b. fold (place_after x) (cond b s.place p) l) (sym (le-leb s.from x (omega (arith, eqb-true s.from a is, reached))))
    by false is = refl

begin_passed : (a : ℕ) (l : List Stretch) → BeginFrom a l → BeginFrom a (rest_after a l)
begin_passed a [] begin = tt
begin_passed a (s ∷ l) begin = by (s.from == a) refl
  where
    by : (b : Bool) → (s.from == a) ≡ b → BeginFrom a (cond b l (s ∷ l))
    by true is = let P : ℕ → Type 0 = λ n. BeginFrom n l in subst P (eqb-true s.from a is) begin.1
    by false is = begin

-- stretches begin from where the first of them does
begin_from_next : (r a : ℕ) (l : List Stretch) → BeginFrom r l → ((n : ℕ) → next_from l ≡ Some n → a ≤ n) → BeginFrom a l
begin_from_next r a [] begin low = tt
begin_from_next r a (s ∷ l) begin low = (low s.from refl, begin.1)

-- one more stretch
in_order_more : (r : ℕ) (l : List Stretch) (t s : Stretch) → BeginFrom r (l ++ t ∷ []) → t.from ≤ s.from → BeginFrom r ((l ++ t ∷ []) ++ s ∷ [])
in_order_more r [] t s begin later = (begin.0, (later, tt))
in_order_more r (u ∷ l) t s begin later = (begin.0, in_order_more u.from l t s begin.1 later)

inner : (m n : ℕ) → Some m ≡ Some n → m ≡ n
inner m n = ap (λ o. unwrap_or o 0)

lower_than_one : (one other : Option ℕ) (a n : ℕ) → lower one other ≡ Some a → one ≡ Some n → a ≤ n
lower_than_one None other a n is there = absurd (none-some _ there)
lower_than_one (Some m) None a n is there = omega (arith, inner _ _ is, inner _ _ there)
lower_than_one (Some m) (Some k) a n is there = omega (arith, inner _ _ is, inner _ _ there)

lower_than_other : (one other : Option ℕ) (a n : ℕ) → lower one other ≡ Some a → other ≡ Some n → a ≤ n
lower_than_other None (Some k) a n is there = omega (arith, inner _ _ is, inner _ _ there)
lower_than_other None None a n is there = absurd (none-some _ there)
lower_than_other (Some m) None a n is there = absurd (none-some _ there)
lower_than_other (Some m) (Some k) a n is there = omega (arith, inner _ _ is, inner _ _ there)

lower_risen : (r a : ℕ) (F B : List Stretch) → lower (next_from F) (next_from B) ≡ Some a → BeginFrom r F → BeginFrom r B → r ≤ a
lower_risen r a [] [] is f b = absurd (none-some _ is)
lower_risen r a (s ∷ F) [] is f b = omega (arith, f.0, inner _ _ is)
lower_risen r a [] (t ∷ B) is f b = omega (arith, b.0, inner _ _ is)
lower_risen r a (s ∷ F) (t ∷ B) is f b = omega (arith, f.0, b.0, inner _ _ is)

-- all stretches that begin before an address are merged: those of front and back, of which F and B are left, with the places p and q by the others
pub record IsMergedTo (address : ℕ) (front back merged F B : List Stretch) (p q : Option Place) : Type 0 where
  pub front_at : (x : ℕ) → address ≤ x → fold (place_after x) p F ≡ place_at front x
  pub back_at : (x : ℕ) → address ≤ x → fold (place_after x) q B ≡ place_at back x
  pub front_left : BeginFrom address F
  pub back_left : BeginFrom address B
  pub before : (x : ℕ) → x < address → place_at merged x ≡ option_or (place_at front x) (place_at back x)
  pub from : (x : ℕ) → address ≤ x → place_at merged x ≡ option_or p q
  pub order : AreInOrder merged
  pub next : (s : Stretch) → address ≤ s.from → AreInOrder (merged ++ s ∷ [])

-- one more stretch is merged
pub merged_more : (front back merged more F B F' B' : List Stretch) (p q p' q' place : Option Place) (r a : ℕ) → lower (next_from F) (next_from B) ≡ Some a
    → F' ≡ rest_after a F → B' ≡ rest_after a B → p' ≡ place_passed a p F → q' ≡ place_passed a q B → place ≡ option_or p' q' → more ≡ merged ++ (record { from = a; place = place }) ∷ []
    → IsMergedTo r front back merged F B p q → IsMergedTo a front back more F' B' p' q'
merged_more front back merged more F B F' B' p q p' q' place r a next F'is B'is p'is q'is placed pushed state = record {
  front_at = λ x reached. ap₂ (fold (place_after x)) p'is F'is ∙ passed x a p F reached ∙ state.front_at x (omega (arith, risen, reached));
  back_at = λ x reached. ap₂ (fold (place_after x)) q'is B'is ∙ passed x a q B reached ∙ state.back_at x (omega (arith, risen, reached));
  front_left = subst (BeginFrom a) (sym F'is) (begin_passed a F front_from);
  back_left = subst (BeginFrom a) (sym B'is) (begin_passed a B back_from);
  before = λ x below. one_more x ∙ ap (λ b. cond b place (place_at merged x)) (lt-leb a x below) ∙ ⊎_elim
      (state.before x)
      (λ reached. state.from x reached
      ∙ ap₂ option_or (sym (begin_later x a p F below front_from) ∙ state.front_at x reached) (sym (begin_later x a q B below back_from) ∙ state.back_at x reached))
      (cases_lt x r);
  from = λ x reached. one_more x ∙ ap (λ b. cond b place (place_at merged x)) (le-leb a x reached) ∙ placed;
  order = subst AreInOrder (sym pushed) (state.next t risen);
  next = λ s later. let P : List Stretch → Type 0 = λ l. AreInOrder (l ++ s ∷ []) in subst P (sym pushed) (in_order_more 0 merged t s (state.next t risen) later);
}
  where
    t : Stretch
    t = record { from = a; place = place }

    one_more : (x : ℕ) → place_at more x ≡ cond (nat_le a x) place (place_at merged x)
    one_more x = ap (λ l. place_at l x) pushed ∙ fold-append (place_after x) None merged (t ∷ [])

    front_from : BeginFrom a F
    front_from = begin_from_next r a F state.front_left (λ n there. lower_than_one (next_from F) (next_from B) a n next there)

    back_from : BeginFrom a B
    back_from = begin_from_next r a B state.back_left (λ n there. lower_than_other (next_from F) (next_from B) a n next there)

    risen : r ≤ a
    risen = lower_risen r a F B next state.front_left state.back_left
