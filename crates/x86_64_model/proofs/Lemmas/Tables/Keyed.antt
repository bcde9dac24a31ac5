-- A memory as a finite map, of whatever places: its tables have spots of their own.
use Rattle.std.proofs.Common.{◌≡◌, ◌↔◌, ◌<◌, ◌+◌, ◌||◌, nat_lt, ℕ, zero, suc, Bool, true, false, not, cond, List, [], ◌∷◌, length, get_or, Some, None, IsSome, is_some, refl, sym, ap, ◌∙◌, arith, lt-ltb}
use Rattle.std.proofs.lemmas.List.Quantifiers.{position-Some}
use Rattle.std.specs.List.{position, position_or_len, list_any}
use Rattle.std.specs.Ordering.{nat_cmp, eq_by_cmp}
use Rattle.std.specs.FinMap.{get, keys, contains_key-keys, nat_cmp-IsAntisymmetric}
use Rattle.std.specs.Cmp.{Equal-is}
use Rattle.x86_64_model.specs.Memory.{Memory, Places, Distinct, words_of}
use Rattle.x86_64_model.proofs.Lemmas.Maps.Down.{nat_lt-suc}
use Rattle.x86_64_model.specs.Laws.Validity.{MemoriesHaveSpots}
use Rattle.x86_64_model.specs.private.Marks.{spot_of, IsSpots}

found : {X : Type 0} (p : X → Bool) (xs : List X) → nat_lt (position_or_len p xs) (length xs) ≡ list_any p xs
found p [] = refl
found p (x ∷ xs) = by (p x) (found p xs)
  where
    by : (b : Bool) → nat_lt (position_or_len p xs) (length xs) ≡ list_any p xs → nat_lt (cond (not b) (1 + position_or_len p xs) zero) (suc (length xs)) ≡ (b || list_any p xs)
    by true e = lt-ltb zero (suc (length xs)) (omega arith)
    by false e = let s : 1 + position_or_len p xs ≡ suc (position_or_len p xs) = omega arith in ap (λ k. nat_lt k (suc (length xs))) s ∙ nat_lt-suc (position_or_len p xs) (length xs) ∙ e

same_place : (a b : ℕ) → eq_by_cmp nat_cmp a b ≡ true → a ≡ b
same_place a b h = nat_cmp-IsAntisymmetric a b ((Equal-is _).0 h)

module _ (memory : Memory) (places : Places) where
  record Found (f k : ℕ) : Type 0 where
    covered : places.covers f ≡ true
    within : k < length (keys memory)
    is : places.place f ≡ get_or (keys memory) k 0

  spot_found : (f k : ℕ) → spot_of memory places f ≡ Some k → Found f k
  unfolding spot_of
  spot_found f k = by (places.covers f) refl
    where
      by : (b : Bool) → places.covers f ≡ b → cond b (position (eq_by_cmp nat_cmp (places.place f)) (keys memory)) None ≡ Some k → Found f k
      by true c h = let r = position-Some (eq_by_cmp nat_cmp (places.place f)) (keys memory) k 0 h in record { covered = c; within = r.0; is = same_place _ _ r.1 }
      by false c h = absurd (let t : None ≡ Some k = h in cc)

  same_some : (f : ℕ) → IsSome (words_of memory places f) ↔ IsSome (spot_of memory places f)
  unfolding spot_of
  same_some f = by (places.covers f)
    where
      same : is_some (position (eq_by_cmp nat_cmp (places.place f)) (keys memory)) ≡ is_some (get memory (places.place f))
      same = inner (nat_lt (position_or_len (eq_by_cmp nat_cmp (places.place f)) (keys memory)) (length (keys memory)))
          ∙ found (eq_by_cmp nat_cmp (places.place f)) (keys memory) ∙ sym (contains_key-keys memory (places.place f))
        where
          inner : (b : Bool) → is_some (cond b (Some (position_or_len (eq_by_cmp nat_cmp (places.place f)) (keys memory))) None) ≡ b
          inner true = refl
          inner false = refl

      by : (b : Bool) → IsSome (cond b (get memory (places.place f)) None) ↔ IsSome (cond b (position (eq_by_cmp nat_cmp (places.place f)) (keys memory)) None)
      by true = (λ h. same ∙ h, λ h. sym same ∙ h)
      by false = (λ h. cc, λ h. cc)

  pub spots_of : Distinct places → IsSpots (words_of memory places) (length (keys memory)) (spot_of memory places)
  spots_of distinct = record {
    within = λ f k h. (spot_found f k h).within;
    apart = λ f g k h j. let a = spot_found f k h in let b = spot_found g k j in distinct f g a.covered b.covered (a.is ∙ sym b.is);
    there = same_some;
  }

pub memories_have_spots : MemoriesHaveSpots
memories_have_spots memory places distinct = spots_of memory places distinct
