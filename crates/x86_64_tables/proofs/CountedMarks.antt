-- How many marks are set after frames were marked.
use Rattle.std.proofs.Common.{◌≡◌, ◌<◌, ◌+◌, ℕ, Bool, true, false, cond, List, [], ◌∷◌, length, get_or, set, replicate, count_by, Some, None, Option, option_and_then, ⊎_elim, refl, sym, ap, ◌∙◌, arith}
use Rattle.std.proofs.lemmas.Bool.{cases_lt}
use Rattle.std.proofs.lemmas.List.{get_or_past}
use Rattle.std.proofs.lemmas.List.Folds.{sum_by-replicate}
use Rattle.std.proofs.lemmas.List.Sums.{sum_by-set}
use Rattle.std.proofs.lemmas.Option.{none-some, same_Some}
use Rattle.x86_64_model.specs.private.Marks.{mark_one, mark_all}

-- the number of marks that are set
abbrev pub marked : List Bool → ℕ
marked = count_by (λ mark. mark)

abbrev one : Bool → ℕ
one mark = cond mark 1 0

set_one : (m : List Bool) (k : ℕ) → get_or m k true ≡ false → marked (set m k true) ≡ marked m + 1
set_one m k free =
    let within : k < length m = ⊎_elim (λ l. l) (λ l. absurd (let past = get_or_past m k true l in cc (past, free))) (cases_lt k (length m)) in
    let sums : marked (set m k true) + one (get_or m k true) ≡ marked m + 1 = sum_by-set one m k true true within in
    let none = ap one free in
    omega (arith, sums, none)

marked_one : (slot : ℕ → Option ℕ) (m new : List Bool) (f : ℕ) → mark_one slot m f ≡ Some new → marked new ≡ marked m + 1
unfolding mark_one
marked_one slot m new f = by (slot f)
  where
    at : (k : ℕ) (b : Bool) → get_or m k true ≡ b → cond b None (Some (set m k true)) ≡ Some new → marked new ≡ marked m + 1
    at k true free e = absurd (none-some new e)
    at k false free e = ap marked (sym (same_Some _ _ e)) ∙ set_one m k free

    by : (o : Option ℕ) → option_and_then (λ k. cond (get_or m k true) None (Some (set m k true))) o ≡ Some new → marked new ≡ marked m + 1
    by None e = absurd (none-some new e)
    by (Some k) e = at k (get_or m k true) refl e

pub marked_all : (slot : ℕ → Option ℕ) (m new : List Bool) (frames : List ℕ) → mark_all slot m frames ≡ Some new → marked new ≡ marked m + length frames
unfolding mark_all
marked_all slot m new [] e = let same = ap marked (same_Some _ _ e) in omega arith
marked_all slot m new (f ∷ fs) e = by (λ m. marked_all slot m new fs) (mark_one slot m f) refl e
  where
    by : ((m : List Bool) → mark_all slot m fs ≡ Some new → marked new ≡ marked m + length fs) → (o : Option (List Bool)) → mark_one slot m f ≡ o → option_and_then (λ m. mark_all slot m fs) o ≡ Some new → marked new ≡ marked m + length (f ∷ fs)
    by on None is e = absurd (none-some new e)
    by on (Some n) is e = let one = marked_one slot m n f is in let more = on n e in omega arith

pub none_marked : (marks : List Bool) (n : ℕ) → marks ≡ replicate n false → marked marks ≡ 0
none_marked marks n e = let none = sum_by-replicate one n false in ap marked e ∙ none ∙ omega arith
