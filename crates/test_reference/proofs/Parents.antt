-- The parents of a path, as its front parts of one length after the other.
use Rattle.std.proofs.Common.{◌≡◌, ℕ, zero, suc, ◌-◌, ◌+◌, ◌<◌, ◌≤◌, ◌&&◌, Bool, true, false, not, cond, List, [], ◌∷◌, length, take, map, find, Some, None, Option, option_map, refl, sym, ap, ◌∙◌, arith}
use Rattle.std.specs.List.{range_with_len}
use Rattle.x86_64_model.specs.Entry.{present, huge}
use Rattle.x86_64_model.specs.Path.{parents}
use Rattle.x86_64_model.specs.Refusal.{Refusal, PageNotMapped, ParentEntryHugePage, first_stop}

-- the proper front parts with at least a number of indices
abbrev pub rest : List ℕ → ℕ → List (List ℕ)
rest q n = map (λ m. take m q) (range_with_len n (length q - n))

rest_of : (q : List ℕ) (n a b : ℕ) → a ≡ b → map (λ m. take m q) (range_with_len n a) ≡ map (λ m. take m q) (range_with_len n b)
rest_of q n a b e = ap (λ k. map (λ m. take m q) (range_with_len n k)) e

pub rest_more : (q : List ℕ) (n : ℕ) → n < length q → rest q n ≡ take n q ∷ rest q (n + 1)
rest_more q n h = rest_of q n (length q - n) (suc (length q - (n + 1))) (omega arith)

pub rest_all : (q : List ℕ) (n : ℕ) → length q ≤ n → rest q n ≡ []
rest_all q n h = rest_of q n (length q - n) 0 (omega arith)

shifted : (i : ℕ) (q : List ℕ) (a k : ℕ) → map (λ m. take m (i ∷ q)) (range_with_len (suc a) k) ≡ map (λ p. i ∷ p) (map (λ m. take m q) (range_with_len a k))
shifted i q a zero = refl
shifted i q a (suc k) = ap (λ ps. (i ∷ take a q) ∷ ps) (ap (λ b. map (λ m. take m (i ∷ q)) (range_with_len b k)) next ∙ shifted i q (a + 1) k)
  where
    next : suc a + 1 ≡ suc (a + 1)
    next = omega arith

fronts : (i : ℕ) (q : List ℕ) → parents (i ∷ q) ≡ map (λ m. take m (i ∷ q)) (range_with_len 1 (length q))
fronts i [] = refl
fronts i (j ∷ q) = ap (λ ps. (i ∷ []) ∷ map (λ p. i ∷ p) ps) (fronts j q) ∙ ap (λ ps. (i ∷ []) ∷ ps) (sym (shifted i (j ∷ q) 1 (length q)))

pub parents_rest : (q : List ℕ) → parents q ≡ rest q 1
parents_rest [] = refl
parents_rest (i ∷ q) = fronts i q ∙ rest_of (i ∷ q) 1 (length q) (suc (length q) - 1) (omega arith)

-- ---- the refusal by the first parent that isn't a present table entry

abbrev pub stop : (E : List ℕ → ℕ) → List (List ℕ) → Option Refusal
stop E ps = option_map (λ p. cond (present (E p)) ParentEntryHugePage PageNotMapped) (find (λ p. not (present (E p) && not (huge (E p)))) ps)

stop_more : (E : List ℕ → ℕ) (p : List ℕ) (ps : List (List ℕ)) → stop E (p ∷ ps) ≡ cond (present (E p)) (cond (huge (E p)) (Some ParentEntryHugePage) (stop E ps)) (Some PageNotMapped)
stop_more E p ps = by (present (E p)) (huge (E p)) refl
  where
    by : (a b : Bool) → cond (present (E p)) ParentEntryHugePage PageNotMapped ≡ cond a ParentEntryHugePage PageNotMapped → option_map (λ p. cond (present (E p)) ParentEntryHugePage PageNotMapped) (cond (not (a && not b)) (Some p) (find (λ p. not (present (E p) && not (huge (E p)))) ps)) ≡ cond a (cond b (Some ParentEntryHugePage) (stop E ps)) (Some PageNotMapped)
    by true true e = ap Some e
    by true false e = refl
    by false b e = ap Some e

stop_at : (E : List ℕ → ℕ) (q : List ℕ) (n e : ℕ) → n < length q → e ≡ E (take n q) → stop E (rest q n) ≡ cond (present e) (cond (huge e) (Some ParentEntryHugePage) (stop E (rest q (n + 1)))) (Some PageNotMapped)
stop_at E q n e h is = ap (stop E) (rest_more q n h) ∙ stop_more E (take n q) (rest q (n + 1)) ∙ ap (λ e. cond (present e) (cond (huge e) (Some ParentEntryHugePage) (stop E (rest q (n + 1)))) (Some PageNotMapped)) (sym is)

pub stop_absent : (E : List ℕ → ℕ) (q : List ℕ) (n e : ℕ) → n < length q → e ≡ E (take n q) → present e ≡ false → stop E (rest q n) ≡ Some PageNotMapped
stop_absent E q n e h is a = stop_at E q n e h is ∙ ap (λ b. cond b (cond (huge e) (Some ParentEntryHugePage) (stop E (rest q (n + 1)))) (Some PageNotMapped)) a

pub stop_huge : (E : List ℕ → ℕ) (q : List ℕ) (n e : ℕ) → n < length q → e ≡ E (take n q) → present e ≡ true → huge e ≡ true → stop E (rest q n) ≡ Some ParentEntryHugePage
stop_huge E q n e h is a b = stop_at E q n e h is ∙ ap (λ b. cond b (cond (huge e) (Some ParentEntryHugePage) (stop E (rest q (n + 1)))) (Some PageNotMapped)) a ∙ ap (λ b. cond b (Some ParentEntryHugePage) (stop E (rest q (n + 1)))) b

pub stop_table : (E : List ℕ → ℕ) (q : List ℕ) (n e : ℕ) → n < length q → e ≡ E (take n q) → present e ≡ true → huge e ≡ false → stop E (rest q n) ≡ stop E (rest q (n + 1))
stop_table E q n e h is a b = stop_at E q n e h is ∙ ap (λ b. cond b (cond (huge e) (Some ParentEntryHugePage) (stop E (rest q (n + 1)))) (Some PageNotMapped)) a ∙ ap (λ b. cond b (Some ParentEntryHugePage) (stop E (rest q (n + 1)))) b

pub stop_start : (E : List ℕ → ℕ) (q : List ℕ) → stop E (rest q 1) ≡ first_stop E q
unfolding first_stop
stop_start E q = ap (stop E) (sym (parents_rest q))

pub stop_end : (E : List ℕ → ℕ) (q : List ℕ) (n : ℕ) → length q ≤ n → stop E (rest q n) ≡ None
stop_end E q n h = ap (stop E) (rest_all q n h)
