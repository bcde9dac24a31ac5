-- Mappings one behind the other: which one has a position, and those from a position on.
use Rattle.std.proofs.Common.{zero, suc, ◌≡◌, ◌⊎◌, inl, inr, ⊎_elim, ◌<◌, ◌≤◌, ◌+◌, ◌*◌, ℕ, Bool, true, false, cond, List, [], ◌∷◌, ◌++◌, find, flat_map, Option, Some, None, nat_lt, nat_le, refl, sym, ap, ◌∙◌, subst, arith, lt-ltb, le-ltb}
use Rattle.std.specs.List.{range_with_len}
use Rattle.std.specs.Option.{option_or}
use Rattle.std.proofs.lemmas.Bool.{and_from, and_parts, cases_lt, le-leb, leb-true, ltb-true}
use Rattle.std.proofs.lemmas.List.Folds.{find-append}
use Rattle.std.proofs.Math.Nat.{mul-le-mul_right}
use Rattle.x86_64_model.specs.Lists.{In}
use Rattle.x86_64_model.specs.Mappings.{Mapping, has_position, mappings_from}
use Rattle.x86_64_model.specs.Laws.Mappings.{InOrder}
use Rattle.x86_64_model.proofs.Lemmas.Lists.All.{every_in, filter_same}
use Rattle.x86_64_model.proofs.Lemmas.Lists.Members.{find_in, found_is}

-- mappings between two positions, none of them empty, each behind the one before it
abbrev pub IsChain : (from to : ℕ) → List Mapping → Type 0
IsChain a b [] = a ≤ b
IsChain a b (m ∷ ms) = (a ≤ m.start) × (0 < m.size) × IsChain (m.start + m.size) b ms

pub chain_wider : (a b c d : ℕ) (ms : List Mapping) → a ≤ b → c ≤ d → IsChain b c ms → IsChain a d ms
chain_wider a b c d [] l k h = omega (arith, l, k, h)
chain_wider a b c d (m ∷ ms) l k h = (omega (arith, l, h.0), h.1, chain_wider (m.start + m.size) (m.start + m.size) c d ms (omega arith) k h.2)

pub chain_append : (a b c : ℕ) (ms ns : List Mapping) → IsChain a b ms → IsChain b c ns → IsChain a c (ms ++ ns)
chain_append a b c [] ns h g = chain_wider a b c c ns h (omega arith) g
chain_append a b c (m ∷ ms) ns h g = (h.0, h.1, chain_append (m.start + m.size) b c ms ns h.2 g)

pub chain_runs : (a b : ℕ) (ms : List Mapping) → IsChain a b ms → a ≤ b
chain_runs a b [] h = h
chain_runs a b (m ∷ ms) h = let on = chain_runs (m.start + m.size) b ms h.2 in omega (arith, on, h.0, h.1)

-- a mapping of a chain lies between its ends
pub in_chain : (a b : ℕ) (ms : List Mapping) → IsChain a b ms → (m : Mapping) → In ms m → (a ≤ m.start) × (0 < m.size) × (m.start + m.size ≤ b)
in_chain a b [] h m i = absurd i
in_chain a b (n ∷ ms) h m (inl e) = subst (λ m. (a ≤ m.start) × (0 < m.size) × (m.start + m.size ≤ b)) e (h.0, h.1, chain_runs (n.start + n.size) b ms h.2)
in_chain a b (n ∷ ms) h m (inr i) = let on = in_chain (n.start + n.size) b ms h.2 m i in (omega (arith, on.0, h.0, h.1), on.1, on.2)

pub in_order : (a b : ℕ) (ms : List Mapping) → IsChain a b ms → InOrder (λ m n. (m.start < n.start) × (m.start + m.size ≤ n.start)) ms
in_order a b [] h = tt
in_order a b (m ∷ ms) h = (
  every_in (λ n. (m.start < n.start) × (m.start + m.size ≤ n.start)) ms (λ n i. let on = in_chain (m.start + m.size) b ms h.2 n i in (omega (arith, on.0, h.1), on.0)),
  in_order (m.start + m.size) b ms h.2,
)

-- ---- the mapping at a position

pub has_from : (p : ℕ) (m : Mapping) → m.start ≤ p → p < m.start + m.size → has_position p m ≡ true
has_from p m from to = and_from _ _ (le-leb m.start p from) (lt-ltb p (m.start + m.size) to)

pub has_parts : (p : ℕ) (m : Mapping) → has_position p m ≡ true → (m.start ≤ p) × (p < m.start + m.size)
has_parts p m h = let parts = and_parts (nat_le m.start p) (nat_lt p (m.start + m.size)) h in (leb-true m.start p parts.0, ltb-true p (m.start + m.size) parts.1)

-- a position outside of a mapping
pub has_not : (p : ℕ) (m : Mapping) → (p < m.start) ⊎ (m.start + m.size ≤ p) → has_position p m ≡ false
has_not p m out = by (has_position p m) refl
  where
    by : (b : Bool) → has_position p m ≡ b → b ≡ false
    by false e = refl
    by true e = absurd (let parts = has_parts p m e in ⊎_elim (λ l. omega (arith, l, parts.0)) (λ l. omega (arith, l, parts.1)) out)

pub find_outside : (p a b : ℕ) (ms : List Mapping) → IsChain a b ms → (p < a) ⊎ (b ≤ p) → find (has_position p) ms ≡ None
find_outside p a b [] h out = refl
find_outside p a b (m ∷ ms) h out =
    let runs = chain_runs (m.start + m.size) b ms h.2 in
    ap (λ t. cond t (Some m) (find (has_position p) ms)) (has_not p m (⊎_elim (λ l. inl (omega (arith, l, h.0))) (λ l. inr (omega (arith, l, runs))) out))
    ∙ find_outside p (m.start + m.size) b ms h.2 (⊎_elim (λ l. inl (omega (arith, l, h.0))) (λ l. inr l) out)

-- a mapping of a chain is the one at each of its positions
pub find_member : (p a b : ℕ) (ms : List Mapping) → IsChain a b ms → (m : Mapping) → In ms m → has_position p m ≡ true → find (has_position p) ms ≡ Some m
find_member p a b [] h m i has = absurd i
find_member p a b (n ∷ ms) h m (inl e) has = ap (λ t. cond t (Some n) (find (has_position p) ms)) (ap (has_position p) e ∙ has) ∙ ap Some e
find_member p a b (n ∷ ms) h m (inr i) has =
    let inside = in_chain (n.start + n.size) b ms h.2 m i in let from = (has_parts p m has).0 in
    ap (λ t. cond t (Some n) (find (has_position p) ms)) (has_not p n (inr (omega (arith, inside.0, from)))) ∙ find_member p (n.start + n.size) b ms h.2 m i has

none_or : {X : Type 0} (o q : Option X) → o ≡ None → option_or o q ≡ q
none_or o q e = ap (λ o. option_or o q) e

or_none : {X : Type 0} (o q : Option X) → q ≡ None → option_or o q ≡ o
or_none None q e = e
or_none (Some x) q e = refl

-- ---- chains one behind the other, at multiples of a size

module _ (g : ℕ → List Mapping) (start size : ℕ) (part : (k : ℕ) → IsChain (start + k * size) (start + (k + 1) * size) (g k)) where
  later : (i k : ℕ) → i ≤ k → start + i * size ≤ start + k * size
  later i k l = let more = mul-le-mul_right {m = i} {n = k} size l in omega (arith, more)

  pub chain_parts : (n i : ℕ) → IsChain (start + i * size) (start + (i + n) * size) (flat_map g (range_with_len i n))
  chain_parts zero i = later i (i + zero) (omega arith)
  chain_parts (suc n) i = chain_append (start + i * size) (start + (i + 1) * size) (start + (i + suc n) * size) (g i) (flat_map g (range_with_len (i + 1) n)) (part i)
      (subst (λ k. IsChain (start + (i + 1) * size) (start + k * size) (flat_map g (range_with_len (i + 1) n))) (let e : (i + 1) + n ≡ i + suc n = omega arith in e) (chain_parts n (i + 1)))

  -- a position of one part is looked for in this part alone
  pub find_part : (p k n i : ℕ) → i ≤ k → k < i + n → start + k * size ≤ p → p < start + (k + 1) * size
      → find (has_position p) (flat_map g (range_with_len i n)) ≡ find (has_position p) (g k)
  find_part p k zero i from to low high = absurd (omega (arith, from, to))
  find_part p k (suc n) i from to low high = let rest = flat_map g (range_with_len (i + 1) n) in
      find-append (has_position p) (g i) rest ∙ ⊎_elim
      (λ l. none_or _ _ (find_outside p (start + i * size) (start + (i + 1) * size) (g i) (part i) (inr (let more = later (i + 1) k (omega (arith, l)) in omega (arith, more, low))))
      ∙ find_part p k n (i + 1) (omega (arith, l)) (omega (arith, to)) low high)
      (λ l. let same : i ≡ k = omega (arith, from, l) in
      or_none _ _ (find_outside p (start + (i + 1) * size) (start + (i + 1 + n) * size) rest (chain_parts n (i + 1)) (inl (subst (λ k. p < start + (k + 1) * size) (sym same) high)))
      ∙ ap (λ k. find (has_position p) (g k)) same)
      (cases_lt i k)

-- ---- those from a position on

pub from_kept : (p a b : ℕ) (ms : List Mapping) → IsChain a b ms → p ≤ a → mappings_from p ms ≡ ms
unfolding mappings_from
from_kept p a b [] h l = refl
from_kept p a b (m ∷ ms) h l =
    ap (λ t. cond t (m ∷ mappings_from p ms) (mappings_from p ms)) (lt-ltb p (m.start + m.size) (omega (arith, l, h.0, h.1)))
    ∙ ap (λ ms. m ∷ ms) (from_kept p (m.start + m.size) b ms h.2 (omega (arith, l, h.0)))

pub from_dropped : (p a b : ℕ) (ms : List Mapping) → IsChain a b ms → b ≤ p → mappings_from p ms ≡ []
unfolding mappings_from
from_dropped p a b [] h l = refl
from_dropped p a b (m ∷ ms) h l = let runs = chain_runs (m.start + m.size) b ms h.2 in
    ap (λ t. cond t (m ∷ mappings_from p ms) (mappings_from p ms)) (le-ltb p (m.start + m.size) (omega (arith, l, runs)))
    ∙ from_dropped p (m.start + m.size) b ms h.2 l

-- those behind a mapping, which is kept or not
dropped_first : (p : ℕ) (m : Mapping) (ms : List Mapping) → m.start + m.size ≤ p → mappings_from p (m ∷ ms) ≡ mappings_from p ms
unfolding mappings_from
dropped_first p m ms l = ap (λ t. cond t (m ∷ mappings_from p ms) (mappings_from p ms)) (le-ltb p (m.start + m.size) l)

kept_first : (p : ℕ) (m : Mapping) (ms : List Mapping) → p < m.start + m.size → mappings_from p (m ∷ ms) ≡ m ∷ mappings_from p ms
unfolding mappings_from
kept_first p m ms l = ap (λ t. cond t (m ∷ mappings_from p ms) (mappings_from p ms)) (lt-ltb p (m.start + m.size) l)

pub found_member : {X : Type 0} (t : X → Bool) (xs : List X) (x : X) → find t xs ≡ Some x → In xs x
found_member t [] x e = absurd (let n : None ≡ Some x = e in cc)
found_member t (y ∷ xs) x e = elim (t y) as (λ b. cond b (Some y) (find t xs) ≡ Some x → In (y ∷ xs) x) [
  | true ↦ λ e. inl (let s : Some y ≡ Some x = e in cc)
  | false ↦ λ e. inr (found_member t xs x e)
] e

-- the mapping at a position is the first one of those from it on
pub found_first : (p a b : ℕ) (ms : List Mapping) (m : Mapping) → IsChain a b ms → find (has_position p) ms ≡ Some m → mappings_from p ms ≡ m ∷ mappings_from (m.start + m.size) ms
found_first p a b [] m h e = absurd (let n : None ≡ Some m = e in cc)
found_first p a b (n ∷ ms) m h e =
    elim (has_position p n) as (λ t. has_position p n ≡ t → cond t (Some n) (find (has_position p) ms) ≡ Some m → mappings_from p (n ∷ ms) ≡ m ∷ mappings_from (m.start + m.size) (n ∷ ms)) [
      | true ↦ λ has is.
          let same : n ≡ m = (let s : Some n ≡ Some m = is in cc) in let parts = has_parts p n has in
          subst (λ m. mappings_from p (n ∷ ms) ≡ m ∷ mappings_from (m.start + m.size) (n ∷ ms)) same (
          kept_first p n ms parts.1 ∙ ap (λ ms. n ∷ ms) (
          from_kept p (n.start + n.size) b ms h.2 (omega (arith, parts.1))
          ∙ sym (dropped_first (n.start + n.size) n ms (omega arith) ∙ from_kept (n.start + n.size) (n.start + n.size) b ms h.2 (omega arith))))
      | false ↦ λ has is.
          let inside = in_chain (n.start + n.size) b ms h.2 m (found_member (has_position p) ms m is) in
          let low = inside.0 in let some = inside.1 in
          let from = (has_parts p m (found_is (has_position p) ms m is)).0 in
          dropped_first p n ms (omega (arith, low, from)) ∙ found_first p (n.start + n.size) b ms m h.2 is
          ∙ ap (λ ms. m ∷ ms) (sym (dropped_first (m.start + m.size) n ms (omega (arith, low, some))))
    ] refl e

-- where no mapping has a position before q, those from p on are those from q on
pub from_same : (p q a b : ℕ) (ms : List Mapping) → IsChain a b ms → p ≤ q → ((x : ℕ) → p ≤ x → x < q → find (has_position x) ms ≡ None) → mappings_from p ms ≡ mappings_from q ms
unfolding mappings_from
from_same p q a b ms h l none = filter_same (λ m. nat_lt p (m.start + m.size)) (λ m. nat_lt q (m.start + m.size)) ms (every_in _ ms same)
  where
    same : (m : Mapping) → In ms m → nat_lt p (m.start + m.size) ≡ nat_lt q (m.start + m.size)
    same m i = ⊎_elim
        (λ ends. ⊎_elim
        (λ on. lt-ltb p (m.start + m.size) ends ∙ sym (lt-ltb q (m.start + m.size) on))
        (λ over. absurd (
        let inside = in_chain a b ms h m i in let some = inside.1 in
        ⊎_elim
        (λ first. find_in (has_position m.start) ms m i (has_from m.start m (omega arith) (omega (arith, some))) (none m.start (omega (arith, first)) (omega (arith, over, some))))
        (λ first. find_in (has_position p) ms m i (has_from p m first ends) (none p (omega arith) (omega (arith, over, ends))))
        (cases_lt p m.start)))
        (cases_lt q (m.start + m.size)))
        (λ ended. le-ltb p (m.start + m.size) ended ∙ sym (le-ltb q (m.start + m.size) (omega (arith, ended, l))))
        (cases_lt p (m.start + m.size))
