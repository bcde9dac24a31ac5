-- The tables of a memory by their places.
use Rattle.std.proofs.Common.{◌≡◌, ◌≢◌, inl, inr, ℕ, zero, suc, ◌+◌, ◌<◌, ◌≤◌, ◌==◌, ◌&&◌, ◌||◌, ◌++◌, List, [], ◌∷◌, length, Bool, true, false, not, cond, if◌then◌else◌, Option, Some, None, IsSome, IfSome, is_some, slice_get, slice_set, get_or, nat_lt, nat_le, Bor, MutBor, refl, sym, ap, ◌∙◌, arith, lt-ltb, le-ltb}
use Rattle.std.specs.Prelude.{unwrap_or}
use Rattle.std.specs.Ordering.{nat_cmp, eq_by_cmp}
use Rattle.std.specs.Cmp.{unsigned_tied, Equal-is}
use Rattle.std.specs.FinMap.{get, insert, get-empty, get-insert, same_map, nat_cmp-IsAntisymmetric}
use Rattle.std.specs.List.{position, position_or_len, list_any, range_with_len}
use Rattle.std.specs.Option.{ghost_name_of, option_copied, option_copied_mut}
use Rattle.std.proofs.lemmas.Cmp.{nat_cmp_total}
use Rattle.std.proofs.lemmas.Bool.{false≢true, cases_lt, eq-eqb}
use Rattle.std.proofs.lemmas.Bool.Decides.{eqb_tells}
use Rattle.std.proofs.lemmas.Option.{slice_get_past, slice_get_read, slice_get-get_or}
use Rattle.std.proofs.lemmas.List.{length-set}
use Rattle.std.proofs.lemmas.List.Sums.{passes_at_first}
use Rattle.std.proofs.lemmas.List.FromFn.{length-range_with_len, get_or-range_with_len}
use Rattle.std.specs.List.Sorted.{IsStrictlyIncreasing}
use borrow.Follows.Closed.{read_of}
use Rattle.x86_64_model.specs.Memory.{Memory}
use Rattle.x86_64_model.proofs.Lemmas.Hierarchies.Memories.{other_key}
use Rattle.x86_64_tables.specs.PageTable.{zero_words}
use Rattle.x86_64_tables.specs.PhysMemory.{tables_at, zero_tables_at}

same_place : (x y : ℕ) → x ≡ y → eq_by_cmp nat_cmp x y ≡ true
same_place x y e = unsigned_tied x y ∙ eq-eqb x y e

-- the number of places before a place, or the number of all places if it isn't one of them
abbrev pub rank : List ℕ → (place : ℕ) → ℕ
rank ps q = position_or_len (eq_by_cmp nat_cmp q) ps

chosen : (b : Bool) (t : List ℕ) (ts : List (List ℕ)) (n : ℕ) {o : Option (List ℕ)} → o ≡ slice_get ts n
    → cond b (Some t) o ≡ slice_get (t ∷ ts) (cond (not b) (1 + n) 0)
chosen true t ts n e = refl
chosen false t ts n e = let s : suc n ≡ 1 + n = omega arith in e ∙ ap (slice_get (t ∷ ts)) s

get-tables : (ps : List ℕ) (ts : List (List ℕ)) (q : ℕ) → length ts ≡ length ps
    → get (tables_at ps ts) q ≡ slice_get ts (rank ps q)
get-tables [] [] q e = get-empty nat_cmp q
get-tables [] (t ∷ ts) q e = absurd (omega (arith, e))
get-tables (p ∷ ps) [] q e = absurd (omega (arith, e))
get-tables (p ∷ ps) (t ∷ ts) q e =
    get-insert nat_cmp_total (tables_at ps ts) p t q
    ∙ chosen (eq_by_cmp nat_cmp q p) t ts (rank ps q) (get-tables ps ts q (omega (arith, e)))

get_set_same : (ts : List (List ℕ)) (i : ℕ) (w : List ℕ) → i < length ts → slice_get (slice_set ts i w) i ≡ Some w
get_set_same [] i w h = absurd (omega arith)
get_set_same (t ∷ ts) zero w h = refl
get_set_same (t ∷ ts) (suc i) w h = get_set_same ts i w (omega arith)

get_set_other : (ts : List (List ℕ)) (i q : ℕ) (w : List ℕ) → q ≢ i → slice_get (slice_set ts i w) q ≡ slice_get ts q
get_set_other [] i q w n = refl
get_set_other (t ∷ ts) zero zero w n = absurd (n refl)
get_set_other (t ∷ ts) zero (suc q) w n = refl
get_set_other (t ∷ ts) (suc i) zero w n = refl
get_set_other (t ∷ ts) (suc i) (suc q) w n = get_set_other ts i q w (λ e. n (ap suc e))

-- the place with a rank
at_rank : (ps : List ℕ) (q : ℕ) → rank ps q < length ps → q ≡ get_or ps (rank ps q) 0
at_rank ps q h = nat_cmp-IsAntisymmetric q _ ((Equal-is _).0 (passes_at_first (eq_by_cmp nat_cmp q) ps 0 h))

-- places of equal rank are equal
same_rank : (ps : List ℕ) (q r : ℕ) → rank ps q < length ps → rank ps r ≡ rank ps q → r ≡ q
same_rank ps q r h e =
    let l : rank ps r < length ps = omega (arith, e, h) in
    at_rank ps r l ∙ ap (λ k. get_or ps k 0) e ∙ sym (at_rank ps q h)

get-set : (ps : List ℕ) (ts : List (List ℕ)) (q r : ℕ) (w : List ℕ) → length ts ≡ length ps → rank ps q < length ps
    → slice_get (slice_set ts (rank ps q) w) (rank ps r) ≡ cond (eq_by_cmp nat_cmp r q) (Some w) (slice_get ts (rank ps r))
get-set ps ts q r w n h =
    let found : Bool → Option (List ℕ) = λ b. cond b (Some w) (slice_get ts (rank ps r)) in
    elim (eqb_tells r q) [
      | inl p ↦ ap (λ x. slice_get (slice_set ts (rank ps q) w) (rank ps x)) p.1
          ∙ (get_set_same ts (rank ps q) w (omega (arith, n, h)) ∙ sym (ap found (same_place r q p.1)))
      | inr p ↦ get_set_other ts (rank ps q) (rank ps r) w (λ e. p.1 (same_rank ps q r h e)) ∙ sym (ap found (other_key r q p.1))
    ]

tables-set : (ps : List ℕ) (ts : List (List ℕ)) (q : ℕ) (w : List ℕ) → length ts ≡ length ps → rank ps q < length ps
    → tables_at ps (slice_set ts (rank ps q) w) ≡ insert (tables_at ps ts) q w
tables-set ps ts q w n h =
    same_map nat_cmp_total nat_cmp-IsAntisymmetric _ _ (λ r.
    get-tables ps (slice_set ts (rank ps q) w) r (length-set ts (rank ps q) w ∙ n)
    ∙ get-set ps ts q r w n h
    ∙ sym (get-insert nat_cmp_total (tables_at ps ts) q w r ∙ ap (cond (eq_by_cmp nat_cmp r q) (Some w)) (get-tables ps ts r n)))

-- the rank of a place that is found, and of a place that isn't
has_rank : (ps : List ℕ) (q i : ℕ) → position (eq_by_cmp nat_cmp q) ps ≡ Some i → (rank ps q < length ps) × (rank ps q ≡ i)
has_rank ps q i e = elim (cases_lt (rank ps q) (length ps)) [
  | inl below ↦ (below, ap (λ o. unwrap_or o 0) (ap (λ b. cond b (Some (rank ps q)) None) (sym (lt-ltb _ _ below)) ∙ e))
  | inr past ↦ absurd (false≢true (ap is_some (ap (λ b. cond b (Some (rank ps q)) None) (sym (le-ltb _ _ past)) ∙ e)))
]

no_rank : (ps : List ℕ) (q : ℕ) → position (eq_by_cmp nat_cmp q) ps ≡ None → length ps ≤ rank ps q
no_rank ps q e = elim (cases_lt (rank ps q) (length ps)) [
  | inl below ↦ absurd (false≢true (sym (ap is_some (ap (λ b. cond b (Some (rank ps q)) None) (sym (lt-ltb _ _ below)) ∙ e))))
  | inr past ↦ past
]

module _ (ps : List ℕ) (ts : List (List ℕ)) (m : Memory) (same : length ts ≡ length ps) (is : tables_at ps ts ≡ m) (q : ℕ) where
  pub there : (i : ℕ) → position (eq_by_cmp nat_cmp q) ps ≡ Some i → slice_get ts i ≡ get m q
  there i e = sym (ap (λ m. get m q) (sym is) ∙ get-tables ps ts q same ∙ ap (slice_get ts) (has_rank ps q i e).1)

  pub gone : position (eq_by_cmp nat_cmp q) ps ≡ None → None ≡ get m q
  gone e =
      let past = no_rank ps q e in
      sym (ap (λ m. get m q) (sym is) ∙ get-tables ps ts q same ∙ slice_get_past ts (rank ps q) (omega (arith, past, same)))

  pub within : (i : ℕ) → position (eq_by_cmp nat_cmp q) ps ≡ Some i → i < length ts
  within i e = let found = has_rank ps q i e in omega (arith, found.0, found.1, same)

  -- the element that indexing returns is the table at the place
  pub read : (i : ℕ) (table : List ℕ) → position (eq_by_cmp nat_cmp q) ps ≡ Some i → table ≡ get_or ts i table → get m q ≡ Some table
  read i table e at = sym (there i e) ∙ slice_get_read ts (length ts) i table refl (within i e) at

  -- changing a table inserts it at its place
  pub changed : (i : ℕ) (w : List ℕ) → position (eq_by_cmp nat_cmp q) ps ≡ Some i → tables_at ps (slice_set ts i w) ≡ insert m q w
  changed i w e =
      let found = has_rank ps q i e in
      ap (λ i. tables_at ps (slice_set ts i w)) (sym found.1) ∙ tables-set ps ts q w same found.0 ∙ ap (λ m. insert m q w) is

  -- a place that the memory has is found
  pub found_there : IsSome (get m q) → (r : Option ℕ) → r ≡ position (eq_by_cmp nat_cmp q) ps → IsSome r
  found_there has None e = absurd (false≢true (ap is_some (gone (sym e)) ∙ has))
  found_there has (Some i) e = refl

-- two descriptions of what is lent agree if they agree when something is lent
pub lends_alike : {D E T : Type 0} (r : Option (MutBor T)) {F G : E → D} {v u : D}
    → v ≡ u → (IsSome r → (w : E) → F w ≡ G w) → read_of (ghost_name_of r) F v ≡ read_of (ghost_name_of r) G u
lends_alike None e h = ap inr e
lends_alike (Some x) e h = ap (λ f. inl (x.ghost_name, f)) (λ i w. h refl w i)

-- the element that `get` returns is the element of the list
pub copied_is_element : (r : Option (Bor (List ℕ))) (ts : List (List ℕ)) (i : ℕ)
    → is_some r ≡ nat_lt i (length ts) → IfSome r (λ x. x.now ≡ get_or ts i x.now) → option_copied r ≡ slice_get ts i
copied_is_element None ts i there value = sym (slice_get_past ts i (grind (arith, there)))
copied_is_element (Some x) ts i there value = ap Some value ∙ sym (slice_get-get_or ts i x.now (grind (arith, there)))

-- the element that `get_mut` lends is the element of the list
pub lent_is_element : (r : Option (MutBor (List ℕ))) (ts : List (List ℕ)) (i : ℕ)
    → (IsSome r → i < length ts) → (i < length ts → IsSome r) → IfSome r (λ x. x.now ≡ get_or ts i x.now)
    → option_copied_mut r ≡ slice_get ts i
lent_is_element None ts i there lent value =
    sym (slice_get_past ts i (elim (cases_lt i (length ts)) [ inl below ↦ absurd (false≢true (lent below)) | inr past ↦ past ]))
lent_is_element (Some x) ts i there lent value = ap Some value ∙ sym (slice_get-get_or ts i x.now (there refl))

-- the tables of a memory whose words are all 0
pub get-zero_tables : (ps : List ℕ) (q : ℕ)
    → get (zero_tables_at ps) q ≡ (if list_any (λ p. q == p) ps then Some zero_words else None)
get-zero_tables [] q = get-empty nat_cmp q
get-zero_tables (p ∷ ps) q =
    get-insert nat_cmp_total (zero_tables_at ps) p zero_words q
    ∙ ap (λ b. cond b (Some zero_words) (get (zero_tables_at ps) q)) (unsigned_tied q p)
    ∙ either (q == p) (list_any (λ p. q == p) ps) (get-zero_tables ps q)
  where
    either : (b c : Bool) {o : Option (List ℕ)} → o ≡ (if c then Some zero_words else None)
        → cond b (Some zero_words) o ≡ (if b || c then Some zero_words else None)
    either true c e = refl
    either false c e = e

any_of_range : (k n q : ℕ) → list_any (λ p. q == p) (range_with_len k n) ≡ nat_le k q && nat_lt q (k + n)
any_of_range k zero q = grind (arith)
any_of_range k (suc n) q = ap (λ b. (q == k) || b) (any_of_range (k + 1) n q) ∙ grind (arith)

range_more : (k n : ℕ) → range_with_len k (suc n) ≡ range_with_len k n ++ (k + n) ∷ []
range_more k zero = let e : k ≡ k + 0 = omega arith in ap (λ j. j ∷ []) e
range_more k (suc n) =
    let e : (k + 1) + n ≡ k + suc n = omega arith in
    ap (λ xs. k ∷ xs) (range_more (k + 1) n ∙ ap (λ j. range_with_len (k + 1) n ++ j ∷ []) e)

pub range-push : (n : ℕ) → range_with_len 0 n ++ n ∷ [] ≡ range_with_len 0 (n + 1)
range-push n =
    let e : 0 + n ≡ n = omega arith in
    let more : suc n ≡ n + 1 = omega arith in
    sym (ap (range_with_len 0) (sym more) ∙ range_more 0 n ∙ ap (λ j. range_with_len 0 n ++ j ∷ []) e)

pub range_rises : (n : ℕ) → IsStrictlyIncreasing (range_with_len 0 n)
range_rises n k h =
    let long = length-range_with_len 0 n in
    let low = get_or-range_with_len 0 n k 0 (omega (arith, long, h)) in
    let high = get_or-range_with_len 0 n (k + 1) 0 (omega (arith, long, h)) in
    omega (arith, low, high)

-- the tables of a memory with the places 0 to n - 1 and all words 0
pub get-zero_range : (n q : ℕ) → get (zero_tables_at (range_with_len 0 n)) q ≡ (if nat_lt q n then Some zero_words else None)
get-zero_range n q = get-zero_tables (range_with_len 0 n) q ∙ ap (λ b. if b then Some zero_words else None) (any_of_range 0 n q ∙ from_zero)
  where
    from_zero : nat_le 0 q && nat_lt q (0 + n) ≡ nat_lt q n
    from_zero = grind (arith)
