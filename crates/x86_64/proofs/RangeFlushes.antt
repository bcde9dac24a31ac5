-- The items of a range's token cover those of the single calls.
use Rattle.std.proofs.Common.{zero, suc, ◌≡◌, ◌⊎◌, inl, inr, ◌<◌, ◌≤◌, ◌+◌, ◌*◌, ℕ, Bool, true, false, cond, nat_lt, List, [], ◌∷◌, ◌++◌, map, refl, sym, ap, ◌∙◌, subst, arith}
use Rattle.std.specs.List.{AllByRecursion, range_with_len}
use Rattle.x86_64_model.specs.Call.{Call, Unmap, UpdateFlags, Reply, NotAllowed, Answered, Position, Address, Cleaned, IsCall}
use Rattle.x86_64_model.specs.Flush.{Item, OnePage, all_items, covers, if_done, items_of}
use Rattle.x86_64_model.specs.Laws.Steps.{AllCalls, NoneCovers as NoneOf}
use Rattle.x86_64_model.specs.Machine.{Machine, State, step}
use Rattle.x86_64_model.specs.Path.{path_at}
use Rattle.x86_64_model.specs.Position.{span}
use Rattle.x86_64_model.specs.Refusal.{Done, Refused}
use Rattle.x86_64_model.proofs.Lemmas.Machines.Laws.{flushes_are_enough}
use Rattle.x86_64_tables.specs.FlushRecorder.{flush_range, page_item, page_items, range_items}
use Rattle.x86_64_tables.specs.declared.tokens.recorder.FlushItem.TheVariants.{All}
use Rattle.x86_64.specs.Flushes.{NoFlushItemCovers, item_of, level_of_size}
use Rattle.x86_64.specs.RangeFlushes.{AreChanges, RangeFlushesSuffice}

-- ---- the items of a range

of_range : {X : Type 0} (P : X → Type 0) (f : ℕ → X) (a n : ℕ) → AllByRecursion P (map f (range_with_len a n)) → (k : ℕ) → k < n → P (f (a + k))
of_range P f a zero all k less = absurd (omega (arith, less))
of_range P f a (suc n) all zero less = subst (λ j. P (f j)) (let e : a ≡ a + 0 = omega arith in e) all.0
of_range P f a (suc n) all (suc k) less = subst (λ j. P (f j)) (let e : a + 1 + k ≡ a + suc k = omega arith in e) (of_range P f (a + 1) n all.1 k (omega (arith, less)))

level_is : (level : ℕ) → 1 ≤ level → level ≤ 3 → level_of_size (span level) ≡ level
level_is zero low high = absurd (omega (arith, low))
level_is (suc zero) low high = refl
level_is (suc (suc zero)) low high = refl
level_is (suc (suc (suc zero))) low high = refl
level_is (suc (suc (suc (suc n)))) low high = absurd (omega (arith, high))

item_is : (L level start : ℕ) → (L ≡ 4) ⊎ (L ≡ 5) → 1 ≤ level → level ≤ 3 → item_of (page_item L start (span level)) ≡ OnePage (path_at L level start)
item_is L level start (inl four) low high = subst (λ L. item_of (page_item L start (span level)) ≡ OnePage (path_at L level start)) (sym four) (ap (λ n. OnePage (path_at 4 n start)) (level_is level low high))
item_is L level start (inr five) low high = subst (λ L. item_of (page_item L start (span level)) ≡ OnePage (path_at L level start)) (sym five) (ap (λ n. OnePage (path_at 5 n start)) (level_is level low high))

-- if none covers a position, it lies in no page of the range
module _ (L : ℕ) (known : (L ≡ 4) ⊎ (L ≡ 5)) (level page count most p : ℕ) (low : 1 ≤ level) (high : level ≤ 3) where
  in_no_page : NoFlushItemCovers L (range_items L (span level) most (flush_range page count)) p → (k : ℕ) → k < count → covers L (OnePage (path_at L level (page + k * span level))) p ≡ false
  in_no_page none k less = by (nat_lt most count) none
    where
      by : (b : Bool) → NoFlushItemCovers L (cond b (All ∷ []) (page_items L (span level) page count)) p → covers L (OnePage (path_at L level (page + k * span level))) p ≡ false
      by true none = absurd (let t : true ≡ false = none.0 in cc)
      by false none = ap (λ item. covers L item p) (sym (item_is L level (page + k * span level) known low high))
          ∙ subst (λ j. covers L (item_of (page_item L (page + j * span level) (span level))) p ≡ false) (let e : 0 + k ≡ k = omega arith in e)
          (of_range (λ item. covers L (item_of item) p ≡ false) (λ k. page_item L (page + k * span level) (span level)) 0 count none k less)

-- ---- the items of single calls

all_then : {X : Type 0} (P : X → Type 0) (xs ys : List X) → AllByRecursion P xs → AllByRecursion P ys → AllByRecursion P (xs ++ ys)
all_then P [] ys all more = more
all_then P (x ∷ xs) ys all more = (all.0, all_then P xs ys all.1 more)

none_done : (L p : ℕ) (item : Item) → covers L item p ≡ false → (reply : Reply) → NoneOf L (if_done reply item) p
none_done L p item none (Answered (Done f)) = (none, tt)
none_done L p item none (Answered (Refused why)) = tt
none_done L p item none NotAllowed = tt
none_done L p item none (Position t) = tt
none_done L p item none (Address a) = tt
none_done L p item none Cleaned = tt

module _ (m : Machine) (p : ℕ) (call : ℕ → Call) (Inside : ℕ → Type 0) (none : (k : ℕ) → Inside k → (reply : Reply) → NoneOf m.levels (items_of m.levels (call k) reply) p) where
  none_of_calls : (a n : ℕ) (s : State) → ((k : ℕ) → k < n → Inside (a + k)) → NoneOf m.levels (all_items m s (map call (range_with_len a n))) p
  none_of_calls a zero s inside = tt
  none_of_calls a (suc n) s inside = all_then _ (items_of m.levels (call a) (step m s (call a)).reply) (all_items m (step m s (call a)).state (map call (range_with_len (a + 1) n)))
      (none a (subst Inside (let e : a + 0 ≡ a = omega arith in e) (inside 0 (omega arith))) (step m s (call a)).reply)
      (none_of_calls (a + 1) n (step m s (call a)).state (λ k less. subst Inside (let e : a + suc k ≡ a + 1 + k = omega arith in e) (inside (suc k) (omega (arith, less)))))

are_calls : (L : ℕ) (call : ℕ → Call) → ((k : ℕ) → IsCall L (call k)) → (a n : ℕ) → AllCalls L (map call (range_with_len a n))
are_calls L call each a zero = tt
are_calls L call each a (suc n) = (each a, are_calls L call each (a + 1) n)

-- ---- both together

module _ (m : Machine) (known : (m.levels ≡ 4) ⊎ (m.levels ≡ 5)) (level page count : ℕ) (low : 1 ≤ level) (high : level ≤ 3) where
  abbrev start : ℕ → ℕ
  start k = page + k * span level

  abbrev path : ℕ → List ℕ
  path k = path_at m.levels level (start k)

  levels : level ≤ m.levels
  levels = elim known [ inl four ↦ omega (arith, four, high) | inr five ↦ omega (arith, five, high) ]

  -- the calls are well formed, and none of their items covers the position
  record Pass (p : ℕ) (s : State) (calls : List Call) : Type 0 where
    are : AllCalls m.levels calls
    none : NoneOf m.levels (all_items m s calls) p

  pass : (calls : List Call) → AreChanges level page count calls → (p : ℕ) → ((k : ℕ) → k < count → covers m.levels (OnePage (path k)) p ≡ false) → (s : State) → Pass p s calls
  pass calls (inl is) p none s = subst (Pass p s) (sym is) (record {
    are = are_calls m.levels (λ k. Unmap level (start k)) (λ k. (low, high, levels)) 0 count;
    none = none_of_calls m p (λ k. Unmap level (start k)) (λ k. k < count) (λ k less reply. none_done m.levels p (OnePage (path k)) (none k less) reply) 0 count s (λ k less. omega (arith, less));
  })
  pass calls (inr (given, is)) p none s = subst (Pass p s) (sym is) (record {
    are = are_calls m.levels (λ k. UpdateFlags level (start k) given) (λ k. (low, high, levels)) 0 count;
    none = none_of_calls m p (λ k. UpdateFlags level (start k) given) (λ k. k < count) (λ k less reply. none_done m.levels p (OnePage (path k)) (none k less) reply) 0 count s (λ k less. omega (arith, less));
  })

pub range_flushes_suffice : RangeFlushesSuffice
range_flushes_suffice m is known T U root serves s fits level page count most low high calls changes after p outside none =
    let passed = pass m known level page count low high calls changes p (in_no_page m.levels known level page count most p low high none) s in
    flushes_are_enough m is T T U root serves s calls passed.are fits 0 fits.valid after p outside passed.none
