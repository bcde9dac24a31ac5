-- A pool fits a hierarchy, and an array has room for it, exactly if the tables and the pool are sound, and together they are
-- at most one more than the array holds: the root needs no place in it.
use Rattle.std.proofs.Common.{◌≡◌, ◌≢◌, ◌↔◌, inr, ⊎_elim, ◌≤◌, ◌+◌, ◌^◌, ◌/◌, ◌&&◌, ℕ, zero, suc, true, List, [], ◌∷◌, ◌++◌, length, reverse, Some, None, refl, sym, ap, ap₂, ◌∙◌, subst, arith, lt-ltb}
use Rattle.std.proofs.lemmas.Bool.{cases_lt}
use Rattle.std.proofs.lemmas.List.{length-append, reverse-reverse}
use Rattle.std.proofs.lemmas.List.Sorted.{IsPermutation-reverse}
use Rattle.x86_64_model.specs.Entry.{address, is_frame}
use Rattle.x86_64_model.specs.Validity.{paths_of}
use Rattle.x86_64_model.specs.Lists.{In, EachOnce}
use Rattle.x86_64_model.specs.Memory.{Words, OnlyFrames}
use Rattle.x86_64_model.specs.PathMap.{PathMap, table_at}
use Rattle.x86_64_model.specs.Pool.{IsTable, TakesBack, serves_below}
use Rattle.x86_64_model.specs.private.Tables.{tables_from, SoundTables}
use Rattle.x86_64_model.proofs.Lemmas.Entries.Bits.{same_frame, is_frame_address}
use Rattle.x86_64_model.proofs.Lemmas.Lists.Members.{in_left, in_right, in_append}
use Rattle.x86_64_model.proofs.Lemmas.Machines.Giving.{giving_from}
use Rattle.x86_64_model.proofs.Lemmas.Tables.Exact.{valid_sound}
use Rattle.x86_64_model.proofs.Lemmas.Tables.Meant.{valid_means, fits_means}
use Rattle.x86_64_model.proofs.Lemmas.Tables.Walked.{table_at_frame, in_tables, from_tables}
use Rattle.x86_64_tables.specs.LentPool.{FitsRoom}
use Rattle.x86_64_tables.proofs.FrameAddresses.{frame_bounds}
use Rattle.x86_64_tables.proofs.Pigeonhole.{members_fit}
use Rattle.x86_64_tables.proofs.Stacks.{in_list, is_in_list}

-- ---- lists

-- to reverse is to rearrange
reverses : TakesBack (λ held f. reverse (f ∷ held))
reverses = giving_from (λ held f. reverse (f ∷ held)) (λ held f. IsPermutation-reverse (f ∷ held))

pub in_reverse : (xs : List ℕ) (f : ℕ) → In (reverse xs) f ↔ In xs f
in_reverse [] f = (λ i. i, λ i. i)
in_reverse (x ∷ xs) f = reverses.same_frames xs x f

pub once_reverse : (xs : List ℕ) → EachOnce xs → EachOnce (reverse xs)
once_reverse [] once = once
once_reverse (x ∷ xs) once = reverses.each_once xs x once

pub once_back : (xs : List ℕ) → EachOnce (reverse xs) → EachOnce xs
once_back xs once = subst EachOnce (reverse-reverse xs) (once_reverse (reverse xs) once)

-- ---- the tables below the root

-- a frame but frame 0 has a number from 1 to 2^40 - 1
pub served : (f : ℕ) → is_frame f ≡ true → f ≢ 0 → serves_below (2 ^ 40) f ≡ true
unfolding address
served f frame other =
    let bounds = frame_bounds f frame in
    ap₂ (λ a b. a && b)
    (lt-ltb 0 (f / 4096) (⊎_elim (λ l. l) (λ l. absurd (other (same_frame f 0 frame (is_frame_address 0) (omega arith)))) (cases_lt 0 (f / 4096))))
    (lt-ltb (f / 4096) (2 ^ 40) (omega arith))

root_first : (n : ℕ) (T : Words) (root : ℕ) → (below : List ℕ) × (tables_from n T root ≡ root ∷ below)
unfolding tables_from
root_first zero T root = (_, refl)
root_first (suc n) T root = (_, refl)

-- the tables and a pool are sound, and together at most one more than an array holds
abbrev IsSoundWithin : (levels : ℕ) → Words → (root capacity : ℕ) → (pool : List ℕ) → Type 0
IsSoundWithin levels T root capacity pool =
    SoundTables levels T root (serves_below (2 ^ 40)) pool × (length (tables_from levels T root) + length pool ≤ suc capacity)

module _ (n : ℕ) (T : Words) (root : ℕ) (frames : OnlyFrames T) (capacity : ℕ) (pool : List ℕ) where
  abbrev M : PathMap
  M = paths_of (suc n) T root

  abbrev below : List ℕ
  below = (root_first n T root).0

  first : tables_from n T root ≡ root ∷ below
  first = (root_first n T root).1

  count : length (tables_from n T root) ≡ suc (length below)
  count = ap length first

  listed : (q : List ℕ) (f : ℕ) → table_at (suc n) root M q ≡ Some f → In (tables_from n T root) f
  listed q f e = in_tables n T root q f (sym (table_at_frame n T root q) ∙ e)

  leads : (f : ℕ) → In (tables_from n T root) f → IsTable (suc n) root M f
  leads f i = let r = from_tables n T root f i in (r.0, table_at_frame n T root r.0 ∙ r.1)

  has_room : IsSoundWithin n T root capacity pool → FitsRoom (suc n) T root capacity (reverse pool)
  has_room within =
      let fits = (fits_means n None T root (2 ^ 40) pool frames tt).0 within.0 in
      let in_pool : (f : ℕ) → In (reverse pool) f → In pool f = λ f. (in_reverse pool f).0 in
      let below_root : (i : ℕ) (q : List ℕ) (f : ℕ) → table_at (suc n) root M (i ∷ q) ≡ Some f → In below f = λ i q f e.
      ⊎_elim (λ is. absurd (let t : [] ≡ i ∷ q = fits.valid.valid.own_frames [] (i ∷ q) f (ap Some is) e in cc)) (λ i. i)
      (subst (λ xs. In xs f) first (listed (i ∷ q) f e)) in
      record {
        own = below ++ pool;
        few = let sum = length-append below pool in let all = count in let most = within.1 in omega arith;
        fits = record {
          valid = fits.valid;
          each_once = once_reverse pool fits.each_once;
          in_memory = λ f i. fits.in_memory f (in_pool f i);
          are_frames = λ f i. fits.are_frames f (in_pool f i);
          not_zero = λ i. fits.not_zero (in_pool 0 i);
          no_table = λ f i. fits.no_table f (in_pool f i);
          serves_pool = λ f i. is_in_list (below ++ pool) f (in_right below pool f (in_pool f i));
          serves_tables = λ i q f e. is_in_list (below ++ pool) f (in_left below pool f (below_root i q f e));
        };
      }

  module _ (room : FitsRoom (suc n) T root capacity (reverse pool)) where
    of_pool : (f : ℕ) → In pool f → In (reverse pool) f
    of_pool f = (in_reverse pool f).1

    sound : SoundTables n T root (serves_below (2 ^ 40)) pool
    sound =
        let fits = room.fits in
        let alone = (valid_means n T root).1 fits.valid.valid in
        valid_sound n T root (serves_below (2 ^ 40)) pool fits.valid.valid
        (λ i q f e. ⊎_elim (λ is. absurd (let t : [] ≡ i ∷ q = fits.valid.valid.own_frames [] (i ∷ q) f (ap Some (sym is)) e in cc)) (λ s. s)
        (alone.served f (in_left (tables_from n T root) [] f (listed (i ∷ q) f e))))
        (once_back pool fits.each_once) (λ f i. fits.in_memory f (of_pool f i)) (λ f i. fits.no_table f (of_pool f i))
        (λ f i. served f (fits.are_frames f (of_pool f i)) (λ is. fits.not_zero (subst (In (reverse pool)) is (of_pool f i))))

    once : EachOnce ((root ∷ below) ++ pool)
    once = subst (λ tables. EachOnce (tables ++ pool)) first sound.each_once

    owned_table : (f : ℕ) → In below f → In room.own f
    owned_table f i = by (leads f (subst (λ xs. In xs f) (sym first) (inr i))).0 (leads f (subst (λ xs. In xs f) (sym first) (inr i))).1
      where
        by : (q : List ℕ) → table_at (suc n) root M q ≡ Some f → In room.own f
        by [] e = absurd (once.0 (in_left below pool root (subst (In below) (let t : Some root ≡ Some f = e in cc) i)))
        by (j ∷ q) e = in_list room.own f (room.fits.serves_tables j q f e)

    few : length (tables_from n T root) + length pool ≤ suc capacity
    few =
        let fit = members_fit (below ++ pool) room.own once.1
        (λ f i. ⊎_elim (owned_table f) (λ i. in_list room.own f (room.fits.serves_pool f (of_pool f i))) (in_append below pool f i)) in
        let sum = length-append below pool in let all = count in let most = room.few in omega arith

  room_means : IsSoundWithin n T root capacity pool ↔ FitsRoom (suc n) T root capacity (reverse pool)
  room_means = (has_room, λ room. (sound room, few room))

-- ---- through L levels, the root's and those below it

pub room_if_sound : (levels L : ℕ) (T : Words) (root : ℕ) → OnlyFrames T → (capacity : ℕ) (pool : List ℕ) → suc levels ≡ L
    → IsSoundWithin levels T root capacity pool ↔ FitsRoom L T root capacity (reverse pool)
room_if_sound levels L T root frames capacity pool more =
    subst (λ L. IsSoundWithin levels T root capacity pool ↔ FitsRoom L T root capacity (reverse pool)) more (room_means levels T root frames capacity pool)
