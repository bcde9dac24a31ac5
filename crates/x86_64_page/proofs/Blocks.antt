-- Lists of blocks: their number, the first and the last, and what is left after some are taken.
use Rattle.std.proofs.Common.{◌≡◌, ◌⊎◌, ℕ, zero, suc, ◌+◌, ◌-◌, ◌*◌, ◌/◌, ◌%◌, ◌<◌, ◌≤◌, List, [], ◌∷◌, ◌++◌, length, inl, inr, refl, sym, ap, ◌∙◌, subst, arith, ap₂, Bool, true, false, Some, None, slice_get, reverse}
use Rattle.std.specs.Prelude.{min, cond, nat_lt, nat_le, ⊤}
use Rattle.std.specs.Iterator.{MakesProgress, item_count}
use Rattle.std.proofs.Common.{length-append}
use Rattle.std.proofs.Math.Nat.{min-eq_left, min-eq_right, min-zero}
use Rattle.std.proofs.lemmas.Option.{slice_get_past}
use Rattle.std.proofs.lemmas.Bool.{lt-ltb, ltb-true, ltb-false, le-leb, leb-true, leb-false}
use Rattle.std.proofs.lemmas.Bool.Decides.{leb_tells}
use Rattle.std.proofs.lemmas.List.{reverse-append, length-reverse}
use Rattle.x86_64_page.specs.Blocks.{IsBlockSize, IsLimit, blocks_from, blocks, blocks_inclusive, Ends, front_taken, back_taken, front_taken_inclusive, back_taken_inclusive}
use Rattle.x86_64_page.proofs.InTurn.{by_size, length-blocks_from}
use Rattle.x86_64_page.proofs.InTurnInclusive.{two_fit}

-- the list from the back
pub from-last : (size start count : ℕ) → blocks_from size start (suc count) ≡ blocks_from size start count ++ (start + count * size) ∷ []
from-last z s zero = ap (λ p. p ∷ []) (omega arith)
from-last z s (suc n) = ap (λ t. s ∷ t) (from-last z (s + z) n ∙ ap (λ p. blocks_from z (s + z) n ++ p ∷ []) (omega arith))

-- the n-th block from the front and from the back
pub get-blocks : (size start count n p : ℕ) → n < count → p ≡ start + n * size → Some p ≡ slice_get (blocks_from size start count) n
get-blocks z s zero n p h e = absurd (omega arith)
get-blocks z s (suc c) zero p h e = ap Some (omega arith)
get-blocks z s (suc c) (suc n) p h e = get-blocks z (s + z) c n p (omega arith) (omega arith)

pub get_past-blocks : (size start count n : ℕ) → count ≤ n → None ≡ slice_get (blocks_from size start count) n
get_past-blocks z s c n h = sym (slice_get_past (blocks_from z s c) n (let e = length-blocks_from z s c in omega arith))

reverse-last : (size start count : ℕ) → reverse (blocks_from size start (suc count)) ≡ (start + count * size) ∷ reverse (blocks_from size start count)
reverse-last z s c = ap reverse (from-last z s c) ∙ reverse-append (blocks_from z s c) ((s + c * z) ∷ [])

pub get_back-blocks : (size start count n p : ℕ) → n < count → p + n * size + size ≡ start + count * size → Some p ≡ slice_get (reverse (blocks_from size start count)) n
get_back-blocks z s zero n p h e = absurd (omega arith)
get_back-blocks z s (suc c) zero p h e = ap Some (omega arith) ∙ sym (ap (λ l. slice_get l zero) (reverse-last z s c))
get_back-blocks z s (suc c) (suc n) p h e = get_back-blocks z s c n p (omega arith) (omega arith) ∙ sym (ap (λ l. slice_get l (suc n)) (reverse-last z s c))

pub get_back_past-blocks : (size start count n : ℕ) → count ≤ n → None ≡ slice_get (reverse (blocks_from size start count)) n
get_back_past-blocks z s c n h = sym (slice_get_past (reverse (blocks_from z s c)) n (let e = length-blocks_from z s c in let f = length-reverse (blocks_from z s c) in omega arith))

-- ---- numbers: two places, each a multiple of the size

-- all blocks between two places, one after the other, lead from the first to the second
pub filled : (size start end : ℕ) → IsBlockSize size → start % size ≡ 0 → end % size ≡ 0 → start ≤ end → start + (end - start) / size * size ≡ end
filled z s e k = by_size (λ z. s % z ≡ 0 → e % z ≡ 0 → s ≤ e → s + (e - s) / z * z ≡ e) (λ a b l. omega arith) (λ a b l. omega arith) (λ a b l. omega arith) z k

pub none_between : (size start end : ℕ) → IsBlockSize size → end ≤ start → (end - start) / size ≡ 0
none_between z s e k = by_size (λ z. e ≤ s → (e - s) / z ≡ 0) (λ l. omega arith) (λ l. omega arith) (λ l. omega arith) z k

-- block n from a place on, and from the back, if there are more than n
pub record Nth (size start end n : ℕ) : Type 0 where
  pub within : start + n * size + size ≤ end
  pub aligned : (start + n * size) % size ≡ 0
  pub after : (start + n * size + size) % size ≡ 0
  pub back_aligned : (end - n * size) % size ≡ 0
  pub before : (end - n * size - size) % size ≡ 0

nth_between : (size start end n : ℕ) → IsBlockSize size → start % size ≡ 0 → end % size ≡ 0 → n < (end - start) / size → Nth size start end n
nth_between z s e n k = by_size (λ z. s % z ≡ 0 → e % z ≡ 0 → n < (e - s) / z → Nth z s e n)
    (λ a b l. record { within = omega arith; aligned = omega arith; after = omega arith; back_aligned = omega arith; before = omega arith })
    (λ a b l. record { within = omega arith; aligned = omega arith; after = omega arith; back_aligned = omega arith; before = omega arith })
    (λ a b l. record { within = omega arith; aligned = omega arith; after = omega arith; back_aligned = omega arith; before = omega arith }) z k

-- a number of whole blocks, counted by their bytes
pub whole_blocks : (size count : ℕ) → IsBlockSize size → count * size / size ≡ count
whole_blocks z n k = by_size (λ z. n * z / z ≡ n) (omega arith) (omega arith) (omega arith) z k

-- the place after a block is a multiple of the size too
pub next_aligned : (size place : ℕ) → IsBlockSize size → place % size ≡ 0 → (place + size) % size ≡ 0
next_aligned z p k = by_size (λ z. p % z ≡ 0 → (p + z) % z ≡ 0) (λ b. omega arith) (λ b. omega arith) (λ b. omega arith) z k

-- places that differ are a block apart
apart : (size low high : ℕ) → IsBlockSize size → low % size ≡ 0 → high % size ≡ 0 → low < high → low + size ≤ high
apart z s e k = by_size (λ z. s % z ≡ 0 → e % z ≡ 0 → s < e → s + z ≤ e) (λ a b l. omega arith) (λ a b l. omega arith) (λ a b l. omega arith) z k

positive : (size : ℕ) → IsBlockSize size → 0 < size
positive z k = by_size (λ z. 0 < z) (omega arith) (omega arith) (omega arith) z k

-- a block below the limit ends at the limit or below it
below_limit : (size limit place : ℕ) → IsBlockSize size → IsLimit limit → place % size ≡ 0 → place < limit → place + size ≤ limit
below_limit z m p k (inl h) = rw h (by_size (λ z. p % z ≡ 0 → p < 0x1_0000_0000_0000 → p + z ≤ 0x1_0000_0000_0000) (λ a l. omega arith) (λ a l. omega arith) (λ a l. omega arith) z k)
below_limit z m p k (inr (inl h)) = rw h (by_size (λ z. p % z ≡ 0 → p < 0x10_0000_0000_0000 → p + z ≤ 0x10_0000_0000_0000) (λ a l. omega arith) (λ a l. omega arith) (λ a l. omega arith) z k)
below_limit z m p k (inr (inr h)) = rw h (by_size (λ z. p % z ≡ 0 → p < 0x200_0000_0000_0000 → p + z ≤ 0x200_0000_0000_0000) (λ a l. omega arith) (λ a l. omega arith) (λ a l. omega arith) z k)

-- ---- lists between two places

-- the number of blocks between two places, from their list
counted : (size start end n : ℕ) → n < length (blocks size start end) → n < (end - start) / size
counted z s e n l = let c = length-blocks_from z s ((e - s) / z) in omega arith

counted_past : (size start end n : ℕ) → length (blocks size start end) ≤ n → (end - start) / size ≤ n
counted_past z s e n l = let c = length-blocks_from z s ((e - s) / z) in omega arith

pub nth_front : (size start end n : ℕ) → IsBlockSize size → start % size ≡ 0 → end % size ≡ 0 → n < length (blocks size start end) → Nth size start end n
nth_front z s e n k a b l = nth_between z s e n k a b (counted z s e n l)

-- the same for a call that has the places and the length as numbers
pub nth_known : (size start end n start' end' len : ℕ) → IsBlockSize size → start' ≡ start → start' % size ≡ 0 → end' ≡ end → end' % size ≡ 0
    → len ≡ length (blocks size start end) → n < len → Nth size start' end' n
nth_known z s e n s' e' len k s-is a e-is b len-is l = nth_front z s' e' n k a b (rw (s-is, e-is) (omega arith))

pub nth_known_inclusive : (size start end n start' end' len : ℕ) → IsBlockSize size → start' ≡ start → start' % size ≡ 0 → end' ≡ end → end' % size ≡ 0
    → len ≡ length (blocks_inclusive size start end) → n < len → Nth size start' (end' + size) n
nth_known_inclusive z s e n s' e' len k s-is a e-is b len-is l = nth_front z s' (e' + z) n k a (next_aligned z e' k b) (rw (s-is, e-is) (omega arith))

pub item : (size start end n p : ℕ) → n < length (blocks size start end) → p ≡ start + n * size → Some p ≡ slice_get (blocks size start end) n
item z s e n p l h = get-blocks z s ((e - s) / z) n p (counted z s e n l) h

pub item_back : (size start end n p : ℕ) → IsBlockSize size → start % size ≡ 0 → end % size ≡ 0 → n < length (blocks size start end) → p + n * size + size ≡ end
    → Some p ≡ slice_get (reverse (blocks size start end)) n
item_back z s e n p k a b l h =
    let within = nth_front z s e n k a b l in
    let whole = filled z s e k a b (let w = within.within in omega arith) in
    get_back-blocks z s ((e - s) / z) n p (counted z s e n l) (h ∙ sym whole)

pub item_past : (size start end n : ℕ) → length (blocks size start end) ≤ n → None ≡ slice_get (blocks size start end) n
item_past z s e n l = get_past-blocks z s ((e - s) / z) n (counted_past z s e n l)

pub item_back_past : (size start end n : ℕ) → length (blocks size start end) ≤ n → None ≡ slice_get (reverse (blocks size start end)) n
item_back_past z s e n l = get_back_past-blocks z s ((e - s) / z) n (counted_past z s e n l)

pub blocks-none : (size start end : ℕ) → IsBlockSize size → end ≤ start → blocks size start end ≡ []
blocks-none z s e k l = ap (blocks_from z s) (none_between z s e k l)

-- the bytes from one place to another are those of the blocks between them
pub bytes : (size start end : ℕ) → IsBlockSize size → start % size ≡ 0 → end % size ≡ 0 → end - start ≡ length (blocks size start end) * size
bytes z s e k a b =
    by_size (λ z. s % z ≡ 0 → e % z ≡ 0 → e - s ≡ (e - s) / z * z) (λ a b. omega arith) (λ a b. omega arith) (λ a b. omega arith) z k a b
    ∙ ap (λ n. n * z) (sym (length-blocks_from z s ((e - s) / z)))

pub bytes_inclusive : (size start end : ℕ) → IsBlockSize size → start % size ≡ 0 → end % size ≡ 0 → end + size - start ≡ length (blocks_inclusive size start end) * size
bytes_inclusive z s e k a b = bytes z s (e + z) k a (by_size (λ z. e % z ≡ 0 → (e + z) % z ≡ 0) (λ b. omega arith) (λ b. omega arith) (λ b. omega arith) z k b)

-- the last block of a list that excludes its end
count_last : (size start end : ℕ) → IsBlockSize size → start % size ≡ 0 → end % size ≡ 0 → start < end
    → ((end - start) / size ≡ suc ((end - size - start) / size)) × (start + (end - size - start) / size * size ≡ end - size) × (size ≤ end)
count_last z s e k = by_size (λ z. s % z ≡ 0 → e % z ≡ 0 → s < e → ((e - s) / z ≡ suc ((e - z - s) / z)) × (s + (e - z - s) / z * z ≡ e - z) × (z ≤ e))
    (λ a b l. (omega arith, omega arith, omega arith))
    (λ a b l. (omega arith, omega arith, omega arith))
    (λ a b l. (omega arith, omega arith, omega arith)) z k

pub blocks-last : (size start end : ℕ) → IsBlockSize size → start % size ≡ 0 → end % size ≡ 0 → start < end → blocks size start end ≡ blocks size start (end - size) ++ (end - size) ∷ []
blocks-last z s e k a b l =
    let c = count_last z s e k a b l in
    ap (blocks_from z s) c.0 ∙ (from-last z s ((e - z - s) / z) ∙ ap (λ p. blocks z s (e - z) ++ p ∷ []) c.1)

-- ---- ends of a range that excludes its end

least_some : (size start end n : ℕ) → n < length (blocks size start end) → min (n + 1) (length (blocks size start end)) ≡ n + 1
least_some z s e n l = min-eq_left (omega arith)

-- if there are at most n, all are taken: they lead from the start to the end, or there is none
least_all : (size start end n : ℕ) → IsBlockSize size → start % size ≡ 0 → end % size ≡ 0 → length (blocks size start end) ≤ n → start ≤ end
    → start + min (n + 1) (length (blocks size start end)) * size ≡ end
least_all z s e n k a b l o =
    let m : min (n + 1) (length (blocks z s e)) ≡ length (blocks z s e) = min-eq_right (omega arith) in
    rw (m, length-blocks_from z s ((e - s) / z)) (filled z s e k a b o)

least_none : (size start end n : ℕ) → IsBlockSize size → end ≤ start → min (n + 1) (length (blocks size start end)) * size ≡ 0
least_none z s e n k o =
    let nothing : 0 * z ≡ 0 = omega arith in
    ap (λ l. min (n + 1) (length l) * z) (blocks-none z s e k o) ∙ (ap (λ m. m * z) (min-zero (n + 1)) ∙ nothing)

pub front-all : (size start end n : ℕ) → IsBlockSize size → start % size ≡ 0 → end % size ≡ 0 → length (blocks size start end) ≤ n → start < end
    → ◌≡◌ {A = Ends} (record { start = end; end = end }) (front_taken size (n + 1) (record { start = start; end = end }))
front-all z s e n k a b l o = ap (λ p. record { start = p; end = e }) (sym (least_all z s e n k a b l (omega arith)))

pub front-none : (size start end n : ℕ) → IsBlockSize size → end ≤ start
    → ◌≡◌ {A = Ends} (record { start = start; end = end }) (front_taken size (n + 1) (record { start = start; end = end }))
front-none z s e n k o = ap (λ p. record { start = p; end = e }) (let m = least_none z s e n k o in omega arith)

pub back-some : (size start end n p : ℕ) → n < length (blocks size start end) → p ≡ end - n * size - size
    → ◌≡◌ {A = Ends} (record { start = start; end = p }) (back_taken size (n + 1) (record { start = start; end = end }))
back-some z s e n p l h = ap (λ p. record { start = s; end = p }) (rw (least_some z s e n l) (omega arith))

pub back-all : (size start end n : ℕ) → IsBlockSize size → start % size ≡ 0 → end % size ≡ 0 → length (blocks size start end) ≤ n → start < end
    → ◌≡◌ {A = Ends} (record { start = start; end = start }) (back_taken size (n + 1) (record { start = start; end = end }))
back-all z s e n k a b l o = ap (λ p. record { start = s; end = p }) (let m = least_all z s e n k a b l (omega arith) in omega arith)

pub back-none : (size start end n : ℕ) → IsBlockSize size → end ≤ start
    → ◌≡◌ {A = Ends} (record { start = start; end = end }) (back_taken size (n + 1) (record { start = start; end = end }))
back-none z s e n k o = ap (λ p. record { start = s; end = p }) (let m = least_none z s e n k o in omega arith)

pub one_lowered : (size start end : ℕ) → IsBlockSize size → start % size ≡ 0 → end % size ≡ 0 → start < end
    → ◌≡◌ {A = Ends} (record { start = start; end = end - size }) (back_taken size 1 (record { start = start; end = end }))
one_lowered z s e k a b l =
    let c = count_last z s e k a b l in
    let some : 0 < length (blocks z s e) = rw (length-blocks_from z s ((e - s) / z)) (omega arith) in
    back-some z s e 0 (e - z) some (omega arith)

-- ---- ends of a range that includes its end, after a block is left at the front or at the back

-- what `leave_at_front` leaves
abbrev pub FrontLeft : (size limit end block start' end' : ℕ) → Type 0
FrontLeft z m e b s' e' = (b + z < m → (s' ≡ b + z) × (e' ≡ e)) × (m ≤ b + z → (s' ≡ b) × (e' ≡ b - z))

front_left : (size limit start end n block start' end' : ℕ) → start + min n (length (blocks_inclusive size start end)) * size ≡ block + size → (limit ≤ block + size → block ≡ end)
    → FrontLeft size limit end block start' end'
    → ◌≡◌ {A = Ends} (record { start = start'; end = end' }) (front_taken_inclusive size limit n (record { start = start; end = end }))
front_left z m s e n b s' e' h last left = by (nat_lt (s + min n (length (blocks_inclusive z s e)) * z) m) refl
  where
    t : ℕ
    t = s + min n (length (blocks_inclusive z s e)) * z

    by : (is : Bool) → nat_lt t m ≡ is → ◌≡◌ {A = Ends} (record { start = s'; end = e' }) (cond is (record { start = t; end = e }) (record { start = e; end = e - z }))
    by true is = let at = left.0 (let l = ltb-true t m is in omega arith) in ap₂ (λ a b. record { start = a; end = b }) (at.0 ∙ sym h) at.1
    by false is =
        let past : m ≤ b + z = let l = ltb-false t m is in omega arith in
        let at = left.1 past in
        ap₂ (λ a b. record { start = a; end = b }) (at.0 ∙ last past) (at.1 ∙ ap (λ b. b - z) (last past))

pub front_inclusive-some : (size limit start end n block start' end' : ℕ) → IsBlockSize size → IsLimit limit → start % size ≡ 0 → end % size ≡ 0 → end < limit
    → n < length (blocks_inclusive size start end) → block ≡ start + n * size → FrontLeft size limit end block start' end'
    → ◌≡◌ {A = Ends} (record { start = start'; end = end' }) (front_taken_inclusive size limit (n + 1) (record { start = start; end = end }))
front_inclusive-some z m s e n b s' e' k j a c o l h left =
    let nth = nth_front z s (e + z) n k a (next_aligned z e k c) l in
    let ends = below_limit z m e k j c o in
    front_left z m s e (n + 1) b s' e' (rw (least_some z s (e + z) n l) (omega arith)) (λ past. let w = nth.within in omega arith) left

pub front_inclusive-all : (size limit start end n start' end' : ℕ) → IsBlockSize size → start % size ≡ 0 → end % size ≡ 0 → start ≤ end
    → length (blocks_inclusive size start end) ≤ n → FrontLeft size limit end end start' end'
    → ◌≡◌ {A = Ends} (record { start = start'; end = end' }) (front_taken_inclusive size limit (n + 1) (record { start = start; end = end }))
front_inclusive-all z m s e n s' e' k a c o l left =
    front_left z m s e (n + 1) e s' e' (least_all z s (e + z) n k a (next_aligned z e k c) l (omega arith)) (λ past. refl) left

pub front_inclusive-none : (size limit start end n : ℕ) → IsBlockSize size → start % size ≡ 0 → end % size ≡ 0 → start < limit → end < start
    → ◌≡◌ {A = Ends} (record { start = start; end = end }) (front_taken_inclusive size limit (n + 1) (record { start = start; end = end }))
front_inclusive-none z m s e n k a c o l =
    let none = least_none z s (e + z) n k (apart z e s k c a l) in
    let t : s + min (n + 1) (length (blocks_inclusive z s e)) * z ≡ s = omega arith in
    rw t (ap (λ b. cond b (record { start = s; end = e }) (record { start = e; end = e - z })) (sym (lt-ltb s m o)))

-- what `leave_at_back` leaves
abbrev pub BackLeft : (size start block start' end' : ℕ) → Type 0
BackLeft z s b s' e' = (z ≤ b → (s' ≡ s) × (e' + z ≡ b)) × (b < z → (s' ≡ z) × (e' ≡ 0) × (b ≡ 0))

back_left : (size start end n block start' end' : ℕ) → 0 < size → min n (length (blocks_inclusive size start end)) * size + block ≡ end + size → start ≤ block → block ≤ end
    → BackLeft size start block start' end'
    → ◌≡◌ {A = Ends} (record { start = start'; end = end' }) (back_taken_inclusive size n (record { start = start; end = end }))
back_left z s e n b s' e' k h within o left = by (nat_le t e) refl
  where
    t : ℕ
    t = min n (length (blocks_inclusive z s e)) * z

    by : (is : Bool) → nat_le t e ≡ is → ◌≡◌ {A = Ends} (record { start = s'; end = e' }) (cond is (record { start = s; end = e - t }) (record { start = s + z; end = s }))
    by true is = let at = left.0 (let l = leb-true t e is in omega arith) in ap₂ (λ a b. record { start = a; end = b }) at.0 (let q = at.1 in omega arith)
    by false is = let at = left.1 (let l = leb-false t e is in omega arith) in ap₂ (λ a b. record { start = a; end = b }) (let q = at in omega arith) (let q = at in omega arith)

pub back_inclusive-some : (size start end n block start' end' : ℕ) → IsBlockSize size → start % size ≡ 0 → end % size ≡ 0
    → n < length (blocks_inclusive size start end) → block ≡ end - n * size → BackLeft size start block start' end'
    → ◌≡◌ {A = Ends} (record { start = start'; end = end' }) (back_taken_inclusive size (n + 1) (record { start = start; end = end }))
back_inclusive-some z s e n b s' e' k a c l h left =
    let nth = nth_front z s (e + z) n k a (next_aligned z e k c) l in
    let w = nth.within in
    back_left z s e (n + 1) b s' e' (positive z k) (rw (least_some z s (e + z) n l) (omega arith)) (omega arith) (omega arith) left

pub back_inclusive-all : (size start end n start' end' : ℕ) → IsBlockSize size → start % size ≡ 0 → end % size ≡ 0 → start ≤ end
    → length (blocks_inclusive size start end) ≤ n → BackLeft size start start start' end'
    → ◌≡◌ {A = Ends} (record { start = start'; end = end' }) (back_taken_inclusive size (n + 1) (record { start = start; end = end }))
back_inclusive-all z s e n s' e' k a c o l left =
    let all = least_all z s (e + z) n k a (next_aligned z e k c) l (omega arith) in
    back_left z s e (n + 1) s s' e' (positive z k) (omega arith) (omega arith) o left

pub back_inclusive-none : (size start end n : ℕ) → IsBlockSize size → start % size ≡ 0 → end % size ≡ 0 → end < start
    → ◌≡◌ {A = Ends} (record { start = start; end = end }) (back_taken_inclusive size (n + 1) (record { start = start; end = end }))
back_inclusive-none z s e n k a c l =
    let none = least_none z s (e + z) n k (apart z e s k c a l) in
    let whole : e - 0 ≡ e = omega arith in
    rw (none, whole) (ap (λ b. cond b (record { start = s; end = e }) (record { start = s + z; end = s })) (sym (le-leb 0 e (omega arith))))

-- ---- one call

some_inclusive : (size start end : ℕ) → IsBlockSize size → start % size ≡ 0 → end % size ≡ 0 → start ≤ end → 0 < length (blocks_inclusive size start end)
some_inclusive z s e k a c o =
    let more = count_last z s (e + z) k a (next_aligned z e k c) (let p = positive z k in omega arith) in
    rw (length-blocks_from z s ((e + z - s) / z)) (omega arith)

last_inclusive : (size start end : ℕ) → IsBlockSize size → start % size ≡ 0 → end % size ≡ 0 → start ≤ end → blocks_inclusive size start end ≡ blocks size start end ++ end ∷ []
last_inclusive z s e k a c o =
    let whole : e + z - z ≡ e = omega arith in
    subst (λ p. blocks z s (e + z) ≡ blocks z s p ++ p ∷ []) whole
    (blocks-last z s (e + z) k a (next_aligned z e k c) (let p = positive z k in omega arith))

pub back_step : (size start end start' end' : ℕ) → IsBlockSize size → start % size ≡ 0 → end % size ≡ 0 → start ≤ end → BackLeft size start end start' end'
    → (blocks_inclusive size start end ≡ blocks_inclusive size start' end' ++ end ∷ [])
    × (◌≡◌ {A = Ends} (record { start = start'; end = end' }) (back_taken_inclusive size 1 (record { start = start; end = end })))
back_step z s e s' e' k a c o left =
    (last_inclusive z s e k a c o ∙ ap (λ l. l ++ e ∷ []) (rest (leb_tells z e)), back_inclusive-some z s e 0 e s' e' k a c (some_inclusive z s e k a c o) (omega arith) left)
  where
    rest : ((nat_le z e ≡ true) × (z ≤ e)) ⊎ ((nat_le z e ≡ false) × (e < z)) → blocks z s e ≡ blocks_inclusive z s' e'
    rest (inl y) = let at = left.0 y.1 in ap₂ (blocks z) (sym at.0) (sym at.1)
    rest (inr n) = let at = left.1 n.1 in blocks-none z s e k (omega arith) ∙ sym (blocks-none z s' (e' + z) k (omega arith))

pub front_step : (size limit start end start' end' : ℕ) → IsBlockSize size → IsLimit limit → start % size ≡ 0 → end % size ≡ 0 → end < limit → start ≤ end
    → FrontLeft size limit end start start' end'
    → (blocks_inclusive size start end ≡ start ∷ blocks_inclusive size start' end')
    × (◌≡◌ {A = Ends} (record { start = start'; end = end' }) (front_taken_inclusive size limit 1 (record { start = start; end = end })))
front_step z m s e s' e' k j a c o within left =
    (more ∙ ap (λ l. s ∷ l) (rest (leb_tells m (s + z))), front_inclusive-some z m s e 0 s s' e' k j a c o (some_inclusive z s e k a c within) (omega arith) left)
  where
    more : blocks_inclusive z s e ≡ s ∷ blocks_from z (s + z) ((e - s) / z)
    more =
        let count = count_last z s (e + z) k a (next_aligned z e k c) (let p = positive z k in omega arith) in
        let whole : e + z - z ≡ e = omega arith in
        ap (blocks_from z s) (count.0 ∙ ap (λ p. suc ((p - s) / z)) whole)

    rest : ((nat_le m (s + z) ≡ true) × (m ≤ s + z)) ⊎ ((nat_le m (s + z) ≡ false) × (s + z < m)) → blocks_from z (s + z) ((e - s) / z) ≡ blocks_inclusive z s' e'
    rest (inl y) =
        let at = left.1 y.1 in
        let below = below_limit z m e k j c o in
        let two = two_fit z m k j in
        let past : m ≤ s + z = y.1 in
        ap (blocks_from z (s + z)) (none_between z s e k (omega arith)) ∙ sym (blocks-none z s' (e' + z) k (rw (at.0, at.1) (omega arith)))
    rest (inr n) =
        let at = left.0 n.1 in
        let same : e - s ≡ e + z - (s + z) = omega arith in
        ap (λ d. blocks_from z (s + z) (d / z)) same ∙ ap₂ (blocks_inclusive z) (sym at.0) (sym at.1)

-- a call that takes the first of a list leaves fewer
pub goes_first : {S A B : Type 0} (rest : S → List B) (before after : S) (item : A) (first : B) → rest before ≡ first ∷ rest after → MakesProgress (λ _. ⊤) (item_count rest) before (Some item) after
goes_first rest s t x p e = record { on = λ _. (tt, tt, let h = ap length e in omega arith); keeps = tt; rests = λ _. tt }

-- a call that takes the last of a list leaves fewer
pub goes_last : {S A : Type 0} (rest : S → List ℕ) (before after : S) (item : A) (place : ℕ) → rest before ≡ rest after ++ place ∷ [] → MakesProgress (λ _. ⊤) (item_count rest) before (Some item) after
goes_last rest s t x p e = record { on = λ _. (tt, tt, let h = ap length e in omega (arith, length-append (rest t) (p ∷ []))); keeps = tt; rests = λ _. tt }
