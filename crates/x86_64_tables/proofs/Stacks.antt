-- Stacks of frames in an array: what a push and a pop change, and that a frame that comes back has room.
use Rattle.std.proofs.Common.{◌≡◌, inl, inr, ⊎_elim, ℕ, zero, suc, ◌+◌, ◌-◌, ◌<◌, ◌≤◌, ◌%◌, ◌^◌, ◌*◌, ◌==◌, ◌||◌, true, cond, List, [], ◌∷◌, ◌++◌, length, take, reverse, get_or, slice_set, refl, sym, ap, subst, ◌∙◌, arith, length-append}
use Rattle.std.specs.Borrow.{GName}
use Rattle.std.proofs.lemmas.Bool.{eq-eqb, ne_eqb}
use Rattle.std.proofs.lemmas.Bool.Decides.{eqb_tells}
use Rattle.std.proofs.lemmas.List.{take_more, take_more_set, reverse-append, length-reverse, length-take-le}
use Rattle.x86_64_model.specs.Entry.{is_frame}
use Rattle.x86_64_model.proofs.Lemmas.Entries.Words.{address_within}
use Rattle.x86_64_model.specs.Lists.{In, EachOnce}
use Rattle.x86_64_model.proofs.Lemmas.Lists.Members.{in_left, in_right, in_append}
use Rattle.x86_64_tables.specs.LentPool.{stacked, is_in, served_by}
use Rattle.x86_64_tables.specs.private.PoolLaws.{is_address}

-- ---- what is in a list

pub in_list : (frames : List ℕ) (f : ℕ) → is_in frames f ≡ true → In frames f
in_list [] f found = cc
in_list (g ∷ frames) f found = elim (eqb_tells g f) [
  | inl same ↦ inl same.1
  | inr other ↦ inr (in_list frames f (cc))
]

pub is_in_list : (frames : List ℕ) (f : ℕ) → In frames f → is_in frames f ≡ true
is_in_list [] f is = absurd is
is_in_list (g ∷ frames) f (inl same) = ap (λ b. b || is_in frames f) (eq-eqb g f same)
is_in_list (g ∷ frames) f (inr is) = elim (eqb_tells g f) [
  | inl same ↦ cc
  | inr other ↦ let rest = is_in_list frames f is in cc
]

-- ---- a push and a pop

pub stacked-pop : (entries : List ℕ) (n : ℕ) → n < length entries → stacked entries (n + 1) ≡ get_or entries n 0 ∷ stacked entries n
stacked-pop entries n below = ap reverse (take_more entries n 0 below) ∙ reverse-append (take n entries) (get_or entries n 0 ∷ [])

pub stacked-push : (entries : List ℕ) (n f : ℕ) → n < length entries → stacked (slice_set entries n f) (n + 1) ≡ f ∷ stacked entries n
stacked-push entries n f below = ap reverse (take_more_set entries n f below) ∙ reverse-append (take n entries) (f ∷ [])

pub length-stacked : (entries : List ℕ) (n : ℕ) → n ≤ length entries → length (stacked entries n) ≡ n
length-stacked entries n inside = length-reverse (take n entries) ∙ length-take-le n entries inside

-- ---- a lower stack of the same entries

lower_by : (entries : List ℕ) (n k : ℕ) → n + k ≤ length entries
    → (EachOnce (stacked entries (n + k)) → EachOnce (stacked entries n)) × ((f : ℕ) → In (stacked entries n) f → In (stacked entries (n + k)) f)
lower_by entries n zero inside =
    let same : n + zero ≡ n = omega arith in
    (subst (λ m. EachOnce (stacked entries m)) same, λ f. subst (λ m. In (stacked entries m) f) (sym same))
lower_by entries n (suc k) inside =
    let rest = lower_by entries n k (omega (arith, inside)) in
    let next : n + suc k ≡ (n + k) + 1 = omega arith in
    let higher = ap (stacked entries) next ∙ stacked-pop entries (n + k) (omega (arith, inside)) in
    (λ once. rest.0 (subst EachOnce higher once).1, λ f is. subst (λ fs. In fs f) (sym higher) (inr (rest.1 f is)))

pub lower_once : (entries : List ℕ) (n m : ℕ) → m ≤ length entries → EachOnce (stacked entries m) → n ≤ m → EachOnce (stacked entries n)
lower_once entries n m inside once lower =
    let whole : n + (m - n) ≡ m = omega (arith, lower) in
    (lower_by entries n (m - n) (omega (arith, whole, inside))).0 (subst (λ m. EachOnce (stacked entries m)) (sym whole) once)

pub lower_in : (entries : List ℕ) (n m f : ℕ) → m ≤ length entries → In (stacked entries n) f → n ≤ m → In (stacked entries m) f
lower_in entries n m f inside is lower =
    let whole : n + (m - n) ≡ m = omega (arith, lower) in
    subst (λ m. In (stacked entries m) f) whole ((lower_by entries n (m - n) (omega (arith, whole, inside))).1 f is)

-- ---- room

-- a list round one of its elements
around : (frames : List ℕ) (f : ℕ) → In frames f → (front : List ℕ) × (back : List ℕ) × (frames ≡ front ++ f ∷ back)
around [] f is = absurd is
around (g ∷ frames) f (inl same) = ([], frames, ap (λ x. x ∷ frames) same)
around (g ∷ frames) f (inr is) = let rest = around frames f is in (g ∷ rest.0, rest.1, ap (λ fs. g ∷ fs) rest.2)

-- frames that are each there once, and all among others, are at most as many
pub at_most : (frames own : List ℕ) → EachOnce frames → ((f : ℕ) → In frames f → In own f) → length frames ≤ length own
at_most [] own once among = omega arith
at_most (f ∷ frames) own once among =
    let parts = around own f (among f (inl refl)) in
    let front = parts.0 in let back = parts.1 in
    let fewer = at_most frames (front ++ back) once.1 (λ g is.
    ⊎_elim (in_left front back g) (λ there. ⊎_elim (λ same. absurd (once.0 (subst (In frames) (sym same) is))) (in_right front back g) there)
    (in_append front (f ∷ back) g (subst (λ fs. In fs g) parts.2 (among g (inr is))))) in
    let one = length-append front back in let more = length-append front (f ∷ back) in let all = ap length parts.2 in
    omega (arith, fewer, one, more, all)

-- a stack of frames of a list that has as many entries as the list has frames has room for one more of them
pub has_room : (own entries : List ℕ) (n f : ℕ) → n ≤ length entries → length own ≤ length entries → EachOnce (stacked entries n)
    → ((g : ℕ) → In (stacked entries n) g → is_in own g ≡ true) → is_in own f ≡ true → (In (stacked entries n) f → ⊥) → n < length entries
has_room own entries n f inside few once served fits out =
    let most = at_most (f ∷ stacked entries n) own (out, once)
    (λ g. ⊎_elim (λ same. subst (In own) same (in_list own f fits)) (λ is. in_list own g (served g is))) in
    let size = length-stacked entries n inside in
    omega (arith, most, size)

-- ---- the top of a stack

-- the top entry is among the frames
pub top_in : (entries : List ℕ) (n : ℕ) → n < length entries → In (stacked entries (n + 1)) (get_or entries n 0)
top_in entries n below = subst (λ fs. In fs (get_or entries n 0)) (sym (stacked-pop entries n below)) (inl refl)

-- the address of a frame is below 2^52
pub frame_below : (f : ℕ) → is_frame f ≡ true → f < 2 ^ 52
frame_below f is = subst (λ a. a < 2 ^ 52) (is_address f is) (address_within f)

-- ---- what a pool serves

-- what is served stays, so the loans stay
pub same_array : (own own' : List ℕ) (array count array' count' : GName) → served_by own' array' count' ≡ served_by own array count → array' ≡ array
same_array own own' array count array' count' same =
    let f : ℕ = 4096 * array + 1 in
    let other = ne_eqb (f % 4096) 0 (omega arith) in
    let known : served_by own array count f ≡ true =
    ap (λ b. cond b (is_in own f) (f == 4096 * array + 1 || f == 4096 * count + 2)) other ∙ ap (λ b. b || f == 4096 * count + 2) (eq-eqb f f refl) in
    let again : (f == 4096 * array' + 1 || f == 4096 * count' + 2) ≡ true =
    sym (ap (λ b. cond b (is_in own' f) (f == 4096 * array' + 1 || f == 4096 * count' + 2)) other) ∙ ap (λ s. s f) same ∙ known in
    elim (eqb_tells f (4096 * array' + 1)) [
      | inl is ↦ let e = is.1 in omega (arith, e)
      | inr apart ↦ elim (eqb_tells f (4096 * count' + 2)) [ inl is ↦ let e = is.1 in omega (arith, e) | inr other' ↦ cc ]
    ]

pub same_count : (own own' : List ℕ) (array count array' count' : GName) → served_by own' array' count' ≡ served_by own array count → count' ≡ count
same_count own own' array count array' count' same =
    let f : ℕ = 4096 * count + 2 in
    let other = ne_eqb (f % 4096) 0 (omega arith) in
    let first = ne_eqb f (4096 * array + 1) (omega arith) in
    let known : served_by own array count f ≡ true =
    ap (λ b. cond b (is_in own f) (f == 4096 * array + 1 || f == 4096 * count + 2)) other ∙ ap (λ b. f == 4096 * array + 1 || b) (eq-eqb f f refl) ∙ ap (λ b. b || true) first in
    let again : (f == 4096 * array' + 1 || f == 4096 * count' + 2) ≡ true =
    sym (ap (λ b. cond b (is_in own' f) (f == 4096 * array' + 1 || f == 4096 * count' + 2)) other) ∙ ap (λ s. s f) same ∙ known in
    elim (eqb_tells f (4096 * count' + 2)) [
      | inl is ↦ let e = is.1 in omega (arith, e)
      | inr apart ↦ elim (eqb_tells f (4096 * array' + 1)) [ inl is ↦ let e = is.1 in omega (arith, e) | inr other' ↦ cc ]
    ]
