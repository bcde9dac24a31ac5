-- Notes: the first addresses that lead to frames, after one more mapping.
use Rattle.std.proofs.Common.{◌≡◌, ◌∙◌, ◌+◌, ◌≤◌, ◌<◌, ◌&&◌, ◌++◌, ℕ, Bool, true, false, cond, nat_le, nat_lt, min, List, [], ◌∷◌, find, get_or, length, set, Option, None, Some, option_map, refl, sym, ap, subst, ◌⊎◌, ◌≢◌, inl, inr, arith}
use Rattle.std.proofs.Math.Nat.{sub-add-min_cancel}
use Rattle.std.proofs.lemmas.Bool.{cases_lt, leb-false, le-ltb, lt-leb, ltb-false}
use Rattle.std.proofs.lemmas.List.{ext_get_or, get_or-map, get_or-set_other, get_or-set_same, length-map, length-set}
use Rattle.std.proofs.lemmas.List.Folds.{find-append}
use Rattle.std.specs.List.Sorted.{IsNonDecreasingBy}
use Rattle.std.specs.Option.{option_or}
use Rattle.x86_64_mappings.specs.Wanted.{leads_to}
use Rattle.x86_64_model.specs.Mappings.{Mapping}
use Rattle.ptdump_check.specs.private.Reaching.{address_leading_to, first_address_of_each}

-- ---- to which frames a mapping leads

no : (b : Bool) → (b && false) ≡ false
no true = refl
no false = refl

leads_before : (a : ℕ) (m : Mapping) → a < m.frame → leads_to a m ≡ false
leads_before a m low = ap (λ b. b && nat_lt a (m.frame + m.size)) (lt-leb m.frame a low)

leads_after : (a : ℕ) (m : Mapping) → m.frame + m.size ≤ a → leads_to a m ≡ false
leads_after a m high = ap (λ b. nat_le m.frame a && b) (le-ltb a (m.frame + m.size) high) ∙ no (nat_le m.frame a)

past : (a : ℕ) (m : Mapping) → m.frame ≤ a → leads_to a m ≡ false → m.frame + m.size ≤ a
past a m low none = by (nat_le m.frame a) (nat_lt a (m.frame + m.size)) refl refl none
  where
    by : (b c : Bool) → nat_le m.frame a ≡ b → nat_lt a (m.frame + m.size) ≡ c → (b && c) ≡ false → m.frame + m.size ≤ a
    by true true p q h = absurd (let e : true ≡ false = h in cc)
    by true false p q h = ltb-false a (m.frame + m.size) q
    by false c p q h = absurd (omega (arith, leb-false m.frame a p, low))

-- ---- one more mapping

-- the first address, where there is one, or else that in a mapping
abbrev pub noted : (L a : ℕ) → Mapping → Option ℕ → Option ℕ
noted L a m o = option_or o (cond (leads_to a m) (Some (address_leading_to L a m)) None)

or_none : (o : Option ℕ) → option_or o None ≡ o
or_none None = refl
or_none (Some a) = refl

noted_not : (L a : ℕ) (m : Mapping) (o : Option ℕ) → leads_to a m ≡ false → noted L a m o ≡ o
noted_not L a m o none = ap (λ b. option_or o (cond b (Some (address_leading_to L a m)) None)) none ∙ or_none o

pub noted_here : (L a : ℕ) (m : Mapping) (o : Option ℕ) → leads_to a m ≡ true → option_or o (Some (address_leading_to L a m)) ≡ noted L a m o
noted_here L a m o leads = ap (λ b. option_or o (cond b (Some (address_leading_to L a m)) None)) (sym leads)

first_more : (L a : ℕ) (ms : List Mapping) (m : Mapping) → option_map (address_leading_to L a) (find (leads_to a) (ms ++ m ∷ [])) ≡ noted L a m (option_map (address_leading_to L a) (find (leads_to a) ms))
first_more L a ms m = ap (option_map (address_leading_to L a)) (find-append (leads_to a) ms (m ∷ [])) ∙ by (find (leads_to a) ms) (leads_to a m)
  where
    by : (o : Option Mapping) (b : Bool) → option_map (address_leading_to L a) (option_or o (cond b (Some m) None)) ≡ option_or (option_map (address_leading_to L a) o) (cond b (Some (address_leading_to L a m)) None)
    by (Some x) b = refl
    by None true = refl
    by None false = refl

first_at : (L : ℕ) (frames : List ℕ) (ms : List Mapping) (j : ℕ) → j < length frames
    → get_or (first_address_of_each L frames ms) j None ≡ option_map (address_leading_to L (get_or frames j 0)) (find (leads_to (get_or frames j 0)) ms)
first_at L frames ms j less = get_or-map (λ f. option_map (address_leading_to L f) (find (leads_to f) ms)) frames j 0 None less

pub so_many : (L : ℕ) (frames : List ℕ) (ms : List Mapping) → length (first_address_of_each L frames ms) ≡ length frames
so_many L frames ms = length-map frames (λ f. option_map (address_leading_to L f) (find (leads_to f) ms))

-- the notes are right if each is
all_noted : (L : ℕ) (frames : List ℕ) (ms : List Mapping) (m : Mapping) (old new : List (Option ℕ)) → old ≡ first_address_of_each L frames ms → length new ≡ length old
    → ((j : ℕ) → j < length frames → get_or new j None ≡ noted L (get_or frames j 0) m (get_or old j None)) → new ≡ first_address_of_each L frames (ms ++ m ∷ [])
all_noted L frames ms m old new before many each =
    let count : length new ≡ length frames = many ∙ ap length before ∙ so_many L frames ms in
    ext_get_or None new (first_address_of_each L frames (ms ++ m ∷ [])) (count ∙ sym (so_many L frames (ms ++ m ∷ [])))
    (λ j less.
    let within : j < length frames = omega (arith, less, count) in
    each j within
    ∙ ap (noted L (get_or frames j 0) m) (ap (λ os. get_or os j None) before ∙ first_at L frames ms j within)
    ∙ sym (first_more L (get_or frames j 0) ms m)
    ∙ sym (first_at L frames (ms ++ m ∷ []) j within))

-- ---- the loop

-- the smaller of two equal numbers is either
pub min_same : (a b : ℕ) → a ≡ b → min a b ≡ a
min_same a b same = let cancel = sub-add-min_cancel a b in omega (arith, cancel, same)

-- frames from a first one on were noted, up to one
pub record AreNoted (L : ℕ) (frames : List ℕ) (m : Mapping) (begin i : ℕ) (old now : List (Option ℕ)) : Type 0 where
  pub count : length now ≡ length old
  pub before : (j : ℕ) → j < begin → get_or now j None ≡ get_or old j None
  pub between : (j : ℕ) → begin ≤ j → j < i → get_or now j None ≡ noted L (get_or frames j 0) m (get_or old j None)
  pub after : (j : ℕ) → i ≤ j → get_or now j None ≡ get_or old j None

-- the next is noted
pub noted_more : (L : ℕ) (frames : List ℕ) (m : Mapping) (begin i : ℕ) (old now : List (Option ℕ)) (o : Option ℕ) → AreNoted L frames m begin i old now → begin ≤ i → i < length now
    → o ≡ noted L (get_or frames i 0) m (get_or old i None) → AreNoted L frames m begin (i + 1) old (set now i o)
noted_more L frames m begin i old now o so_far from within is = record {
  count = length-set now i o ∙ so_far.count;
  before = λ j low. other j (λ e. omega (arith, e, low, from)) ∙ so_far.before j low;
  between = λ j start to. by j start to (cases_lt j i);
  after = λ j to. other j (λ e. omega (arith, e, to)) ∙ so_far.after j (omega (arith, to));
}
  where
    other : (j : ℕ) → j ≢ i → get_or (set now i o) j None ≡ get_or now j None
    other j differs = get_or-set_other now i j o None differs

    by : (j : ℕ) → begin ≤ j → j < i + 1 → (j < i) ⊎ (i ≤ j) → get_or (set now i o) j None ≡ noted L (get_or frames j 0) m (get_or old j None)
    by j start to (inl done) = other j (λ e. omega (arith, e, done)) ∙ so_far.between j start done
    by j start to (inr last) =
        let same : i ≡ j = omega (arith, last, to) in
        subst (λ j. get_or (set now i o) j None ≡ noted L (get_or frames j 0) m (get_or old j None)) same (get_or-set_same now i o None within ∙ is)

-- where the frames from begin on begin
pub record BeginsAt (frames : List ℕ) (start begin : ℕ) : Type 0 where
  pub low : (j : ℕ) → j < begin → get_or frames j 0 < start
  pub high : (j : ℕ) → begin ≤ j → j < length frames → start ≤ get_or frames j 0

module _ (L : ℕ) (frames : List ℕ) (m : Mapping) (begin i : ℕ) (ms : List Mapping) (old now : List (Option ℕ)) (starts : BeginsAt frames m.frame begin)
    (is : old ≡ first_address_of_each L frames ms) (so_far : AreNoted L frames m begin i old now) where
  -- the frames from i on are not led to
  ended : ((j : ℕ) → i ≤ j → j < length frames → leads_to (get_or frames j 0) m ≡ false) → now ≡ first_address_of_each L frames (ms ++ m ∷ [])
  ended rest = all_noted L frames ms m old now is so_far.count (λ j less. by j less (cases_lt j begin) (cases_lt j i))
    where
      kept : (j : ℕ) → get_or now j None ≡ get_or old j None → leads_to (get_or frames j 0) m ≡ false → get_or now j None ≡ noted L (get_or frames j 0) m (get_or old j None)
      kept j same none = same ∙ sym (noted_not L (get_or frames j 0) m (get_or old j None) none)

      by : (j : ℕ) → j < length frames → (j < begin) ⊎ (begin ≤ j) → (j < i) ⊎ (i ≤ j) → get_or now j None ≡ noted L (get_or frames j 0) m (get_or old j None)
      by j less (inl low) t = kept j (so_far.before j low) (leads_before (get_or frames j 0) m (starts.low j low))
      by j less (inr high) (inl done) = so_far.between j high done
      by j less (inr high) (inr left) = kept j (so_far.after j left) (rest j left less)

  -- the frame at i is not led to, so none after it is
  pub ended_early : IsNonDecreasingBy (λ f. f) frames → begin ≤ i → i < length frames → leads_to (get_or frames i 0) m ≡ false → now ≡ first_address_of_each L frames (ms ++ m ∷ [])
  ended_early ascend from within none = ended (λ j left less.
      let next = past (get_or frames i 0) m (starts.high i from within) none in
      let more : get_or frames i 0 ≤ get_or frames j 0 = ascend i j 0 left less in
      leads_after (get_or frames j 0) m (omega (arith, next, more)))

  -- all frames were noted
  pub ended_last : length frames ≤ i → now ≡ first_address_of_each L frames (ms ++ m ∷ [])
  ended_last all = ended (λ j left less. absurd (omega (arith, all, left, less)))
