-- Frames can be marked one after another if and only if each is visited once and its mark is clear.
use Rattle.std.proofs.Common.{◌≡◌, ◌≢◌, ◌<◌, ℕ, Bool, true, false, cond, List, [], ◌∷◌, ◌++◌, length, get_or, set, Some, None, Option, IsSome, option_and_then, refl, sym, ap, ◌∙◌, subst, inl, inr, ⊎_elim}
use Rattle.std.proofs.lemmas.Bool.{cases_lt}
use Rattle.std.proofs.lemmas.List.{get_or-set_same, get_or-set_other, get_or_past}
use Rattle.std.proofs.lemmas.Option.{same_Some}
use Rattle.x86_64_model.specs.Lists.{In, EachOnce}
use Rattle.x86_64_model.specs.private.Marks.{mark_one, mark_all}

pub mark_all-append : (slot : ℕ → Option ℕ) (m : List Bool) (xs ys : List ℕ) → mark_all slot m (xs ++ ys) ≡ option_and_then (λ m. mark_all slot m ys) (mark_all slot m xs)
unfolding mark_all
mark_all-append slot m [] ys = refl
mark_all-append slot m (x ∷ xs) ys = by (λ m. mark_all-append slot m xs ys) (mark_one slot m x)
  where
    by : ((m : List Bool) → mark_all slot m (xs ++ ys) ≡ option_and_then (λ m. mark_all slot m ys) (mark_all slot m xs)) → (o : Option (List Bool)) → option_and_then (λ m. mark_all slot m (xs ++ ys)) o ≡ option_and_then (λ m. mark_all slot m ys) (option_and_then (λ m. mark_all slot m xs) o)
    by more None = refl
    by more (Some m) = more m

-- the frame has a place that is not marked
pub record IsFree (slot : ℕ → Option ℕ) (m : List Bool) (f : ℕ) : Type 0 where
  pub place : ℕ
  pub is : slot f ≡ Some place
  pub free : get_or m place true ≡ false

module _ (slot : ℕ → Option ℕ) where
  free_within : (m : List Bool) (k : ℕ) → get_or m k true ≡ false → k < length m
  free_within m k h = ⊎_elim (λ l. l) (λ l. absurd (let t = get_or_past m k true l in cc (t, h))) (cases_lt k (length m))

  -- marking a frame turns the marks m into n
  record Marks (m : List Bool) (f : ℕ) (n : List Bool) : Type 0 where
    was_free : IsFree slot m f
    after : n ≡ set m was_free.place true

  marks : (m : List Bool) (f : ℕ) (n : List Bool) → mark_one slot m f ≡ Some n → Marks m f n
  unfolding mark_one
  marks m f n = by (slot f) refl
    where
      at : (k : ℕ) → slot f ≡ Some k → (b : Bool) → get_or m k true ≡ b → cond b None (Some (set m k true)) ≡ Some n → Marks m f n
      at k e true g h = absurd (let t : None ≡ Some n = h in cc)
      at k e false g h = record { was_free = record { place = k; is = e; free = g }; after = (let t : Some (set m k true) ≡ Some n = h in cc) }

      by : (o : Option ℕ) → slot f ≡ o → option_and_then (λ k. cond (get_or m k true) None (Some (set m k true))) o ≡ Some n → Marks m f n
      by None e h = absurd (let t : None ≡ Some n = h in cc)
      by (Some k) e h = at k e (get_or m k true) refl h

  marked : (m : List Bool) (f : ℕ) (free : IsFree slot m f) → mark_one slot m f ≡ Some (set m free.place true)
  unfolding mark_one
  marked m f free = ap (option_and_then (λ k. cond (get_or m k true) None (Some (set m k true)))) free.is ∙ ap (λ b. cond b None (Some (set m free.place true))) free.free

  -- what is free after a mark was free before, and isn't the marked frame
  free_before : (m : List Bool) (k : ℕ) (g : ℕ) → k < length m → (free : IsFree slot (set m k true) g) → (free.place ≢ k) × IsFree slot m g
  free_before m k g l free =
      let other : free.place ≢ k = λ e. (let t : true ≡ false = sym (get_or-set_same m k true true l) ∙ sym (ap (λ j. get_or (set m k true) j true) e) ∙ free.free in cc) in
      (other, record { place = free.place; is = free.is; free = sym (get_or-set_other m k free.place true true other) ∙ free.free })

  pub marked_means : (m : List Bool) (fs : List ℕ) → IsSome (mark_all slot m fs) → EachOnce fs × ((f : ℕ) → In fs f → IsFree slot m f)
  unfolding mark_all
  marked_means m [] h = (tt, λ f i. absurd i)
  marked_means m (f ∷ fs) h = by (λ n. marked_means n fs) (mark_one slot m f) refl h
    where
      by : ((n : List Bool) → IsSome (mark_all slot n fs) → EachOnce fs × ((f : ℕ) → In fs f → IsFree slot n f)) → (o : Option (List Bool)) → mark_one slot m f ≡ o → IsSome (option_and_then (λ m. mark_all slot m fs) o) → EachOnce (f ∷ fs) × ((g : ℕ) → In (f ∷ fs) g → IsFree slot m g)
      by on None e h = cc
      by on (Some n) e h =
          let k = marks m f n e in
          let l = free_within m k.was_free.place k.was_free.free in
          let rest = on n h in
          let before : (g : ℕ) → In fs g → (free : IsFree slot (set m k.was_free.place true) g) × Unit {0} = λ g i. (subst (λ n. IsFree slot n g) k.after (rest.1 g i), tt) in (
            (
              λ i. let r = before f i in (free_before m k.was_free.place f l r.0).0 (same_Some _ _ (sym r.0.is ∙ k.was_free.is)),
              rest.0,
            ),
            λ g. ⊎_elim (λ e. subst (IsFree slot m) e k.was_free) (λ i. (free_before m k.was_free.place g l (before g i).0).1),
          )

  pub can_be_marked : ((f g k : ℕ) → slot f ≡ Some k → slot g ≡ Some k → f ≡ g) → (m : List Bool) (fs : List ℕ) → EachOnce fs → ((f : ℕ) → In fs f → IsFree slot m f) → IsSome (mark_all slot m fs)
  unfolding mark_all
  can_be_marked apart m [] once free = refl
  can_be_marked apart m (f ∷ fs) once free =
      let here = free f (inl refl) in
      subst (λ o. IsSome (option_and_then (λ m. mark_all slot m fs) o)) (sym (marked m f here))
      (can_be_marked apart (set m here.place true) fs once.1
      (λ g i. let there = free g (inr i) in
      let other : there.place ≢ here.place = λ e. once.0 (subst (In fs) (apart g f here.place (there.is ∙ ap Some e) here.is) i) in
      record { place = there.place; is = there.is; free = get_or-set_other m here.place there.place true true other ∙ there.free }))
