-- Marks of frames that may be met by a test of one hierarchy are those of all frames.
use Rattle.std.proofs.Common.{◌≡◌, ◌⊎◌, inl, inr, ⊎_elim, ◌<◌, ℕ, ◌==◌, ◌||◌, Bool, true, false, cond, List, [], ◌∷◌, ◌++◌, length, get_or, set, Some, None, Option, IsSome, option_and_then, refl, sym, ap, ap₂, ◌∙◌, subst, eqb-true, eq-eqb}
use Rattle.std.proofs.lemmas.Bool.{or_left, or_right}
use Rattle.std.specs.FinMap.{keys}
use Rattle.x86_64_model.specs.Lists.{In, EachOnce}
use Rattle.x86_64_model.specs.Memory.{Memory, Places, IsMapping, words_of}
use Rattle.x86_64_model.specs.private.Marks.{spot_of, slot_in, mark_one, mark_all}
use Rattle.x86_64_model.proofs.Lemmas.Hierarchies.Trees.{some_is}
use Rattle.x86_64_model.proofs.Lemmas.Tables.Keyed.{spots_of}
use Rattle.x86_64_model.proofs.Lemmas.Tables.Marked.{marked_means, can_be_marked, mark_all-append}

-- the same frames are marked where two tests have the same spots
same_marks : (s t : ℕ → Option ℕ) (fs : List ℕ) → ((f : ℕ) → In fs f → s f ≡ t f) → (m : List Bool) → mark_all s m fs ≡ mark_all t m fs
unfolding mark_all mark_one
same_marks s t [] same m = refl
same_marks s t (f ∷ fs) same m =
    let more : (m : List Bool) → mark_all s m fs ≡ mark_all t m fs = same_marks s t fs (λ f i. same f (inr i)) in
    ap₂ (λ (next : List Bool → Option (List Bool)) o. option_and_then next (option_and_then (λ k. cond (get_or m k true) None (Some (set m k true))) o)) (λ i m. more m i) (same f (inl refl))

-- marks of a list in two parts
pub first_part : (slot : ℕ → Option ℕ) (m : List Bool) (xs ys : List ℕ) → IsSome (mark_all slot m (xs ++ ys)) → IsSome (mark_all slot m xs)
first_part slot m xs ys h = by (mark_all slot m xs) (subst IsSome (mark_all-append slot m xs ys) h)
  where
    by : (o : Option (List Bool)) → IsSome (option_and_then (λ m. mark_all slot m ys) o) → IsSome o
    by None h = h
    by (Some n) h = refl

pub second_part : (slot : ℕ → Option ℕ) (m n : List Bool) (xs ys : List ℕ) → mark_all slot m xs ≡ Some n → mark_all slot m (xs ++ ys) ≡ mark_all slot n ys
second_part slot m n xs ys e = mark_all-append slot m xs ys ∙ ap (option_and_then (λ m. mark_all slot m ys)) e

-- ---- the frames that a test of one hierarchy may meet

module _ (spot : ℕ → Option ℕ) (root : ℕ) (serves : ℕ → Bool) where
  abbrev pub May : ℕ → Type 0
  May f = (f ≡ root) ⊎ (serves f ≡ true)

  may : (f k : ℕ) → slot_in spot root serves f ≡ Some k → May f
  may f k = by (f == root) (serves f) refl refl
    where
      by : (a b : Bool) → (f == root) ≡ a → serves f ≡ b → cond (a || b) (spot f) None ≡ Some k → May f
      by true b ea eb h = inl (eqb-true f root ea)
      by false true ea eb h = inr eb
      by false false ea eb h = absurd (let t : None ≡ Some k = h in cc)

  pub all_may : (m : List Bool) (fs : List ℕ) → IsSome (mark_all (slot_in spot root serves) m fs) → (f : ℕ) → In fs f → May f
  all_may m fs h f i = let free = (marked_means (slot_in spot root serves) m fs h).1 f i in may f free.place free.is

  its_spot : (f : ℕ) → May f → slot_in spot root serves f ≡ spot f
  its_spot f h = ap (λ b. cond b (spot f) None) (⊎_elim (λ e. or_left (f == root) (serves f) (eq-eqb f root e)) (λ e. or_right (f == root) (serves f) e) h)

  pub by_spots : (fs : List ℕ) → ((f : ℕ) → In fs f → May f) → (m : List Bool) → mark_all (slot_in spot root serves) m fs ≡ mark_all spot m fs
  by_spots fs h = same_marks (slot_in spot root serves) spot fs (λ f i. its_spot f (h f i))

  -- what could be marked by the test could be marked by the spots alone
  pub was_marked : (fs : List ℕ) (m n : List Bool) → mark_all (slot_in spot root serves) m fs ≡ Some n → mark_all spot m fs ≡ Some n
  was_marked fs m n e = sym (by_spots fs (all_may m fs (subst IsSome (sym e) refl)) m) ∙ e

-- ---- marks of frames that each have a table

module _ (memory : Memory) (places : Places) (mapping : IsMapping places) (marks : List Bool) (clear : (k : ℕ) → k < length (keys memory) → get_or marks k true ≡ false) where
  pub are_there : (fs : List ℕ) → IsSome (mark_all (spot_of memory places) marks fs) → EachOnce fs × ((f : ℕ) → In fs f → IsSome (words_of memory places f))
  are_there fs h =
      let means = marked_means (spot_of memory places) marks fs h in
      (means.0, λ f i. let free = means.1 f i in ((spots_of memory places mapping.distinct).there f).1 (subst IsSome (sym free.is) refl))

  pub can_mark : (fs : List ℕ) → EachOnce fs → ((f : ℕ) → In fs f → IsSome (words_of memory places f)) → IsSome (mark_all (spot_of memory places) marks fs)
  can_mark fs once there =
      let spots = spots_of memory places mapping.distinct in
      can_be_marked (spot_of memory places) spots.apart marks fs once
      (λ f i. let at = some_is (spot_of memory places f) ((spots.there f).0 (there f i)) in
      record { place = at.0; is = at.1; free = clear at.0 (spots.within f at.0 at.1) })
