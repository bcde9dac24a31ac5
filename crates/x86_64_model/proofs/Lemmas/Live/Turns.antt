-- Turns of several processors, each at words of its own.
use Rattle.std.proofs.Common.{◌≡◌, ◌≢◌, ◌⊎◌, inl, inr, ⊎_elim, ◌<◌, ℕ, ◌==◌, Bool, true, false, cond, List, [], ◌∷◌, length, length-set, get_or, set, nat_lt, option_map, Some, None, Option, IsSome, refl, sym, ap, ap₂, ◌∙◌, subst, eqb-true, eq-eqb, ◌≤◌}
use Rattle.std.specs.List.{AllByRecursion}
use Rattle.std.proofs.lemmas.Bool.{cases_Bool, cases_eq, cases_lt, eqb-false}
use Rattle.std.proofs.lemmas.List.{get_or_past, get_or-set_same}
use Rattle.std.proofs.lemmas.Option.{none-some, same_Some}
use Rattle.x86_64_model.specs.Laws.Locality.{TurnsAreAlone, CallsInTurn}
use Rattle.x86_64_model.specs.Hierarchy.{◌laid_in◌, paths, words}
use Rattle.x86_64_model.specs.Memory.{Words, word, word_in, set_word}
use Rattle.x86_64_model.specs.Turns.{Touch, Reads, Writes, Exchanges, touched_frame, index_of, Sees, after_touch, Turn, AllSee, after_turns, turns_of, IsRead, KeepsApart}
use Rattle.x86_64_model.proofs.Lemmas.Hierarchies.Held.{word-set_frame, word-set_index, is_some-set}
use Rattle.x86_64_model.proofs.Lemmas.Live.Owned.{hierarchies_are_local}
use Rattle.x86_64_model.proofs.Lemmas.Machines.Fitting.{own_there}

-- ---- words, and the sizes of tables

abbrev size : Option (List ℕ) → Option ℕ
size o = option_map (λ ws. length ws) o

-- a word that is written is the same where the tables have the same size
same_set : (T U : Words) (f i w : ℕ) → size (U f) ≡ size (T f)
    → word (set_word U f i w) f i ≡ word (set_word T f i w) f i
unfolding set_word word
same_set T U f i w same = by (T f) (U f) (f == f) (nat_lt i 512) same (eq-eqb f f refl)
  where
    now : List ℕ → ℕ
    now ws = get_or (set ws i w) i 0

    at : (xs ys : List ℕ) → length ys ≡ length xs → now ys ≡ now xs
    at xs ys same = ⊎_elim
        (λ l. get_or-set_same ys i w 0 (subst (λ n. i < n) (sym same) l) ∙ sym (get_or-set_same xs i w 0 l))
        (λ l. get_or_past (set ys i w) i 0 (subst (λ n. n ≤ i) (sym (length-set ys i w ∙ same)) l)
        ∙ sym (get_or_past (set xs i w) i 0 (subst (λ n. n ≤ i) (sym (length-set xs i w)) l)))
        (cases_lt i (length xs))

    by : (o p : Option (List ℕ)) (b c : Bool) → size p ≡ size o → b ≡ true
        → cond c (word_in (cond b (option_map (λ ws. set ws i w) p) p) i) 0
        ≡ cond c (word_in (cond b (option_map (λ ws. set ws i w) o) o) i) 0
    by None None true c s e = refl
    by None (Some ys) b c s e = absurd (none-some (length ys) (sym s))
    by (Some xs) None b c s e = absurd (none-some (length xs) s)
    by (Some xs) (Some ys) true true s e = at xs ys (same_Some (length ys) (length xs) s)
    by (Some xs) (Some ys) true false s e = refl
    by o p false c s e = absurd (let t : false ≡ true = e in cc)

same_size : (T : Words) (f i w g : ℕ) → size (set_word T f i w g) ≡ size (T g)
unfolding set_word
same_size T f i w g = by (g == f) (T g)
  where
    by : (b : Bool) (o : Option (List ℕ)) → size (cond b (option_map (λ ws. set ws i w) o) o) ≡ size o
    by true None = refl
    by true (Some ws) = ap Some (length-set ws i w)
    by false o = refl

touch_size : (T : Words) (t : Touch) (g : ℕ) → size (after_touch T t g) ≡ size (T g)
touch_size T (Reads f i seen) g = refl
touch_size T (Writes f i w) g = same_size T f i w g
touch_size T (Exchanges f i seen w) g = same_size T f i w g

touch_there : (T : Words) (t : Touch) (g : ℕ) → IsSome (T g) → IsSome (after_touch T t g)
touch_there T (Reads f i seen) g h = h
touch_there T (Writes f i w) g h = is_some-set T f i w g h
touch_there T (Exchanges f i seen w) g h = is_some-set T f i w g h

-- ---- one touch

pub set_other : (T : Words) (f i w g j : ℕ) → (g ≢ f) ⊎ (j ≢ i) → word (set_word T f i w) g j ≡ word T g j
set_other T f i w g j (inl n) = word-set_frame T f i w g j n
set_other T f i w g j (inr n) = word-set_index T f i w g j n

pub same_spot : (g j f i : ℕ) → ((g ≡ f) × (j ≡ i)) ⊎ ((g ≢ f) ⊎ (j ≢ i))
same_spot g j f i = ⊎_elim (λ a. ⊎_elim (λ b. inl (a, b)) (λ n. inr (inr n)) (cases_eq j i))
    (λ n. inr (inl n)) (cases_eq g f)

-- what is the same and as long stays the same
set_alike : (T U : Words) (f i w g j : ℕ) → size (U f) ≡ size (T f) → word U g j ≡ word T g j
    → word (set_word U f i w) g j ≡ word (set_word T f i w) g j
set_alike T U f i w g j long same = ⊎_elim
    (λ at. ap₂ (word (set_word U f i w)) at.0 at.1 ∙ same_set T U f i w long
    ∙ sym (ap₂ (word (set_word T f i w)) at.0 at.1))
    (λ n. set_other U f i w g j n ∙ same ∙ sym (set_other T f i w g j n))
    (same_spot g j f i)

touch_alike : (T U : Words) (t : Touch) (g j : ℕ) → size (U (touched_frame t)) ≡ size (T (touched_frame t))
    → word U g j ≡ word T g j → word (after_touch U t) g j ≡ word (after_touch T t) g j
touch_alike T U (Reads f i seen) g j long same = same
touch_alike T U (Writes f i w) g j long same = set_alike T U f i w g j long same
touch_alike T U (Exchanges f i seen w) g j long same = set_alike T U f i w g j long same

same_sight : (T U : Words) (t : Touch) → word U (touched_frame t) (index_of t) ≡ word T (touched_frame t) (index_of t)
    → Sees T t → Sees U t
same_sight T U (Reads f i seen) same sees = same ∙ sees
same_sight T U (Writes f i w) same sees = tt
same_sight T U (Exchanges f i seen w) same sees = same ∙ sees

-- a touch leaves other words, and a read leaves all
touch_other : (T : Words) (t : Touch) (g j : ℕ) → (g ≢ touched_frame t) ⊎ (j ≢ index_of t)
    → word (after_touch T t) g j ≡ word T g j
touch_other T (Reads f i seen) g j apart = refl
touch_other T (Writes f i w) g j apart = set_other T f i w g j apart
touch_other T (Exchanges f i seen w) g j apart = set_other T f i w g j apart

read_leaves : (T : Words) (t : Touch) (g j : ℕ) → IsRead t → word (after_touch T t) g j ≡ word T g j
read_leaves T (Reads f i seen) g j only = refl
read_leaves T (Writes f i w) g j only = absurd only
read_leaves T (Exchanges f i seen w) g j only = absurd only

-- ---- all turns

module _ (owner : (frame i : ℕ) → Option ℕ) where
  -- words that are not the processor's own stay
  not_touched : (T : Words) (t : Turn) → KeepsApart owner t → (g j : ℕ) → owner g j ≢ Some t.processor
      → word (after_touch T t.touch) g j ≡ word T g j
  not_touched T t (inl o) g j not = ⊎_elim (λ at. absurd (not (ap₂ owner at.0 at.1 ∙ o)))
      (λ n. touch_other T t.touch g j n) (same_spot g j (touched_frame t.touch) (index_of t.touch))
  not_touched T t (inr r) g j not = read_leaves T t.touch g j r.0

  not_whose : (f i k : ℕ) → owner f i ≡ None → owner f i ≢ Some k
  not_whose f i k none some = none-some k (sym none ∙ some)

  nobodys_stay : (T : Words) (turns : List Turn) → AllByRecursion (KeepsApart owner) turns → (f i : ℕ)
      → owner f i ≡ None → word (after_turns T turns) f i ≡ word T f i
  nobodys_stay T [] apart f i none = refl
  nobodys_stay T (t ∷ ts) apart f i none = nobodys_stay (after_touch T t.touch) ts apart.1 f i none
      ∙ not_touched T t apart.0 f i (not_whose f i t.processor none)

  pub all_there : (T : Words) (turns : List Turn) (f : ℕ) → IsSome (T f) → IsSome (after_turns T turns f)
  all_there T [] f h = h
  all_there T (t ∷ ts) f h = all_there (after_touch T t.touch) ts f (touch_there T t.touch f h)

  module _ (k : ℕ) where
    abbrev pub Its : ℕ → ℕ → Type 0
    Its f i = (owner f i ≡ Some k) ⊎ (owner f i ≡ None)

    -- what the processor may read: T with the others' turns, U without them
    record Alike (T U : Words) : Type 0 where
      its : (f i : ℕ) → Its f i → word U f i ≡ word T f i
      long : (f : ℕ) → size (U f) ≡ size (T f)

    abbrev Alone : Words → Words → List Turn → Type 0
    Alone T U turns = AllSee U (turns_of k turns)
        × ((f i : ℕ) → owner f i ≡ Some k → word (after_turns T turns) f i
        ≡ word (after_turns U (turns_of k turns)) f i)

    seen_word : (t : Turn) → t.processor ≡ k → KeepsApart owner t → Its (touched_frame t.touch) (index_of t.touch)
    seen_word t is (inl o) = inl (o ∙ ap Some is)
    seen_word t is (inr r) = inr r.1

    own_turn : (T U : Words) (t : Turn) → Alike T U → Alike (after_touch T t.touch) (after_touch U t.touch)
    own_turn T U t alike = record {
      its = λ f i o. touch_alike T U t.touch f i (alike.long (touched_frame t.touch)) (alike.its f i o);
      long = λ f. touch_size U t.touch f ∙ alike.long f ∙ sym (touch_size T t.touch f);
    }

    others_turn : (T U : Words) (t : Turn) → t.processor ≢ k → KeepsApart owner t → Alike T U
        → Alike (after_touch T t.touch) U
    others_turn T U t not apart alike = record {
      its = λ f i o. alike.its f i o ∙ sym (not_touched T t apart f i (by f i o));
      long = λ f. alike.long f ∙ sym (touch_size T t.touch f);
    }
      where
        by : (f i : ℕ) → Its f i → owner f i ≢ Some t.processor
        by f i (inl o) = λ other. not (sym (same_Some k t.processor (sym o ∙ other)))
        by f i (inr none) = not_whose f i t.processor none

    alone : (T U : Words) (turns : List Turn) → AllByRecursion (KeepsApart owner) turns → AllSee T turns
        → Alike T U → Alone T U turns
    alone T U [] apart see alike = (tt, λ f i o. sym (alike.its f i (inl o)))
    alone T U (t ∷ ts) apart see alike = ⊎_elim
        (λ is. let rest = alone (after_touch T t.touch) (after_touch U t.touch) ts apart.1 see.1
        (own_turn T U t alike) in
        subst (λ b. AllSee U (cond b (t ∷ turns_of k ts) (turns_of k ts))
        × ((f i : ℕ) → owner f i ≡ Some k → word (after_turns (after_touch T t.touch) ts) f i
        ≡ word (after_turns U (cond b (t ∷ turns_of k ts) (turns_of k ts))) f i))
        (sym is) (
          (
            same_sight T U t.touch (alike.its (touched_frame t.touch) (index_of t.touch)
                (seen_word t (eqb-true t.processor k is) apart.0)) see.0,
            rest.0,
          ),
          rest.1,
        ))
        (λ not. let rest = alone (after_touch T t.touch) U ts apart.1 see.1
        (others_turn T U t (eqb-false t.processor k not) apart.0 alike) in
        subst (λ b. AllSee U (cond b (t ∷ turns_of k ts) (turns_of k ts))
        × ((f i : ℕ) → owner f i ≡ Some k → word (after_turns (after_touch T t.touch) ts) f i
        ≡ word (after_turns U (cond b (t ∷ turns_of k ts) (turns_of k ts))) f i))
        (sym not) rest)
        (cases_Bool (t.processor == k))

    -- the processor's turns alone keep apart, too
    its_apart : (turns : List Turn) → AllByRecursion (KeepsApart owner) turns
        → AllByRecursion (KeepsApart owner) (turns_of k turns)
    its_apart [] apart = tt
    its_apart (t ∷ ts) apart = let rest = its_apart ts apart.1 in
        elim (t.processor == k) as (λ b. AllByRecursion (KeepsApart owner)
        (cond b (t ∷ turns_of k ts) (turns_of k ts))) [ true ↦ (apart.0, rest) | false ↦ rest ]

    pub alone_from : (T : Words) (turns : List Turn) → AllByRecursion (KeepsApart owner) turns
        → AllSee T turns → Alone T T turns
    alone_from T turns apart see = alone T T turns apart see
        (record { its = λ f i o. refl; long = λ f. refl })

    -- its words and nobody's end alike
    pub same_end : (T : Words) (turns : List Turn) → AllByRecursion (KeepsApart owner) turns
        → AllSee T turns → (f i : ℕ) → Its f i
        → word (after_turns T turns) f i ≡ word (after_turns T (turns_of k turns)) f i
    same_end T turns apart see f i (inl o) = (alone_from T turns apart see).1 f i o
    same_end T turns apart see f i (inr none) = nobodys_stay T turns apart f i none
        ∙ sym (nobodys_stay T (turns_of k turns) (its_apart turns apart) f i none)

pub turns_are_alone : TurnsAreAlone
turns_are_alone owner T turns apart see =
    (λ k. alone_from owner k T turns apart see, nobodys_stay owner T turns apart, all_there owner T turns)

pub calls_in_turn : CallsInTurn
calls_in_turn l some owner m n turns apart see ends k serves pool rest fits own alone_memory alone_ends keeps =
    let T = words (l laid_in m) in (
      (alone_from owner k T turns apart see).0,
      hierarchies_are_local l some serves alone_memory n rest keeps.fits
          (λ f owned. let was = (keeps.conserved f).1 owned in record {
            there = λ h. subst (λ (U : Words). IsSome (U f)) (sym ends)
                (all_there owner T turns f (own_there l.levels l.window T l.root serves
                (record { paths = paths (l laid_in m); pool = pool }) fits f was));
            words = λ i. ap (λ (U : Words). word U f i) ends
                ∙ same_end owner k T turns apart see f i (own f was i)
                ∙ sym (ap (λ (U : Words). word U f i) alone_ends);
          }),
    )
