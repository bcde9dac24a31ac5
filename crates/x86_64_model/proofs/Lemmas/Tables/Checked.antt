-- If all marks succeed, the list of the tables and the pool is sound.
use Rattle.std.proofs.Common.{◌≡◌, ◌⊎◌, ◌↔◌, inl, inr, ⊎_elim, ◌<◌, ℕ, ◌==◌, ◌||◌, Bool, true, false, cond, List, ◌++◌, get_or, replicate, Some, None, Option, IsSome, IsTrue, option_and_then, refl, sym, ap, ◌∙◌, subst, eqb-true, eq-eqb}
use Rattle.std.proofs.lemmas.List.{get_or-replicate}
use Rattle.std.proofs.lemmas.Bool.{or_left, or_right}
use Rattle.x86_64_model.specs.Memory.{Words}
use Rattle.x86_64_model.proofs.Lemmas.Hierarchies.Held.{is_some-set}
use Rattle.x86_64_model.proofs.Lemmas.Hierarchies.Trees.{some_is}
use Rattle.x86_64_model.proofs.Lemmas.Hierarchies.Unset.{is_some-unset}
use Rattle.x86_64_model.specs.private.Tables.{tables_from, without_word, SoundTables, NoneHuge}
use Rattle.x86_64_model.specs.private.Marks.{slot_in, IsSpots, mark_all}
use Rattle.x86_64_model.specs.Laws.Validity.{MarksTell}
use Rattle.x86_64_model.proofs.Lemmas.Tables.Marked.{IsFree, marked_means, can_be_marked, mark_all-append}

-- any memory
module _ (W : Words) (size : ℕ) (spot : ℕ → Option ℕ) (spots : IsSpots W size spot) (root : ℕ) (serves : ℕ → Bool) where
  abbrev slot : ℕ → Option ℕ
  slot = slot_in spot root serves

  -- a frame that has a slot
  record Slotted (f k : ℕ) : Type 0 where
    at : spot f ≡ Some k
    served : (f ≡ root) ⊎ (serves f ≡ true)

  slotted : (f k : ℕ) → slot f ≡ Some k → Slotted f k
  slotted f k = by (f == root) (serves f) refl refl
    where
      by : (a b : Bool) → (f == root) ≡ a → serves f ≡ b → cond (a || b) (spot f) None ≡ Some k → Slotted f k
      by true b ea eb h = record { at = h; served = inl (eqb-true f root ea) }
      by false true ea eb h = record { at = h; served = inr eb }
      by false false ea eb h = absurd (let t : None ≡ Some k = h in cc)

  slot_of : (f k : ℕ) → Slotted f k → slot f ≡ Some k
  slot_of f k s = ap (λ a. cond a (spot f) None) (⊎_elim (λ e. or_left (f == root) (serves f) (eq-eqb f root e)) (λ e. or_right (f == root) (serves f) e) s.served) ∙ s.at

  slots_apart : (f g k : ℕ) → slot f ≡ Some k → slot g ≡ Some k → f ≡ g
  slots_apart f g k a b = spots.apart f g k (slotted f k a).at (slotted g k b).at

  there : (f k : ℕ) → Slotted f k → IsSome (W f)
  there f k s = (spots.there f).1 (subst IsSome (sym s.at) refl)

  -- before any mark
  free_first : (marks : List Bool) → ((k : ℕ) → k < size → get_or marks k true ≡ false) → (f : ℕ) → IsSome (W f) → (f ≡ root) ⊎ (serves f ≡ true) → IsFree slot marks f
  free_first marks clear f h served =
      let at = some_is (spot f) ((spots.there f).0 h) in
      record { place = at.0; is = slot_of f at.0 (record { at = at.1; served = served }); free = clear at.0 (spots.within f at.0 at.1) }

  module _ (n : ℕ) (T : Words) (pool : List ℕ) (marks : List Bool) (clear : (k : ℕ) → k < size → get_or marks k true ≡ false)
      (into : (f : ℕ) → IsSome (W f) → IsSome (T f)) (from : (f : ℕ) → IsSome (T f) → IsSome (W f)) where
    pub marked_sound : NoneHuge n T root → IsSome (mark_all slot marks (tables_from n T root ++ pool)) → SoundTables n T root serves pool
    marked_sound low h =
        let m = marked_means slot marks (tables_from n T root ++ pool) h in
        record {
          none_huge = low;
          each_once = m.0;
          in_memory = λ f i. let r = m.1 f i in into f (there f r.place (slotted f r.place r.is));
          served = λ f i. let r = m.1 f i in (slotted f r.place r.is).served;
        }

    pub sound_marked : SoundTables n T root serves pool → IsSome (mark_all slot marks (tables_from n T root ++ pool))
    sound_marked sound = can_be_marked slot slots_apart marks (tables_from n T root ++ pool) sound.each_once
        (λ f i. free_first marks clear f (from f (sound.in_memory f i)) (sound.served f i))

    -- the marks of the tables first, then those of the pool
    in_parts : (o : Option (List Bool)) → o ≡ mark_all slot marks (tables_from n T root) → mark_all slot marks (tables_from n T root ++ pool) ≡ option_and_then (λ m. mark_all slot m pool) o
    in_parts o e = mark_all-append slot marks (tables_from n T root) pool ∙ ap (option_and_then (λ m. mark_all slot m pool)) (sym e)

    pub refused_tables : None ≡ mark_all slot marks (tables_from n T root) → SoundTables n T root serves pool → ⊥
    refused_tables e sound = let t : IsSome (option_and_then (λ (m : List Bool). mark_all slot m pool) None) = subst IsSome (in_parts None e) (sound_marked sound) in cc

    abbrev no_marks : Option (List Bool)
    no_marks = None

    pub accepted_pool : NoneHuge n T root → (m new : List Bool) → Some m ≡ mark_all slot marks (tables_from n T root)
        → (b : Bool) → cond b (Some new) None ≡ mark_all slot m pool → IsTrue b ↔ SoundTables n T root serves pool
    accepted_pool low m new e true h = (λ _. marked_sound low (subst IsSome (sym (in_parts (Some m) e ∙ sym h)) refl), λ _. refl)
    accepted_pool low m new e false h = (λ t. cc, λ sound. let t : IsSome no_marks = subst IsSome (in_parts (Some m) e ∙ sym h) (sound_marked sound) in cc)

pub still_there : (recursive : Option ℕ) (root : ℕ) (T : Words) (f : ℕ) → IsSome (T f) → IsSome (without_word recursive root T f)
still_there None root T f h = h
still_there (Some r) root T f h = is_some-set T root r 0 f h

pub was_there : (recursive : Option ℕ) (root : ℕ) (T : Words) (f : ℕ) → IsSome (without_word recursive root T f) → IsSome (T f)
was_there None root T f h = h
was_there (Some r) root T f h = is_some-unset T root r 0 f h

-- the marks at the start
pub all_clear : (marks : List Bool) (n : ℕ) → marks ≡ replicate n false → (k : ℕ) → k < n → get_or marks k true ≡ false
all_clear marks n e k h = ap (λ m. get_or m k true) e ∙ get_or-replicate n k false true h

pub marks_tell : MarksTell
marks_tell W T size spot spots same n root serves pool marks clear low = (
  marked_sound W size spot spots root serves n T pool marks clear (λ f. (same f).0) (λ f. (same f).1) low,
  sound_marked W size spot spots root serves n T pool marks clear (λ f. (same f).0) (λ f. (same f).1),
)
