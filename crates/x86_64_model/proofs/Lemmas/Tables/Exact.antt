-- A hierarchy is valid and a pool fits it if and only if the list of its tables and of the pool is sound.
use Rattle.std.proofs.Common.{◌≡◌, ◌≢◌, ◌⊎◌, inl, inr, ⊎_elim, ℕ, suc, Bool, true, false, List, [], ◌∷◌, Some, None, Option, IsSome, refl, sym, ap, ◌∙◌, subst, arith}
use Rattle.x86_64_model.specs.Entry.{huge}
use Rattle.x86_64_model.specs.Memory.{Words, OnlyFrames}
use Rattle.x86_64_model.specs.PathMap.{PathMap, table_at}
use Rattle.x86_64_model.specs.Validity.{IsValid, paths_of}
use Rattle.x86_64_model.specs.Window.{Window, outside_window, SelfEntry}
use Rattle.x86_64_model.specs.Lists.{In, EachOnce}
use Rattle.x86_64_model.specs.Pool.{IsTable, Fits}
use Rattle.x86_64_model.proofs.Lemmas.Hierarchies.Held.{is_some-set}
use Rattle.x86_64_model.proofs.Lemmas.Hierarchies.Exists.{holds_paths_of, entry_paths_of}
use Rattle.x86_64_model.proofs.Lemmas.Hierarchies.Unset.{is_some-unset}
use Rattle.x86_64_model.specs.private.Tables.{tables_from, SoundTables}
use Rattle.x86_64_model.proofs.Lemmas.Lists.Members.{in_left, in_right, in_append}
use Rattle.x86_64_model.proofs.Lemmas.Lists.Once.{once_append, once_left, once_right, once_apart}
use Rattle.x86_64_model.proofs.Lemmas.Tables.Walked.{table_at_frame, in_tables, from_tables, once_tables, own_tables}

pub inside_window : (window : Option Window) (root : ℕ) (T : Words) (f : ℕ) → IsSome (outside_window window root T f) → IsSome (T f)
inside_window None root T f h = h
inside_window (Some w) root T f h = is_some-unset T root w.index 0 f h

pub still_there : (window : Option Window) (root : ℕ) (T : Words) (f : ℕ) → IsSome (T f) → IsSome (outside_window window root T f)
still_there None root T f h = h
still_there (Some w) root T f h = is_some-set T root w.index 0 f h

module _ (n : ℕ) (T : Words) (root : ℕ) where
  abbrev M : PathMap
  M = paths_of (suc n) T root

  -- the list has the table that a path leads to
  listed : (q : List ℕ) (f : ℕ) → table_at (suc n) root M q ≡ Some f → In (tables_from n T root) f
  listed q f e = in_tables n T root q f (sym (table_at_frame n T root q) ∙ e)

  root_listed : In (tables_from n T root) root
  root_listed = listed [] root refl

  own : EachOnce (tables_from n T root) → (p q : List ℕ) (f : ℕ) → table_at (suc n) root M p ≡ Some f → table_at (suc n) root M q ≡ Some f → p ≡ q
  own once p q f x y = own_tables n T root once p q f (sym (table_at_frame n T root p) ∙ x) (sym (table_at_frame n T root q) ∙ y)

  module _ (serves : ℕ → Bool) (pool : List ℕ) where
    module _ (zero_not : serves 0 ≡ false) (sound : SoundTables n T root serves pool) where
      once : EachOnce (tables_from n T root)
      once = once_left (tables_from n T root) pool sound.each_once

      not_root : (i : ℕ) (q : List ℕ) (f : ℕ) → table_at (suc n) root M (i ∷ q) ≡ Some f → f ≢ root
      not_root i q f e is = let t : [] ≡ i ∷ q = own once [] (i ∷ q) f (ap Some (sym is)) e in cc

      not_pool : (f : ℕ) → In (tables_from n T root) f → In pool f → ⊥
      not_pool = once_apart (tables_from n T root) pool sound.each_once

      pub served_table : (i : ℕ) (q : List ℕ) (f : ℕ) → table_at (suc n) root M (i ∷ q) ≡ Some f → serves f ≡ true
      served_table i q f e = ⊎_elim (λ is. absurd (not_root i q f e is)) (λ s. s) (sound.served f (in_left (tables_from n T root) pool f (listed (i ∷ q) f e)))

      pub sound_valid : IsValid (suc n) T root M
      sound_valid = record {
        holds = holds_paths_of (suc n) T root (omega arith) (λ q f e. sound.in_memory f (in_left (tables_from n T root) pool f (listed q f e)));
        own_frames = own once;
        not_zero = λ i p e. (let s = served_table i p 0 e in let t : true ≡ false = sym s ∙ zero_not in cc);
        none_huge = λ p l. ap huge (entry_paths_of (suc n) T root p) ∙ sound.none_huge.at p (omega (arith, l));
      }

      served_pool : (f : ℕ) → In pool f → serves f ≡ true
      served_pool f i = ⊎_elim (λ is. absurd (not_pool f (subst (In (tables_from n T root)) (sym is) root_listed) i)) (λ s. s) (sound.served f (in_right (tables_from n T root) pool f i))

    pub valid_sound : IsValid (suc n) T root M
        → ((i : ℕ) (q : List ℕ) (f : ℕ) → table_at (suc n) root M (i ∷ q) ≡ Some f → serves f ≡ true)
        → EachOnce pool → ((f : ℕ) → In pool f → IsSome (T f)) → ((f : ℕ) → In pool f → IsTable (suc n) root M f → ⊥) → ((f : ℕ) → In pool f → serves f ≡ true)
        → SoundTables n T root serves pool
    valid_sound valid tables once there no_table served = record {
      none_huge = record { at = λ p l. ap huge (sym (entry_paths_of (suc n) T root p)) ∙ valid.none_huge p (omega (arith, l)) };
      each_once = once_append (tables_from n T root) pool
          (once_tables n T root (λ p q f x y. valid.own_frames p q f (table_at_frame n T root p ∙ x) (table_at_frame n T root q ∙ y)))
          once
          (λ f i j. no_table f j (leads f i));
      in_memory = λ f i. ⊎_elim (λ i. let r = leads f i in valid.holds.in_memory r.0 f r.1) (there f) (in_append (tables_from n T root) pool f i);
      served = λ f i. ⊎_elim (λ i. let r = leads f i in by r.0 f r.1) (λ i. inr (served f i)) (in_append (tables_from n T root) pool f i);
    }
      where
        leads : (f : ℕ) → In (tables_from n T root) f → IsTable (suc n) root M f
        leads f i = let r = from_tables n T root f i in (r.0, table_at_frame n T root r.0 ∙ r.1)

        by : (q : List ℕ) (f : ℕ) → table_at (suc n) root M q ≡ Some f → (f ≡ root) ⊎ (serves f ≡ true)
        by [] f e = inl (let t : Some root ≡ Some f = e in cc)
        by (i ∷ q) f e = inr (tables i q f e)

-- with a window, if there is one
module _ (n : ℕ) (window : Option Window) (T : Words) (root : ℕ) (serves : ℕ → Bool) (pool : List ℕ) (frames : OnlyFrames T) where
  abbrev U : Words
  U = outside_window window root T

  pub sound_fits : serves 0 ≡ false → SelfEntry T root window → SoundTables n U root serves pool → Fits (suc n) window T root (paths_of (suc n) U root) serves pool
  sound_fits zero_not self sound = record {
    valid = record { valid = sound_valid n U root serves pool zero_not sound; self = self };
    each_once = once_right (tables_from n U root) pool sound.each_once;
    in_memory = λ f i. inside_window window root T f (sound.in_memory f (in_right (tables_from n U root) pool f i));
    are_frames = λ f i. frames f (inside_window window root T f (sound.in_memory f (in_right (tables_from n U root) pool f i)));
    not_zero = λ i. (let s = served_pool n U root serves pool zero_not sound 0 i in let t : true ≡ false = sym s ∙ zero_not in cc);
    no_table = λ f i t. not_pool n U root serves pool zero_not sound f (listed n U root t.0 f t.1) i;
    serves_pool = served_pool n U root serves pool zero_not sound;
    serves_tables = served_table n U root serves pool zero_not sound;
  }

  pub fits_sound : Fits (suc n) window T root (paths_of (suc n) U root) serves pool → SoundTables n U root serves pool
  fits_sound fits = valid_sound n U root serves pool fits.valid.valid fits.serves_tables fits.each_once (λ f i. still_there window root T f (fits.in_memory f i)) fits.no_table fits.serves_pool
