-- A call on one of two hierarchies in one memory and a call on the other, in either order.
use Rattle.std.proofs.Common.{◌≡◌, ◌⊎◌, inl, inr, ⊎_elim, ◌<◌, ℕ, zero, suc, Bool, true, false, cond, List, None, Option, IsSome, refl, sym, ◌∙◌, subst, arith}
use Rattle.std.specs.FinMap.{get}
use Rattle.x86_64_model.specs.Call.{Call, Reply}
use Rattle.x86_64_model.specs.Validity.{paths_of}
use Rattle.x86_64_model.specs.Laws.Locality.{SameTable, SameOwned, IsTheSame, Leads, LeavesShared, AreTwo, SameEnds, CallsCommute}
use Rattle.x86_64_model.specs.Layout.{Layout}
use Rattle.x86_64_model.specs.Hierarchy.{◌laid_in◌, state_in, Owns, PoolFits, words}
use Rattle.x86_64_model.specs.Memory.{Memory, Words, Places, IsMapping, words_of}
use Rattle.x86_64_model.specs.Pool.{IsOwn}
use Rattle.x86_64_model.specs.Store.{KeepsPool}
use Rattle.x86_64_model.specs.Window.{Window, outside_window}
use Rattle.x86_64_model.specs.private.Tables.{tables_from}
use Rattle.x86_64_model.proofs.Lemmas.Hierarchies.Memories.{covered}
use Rattle.x86_64_model.proofs.Lemmas.Live.Calls.{in_or_not, calls_are_local}
use Rattle.x86_64_model.proofs.Lemmas.Live.Owned.{equal_tables, hierarchies_are_local}
use Rattle.x86_64_model.proofs.Lemmas.Machines.Fitting.{own_there}
use Rattle.x86_64_model.proofs.Lemmas.Tables.Walked.{table_at_frame, in_tables, from_tables}

-- a frame is owned or not
own_or_not : (L : ℕ) → 0 < L → (window : Option Window) (T : Words) (root : ℕ) (pool : List ℕ) (f : ℕ)
    → IsOwn L root (paths_of L (outside_window window root T) root) pool f
    ⊎ (IsOwn L root (paths_of L (outside_window window root T) root) pool f → ⊥)
own_or_not zero some window T root pool f = absurd (omega arith)
own_or_not (suc n) some window T root pool f =
    let U = outside_window window root T in
    ⊎_elim (λ i. inl (inl i)) (λ k.
    ⊎_elim
    (λ i. let r = from_tables n U root f i in inl (inr (r.0, table_at_frame n U root r.0 ∙ r.1)))
    (λ j. inr (⊎_elim k (λ t. j (in_tables n U root t.0 f (sym (table_at_frame n U root t.0) ∙ t.1)))))
    (in_or_not (tables_from n U root) f))
    (in_or_not pool f)

pub owns_or_not : (l : Layout) → 0 < l.levels → (m : Memory) (pool : List ℕ) (f : ℕ)
    → Owns (l laid_in m) pool f ⊎ (Owns (l laid_in m) pool f → ⊥)
owns_or_not l some m pool f = own_or_not l.levels some l.window (words (l laid_in m)) l.root pool f

pub owned_there : (l : Layout) (serves : ℕ → Bool) (m : Memory) (pool : List ℕ)
    → PoolFits (l laid_in m) serves pool → (f : ℕ) → Owns (l laid_in m) pool f
    → IsSome (words (l laid_in m) f)
owned_there l serves m pool fits = own_there l.levels l.window (words (l laid_in m)) l.root serves
    (state_in l m pool) fits

-- the table in a frame that isn't owned stays
pub others_stay : (l : Layout) → IsMapping l.places
    → (serves : ℕ → Bool) (m n : Memory) (pool rest : List ℕ) → PoolFits (l laid_in m) serves pool
    → KeepsPool l serves m pool n rest
    → (f : ℕ) → (Owns (l laid_in m) pool f → ⊥) → words (l laid_in n) f ≡ words (l laid_in m) f
others_stay l mapping serves m n pool rest fits keeps f none =
    elim (l.places.covers f) as (λ b. l.places.covers f ≡ b
    → cond b (get n (l.places.place f)) None ≡ cond b (get m (l.places.place f)) None) [
      | true ↦ λ c. keeps.others (l.places.place f)
          (λ g own e. none (subst (Owns (l laid_in m) pool)
          (mapping.distinct g f (covered m l.places g (owned_there l serves m pool fits g own)) c e) own))
      | false ↦ λ c. refl
    ] refl

pub flipped : (T U : Words) (f : ℕ) → IsSome (T f) → SameTable T U f → SameTable U T f
flipped T U f there same = record { there = λ h. there; words = λ i. sym (same.words i) }

pub joined : (T U V : Words) (f : ℕ) → SameTable T U f → SameTable U V f → SameTable T V f
joined T U V f first second = record {
  there = λ h. second.there
      (first.there h);
  words = λ i. second.words i ∙ first.words i;
}

module _ (a b : Layout) (m : Memory) (serves_a serves_b : ℕ → Bool) (pool_a pool_b : List ℕ)
    (two : AreTwo a b m serves_a serves_b pool_a pool_b)
    (take_a take_b : List ℕ → ℕ → List ℕ) (call_a call_b : Call)
    (reply_a reply_b reply_a' reply_b' : Reply) (rest_a rest_b rest_a' rest_b' : List ℕ)
    (m_a n m_b n' : Memory)
    (first_a : Leads a take_a serves_a call_a m pool_a reply_a m_a rest_a)
    (then_b : Leads b take_b serves_b call_b m_a pool_b reply_b n rest_b)
    (first_b : Leads b take_b serves_b call_b m pool_b reply_b' m_b rest_b')
    (then_a : Leads a take_a serves_a call_a m_b pool_a reply_a' n' rest_a')
    (shared_a : LeavesShared a b pool_a pool_b m m_a) (shared_b : LeavesShared a b pool_a pool_b m m_b) where
  mapping_b : IsMapping b.places
  mapping_b = subst IsMapping (sym two.places) two.mapping

  -- the second hierarchy has the same mapping
  to_a : (x y : Memory) (f : ℕ) → SameTable (words (b laid_in x)) (words (b laid_in y)) f
      → SameTable (words (a laid_in x)) (words (a laid_in y)) f
  to_a x y f same = subst (λ (places : Places). SameTable (words_of x places)
      (words_of y places) f) two.places same

  to_b : (x y : Memory) (f : ℕ) → SameTable (words (a laid_in x)) (words (a laid_in y)) f
      → SameTable (words (b laid_in x)) (words (b laid_in y)) f
  to_b x y f same = subst (λ (places : Places). SameTable (words_of x places) (words_of y places) f)
      (sym two.places) same

  same_words_a : (x y : Memory) (f : ℕ) → words (b laid_in y) f ≡ words (b laid_in x) f
      → SameTable (words (a laid_in x)) (words (a laid_in y)) f
  same_words_a x y f e = to_a x y f (equal_tables (words (b laid_in x)) (words (b laid_in y)) f e)

  -- neither call changes what the other one depends on
  same_a : SameOwned a pool_a m m_b
  same_a f own = ⊎_elim
      (λ other. shared_b f own other)
      (λ none. same_words_a m m_b f
      (others_stay b mapping_b serves_b m m_b pool_b rest_b' two.fits_b first_b.keeps f none))
      (owns_or_not b two.some_b m pool_b f)

  same_b : SameOwned b pool_b m m_a
  same_b f own = to_b m m_a f (⊎_elim
      (λ other. shared_a f other own)
      (λ none. equal_tables (words (a laid_in m)) (words (a laid_in m_a)) f
      (others_stay a two.mapping serves_a m m_a pool_a rest_a two.fits_a first_a.keeps f none))
      (owns_or_not a two.some_a m pool_a f))

  still_a : IsTheSame a serves_a pool_a m m_b
  still_a = hierarchies_are_local a two.some_a serves_a m m_b pool_a two.fits_a same_a

  still_b : IsTheSame b serves_b pool_b m m_a
  still_b = hierarchies_are_local b two.some_b serves_b m m_a pool_b two.fits_b same_b

  local_a : (reply_a' ≡ reply_a) × (rest_a' ≡ rest_a) × SameOwned a rest_a m_a n'
  local_a = calls_are_local a two.some_a take_a serves_a call_a pool_a m m_a reply_a rest_a m_b n' reply_a' rest_a' two.fits_a same_a first_a then_a

  local_b : (reply_b ≡ reply_b') × (rest_b ≡ rest_b') × SameOwned b rest_b' m_b n
  local_b = calls_are_local b two.some_b take_b serves_b call_b pool_b m m_b reply_b' rest_b' m_a n reply_b rest_b two.fits_b same_b first_b then_b

  -- what the second call of each order leaves of frames that it doesn't own
  left_by_b : (f : ℕ) → (Owns (b laid_in m) pool_b f → ⊥)
      → SameTable (words (a laid_in m_a)) (words (a laid_in n)) f
  left_by_b f none = same_words_a m_a n f
      (others_stay b mapping_b serves_b m_a n pool_b rest_b still_b.fits then_b.keeps f
      (λ own. none (subst (λ M. IsOwn b.levels b.root M pool_b f) still_b.paths own)))

  left_by_a : (f : ℕ) → (Owns (a laid_in m) pool_a f → ⊥) → words (a laid_in n') f ≡ words (a laid_in m_b) f
  left_by_a f none = others_stay a two.mapping serves_a m_b n' pool_a rest_a' still_a.fits then_a.keeps f
      (λ own. none (subst (λ M. IsOwn a.levels a.root M pool_a f) still_a.paths own))

  abbrev At : Memory → Words
  At x = words (a laid_in x)

  abbrev Ends : ℕ → Type 0
  Ends f = SameTable (At n) (At n') f

  -- a frame of the first alone, of the second alone, of both, of none
  of_a : (f : ℕ) → Owns (a laid_in m) pool_a f → SameTable (At m_a) (At n') f
  of_a f own = local_a.2 f ((first_a.keeps.conserved f).0 own)

  of_b : (f : ℕ) → Owns (b laid_in m) pool_b f → SameTable (At m_b) (At n) f
  of_b f own = to_a m_b n f (local_b.2 f ((first_b.keeps.conserved f).0 own))

  there_a : (f : ℕ) → Owns (a laid_in m) pool_a f → IsSome (At m_a f)
  there_a f own = owned_there a serves_a m_a rest_a first_a.keeps.fits f ((first_a.keeps.conserved f).0 own)

  there_b : (f : ℕ) → Owns (b laid_in m) pool_b f → IsSome (At m_b f)
  there_b f own = subst (λ (places : Places). IsSome (words_of m_b places f)) two.places
      (owned_there b serves_b m_b rest_b' first_b.keeps.fits f ((first_b.keeps.conserved f).0 own))

  both : (f : ℕ) → Owns (a laid_in m) pool_a f → Owns (b laid_in m) pool_b f → Ends f
  both f x y = joined (At n) (At m) (At n') f
      (flipped (At m) (At n) f (owned_there a serves_a m pool_a two.fits_a f x)
      (joined (At m) (At m_b) (At n) f (shared_b f x y) (of_b f y)))
      (joined (At m) (At m_a) (At n') f (shared_a f x y) (of_a f x))

  first_alone : (f : ℕ) → Owns (a laid_in m) pool_a f → (Owns (b laid_in m) pool_b f → ⊥) → Ends f
  first_alone f x none = joined (At n) (At m_a) (At n') f
      (flipped (At m_a) (At n) f (there_a f x) (left_by_b f none)) (of_a f x)

  second_alone : (f : ℕ) → (Owns (a laid_in m) pool_a f → ⊥) → Owns (b laid_in m) pool_b f → Ends f
  second_alone f none y = joined (At n) (At m_b) (At n') f
      (flipped (At m_b) (At n) f (there_b f y) (of_b f y))
      (equal_tables (At m_b) (At n') f (left_by_a f none))

  nobodys : (f : ℕ) → (Owns (a laid_in m) pool_a f → ⊥) → (Owns (b laid_in m) pool_b f → ⊥) → Ends f
  nobodys f none_a none_b = equal_tables (At n) (At n') f (
      left_by_a f none_a
      ∙ in_a m m_b (others_stay b mapping_b serves_b m m_b pool_b rest_b' two.fits_b first_b.keeps f none_b)
      ∙ sym (others_stay a two.mapping serves_a m m_a pool_a rest_a two.fits_a first_a.keeps f none_a)
      ∙ sym (in_a m_a n (others_stay b mapping_b serves_b m_a n pool_b rest_b still_b.fits then_b.keeps f
      (λ own. none_b (subst (λ M. IsOwn b.levels b.root M pool_b f) still_b.paths own))))
      )
    where
      in_a : (x y : Memory) → words (b laid_in y) f ≡ words (b laid_in x) f → At y f ≡ At x f
      in_a x y e = subst (λ (places : Places). words_of y places f ≡ words_of x places f) two.places e

  pub ends : SameEnds a n n' reply_a reply_b reply_a' reply_b' rest_a rest_b rest_a' rest_b'
  ends = record {
    replies_a = local_a.0;
    replies_b = sym local_b.0;
    pool_a = local_a.1;
    pool_b = sym local_b.1;
    tables = λ f. ⊎_elim
        (λ x. ⊎_elim (λ y. both f x y) (λ k. first_alone f x k) (owns_or_not b two.some_b m pool_b f))
        (λ j. ⊎_elim (λ y. second_alone f j y) (λ k. nobodys f j k) (owns_or_not b two.some_b m pool_b f))
        (owns_or_not a two.some_a m pool_a f);
  }

pub calls_commute : CallsCommute
calls_commute a b m serves_a serves_b pool_a pool_b two take_a take_b call_a call_b reply_a reply_b reply_a' reply_b' rest_a rest_b rest_a' rest_b' m_a n m_b n' first_a then_b first_b then_a shared_a shared_b =
    ends a b m serves_a serves_b pool_a pool_b two take_a take_b call_a call_b reply_a reply_b reply_a' reply_b' rest_a rest_b rest_a' rest_b' m_a n m_b n' first_a then_b first_b then_a shared_a shared_b
