-- The words of a table, and the memory, after the entries of several pages were written.
use Rattle.std.proofs.Common.{zero, suc, ◌≡◌, ⊎_elim, ◌<◌, ◌≤◌, ◌+◌, ◌*◌, ℕ, Bool, true, false, not, cond, List, length, get_or, Some, refl, sym, ap, ap₂, ◌∙◌, arith, eq-eqb, lt-ltb}
use Rattle.std.proofs.lemmas.Bool.{cases_eq}
use Rattle.std.proofs.lemmas.List.{length-set, get_or-set_other}
use Rattle.std.specs.Cmp.{nat_cmp_total}
use Rattle.std.specs.FinMap.{get, insert, same_map, nat_cmp-IsAntisymmetric}
use Rattle.x86_64_model.specs.Entry.{used}
use Rattle.x86_64_model.specs.Memory.{Memory, Places, Distinct, words_of, word, word_in}
use Rattle.x86_64_model.specs.Position.{span}
use Rattle.x86_64_model.specs.Refusal.{Done, Refused, PageAlreadyMapped}
use Rattle.x86_64_model.proofs.Lemmas.Hierarchies.Memories.{covered}
use Rattle.x86_64_mappers.specs.private.PageCalls.{page_word}
use Rattle.x86_64_mappers.specs.private.RangeSteps.{with_leaves}
use Rattle.x86_64_mappers.specs.private.Writes.{IsSet, IsLeafSet, word_in_frame}
use Rattle.x86_64_mappers.proofs.Memory.Changed.{not_none}
use Rattle.x86_64_mappers.proofs.Memory.Stored.{get-put_same, get-put, put_back, there_is, words_of-put}

module _ (level i a given : ℕ) (t : List ℕ) where
  pub length_leaves : (n : ℕ) → length (with_leaves level i a given t n) ≡ length t
  length_leaves zero = refl
  length_leaves (suc n) = length-set (with_leaves level i a given t n) (i + n) (page_word level (a + n * span level) given) ∙ length_leaves n

  -- words behind them stay
  pub leaves_past : (n j : ℕ) → i + n ≤ j → get_or (with_leaves level i a given t n) j 0 ≡ get_or t j 0
  leaves_past zero j h = refl
  leaves_past (suc n) j h =
      get_or-set_other (with_leaves level i a given t n) (i + n) j (page_word level (a + n * span level) given) 0 (λ e. absurd (omega (arith, e, h)))
      ∙ leaves_past n j (omega (arith, h))

-- a table that is put at a place twice
pub put_again : (m : Memory) (a : ℕ) (x y : List ℕ) → insert (insert m a x) a y ≡ insert m a y
put_again m a x y = same_map nat_cmp_total nat_cmp-IsAntisymmetric _ _ (λ k. ⊎_elim
    (λ e. ap (get (insert (insert m a x) a y)) e ∙ get-put_same (insert m a x) a y ∙ sym (ap (get (insert m a y)) e ∙ get-put_same m a y))
    (λ n. get-put (insert m a x) a k y n ∙ get-put m a k x n ∙ sym (get-put m a k y n))
    (cases_eq k a))

module _ (places : Places) (apart : Distinct places) (m : Memory) (f level i a given : ℕ) (table : List ℕ) (is : words_of m places f ≡ Some table) (long : length table ≡ 512) where
  -- the memory after n entries
  abbrev pub after_leaves : (n : ℕ) → Memory
  after_leaves n = insert m (places.place f) (with_leaves level i a given table n)

  is_covered : places.covers f ≡ true
  is_covered = covered m places f (not_none _ table is)

  pub no_leaf : after_leaves 0 ≡ m
  no_leaf = put_back m (places.place f) table (sym (there_is m places f is_covered) ∙ is)

  pub holds_leaves : (n : ℕ) → words_of (after_leaves n) places f ≡ Some (with_leaves level i a given table n)
  holds_leaves n = words_of-put m places f (with_leaves level i a given table n) apart is_covered f
      ∙ ap (λ b. cond b (Some (with_leaves level i a given table n)) (words_of m places f)) (eq-eqb f f refl)

  leaf_set : (n : ℕ) → IsSet places (after_leaves n) f (i + n) (page_word level (a + n * span level) given) (after_leaves (suc n))
  leaf_set n = record {
    table = with_leaves level i a given table n;
    is = holds_leaves n;
    long = length_leaves level i a given table n ∙ long;
    after = sym (put_again m (places.place f) (with_leaves level i a given table n) (with_leaves level i a given table (suc n)));
  }

  leaf_word : (n : ℕ) → i + n < 512 → word_in_frame places (after_leaves n) f (i + n) ≡ get_or table (i + n) 0
  unfolding word
  leaf_word n small = ap₂ (λ b t. cond b (word_in t (i + n)) 0) (lt-ltb (i + n) 512 small) (holds_leaves n)
      ∙ leaves_past level i a given table n (i + n) (omega arith)

  -- the next entry is unused, and written
  pub leaf_done : (n : ℕ) → i + n < 512 → used (get_or table (i + n) 0) ≡ false
      → IsLeafSet places (after_leaves n) f (i + n) (page_word level (a + n * span level) given) (a + n * span level) (Done (a + n * span level)) (after_leaves (suc n))
  leaf_done n small unused = (ap used (leaf_word n small) ∙ unused, refl, leaf_set n)

  -- the next entry is used, and the page refused
  pub leaf_full : (n : ℕ) → i + n < 512 → used (get_or table (i + n) 0) ≡ true
      → IsLeafSet places (after_leaves n) f (i + n) (page_word level (a + n * span level) given) (a + n * span level) (Refused (PageAlreadyMapped (a + n * span level))) (after_leaves n)
  leaf_full n small full = (ap used (leaf_word n small) ∙ full, refl, refl)

-- ---- tests of an entry

pub is_used : (e : ℕ) (test : Bool) → test ≡ not (used e) → test ≡ false → used e ≡ true
is_used e test is gone = by (used e) (sym is ∙ gone)
  where
    by : (b : Bool) → not b ≡ false → b ≡ true
    by true h = refl
    by false h = cc

pub isnt_used : (e : ℕ) (test : Bool) → test ≡ not (used e) → test ≡ true → used e ≡ false
isnt_used e test is said = by (used e) (sym is ∙ said)
  where
    by : (b : Bool) → not b ≡ true → b ≡ false
    by true h = cc
    by false h = refl
