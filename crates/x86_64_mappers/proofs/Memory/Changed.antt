-- The effect of writes to one table on the words of all tables.
use Rattle.std.proofs.Common.{◌≡◌, ◌≢◌, ⊎_elim, ℕ, Bool, true, false, cond, nat_lt, Option, Some, None, IsSome, refl, sym, ap, ◌∙◌, subst, arith, eq-eqb, ne_eqb, ◌==◌, ◌<◌, lt-ltb, get_or, set}
use Rattle.std.proofs.lemmas.Bool.{cases_eq}
use Rattle.std.proofs.lemmas.List.{set-get_or}
use Rattle.std.specs.FinMap.{get, insert}
use Rattle.x86_64_model.specs.Layout.{Layout}
use Rattle.x86_64_model.specs.Hierarchy.{◌laid_in◌, words}
use Rattle.x86_64_model.proofs.Lemmas.Hierarchies.Held.{is_some-set}
use Rattle.x86_64_model.proofs.Lemmas.Hierarchies.Memories.{outside_set, words_of-insert, covered}
use Rattle.x86_64_model.specs.Memory.{Memory, Places, Distinct, words_of, word, word_in, set_word}
use Rattle.x86_64_model.specs.Window.{SelfEntry, outside_window}
use Rattle.x86_64_tables.specs.PageTable.{zero_words, get_or-zero_words}
use Rattle.x86_64_mappers.specs.private.Linked.{Beside}
use Rattle.x86_64_mappers.specs.private.Writes.{IsSet, IsZeroed}
use Rattle.x86_64_mappers.proofs.Memory.WordsRead.{words_read, self-set_word}
use Rattle.x86_64_mappers.proofs.Memory.Stored.{words_of-put, get-put, put_back, there_is}

pub not_none : {X : Type 0} (o : Option X) (x : X) → o ≡ Some x → IsSome o
not_none None x e = cc
not_none (Some y) x e = refl

module _ (places : Places) (apart : Distinct places) where
  -- ---- a word that was set

  pub set_is : (m : Memory) (f i w : ℕ) (n : Memory) → IsSet places m f i w n → words_of n places ≡ set_word (words_of m places) f i w
  set_is m f i w n k =
      let c = covered m places f (not_none _ k.table k.is) in
      ap (λ x. words_of x places) k.after ∙ words_of-insert m places f i w k.table apart c (sym (there_is m places f c) ∙ k.is)

  pub set_others : (m : Memory) (f i w : ℕ) (n : Memory) → IsSet places m f i w n → (k : ℕ) → k ≢ places.place f → get n k ≡ get m k
  set_others m f i w n s k e = ap (λ x. get x k) s.after ∙ get-put m (places.place f) k _ e

  pub set_keeps : (m : Memory) (f i w : ℕ) (n : Memory) → IsSet places m f i w n → (g : ℕ) → IsSome (words_of m places g) → IsSome (words_of n places g)
  set_keeps m f i w n s g h = subst (λ T. IsSome (T g)) (sym (set_is m f i w n s)) (is_some-set (words_of m places) f i w g h)

  -- a word that was set to its old value
  pub set_same : (m : Memory) (f i : ℕ) (n : Memory) → i < 512 → IsSet places m f i (word (words_of m places) f i) n → n ≡ m
  unfolding word
  set_same m f i n small k =
      let is : word_in (words_of m places f) i ≡ get_or k.table i 0 = ap (λ o. word_in o i) k.is in
      let there = there_is m places f (covered m places f (not_none _ k.table k.is)) in
      k.after
      ∙ ap (λ w. insert m (places.place f) (set k.table i w)) (ap (λ b. cond b (word_in (words_of m places f) i) 0) (lt-ltb i 512 small) ∙ is)
      ∙ ap (insert m (places.place f)) (set-get_or k.table i 0)
      ∙ put_back m (places.place f) k.table (sym there ∙ k.is)

  -- ---- a table that was cleared

  cleared_is : (m : Memory) (f : ℕ) (n : Memory) → IsZeroed places m f n → (g : ℕ) → words_of n places g ≡ cond (g == f) (Some zero_words) (words_of m places g)
  cleared_is m f n c g = ap (λ x. words_of x places g) c.after ∙ words_of-put m places f zero_words apart (covered m places f c.there) g

  pub cleared_other : (m : Memory) (f : ℕ) (n : Memory) → IsZeroed places m f n → (g : ℕ) → g ≢ f → words_of n places g ≡ words_of m places g
  cleared_other m f n c g e = cleared_is m f n c g ∙ ap (λ b. cond b (Some zero_words) (words_of m places g)) (ne_eqb g f e)

  pub cleared_here : (m : Memory) (f : ℕ) (n : Memory) → IsZeroed places m f n → words_of n places f ≡ Some zero_words
  cleared_here m f n c = cleared_is m f n c f ∙ ap (λ b. cond b (Some zero_words) (words_of m places f)) (eq-eqb f f refl)

  -- a word of another frame's table
  pub cleared_other_word : (m : Memory) (f : ℕ) (n : Memory) → IsZeroed places m f n → (g j : ℕ) → f ≢ g → word (words_of n places) g j ≡ word (words_of m places) g j
  unfolding word
  cleared_other_word m f n c g j e = ap (λ o. cond (nat_lt j 512) (word_in o j) 0) (cleared_other m f n c g (λ x. e (sym x)))

  pub cleared_words : (m : Memory) (f : ℕ) (n : Memory) → IsZeroed places m f n → (j : ℕ) → word (words_of n places) f j ≡ 0
  unfolding word
  cleared_words m f n c j = ap (λ o. cond (nat_lt j 512) (word_in o j) 0) (cleared_here m f n c) ∙ by (nat_lt j 512) refl
    where
      by : (b : Bool) → nat_lt j 512 ≡ b → cond b (word_in (Some zero_words) j) 0 ≡ 0
      by true e = get_or-zero_words j (grind (arith, e))
      by false e = refl

  pub cleared_keeps : (m : Memory) (f : ℕ) (n : Memory) → IsZeroed places m f n → (g : ℕ) → IsSome (words_of m places g) → IsSome (words_of n places g)
  cleared_keeps m f n c g h = ⊎_elim
      (λ e. not_none _ zero_words (ap (λ g. words_of n places g) e ∙ cleared_here m f n c))
      (λ e. subst IsSome (sym (cleared_other m f n c g e)) h) (cases_eq g f)

-- ---- the effect of a write on the words that the path map sees

module _ (l : Layout) (apart : Distinct l.places) (m : Memory) (f i w : ℕ) (n : Memory) (k : IsSet l.places m f i w n) (b : Beside l.window l.root f i) where
  pub read_set : words_read l n ≡ set_word (words_read l m) f i w
  read_set = ap (outside_window l.window l.root) (set_is l.places apart m f i w n k) ∙ outside_set l.window l.root (words (l laid_in m)) f i w b

  pub self_set : SelfEntry (words (l laid_in m)) l.root l.window → SelfEntry (words (l laid_in n)) l.root l.window
  self_set h = subst (λ T. SelfEntry T l.root l.window) (sym (set_is l.places apart m f i w n k)) (self-set_word l.window l.root (words (l laid_in m)) f i w b h)
