-- Which words may be huge, table by table.
use Rattle.std.proofs.Common.{◌≡◌, ⊎_elim, ◌<◌, ◌≤◌, ◌+◌, ◌-◌, ℕ, zero, suc, true, false, cond, List, [], ◌∷◌, length, refl, sym, ap, ◌∙◌, subst, arith}
use Rattle.std.proofs.lemmas.Bool.{cases_lt}
use Rattle.x86_64_model.specs.Entry.{huge, address, names_table}
use Rattle.x86_64_model.specs.Memory.{Words, word}
use Rattle.x86_64_model.specs.Validity.{read_at}
use Rattle.x86_64_model.specs.private.Tables.{NoneHuge}
use Rattle.x86_64_model.proofs.Lemmas.Hierarchies.Changes.{zero_not_huge}
use Rattle.x86_64_model.proofs.Lemmas.Hierarchies.Held.{word_past}
use Rattle.x86_64_model.proofs.Lemmas.Tables.Walked.{small_index}

-- a word is not huge, nor are those that are constrained below the table that it names
pub record NotHuge (n : ℕ) (T : Words) (w : ℕ) : Type 0 where
  pub here : huge w ≡ false
  pub below : names_table w ≡ true → NoneHuge n T (address w)

pub few_levels : (n : ℕ) (T : Words) (f : ℕ) → n ≤ 2 → NoneHuge n T f
few_levels n T f h = record { at = at }
  where
    at : (p : List ℕ) → length p + 3 ≤ suc n → huge (read_at (suc n) T f p) ≡ false
    at [] l = zero_not_huge
    at (i ∷ p) l = absurd (omega arith)

all_words_from : (n : ℕ) (T : Words) (f : ℕ) → 2 < suc n → ((i : ℕ) → i < 512 → NotHuge n T (word T f i)) → NoneHuge (suc n) T f
all_words_from n T f levels each = record { at = at }
  where
    at : (p : List ℕ) → length p + 3 ≤ suc (suc n) → huge (read_at (suc (suc n)) T f p) ≡ false
    at [] l = zero_not_huge
    at (i ∷ []) l = ⊎_elim (λ s. (each i s).here) (λ s. ap huge (word_past T f i s) ∙ zero_not_huge) (cases_lt i 512)
    at (i ∷ j ∷ p) l = elim (names_table (word T f i)) as (λ b. names_table (word T f i) ≡ b → huge (cond b (read_at (suc n) T (address (word T f i)) (j ∷ p)) 0) ≡ false) [
      | true ↦ λ b. ((each i (small_index T f i b)).below b).at (j ∷ p) (omega arith)
      | false ↦ λ b. zero_not_huge
    ] refl

one_word_from : (n : ℕ) (T : Words) (f : ℕ) → 2 < suc n → NoneHuge (suc n) T f → (i : ℕ) → NotHuge n T (word T f i)
one_word_from n T f levels none i = record { here = none.at (i ∷ []) (omega arith); below = λ b. record { at = at b } }
  where
    at : names_table (word T f i) ≡ true → (p : List ℕ) → length p + 3 ≤ suc n → huge (read_at (suc n) T (address (word T f i)) p) ≡ false
    at b [] l = zero_not_huge
    at b (j ∷ p) l = ap (λ b. huge (cond b (read_at (suc n) T (address (word T f i)) (j ∷ p)) 0)) (sym b) ∙ none.at (i ∷ j ∷ p) (omega arith)

pub all_words : (n : ℕ) (T : Words) (f : ℕ) → 2 < n → ((i : ℕ) → i < 512 → NotHuge (n - 1) T (word T f i)) → NoneHuge n T f
all_words zero T f levels each = absurd (omega arith)
all_words (suc n) T f levels each = all_words_from n T f levels (λ i s. let e : suc n - 1 ≡ n = omega arith in subst (λ n. NotHuge n T (word T f i)) e (each i s))

pub one_word : (n : ℕ) (T : Words) (f : ℕ) → 2 < n → NoneHuge n T f → (i w : ℕ) → w ≡ word T f i → NotHuge (n - 1) T w
one_word zero T f levels none i w is = absurd (omega arith)
one_word (suc n) T f levels none i w is = let e : n ≡ suc n - 1 = omega arith in subst (λ n. NotHuge n T w) e (subst (NotHuge n T) (sym is) (one_word_from n T f levels none i))
