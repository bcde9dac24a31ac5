-- What is written to the table of a root, step by step.
use Rattle.std.proofs.Common.{◌≡◌, ◌≢◌, ⊎_elim, ◌<◌, ◌+◌, ◌==◌, ℕ, ◌&&◌, Bool, true, false, cond, nat_lt, List, length, get_or, set, Some, None, Option, IsSome, option_map, refl, sym, ap, ap₂, ◌∙◌, arith, lt-ltb, le-ltb}
use Rattle.std.proofs.lemmas.Bool.{cases_lt, cases_eq}
use Rattle.std.proofs.lemmas.List.{length-set, get_or-set_same, get_or-set_other}
use Rattle.std.proofs.lemmas.Option.{same_Some}
use Rattle.std.specs.Cmp.{nat_cmp_total}
use Rattle.std.specs.FinMap.{get, insert, get-insert}
use Rattle.x86_64_model.specs.Memory.{Memory, Places, Words, word, word_in, words_of, set_word}
use Rattle.x86_64_model.specs.private.Tables.{without_word}
use Rattle.x86_64_model.proofs.Lemmas.Hierarchies.Memories.{same_key, other_key}
use Rattle.x86_64_spaces.specs.declared.space.Space.{Space}
use Rattle.x86_64_spaces.specs.private.SpaceTables.{words_without}
use Rattle.x86_64_spaces.specs.private.Writes.{Stores, HasShared}
use Rattle.x86_64_tables.specs.PageTable.{zero_words, length-zero_words, get_or-zero_words}

pub stores : (m n : Memory) (place : ℕ) (table : List ℕ) → n ≡ insert m place table → Stores m place table n
stores m n place table e = record {
  here = ap (λ n. get n place) e ∙ get-insert nat_cmp_total m place table place ∙ ap (λ b. cond b (Some table) (get m place)) (same_key place);
  others = λ k apart. ap (λ n. get n k) e ∙ get-insert nat_cmp_total m place table k ∙ ap (λ b. cond b (Some table) (get m k)) (other_key k place apart);
}

-- the last table at a place counts
pub stores_again : (m n k : Memory) (place : ℕ) (table other : List ℕ) → Stores m place table n → Stores n place other k → Stores m place other k
stores_again m n k place table other first second = record { here = second.here; others = λ j apart. second.others j apart ∙ first.others j apart }

-- a root has its words as long as its place isn't written
pub words_stay : (m n : Memory) (places : Places) (place : ℕ) (table : List ℕ) → Stores m place table n → (f : ℕ) → places.place f ≢ place → words_of n places f ≡ words_of m places f
words_stay m n places place table stored f apart = ap (λ o. cond (places.covers f) o None) (stored.others (places.place f) apart)

pub seen_same : (T U : Words) (s : Space) (i : ℕ) → T s.root ≡ U s.root → word (words_without T s) s.root i ≡ word (words_without U s) s.root i
unfolding word set_word
seen_same T U s i e = by s.recursive
  where
    by : (recursive : Option ℕ) → word (without_word recursive s.root T) s.root i ≡ word (without_word recursive s.root U) s.root i
    by None = ap (λ o. cond (nat_lt i 512) (word_in o i) 0) e
    by (Some r) = ap (λ o. cond (nat_lt i 512) (word_in (cond (s.root == s.root) (option_map (λ words. set words r 0) o) o) i) 0) e

-- a frame that has words has its place in the memory
pub in_place : (m : Memory) (places : Places) (f : ℕ) → IsSome (words_of m places f) → IsSome (get m (places.place f))
in_place m places f = by (places.covers f) (get m (places.place f))
  where
    by : (b : Bool) (o : Option (List ℕ)) → IsSome (cond b o None) → IsSome o
    by true o h = h
    by false o h = cc

-- ---- the words at the shared indices, one by one

module _ (shared : ℕ → Bool) (words : ℕ → ℕ) (m : Memory) (place : ℕ) where
  nothing : (k : ℕ) → cond (shared k && nat_lt k 0) (words k) 0 ≡ 0
  nothing k = ap (λ b. cond (shared k && b) (words k) 0) (le-ltb k 0 (omega arith)) ∙ elim (shared k) as (λ b. cond (b && false) (words k) 0 ≡ 0) [ true ↦ refl | false ↦ refl ]

  pub none_shared : (n : Memory) → n ≡ insert m place zero_words → HasShared shared words m place 0 n
  none_shared n e = record {
    table = zero_words;
    size = length-zero_words;
    stored = stores m n place zero_words e;
    copied = λ k small. get_or-zero_words k small ∙ sym (nothing k);
  }

  -- at other indices it makes no difference how far one is
  same_below : (i k : ℕ) → k ≢ i → nat_lt k i ≡ nat_lt k (i + 1)
  same_below i k apart = ⊎_elim
      (λ l. lt-ltb k i l ∙ sym (lt-ltb k (i + 1) (omega (arith, l))))
      (λ l. le-ltb k i l ∙ sym (le-ltb k (i + 1) (omega (arith, l, apart))))
      (cases_lt k i)

  module _ (n : Memory) (i : ℕ) (has : HasShared shared words m place i n) where
    pub passed_over : shared i ≡ false → HasShared shared words m place (i + 1) n
    passed_over off = record {
      table = has.table;
      size = has.size;
      stored = has.stored;
      copied = λ k small. has.copied k small ∙ ⊎_elim
          (λ e. ap (λ b. cond (b && nat_lt k i) (words k) 0) (ap shared e ∙ off) ∙ sym (ap (λ b. cond (b && nat_lt k (i + 1)) (words k) 0) (ap shared e ∙ off)))
          (λ apart. ap (λ b. cond (shared k && b) (words k) 0) (same_below i k apart))
          (cases_eq k i);
    }

    pub one_shared : shared i ≡ true → i < 512 → (w : ℕ) → w ≡ words i → (lent : List ℕ) → get n place ≡ Some lent → (n' : Memory) → n' ≡ insert n place (set lent i w)
        → HasShared shared words m place (i + 1) n'
    one_shared on small w is lent at n' e =
        let same : has.table ≡ lent = same_Some has.table lent (sym has.stored.here ∙ at) in
        let within : i < length has.table = (let s = has.size in omega (arith, s, small)) in
        record {
          table = set has.table i w;
          size = length-set has.table i w ∙ has.size;
          stored = stores_again m n n' place has.table (set has.table i w) has.stored (stores n n' place (set has.table i w) (e ∙ ap (λ t. insert n place (set t i w)) (sym same)));
          copied = λ k k_small. ⊎_elim
              (λ e. ap (λ k. get_or (set has.table i w) k 0) e ∙ get_or-set_same has.table i w 0 within ∙ is ∙ ap words (sym e)
              ∙ sym (ap₂ (λ a b. cond (a && b) (words k) 0) (ap shared e ∙ on) (lt-ltb k (i + 1) (omega (arith, e)))))
              (λ apart. get_or-set_other has.table i k w 0 apart ∙ has.copied k k_small ∙ ap (λ b. cond (shared k && b) (words k) 0) (same_below i k apart))
              (cases_eq k i);
        }
