-- Page walks in tables that are made of words arrive where those in the memory with these words do.
use Rattle.std.proofs.Common.{◌≡◌, ◌+◌, ◌*◌, ◌/◌, ◌%◌, ◌^◌, ◌<◌, ◌&&◌, ℕ, zero, suc, nat_le, nat_lt, Bool, true, false, cond, get_or, map, List, Option, Some, None, option_and_then, option_map, refl, sym, ap, subst, ◌∙◌, arith, eq-eqb, lt-ltb, ltb-true}
use Rattle.std.proofs.Math.Nat.{mul-div_cancel}
use Rattle.std.proofs.lemmas.List.{get_or-map}
use Rattle.std.proofs.lemmas.List.FromFn.{length-range_with_len, get_or-range_with_len}
use Rattle.std.specs.List.{range_with_len}
use Rattle.x86_64_model.specs.Path.{indices}
use Rattle.std.specs.FinMap.{get}
use Rattle.x86_64_model.specs.Entry.{present, writable, user, huge, address, is_frame}
use Rattle.x86_64_model.specs.Memory.{Memory, Words, identity_places, word, word_in, words_of}
use Rattle.x86_64_model.specs.PageWalk.{Walked, arrives, page_start, page_walk, read, walk_on}
use Rattle.x86_64_model.specs.Position.{index, span}
use Rattle.x86_64_model.proofs.Lemmas.Entries.Bits.{zero_absent}
use Rattle.x86_64_model.proofs.Lemmas.Entries.Words.{address-multiple}
use Rattle.x86_64_model.proofs.Lemmas.Walks.Walked.{index_small}
use Rattle.x86_64.specs.EveryWord.{SameWords}
use Rattle.pagetab_engine.specs.Situation.{tables_with}
use Rattle.pagetab_engine.specs.Slot as slots

-- if there is no table, a word is read as 0
read_word : (F : ℕ → Option Walked) → F 0 ≡ None → (T : Words) (frame i : ℕ) → i < 512 → option_and_then F (read T frame i) ≡ F (word T frame i)
unfolding word
read_word F none T frame i small = by (T frame) ∙ ap (λ b. F (cond b (word_in (T frame) i) 0)) (sym (lt-ltb i 512 small))
  where
    by : (table : Option (List ℕ)) → option_and_then F (option_map (λ words. get_or words i 0) table) ≡ F (word_in table i)
    by None = sym none
    by (Some words) = refl

-- a word without PRESENT leads nowhere
leads_nowhere : (to : Option Walked) → cond (present 0) to None ≡ None
leads_nowhere to = ap (λ b. cond b to None) zero_absent

module _ (T U : Words) (same : SameWords T U) (p : ℕ) where
  same_walk_on : (level : ℕ) (w u : Bool) (frame : ℕ) → walk_on T p level w u frame ≡ walk_on U p level w u frame
  unfolding walk_on
  same_walk_on zero w u frame = refl
  same_walk_on (suc zero) w u frame =
      let F : ℕ → Option Walked = λ e. cond (present e) (arrives (address e + p % span 1) (w && writable e) (u && user e)) None in
      read_word F (leads_nowhere _) T frame (index 1 p) (index_small 1 p) ∙ ap F (same frame (index 1 p)) ∙ sym (read_word F (leads_nowhere _) U frame (index 1 p) (index_small 1 p))
  same_walk_on (suc (suc n)) w u frame =
      let level = suc (suc n) in
      let lands : ℕ → Option Walked = λ e. cond (nat_le level 3) (arrives (page_start level e + p % span level) (w && writable e) (u && user e)) None in
      let F : Words → ℕ → Option Walked = λ V e. cond (present e) (cond (huge e) (lands e) (walk_on V p (suc n) (w && writable e) (u && user e) (address e))) None in
      read_word (F T) (leads_nowhere _) T frame (index level p) (index_small level p) ∙ ap (F T) (same frame (index level p))
      ∙ ap (λ next. let e = word U frame (index level p) in cond (present e) (cond (huge e) (lands e) next) None)
      (same_walk_on (suc n) (w && writable (word U frame (index level p))) (u && user (word U frame (index level p))) (address (word U frame (index level p))))
      ∙ sym (read_word (F U) (leads_nowhere _) U frame (index level p) (index_small level p))

-- so page walks of a position (the number of an address counted without the gap) arrive at the same address
pub same_walk : (levels : ℕ) (T U : Words) → SameWords T U → (root position : ℕ) → page_walk levels T root position ≡ page_walk levels U root position
unfolding page_walk
same_walk levels T U same root position = same_walk_on T U same position levels true true root

-- the word in a slot is that of the frame which lies there
pub slot_word : (memory : Memory) (place index : ℕ) → index < 512 → place * 4096 < 2 ^ 52 → (place * 4096) % 4096 ≡ 0 → slots.word_at_place memory place index ≡ word (words_of memory identity_places) (place * 4096) index
unfolding word
slot_word memory place index small within aligned =
    let frame : is_frame (place * 4096) ≡ true = eq-eqb (address (place * 4096)) (place * 4096) (address-multiple (place * 4096) aligned within) in
    let here : place * 4096 / 4096 ≡ place = mul-div_cancel place (omega arith) in
    by (get memory place) ∙ ap (λ b. cond b (word_in (get memory place) index) 0) (sym (lt-ltb index 512 small))
    ∙ ap (λ k. cond (nat_lt index 512) (word_in (get memory k) index) 0) (sym here) ∙ ap (λ b. cond (nat_lt index 512) (word_in (cond b (get memory (place * 4096 / 4096)) None) index) 0) (sym frame)
  where
    by : (table : Option (List ℕ)) → slots.word_of_table table index ≡ word_in table index
    by None = refl
    by (Some words) = refl

-- ---- tables that are made of words

mapped_at : (f : ℕ → ℕ) (n i : ℕ) → i < n → get_or (map f (range_with_len 0 n)) i 0 ≡ f i
mapped_at f n i small = get_or-map f (range_with_len 0 n) i 0 0 (subst (λ m. i < m) (sym (length-range_with_len 0 n)) small) ∙ ap f (get_or-range_with_len 0 n i 0 small ∙ (let e : 0 + i ≡ i = omega arith in e))

pub word_of_tables : (T : Words) → SameWords T (tables_with (word T))
unfolding word indices
word_of_tables T f i = by (nat_lt i 512) refl
  where
    by : (b : Bool) → nat_lt i 512 ≡ b → cond b (word_in (T f) i) 0 ≡ cond b (get_or (map (λ j. cond (nat_lt j 512) (word_in (T f) j) 0) (range_with_len 0 512)) i 0) 0
    by false large = refl
    by true small = sym (mapped_at (λ j. cond (nat_lt j 512) (word_in (T f) j) 0) 512 i (ltb-true i 512 small) ∙ ap (λ b. cond b (word_in (T f) i) 0) small)
