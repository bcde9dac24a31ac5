-- The words of a table, and the memory, after calls that each change at most one entry of it.
use Rattle.std.proofs.Common.{zero, suc, ◌≡◌, ◌<◌, ◌≤◌, ◌+◌, ℕ, true, cond, List, [], ◌∷◌, ◌++◌, length, get_or, replicate, Some, Result, refl, sym, ap, ap₂, ◌∙◌, arith, eq-eqb, lt-ltb}
use Rattle.std.proofs.lemmas.List.{length-set, get_or-set_other}
use Rattle.std.proofs.lemmas.List.FromFn.{map-range_with_len_more}
use Rattle.std.specs.FinMap.{insert}
use Rattle.x86_64_model.specs.Call.{Reply, NotAllowed, Answered, Position, Address, Cleaned}
use Rattle.x86_64_model.specs.Memory.{Memory, Places, Distinct, words_of, word, word_in}
use Rattle.x86_64_model.specs.Refusal.{Refusal, Done, Refused}
use Rattle.x86_64_model.proofs.Lemmas.Hierarchies.Memories.{covered}
use Rattle.x86_64_mappers.specs.RangeChanges.{frames_done}
use Rattle.x86_64_mappers.specs.private.EntryCalls.{word_said, answer_said}
use Rattle.x86_64_mappers.specs.private.RangeChangeSteps.{with_results, replies_said}
use Rattle.x86_64_mappers.specs.private.Writes.{IsSet, word_in_frame}
use Rattle.x86_64_mappers.proofs.Memory.Changed.{not_none}
use Rattle.x86_64_mappers.proofs.Memory.Stored.{put_back, there_is, words_of-put}
use Rattle.x86_64_mappers.proofs.Range.Leaves.{put_again}

-- ---- frames

pub frames_append : (xs ys : List Reply) → frames_done (xs ++ ys) ≡ frames_done xs ++ frames_done ys
frames_append [] ys = refl
frames_append (Answered (Done f) ∷ xs) ys = ap (λ fs. f ∷ fs) (frames_append xs ys)
frames_append (Answered (Refused why) ∷ xs) ys = frames_append xs ys
frames_append (NotAllowed ∷ xs) ys = frames_append xs ys
frames_append (Position t ∷ xs) ys = frames_append xs ys
frames_append (Address a ∷ xs) ys = frames_append xs ys
frames_append (Cleaned ∷ xs) ys = frames_append xs ys

pub frames_none : (n : ℕ) (why : Refusal) → frames_done (replicate n (Answered (Refused why))) ≡ []
frames_none zero why = refl
frames_none (suc n) why = frames_none n why

module _ (says : ℕ → Result (ℕ × ℕ) Refusal) (i : ℕ) (t : List ℕ) where
  pub length_words : (n : ℕ) → length (with_results says i t n) ≡ length t
  length_words zero = refl
  length_words (suc n) = length-set (with_results says i t n) (i + n) (word_said (get_or t (i + n) 0) (says (get_or t (i + n) 0))) ∙ length_words n

  -- words behind them stay
  pub words_past : (n j : ℕ) → i + n ≤ j → get_or (with_results says i t n) j 0 ≡ get_or t j 0
  words_past zero j h = refl
  words_past (suc n) j h =
      get_or-set_other (with_results says i t n) (i + n) j (word_said (get_or t (i + n) 0) (says (get_or t (i + n) 0))) 0 (λ e. absurd (omega (arith, e, h)))
      ∙ words_past n j (omega (arith, h))

  pub replies_more : (n : ℕ) → replies_said says i t (n + 1) ≡ replies_said says i t n ++ Answered (answer_said (says (get_or t (i + n) 0))) ∷ []
  replies_more n = map-range_with_len_more (λ k. Answered (answer_said (says (get_or t (i + k) 0)))) 0 n n (let e : 0 + n ≡ n = omega arith in e)

module _ (places : Places) (apart : Distinct places) (m : Memory) (f : ℕ) (says : ℕ → Result (ℕ × ℕ) Refusal) (i : ℕ) (table : List ℕ) (is : words_of m places f ≡ Some table) (long : length table ≡ 512) where
  -- the memory after n calls
  abbrev pub after_words : (n : ℕ) → Memory
  after_words n = insert m (places.place f) (with_results says i table n)

  is_covered : places.covers f ≡ true
  is_covered = covered m places f (not_none _ table is)

  pub no_word : after_words 0 ≡ m
  no_word = put_back m (places.place f) table (sym (there_is m places f is_covered) ∙ is)

  pub holds_words : (n : ℕ) → words_of (after_words n) places f ≡ Some (with_results says i table n)
  holds_words n = words_of-put m places f (with_results says i table n) apart is_covered f
      ∙ ap (λ b. cond b (Some (with_results says i table n)) (words_of m places f)) (eq-eqb f f refl)

  pub word_set : (n : ℕ) → IsSet places (after_words n) f (i + n) (word_said (get_or table (i + n) 0) (says (get_or table (i + n) 0))) (after_words (suc n))
  word_set n = record {
    table = with_results says i table n;
    is = holds_words n;
    long = length_words says i table n ∙ long;
    after = sym (put_again m (places.place f) (with_results says i table n) (with_results says i table (suc n)));
  }

  pub word_next : (n : ℕ) → i + n < 512 → word_in_frame places (after_words n) f (i + n) ≡ get_or table (i + n) 0
  unfolding word
  word_next n small = ap₂ (λ b t. cond b (word_in t (i + n)) 0) (lt-ltb (i + n) 512 small) (holds_words n)
      ∙ words_past says i table n (i + n) (omega arith)
