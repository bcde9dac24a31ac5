-- The words of tables.
use Rattle.std.proofs.Common.{◌≡◌, ◌<◌, ⊎_elim, ℕ, List, length, Some, cond, slice_index, lt-ltb, sym, ap₂, ◌∙◌, arith}
use Rattle.std.proofs.lemmas.Bool.{cases_lt}
use Rattle.std.proofs.lemmas.List.Elements.{All-get_or, All-from_get_or}
use Rattle.std.specs.List.{All}
use Rattle.x86_64_model.proofs.Lemmas.Hierarchies.Held.{word_past}
use Rattle.x86_64_model.specs.Memory.{Words, word, word_in}

-- an entry of the table in a frame is the word at its index
pub entry_is_word : (T : Words) (frame i : ℕ) (table : List ℕ) → T frame ≡ Some table → i < 512 → slice_index table i ≡ word T frame i
unfolding word
entry_is_word T frame i table there inside = sym (ap₂ (λ b t. cond b (word_in t i) 0) (lt-ltb i 512 inside) there)

-- a table's words are all 0 if and only if its entries are all unused
module _ (T : Words) (frame : ℕ) (table : List ℕ) (there : T frame ≡ Some table) (long : length table ≡ 512) where
  pub empty_words : All (λ word. word ≡ 0) table → (i : ℕ) → word T frame i ≡ 0
  empty_words all i = ⊎_elim
      (λ inside. sym (entry_is_word T frame i table there inside) ∙ All-get_or (λ word. word ≡ 0) table i 0 (omega (arith, inside, long)) all)
      (word_past T frame i) (cases_lt i 512)

  pub words_empty : ((i : ℕ) → word T frame i ≡ 0) → All (λ word. word ≡ 0) table
  words_empty all = All-from_get_or (λ word. word ≡ 0) table 0 (λ i inside. entry_is_word T frame i table there (omega (arith, inside, long)) ∙ all i)
