-- Page tables as lists of words.
use Rattle.std.specs.Prelude.{◌≡◌, ℕ, ◌<◌, List, length, replicate, get_or}
use Rattle.std.proofs.Common.{sym, ◌∙◌}
use Rattle.std.proofs.lemmas.Grind.{same_number_lists}
use Rattle.std.proofs.lemmas.List.{length-replicate, get_or-replicate}

-- The words of a page table of unused entries: 512 words 0.
unfoldable pub zero_words : List ℕ
zero_words = replicate 512 0

-- The table of unused entries has 512 words.
pub length-zero_words : length zero_words ≡ 512
unfolding zero_words
length-zero_words = length-replicate {A = ℕ} 512 0

-- Each of the 512 words of the table of unused entries is 0.
pub get_or-zero_words : (k : ℕ) → k < 512 → get_or zero_words k 0 ≡ 0
unfolding zero_words
get_or-zero_words k h = get_or-replicate {A = ℕ} 512 k 0 0 h

-- A table whose 512 words are all 0 is the table of unused entries.
pub all_zero : (xs : List ℕ) → length xs ≡ 512 → ((k : ℕ) → k < 512 → get_or xs k 0 ≡ 0) → xs ≡ zero_words
all_zero xs l h =
    same_number_lists xs zero_words (l ∙ sym length-zero_words) (λ k b.
    let b' = rw l at b in h k b' ∙ sym (get_or-zero_words k b'))
