-- The effect on the memory of a write to an entry that was lent.
use Rattle.std.proofs.Common.{◌≡◌, ◌<◌, ◌==◌, ℕ, false, List, [], ◌∷◌, drop, refl, Some, None, slice_get, bit_and, ap, ◌∙◌, subst}
use Rattle.x86_64_model.specs.Entry.{IsParentFlags, huge, has, flags}
use Rattle.x86_64_model.proofs.Lemmas.Entries.Bits.{huge_flags}
use Rattle.x86_64_model.specs.Memory.{Memory, Places, Distinct}
use Rattle.x86_64_mappers.specs.private.Writes.{IsSet, word_in_frame}
use Rattle.x86_64_mappers.proofs.Memory.Changed.{set_same}

module _ (places : Places) (m : Memory) (f i e : ℕ) (is : e ≡ word_in_frame places m f i) (n : Memory) where
  -- a word that was written with its old value
  pub unchanged : Distinct places → i < 512 → IsSet places m f i e n → n ≡ m
  unchanged apart small k = set_same places apart m f i n small (subst (λ w. IsSet places m f i w n) is k)

-- a test of a word's flags is a test of the word
pub tested_huge : (e given : ℕ) → given ≡ flags e → (bit_and given 0x80 == 0x80) ≡ huge e
unfolding has
tested_huge e given is = ap (λ x. bit_and x 0x80 == 0x80) is ∙ huge_flags e

pub parents_not_huge : (given : ℕ) → IsParentFlags given → huge given ≡ false
unfolding has
parents_not_huge given is = ap (λ x. x == 0x80) is.not_huge

pub supply_first : (s rest : List ℕ) (g : ℕ) → Some g ≡ slice_get s 0 → rest ≡ drop 1 s → s ≡ g ∷ rest
supply_first [] rest g e r = cc
supply_first (x ∷ xs) rest g e r = cc

pub supply_empty : (s : List ℕ) → slice_get s 0 ≡ None → s ≡ []
supply_empty [] e = refl
supply_empty (x ∷ xs) e = cc
