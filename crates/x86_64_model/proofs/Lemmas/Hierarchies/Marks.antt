-- Flags added to an entry keep the hierarchy valid.
use Rattle.std.proofs.Common.{◌≡◌, ◌≢◌, None, IsSome, ◌<◌, ℕ, true, false, List, [], ◌∷◌, ◌++◌, length, Some, bit_or, sym, ap, ◌∙◌, subst}
use Rattle.x86_64_model.proofs.Lemmas.Hierarchies.Elsewhere.{valid_elsewhere}
use Rattle.x86_64_model.specs.Entry.{IsParentFlags, used, huge}
use Rattle.x86_64_model.specs.Memory.{Words, word, set_word}
use Rattle.x86_64_model.specs.PathMap.{PathMap, entry, put, table_of, table_at}
use Rattle.x86_64_model.specs.Validity.{entry_in, IsValid}
use Rattle.x86_64_model.proofs.Lemmas.Hierarchies.Held.{valid_after, table_at_last}
use Rattle.x86_64_model.proofs.Lemmas.Hierarchies.Changes.{may_be_marked, may_be_table}
use Rattle.x86_64_model.proofs.Lemmas.Maps.Frames.{table_of_marked}
use Rattle.x86_64_model.proofs.Lemmas.Entries.Bits.{has_or}

module _ (T : Words) (f i more : ℕ) (words : List ℕ) (is : T f ≡ Some words) (within : i < length words) (small : i < 512) (marks : IsParentFlags more) (u : used (word T f i) ≡ true) where
  pub marked_valid : (L root : ℕ) (M : PathMap) (p : List ℕ) → IsValid L T root M → table_at L root M p ≡ Some f
      → IsValid L (set_word T f i (bit_or (word T f i) more)) root (put M (p ++ i ∷ []) (bit_or (entry M (p ++ i ∷ [])) more))
  marked_valid L root M p valid leads =
      let e : entry M (p ++ i ∷ []) ≡ word T f i = valid.holds.entries p i ∙ ap (λ t. entry_in T t i) leads in
      let w = bit_or (word T f i) more in
      subst (λ x. IsValid L (set_word T f i w) root (put M (p ++ i ∷ []) x)) (ap (λ x. bit_or x more) (sym e))
      (valid_after L T root M p i w f words valid leads is within small
      (may_be_marked L T root M valid p i w
      (table_of_marked L (p ++ i ∷ []) (word T f i) more marks u ∙ ap (table_of L (p ++ i ∷ [])) (sym e) ∙ sym (table_at_last L root M p i))
      (λ above. has_or (word T f i) more 0x80 marks.not_huge ∙ ap huge (sym e) ∙ valid.none_huge (p ++ i ∷ []) above)))

-- A new table: the frame g, which no path leads to, was cleared, and then its entry was written.
pub made_valid : (L : ℕ) (T U : Words) (root : ℕ) (M : PathMap) (p : List ℕ) (i w f g : ℕ) (words : List ℕ)
    → IsValid L T root M → table_at L root M p ≡ Some f → T f ≡ Some words → i < length words → i < 512
    → table_at L root M (p ++ i ∷ []) ≡ None → table_of L (p ++ i ∷ []) w ≡ Some g → huge w ≡ false → g ≢ 0
    → ((q : List ℕ) → table_at L root M q ≢ Some g)
    → ((h : ℕ) → h ≢ g → U h ≡ T h) → IsSome (U g) → ((j : ℕ) → word U g j ≡ 0)
    → IsValid L (set_word U f i w) root (put M (p ++ i ∷ []) w)
made_valid L T U root M p i w f g words valid leads is within small old new low nonzero fresh same there empty =
    let kept : IsValid L U root M = valid_elsewhere L T U root M (λ q h t. same h (λ e. fresh q (t ∙ ap Some e))) valid in
    valid_after L U root M p i w f words kept leads (same f (λ e. fresh p (leads ∙ ap Some e)) ∙ is) within small
    (may_be_table L U root M kept.holds p i w g old new empty there nonzero fresh low)
