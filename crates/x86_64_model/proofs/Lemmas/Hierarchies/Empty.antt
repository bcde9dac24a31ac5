-- An empty root is a valid hierarchy, with nothing mapped.
use Rattle.std.proofs.Common.{◌≡◌, ℕ, List, [], ◌∷◌, ◌++◌, Some, None, IsSome, refl, sym, ap, ◌∙◌, subst}
use Rattle.std.proofs.lemmas.Option.{none-some, same_Some}
use Rattle.std.specs.FinMap.{empty}
use Rattle.x86_64_model.specs.Entry.{has, huge}
use Rattle.x86_64_model.specs.Memory.{Words, word}
use Rattle.x86_64_model.specs.PathMap.{entry, table_of, table_at}
use Rattle.x86_64_model.specs.Validity.{entry_in, IsValid}
use Rattle.x86_64_model.proofs.Lemmas.Paths.Puts.{entry-empty, used_alone-empty}
use Rattle.x86_64_model.proofs.Lemmas.Hierarchies.Changes.{unused_no_table}

pub leads_nowhere : (L root i : ℕ) (q : List ℕ) → table_at L root empty (i ∷ q) ≡ None
leads_nowhere L root i q = ap (table_of L (i ∷ q)) (entry-empty (i ∷ q)) ∙ unused_no_table L (i ∷ q)

pub empty_valid : (L : ℕ) (T : Words) (root : ℕ) → IsSome (T root) → ((i : ℕ) → word T root i ≡ 0) → IsValid L T root empty
unfolding has
empty_valid L T root there zeros = record {
  holds = record { entries = entries; nothing_above = entry-empty []; used_alone = used_alone-empty; in_memory = in_memory };
  own_frames = own;
  not_zero = λ i q e. none-some 0 (sym (leads_nowhere L root i q) ∙ e);
  none_huge = λ q above. ap huge (entry-empty q);
}
  where
    entries : (q : List ℕ) (i : ℕ) → entry empty (q ++ i ∷ []) ≡ entry_in T (table_at L root empty q) i
    entries [] i = entry-empty (i ∷ []) ∙ sym (zeros i)
    entries (j ∷ q) i = entry-empty (j ∷ q ++ i ∷ []) ∙ sym (ap (λ t. entry_in T t i) (leads_nowhere L root j q))

    in_memory : (q : List ℕ) (f : ℕ) → table_at L root empty q ≡ Some f → IsSome (T f)
    in_memory [] f e = subst (λ f. IsSome (T f)) (same_Some root f e) there
    in_memory (j ∷ q) f e = absurd (none-some f (sym (leads_nowhere L root j q) ∙ e))

    own : (p q : List ℕ) (f : ℕ) → table_at L root empty p ≡ Some f → table_at L root empty q ≡ Some f → p ≡ q
    own [] [] f a b = refl
    own [] (j ∷ q) f a b = absurd (none-some f (sym (leads_nowhere L root j q) ∙ b))
    own (i ∷ p) q f a b = absurd (none-some f (sym (leads_nowhere L root i p) ∙ a))
