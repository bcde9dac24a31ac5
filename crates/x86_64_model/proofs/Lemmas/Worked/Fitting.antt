-- The premises of the laws can be met.
use Rattle.std.proofs.Common.{◌≡◌, ◌≢◌, ◌⊎◌, inl, inr, ⊎_elim, ℕ, zero, suc, get_or, ◌&&◌, true, false, cond, [], ◌∷◌, Option, Some, None, IsSome, nat_lt, replicate, refl, sym, ◌∙◌, subst, lit<}
use Rattle.std.proofs.lemmas.Bool.{eqb-false}
use Rattle.std.proofs.lemmas.Option.{none-some, same_Some}
use Rattle.std.specs.FinMap.{empty}
use Rattle.x86_64_model.specs.Entry.{has, address, is_frame}
use Rattle.x86_64_model.specs.Memory.{Words, word}
use Rattle.x86_64_model.specs.Window.{Window}
use Rattle.x86_64_model.specs.Validity.{IsValid}
use Rattle.x86_64_model.specs.Lists.{In}
use Rattle.x86_64_model.specs.Pool.{IsTable, Fits}
use Rattle.x86_64_model.specs.Laws.Worked.{nothing_mapped, four_frames, self_window, SomeWordsFit, SomePoolFits}
use Rattle.x86_64_model.proofs.Lemmas.Paths.Puts.{entry-empty}
use Rattle.x86_64_model.proofs.Lemmas.Hierarchies.Empty.{empty_valid, leads_nowhere}
use Rattle.x86_64_model.proofs.Lemmas.Hierarchies.Trees.{IsHierarchy, hierarchy_of_valid}
use Rattle.x86_64_model.proofs.Lemmas.Machines.States.{Aside}
use Rattle.x86_64_model.proofs.Lemmas.Machines.Witness.{GoodSelf, with_self, witness, witness_else}

-- eight frames, all 0
zeros : Words
zeros f = cond (is_frame f && nat_lt f 0x8000) (Some (replicate 512 0)) None

get_zero : (n i : ℕ) → ◌≡◌ {A = ℕ} (get_or (replicate n 0) i 0) 0
get_zero zero i = refl
get_zero (suc n) zero = refl
get_zero (suc n) (suc i) = get_zero n i

zero_words : (i : ℕ) → word zeros 0x1000 i ≡ 0
unfolding word zeros address
zero_words i = elim (nat_lt i 512) as (λ b. ◌≡◌ {A = ℕ} (cond b (get_or (replicate 512 0) i 0) 0) 0) [ true ↦ get_zero 512 i | false ↦ refl ]

each : (P : ℕ → Type 0) → P 0x2000 → P 0x3000 → P 0x4000 → P 0x5000 → (f : ℕ) → In four_frames f → P f
each P a b c d f (inl e) = subst P e a
each P a b c d f (inr (inl e)) = subst P e b
each P a b c d f (inr (inr (inl e))) = subst P e c
each P a b c d f (inr (inr (inr (inl e)))) = subst P e d
each P a b c d f (inr (inr (inr (inr h)))) = absurd h

other : (g f : ℕ) → g ≢ f → {X : Type 0} → (X → ⊥) → (g ≡ f) ⊎ X → ⊥
other g f n x h = ⊎_elim n x h

none_left : ⊥ → ⊥
none_left h = h

module _ (L : ℕ) where
  valid : IsValid L zeros 0x1000 empty
  unfolding zeros address
  valid = empty_valid L zeros 0x1000 refl zero_words

  hierarchy : IsHierarchy L 0x1000 empty
  hierarchy = hierarchy_of_valid L zeros 0x1000 empty valid

  free : (f : ℕ) → In four_frames f → IsTable L 0x1000 empty f → ⊥
  free f i ([], e) = each (λ f. 0x1000 ≡ f → ⊥) (eqb-false 0x1000 0x2000 refl) (eqb-false 0x1000 0x3000 refl) (eqb-false 0x1000 0x4000 refl) (eqb-false 0x1000 0x5000 refl) f i (same_Some 0x1000 f e)
  free f i (j ∷ q, e) = none-some f (sym (leads_nowhere L 0x1000 j q) ∙ e)

  there : (f : ℕ) → In four_frames f → IsSome (zeros f)
  unfolding zeros address
  there f i = each (λ f. IsSome (zeros f)) refl refl refl refl f i

  fits : (window : Option Window) → Aside window empty → GoodSelf L 0x1000 empty zeros hierarchy valid.own_frames window
      → Fits L window (with_self L 0x1000 empty zeros hierarchy valid.own_frames window) 0x1000 empty (λ f. true) four_frames
  unfolding address
  fits window aside good = record {
    valid = witness L 0x1000 empty zeros hierarchy valid.own_frames window aside good;
    each_once = (
      other 0x3000 0x2000 (eqb-false 0x3000 0x2000 refl) (other 0x4000 0x2000 (eqb-false 0x4000 0x2000 refl) (other 0x5000 0x2000 (eqb-false 0x5000 0x2000 refl) none_left)),
      (other 0x4000 0x3000 (eqb-false 0x4000 0x3000 refl) (other 0x5000 0x3000 (eqb-false 0x5000 0x3000 refl) none_left), (other 0x5000 0x4000 (eqb-false 0x5000 0x4000 refl) none_left, (none_left, tt))),
    );
    in_memory = λ f i. subst IsSome (sym (witness_else L 0x1000 empty zeros hierarchy valid.own_frames window f (free f i))) (there f i);
    are_frames = λ f i. each (λ f. is_frame f ≡ true) refl refl refl refl f i;
    not_zero = other 0x2000 0 (eqb-false 0x2000 0 refl) (other 0x3000 0 (eqb-false 0x3000 0 refl) (other 0x4000 0 (eqb-false 0x4000 0 refl) (other 0x5000 0 (eqb-false 0x5000 0 refl) none_left)));
    no_table = free;
    serves_pool = λ f i. refl;
    serves_tables = λ i q f t. refl;
  }

  some_words_fit : (window : Option Window) → Aside window empty → GoodSelf L 0x1000 empty zeros hierarchy valid.own_frames window → SomeWordsFit L window
  unfolding nothing_mapped
  some_words_fit window aside good = (with_self L 0x1000 empty zeros hierarchy valid.own_frames window, fits window aside good)

pub some_pool_fits : SomePoolFits
unfolding has address
some_pool_fits = record {
  direct = λ L. some_words_fit L None tt tt;
  recursive = λ L. some_words_fit L (Some self_window) (entry-empty (510 ∷ [])) (lit< tt, (refl, refl, refl));
}
