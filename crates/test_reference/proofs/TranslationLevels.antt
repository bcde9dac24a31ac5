-- The translation of a position by its entries, level by level.
use Rattle.std.proofs.Common.{◌≡◌, ◌≢◌, ◌⊎◌, ⊎_elim, ℕ, zero, suc, ◌-◌, ◌%◌, ◌≤◌, ◌<◌, ◌&&◌, nat_le, true, false, cond, List, [], ◌∷◌, ◌++◌, refl, sym, ap, ◌∙◌, arith}
use Rattle.std.proofs.lemmas.Bool.{le-leb, lt-leb, and_left, and_right}
use Rattle.x86_64_model.specs.Position.{span, index}
use Rattle.x86_64_model.specs.Entry.{present, huge, address, flags, used}
use Rattle.x86_64_model.specs.PageWalk.{page_start}
use Rattle.x86_64_model.specs.Translation.{NotMapped, Mapped, translate_on}

pub at_zero : (E : List ℕ → ℕ) (p level : ℕ) (q : List ℕ) → level ≡ 0 → translate_on E p level q ≡ NotMapped
unfolding translate_on
at_zero E p level q z = ap (λ n. translate_on E p n q) z

pub at_one : (E : List ℕ → ℕ) (p level : ℕ) (q : List ℕ) (e : ℕ) → level ≡ 1 → e ≡ E (q ++ index level p ∷ []) → translate_on E p level q ≡ cond (used e) (Mapped (span 1) (address e) (p % span 1) (flags e)) NotMapped
unfolding translate_on
at_one E p level q e z is = ap (λ n. translate_on E p n q) z ∙ ap (λ e. cond (used e) (Mapped (span 1) (address e) (p % span 1) (flags e)) NotMapped) (sym (is ∙ ap (λ n. E (q ++ index n p ∷ [])) z))

above_by : (E : List ℕ → ℕ) (p level : ℕ) (q : List ℕ) → level ≢ 0 → level ≢ 1 → translate_on E p level q ≡ (let e = E (q ++ index level p ∷ []) in
    cond (present e) (cond (nat_le level 3 && huge e) (Mapped (span level) (page_start level e) (p % span level) (flags e)) (translate_on E p (level - 1) (q ++ index level p ∷ []))) NotMapped)
unfolding translate_on
above_by E p zero q z o = absurd (z refl)
above_by E p (suc zero) q z o = absurd (o refl)
above_by E p (suc (suc n)) q z o = ap (λ m. let level = suc (suc n) in let e = E (q ++ index level p ∷ []) in
    cond (present e) (cond (nat_le level 3 && huge e) (Mapped (span level) (page_start level e) (p % span level) (flags e)) (translate_on E p m (q ++ index level p ∷ []))) NotMapped) less
  where
    less : suc n ≡ suc (suc n) - 1
    less = omega arith

pub above : (E : List ℕ → ℕ) (p level : ℕ) (q : List ℕ) (e : ℕ) → level ≢ 0 → level ≢ 1 → e ≡ E (q ++ index level p ∷ []) → translate_on E p level q
    ≡ cond (present e) (cond (nat_le level 3 && huge e) (Mapped (span level) (page_start level e) (p % span level) (flags e)) (translate_on E p (level - 1) (q ++ index level p ∷ []))) NotMapped
above E p level q e z o is = above_by E p level q z o ∙ ap (λ e. cond (present e) (cond (nat_le level 3 && huge e) (Mapped (span level) (page_start level e) (p % span level) (flags e)) (translate_on E p (level - 1) (q ++ index level p ∷ []))) NotMapped) (sym is)

pub above_absent : (E : List ℕ → ℕ) (p level : ℕ) (q : List ℕ) (e : ℕ) → level ≢ 0 → level ≢ 1 → e ≡ E (q ++ index level p ∷ []) → present e ≡ false → NotMapped ≡ translate_on E p level q
above_absent E p level q e z o is a = sym (above E p level q e z o is ∙ ap (λ b. cond b (cond (nat_le level 3 && huge e) (Mapped (span level) (page_start level e) (p % span level) (flags e)) (translate_on E p (level - 1) (q ++ index level p ∷ []))) NotMapped) a)

pub above_huge : (E : List ℕ → ℕ) (p level : ℕ) (q : List ℕ) (e : ℕ) → level ≢ 0 → level ≢ 1 → e ≡ E (q ++ index level p ∷ []) → present e ≡ true → level ≤ 3 → huge e ≡ true → Mapped (span level) (page_start level e) (p % span level) (flags e) ≡ translate_on E p level q
above_huge E p level q e z o is a l h = sym (above E p level q e z o is ∙ ap (λ b. cond b (cond (nat_le level 3 && huge e) (Mapped (span level) (page_start level e) (p % span level) (flags e)) (translate_on E p (level - 1) (q ++ index level p ∷ []))) NotMapped) a
    ∙ ap (λ b. cond (b && huge e) (Mapped (span level) (page_start level e) (p % span level) (flags e)) (translate_on E p (level - 1) (q ++ index level p ∷ []))) (le-leb level 3 l)
    ∙ ap (λ b. cond b (Mapped (span level) (page_start level e) (p % span level) (flags e)) (translate_on E p (level - 1) (q ++ index level p ∷ []))) h)

pub above_table : (E : List ℕ → ℕ) (p level : ℕ) (q : List ℕ) (e : ℕ) → level ≢ 0 → level ≢ 1 → e ≡ E (q ++ index level p ∷ []) → present e ≡ true → (3 < level) ⊎ (huge e ≡ false) → translate_on E p (level - 1) (q ++ index level p ∷ []) ≡ translate_on E p level q
above_table E p level q e z o is a t = sym (above E p level q e z o is ∙ ap (λ b. cond b (cond (nat_le level 3 && huge e) (Mapped (span level) (page_start level e) (p % span level) (flags e)) (translate_on E p (level - 1) (q ++ index level p ∷ []))) NotMapped) a
    ∙ ap (λ b. cond b (Mapped (span level) (page_start level e) (p % span level) (flags e)) (translate_on E p (level - 1) (q ++ index level p ∷ []))) (⊎_elim (λ l. and_left (nat_le level 3) (huge e) (lt-leb level 3 l)) (λ h. and_right (nat_le level 3) (huge e) h) t))

pub one_used : (E : List ℕ → ℕ) (p level : ℕ) (q : List ℕ) (e : ℕ) → level ≡ 1 → e ≡ E (q ++ index level p ∷ []) → used e ≡ true → Mapped (span 1) (address e) (p % span 1) (flags e) ≡ translate_on E p level q
one_used E p level q e z is u = sym (at_one E p level q e z is ∙ ap (λ b. cond b (Mapped (span 1) (address e) (p % span 1) (flags e)) NotMapped) u)

pub one_unused : (E : List ℕ → ℕ) (p level : ℕ) (q : List ℕ) (e : ℕ) → level ≡ 1 → e ≡ E (q ++ index level p ∷ []) → used e ≡ false → NotMapped ≡ translate_on E p level q
one_unused E p level q e z is u = sym (at_one E p level q e z is ∙ ap (λ b. cond b (Mapped (span 1) (address e) (p % span 1) (flags e)) NotMapped) u)
