-- A frame's start plus the offset in the page fits a word.
use Rattle.std.proofs.Common.{◌≡◌, ℕ, zero, suc, ◌+◌, ◌*◌, ◌/◌, ◌%◌, ◌^◌, ◌≤◌, ◌<◌, ◌&&◌, nat_le, Bool, true, false, cond, List, [], ◌∷◌, ◌++◌, arith, lit≤, refl, sym, subst, IfOk, Result, Ok, Err}
use Rattle.std.specs.declared.alloc.AllocError.{AllocError}
use Rattle.test_reference.specs.declared.plain_calls.Translated as plain
use Rattle.test_reference.specs.Calls.{translated_of}
use Rattle.std.proofs.lemmas.Bool.{leb-true, and_parts}
use Rattle.x86_64_model.specs.Position.{span, index}
use Rattle.x86_64_model.specs.Entry.{present, huge, address, flags, used}
use Rattle.x86_64_model.specs.PageWalk.{page_start}
use Rattle.x86_64_model.specs.Translation.{Translated, NotMapped, Mapped, translate_on, translate}
use Rattle.test_reference.specs.Machine.{CanAdd}
use Rattle.x86_64_model.proofs.Lemmas.Entries.Words.{address_within}

-- pages are at most 1GiB
small_span : (level : ℕ) → level ≤ 3 → (1 ≤ span level) × (span level ≤ 2 ^ 30)
small_span zero h = (lit≤ tt, lit≤ tt)
small_span (suc zero) h = (lit≤ tt, lit≤ tt)
small_span (suc (suc zero)) h = (lit≤ tt, lit≤ tt)
small_span (suc (suc (suc zero))) h = (lit≤ tt, lit≤ tt)
small_span (suc (suc (suc (suc n)))) h = absurd (omega arith)

rounded : (a s : ℕ) → 1 ≤ s → a / s * s ≤ a
rounded a s h = omega arith

fits : (a p s start : ℕ) → a < 2 ^ 52 → 1 ≤ s → s ≤ 2 ^ 30 → start ≤ a → start + p % s < 2 ^ 64
fits a p s start h one most h2 = omega arith

mapped_fits : (p level e given : ℕ) → level ≤ 3 → page_start level e + p % span level < 2 ^ 64
mapped_fits p level e given h = fits (address e) p (span level) (page_start level e) (address_within e) (small_span level h).0 (small_span level h).1 (rounded (address e) (span level) (small_span level h).0)

either : (a : Bool) (x y : Translated) → (a ≡ true → CanAdd x) → CanAdd y → CanAdd (cond a x y)
either true x y f g = f refl
either false x y f g = g

can_add_on : (E : List ℕ → ℕ) (p level : ℕ) (q : List ℕ) → CanAdd (translate_on E p level q)
unfolding translate_on
can_add_on E p zero q = tt
can_add_on E p (suc zero) q = let e = E (q ++ index 1 p ∷ []) in
    either (used e) (Mapped (span 1) (address e) (p % span 1) (flags e)) NotMapped (λ u. fits (address e) p (span 1) (address e) (address_within e) (lit≤ tt) (lit≤ tt) (omega arith)) tt
can_add_on E p (suc (suc n)) q = let level = suc (suc n) in let e = E (q ++ index level p ∷ []) in
    either (present e) (cond (nat_le level 3 && huge e) (Mapped (span level) (page_start level e) (p % span level) (flags e)) (translate_on E p (suc n) (q ++ index level p ∷ []))) NotMapped (λ _.
    either (nat_le level 3 && huge e) (Mapped (span level) (page_start level e) (p % span level) (flags e)) (translate_on E p (suc n) (q ++ index level p ∷ []))
    (λ h. mapped_fits p level e (flags e) (leb-true level 3 (and_parts (nat_le level 3) (huge e) h).0)) (can_add_on E p (suc n) (q ++ index level p ∷ []))) tt

pub can_add : (L : ℕ) (E : List ℕ → ℕ) (p : ℕ) → CanAdd (translate L E p)
unfolding translate
can_add L E p = can_add_on E p L []

pub can_add_if_ok : (r : Result plain.Translated AllocError) (x : Translated) → CanAdd x → IfOk r (λ t. translated_of t ≡ x) → IfOk r (λ t. CanAdd (translated_of t))
can_add_if_ok (Ok t) x h e = subst CanAdd (sym e) h
can_add_if_ok (Err why) x h e = tt
