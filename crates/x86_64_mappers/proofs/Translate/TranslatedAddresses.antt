-- The result of a translation is a physical address.
use Rattle.std.proofs.Common.{zero, suc, ◌≡◌, ℕ, ◌+◌, ◌%◌, ◌^◌, ◌<◌, ◌≤◌, ◌&&◌, nat_le, Bool, true, false, cond, List, [], ◌∷◌, ◌++◌, Option, Some, refl, sym, subst, arith}
use Rattle.std.proofs.lemmas.Bool.{leb-true}
use Rattle.x86_64_model.specs.Entry.{address, flags}
use Rattle.x86_64_model.proofs.Lemmas.Entries.Words.{address_aligned, address_within}
use Rattle.x86_64_model.specs.PageWalk.{page_start}
use Rattle.x86_64_model.specs.Position.{span, index}
use Rattle.x86_64_model.specs.Translation.{Translated, NotMapped, Mapped, translate_on, translate}
use Rattle.x86_64_tables.specs.Translations.{StaysBelow}

large : (level e p : ℕ) → 1 < level → level ≤ 3 → page_start level e + p % span level < 2 ^ 52
large zero e p low high = absurd (omega arith)
large (suc zero) e p low high = absurd (omega arith)
large (suc (suc zero)) e p low high = omega (arith, address_within e)
large (suc (suc (suc zero))) e p low high = omega (arith, address_within e)
large (suc (suc (suc (suc n)))) e p low high = absurd (omega arith)

stays_on : (E : List ℕ → ℕ) (p level : ℕ) (q : List ℕ) → StaysBelow (Some (translate_on E p level q))
unfolding translate_on
stays_on E p zero q = tt
stays_on E p (suc zero) q = by (E (q ++ index 1 p ∷ [])) _
  where
    by : (e : ℕ) (u : Bool) → StaysBelow (Some (cond u (Mapped (span 1) (address e) (p % span 1) (flags e)) NotMapped))
    by e true = omega (arith, address_aligned e, address_within e)
    by e false = tt
stays_on E p (suc (suc n)) q =
    by (E (q ++ index (suc (suc n)) p ∷ [])) _ (nat_le (suc (suc n)) 3) _ _ (leb-true (suc (suc n)) 3) (stays_on E p (suc n) (q ++ index (suc (suc n)) p ∷ []))
  where
    by : (e : ℕ) (h low g : Bool) (rest : Translated) → (low ≡ true → suc (suc n) ≤ 3) → StaysBelow (Some rest)
        → StaysBelow (Some (cond h (cond (low && g) (Mapped (span (suc (suc n))) (page_start (suc (suc n)) e) (p % span (suc (suc n))) (flags e)) rest) NotMapped))
    by e false low g rest is below = tt
    by e true true true rest is below = large (suc (suc n)) e p (omega arith) (is refl)
    by e true true false rest is below = below
    by e true false g rest is below = below

pub stays : (L : ℕ) (E : List ℕ → ℕ) (p : ℕ) (answer : Option Translated) → answer ≡ Some (translate L E p) → StaysBelow answer
unfolding translate
stays L E p answer is = let S : Option Translated → Type 0 = StaysBelow in subst S (sym is) (stays_on E p L [])
