-- The tables of a memory that is mapped at an offset.
use Rattle.std.specs.Prelude.{◌≡◌, ◌↔◌, IsTrue, ℕ, Bool, true, false, cond, List, Option, Some, None, IsSome, ◌+◌, ◌-◌, ◌*◌, ◌/◌, ◌^◌, ◌&&◌, ◌||◌, nat_lt, nat_le}
use Rattle.std.specs.Cmp.{both_ways}
use Rattle.std.specs.FinMap.{get}
use Rattle.std.proofs.Common.{arith, refl, sym, ap, ap₂, ◌∙◌, subst, inl, inr, eqb-true, lt-ltb, le-leb, ltb-true, leb-true}
use Rattle.std.proofs.lemmas.Bool.{and_parts}
use Rattle.x86_64_model.specs.Entry.{is_frame}
use Rattle.x86_64_model.specs.Validity.{paths_of}
use Rattle.x86_64_model.specs.Hierarchy.{◌laid_in◌, Valid, paths}
use Rattle.x86_64_model.proofs.Lemmas.Entries.Words.{address_aligned}
use Rattle.x86_64_model.specs.Memory.{Memory, Words, identity_places, words_of}
use Rattle.x86_64_model.specs.Pool.{Fits}
use Rattle.x86_64_model.specs.Position.{raw, lower_half, IsCanonical}
use Rattle.x86_64_model.specs.Window.{IsValidFor, outside_window}
use Rattle.x86_64_mappers.specs.Layouts.{direct_at}
use Rattle.x86_64_mappers.specs.Offsets.{is_reached, offset_places, OffsetFits}

pub reached_from_canonical : (L offset frame : ℕ) → IsCanonical L (raw L offset + frame) → is_reached L offset frame ≡ true
unfolding is_reached
reached_from_canonical L offset frame (inl low) =
    ap (λ b. b || (nat_le (2 ^ 64 - lower_half L) (raw L offset + frame) && nat_lt (raw L offset + frame) (2 ^ 64))) (lt-ltb (raw L offset + frame) (lower_half L) low)
reached_from_canonical L offset frame (inr high) =
    let sum = raw L offset + frame in
    ap₂ (λ a b. nat_lt sum (lower_half L) || (a && b)) (le-leb (2 ^ 64 - lower_half L) sum high.0) (lt-ltb sum (2 ^ 64) high.1)
    ∙ either (nat_lt sum (lower_half L))
  where
    either : (b : Bool) → (b || true) ≡ true
    either true = refl
    either false = refl

pub canonical_from_reached : (L offset frame : ℕ) → is_reached L offset frame ≡ true → IsCanonical L (raw L offset + frame)
unfolding is_reached
canonical_from_reached L offset frame = by (nat_lt (raw L offset + frame) (lower_half L)) refl
  where
    sum : ℕ
    sum = raw L offset + frame

    by : (b : Bool) → nat_lt sum (lower_half L) ≡ b → (b || (nat_le (2 ^ 64 - lower_half L) sum && nat_lt sum (2 ^ 64))) ≡ true → IsCanonical L sum
    by true low h = inl (ltb-true sum (lower_half L) low)
    by false low h =
        let p = and_parts (nat_le (2 ^ 64 - lower_half L) sum) (nat_lt sum (2 ^ 64)) h in
        inr (leb-true (2 ^ 64 - lower_half L) sum p.0, ltb-true sum (2 ^ 64) p.1)

-- a test of canonical sums says whether the frame is reached
pub reached_alike : (L : ℕ) (test : Bool) (offset frame : ℕ) → IsTrue test ↔ IsCanonical L (raw L offset + frame) → test ≡ is_reached L offset frame
reached_alike L test offset frame is =
    both_ways test (is_reached L offset frame) (λ h. reached_from_canonical L offset frame (is.0 h)) (λ h. is.1 (canonical_from_reached L offset frame h))

-- a memory that is reached has the same tables in the same frames at the offset as by the identity mapping
pub offset_words : (L : ℕ) (memory : Memory) (offset : ℕ) → OffsetFits L memory offset → words_of memory (offset_places L offset) ≡ words_of memory identity_places
offset_words L memory offset fits = λ n f. at f n
  where
    same : (b : Bool) (o : Option (List ℕ)) → cond b o o ≡ o
    same true o = refl
    same false o = refl

    here : (f : ℕ) (o : Option (List ℕ)) → get memory (f / 4096) ≡ o → is_frame f ≡ true → cond (is_reached L offset f) o None ≡ o
    here f None is frame = same (is_reached L offset f) None
    here f (Some table) is frame =
        let number : f / 4096 * 4096 ≡ f = omega (arith, address_aligned f, eqb-true _ f frame) in
        let there : IsSome (get memory (f / 4096)) = subst IsSome (sym is) refl in
        ap (λ b. cond b (Some table) None) (reached_from_canonical L offset f (subst (λ n. IsCanonical L (raw L offset + n)) number (fits (f / 4096) there)))

    by : (f : ℕ) (b : Bool) → is_frame f ≡ b → cond (b && is_reached L offset f) (get memory (f / 4096)) None ≡ cond b (get memory (f / 4096)) None
    by f true frame = here f (get memory (f / 4096)) refl frame
    by f false frame = refl

    at : (f : ℕ) → words_of memory (offset_places L offset) f ≡ words_of memory identity_places f
    at f = by f (is_frame f) refl

-- what holds of the tables by the identity mapping holds of them at the offset, and vice versa
alike : (L : ℕ) (memory : Memory) (offset : ℕ) → OffsetFits L memory offset → (P : Words → Type 0) → P (words_of memory identity_places) ↔ P (words_of memory (offset_places L offset))
alike L memory offset fits P = let same = offset_words L memory offset fits in (subst P (sym same), subst P same)

-- a hierarchy is valid at the offset if and only if it is by the identity mapping
pub offset_valid : (L : ℕ) (memory : Memory) (offset : ℕ) → OffsetFits L memory offset
    → (root : ℕ) → Valid (direct_at L identity_places root laid_in memory) ↔ Valid (direct_at L (offset_places L offset) root laid_in memory)
offset_valid L memory offset fits root = alike L memory offset fits (λ words. IsValidFor L None words root (paths_of L (outside_window None root words) root))

-- a pool fits it at the offset if and only if it does by the identity mapping
pub offset_fits : (L : ℕ) (memory : Memory) (offset : ℕ) → OffsetFits L memory offset → (root : ℕ) (serves : ℕ → Bool) (pool : List ℕ)
    → Fits L None (words_of memory identity_places) root (paths (direct_at L identity_places root laid_in memory)) serves pool
    ↔ Fits L None (words_of memory (offset_places L offset)) root (paths (direct_at L (offset_places L offset) root laid_in memory)) serves pool
offset_fits L memory offset fits root serves pool = alike L memory offset fits (λ words. Fits L None words root (paths_of L (outside_window None root words) root) serves pool)
