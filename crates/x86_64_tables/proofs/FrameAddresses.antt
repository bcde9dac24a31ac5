-- Which numbers are addresses of frames.
use Rattle.std.proofs.Common.{◌≡◌, ◌↔◌, ◌<◌, ◌^◌, ◌%◌, if◌then◌else◌, ℕ, Bool, true, false, Some, None, Option, Result, Ok, Err, IsOk, IfOk, refl, sym, ap, ◌∙◌, subst, arith, eqb-true, eq-eqb}
use Rattle.std.specs.Result.{result_ok}
use Rattle.std.proofs.lemmas.Option.{none-some, same_Some}
use Rattle.x86_64_model.specs.Entry.{address, is_frame}
use Rattle.x86_64_model.proofs.Lemmas.Entries.Bits.{address_is}
use Rattle.x86_64_model.proofs.Lemmas.Entries.Words.{address-multiple}

-- multiples of 4096 below 2^52
pub frame_bounds : (f : ℕ) → is_frame f ≡ true → (f < 2 ^ 52) × (f % 4096 ≡ 0)
frame_bounds f h = let is : address f ≡ f = eqb-true _ f h in let parts = address_is f in (omega (arith, is, parts), omega (arith, is, parts))

abbrev none : Option ℕ
none = None

pub no_frame : (f : ℕ) → None ≡ (if is_frame f then Some f else None) → is_frame f ≡ false
no_frame f = by (is_frame f)
  where
    by : (b : Bool) → none ≡ (if b then Some f else None) → b ≡ false
    by true e = absurd (none-some f e)
    by false e = refl

-- ---- what the tests of a number tell, one after another

-- it isn't below 2^52
pub no_address : {E : Type 0} (tried : Result ℕ E) (f : ℕ) → (f < 2 ^ 52 → IsOk tried) → result_ok tried ≡ None → None ≡ (if is_frame f then Some f else None)
no_address (Ok a) f below e = absurd (none-some a (sym e))
no_address (Err _) f below e = by (is_frame f) refl
  where
    by : (b : Bool) → is_frame f ≡ b → none ≡ (if b then Some f else None)
    by true h = absurd (let t = below (frame_bounds f h).0 in cc)
    by false h = refl

-- it is, and is a multiple of 4096 or not
pub frame_of : {D E : Type 0} (tried : Result ℕ D) (f a : ℕ) (aligned : Result ℕ E) → (IsOk tried ↔ (f < 2 ^ 52)) → IfOk tried (λ a. a ≡ f) → result_ok tried ≡ Some a
    → (IsOk aligned ↔ (a % 4096 ≡ 0)) → IfOk aligned (λ g. g ≡ a) → result_ok aligned ≡ (if is_frame f then Some f else None)
frame_of (Err _) f a aligned below is e multiple value = absurd (none-some a e)
frame_of (Ok b) f a (Ok g) below is e multiple value =
    let same : b ≡ a = same_Some _ _ e in
    let frame : is_frame f ≡ true = eq-eqb (address f) f (address-multiple f (subst (λ a. a % 4096 ≡ 0) (sym same ∙ is) (multiple.0 refl)) (below.0 refl)) in
    ap Some (value ∙ sym same ∙ is) ∙ sym (ap (λ b. if b then Some f else None) frame)
frame_of (Ok b) f a (Err _) below is e multiple value = by (is_frame f) refl
  where
    by : (b : Bool) → is_frame f ≡ b → none ≡ (if b then Some f else None)
    by true h = absurd (let t = multiple.1 (subst (λ a. a % 4096 ≡ 0) (sym is ∙ same_Some _ _ e) (frame_bounds f h).1) in cc)
    by false h = refl
