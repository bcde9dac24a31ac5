-- The model's call for a call of a list is a well-formed one.
use Rattle.std.proofs.Common.{◌≡◌, ◌<◌, ◌≤◌, ℕ, List, [], ◌∷◌, map, lit≤, sym, subst, arith}
use Rattle.x86_64_model.specs.Call.{Call, IsCall, IsPageLevel}
use Rattle.x86_64_model.specs.Laws.Steps.{AllCalls}
use Rattle.x86_64.specs.Calls.{page_call, to_call}
use Rattle.x86_64.specs.declared.call_values.SizeCallIn.{SizeCallIn}
use Rattle.x86_64.specs.declared.call_values.SizeCallIn.TheVariants as size
use Rattle.x86_64.specs.declared.call_values.CallIn.{CallIn}
use Rattle.x86_64.specs.declared.call_values.CallIn.TheVariants as call

-- ---- with any number of levels

module _ {P5 : Type 0} (levels : ℕ) (some : 3 < levels) (bits : P5 → ℕ) (five : (flags : P5) → levels ≡ 5) where
  page_is_call : {S L : Type 0} (level : ℕ) → IsPageLevel levels level → (call : SizeCallIn S L P5) → IsCall levels (page_call level bits call)
  page_is_call level is (size.SetFlagsP5 page flags) = (lit≤ tt, subst (λ n. 5 ≤ n) (sym (five flags)) (lit≤ tt), is)
  page_is_call level is (size.SetFlagsP4 page flags) = (lit≤ tt, some, is)
  page_is_call level is (size.SetFlagsP3 page flags) = (lit≤ tt, omega (arith, some), is)
  page_is_call level is (size.SetFlagsP2 page flags) = (lit≤ tt, omega (arith, some), is)
  page_is_call level is call = is

  pub is_call : {L : Type 0} (n : ℕ) (call : CallIn L P5) → IsCall levels (to_call n bits call)
  is_call n (call.Of4KiB c) = page_is_call 1 (lit≤ tt, lit≤ tt, omega (arith, some)) c
  is_call n (call.Of2MiB c) = page_is_call 2 (lit≤ tt, lit≤ tt, omega (arith, some)) c
  is_call n (call.Of1GiB c) = page_is_call 3 (lit≤ tt, lit≤ tt, omega (arith, some)) c
  is_call n c = tt

pub are_calls : {C : Type 0} (L : ℕ) (asks : C → Call) → ((call : C) → IsCall L (asks call)) → (calls : List C) → AllCalls L (map asks calls)
are_calls L asks is_call [] = tt
are_calls L asks is_call (call ∷ calls) = (is_call call, are_calls L asks is_call calls)
