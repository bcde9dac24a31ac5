-- Results that are errors.
use Rattle.std.proofs.Common.{Result, Ok, Err, IfErr}

-- a property of all errors holds for the error of a result
pub of_any_error : {T E : Type 0} (result : Result T E) (P : E → Type 0) → ((error : E) → P error) → IfErr result P
of_any_error (Ok value) P all = tt
of_any_error (Err error) P all = all error
