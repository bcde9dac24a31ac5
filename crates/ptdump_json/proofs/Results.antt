-- Consequences for results.
use Rattle.std.proofs.Common.{Result, Ok, Err, OnOk, IfErr}

-- a consequence of a fact about a success
pub on_ok : {T E P Q : Type 0} (r : Result T E) → (P → Q) → OnOk r P → OnOk r Q
on_ok (Ok x) f p = f p
on_ok (Err e) f p = tt

-- two facts about a success
pub both_ok : {T E : Type 0} (P Q : Type 0) (r : Result T E) → OnOk r P → OnOk r Q → OnOk r (P × Q)
both_ok P Q (Ok x) p q = (p, q)
both_ok P Q (Err e) p q = tt

-- a consequence of a fact about an error
pub if_err : {T E : Type 0} {P Q : E → Type 0} (r : Result T E) → ((e : E) → P e → Q e) → IfErr r P → IfErr r Q
if_err (Ok x) f p = tt
if_err (Err e) f p = f e p
