-- Steps: results, step by step.
use Rattle.std.specs.Prelude.{Result, Ok, Err}

-- The result of the next step on a value, or the fault if there is one.
abbrev pub and_then : {A B E : Type 0} → Result A E → (A → Result B E) → Result B E
and_then (Ok a) next = next a
and_then (Err fault) next = Err fault
