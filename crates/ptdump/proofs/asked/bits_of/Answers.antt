use Rattle.std.proofs.Common.{ℕ, List, Option, None, Some, codes, refl}
use Rattle.clap.specs.Matches.{first_value, found_of}
use Rattle.text.specs.Numbers.{number_of}
use Rattle.ptdump.specs.Asked.{IsBits}
use Rattle.ptdump.specs.Options.{IsOption}
use Rattle.ptdump.proofs.Refusals.{of_any_error}
use Rattle.ptdump.proofs.asked.bits_of.Goals as goal

-- a text that is no number is no number of bits
no_bits : (text : Option (List ℕ)) → ((number : Option ℕ) → IsOption text number → ⊥) → (bits : ℕ) → IsBits text bits → ⊥
no_bits None none bits is = none None refl
no_bits (Some text) none bits is = none (Some (number_of text)) (is.0, refl)

pub returns-in_err-option_of-clause-err : goal.returns-in_err-option_of-clause-err
returns-in_err-option_of-clause-err c =
    of_any_error _ _ (λ stop. no_bits (first_value (found_of c.args.arguments.now) (codes "maxphyaddr")) c.in_err-option_of.ensures.err)
