-- Tests of flags.
use Rattle.std.proofs.Common.{◌≡◌, ℕ, ◌==◌, Bool, bit_and, sym, ap, ◌∙◌}
use Rattle.x86_64_model.specs.Entry.{has, flags}
use Rattle.x86_64_model.proofs.Lemmas.Entries.Bits.{has_flags}

-- the result of a test of an entry's flags is that of the test of the entry
pub tested : (e f mask : ℕ) (result : Bool) → f ≡ flags e → bit_and 0xfff0_0000_0000_0fff mask ≡ mask → result ≡ (bit_and f mask == mask) → has e mask ≡ result
unfolding has
tested e f mask result is known test = sym (test ∙ ap (λ n. bit_and n mask == mask) is ∙ has_flags e mask known)
