-- Words made of an address and flags.
use Rattle.std.specs.Prelude.{◌≡◌, ℕ, ◌%◌, ◌^◌, ◌<◌}
use Rattle.std.proofs.Common.{◌∙◌, arith}
use Rattle.std.proofs.lemmas.Nat.{and_assoc}
use Rattle.std.specs.Int.Bits.{and_zero_r}
use Rattle.x86_64_model.specs.Entry.{address, flags}
use Rattle.x86_64_model.proofs.Lemmas.Entries.Bits.{address_is}

pub address_aligned : (w : ℕ) → address w % 4096 ≡ 0
address_aligned w = omega (arith, address_is w)

pub address_within : (w : ℕ) → address w < 2 ^ 52
address_within w = omega (arith, address_is w)

-- a multiple of 4096 below 2^52 is an address
pub address-multiple : (a : ℕ) → a % 4096 ≡ 0 → a < 2 ^ 52 → address a ≡ a
address-multiple a aligned below = omega (arith, address_is a)

pub address-flags : (w : ℕ) → address (flags w) ≡ 0
unfolding address flags
address-flags w = and_assoc 0x000f_ffff_ffff_f000 w 0xfff0_0000_0000_0fff ∙ and_zero_r w
