-- A word with the address of another frame and unchanged flags.
use Rattle.std.proofs.Common.{◌≡◌, ℕ, ap, ◌∙◌, refl, bit_or}
use Rattle.std.proofs.lemmas.Nat.{and_assoc, and_or_apart, or_comm}
use Rattle.x86_64_model.specs.Entry.{address, flags}
use Rattle.x86_64_model.proofs.Lemmas.Entries.Bits.{address_or, no_flag}
use Rattle.x86_64_model.proofs.Lemmas.Entries.Words.{address-flags}

pub flags-renamed : (word frame : ℕ) → address frame ≡ frame → flags (bit_or (flags word) frame) ≡ flags word
unfolding flags
flags-renamed word frame is_frame =
    and_or_apart 0xfff0_0000_0000_0fff (flags word) frame (no_flag frame 0xfff0_0000_0000_0fff is_frame refl)
    ∙ and_assoc 0xfff0_0000_0000_0fff word 0xfff0_0000_0000_0fff

pub address-renamed : (word frame : ℕ) → address frame ≡ frame → address (bit_or (flags word) frame) ≡ frame
address-renamed word frame is_frame =
    ap address (or_comm (flags word) frame) ∙ address_or frame (flags word) (address-flags word) ∙ is_frame
