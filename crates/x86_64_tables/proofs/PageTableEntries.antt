-- Tests of an entry's flags, and the frame that the entry names.
use Rattle.std.proofs.Common.{◌≡◌, ℕ, true, false, ◌==◌, bit_and, Ok, Err, refl, sym, ap, ◌∙◌}
use Rattle.x86_64_model.specs.Entry.{has, flags, address}
use Rattle.x86_64_tables.specs.declared.page_table.entry.FrameError.TheVariants.{FrameNotPresent, HugeFrame}
use Rattle.x86_64_tables.specs.PageTableEntry.{frame_of}
use Rattle.x86_64_model.proofs.Lemmas.Entries.Bits.{has_flags}

-- testing the flags of a word tests the word
pub tested : (w f mask : ℕ) → f ≡ flags w → bit_and 0xfff0_0000_0000_0fff mask ≡ mask → has w mask ≡ (bit_and f mask == mask)
unfolding has
tested w f mask is known = sym (has_flags w mask known) ∙ ap (λ n. bit_and n mask == mask) (sym is)

pub not_present : (w f : ℕ) → f ≡ flags w → (bit_and f 1 == 1) ≡ false → Err FrameNotPresent ≡ frame_of w
not_present w f is absent = rw (tested w f 1 is refl ∙ absent) refl

pub present_huge : (w f : ℕ) → f ≡ flags w → (bit_and f 1 == 1) ≡ true → (bit_and f 128 == 128) ≡ true
    → Err HugeFrame ≡ frame_of w
present_huge w f is present huge = rw (tested w f 1 is refl ∙ present, tested w f 128 is refl ∙ huge) refl

pub present_small : (w f : ℕ) → f ≡ flags w → (bit_and f 1 == 1) ≡ true → (bit_and f 128 == 128) ≡ false
    → Ok (address w) ≡ frame_of w
present_small w f is present small = rw (tested w f 1 is refl ∙ present, tested w f 128 is refl ∙ small) refl
