-- What masks make of the words of larger pages.
use Rattle.std.proofs.Common.{◌≡◌, inl, inr, ◌==◌, ℕ, true, bit_and, bit_or, sym, ap, ◌∙◌, eqb-true}
use Rattle.std.proofs.lemmas.Bool.{and_parts}
use Rattle.std.proofs.lemmas.Nat.{and_assoc, and_comm}
use Rattle.x86_64_live.specs.PageRanges.{are_flag_masks}
use Rattle.x86_64_live.specs.private.RangeSteps.{KeepPages}
use Rattle.x86_64_model.specs.Entry.{has}
use Rattle.x86_64_model.specs.Live.{by_masks}
use Rattle.x86_64_model.proofs.Lemmas.Entries.Bits.{has_or}

-- HUGE_PAGE is one of the bits that are kept
large_of : (m : ℕ) → bit_and m 0x80 ≡ bit_and (bit_and m 0x000f_ffff_ffff_f080) 0x80
large_of m = sym (and_assoc 0x80 m 0x000f_ffff_ffff_f080)

pub flag_masks_keep : (keep given : ℕ) → are_flag_masks keep given ≡ true → KeepPages (by_masks keep given)
unfolding has
flag_masks_keep keep given masks e large =
    let parts = and_parts (bit_and keep 0x000f_ffff_ffff_f080 == 0x000f_ffff_ffff_f080) (bit_and given 0x000f_ffff_ffff_f080 == 0) masks in
    let kept = eqb-true (bit_and keep 0x000f_ffff_ffff_f080) 0x000f_ffff_ffff_f080 parts.0 in let unset = eqb-true (bit_and given 0x000f_ffff_ffff_f080) 0 parts.1 in
    inr (has_or (bit_and e keep) given 0x80 (large_of given ∙ ap (λ m. bit_and m 0x80) unset)
    ∙ ap (λ m. m == 0x80) (and_assoc 0x80 e keep ∙ ap (bit_and e) (large_of keep ∙ ap (λ m. bit_and m 0x80) kept) ∙ eqb-true (bit_and e 0x80) 0x80 large))

pub none_kept : (e : ℕ) → by_masks 0 0 e ≡ 0
none_kept e = ap (λ n. bit_or n 0) (and_comm e 0)

pub zero_keeps : KeepPages (by_masks 0 0)
zero_keeps e large = inl (none_kept e)
