-- The rights that letters name.
use Rattle.std.proofs.Common.{◌≡◌, ◌∙◌, ℕ, Bool, true, List, Option, Some, sym, ap, subst}
use Rattle.std.specs.Borrow.{Bor}
use Rattle.std.specs.Option.{option_copied}
use Rattle.ptdump.specs.Selections.{AreRights, are_letters, has_letter}

-- the rights of letters that are given as bytes
pub rights_given : (first : Option (List ℕ)) (text : Option (Bor (List ℕ))) (given : Bor (List ℕ)) (bytes : List ℕ) (w u x : Bool) → option_copied text ≡ first → text ≡ Some given → bytes ≡ given.now
    → are_letters bytes ≡ true → w ≡ has_letter bytes 0x77 → u ≡ has_letter bytes 0x75 → x ≡ has_letter bytes 0x78
    → AreRights first (record { write = w; user = u; execute = x })
rights_given first text given bytes w u x copied some same are write user execute =
    subst (λ (o : Option (List ℕ)). AreRights o (record { write = w; user = u; execute = x })) (sym (ap option_copied some) ∙ copied) (
      sym (ap are_letters same) ∙ are,
      λ i. record {
        write = (write ∙ ap (λ b. has_letter b 0x77) same) i;
        user = (user ∙ ap (λ b. has_letter b 0x75) same) i;
        execute = (execute ∙ ap (λ b. has_letter b 0x78) same) i;
      },
    )
