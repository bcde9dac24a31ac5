-- A change of the flags of an entry above a page's own: whether the flags keep HUGE_PAGE, and the entry's new word.
use Rattle.std.specs.Prelude.{ℕ, ◌||◌, Bool, not, cond, List, is_some, Result, Ok, Err, bit_or}
use Rattle.x86_64_model.specs.Allowed.{both_or_none}
use Rattle.x86_64_model.specs.Entry.{used, huge, address}
use Rattle.x86_64_model.specs.Refusal.{Refusal, PageNotMapped, first_stop}

-- Whether flags have HUGE_PAGE if and only if the entry at the path has it, or no call reaches a used entry there. The function E
-- has the entry at each path.
abbrev pub keeps_huge : (E : List ℕ → ℕ) → List ℕ → (flags : ℕ) → Bool
keeps_huge E q given = is_some (first_stop E q) || not (used (E q)) || both_or_none (huge given) (huge (E q))

-- What an entry above a page's own decides for a change of its flags: its new word, which keeps the address, and the frame in the
-- answer, or the refusal if it is unused.
abbrev pub flags_say : (flags entry : ℕ) → Result (ℕ × ℕ) Refusal
flags_say given e = cond (used e) (Ok (bit_or (address e) given, address e)) (Err PageNotMapped)
