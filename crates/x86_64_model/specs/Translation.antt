-- The answer of `translate` at a position (the number of an address counted without the gap), from the entries along its path.
use Rattle.std.specs.Prelude.{zero, suc, ◌≡◌, ℕ, ◌+◌, ◌%◌, ◌&&◌, nat_le, cond, List, [], ◌∷◌, ◌++◌, Option, Some, None, option_map}
use Rattle.x86_64_model.specs.Position.{span, index}
use Rattle.x86_64_model.specs.Entry.{present, huge, address, flags, used}
use Rattle.x86_64_model.specs.PageWalk.{Walked, page_start}

-- The answer of `translate`: nothing is mapped, or a page is, with its size in bytes, the start of its frame, the offset in it,
-- and the flags of its entry.
pub data Translated : Type 0 where
  NotMapped : Translated
  Mapped : (size frame offset flags : ℕ) → Translated

-- The answer of `translate` for position p from a level down. E returns the entry at a path, and q is the path so far.
-- Above level one an entry must be present, and HUGE_PAGE matters only at levels two and three. At level one the entry must be
-- used.
unfoldable pub translate_on : (E : List ℕ → ℕ) (p level : ℕ) → List ℕ → Translated
translate_on E p zero q = NotMapped
translate_on E p (suc zero) q = let e = E (q ++ index 1 p ∷ []) in
    cond (used e) (Mapped (span 1) (address e) (p % span 1) (flags e)) NotMapped
translate_on E p (suc (suc n)) q = let level = suc (suc n) in let e = E (q ++ index level p ∷ []) in
    cond (present e)
    (cond (nat_le level 3 && huge e) (Mapped (span level) (page_start level e) (p % span level) (flags e))
    (translate_on E p (suc n) (q ++ index level p ∷ []))) NotMapped

-- The answer of `translate` at position p (the number of an address counted without the gap of the address space), with L
-- levels. E returns the entry at a path.
unfoldable pub translate : (L : ℕ) (E : List ℕ → ℕ) (p : ℕ) → Translated
translate L E p = translate_on E p L []

-- The physical address in an answer of `translate`: the frame's start plus the offset, None if nothing is mapped.
abbrev pub address_of : Translated → Option ℕ
address_of NotMapped = None
address_of (Mapped size frame offset given) = Some (frame + offset)

-- The physical address in an answer of `translate` that names a mapping with PRESENT, otherwise None.
abbrev pub present_to : Translated → Option ℕ
present_to NotMapped = None
present_to (Mapped size frame offset given) = cond (present given) (Some (frame + offset)) None

-- `translate` names a present mapping if and only if the walk arrives, and at the same address.
abbrev pub Agrees : Translated → Option Walked → Type 0
Agrees answer walked = option_map (λ w. w.address) walked ≡ present_to answer
