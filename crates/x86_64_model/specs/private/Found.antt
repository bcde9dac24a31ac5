-- The mapping at a position (the number of an address counted without the gap), found by a walk down from the root. It is the
-- mapping of the list that has the position, None if none has it.
use Rattle.std.specs.Prelude.{zero, suc, ◌≡◌, ℕ, ◌+◌, ◌*◌, ◌/◌, ◌<◌, ◌≤◌, cond, Option, Some, None, option_and_then}
use Rattle.x86_64_model.specs.Entry.{present, huge, address, flags}
use Rattle.x86_64_model.specs.Position.{span, index}
use Rattle.x86_64_model.specs.Memory.{Words}
use Rattle.x86_64_model.specs.PageWalk.{read, page_start}
use Rattle.x86_64_model.specs.Mappings.{Rights, Mapping, maps_page, every_right, granted}

-- The mapping of an entry that maps a page of a level, whose first position is `start`, below words with rights r.
abbrev pub page_from : (start level : ℕ) → Rights → (entry : ℕ) → Mapping
page_from start level r e = record { start = start; size = span level; frame = page_start level e; flags = flags e; rights = granted r e }

-- The mapping of an entry that maps a page of a level, in which position p lies, below words with rights r.
abbrev pub page_at : (p level : ℕ) → Rights → (entry : ℕ) → Mapping
page_at p level r e = page_from (p / span level * span level) level r e

-- The mapping at position p, found from a frame's table of a level down, below words with rights r, None if nothing is mapped
-- there.
unfoldable pub found_on : Words → (p level : ℕ) → Rights → (frame : ℕ) → Option Mapping
found_on T p zero r frame = None
found_on T p (suc n) r frame = option_and_then
    (λ e. cond (present e)
    (cond (maps_page (suc n) e) (Some (page_at p (suc n) r e))
    (cond (huge e) None (found_on T p n (granted r e) (address e)))) None)
    (read T frame (index (suc n) p))

-- The mapping at position p (the number of an address counted without the gap), found by a walk down from the root with L
-- levels, None if nothing is mapped there.
unfoldable pub found : (L : ℕ) → Words → (root p : ℕ) → Option Mapping
found L T root p = found_on T p L every_right root

-- The first position after the span of a level in which a position lies.
abbrev pub span_end : (level position : ℕ) → ℕ
span_end level p = p / span level * span level + span level

-- From position p to the end of the span of the table of this level in this frame, what the walk from the root finds is what is
-- found from this table down, below words with rights r.
pub record LeadsTo (L : ℕ) (T : Words) (root p level : ℕ) (r : Rights) (frame : ℕ) : Type 0 where
  pub on : (x : ℕ) → p ≤ x → x < span_end (level + 1) p → found L T root x ≡ found_on T x level r frame
