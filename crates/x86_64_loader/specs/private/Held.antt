-- Held positions: those of pages that stand (are mapped as `map_to` maps them) and map them where they should.
use Rattle.std.specs.Prelude.{◌≡◌, ◌+◌, ◌%◌, ◌<◌, ◌≤◌, ℕ, false}
use Rattle.x86_64_model.specs.Hierarchy.{Hierarchy, IsMappedAs, path_of}
use Rattle.x86_64_model.specs.Position.{span}
use Rattle.x86_64_model.specs.Window.{begins_with}

-- A page that stands outside the recursive window has the position, and maps it to this address with these flags.
pub record IsHeld {Lent : Type 0} (h : Hierarchy Lent) (position to flags : ℕ) : Type 0 where
  pub level : ℕ
  pub page : ℕ
  pub frame : ℕ
  pub stands : IsMappedAs h level page frame flags
  pub aligned : page % span level ≡ 0
  pub outside : begins_with h.layout.window (path_of h level page) ≡ false
  pub from_start : page ≤ position
  pub before_end : position < page + span level
  pub lands : to + page ≡ frame + position

-- These `size` positions from a page on are held, and mapped to the addresses from a frame on.
abbrev pub PagesAreHeld : {Lent : Type 0} → Hierarchy Lent → (size page frame flags : ℕ) → Type 0
PagesAreHeld h size page frame given = (offset : ℕ) → offset < size → IsHeld h (page + offset) (frame + offset) given
