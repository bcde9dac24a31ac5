-- Reached: the tables that page walks from a frame's table meet.
use Rattle.std.specs.Prelude.{◌≡◌, ℕ, zero, suc, true, false, Some}
use Rattle.x86_64_model.specs.Entry.{present, huge, address}
use Rattle.x86_64_model.specs.Memory.{Words}
use Rattle.x86_64_model.specs.PageWalk.{read}

-- T and W have equal words wherever page walks from the table of a level in a frame lead.
abbrev pub SameBelow : (level : ℕ) → (T W : Words) → (frame : ℕ) → Type 0
SameBelow zero T W frame = Unit {0}
SameBelow (suc level) T W frame = (T frame ≡ W frame)
    × ((i e : ℕ) → read T frame i ≡ Some e → present e ≡ true → huge e ≡ false → SameBelow level T W (address e))
