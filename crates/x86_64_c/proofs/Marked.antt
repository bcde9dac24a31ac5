-- An access keeps each pool that fits the hierarchy.
use Rattle.std.proofs.Common.{◌≡◌, ◌<◌, ℕ, Bool, true, false, None, sym, subst}
use Rattle.x86_64_model.specs.Access.{Access}
use Rattle.x86_64_model.specs.Hierarchy.{Hierarchy}
use Rattle.x86_64_model.specs.Memory.{IsMapping, Memory, Places, words_of}
use Rattle.x86_64_mappers.specs.Layouts.{owned_at}
use Rattle.x86_64_access.specs.Marks.{AccessesLeaveMarks, FitsStay}
use Rattle.x86_64_c.specs.Accesses.{StillFits, given_controls, memory_at}
use Rattle.x86_64_c.specs.declared.accesses.Controls.{Controls}

module _ (leave : AccessesLeaveMarks) (stay : FitsStay) (L : ℕ) (some : 0 < L) (places : Places) (maps : IsMapping places) (root : ℕ) (m : Memory) (c : Controls) (p : ℕ) (a : Access) where
  abbrev held : Memory → Hierarchy (Unit {0})
  held m = owned_at L places root m tt

  marked : (mark : Bool) → StillFits (held m) (held (memory_at (held m) c p a mark))
  marked false = λ serves pool fits. fits
  marked true = λ serves pool fits.
      (stay L some None (words_of m places) (words_of (memory_at (held m) c p a true) places) root serves pool
      (leave L (given_controls c) m places root p a maps) fits).0

  pub still_fits : (mark : Bool) (n : Memory) → n ≡ memory_at (held m) c p a mark → StillFits (held m) (held n)
  still_fits mark n is = subst (λ n. StillFits (held m) (held n)) (sym is) (marked mark)
