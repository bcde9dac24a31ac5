-- After a list of calls at an offset that fits the memory, the offset still fits it, and the pool fits too.
use Rattle.std.proofs.Common.{◌≡◌, ℕ, Bool, List, sym, subst}
use Rattle.x86_64_model.specs.Layout.{Layout}
use Rattle.x86_64_model.specs.Memory.{Memory, identity_places}
use Rattle.x86_64_mappers.specs.Layouts.{direct_at}
use Rattle.x86_64_mappers.specs.Offsets.{OffsetFits, offset_places}
use Rattle.x86_64_mappers.proofs.Memory.OffsetTables.{offset_fits}
use Rattle.x86_64.proofs.Moved.{moved}
use Rattle.x86_64.proofs.PlacesStay.{places_stay}
use Rattle.x86_64_model.specs.Hierarchy.{◌laid_in◌, PoolFits}
use Rattle.x86_64_model.specs.Store.{KeepsPool}

module _ (L root offset : ℕ) (serves : ℕ → Bool) (m : Memory) (free rest : List ℕ) (reached : OffsetFits L m offset) (fits : PoolFits (direct_at L identity_places root laid_in m) serves free)
    (l : Layout) (before after n : Memory) (is : l ≡ direct_at L (offset_places L offset) root) (first : before ≡ m) (last : n ≡ after) (kept : KeepsPool l serves before free after rest) where
  abbrev layout_at : Layout
  layout_at = direct_at L (offset_places L offset) root

  kept_at : KeepsPool layout_at serves m free n rest
  kept_at = moved (λ (l : Layout) (m n : Memory). KeepsPool l serves m free n rest) l layout_at before m after n is first last kept

  pub fits_still : OffsetFits L n offset
  fits_still = λ place there. reached place ((places_stay layout_at serves m n free rest ((offset_fits L m offset reached root serves free).0 fits) kept_at place).0 there)

  pub pool_fits_again : (served : ℕ → Bool) → served ≡ serves → PoolFits (direct_at L identity_places root laid_in n) served rest
  pool_fits_again served same = subst (λ (s : ℕ → Bool). PoolFits (direct_at L identity_places root laid_in n) s rest) (sym same) ((offset_fits L n offset fits_still root serves rest).1 kept_at.fits)
