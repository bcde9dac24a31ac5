-- What a clean up below the root's entries does to a pool that serves the names of its loans, too, it does to one that serves its own
-- frames alone.
use Rattle.std.specs.Prelude.{◌≡◌, ℕ, Bool, List, refl}
use Rattle.std.specs.Borrow.{GName}
use Rattle.x86_64_model.specs.Hierarchy.{Hierarchy}
use Rattle.x86_64_tables.proofs.LentPools.{fits_own}
use Rattle.x86_64_tables.specs.LentPool.{is_in, served_by}
use Rattle.x86_64_c.specs.BelowRoot.{CleansBelowRoot}
use Rattle.x86_64_c.specs.private.Pools.{stack}

pub own_cleans : (own : List ℕ) (array count : GName) {serves : ℕ → Bool} → serves ≡ served_by own array count → (h after : Hierarchy (Unit {0})) (pool rest : List ℕ) (low high status : ℕ)
    → CleansBelowRoot h (stack serves pool) low high after (stack serves rest) status → CleansBelowRoot h (stack (is_in own) pool) low high after (stack (is_in own) rest) status
own_cleans own array count same h after pool rest low high status did = record {
  status_is = did.status_is;
  cleans = let cleans = did.cleans in record {
    cleans = cleans.cleans;
    serves = refl;
    root_entries = cleans.root_entries;
    walks = cleans.walks;
    conserved = cleans.conserved;
  };
  keeps = record { fits = fits_own own array count same did.keeps.fits; conserved = did.keeps.conserved; others = did.keeps.others };
}
