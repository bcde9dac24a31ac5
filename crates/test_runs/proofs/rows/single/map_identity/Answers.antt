use Rattle.std.proofs.Common.{rules}
use Rattle.test_runs.proofs.rows.single.map_identity.Goals as goal

-- the page is the one at the frame's address
pub identity_map-mapped-requires-clause-may : goal.identity_map-mapped-requires-clause-may
identity_map-mapped-requires-clause-may g c = rw (← c.requires.same) (search rules)
