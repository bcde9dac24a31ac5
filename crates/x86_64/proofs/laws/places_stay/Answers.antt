use Rattle.x86_64.proofs.PlacesStay.{places_stay, offsets_fit_still}
use Rattle.x86_64.proofs.laws.places_stay.Goals as goal

pub returns-clause-places : goal.returns-clause-places
returns-clause-places c = places_stay

pub returns-clause-offsets : goal.returns-clause-offsets
returns-clause-offsets c = offsets_fit_still
