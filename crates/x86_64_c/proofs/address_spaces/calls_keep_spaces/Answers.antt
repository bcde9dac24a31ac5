use Rattle.x86_64_c.proofs.SpaceRanges.{range_changes_keep_others, range_changes_keep_spaces, range_maps_keep_others, range_maps_keep_spaces}
use Rattle.x86_64_c.proofs.TogetherFit.{each_may_be_used, requests_keep_spaces, requests_or_nothing_keep_spaces, changes_keep_spaces, requests_keep_others, requests_or_nothing_keep_others}
use Rattle.x86_64_c.proofs.address_spaces.calls_keep_spaces.Goals as goal

pub returns-clause-used : goal.returns-clause-used
returns-clause-used c = each_may_be_used

pub returns-clause-requests : goal.returns-clause-requests
returns-clause-requests c = requests_keep_spaces c.spaces_stay.ensures

pub returns-clause-requests_or_nothing : goal.returns-clause-requests_or_nothing
returns-clause-requests_or_nothing c = requests_or_nothing_keep_spaces c.spaces_stay.ensures

pub returns-clause-changes : goal.returns-clause-changes
returns-clause-changes c = changes_keep_spaces c.spaces_stay.ensures

pub returns-clause-maps : goal.returns-clause-maps
returns-clause-maps c = range_maps_keep_spaces c.spaces_stay.ensures

pub returns-clause-range_changes : goal.returns-clause-range_changes
returns-clause-range_changes c = range_changes_keep_spaces c.spaces_stay.ensures

pub returns-clause-others : goal.returns-clause-others
returns-clause-others c = requests_keep_others c.spaces_stay.ensures c.shared_halves_stay.ensures c.calls_keep_what_they_avoid.ensures

pub returns-clause-others_or_nothing : goal.returns-clause-others_or_nothing
returns-clause-others_or_nothing c = requests_or_nothing_keep_others c.spaces_stay.ensures c.shared_halves_stay.ensures c.calls_keep_what_they_avoid.ensures

pub returns-clause-others_of_maps : goal.returns-clause-others_of_maps
returns-clause-others_of_maps c = range_maps_keep_others c.spaces_stay.ensures c.shared_halves_stay.ensures c.calls_keep_what_they_avoid.ensures

pub returns-clause-others_of_changes : goal.returns-clause-others_of_changes
returns-clause-others_of_changes c = range_changes_keep_others c.spaces_stay.ensures c.shared_halves_stay.ensures c.calls_keep_what_they_avoid.ensures
