use Rattle.x86_64_mappers.proofs.CleanUp.BelowRootSpaces.{spaces_stay_cleaned_below_root}
use Rattle.x86_64_mappers.proofs.laws.spaces_stay_after_clean_ups_below_root.Goals as goal

pub returns : goal.returns
returns c = spaces_stay_cleaned_below_root
