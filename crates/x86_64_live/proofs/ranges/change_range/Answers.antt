use Rattle.x86_64_live.proofs.PageMasks.{flag_masks_keep}
use Rattle.x86_64_live.proofs.ranges.change_range.Goals as goal

pub change_pages-requires-clause-masks : goal.change_pages-requires-clause-masks
change_pages-requires-clause-masks g c = flag_masks_keep c.args.keep c.args.set c.requires.masks
