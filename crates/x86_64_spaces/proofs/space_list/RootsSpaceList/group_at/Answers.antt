use Rattle.std.proofs.Common.{sym, ◌∙◌}
use Rattle.x86_64_spaces.specs.SpaceLayouts.{indices_of, spaces_at}
use Rattle.x86_64_spaces.proofs.AllSharing.{group_at_all}
use Rattle.x86_64_spaces.proofs.space_list.RootsSpaceList.group_at.Goals as goal

pub returns : goal.returns
returns c = c.group_of_all.ensures ∙ sym (group_at_all (indices_of c.args.self.now.shared) (spaces_at c.args.self.now.addresses.now) c.args.arg2 c.args.index c.requires)
