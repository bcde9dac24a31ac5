use Rattle.std.proofs.Common.{◌≡◌, drop}
use Rattle.x86_64_spaces.specs.private.SpaceTables.{grouped_at, first_in}
use Rattle.x86_64_spaces.proofs.space_list.owner.Given as goal

-- none of the spaces so far is in the group
abbrev pub invariant-loop-k : goal.invariant-loop-k
invariant-loop-k g l =
    let list = g.S.SpaceList.spaces l.spaces in let s = grouped_at list l.n in
    first_in list (s.group l.index) l.index s ≡ first_in (drop l.k list) (s.group l.index) l.index s
