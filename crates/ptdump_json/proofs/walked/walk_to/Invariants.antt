use Rattle.std.proofs.Common.{◌≡◌, None, map}
use Rattle.std.specs.List.{last_or}
use Rattle.x86_64_tables.proofs.StepsRead.{HaveRead}
use Rattle.ptdump_json.specs.Walked.{walk_end_at}
use Rattle.ptdump_json.specs.Walks.{read_word, walk_end}
use Rattle.ptdump_json.proofs.walked.walk_to.Given as goal

-- the words so far are kept, and the last of them says how the walk may end
abbrev pub invariant-loop-step : goal.invariant-loop-step
invariant-loop-step g l = HaveRead l.initial.step-iterator l.yielded l.step-iterator l.rights
    × (l.words.items ≡ map read_word l.yielded) × (l.end ≡ walk_end_at l.rights (walk_end l.position l.fn.loaded.root (last_or None l.yielded)))
