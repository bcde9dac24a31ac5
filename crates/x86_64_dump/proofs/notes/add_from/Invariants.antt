use Rattle.std.proofs.Common.{◌≡◌, ◌+◌, ◌-◌, ◌/◌, ◌++◌}
use Rattle.x86_64_dump.specs.private.NotesLeft.{kept_notes}
use Rattle.x86_64_dump.proofs.notes.add_from.Given as goal

-- the notes so far, followed by those in the remaining bytes, are all the notes
abbrev pub invariant-loop : goal.invariant-loop
invariant-loop g l =
    let file = g.S.ByteSource.bytes l.source in
    record {
      all : l.at + l.left ≡ l.offset + l.size;
      told : g.S.ByteSource.IsKnown → l.notes.items ++ kept_notes l.kind (l.size / 12 - l.counter) file l.at l.left ≡ l.fn.notes.items ++ kept_notes l.kind (l.size / 12) file l.offset l.size;
    }
