use Rattle.std.proofs.Common.{◌≡◌, ◌++◌, drop, length}
use Rattle.x86_64_dump.specs.private.NotesLeft.{notes_within}
use Rattle.x86_64_dump.proofs.notes.read_notes.Given as goal

-- the notes so far, followed by those of the remaining segments, are all the notes
abbrev pub invariant-loop-segment : goal.invariant-loop-segment
invariant-loop-segment g l =
    let file = g.S.ByteSource.bytes l.source in
    g.S.ByteSource.IsKnown → l.notes.items ++ notes_within l.kind l.room file (drop l.segment-index l.segments) ≡ notes_within l.kind (length file) file l.segments
