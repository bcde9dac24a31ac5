use Rattle.std.proofs.Common.{◌≡◌, ◌+◌, ◌-◌, true, drop, take, sym, subst}
use Rattle.x86_64_dump.specs.Source.{bytes_at}
use Rattle.x86_64_dump.specs.private.FileParts.{Part, IsOf, has_frame_at}
use Rattle.x86_64_dump.proofs.FileParts.{frame_shown, frame_within, placed}
use Rattle.x86_64_dump.proofs.file_part.FilePart.frame.Goals as goal

pub returns-clause-bytes : goal.returns-clause-bytes
returns-clause-bytes c =
    let Has : Part → Type 0 = λ part. has_frame_at part c.args.offset ≡ true in
    let part = c.self.inside in
    let at = c.args.offset - part.start in
    let Shows : Part → Type 0 = λ shown. take (at + 4096 - at) (drop at part.bytes) ≡ bytes_at shown.bytes (c.args.offset - shown.start) 4096 in
    subst Shows c.self.view_is
    (frame_within part.bytes part.start c.args.offset part.count
    (placed (record { start = part.start; bytes = take part.count part.bytes }) c.args.offset (subst Has (sym c.self.view_is) c.requires)))

pub returns-clause-file : goal.returns-clause-file
returns-clause-file c file is =
    let Of : Part → Type 0 = IsOf file in
    let Has : Part → Type 0 = λ part. has_frame_at part c.args.offset ≡ true in
    let part = c.self.inside in
    frame_shown file part.bytes part.start c.args.offset part.count (subst Of (sym c.self.view_is) is)
    (placed (record { start = part.start; bytes = take part.count part.bytes }) c.args.offset (subst Has (sym c.self.view_is) c.requires))
