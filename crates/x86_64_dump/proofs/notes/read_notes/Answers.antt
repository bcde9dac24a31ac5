use Rattle.std.proofs.Common.{◌∙◌, Bool, Ok, ap, arith, length, get_or}
use Rattle.std.proofs.Math.Seq.{drop-cons}
use Rattle.std.proofs.lemmas.List.{drop_all}
use Rattle.std.proofs.lemmas.Result.{err_from_is_err_and}
use Rattle.x86_64_dump.specs.Notes.{notes_size}
use Rattle.x86_64_dump.specs.Opening.{Fails}
use Rattle.x86_64_dump.specs.declared.error.DumpError.{DumpError}
use Rattle.x86_64_dump.specs.declared.error.DumpError.TheVariants as errors
use Rattle.x86_64_dump.specs.private.NotesLeft.{notes_within}
use Rattle.x86_64_dump.proofs.NotesRead.{within_step, within_stop, within_end, nothing}
use Rattle.x86_64_dump.proofs.notes.read_notes.Goals as goal

pub loop-segment-preserved : goal.loop-segment-preserved
loop-segment-preserved g c known =
    let file = g.S.ByteSource.bytes c.args.source.now in
    let segments = c.args.segments.now in
    let size = c.notes_size-size.result in
    within_step c.args.kind file segments c.loop-segment.segment-index c.loop-segment.room size c.in-Some.rest (get_or segments c.loop-segment.segment-index nothing) c.loop-segment.notes.items c.add_from.new.notes.items (notes_within c.args.kind (length file) file segments)
    (drop-cons segments c.loop-segment.segment-index nothing c.loop-segment-test.true)
    (c.notes_size-size.ensures.size ∙ ap (λ n. notes_size n (get_or segments c.loop-segment.segment-index nothing)) (c.len-length.ensures ∙ g.met.S.ByteSource.counted known c.args.source.now))
    c.in-Some.ensures.0
    c.in-Some.ensures.1
    (c.in_ok-add_from.ensures known (λ some. omega (arith, c.notes_size-size.ensures.inside some, c.len-length.ensures ∙ g.met.S.ByteSource.counted known c.args.source.now)))
    (c.loop-segment.invariant known)

pub returns-in_default : goal.returns-in_default
returns-in_default g c known =
    let file = g.S.ByteSource.bytes c.args.source.now in
    let segments = c.args.segments.now in
    within_stop c.args.kind file segments c.loop-segment.segment-index c.loop-segment.room c.notes_size-size.result (get_or segments c.loop-segment.segment-index nothing) c.loop-segment.notes.items (notes_within c.args.kind (length file) file segments)
    (drop-cons segments c.loop-segment.segment-index nothing c.loop-segment-test.true)
    (c.notes_size-size.ensures.size ∙ ap (λ n. notes_size n (get_or segments c.loop-segment.segment-index nothing)) (c.len-length.ensures ∙ g.met.S.ByteSource.counted known c.args.source.now))
    (omega (arith, c.in_default.ensures))
    (c.loop-segment.invariant known)

-- an error that isn't a fault agrees with each value
fails_as_well : {A B : Type 0} (may : Bool) (error : DumpError) (a : A) (b : B) → Fails may error (Ok a) → Fails may error (Ok b)
fails_as_well may errors.OutOfMemory a b fails = tt
fails_as_well may (errors.Read error) a b fails = fails
fails_as_well may (errors.Fault fault) a b fails = cc

pub returns-in_err-add_from : goal.returns-in_err-add_from
returns-in_err-add_from g c known =
    let long = c.len-length.ensures ∙ g.met.S.ByteSource.counted known c.args.source.now in
    let error = err_from_is_err_and c.from_residual.result c.from_residual.ensures.1 in
    rw (error.1, error.2)
    (fails_as_well g.S.ByteSource.may_fail c.in_err-add_from.field-0.0 _ _
    (c.in_err-add_from.ensures known (λ some. omega (arith, c.notes_size-size.ensures.inside some, long))))

pub returns : goal.returns
returns g c known =
    let file = g.S.ByteSource.bytes c.args.source.now in
    let segments = c.args.segments.now in
    within_end c.args.kind file segments c.loop-segment.segment-index c.loop-segment.room c.loop-segment.notes.items (notes_within c.args.kind (length file) file segments)
    (drop_all c.loop-segment.segment-index segments c.loop-segment-test.false) (c.loop-segment.invariant known)
