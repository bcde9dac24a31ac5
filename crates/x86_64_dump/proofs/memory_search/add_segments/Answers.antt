use Rattle.std.proofs.Common.{◌∙◌, Bool, Ok, ap, arith, get_or}
use Rattle.std.proofs.Math.Seq.{drop-cons}
use Rattle.std.proofs.lemmas.List.{drop_all}
use Rattle.std.proofs.lemmas.Result.{err_from_is_err_and}
use Rattle.x86_64_dump.specs.Opening.{Fails}
use Rattle.x86_64_dump.specs.declared.error.DumpError.{DumpError}
use Rattle.x86_64_dump.specs.declared.error.DumpError.TheVariants as errors
use Rattle.x86_64_dump.specs.KernelTexts.{memory_size}
use Rattle.x86_64_dump.proofs.KernelTexts.{segment_left_out, segment_passed, segments_passed}
use Rattle.x86_64_dump.proofs.NotesRead.{nothing}
use Rattle.x86_64_dump.proofs.memory_search.add_segments.Goals as goal

pub loop-segment-preserved : goal.loop-segment-preserved
loop-segment-preserved g c = record {
  buffer = c.add_segment.ensures.length;
  told = λ known.
      let file = g.S.ByteSource.bytes c.args.source.now in
      let segments = c.args.segments.now in
      let size = c.memory_size-size.result in
      let long = c.len-length.ensures ∙ g.met.S.ByteSource.counted known c.args.source.now in
      segment_passed file segments c.loop-segment.segment-index c.loop-segment.room size c.in-Some.rest (get_or segments c.loop-segment.segment-index nothing) c.loop-segment.texts.items c.add_segment.new.texts.items _
      (drop-cons segments c.loop-segment.segment-index nothing c.loop-segment-test.true)
      (c.memory_size-size.ensures.size ∙ ap (λ n. memory_size n (get_or segments c.loop-segment.segment-index nothing)) long)
      c.in-Some.ensures.0
      c.in-Some.ensures.1
      (c.in_ok-add_segment.ensures.texts known)
      (c.loop-segment.invariant.told known);
}

pub returns-in_default : goal.returns-in_default
returns-in_default g c known =
    let file = g.S.ByteSource.bytes c.args.source.now in
    let segments = c.args.segments.now in
    let long = c.len-length.ensures ∙ g.met.S.ByteSource.counted known c.args.source.now in
    segment_left_out file segments c.loop-segment.segment-index c.loop-segment.room c.memory_size-size.result (get_or segments c.loop-segment.segment-index nothing) c.loop-segment.texts.items _
    (drop-cons segments c.loop-segment.segment-index nothing c.loop-segment-test.true)
    (c.memory_size-size.ensures.size ∙ ap (λ n. memory_size n (get_or segments c.loop-segment.segment-index nothing)) long)
    (omega (arith, c.in_default.ensures))
    (c.loop-segment.invariant.told known)

pub returns : goal.returns
returns g c known =
    segments_passed (g.S.ByteSource.bytes c.args.source.now) c.args.segments.now c.loop-segment.segment-index c.loop-segment.room c.loop-segment.texts.items _
    (drop_all c.loop-segment.segment-index c.args.segments.now c.loop-segment-test.false) (c.loop-segment.invariant.told known)

-- an error that isn't a fault agrees with each value
fails_as_well : {A B : Type 0} (may : Bool) (error : DumpError) (a : A) (b : B) → Fails may error (Ok a) → Fails may error (Ok b)
fails_as_well may errors.OutOfMemory a b fails = tt
fails_as_well may (errors.Read error) a b fails = fails
fails_as_well may (errors.Fault fault) a b fails = cc

pub returns-in_err-add_segment : goal.returns-in_err-add_segment
returns-in_err-add_segment g c known =
    let error = err_from_is_err_and c.from_residual.result c.from_residual.ensures.1 in
    rw (error.1, error.2) (fails_as_well g.S.ByteSource.may_fail c.in_err-add_segment.field-0.0 _ _ (c.in_err-add_segment.ensures.texts known))
