use Rattle.std.proofs.Common.{rules, ◌≡◌, ◌∙◌, ◌+◌, ◌<◌, ◌≤◌, ◌^◌, ◌++◌, ℕ, zero, suc, Bool, cond, List, [], ◌∷◌, append_assoc, append-nil, Option, Result, Ok, Err, length, refl, ap, arith, subst, sym}
use Rattle.std.specs.Option.{SomeIff}
use Rattle.std.proofs.lemmas.Bool.{lt-ltb, le-ltb}
use Rattle.x86_64_dump.specs.Formats.Lime.{lime_segments, range_at, ranges_from}
use Rattle.x86_64_dump.specs.Opening.{Fails, GivesAtOnce}
use Rattle.x86_64_dump.specs.Steps.{and_then}
use Rattle.x86_64_dump.specs.declared.error.DumpError.{DumpError}
use Rattle.x86_64_dump.specs.declared.error.DumpError.TheVariants as errors
use Rattle.x86_64_dump.specs.declared.error.Fault.{Fault}
use Rattle.x86_64_dump.specs.declared.segment.Segment.{Segment}
use Rattle.x86_64_dump.proofs.formats.lime.read_lime.Goals as goal
use Rattle.x86_64_dump.proofs.formats.lime.read_lime.Invariants.{RangesLeft}

none_before : (file : List ℕ) (before : List Segment) → before ≡ [] → RangesLeft file before 0
unfolding lime_segments
none_before file before none = record { most = length file; enough = omega arith; same = alone (ranges_from (length file) file 0) }
  where
    alone : (found : Result (List Segment) Fault) → and_then found (λ ranges. Ok (before ++ ranges)) ≡ found
    alone (Ok ranges) = ap (λ all. Ok (all ++ ranges)) none
    alone (Err fault) = refl

-- what the ranges from an offset on are if one begins there
one_more : (most : ℕ) (file : List ℕ) (at : ℕ) (found : Result Segment Fault) → at < length file → range_at file at ≡ found
    → ranges_from (suc most) file at ≡ and_then found (λ range. and_then (ranges_from most file (range.offset + range.size)) (λ ranges. Ok (range ∷ ranges)))
one_more most file at found more is =
    ap (λ b. cond b (and_then (range_at file at) (λ range. and_then (ranges_from most file (range.offset + range.size)) (λ ranges. Ok (range ∷ ranges)))) (Ok [])) (lt-ltb at (length file) more)
    ∙ ap (λ first. and_then first (λ range. and_then (ranges_from most file (range.offset + range.size)) (λ ranges. Ok (range ∷ ranges)))) is

range_before : (file : List ℕ) (before now : List Segment) (at : ℕ) (range : Segment) → at < length file → range_at file at ≡ Ok range → at < range.offset + range.size → now ≡ before ++ range ∷ []
    → RangesLeft file before at → RangesLeft file now (range.offset + range.size)
range_before file before now at range more is next pushed left = by left.most left.enough left.same
  where
    joined : (found : Result (List Segment) Fault) → and_then found (λ ranges. Ok (now ++ ranges)) ≡ and_then (and_then found (λ ranges. Ok (range ∷ ranges))) (λ ranges. Ok (before ++ ranges))
    joined (Ok ranges) = ap Ok (ap (λ all. all ++ ranges) pushed ∙ append_assoc before (range ∷ []) ranges)
    joined (Err fault) = refl

    by : (most : ℕ) → length file ≤ at + most → and_then (ranges_from most file at) (λ ranges. Ok (before ++ ranges)) ≡ lime_segments file → RangesLeft file now (range.offset + range.size)
    by zero enough same = absurd (omega arith)
    by (suc most) enough same = record {
      most = most;
      enough = omega arith;
      same = joined (ranges_from most file (range.offset + range.size))
          ∙ sym (ap (λ found. and_then found (λ ranges. Ok (before ++ ranges))) (one_more most file at (Ok range) more is)) ∙ same;
    }

-- a range that can't be read is why the file can't be read
range_fails : (file : List ℕ) (before : List Segment) (at : ℕ) (fault : Fault) → at < length file → RangesLeft file before at → range_at file at ≡ Err fault → lime_segments file ≡ Err fault
range_fails file before at fault more left is = by left.most left.enough left.same
  where
    by : (most : ℕ) → length file ≤ at + most → and_then (ranges_from most file at) (λ ranges. Ok (before ++ ranges)) ≡ lime_segments file → lime_segments file ≡ Err fault
    by zero enough same = absurd (omega arith)
    by (suc most) enough same = sym same ∙ ap (λ found. and_then found (λ ranges. Ok (before ++ ranges))) (one_more most file at (Err fault) more is)

all_ranges : (file : List ℕ) (before : List Segment) (at : ℕ) → length file ≤ at → RangesLeft file before at → lime_segments file ≡ Ok before
all_ranges file before at end left = sym left.same ∙ ap (λ found. and_then found (λ ranges. Ok (before ++ ranges))) (by left.most) ∙ ap Ok (append-nil before)
  where
    by : (most : ℕ) → ranges_from most file at ≡ Ok []
    by zero = refl
    by (suc most) = ap (λ b. cond b (and_then (range_at file at) (λ range. and_then (ranges_from most file (range.offset + range.size)) (λ ranges. Ok (range ∷ ranges)))) (Ok [])) (le-ltb at (length file) end)

-- an error of a step is one of the whole
step_fails : {A B : Type 0} (may : Bool) (error : DumpError) (step : Result A Fault) (whole : Result B Fault) → GivesAtOnce may (λ (a : A). a) (Err error) step
    → ((fault : Fault) → step ≡ Err fault → whole ≡ Err fault) → Fails may error whole
step_fails may errors.OutOfMemory step whole is fails = tt
step_fails may (errors.Read error) step whole is fails = is
step_fails may (errors.Fault fault) step whole is fails = fails fault is

pub loop-at-init : goal.loop-at-init
loop-at-init g c = record { told = λ known. none_before (g.S.ByteSource.bytes c.args.source.now) _ c.new-segments.ensures.items }

pub returns-in_err-range : goal.returns-in_err-range
returns-in_err-range g c known =
    let file = g.S.ByteSource.bytes c.args.source.now in
    let long = c.len-length.ensures ∙ g.met.S.ByteSource.counted known c.args.source.now in
    let more : c.loop-at.at < length file = omega (arith, c.loop-at-test.true) in
    let is : c.from_residual.result ≡ Err c.in_err-range.field-0.0 = search rules in
    rw is (step_fails g.S.ByteSource.may_fail c.in_err-range.field-0.0 (range_at file c.loop-at.at) (lime_segments file) (c.in_err-range.ensures.range known)
    (λ fault fails. range_fails file c.loop-at.segments.items c.loop-at.at fault more (c.loop-at.invariant.told known) fails))

pub returns-in_default : goal.returns-in_default
returns-in_default g c known =
    let file = g.S.ByteSource.bytes c.args.source.now in
    let range = c.in_ok-range.range in
    let long = c.len-length.ensures ∙ g.met.S.ByteSource.counted known c.args.source.now in
    let more : c.loop-at.at < length file = omega (arith, c.loop-at-test.true) in
    let past : ¬ (range.offset + range.size < 2 ^ 64) = subst (λ (sum : Option ℕ). SomeIff sum (range.offset + range.size < 2 ^ 64) (range.offset + range.size)) c.in_default.is c.checked_add.ensures in
    all_ranges file c.push.new.self.items (range.offset + range.size) (omega (arith, long, past))
    (range_before file c.loop-at.segments.items c.push.new.self.items c.loop-at.at range more (c.in_ok-range.ensures.range known) c.in_ok-range.ensures.after c.in_ok-push.ensures.items
    (c.loop-at.invariant.told known))

pub loop-at-preserved : goal.loop-at-preserved
loop-at-preserved g c = record {
  told = λ known.
      let file = g.S.ByteSource.bytes c.args.source.now in
      let range = c.in_ok-range.range in
      let long = c.len-length.ensures ∙ g.met.S.ByteSource.counted known c.args.source.now in
      let more : c.loop-at.at < length file = omega (arith, c.loop-at-test.true) in
      let end = subst (λ (sum : Option ℕ). SomeIff sum (range.offset + range.size < 2 ^ 64) (range.offset + range.size)) c.in-Some.is c.checked_add.ensures in
      subst (RangesLeft file c.push.new.self.items) (sym end.1)
      (range_before file c.loop-at.segments.items c.push.new.self.items c.loop-at.at range more (c.in_ok-range.ensures.range known) c.in_ok-range.ensures.after c.in_ok-push.ensures.items
      (c.loop-at.invariant.told known));
}

pub returns : goal.returns
returns g c known =
    let file = g.S.ByteSource.bytes c.args.source.now in
    let long = c.len-length.ensures ∙ g.met.S.ByteSource.counted known c.args.source.now in
    let end : length file ≤ c.loop-at.at = omega (arith, c.loop-at-test.false) in
    all_ranges file c.loop-at.segments.items c.loop-at.at end (c.loop-at.invariant.told known)
