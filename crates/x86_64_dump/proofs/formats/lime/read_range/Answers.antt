use Rattle.std.proofs.Common.{◌≡◌, ◌∙◌, ◌+◌, ℕ, Bool, true, false, true≢false, cond, List, length, nat_lt, Result, Ok, Err, ap, sym, arith}
use Rattle.x86_64_dump.specs.Numbers.{u32_at}
use Rattle.x86_64_dump.specs.Source.{bytes_at}
use Rattle.x86_64_dump.specs.Formats.Lime.{cut_header, range_at, range_behind, range_header_at}
use Rattle.x86_64_dump.specs.Opening.{GivesAtOnce}
use Rattle.x86_64_dump.specs.declared.error.DumpError.{DumpError}
use Rattle.x86_64_dump.specs.declared.error.DumpError.TheVariants as errors
use Rattle.x86_64_dump.specs.declared.error.Fault.{Fault}
use Rattle.x86_64_dump.specs.declared.formats.lime.RangeHeader.{RangeHeader}
use Rattle.x86_64_dump.proofs.Parts.{Shows, part_shows, u32_shown, u64_shown}
use Rattle.x86_64_dump.proofs.formats.lime.read_range.Goals as goal

range_header_shown : (part file : List ℕ) (offset : ℕ) → Shows part file offset 32 → range_header_at part 0 ≡ range_header_at file offset
unfolding range_header_at
range_header_shown part file offset shows =
    let start : offset + 0 ≡ offset = omega arith in
    let magic : u32_at part 0 ≡ u32_at file offset = u32_shown part file 0 offset 32 shows (omega arith) ∙ ap (u32_at file) start in
    let version = u32_shown part file 4 offset 32 shows (omega arith) in
    let first = u64_shown part file 8 offset 32 shows (omega arith) in
    let last = u64_shown part file 16 offset 32 shows (omega arith) in
    cc

-- the file ends before the header does
header_cut : (file : List ℕ) (at size : ℕ) → size ≡ length file → nat_lt size (at + 32) ≡ true → range_at file at ≡ cut_header size at
unfolding range_at
header_cut file at size long cut =
    ap (λ b. cond b (cut_header (length file) at) (range_behind at (range_header_at file at))) (ap (λ n. nat_lt n (at + 32)) (sym long) ∙ cut)
    ∙ ap (λ n. cut_header n at) (sym long)

-- the header was read
header_read : (file : List ℕ) (at size : ℕ) (part : List ℕ) (header : RangeHeader) → size ≡ length file → nat_lt size (at + 32) ≡ false → part ≡ bytes_at file at 32
    → header ≡ range_header_at part 0 → range_at file at ≡ range_behind at header
unfolding range_at
header_read file at size part header long whole read told =
    ap (λ b. cond b (cut_header (length file) at) (range_behind at (range_header_at file at))) (ap (λ n. nat_lt n (at + 32)) (sym long) ∙ whole)
    ∙ ap (range_behind at) (sym (told ∙ ap (λ bytes. range_header_at bytes 0) read ∙ range_header_shown (bytes_at file at 32) file at (part_shows file at 32)))

-- a call that reads nothing gives what is expected, whether or not reads may fail
at_once_if : {X : Type 0} (may : Bool) (result : Result X DumpError) (found expected : Result X Fault) → expected ≡ found → GivesAtOnce false (λ (x : X). x) result found
    → GivesAtOnce may (λ (x : X). x) result expected
at_once_if may (Ok x) found expected same is = same ∙ is
at_once_if may (Err errors.OutOfMemory) found expected same is = is
at_once_if may (Err (errors.Read error)) found expected same is = absurd (true≢false (sym is))
at_once_if may (Err (errors.Fault fault)) found expected same is = same ∙ is

pub returns-then-ends_after-clause-range : goal.returns-then-ends_after-clause-range
returns-then-ends_after-clause-range g c = λ known.
    at_once_if g.S.ByteSource.may_fail c.cut_header.result _ _
    (header_cut (g.S.ByteSource.bytes c.args.source.now) c.args.at _ (c.len-length.ensures ∙ g.met.S.ByteSource.counted known c.args.source.now) (sym c.ends_after.ensures ∙ c.if-ends_after.true))
    c.cut_header.ensures.header

pub returns-in-Ok-clause-range : goal.returns-in-Ok-clause-range
returns-in-Ok-clause-range g c = λ known.
    let file = g.S.ByteSource.bytes c.args.source.now in
    let read : c.read_exact_at.new.buffer ≡ bytes_at file c.args.at 32 = c.in_ok-read_exact_at.ensures.bytes known in
    header_read file c.args.at _ _ _ (c.len-length.ensures ∙ g.met.S.ByteSource.counted known c.args.source.now) (sym c.ends_after.ensures ∙ c.if-ends_after.false) read c.header_in.ensures
    ∙ sym c.in-Ok.ensures.range

pub returns-in-Err-clause-range : goal.returns-in-Err-clause-range
returns-in-Err-clause-range g c = λ known.
    let file = g.S.ByteSource.bytes c.args.source.now in
    let read : c.read_exact_at.new.buffer ≡ bytes_at file c.args.at 32 = c.in_ok-read_exact_at.ensures.bytes known in
    header_read file c.args.at _ _ _ (c.len-length.ensures ∙ g.met.S.ByteSource.counted known c.args.source.now) (sym c.ends_after.ensures ∙ c.if-ends_after.false) read c.header_in.ensures
    ∙ sym c.in-Err.ensures.range
