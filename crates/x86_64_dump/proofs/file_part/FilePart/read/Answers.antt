use Rattle.std.proofs.Common.{◌≡◌, ◌≤◌, ◌*◌, ◌++◌, ◌∙◌, ℕ, List, length, take, refl, sym, ap, arith}
use Rattle.std.proofs.Math.Seq.{take-append_seam}
use Rattle.std.proofs.lemmas.List.{length-take}
use Rattle.std.proofs.lemmas.Result.{IfOk-from_err, err_from_is_err_and}
use Rattle.x86_64_dump.specs.Source.{bytes_at}
use Rattle.x86_64_dump.proofs.file_part.FilePart.read.Goals as goal

pub overflow_mul-count : goal.overflow_mul-count
overflow_mul-count g c = omega (arith, c.requires)

pub invariant_of-self : goal.invariant_of-self
invariant_of-self g c = omega arith

pub invariant_of-self-2 : goal.invariant_of-self-2
invariant_of-self-2 g c = omega (arith, c.requires)

pub returns-in_err-read_exact_at-clause-bytes : goal.returns-in_err-read_exact_at-clause-bytes
returns-in_err-read_exact_at-clause-bytes g c _ = IfOk-from_err c.from_residual.result _ c.from_residual.ensures.0

pub returns-in_err-read_exact_at-clause-place : goal.returns-in_err-read_exact_at-clause-place
returns-in_err-read_exact_at-clause-place g c = IfOk-from_err c.from_residual.result _ c.from_residual.ensures.0

pub returns-in_err-read_exact_at-clause-failed : goal.returns-in_err-read_exact_at-clause-failed
returns-in_err-read_exact_at-clause-failed g c inside =
    let e = err_from_is_err_and c.from_residual.result c.from_residual.ensures.1 in
    rw e.1 (c.in_err-read_exact_at.ensures.failed (omega (arith, inside, c.self.told)))

pub returns-in_err-read_exact_at-clause-nothing : goal.returns-in_err-read_exact_at-clause-nothing
returns-in_err-read_exact_at-clause-nothing g c =
    let e = err_from_is_err_and c.from_residual.result c.from_residual.ensures.1 in
    rw e.1 refl

-- the part has the bytes that were read
read_whole : (bytes behind before : List ℕ) (n : ℕ) → length bytes ≡ length (take (n * 4096) before)
    → length before ≡ 32768 → n ≤ 8 → take (n * 4096) (bytes ++ behind) ≡ bytes
read_whole bytes behind before n same long few =
    let whole : n * 4096 ≡ length bytes = omega (arith, same, long, few, length-take (n * 4096) before) in
    ap (λ count. take count (bytes ++ behind)) whole ∙ take-append_seam bytes behind

pub returns-clause-bytes : goal.returns-clause-bytes
returns-clause-bytes g c known =
    let bytes = c.read_exact_at.new.buffer in
    let whole = read_whole bytes _ c.self.inside.bytes c.args.frames c.read_exact_at.auto.buffer c.self.told c.requires in
    whole ∙ c.in_ok-read_exact_at.ensures.bytes known
    ∙ ap (bytes_at (g.S.ByteSource.bytes c.args.source.now) c.args.offset) (sym c.read_exact_at.auto.buffer ∙ sym (ap length whole))

pub returns-clause-place : goal.returns-clause-place
returns-clause-place g c =
    let whole = read_whole c.read_exact_at.new.buffer _ c.self.inside.bytes c.args.frames c.read_exact_at.auto.buffer c.self.told c.requires in
    let many = length-take (c.args.frames * 4096) c.self.inside.bytes in
    (refl, ap length whole ∙ c.read_exact_at.auto.buffer ∙ omega (arith, c.self.told, c.requires, many))
