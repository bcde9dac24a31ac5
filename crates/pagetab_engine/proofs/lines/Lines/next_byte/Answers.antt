use Rattle.std.proofs.Common.{rules, ◌≡◌, ◌<◌, ◌+◌, ◌-◌, ◌∷◌, ℕ, List, slice_range, length, arith, sym, ap, ◌∙◌, get_or, take, drop, suc, add-one}
use Rattle.std.specs.Io.KnownBytes.{Keeps}
use Rattle.std.proofs.Math.Seq.{drop-cons}
use Rattle.std.proofs.KnownBytes.{Keeps-refl, prepend_known-read}
use Rattle.pagetab_engine.specs.Lines.{bytes_left}
use Rattle.pagetab_engine.proofs.lines.Lines.next_byte.Goals.{else-self-via-then-self+in_ok-fill+else-not-branch, else-self-via-else-self}
use Rattle.pagetab_engine.proofs.lines.Lines.next_byte.Goals as goal

-- a range that isn't empty begins with the item at its start
range_first : (xs : List ℕ) (start end : ℕ) → start < end → start < length xs → slice_range xs start end ≡ get_or xs start 0 ∷ slice_range xs (start + 1) end
range_first xs start end some inside =
    let rest : end - start ≡ suc (end - (start + 1)) = omega arith in
    ap (take (end - start)) (drop-cons xs start 0 inside) ∙ ap (λ n. take n (get_or xs start 0 ∷ drop (suc start) xs)) rest
    ∙ ap (λ n. get_or xs start 0 ∷ take (end - (start + 1)) (drop n xs)) (sym (add-one start))

pub returns-clause-byte : goal.returns-clause-byte
returns-clause-byte g c =
    let lines = c.else-self.self in
    let some : lines.at < lines.end = elim c.else-self.branch [
      | else-self-via-then-self+in_ok-fill+else-not-branch w ↦ let filled = rw w.if-not-branch.false at w.in_ok-fill.ensures.filled in rw w.self-is filled
      | else-self-via-else-self w ↦ rw w.self-is (omega (arith, w.if-self.false))
    ] in
    let kept : Keeps (bytes_left g.R.Read.remaining c.args.self.now) (bytes_left g.R.Read.remaining lines) = elim c.else-self.branch [
      | else-self-via-then-self+in_ok-fill+else-not-branch w ↦ rw w.self-is w.in_ok-fill.ensures.bytes
      | else-self-via-else-self w ↦ rw w.self-is (Keeps-refl (bytes_left g.R.Read.remaining c.args.self.now))
    ] in
    let long : length lines.buffer ≡ 512 = search rules in
    (prepend_known-read _ _ _ _ _ ⊥ kept (range_first lines.buffer lines.at lines.end some (omega arith)) (λ no. absurd no)).0
