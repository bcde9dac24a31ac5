use Rattle.std.proofs.Common.{rules, ◌≡◌, ◌<◌, ◌-◌, ◌++◌, arith, length, length-drop, length-take, refl, subst, take, drop, append-nil}
use Rattle.std.proofs.KnownBytes.{Appends-kept, Appends-trans}
use Rattle.std.specs.Io.KnownBytes.{Appends}
use Rattle.pagetab_engine.proofs.Written.{cut_short, moves_on}
use Rattle.pagetab_engine.proofs.engine.write_line.Goals as goal
use Rattle.pagetab_engine.proofs.engine.write_line.Goals.{in-Ok-2, in-Err+else-ne}

pub returns-in-Ok-eq0-clause-cut : goal.returns-in-Ok-eq0-clause-cut
returns-in-Ok-eq0-clause-cut g c =
    let contents = g.W.Write.contents in
    let (done, split, appended, some) = c.loop.invariant in
    let rest = c.loop.rest.now in
    let old = contents c.args.writer.now in
    let held = contents c.loop.writer in
    let new = contents c.write.new.self in
    let none : c.in-Ok-eq0.field-0 ≡ 0 = search rules in
    let nothing : Appends held new (take 0 rest) = subst (λ n. Appends held new (take n rest)) none c.in-Ok-eq0.ensures.bytes in
    (refl, cut_short old new _ done rest split some (subst (λ bytes. Appends old new bytes) (append-nil done) (Appends-trans old held new done (take 0 rest) appended nothing)))

pub returns-then-ne-clause-cut : goal.returns-then-ne-clause-cut
returns-then-ne-clause-cut g c =
    let (done, split, appended, some) = c.loop.invariant in
    (refl, cut_short _ _ _ done c.loop.rest.now split some (Appends-kept _ _ _ done appended c.in-Err.ensures.bytes))

pub returns-clause-cut : goal.returns-clause-cut
returns-clause-cut g c =
    let (done, split, appended, some) = c.loop.invariant in
    (refl, cut_short _ _ _ done c.loop.rest.now split some appended)

pub loop-preserved : goal.loop-preserved
loop-preserved g c =
    let (done, split, appended, some) = c.loop.invariant in
    let rest = c.loop.rest.now in
    elim c.match-write.branch [
      | in-Ok-2 w ↦
          let n = w.in-Ok.count in
          let more : 0 < length (take (length rest - n) (drop n rest)) = omega (arith, length-take (length rest - n) (drop n rest), length-drop n rest, w.if-count-rest.false, w.in-Ok.ensures.bound) in
          rw w.rest-is (done ++ take n rest, moves_on _ done rest n split, Appends-trans _ _ _ done (take n rest) appended w.in-Ok.ensures.bytes, more)
      | in-Err+else-ne w ↦ rw w.rest-is (done, split, Appends-kept _ _ _ done appended w.in-Err.ensures.bytes, some)
    ]
