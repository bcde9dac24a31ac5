use Rattle.std.proofs.Common.{◌≡◌, ◌+◌, ℕ, List, [], ◌∷◌, ◌++◌, take, Some, ap, sym, ◌∙◌, add-one}
use Rattle.std.specs.List.{slice_get}
use Rattle.std.proofs.Math.Seq.{take-suc}
use Rattle.std.proofs.lemmas.Option.{get_or_from_slice_get, slice_get_within, slice_get-get_or}
use Rattle.pagetab_engine.proofs.frames.Frames.free_frames.Goals as goal
use Rattle.pagetab_engine.proofs.frames.Frames.free_frames.Goals.{in-Some+in_ok-push, in_default}

with_next : (xs : List ℕ) (n x : ℕ) → slice_get xs n ≡ Some x → take n xs ++ x ∷ [] ≡ take (n + 1) xs
with_next xs n x next =
    ap (λ y. take n xs ++ y ∷ []) (sym (get_or_from_slice_get xs n x 0 next)) ∙ sym (rw add-one (take-suc xs n 0 (slice_get_within xs n x next)))

pub loop-n-preserved : goal.loop-n-preserved
loop-n-preserved c =
    let frames = c.args.self.now.pool.frames in
    elim c.match-frame_at.branch [
      | in-Some+in_ok-push w ↦
          rw w.frames-is (w.in_ok-push.ensures.items ∙ ap (λ (ys : List ℕ). ys ++ w.in-Some.frame ∷ []) c.loop-n.invariant
          ∙ with_next frames c.loop-n.n w.in-Some.frame (sym c.frame_at.ensures ∙ w.in-Some.is))
      | in_default w ↦ absurd (w.in_default.not-Some _ (c.frame_at.ensures ∙ slice_get-get_or frames c.loop-n.n 0 (rw c.len-n-end.ensures at c.loop-n-test.true)))
    ]
