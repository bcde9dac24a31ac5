use Rattle.std.proofs.Common.{◌≡◌, ◌+◌, ◌≤◌, ◌<◌, ◌^◌, ℕ, Option, IfSome, ap, sym, subst, ◌∙◌}
use Rattle.x86_64_dump.specs.Dump.{frame_offset}
use Rattle.x86_64_dump.specs.private.Search.{offset_at}
use Rattle.x86_64_dump.proofs.Frames.{aligned_frame, offset_below, offset_inside}
use Rattle.x86_64_dump.proofs.dump.Dump.offset_of.Given.{Over}
use Rattle.x86_64_dump.proofs.dump.Dump.offset_of.Goals as goal
use Rattle.x86_64_dump.proofs.dump.Dump.offset_of.Goals.{After-deref}

-- the offset by the stretches
found : (g : Over) (c : After-deref g) → offset_at c.deref.result.now c.as_u64-address.result ≡ frame_offset (g.S.ByteSource.size c.args.self.now.source) c.args.self.now.segments.items c.args.frame
found g c =
    let same : c.as_u64-address.result ≡ c.args.frame = c.as_u64-address.ensures.value ∙ c.start_address.ensures.value in
    ap (λ l. offset_at l c.as_u64-address.result) c.deref.ensures.value
    ∙ ap (offset_at c.args.self.now.stretches.items) same
    ∙ c.args.self.now.finds c.args.frame c.start_address.ensures.below

pub offset_at-requires-clause-fits : goal.offset_at-requires-clause-fits
offset_at-requires-clause-fits g c =
    offset_below (g.S.ByteSource.size c.args.self.now.source) c.args.self.now.segments.items c.args.frame _ (found g (goal.at.offset_at-requires-clause-fits g c).After-deref)
    (let P : ℕ → Type 0 = λ n. n < 2 ^ 64 in subst P c.len-length.ensures (search))

pub returns-clause-frame : goal.returns-clause-frame
returns-clause-frame g c = aligned_frame c.args.frame c.start_address.ensures.aligned_to_4kib c.start_address.ensures.below

pub returns-clause-inside : goal.returns-clause-inside
returns-clause-inside g c =
    let P : Option ℕ → Type 0 = λ o. IfSome o (λ offset. offset + 4096 ≤ g.S.ByteSource.size c.args.self.now.source) in
    subst P (sym (c.offset_at.ensures ∙ found g (goal.at.returns-clause-inside g c).After-deref))
    (offset_inside (g.S.ByteSource.size c.args.self.now.source) c.args.self.now.segments.items c.args.frame)
