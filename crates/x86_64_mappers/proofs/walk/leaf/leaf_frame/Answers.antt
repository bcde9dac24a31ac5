use Rattle.std.proofs.Common.{◌%◌, not, nat_lt, Ok, Err, refl, sym, ap, ap₂, ◌∙◌}
use Rattle.std.proofs.Math.Bool.{beq}
use Rattle.x86_64_model.specs.Refusal.{InvalidFrameAddress}
use Rattle.x86_64_mappers.proofs.Entry.Flags.{tested}
use Rattle.x86_64_mappers.proofs.Entry.LeafEntries.{absent_leaf, wrong_leaf, aligned_leaf, unaligned_leaf}
use Rattle.x86_64_mappers.proofs.walk.leaf.leaf_frame.Goals as goal

pub returns-then-not-contains : goal.returns-then-not-contains
returns-then-not-contains g c =
    let e = c.args.entry.now in
    let f = c.flags-flags.result.0 in
    absent_leaf g.S.PageSize.LEVEL e g.S.PageSize.low (tested e f 1 _ c.flags-flags.ensures.value refl (c.contains.ensures tt) ∙ c.if-not-contains.true)

pub returns-then-contains-LEVEL : goal.returns-then-contains-LEVEL
returns-then-contains-LEVEL g c =
    let e = c.args.entry.now in
    let f = c.flags-flags.result.0 in
    let here = tested e f 1 _ c.flags-flags.ensures.value refl (c.contains.ensures tt) ∙ c.if-not-contains.false in
    let huge = tested e f 0x80 _ c.flags-flags.ensures.value refl (c.contains-2.ensures tt) in
    wrong_leaf g.S.PageSize.LEVEL e g.S.PageSize.low here (ap₂ (λ h l. not (beq h (nat_lt 1 l))) huge (sym c.LEVEL.ensures) ∙ c.if-contains-LEVEL.true)

pub returns-in-Ok : goal.returns-in-Ok
returns-in-Ok g c =
    let e = c.args.entry.now in
    let f = c.flags-flags.result.0 in
    let here = tested e f 1 _ c.flags-flags.ensures.value refl (c.contains.ensures tt) ∙ c.if-not-contains.false in
    let huge = tested e f 0x80 _ c.flags-flags.ensures.value refl (c.contains-2.ensures tt) in
    let right = ap₂ (λ h l. not (beq h (nat_lt 1 l))) huge (sym c.LEVEL.ensures) ∙ c.if-contains-LEVEL.false in
    ap Ok (c.in-Ok.ensures.value ∙ c.addr-address.ensures)
    ∙ aligned_leaf g.S.PageSize.LEVEL e g.S.PageSize.low here right
    (ap₂ (λ a s. a % s) (sym c.addr-address.ensures) (sym g.S.PageSize.size) ∙ c.in-Ok.ensures.aligned.0 refl)

pub returns-in-Err : goal.returns-in-Err
returns-in-Err g c =
    let e = c.args.entry.now in
    let f = c.flags-flags.result.0 in
    let here = tested e f 1 _ c.flags-flags.ensures.value refl (c.contains.ensures tt) ∙ c.if-not-contains.false in
    let huge = tested e f 0x80 _ c.flags-flags.ensures.value refl (c.contains-2.ensures tt) in
    let right = ap₂ (λ h l. not (beq h (nat_lt 1 l))) huge (sym c.LEVEL.ensures) ∙ c.if-contains-LEVEL.false in
    ap (λ a. Err (InvalidFrameAddress a)) c.addr-address.ensures
    ∙ unaligned_leaf g.S.PageSize.LEVEL e g.S.PageSize.low here right
    (λ aligned. let t = c.in-Err.ensures.aligned.1 (ap₂ (λ a s. a % s) c.addr-address.ensures g.S.PageSize.size ∙ aligned) in absurd (let t = t in cc))
