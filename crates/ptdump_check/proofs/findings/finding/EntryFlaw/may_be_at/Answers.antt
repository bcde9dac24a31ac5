use Rattle.std.proofs.Common.{◌≡◌, ◌∙◌, ◌≤◌, None, arith, subst, sym}
use Rattle.ptdump_check.specs.Findings.{flaw_in}
use Rattle.ptdump_check.proofs.Flawless.{none_unlimited}
use Rattle.ptdump_check.proofs.findings.finding.EntryFlaw.may_be_at.Goals as goal

pub returns-else-level-gt-LEVEL_ONE : goal.returns-else-level-gt-LEVEL_ONE
returns-else-level-gt-LEVEL_ONE c = λ not entry is.
    let low : c.args.level ≤ 1 = omega (arith, c.if-level-gt-LEVEL_ONE.false) in
    subst (λ flaw. flaw_in flaw entry ≡ None) (sym c.in-ReservedBits.is) (none_unlimited c.in-ReservedBits.controls c.args.level low (sym c.is_limited.ensures ∙ not) entry is)
