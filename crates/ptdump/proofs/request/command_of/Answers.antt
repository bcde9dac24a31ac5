use Rattle.std.proofs.Common.{rules, refl, inr, codes}
use Rattle.clap.specs.Matches.{found_of}
use Rattle.ptdump.proofs.Commands.{no_name, same_command, same_refusal}
use Rattle.ptdump.proofs.Names.{same_name, unlisted_name}
use Rattle.ptdump.proofs.Reasons.{mistake_for, reason_for}
use Rattle.ptdump.proofs.request.command_of.Goals as goal

pub returns-then-eq-clause-ok : goal.returns-then-eq-clause-ok
returns-then-eq-clause-ok c = same_command c.args.name.now (codes "regions") (found_of c.args.arguments.now) c.regions_of.result (search rules) c.regions_of.ensures.ok

pub returns-then-eq-clause-err : goal.returns-then-eq-clause-err
returns-then-eq-clause-err c = same_refusal c.args.name.now (codes "regions") (found_of c.args.arguments.now) c.regions_of.result (search rules) c.regions_of.ensures.err

pub returns-then-eq-clause-reason : goal.returns-then-eq-clause-reason
returns-then-eq-clause-reason c = mistake_for c.args.name.now (found_of c.args.arguments.now) c.regions_of.result c.regions_of.ensures.reason

pub returns-then-eq-2-clause-ok : goal.returns-then-eq-2-clause-ok
returns-then-eq-2-clause-ok c = same_command c.args.name.now (codes "pages") (found_of c.args.arguments.now) c.pages_of.result (search rules) c.pages_of.ensures.ok

pub returns-then-eq-2-clause-err : goal.returns-then-eq-2-clause-err
returns-then-eq-2-clause-err c = same_refusal c.args.name.now (codes "pages") (found_of c.args.arguments.now) c.pages_of.result (search rules) c.pages_of.ensures.err

pub returns-then-eq-2-clause-reason : goal.returns-then-eq-2-clause-reason
returns-then-eq-2-clause-reason c = mistake_for c.args.name.now (found_of c.args.arguments.now) c.pages_of.result c.pages_of.ensures.reason

pub returns-then-eq-3-clause-ok : goal.returns-then-eq-3-clause-ok
returns-then-eq-3-clause-ok c = same_command c.args.name.now (codes "walk") (found_of c.args.arguments.now) c.walk_of.result (search rules) c.walk_of.ensures.ok

pub returns-then-eq-3-clause-err : goal.returns-then-eq-3-clause-err
returns-then-eq-3-clause-err c = same_refusal c.args.name.now (codes "walk") (found_of c.args.arguments.now) c.walk_of.result (search rules) c.walk_of.ensures.err

pub returns-then-eq-3-clause-reason : goal.returns-then-eq-3-clause-reason
returns-then-eq-3-clause-reason c = reason_for c.args.name.now (found_of c.args.arguments.now) c.walk_of.result c.walk_of.ensures.reason

pub returns-then-eq-4-clause-ok : goal.returns-then-eq-4-clause-ok
returns-then-eq-4-clause-ok c = same_command c.args.name.now (codes "find") (found_of c.args.arguments.now) c.search_of.result (search rules) c.search_of.ensures.ok

pub returns-then-eq-4-clause-err : goal.returns-then-eq-4-clause-err
returns-then-eq-4-clause-err c = same_refusal c.args.name.now (codes "find") (found_of c.args.arguments.now) c.search_of.result (search rules) c.search_of.ensures.err

pub returns-then-eq-4-clause-reason : goal.returns-then-eq-4-clause-reason
returns-then-eq-4-clause-reason c = reason_for c.args.name.now (found_of c.args.arguments.now) c.search_of.result c.search_of.ensures.reason

pub returns-then-eq-5-clause-ok : goal.returns-then-eq-5-clause-ok
returns-then-eq-5-clause-ok c = same_command c.args.name.now (codes "check") (found_of c.args.arguments.now) c.check_of.result (search rules) c.check_of.ensures.ok

pub returns-then-eq-5-clause-err : goal.returns-then-eq-5-clause-err
returns-then-eq-5-clause-err c = same_refusal c.args.name.now (codes "check") (found_of c.args.arguments.now) c.check_of.result (search rules) c.check_of.ensures.err

pub returns-then-eq-5-clause-reason : goal.returns-then-eq-5-clause-reason
returns-then-eq-5-clause-reason c = reason_for c.args.name.now (found_of c.args.arguments.now) c.check_of.result c.check_of.ensures.reason

pub returns-then-eq-6-clause-ok : goal.returns-then-eq-6-clause-ok
returns-then-eq-6-clause-ok c = same_name c.args.name.now (codes "image") (search rules)

pub returns-then-eq-7-clause-ok : goal.returns-then-eq-7-clause-ok
returns-then-eq-7-clause-ok c = same_name c.args.name.now (codes "picture") (search rules)

pub returns-then-eq-8-clause-ok : goal.returns-then-eq-8-clause-ok
returns-then-eq-8-clause-ok c = same_name c.args.name.now (codes "info") (search rules)

pub returns-else-eq-8-clause-err : goal.returns-else-eq-8-clause-err
returns-else-eq-8-clause-err c = inr (no_name c.args.name.now (found_of c.args.arguments.now)
    (search rules) (search rules) (search rules) (search rules) (search rules) (search rules) (search rules) (search rules))

pub returns-else-eq-8-clause-reason : goal.returns-else-eq-8-clause-reason
returns-else-eq-8-clause-reason c = (
  refl,
  unlisted_name c.args.name.now (search rules) (search rules) (search rules) (search rules) (search rules) (search rules) (search rules) (search rules),
)
