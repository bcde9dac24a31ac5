use Rattle.std.proofs.Common.{◌∙◌, sym}
use Rattle.x86_64_dump.specs.Opened.{opened}
use Rattle.ptdump_engine.proofs.Tests.{refused}
use Rattle.ptdump_engine.proofs.engine.start_for.Goals as goal

pub returns-in-Some-clause-start : goal.returns-in-Some-clause-start
returns-in-Some-clause-start g c = λ known.
    refused g.S.ByteSource.may_fail c.args.request.now (opened g.S.ByteSource.bytes c.args.dump.now) c.in_ok-start.start c.in-Some.failure (c.in_ok-start.ensures known)
    (sym c.argument_failure.ensures ∙ c.in-Some.is)
