use Rattle.std.proofs.Common.{rules, ◌≡◌, ◌∙◌, None, Some, ap, sym}
use Rattle.x86_64_dump.specs.Dump.{words_of_dump}
use Rattle.x86_64_dump.specs.Opened.{opened}
use Rattle.ptdump_engine.specs.Processors.{firsts_of, modes_failure}
use Rattle.ptdump_engine.specs.Program.{first_failure}
use Rattle.ptdump_engine.proofs.Tests.{no_tables}
use Rattle.ptdump_engine.proofs.roots.processors_for.Goals as goal

pub returns-in-Some-first_failure : goal.returns-in-Some-first_failure
returns-in-Some-first_failure g c = λ known.
    let request = c.args.request.now in
    let dump = opened g.S.ByteSource.bytes c.args.dump.now in
    let ps = c.in_ok-processors.processors.items in
    let modes : modes_failure ps ≡ None = search rules in
    let firsts : c.deref-3.result.now ≡ firsts_of ps = c.deref-3.ensures.value ∙ c.in_ok-firsts.ensures ∙ ap firsts_of c.deref-2.ensures.value in
    let first : first_failure request (words_of_dump dump) c.deref-3.result.now ≡ Some c.in-Some-first_failure.failure = search rules in
    no_tables g.S.ByteSource.may_fail request dump ps c.in-Some-first_failure.failure (c.in_ok-processors.ensures known) modes
    (ap (first_failure request (words_of_dump dump)) (sym firsts) ∙ first)
