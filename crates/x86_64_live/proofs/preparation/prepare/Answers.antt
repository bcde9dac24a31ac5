use Rattle.std.proofs.Common.{refl, rules}
use Rattle.x86_64_tables.specs.PageTableFlags.{bits_of}
use Rattle.x86_64_live.proofs.Prepared.{made_after_look}
use Rattle.x86_64_live.proofs.preparation.prepare.Goals as goal

pub returns-clause-prepares : goal.returns-clause-prepares
returns-clause-prepares g c =
    (made_after_look _ _ _ c.new-mapper.ensures.layout c.new-mapper.ensures.memory _ _ (search rules) _ _ _ c.requires.count g.S.PageSize.LEVEL c.args.page (bits_of c.args.parent_flags) c.create_tables.result
    c.in_ok-would_prepare.ensures.refusal c.create_tables.ensures).0

pub returns-clause-refused : goal.returns-clause-refused
returns-clause-refused g c =
    (made_after_look _ _ _ c.new-mapper.ensures.layout c.new-mapper.ensures.memory _ _ refl _ _ _ c.requires.count g.S.PageSize.LEVEL c.args.page (bits_of c.args.parent_flags) c.create_tables.result
    c.in_ok-would_prepare.ensures.refusal c.create_tables.ensures).1 _
