use Rattle.std.proofs.Common.{refl, rules}
use Rattle.x86_64_live.proofs.Maps.{done_after_look}
use Rattle.x86_64_live.proofs.map.map_or_nothing.Goals as goal

pub returns-clause-maps : goal.returns-clause-maps
returns-clause-maps g c =
    (done_after_look _ _ _ c.new-mapper.ensures.layout c.new-mapper.ensures.memory _ _ (search rules) _ _ _ c.requires.count g.S.PageSize.LEVEL c.args.map c.map_to_with_table_flags.result
    c.in_ok-would_map.ensures c.map_to_with_table_flags.ensures.does).0

pub returns-clause-refused : goal.returns-clause-refused
returns-clause-refused g c =
    (done_after_look _ _ _ c.new-mapper.ensures.layout c.new-mapper.ensures.memory _ _ refl _ _ _ c.requires.count g.S.PageSize.LEVEL c.args.map c.map_to_with_table_flags.result
    c.in_ok-would_map.ensures c.map_to_with_table_flags.ensures.does).1 _
