use Rattle.x86_64_mappings.proofs.mapping.put_place.Goals as goal

pub returns-clause-ascii : goal.returns-clause-ascii
returns-clause-ascii c before =
    c.put_hexadecimal.ensures.ascii (c.put-first-2.ensures.ascii (c.put_size-first.ensures.ascii (c.put-first.ensures.ascii
    (c.put_hexadecimal-first.ensures.ascii before))))
