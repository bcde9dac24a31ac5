use Rattle.x86_64_c.proofs.arguments.page_map.Goals as goal

pub returns-clause-call : goal.returns-clause-call
returns-clause-call g c = rw (c.in_ok-frame.ensures.frame, c.from_bits_retain.ensures tt, c.from_bits_retain-2.ensures tt)
