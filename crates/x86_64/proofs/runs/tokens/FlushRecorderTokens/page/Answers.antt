use Rattle.x86_64.proofs.runs.tokens.FlushRecorderTokens.page.Goals as goal

pub returns-in_default-clause-items : goal.returns-in_default-clause-items
returns-in_default-clause-items g c = c.in_default.ensures.items
