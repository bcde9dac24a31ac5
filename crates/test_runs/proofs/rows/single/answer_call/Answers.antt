use Rattle.x86_64_model.proofs.Lemmas.Machines.Fitting.{may_clean_up}
use Rattle.test_runs.proofs.rows.single.answer_call.Goals as goal

pub clean_up-requires : goal.clean_up-requires
clean_up-requires g c = may_clean_up _ _ _ c.requires

pub clean_up_addr_range-requires : goal.clean_up_addr_range-requires
clean_up_addr_range-requires g c = may_clean_up _ _ _ c.requires
