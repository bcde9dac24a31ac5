use Rattle.x86_64_model.proofs.Lemmas.Live.During.{exchanges_during_calls}
use Rattle.x86_64_model.proofs.Lemmas.Live.Placed.{live_tables_fit, marks_may_replace}
use Rattle.x86_64_model.proofs.laws.live.live_tables_fit.Goals as goal

pub returns-clause-fit : goal.returns-clause-fit
returns-clause-fit c = live_tables_fit

pub returns-clause-marks : goal.returns-clause-marks
returns-clause-marks c = marks_may_replace

pub returns-clause-during : goal.returns-clause-during
returns-clause-during c = exchanges_during_calls
