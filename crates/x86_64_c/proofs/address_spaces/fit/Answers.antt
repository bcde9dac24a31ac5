use Rattle.x86_64_c.proofs.ArgumentsGiven.{else_five}
use Rattle.x86_64_c.proofs.address_spaces.fit.Goals as goal

pub returns-then-levels-eq4 : goal.returns-then-levels-eq4
returns-then-levels-eq4 g c = rw c.if-levels-eq4.true c.roots_fit_by_marks.ensures

pub returns-else-levels-eq4 : goal.returns-else-levels-eq4
returns-else-levels-eq4 g c = rw (else_five c.args.levels c.requires.levels c.if-levels-eq4.false) c.roots_fit_by_marks-else-levels-eq4.ensures
