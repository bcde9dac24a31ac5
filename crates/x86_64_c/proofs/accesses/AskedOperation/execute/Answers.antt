use Rattle.std.proofs.Common.{arith, ◌≡◌, ◌≤◌, None, refl, subst₂}
use Rattle.std.proofs.lemmas.Bool.Decides.{nat_tests}
use Rattle.std.proofs.lemmas.Result.{err_from_is_err_and}
use Rattle.x86_64_access.specs.Accesses.{outcome_of}
use Rattle.x86_64_c.specs.Accesses.{memory_at, outcome_at, wrong_access}
use Rattle.x86_64_c.specs.Arguments.{at}
use Rattle.x86_64_c.specs.declared.accesses.AccessRequest.{AccessRequest}
use Rattle.x86_64_c.specs.declared.accesses.Controls.{Controls}
use Rattle.x86_64_c.proofs.accesses.AskedOperation.execute.Goals as goal

at_most : (controls : Controls) (request : AccessRequest) → wrong_access controls request ≡ None → controls.physical_bits ≤ 52
at_most controls request good = grind (arith, nat_tests)

pub access_at-requires : goal.access_at-requires
access_at-requires g c = at_most c.args.self.now.controls.now c.args.self.now.request.now c.in-Some.ensures.good

pub returns-clause-does : goal.returns-clause-does
returns-clause-does g c =
    let asked = c.args.self.now in
    let h = at g.P.PageTableFrameMapping.places g.L.LevelCount.LEVELS c.args.located (g.T.TableMemory.tables c.args.memory.now) in (
      subst₂ (λ position access. outcome_of c.access_at.result ≡ outcome_at h asked.controls.now position access) c.in_ok-address.ensures.position
          c.in-Some.ensures.some c.access_at.ensures.outcome,
      subst₂ (λ position access. g.T.TableMemory.tables c.access_at.new.memory ≡ memory_at h asked.controls.now position access
          asked.request.now.mark) c.in_ok-address.ensures.position c.in-Some.ensures.some c.access_at.ensures.marks,
      c.access_at.ensures.keeps,
    )

pub returns-clause-good : goal.returns-clause-good
returns-clause-good g c = rw c.in-Some.ensures.good c.in_ok-address.ensures.good

pub returns-in_err-address-clause-bad : goal.returns-in_err-address-clause-bad
returns-in_err-address-clause-bad g c =
    let e = err_from_is_err_and c.from_residual.result c.from_residual.ensures.1 in
    rw (e.1, c.in-Some.ensures.good, c.in_err-address.ensures.bad, e.2) refl

pub returns-in_default-clause-bad : goal.returns-in_default-clause-bad
returns-in_default-clause-bad g c = rw c.in_default.ensures.bad refl
