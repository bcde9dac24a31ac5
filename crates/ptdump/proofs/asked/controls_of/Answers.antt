use Rattle.std.proofs.Common.{List, [], ℕ, Option, IfErr, option_map, unwrap_or, sym, subst}
use Rattle.std.specs.Borrow.{Bor}
use Rattle.x86_64_access.specs.declared.controls.Controls.{Controls}
use Rattle.ptdump.specs.Asked.{AreControls, texts_of, usual_names}
use Rattle.ptdump.specs.Reasons.{IsNoSetting}
use Rattle.ptdump.proofs.asked.controls_of.Goals as goal

pub returns-in-Some-clause-err : goal.returns-in-Some-clause-err
returns-in-Some-clause-err c =
    subst (λ (o : Option (Bor (List (Bor (List ℕ))))). IfErr c.controls_named.result (λ x. (controls : Controls) → AreControls (unwrap_or (option_map texts_of o) usual_names) controls → ⊥))
    (sym c.in-Some.is) c.controls_named.ensures.err

pub returns-in-Some-clause-reason : goal.returns-in-Some-clause-reason
returns-in-Some-clause-reason c =
    subst (λ (o : Option (Bor (List (Bor (List ℕ))))). IfErr c.controls_named.result (IsNoSetting (unwrap_or (option_map texts_of o) [])))
    (sym c.in-Some.is) c.controls_named.ensures.reason
