use Rattle.std.proofs.Common.{List, [], ℕ, rules, Option, unwrap_or, sym, subst}
use Rattle.clap.specs.Matches.{found_of}
use Rattle.ptdump_json.specs.declared.options.WalkOptions.{WalkOptions}
use Rattle.ptdump.specs.Asked.{AreAsked, AreControls, usual_names}
use Rattle.ptdump.specs.Reasons.{IsMistake, IsNoSetting}
use Rattle.ptdump.proofs.Reasons.{of_settings}
use Rattle.ptdump.proofs.Refusals.{of_any_error}
use Rattle.ptdump.proofs.asked.options_of.Goals as goal

pub returns-in_err-controls-clause-err : goal.returns-in_err-controls-clause-err
returns-in_err-controls-clause-err c =
    let found = found_of c.args.arguments.now in
    of_any_error c.from_residual-in_err-controls.result (λ stop. (options : WalkOptions) → AreAsked found options → ⊥)
    (λ stop options are. c.in_err-controls.ensures.err options.controls
    (subst (λ (o : Option (List (List ℕ))). AreControls (unwrap_or o usual_names) options.controls) (sym c.get_strs-words.ensures) are.controls))

pub returns-in_err-controls-clause-reason : goal.returns-in_err-controls-clause-reason
returns-in_err-controls-clause-reason c =
    let found = found_of c.args.arguments.now in
    let reason : IsMistake found c.in_err-controls.field-0.0 =
    of_settings found c.in_err-controls.field-0.0
    (subst (λ (o : Option (List (List ℕ))). IsNoSetting (unwrap_or o []) c.in_err-controls.field-0.0) c.get_strs-words.ensures c.in_err-controls.ensures.reason) in
    search (rules, reason)
