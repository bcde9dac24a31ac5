use Rattle.std.proofs.Common.{◌≡◌, ◌∙◌, ◌++◌, Bool, List, ap, codes, if◌then◌else◌, refl, subst, sym, ℕ}
use Rattle.std.proofs.Output.{has_written_append}
use Rattle.std.specs.Fmt.{HasWritten}
use Rattle.ptdump_json.specs.Accesses.{control_text}
use Rattle.ptdump_json.proofs.access_line.write_control.Goals as goal
use Rattle.ptdump_json.proofs.access_line.write_control.Goals.{else-is_on, then-is_on}

pub returns : goal.returns
unfolding control_text
returns g c = λ plain ok.
    let took = g.W.Write.write_str_gives in
    let sign : Bool → List ℕ = λ is_on. if is_on then codes " +" else codes " -" in
    let is : c.if-is_on.write_str.now ≡ sign c.args.is_on = elim c.if-is_on.branch [
      | then-is_on w ↦ (λ k. (w.write_str-is k).now) ∙ ap sign (sym w.if-is_on.true)
      | else-is_on w ↦ (λ k. (w.write_str-is k).now) ∙ ap sign (sym w.if-is_on.false)
    ] in
    let one = c.in_ok-write_str.ensures.writes plain refl in
    subst (λ (sign : List ℕ). HasWritten took c.args.f.now (sign ++ c.args.name.now) c.write_str-2.new.self) is
    (has_written_append took _ _ _ _ _ one (c.write_str-2.ensures.writes one.plain ok))
