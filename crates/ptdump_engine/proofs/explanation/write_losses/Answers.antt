use Rattle.std.proofs.Common.{◌≡◌, ◌∙◌, Bool, not, codes, ap, subst}
use Rattle.x86_64_model.specs.Entry.{writable, user, no_execute}
use Rattle.ptdump_json.specs.Explanations.{loss_text, losses_text}
use Rattle.ptdump_engine.specs.Output.{Puts}
use Rattle.ptdump_engine.specs.private.Puts.{puts_both}
use Rattle.ptdump_json.proofs.Results.{on_ok}
use Rattle.ptdump_engine.proofs.explanation.write_losses.Goals as goal

pub returns : goal.returns
unfolding losses_text
returns g c =
    let contents = g.W.Destination.contents in
    let w = c.args.read.now in
    let word = c.from_word-entry.ensures in
    let write : c.has_flag-has_write.result ≡ writable w.word = c.has_flag-has_write.ensures ∙ ap writable word in
    let by_user : c.has_flag-has_user.result ≡ user w.word = c.has_flag-has_user.ensures ∙ ap user word in
    let execute : not c.has_flag-has_execute.result ≡ not (no_execute w.word) = ap not (c.has_flag-has_execute.ensures ∙ ap no_execute word) in
    let first : Puts contents c.args.output.now c.write_loss.new.output (loss_text w (writable w.word) (codes "write")) =
    subst (λ (b : Bool). Puts contents c.args.output.now c.write_loss.new.output (loss_text w b (codes "write"))) write c.in_ok-write_loss.ensures in
    let second : Puts contents c.write_loss.new.output c.write_loss-2.new.output (loss_text w (user w.word) (codes "user")) =
    subst (λ (b : Bool). Puts contents c.write_loss.new.output c.write_loss-2.new.output (loss_text w b (codes "user"))) by_user c.in_ok-write_loss-2.ensures in
    on_ok c.write_loss-3.result (λ put. puts_both contents c.args.output.now c.write_loss-2.new.output c.write_loss-3.new.output _ _
    (puts_both contents c.args.output.now c.write_loss.new.output c.write_loss-2.new.output _ _ first second)
    (subst (λ (b : Bool). Puts contents c.write_loss-2.new.output c.write_loss-3.new.output (loss_text w b (codes "execute"))) execute put))
    c.write_loss-3.ensures
