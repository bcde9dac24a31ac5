use Rattle.std.proofs.Common.{rules, ◌≡◌, ◌++◌, Bool, true, [], if◌then◌else◌, codes, sym, subst}
use Rattle.ptdump_engine.specs.Output.{Puts}
use Rattle.ptdump_json.specs.Walks.{faults_at, line, word_lines, word_text}
use Rattle.ptdump_engine.specs.private.Puts.{puts_both}
use Rattle.ptdump_json.proofs.Results.{on_ok}
use Rattle.ptdump_engine.proofs.walk.write_word.Goals as goal

pub returns : goal.returns
unfolding word_lines
returns g c =
    let contents = g.W.Destination.contents in
    let faults : faults_at c.args.controls c.args.read ≡ true = search (rules, c.faults_at.ensures) in
    on_ok c.writeln-2.result (λ put. subst (λ (b : Bool). Puts contents c.args.output.now c.writeln-2.new.self
    (line (word_text c.args.read) ++ (if b then line (codes "reserved bits: a processor faults here") else []))) (sym faults)
    (puts_both contents c.args.output.now c.writeln.new.self c.writeln-2.new.self _ _ c.in_ok-writeln.ensures.text put))
    c.writeln-2.ensures.text
