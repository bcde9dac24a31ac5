use Rattle.std.proofs.Common.{◌++◌, refl, subst}
use Rattle.std.proofs.Output.{has_written_append}
use Rattle.std.specs.Fmt.{HasWritten}
use Rattle.ptdump_json.specs.Names.{names_text, protection_key_text, set_text, software_text}
use Rattle.ptdump_json.proofs.names.write_names.Goals as goal

pub returns : goal.returns
unfolding names_text
returns g c = λ plain ok.
    let took = g.W.Write.write_str_gives in
    let word = c.args.word in
    let one = c.in_ok-write_set.ensures plain refl in
    let two = has_written_append took _ _ _ _ _ one (c.in_ok-write_key.ensures one.plain refl) in
    subst (λ flags. HasWritten took c.args.f.now (set_text word flags ++ protection_key_text word ++ software_text word) c.write_software.new.f)
    c.flags_of.ensures (has_written_append took _ _ _ _ _ two (c.write_software.ensures two.plain ok))
