use Rattle.std.proofs.Common.{◌≡◌, ◌∙◌, ◌++◌, List, ap, codes, refl, subst, ℕ}
use Rattle.std.proofs.Output.{has_written_append}
use Rattle.std.specs.Fmt.{HasWritten}
use Rattle.x86_64_mappings.specs.Texts.{mapping_text}
use Rattle.x86_64_model.specs.Mappings.{Mapping}
use Rattle.ptdump_json.specs.Names.{names_text}
use Rattle.ptdump_json.proofs.names.write_named.Goals as goal

pub returns : goal.returns
returns g c = λ plain ok.
    let took = g.W.Write.write_str_gives in
    let m = c.args.mapping.now in
    let size : c.size.result ≡ m.size = c.size.ensures in
    let flags : c.bits.result ≡ m.flags = c.bits.ensures tt ∙ ap (λ (m : Mapping). m.flags) c.mapping.view_is in
    let one = c.in_ok-write.ensures.writes plain refl in
    subst (λ (text : List ℕ). HasWritten took c.args.f.now text c.write_names.new.f)
    (λ k. mapping_text g.L.LevelCount.LEVELS m ++ codes " " ++ names_text (size k) (flags k))
    (has_written_append took _ _ _ _ _ one (c.write_names.ensures one.plain ok))
