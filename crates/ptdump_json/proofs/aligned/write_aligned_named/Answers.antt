use Rattle.std.proofs.Common.{◌≡◌, ◌∙◌, ◌++◌, List, ap, append_assoc, codes, refl, subst, sym, ℕ}
use Rattle.std.proofs.Output.{has_written_append}
use Rattle.std.specs.Fmt.{HasWritten}
use Rattle.x86_64_model.specs.Mappings.{Mapping}
use Rattle.text.specs.Numbers.{hexadecimal}
use Rattle.ptdump_json.specs.Columns.{aligned_place, at_left}
use Rattle.ptdump_json.specs.Names.{names_text}
use Rattle.ptdump_json.proofs.aligned.write_aligned_named.Goals as goal

pub returns : goal.returns
returns g c = λ plain ok.
    let took = g.W.Write.write_str_gives in
    let m = c.args.mapping.now in
    let place = aligned_place g.L.LevelCount.LEVELS m in
    let column = at_left 18 (hexadecimal c.bits.result) in
    let names = names_text c.size.result c.bits-2.result in
    let size : c.size.result ≡ m.size = c.size.ensures in
    let flags : c.bits.result ≡ m.flags = c.bits.ensures tt ∙ ap (λ (m : Mapping). m.flags) c.mapping.view_is in
    let flags-2 : c.bits-2.result ≡ m.flags = c.bits-2.ensures tt ∙ ap (λ (m : Mapping). m.flags) c.mapping.view_is in
    let one = c.in_ok-write_place.ensures plain refl in
    let two = has_written_append took _ _ _ _ _ one (c.in_ok-write.ensures.writes one.plain refl) in
    let apart = append_assoc (place ++ codes " ") column (codes " ") ∙ append_assoc place (codes " ") (column ++ codes " ") in
    subst (λ (text : List ℕ). HasWritten took c.args.f.now text c.write_names.new.f)
    (ap (λ xs. xs ++ names) (sym apart)
    ∙ (λ k. place ++ codes " " ++ at_left 18 (hexadecimal (flags k)) ++ codes " " ++ names_text (size k) (flags-2 k)))
    (has_written_append took _ _ _ _ _ two (c.write_names.ensures two.plain ok))
