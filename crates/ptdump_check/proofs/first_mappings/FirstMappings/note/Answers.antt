use Rattle.std.proofs.Common.{◌≡◌, ◌∙◌, cond, nat_eq, Some, sym, ap}
use Rattle.std.specs.HashMap.{get}
use Rattle.ptdump_check.specs.Aliasing.{frame_key, noted, MapsFrame}
use Rattle.ptdump_check.proofs.FirstAliases.{takes_one}
use Rattle.ptdump_check.proofs.first_mappings.FirstMappings.note.Goals as goal

pub returns : goal.returns
returns g c =
    let old = c.args.self.now in
    let m = c.args.mapping.now in
    let frame = c.mapping.inside.frame in
    let leads : MapsFrame m frame = record { size = sym (ap (λ m. m.size) c.mapping.view_is); start = sym (ap (λ m. m.frame) c.mapping.view_is); aligned = c.key-number.ensures.aligned } in
    let key : c.key-number.result ≡ frame_key frame = c.key-number.ensures.key in
    let before : c.copied-firsts.result ≡ get nat_eq old.firsts (frame_key frame) = c.copied-firsts.ensures ∙ c.get.ensures.value ∙ ap (get nat_eq old.firsts) key in
    let value : c.noted.result ≡ noted (get nat_eq old.firsts (frame_key frame)) m = c.noted.ensures ∙ (λ i. noted (before i) (c.mapping.view_is i)) in
    takes_one old (record { firsts = c.insert.new.self }) m frame leads
    (λ k. c.in_ok-insert.ensures.updates.0 k ∙ (λ i. cond (nat_eq (key i) k) (Some (value i)) (get nat_eq old.firsts k)))
