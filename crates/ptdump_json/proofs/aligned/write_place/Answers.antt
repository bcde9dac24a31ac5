use Rattle.std.proofs.Common.{rules, ◌≡◌, ℕ, List, ap, subst}
use Rattle.std.specs.Fmt.{WritesOnOk}
use Rattle.x86_64_model.specs.Mappings.{Mapping}
use Rattle.x86_64_model.specs.Position.{raw}
use Rattle.ptdump_json.specs.Columns.{place_columns}
use Rattle.ptdump_json.proofs.aligned.write_place.Goals as goal

pub returns : goal.returns
returns g c =
    let m = c.args.mapping.now in
    let is = c.mapping.view_is in
    let start : c.as_u64.result ≡ raw g.L.LevelCount.LEVELS m.start = search (rules, is) in
    let size : c.size.result ≡ m.size = search (rules, is) in
    let frame : c.as_u64-2.result ≡ m.frame = search (rules, is) in
    let rights : c.mapping.inside.rights ≡ m.rights = ap (λ (m : Mapping). m.rights) is in
    subst (λ (text : List ℕ). WritesOnOk g.W.Write.write_str_gives c.args.f.now c.write_place_columns.result text c.write_place_columns.new.f)
    (λ i. place_columns (start i) (size i) (frame i) (rights i)) c.write_place_columns.ensures
