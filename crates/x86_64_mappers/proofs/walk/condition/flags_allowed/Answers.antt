use Rattle.std.proofs.Common.{◌≡◌, Bool, true, false, ◌==◌, ◌&&◌, ◌||◌, not, refl, ap, ◌∙◌}
use Rattle.x86_64_model.specs.Entry.{has}
use Rattle.x86_64_mappers.proofs.walk.condition.flags_allowed.Goals as goal

twice : (b : Bool) → not (not b) ≡ b
twice true = refl
twice false = refl

pub returns : goal.returns
unfolding has
returns g c =
    let plain = ap not c.has_address_bits.ensures ∙ twice _ in
    let parents_plain = ap not c.has_address_bits-2.ensures ∙ twice _ in
    λ i. plain i && parents_plain i && not (c.contains.ensures tt i)
    && (not (c.LEVEL.ensures i == 1) || not (c.contains-2.ensures tt i))
