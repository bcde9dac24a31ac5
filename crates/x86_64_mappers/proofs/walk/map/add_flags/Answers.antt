use Rattle.std.proofs.Common.{◌≡◌, bit_and, bit_or, eqb-true, sym, ap, ◌∙◌}
use Rattle.x86_64_model.specs.Entry.{address, flags}
use Rattle.x86_64_model.proofs.Lemmas.Entries.Bits.{flags_added, whole}
use Rattle.x86_64_model.proofs.Lemmas.Pairs.AlikeEntries.{or_part}
use Rattle.x86_64_mappers.proofs.walk.map.add_flags.Goals as goal

pub returns-then-not-contains : goal.returns-then-not-contains
returns-then-not-contains c =
    c.set_flags.ensures ∙ ap (bit_or (address c.args.entry.now)) (c.union.ensures tt ∙ ap (λ x. bit_or x c.args.more.0) c.flags-flags.ensures.value)
    ∙ flags_added c.args.entry.now c.args.more.0 c.flags-flags.ensures.below

pub returns-else-not-contains : goal.returns-else-not-contains
returns-else-not-contains c =
    let e = c.args.entry.now in let more = c.args.more.0 in
    let has_all : bit_and (flags e) more ≡ more = ap (λ f. bit_and f more) (sym c.flags-flags.ensures.value) ∙ eqb-true _ _ (sym (c.contains.ensures tt) ∙ c.if-not-contains.false) in
    sym (whole e c.flags-flags.ensures.below) ∙ ap (bit_or (address e)) (sym (or_part (flags e) more has_all)) ∙ flags_added e more c.flags-flags.ensures.below
