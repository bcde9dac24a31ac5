use Rattle.std.proofs.Common.{◌≡◌, ◌∙◌, ◌++◌, ℕ, Option, Some, OnOk, map, sym, ap, subst}
use Rattle.std.specs.List.{filter_map}
use Rattle.std.specs.List.Sorted.{IsNonDecreasingBy}
use Rattle.x86_64_model.specs.Memory.{identity_places, words_of}
use Rattle.ptdump_check.specs.WritableTables.{all_writable, writable_rights, writable_address, writable_at}
use Rattle.ptdump_check.specs.private.Reaching.{first_sought}
use Rattle.ptdump_check.proofs.OnceInOrder.{once_in_order}
use Rattle.ptdump_check.proofs.reached.add_writable.Goals as goal

pub first_addresses-requires : goal.first_addresses-requires
first_addresses-requires g c = subst (IsNonDecreasingBy (λ f. f)) (sym (c.deref.ensures.value ∙ c.in_ok-frames.ensures)) (once_in_order (λ table. table.frame) c.args.tables.now c.requires)

pub returns : goal.returns
unfolding all_writable
returns g c =
    let T = words_of c.args.memory.now identity_places in
    let at : ℕ → Option ℕ = writable_address g.L.LevelCount.LEVELS T c.args.root c.args.direct_map in
    let again : c.deref.result.now ≡ c.deref-2.result.now = c.deref.ensures.value ∙ sym c.deref-2.ensures.value in
    let are : c.deref-3.result.now ≡ map at c.deref-2.result.now =
    c.deref-3.ensures.value ∙ c.in_ok-addresses.ensures ∙ ap (λ out. map (first_sought g.L.LevelCount.LEVELS T c.args.root writable_rights (Some out)) c.deref.result.now) c.of_range.ensures ∙ ap (map at) again in
    subst (λ frames. OnOk c.add_writable_at.result (c.add_writable_at.new.findings.items ≡ c.args.findings.now.items ++ filter_map (λ f. writable_at f (at f)) frames))
    (c.deref-2.ensures.value ∙ c.in_ok-frames.ensures)
    (c.add_writable_at.ensures at are)
