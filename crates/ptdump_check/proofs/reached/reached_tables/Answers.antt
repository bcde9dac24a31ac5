use Rattle.std.proofs.Common.{◌≡◌, ◌∙◌, ℕ, List, None, Option, IfOk, length, map, sym, ap, subst}
use Rattle.std.proofs.lemmas.List.{length-map}
use Rattle.std.specs.List.{filter_map}
use Rattle.std.specs.List.Sorted.{IsNonDecreasingBy}
use Rattle.x86_64_model.specs.Mappings.{Rights}
use Rattle.x86_64_model.specs.Memory.{Words, identity_places, words_of}
use Rattle.ptdump_check.specs.ReachedTables.{all_reached, first_address, for_user, reached_at, writable_for_user}
use Rattle.ptdump_check.specs.private.Reaching.{first_sought}
use Rattle.ptdump_check.proofs.FirstAddresses.{none_left_out}
use Rattle.ptdump_check.proofs.OnceInOrder.{once_in_order}
use Rattle.ptdump_check.proofs.reached.reached_tables.Goals as goal

pub first_addresses-requires : goal.first_addresses-requires
first_addresses-requires g c = subst (IsNonDecreasingBy (λ f. f)) (sym (c.deref.ensures.value ∙ c.in_ok-frames.ensures)) (once_in_order (λ table. table.frame) c.args.tables.now c.requires)

pub first_addresses-requires-2 : goal.first_addresses-requires-2
first_addresses-requires-2 g c = subst (IsNonDecreasingBy (λ f. f)) (sym (c.deref.ensures.value ∙ c.in_ok-frames.ensures)) (once_in_order (λ table. table.frame) c.args.tables.now c.requires)

pub returns : goal.returns
unfolding all_reached
returns g c =
    let T = words_of c.args.memory.now identity_places in
    let writable : ℕ → Option ℕ = first_address g.L.LevelCount.LEVELS T c.args.root writable_for_user in
    let mapped : ℕ → Option ℕ = first_address g.L.LevelCount.LEVELS T c.args.root for_user in
    let again : c.deref.result.now ≡ c.deref-2.result.now = c.deref.ensures.value ∙ sym c.deref-2.ensures.value in
    subst (λ frames. IfOk c.findings_at.result (λ findings. findings.items ≡ filter_map (λ f. reached_at f (writable f) (mapped f)) frames))
    (c.deref-2.ensures.value ∙ c.in_ok-frames.ensures)
    (c.findings_at.ensures writable mapped
    (c.deref-3.ensures.value ∙ c.in_ok-writable.ensures ∙ none_left_out g.L.LevelCount.LEVELS T c.args.root writable_for_user c.deref.result.now ∙ ap (map writable) again)
    (c.deref-4.ensures.value ∙ c.in_ok-mapped.ensures ∙ none_left_out g.L.LevelCount.LEVELS T c.args.root for_user c.deref.result.now ∙ ap (map mapped) again))

-- as many addresses as frames
as_many : (L : ℕ) (T : Words) (root : ℕ) (needed : Rights) (frames again : List ℕ) (addresses : List (Option ℕ))
    → addresses ≡ map (first_sought L T root needed None) frames → frames ≡ again → length addresses ≡ length again
as_many L T root needed frames again addresses are same = ap length are ∙ length-map frames (first_sought L T root needed None) ∙ ap length same

pub findings_at-requires-clause-writable : goal.findings_at-requires-clause-writable
findings_at-requires-clause-writable g c =
    as_many g.L.LevelCount.LEVELS (words_of c.args.memory.now identity_places) c.args.root writable_for_user c.deref.result.now c.deref-2.result.now
    c.deref-3.result.now (c.deref-3.ensures.value ∙ c.in_ok-writable.ensures) (c.deref.ensures.value ∙ sym c.deref-2.ensures.value)

pub findings_at-requires-clause-mapped : goal.findings_at-requires-clause-mapped
findings_at-requires-clause-mapped g c =
    as_many g.L.LevelCount.LEVELS (words_of c.args.memory.now identity_places) c.args.root for_user c.deref.result.now c.deref-2.result.now
    c.deref-4.result.now (c.deref-4.ensures.value ∙ c.in_ok-mapped.ensures) (c.deref.ensures.value ∙ sym c.deref-2.ensures.value)
