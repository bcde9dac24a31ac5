use Rattle.std.proofs.Common.{◌++◌, ◌≡◌, ◌∙◌, ℕ, true, false, ◌+◌, [], find, nat_eq, None, IfSome, sym, ap, subst}
use Rattle.std.specs.List.{list_any}
use Rattle.std.specs.Map.{lookup}
use Rattle.x86_64_mappings.specs.Wanted.{leads_to}
use Rattle.x86_64_model.specs.Mappings.{every_right}
use Rattle.ptdump_check.specs.private.Reaching.{first_address_of_each, address_is_within, sought_in}
use Rattle.ptdump_check.proofs.FirstAddresses.{all_found, nothing_found, only_none}
use Rattle.ptdump_check.proofs.reached.search.first_addresses.Goals as goal

pub returns : goal.returns
returns g c =
    let L = g.L.LevelCount.LEVELS in
    let sought = c.args.search.now in
    let after = c.in_ok-visit_table.ensures [] (record {
      ascend = c.requires;
      firsts = c.in_ok-from_elem.ensures.items_if_clones_equal (only_none _ (λ x same. same)) ∙ nothing_found L sought.frames.now;
      visited = λ level frame low aligned is.
          absurd (let e : false ≡ true = ap (λ keys. list_any (nat_eq (frame + level)) keys) (sym c.new.ensures.empty) ∙ is in cc);
      pages = λ start. subst (λ es. IfSome (lookup (nat_eq start) es) (λ size. (a : ℕ) → find (leads_to a) [] ≡ None → address_is_within start size a ≡ false)) (sym c.new-2.ensures.empty) tt;
    }) in
    after.firsts
    ∙ ap (λ level. first_address_of_each L sought.frames.now ([] ++ sought_in sought (record { frame = c.args.root; level = level; start = 0; above = every_right }))) c.LEVELS.ensures
    ∙ all_found L sought c.args.root
