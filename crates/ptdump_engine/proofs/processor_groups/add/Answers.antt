use Rattle.std.proofs.Common.{rules, ◌≡◌, ◌∙◌, ◌++◌, ℕ, Bool, [], ◌∷◌, Some, cond, sym, ap, subst}
use Rattle.std.specs.HashMap.{get}
use Rattle.std.specs.HashMap.Entry.{map_with_value}
use Rattle.std.specs.Map.{lookup}
use Rattle.std.specs.Option.{option_map_or}
use Rattle.ptdump_engine.specs.private.ProcessorGroups.{cpu_if, cpus_at, group_key, same_key}
use Rattle.ptdump_engine.proofs.ProcessorGroups.{lent, one_more}
use Rattle.ptdump_engine.proofs.processor_groups.add.Goals as goal

pub returns-in_ok-push : goal.returns-in_ok-push
returns-in_ok-push c =
    let old = c.args.cpus.now in
    let p = c.args.processor.now in
    let key : c.key.result ≡ group_key p = c.key.ensures in
    let all : (k : ℕ × Bool) → cpus_at (map_with_value c.in_ok-cpus.field-0 c.push.new.self) k ≡ cpus_at old k ++ cpu_if k p =
    one_more old (map_with_value c.in_ok-cpus.field-0 c.push.new.self) p c.push.new.self (sym c.has_tables.ensures ∙ c.if-has_tables.true)
    (c.in_ok-push.ensures.items ∙ ap (λ ns. ns ++ p.cpu ∷ []) (lent _ _ c.or_default.ensures.value
    ∙ ap (λ found. option_map_or (λ numbers. numbers.items) found []) (c.in_ok-cpus.ensures.value ∙ ap (get same_key old) key)))
    (λ k. (c.in_ok-cpus.ensures.update.0 c.push.new.self).0 k ∙ ap (λ n. cond (same_key n k) (Some c.push.new.self) (get same_key old k)) key) in
    subst (λ es. (k : ℕ × Bool) → option_map_or (λ numbers. numbers.items) (lookup (same_key k) es) [] ≡ cpus_at old k ++ cpu_if k p) (search rules) all
