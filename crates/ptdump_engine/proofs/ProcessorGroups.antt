-- Processor groups: the groups of processors by their roots and numbers of levels are those with the same tables.
use Rattle.std.proofs.Common.{◌≡◌, ◌∙◌, ℕ, Bool, true, false, not, cond, nat_eq, nat_lt, ◌&&◌, ◌||◌, ◌++◌, if◌then◌else◌, List, [], ◌∷◌, map, filter, Option, None, Some, Vec, vec_len, refl, sym, ap, append-nil}
use Rattle.std.proofs.Math.Bool.{and_assoc, and-false, and-true}
use Rattle.std.proofs.lemmas.Bool.{and_parts, eqb-true}
use Rattle.std.specs.Bool.{beq}
use Rattle.std.specs.Cmp.{booleans_Decides, nat_eq_equiv}
use Rattle.std.specs.HashMap.{HashMap, get}
use Rattle.std.specs.List.{flat_map, list_any}
use Rattle.std.specs.Option.{UnwrapsOrElse, option_map_or}
use Rattle.std.specs.declared.alloc.Global.{Global}
use Rattle.x86_64_addr.specs.declared.level_count.Levels.TheVariants.{Four, Five}
use Rattle.x86_64_addr.specs.declared.level_count.Levels.{Levels}
use Rattle.ptdump_engine.specs.Processors.{cpus_with, has_tables, is_first, are_same_levels, shares}
use Rattle.ptdump_engine.specs.declared.processor_groups.ProcessorGroups.{ProcessorGroups}
use Rattle.ptdump_engine.specs.declared.processors.Processor.{Processor}
use Rattle.ptdump_engine.specs.private.ProcessorGroups.{AreGrouped, are_five, cpu_if, cpus_at, has_key, is_first_in, group_key, same_key}

levels_same : (a b : Levels) → beq (are_five b) (are_five a) ≡ are_same_levels a b
levels_same Four Four = refl
levels_same Four Five = refl
levels_same Five Four = refl
levels_same Five Five = refl

-- processors that have tables of one key share them
key_shared : (p q : Processor) → has_key (group_key p) q ≡ shares p q
key_shared p q = (λ i. has_tables q && (nat_eq_equiv.symm q.start.root p.start.root i && levels_same p.start.levels q.start.levels i))
    ∙ sym (and_assoc (has_tables q) (nat_eq p.start.root q.start.root) (are_same_levels p.start.levels q.start.levels))

-- the numbers by a processor's key are those with its tables
pub grouped_by_key : (ps : List Processor) (p : Processor) → flat_map (cpu_if (group_key p)) ps ≡ cpus_with ps p
grouped_by_key [] p = refl
grouped_by_key (q ∷ ps) p = (λ i. (if key_shared p q i then q.cpu ∷ [] else []) ++ grouped_by_key ps p i) ∙ by (shares p q)
  where
    by : (b : Bool) → ((if b then q.cpu ∷ [] else []) ++ cpus_with ps p) ≡ map (λ q. q.cpu) (cond b (q ∷ filter (shares p) ps) (filter (shares p) ps))
    by true = refl
    by false = refl

-- one of the numbers of some processors passes a test
any_of_those : (t : ℕ → Bool) (s : Processor → Bool) (ps : List Processor) → list_any t (map (λ q. q.cpu) (filter s ps)) ≡ list_any (λ q. t q.cpu && s q) ps
any_of_those t s [] = refl
any_of_those t s (q ∷ ps) = by (s q) (any_of_those t s ps)
  where
    by : (b : Bool) → list_any t (map (λ q. q.cpu) (filter s ps)) ≡ list_any (λ q. t q.cpu && s q) ps
        → list_any t (map (λ q. q.cpu) (cond b (q ∷ filter s ps) (filter s ps))) ≡ ((t q.cpu && b) || list_any (λ q. t q.cpu && s q) ps)
    by true are = ap (λ c. c || list_any t (map (λ q. q.cpu) (filter s ps))) (sym (and-true (t q.cpu))) ∙ ap (λ rest. (t q.cpu && true) || rest) are
    by false are = are ∙ ap (λ c. c || list_any (λ q. t q.cpu && s q) ps) (sym (and-false (t q.cpu)))

-- the first of its group is the first that has these tables
pub first_of_group : (groups : ProcessorGroups) (p : Processor) → AreGrouped groups → is_first_in groups p ≡ is_first groups.processors.now p
first_of_group groups p grouped =
    ap (λ cpus. has_tables p && not (list_any (λ cpu. nat_lt cpu p.cpu) cpus)) (grouped p)
    ∙ ap (λ later. has_tables p && not later) (any_of_those (λ cpu. nat_lt cpu p.cpu) (shares p) groups.processors.now)

same_key_is : (a b : ℕ × Bool) → same_key a b ≡ true → a ≡ b
same_key_is a b same =
    let parts = and_parts (nat_eq a.0 b.0) (beq a.1 b.1) same in
    let root : a.0 ≡ b.0 = eqb-true a.0 b.0 parts.0 in
    let five : a.1 ≡ b.1 = (booleans_Decides a.1 b.1).0 parts.1 in
    λ i. (root i, five i)

-- what an entry lends: the numbers that are there, or none
pub lent : (found : Option (Vec ℕ Global)) (cpus : Vec ℕ Global) → UnwrapsOrElse found (λ made. (made.items ≡ []) × (vec_len made ≡ 0)) cpus
    → cpus.items ≡ option_map_or (λ numbers. numbers.items) found []
lent None cpus made = made.0
lent (Some numbers) cpus same = ap (λ n. n.items) same

-- a map that has one more number at a processor's key, if it has tables
pub one_more : {S T : Type 0} (old : HashMap (ℕ × Bool) (Vec ℕ Global) S) (new : HashMap (ℕ × Bool) (Vec ℕ Global) T) (p : Processor) (cpus : Vec ℕ Global) → has_tables p ≡ true
    → cpus.items ≡ cpus_at old (group_key p) ++ p.cpu ∷ []
    → ((k : ℕ × Bool) → get same_key new k ≡ cond (same_key (group_key p) k) (Some cpus) (get same_key old k))
    → (k : ℕ × Bool) → cpus_at new k ≡ cpus_at old k ++ cpu_if k p
one_more old new p cpus has more updates k =
    ap (λ found. option_map_or (λ numbers. numbers.items) found []) (updates k)
    ∙ by (same_key (group_key p) k) refl
    ∙ ap (λ b. cpus_at old k ++ (if b && same_key (group_key p) k then p.cpu ∷ [] else [])) (sym has)
  where
    by : (b : Bool) → same_key (group_key p) k ≡ b → option_map_or (λ numbers. numbers.items) (cond b (Some cpus) (get same_key old k)) []
        ≡ cpus_at old k ++ (if true && b then p.cpu ∷ [] else [])
    by true same = more ∙ ap (λ k. cpus_at old k ++ p.cpu ∷ []) (same_key_is (group_key p) k same)
    by false same = sym (append-nil (cpus_at old k))
