-- Lists that are gone through, with a step for each element.
use Rattle.std.proofs.Common.{◌≡◌, ◌+◌, ◌<◌, ◌≤◌, ◌++◌, ◌==◌, ℕ, List, [], ◌∷◌, Option, if◌then◌else◌, take, drop, get_or, length, refl, sym, ap, ap₂, subst, false, codes, decimal, arith}
use Rattle.std.proofs.KnownBytes.{Appends-trans}
use Rattle.std.proofs.lemmas.Bool.Decides.{nat_tests}
use Rattle.std.proofs.lemmas.List.{drop_all, drop_more}
use Rattle.std.specs.Io.KnownBytes.{Appends}
use Rattle.std.specs.List.{enumerate_from, flat_map, join_by}
use Rattle.x86_64_dump.specs.Loaded.{Counts}
use Rattle.ptdump_check.proofs.Found.{flat_more}
use Rattle.ptdump_engine.specs.Program.{ToldInTurn, ToldUpTo}
use Rattle.ptdump_engine.specs.Steps.{InTurn}
use Rattle.ptdump_engine.specs.private.Roots.{number_at}

module _ {X G : Type 0} (Step : X → G → G → Type 0) where
  -- what is left after one more step completes what was left before it
  pub turn_more : (first now next : G) (xs : List X) (i : ℕ) (d : X) → i < length xs → ((after : G) → InTurn Step (drop i xs) now after → InTurn Step xs first after)
      → Step (get_or xs i d) now next → (after : G) → InTurn Step (drop (i + 1) xs) next after → InTurn Step xs first after
  turn_more first now next xs i d below all step after rest =
      all after (subst (λ ys. InTurn Step ys now after) (sym (drop_more xs i d below)) (next, step, rest))

  -- nothing is left
  pub turn_all : (first now : G) (xs : List X) (i : ℕ) → length xs ≤ i → ((after : G) → InTurn Step (drop i xs) now after → InTurn Step xs first after) → InTurn Step xs first now
  turn_all first now xs i end all = all now (subst (λ ys. InTurn Step ys now now) (sym (drop_all i xs end)) refl)

  -- some steps, and then others
  turn_on : (xs ys : List X) (before now after : G) → InTurn Step xs before now → InTurn Step ys now after → InTurn Step (xs ++ ys) before after
  turn_on [] ys before now after first rest = subst (λ g. InTurn Step ys g after) first rest
  turn_on (x ∷ xs) ys before now after (next, step, first) rest = (next, step, turn_on xs ys next now after first rest)

module _ {G : Type 0} (Told : G → G → List ℕ → Type 0) (Ended : G → G → Type 0) where
  -- nothing is told
  pub told_nothing : (before : G) → ToldInTurn Told Ended before before
  told_nothing before = ([], refl)

  -- the tables of one root are told, and the end
  pub told_once : (before between after : G) → Counts Told before between → Ended between after → ToldInTurn Told Ended before after
  told_once before between after (count, told) ended = (count ∷ [], (after, (between, told, ended), refl))

  -- likewise of a first part, and of the rest
  pub told_on : (before now after : G) → ToldInTurn Told Ended before now → ToldInTurn Told Ended now after → ToldInTurn Told Ended before after
  told_on before now after (first, told) (rest, more) = (first ++ rest, turn_on (ToldUpTo Told Ended) first rest before now after told more)

-- one more text is written
pub appends_more : {X : Type 0} (text : X → List ℕ) (old now new : Option (List ℕ)) (xs : List X) (i : ℕ) (d : X) → i < length xs
    → Appends old now (flat_map text (take i xs)) → Appends now new (text (get_or xs i d)) → Appends old new (flat_map text (take (i + 1) xs))
appends_more text old now new xs i d below before next = subst (Appends old new) (sym (flat_more text xs i d below)) (Appends-trans _ _ _ _ _ before next)

-- the numbers behind the first one
numbers_behind : (ns : List ℕ) (i : ℕ) → 0 < i → flat_map (λ (j, n). number_at j n) (enumerate_from i ns) ≡ flat_map (λ n. codes "," ++ decimal n) ns
numbers_behind [] i behind = refl
numbers_behind (n ∷ ns) i behind =
    let not_first : (i == 0) ≡ false = grind (arith, nat_tests) in
    ap₂ (λ b text. (if b then decimal n else codes "," ++ decimal n) ++ text) not_first (numbers_behind ns (i + 1) (omega arith))

-- all numbers
pub numbers_joined : (ns : List ℕ) → flat_map (λ (j, n). number_at j n) (enumerate_from 0 ns) ≡ join_by decimal (codes ",") ns
numbers_joined [] = refl
numbers_joined (n ∷ ns) = ap (λ text. decimal n ++ text) (numbers_behind ns 1 (omega arith))
