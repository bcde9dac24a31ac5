-- Options of references.
use Rattle.std.proofs.Common.{◌≡◌, Option, Some, None, IsSome, Bor, MutBor, refl}
use Rattle.std.specs.Option.{option_copied, option_copied_mut}

pub copied_some : {X : Type 0} (r : Option (Bor X)) (o : Option X) → option_copied r ≡ o → IsSome o → IsSome r
copied_some None o is there = absurd (by o is there)
  where
    by : {X : Type 0} (o : Option X) → None ≡ o → IsSome o → ⊥
    by None e there = cc
    by (Some x) e there = cc
copied_some (Some x) o is there = refl

pub lent_some : {X : Type 0} (r : Option (MutBor X)) (o : Option X) → option_copied_mut r ≡ o → IsSome o → IsSome r
lent_some None o is there = absurd (by o is there)
  where
    by : {X : Type 0} (o : Option X) → None ≡ o → IsSome o → ⊥
    by None e there = cc
    by (Some x) e there = cc
lent_some (Some x) o is there = refl
