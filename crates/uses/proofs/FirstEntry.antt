-- The first entry of a root is cleared by a mapper that lent the root's table.
use Rattle.std.proofs.Common.{◌≡◌, ℕ, List, Some, IsSome, cond, None, true, refl, sym, ap, ◌∙◌, subst}
use Rattle.std.specs.FinMap.{get, insert}
use Rattle.std.specs.Prelude.{slice_set}
use Rattle.x86_64_model.specs.Memory.{Memory, identity_places, words_of}
use Rattle.x86_64_model.proofs.Lemmas.Hierarchies.Memories.{covered, identity_is_mapping, words_of-insert}
use Rattle.uses.specs.Owned.{RootIsCleared}

pub cleared : (m first n : Memory) (root r w : ℕ) (table : List ℕ) → first ≡ m → r ≡ root → words_of first identity_places r ≡ Some table → w ≡ 0
    → n ≡ insert first (identity_places.place r) (slice_set table 0 w) → RootIsCleared root m n
cleared m first n root r w table same here is zero written =
    let there : identity_places.covers r ≡ true = covered first identity_places r (subst IsSome (sym is) refl) in
    let at : get first (identity_places.place r) ≡ Some table = sym (ap (λ b. cond b (get first (identity_places.place r)) None) there) ∙ is in
    subst (λ root. RootIsCleared root m n) here (subst (λ m. RootIsCleared r m n) same
    (ap (λ n. words_of n identity_places) (written ∙ ap (λ w. insert first (identity_places.place r) (slice_set table 0 w)) zero)
    ∙ words_of-insert first identity_places r 0 0 table identity_is_mapping.distinct there at))
