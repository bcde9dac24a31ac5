-- What calls that make a space or give one up return and leave, once the call in the caller's tables and pool is done.
use Rattle.std.proofs.Common.{◌≡◌, inl, ◌≤◌, ◌<◌, ◌+◌, ◌-◌, ℕ, Bool, List, ◌∷◌, length, get_or, Some, None, refl, sym, ap, ◌∙◌, subst, arith}
use Rattle.std.specs.Prelude.{slice_get}
use Rattle.x86_64_model.specs.Lists.{In}
use Rattle.x86_64_model.specs.Store.{StoreFits}
use Rattle.x86_64_spaces.specs.declared.giving_up.GiveUpError.{GiveUpError}
use Rattle.x86_64_spaces.specs.declared.giving_up.GiveUpError.TheVariants.{EntryUsed, FrameZero}
use Rattle.x86_64_spaces.specs.SpaceCalls.{TakesFirst, IsMade, IsReason}
use Rattle.x86_64_spaces.specs.SpaceLayouts.{HasSharedAlone}
use Rattle.x86_64_tables.specs.LentMemory.{numbered}
use Rattle.x86_64_tables.specs.LentPool.{stacked}
use Rattle.x86_64_tables.proofs.Stacks.{stacked-pop}
use Rattle.x86_64_c.specs.AddressSpaces.{layout_given, shared_in, space_at, bad_new, bad_gone, Makes, MakesSpace, GivesUpSpace}
use Rattle.x86_64_c.specs.Arguments.{hierarchy_in}
use Rattle.x86_64_c.specs.PoolCalls.{Loan, loan, pool_in}
use Rattle.x86_64_c.specs.Status as status
use Rattle.x86_64_c.specs.declared.arguments.Hierarchy.{Hierarchy as Given}
use Rattle.x86_64_c.specs.private.Spaces.{MakesRoot}
use Rattle.x86_64_c.proofs.ArgumentsGiven.{kept}
use Rattle.x86_64_c.proofs.SpaceArguments.{root_not_zero, within_new}

-- ---- the top of a stack

top : (array : List ℕ) (free : ℕ) → free ≤ length array → 0 < free → stacked array free ≡ get_or array (free - 1) 0 ∷ stacked array (free - 1)
top array free within some =
    let one : free ≡ (free - 1) + 1 = omega (arith, some) in
    ap (stacked array) one ∙ stacked-pop array (free - 1) (omega (arith, within, some))

first_in : (array : List ℕ) (free root : ℕ) → free ≤ length array → 0 < free → Some root ≡ slice_get (stacked array free) 0 → In (stacked array free) root
first_in array free root within some is =
    let at = top array free within some in
    let same : Some root ≡ Some (get_or array (free - 1) 0) = is ∙ ap (λ frames. slice_get frames 0) at in
    let equal : get_or array (free - 1) 0 ≡ root = cc in
    subst (λ frames. In frames root) (sym at) (inl equal)

not_empty : (array : List ℕ) (free root : ℕ) → free ≡ 0 → Some root ≡ slice_get (stacked array free) 0 → ⊥
not_empty array free root empty is = let z : Some root ≡ None = is ∙ ap (λ n. slice_get (stacked array n) 0) empty in cc

-- ---- a new space

module _ (own : List ℕ) (h : Given) (lent after : Loan) (few : length own ≤ length lent.array) (long : length after.array ≡ length lent.array) where
  makes : (shared : ℕ → Bool) (root : ℕ) → lent.free ≤ length lent.array → 0 < lent.free
      → StoreFits (hierarchy_in h lent.tables) (pool_in own lent.array lent.free)
      → TakesFirst (pool_in own lent.array lent.free) (Some root) (pool_in own after.array after.free)
      → IsMade shared (hierarchy_in h lent.tables) (pool_in own lent.array lent.free) (space_at root) (numbered after.tables) (pool_in own after.array after.free)
      → Makes own shared h lent after root
  makes shared root within some fits taken made = record {
    taken = taken;
    own_root = fits.serves_pool root (first_in lent.array lent.free root within some taken.0);
    made = made;
    fit = λ spaces member fit. record { room = omega (arith, few, long); are_spaces = made.spaces spaces member fit.are_spaces };
  }

  pub makes_space : (from to before root : ℕ) → bad_new h lent from to ≡ None → StoreFits (hierarchy_in h lent.tables) (pool_in own lent.array lent.free)
      → MakesRoot own (shared_in from to) (hierarchy_in h lent.tables) lent.array lent.free (hierarchy_in h after.tables) after.array after.free (Some root)
      → MakesSpace own h lent from to status.ok before after root
  makes_space from to before root good fits made = record {
    bad = λ why is. let z : None ≡ Some why = sym good ∙ is in cc;
    none = λ _ empty. absurd (not_empty lent.array lent.free root empty made.does.0.0);
    made = λ _ more. (refl, makes (shared_in from to) root (within_new h lent from to good) more fits made.does.0 made.does.1);
    room = long;
    in_array = λ _. made.in_array;
  }
  -- ---- a space that is given up

-- ---- nothing changed

module _ (own : List ℕ) (h : Given) (ts us : List (List ℕ)) (array left : List ℕ) (free count from to : ℕ) (tables : numbered us ≡ numbered ts) (same : left ≡ array) (as_many : count ≡ free) where
  stays : loan us left count ≡ loan ts array free
  stays = ap (λ ts. loan ts left count) (kept ts us tables) ∙ ap (λ a. loan ts a count) same ∙ ap (loan ts array) as_many

  pub makes_none : (before : ℕ) → free ≡ 0 → bad_new h (loan ts array free) from to ≡ None → MakesSpace own h (loan ts array free) from to status.frame_allocation_failed before (loan us left count) before
  makes_none before empty good = subst (λ (after : Loan). MakesSpace own h (loan ts array free) from to status.frame_allocation_failed before after before) (sym stays) (record {
    bad = λ why is. let z : None ≡ Some why = sym good ∙ is in cc;
    none = λ _ _. (refl, refl, refl);
    made = λ _ more. absurd (omega (arith, empty, more));
    room = refl;
    in_array = λ within. within;
  })

  pub is_zero : bad_gone h (loan ts array free) from to ≡ None → (why : GiveUpError) → why ≡ FrameZero → IsReason (shared_in from to) (hierarchy_in h ts) why → ⊥
  is_zero good why is reason =
      let zero : HasSharedAlone (shared_in from to) (layout_given h) (numbered ts) × (h.root ≡ 0) = subst (IsReason (shared_in from to) (hierarchy_in h ts)) is reason in
      root_not_zero h (loan ts array free) from to good zero.1

  pub is_in_use : bad_gone h (loan ts array free) from to ≡ None → (why : GiveUpError) → why ≡ EntryUsed → IsReason (shared_in from to) (hierarchy_in h ts) why
      → GivesUpSpace own h (loan ts array free) from to status.space_in_use (loan us left count)
  is_in_use good why is reason =
      let used : HasSharedAlone (shared_in from to) (layout_given h) (numbered ts) → ⊥ = subst (IsReason (shared_in from to) (hierarchy_in h ts)) is reason in
      subst (GivesUpSpace own h (loan ts array free) from to status.space_in_use) (sym stays) (record {
        bad = λ why is. let z : None ≡ Some why = sym good ∙ is in cc;
        in_use = λ _ _. (refl, refl);
        given_up = λ _ alone. absurd (used alone);
        room = refl;
        in_array = λ within. within;
      })
