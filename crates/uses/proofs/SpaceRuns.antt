-- What an owner of a memory learns of calls on one of several address spaces in it.
use Rattle.std.proofs.Common.{◌≡◌, ◌⊎◌, inl, inr, ⊎_elim, ◌<◌, ℕ, Bool, true, false, List, [], ◌∷◌, map, Result, Ok, Err, OnOk, OnErr, Some, refl, sym, ap, ◌∙◌, subst, arith}
use Rattle.x86_64_model.specs.Call.{Call, IsCall}
use Rattle.x86_64_model.specs.Entry.{IsParentFlags, address}
use Rattle.x86_64_model.specs.Laws.Spaces.{KeepsBelow, Led, CallsKeepBelow, CallsKeepRootEntries, SharedHalvesStay, SpacesStay}
use Rattle.x86_64_model.specs.Laws.Steps.{AllCalls}
use Rattle.x86_64_model.specs.Layout.{Layout}
use Rattle.x86_64_model.specs.Lists.{In}
use Rattle.x86_64_model.specs.Hierarchy.{◌laid_in◌, Hierarchy, PoolFits, paths}
use Rattle.x86_64_model.specs.Memory.{Memory, Places, IsMapping}
use Rattle.x86_64_model.specs.PathMap.{entry}
use Rattle.x86_64_model.specs.Pool.{TakesBack}
use Rattle.x86_64_model.specs.Spaces.{is_shared, AreSpaces}
use Rattle.x86_64_model.specs.Store.{Store, KeepsPool}
use Rattle.x86_64_mappers.specs.Layouts.{direct_at}
use Rattle.x86_64.specs.Replies.{Reply}
use Rattle.x86_64.specs.Runs.{AfterStep, machine_of, state_in, step_by, Ran}
use Rattle.uses.specs.SpacesBeside.{OtherSpacesStay, LeavesSpaces}

-- ---- the owner knows the hierarchy by the memory that was lent

-- what is known of the mapper's hierarchy holds with the owner's names for its layout and memory
owners : (layout one : Layout) (before after m n : Memory) → layout ≡ one → before ≡ m → after ≡ n → (P : Layout → Memory → Memory → Type 0) → P layout before after → P one m n
owners layout one before after m n same was now P p = subst (λ n. P one m n) now (subst (λ m. P one m after) was (subst (λ l. P l before after) same p))

-- ---- the other spaces

none_shared : (q : List ℕ) → is_shared (λ i. false) q ≡ false
none_shared [] = refl
none_shared (i ∷ q) = refl

pub no_flags : IsParentFlags 0
unfolding address
no_flags = record { no_address = refl; not_huge = refl }

-- by the laws of address spaces
module _ (stay : SpacesStay) (halves : SharedHalvesStay) (below : CallsKeepBelow) (root_stays : CallsKeepRootEntries)
    (levels : ℕ) (high : 3 < levels) (places : Places) (mapping : IsMapping places) (root : ℕ) (take_back : List ℕ → ℕ → List ℕ) (gives : TakesBack take_back)
    (serves : ℕ → Bool) (m n : Memory) (pool rest : List ℕ) (fits : PoolFits (direct_at levels places root laid_in m) serves pool) where
  abbrev one : Layout
  one = direct_at levels places root

  abbrev space : Hierarchy (Unit {0})
  space = one laid_in m

  abbrev store : Store
  store = record { frames = pool; serves = serves; take_back = take_back }

  module _ (calls : List Call) (are_calls : AllCalls levels calls) (keeps : KeepsPool one serves m pool n rest) (done : Led one take_back m pool calls n rest ⊎ (n ≡ m)) where
    kept_below : (shared : ℕ → Bool) (spaces : List Layout) → In spaces one → AreSpaces shared m serves pool spaces → KeepsBelow shared one m n → AreSpaces shared n serves rest spaces × OtherSpacesStay spaces one m n
    kept_below shared spaces member are kept = (
      stay shared spaces one member mapping (omega (arith, high)) serves m n pool rest are keeps (λ i s. kept (i ∷ []) s),
      λ other i apart. (halves shared one other mapping (omega (arith, high)) serves m n pool rest fits keeps kept (are.share one other member i apart)).1,
    )

    leaves_spaces : LeavesSpaces space store calls n rest
    leaves_spaces = record {
      keeps = keeps;
      users = λ shared spaces member are avoid. kept_below shared spaces member are (⊎_elim
          (λ led. below shared one no_flags take_back gives serves m n pool rest calls are_calls fits led avoid)
          (λ same q s. ap (λ m. entry (paths (one laid_in m)) q) same)
          done);
      apart = λ spaces member are. kept_below (λ i. false) spaces member are (λ q s. let z : true ≡ false = sym s ∙ none_shared q in cc);
      kernel = λ shared spaces member are spare. stay shared spaces one member mapping (omega (arith, high)) serves m n pool rest are keeps (⊎_elim
          (λ led. root_stays shared one high no_flags take_back gives serves m n pool rest calls are_calls fits led spare)
          (λ same i s. ap (λ m. entry (paths (one laid_in m)) (i ∷ [])) same)
          done);
    }

  -- after calls of a mapper with this layout, which led from one memory to another
  module _ (layout : Layout) (before after : Memory) (keeps : KeepsPool layout serves before pool after rest) where
    owner_keeps : layout ≡ one → before ≡ m → after ≡ n → KeepsPool one serves m pool n rest
    owner_keeps same was now = owners layout one before after m n same was now (λ l m n. KeepsPool l serves m pool n rest) keeps

    pub after_call : (call : Call) → IsCall levels call → (reply : Reply)
        → step_by (machine_of layout take_back) (state_in layout before pool) call ≡ record { state = state_in layout after rest; reply = Some reply }
        → layout ≡ one → before ≡ m → after ≡ n → LeavesSpaces space store (call ∷ []) n rest
    after_call call is_call reply step same was now = leaves_spaces (call ∷ []) (is_call, tt) (owner_keeps same was now)
        (inl (owners layout one before after m n same was now (λ l m n. Led l take_back m pool (call ∷ []) n rest) (sym (ap (λ (x : AfterStep Reply). x.state) step))))

  -- the list was executed, or memory was refused and nothing changed
  module _ {Lent : Type 0} (h after : Hierarchy Lent) (keeps : KeepsPool h.layout serves h.memory pool after.memory rest) where
    pub after_calls : {C X E Q : Type 0} (asks : C → Call) (calls : List C) → AllCalls levels (map asks calls) → (before now : List Reply)
        → (r : Result X E) → OnOk r (Ran asks h store calls before now after rest) → OnErr r Q → (Q → after.memory ≡ h.memory)
        → h.layout ≡ one → h.memory ≡ m → after.memory ≡ n → LeavesSpaces space store (map asks calls) n rest
    after_calls {X = X} {E = E} {Q = Q} asks calls are_calls was now r ran refused unchanged same before end =
        leaves_spaces (map asks calls) are_calls (owner_keeps h.layout h.memory after.memory keeps same before end) (by r ran refused)
      where
        by : (r : Result X E) → OnOk r (Ran asks h store calls was now after rest) → OnErr r Q → Led one take_back m pool (map asks calls) n rest ⊎ (n ≡ m)
        by (Ok x) ran refused = inl (owners h.layout one h.memory after.memory m n same before end (λ l m n. Led l take_back m pool (map asks calls) n rest) ran.state)
        by (Err e) ran refused = inr (sym end ∙ unchanged refused ∙ before)
