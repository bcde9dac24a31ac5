-- What a mapper did below the root's entries, stated of the words in the caller's memory.
use Rattle.std.proofs.Common.{◌≡◌, ℕ, ◌+◌, Bool, List, Some, None, refl, sym, ◌∙◌, subst₂}
use Rattle.x86_64_mappers.proofs.CleanUp.BelowRootSpaces.{keeps}
use Rattle.x86_64_mappers.specs.CleanUpsBelowRoot.{CleansUpBelowRoot}
use Rattle.x86_64_model.proofs.Lemmas.Machines.WordsAlone.{in_words, frees_alone}
use Rattle.x86_64_model.specs.Hierarchy.{Hierarchy}
use Rattle.x86_64_model.specs.Layout.{Layout}
use Rattle.x86_64_model.specs.Memory.{Memory}
use Rattle.x86_64_model.specs.Pool.{TakesBack}
use Rattle.x86_64_model.specs.Store.{Store, StoreFits}
use Rattle.x86_64_c.specs.Arguments.{hierarchy_in, position_of}
use Rattle.x86_64_c.specs.BelowRoot.{CleansBelowRoot, ExecutesBelowRoot}
use Rattle.x86_64_c.specs.PoolCalls.{loan, to_clean_up, wrong_pool_call}
use Rattle.x86_64_c.specs.Status.{ok}
use Rattle.x86_64_c.specs.declared.arguments.Hierarchy.{Hierarchy as Given}
use Rattle.x86_64_c.specs.private.Pools.{Leaves}
use Rattle.x86_64_c.proofs.EntryChanges.{of}

did : {Lent : Type 0} (h after : Hierarchy Lent) (l : Layout) (m n : Memory) → h.layout ≡ l → h.memory ≡ m → after.memory ≡ n → (store rest : Store) (low high : ℕ)
    → CleansUpBelowRoot h store low high after rest → CleansUpBelowRoot (of l m) store low high (of l n) rest
did h after l m n layout memory gone store rest low high cleans =
    in_words h after l m n layout memory gone cleans.cleans.keeps.layout (λ before last. CleansUpBelowRoot before store low high last rest) (record {
      cleans = frees_alone cleans.cleans;
      serves = cleans.serves;
      root_entries = cleans.root_entries;
      walks = cleans.walks;
      conserved = cleans.conserved;
    })

-- a clean up with a store whose supply is what it holds
module _ {Lent : Type 0} (h after : Hierarchy Lent) (l : Layout) (m n : Memory) (layout : h.layout ≡ l) (memory : h.memory ≡ m) (gone : after.memory ≡ n) (serves left_serves : ℕ → Bool)
    (take_back : List ℕ → ℕ → List ℕ) (gives : TakesBack take_back) (supply held rest left : List ℕ) (one : supply ≡ held) (two : rest ≡ left) where
  abbrev pool : List ℕ → Store
  pool frames = record { frames = frames; serves = serves; take_back = take_back }

  abbrev pool_left : List ℕ → Store
  pool_left frames = record { frames = frames; serves = left_serves; take_back = take_back }

  pub cleaned_below : (low high : ℕ) → StoreFits (of l m) (pool supply) → CleansUpBelowRoot h (pool held) low high after (pool_left left) → CleansBelowRoot (of l m) (pool supply) low high (of l n) (pool_left rest) ok
  cleaned_below low high fits cleans =
      let here = subst₂ (λ held left. CleansUpBelowRoot (of l m) (pool held) low high (of l n) (pool_left left)) (sym one) (sym two)
      (did h after l m n layout memory gone (pool held) (pool_left left) low high cleans) in record {
        status_is = refl;
        cleans = here;
        keeps = keeps l (pool supply) (pool_left rest) gives m n low high fits here;
      }

-- ---- in the caller's tables and pool

module _ (own : List ℕ) (h : Given) (ts us : List (List ℕ)) (array left : List ℕ) (free first last : ℕ) where
  -- with right arguments
  pub executes_below : (number status : ℕ) → wrong_pool_call h (loan ts array free) (to_clean_up first last) ≡ None
      → Leaves own array free left number (λ pool rest. CleansBelowRoot (hierarchy_in h ts) pool (position_of h.levels first) (position_of h.levels last + 0xfff) (hierarchy_in h us) rest status)
      → ExecutesBelowRoot own h (loan ts array free) first last status (loan us left number)
  executes_below number status good leaves = record {
    bad = λ why is. absurd (let e : None ≡ Some why = sym good ∙ is in cc);
    cleans = λ _. leaves.does;
    room = leaves.room;
    in_array = λ _. leaves.in_array;
  }

  -- with a wrong one
  pub refuses_below : (why : ℕ) → wrong_pool_call h (loan ts array free) (to_clean_up first last) ≡ Some why → us ≡ ts → left ≡ array
      → ExecutesBelowRoot own h (loan ts array free) first last why (loan us left free)
  refuses_below why wrong tables same =
      subst₂ (λ us left. ExecutesBelowRoot own h (loan ts array free) first last why (loan us left free)) (sym tables) (sym same) (record {
        bad = λ also is. (let e : Some why ≡ Some also = sym wrong ∙ is in cc, refl);
        cleans = λ good. absurd (let e : Some why ≡ None = sym wrong ∙ good in cc);
        room = refl;
        in_array = λ within. within;
      })
