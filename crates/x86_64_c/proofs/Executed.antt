-- A request with a number of levels, stated of what the caller handed in.
use Rattle.std.proofs.Common.{◌≡◌, ℕ, List, Some, None, refl, sym, subst₂, ◌∙◌}
use Rattle.x86_64_c.specs.Arguments.{hierarchy_in}
use Rattle.x86_64_c.specs.PoolCalls.{Executes, Loan, Request, RunsCall, wrong_pool_call, loan}
use Rattle.x86_64_c.specs.declared.arguments.Hierarchy.{Hierarchy as Given}
use Rattle.x86_64_c.specs.private.Pools.{Leaves}

-- a call with right arguments that did to the pool what was asked is executed
pub executes : (own : List ℕ) (h : Given) (lent after : Loan) (request : Request) (status : ℕ) → wrong_pool_call h lent request ≡ None
    → Leaves own lent.array lent.free after.array after.free (λ pool rest. RunsCall (hierarchy_in h lent.tables) pool (request.call h.levels) (hierarchy_in h after.tables) rest status)
    → Executes own h lent request status after
executes own h lent after request status good leaves = record {
  bad = λ why is. absurd (let e : None ≡ Some why = sym good ∙ is in cc);
  runs = λ _. leaves.does;
  room = leaves.room;
  in_array = λ _. leaves.in_array;
}

-- one with a wrong argument is refused
pub refuses : (own : List ℕ) (h : Given) (ts us : List (List ℕ)) (array left : List ℕ) (free : ℕ) (request : Request) (why : ℕ) → wrong_pool_call h (loan ts array free) request ≡ Some why → us ≡ ts → left ≡ array
    → Executes own h (loan ts array free) request why (loan us left free)
refuses own h ts us array left free request why wrong tables same =
    subst₂ (λ us left. Executes own h (loan ts array free) request why (loan us left free)) (sym tables) (sym same) (record {
      bad = λ also is. (let e : Some why ≡ Some also = sym wrong ∙ is in cc, refl);
      runs = λ good. absurd (let e : Some why ≡ None = sym wrong ∙ good in cc);
      room = refl;
      in_array = λ within. within;
    })
