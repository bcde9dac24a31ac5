-- What is wrong with the arguments of calls on several address spaces, and what these leave if something is.
use Rattle.std.proofs.Common.{◌≡◌, inl, inr, ◌≤◌, ◌↔◌, ℕ, nat_le, nat_lt, Bool, true, false, List, length, Some, None, IsTrue, Option, refl, sym, subst, subst₂, ◌∙◌, arith}
use Rattle.std.specs.Option.{option_or}
use Rattle.std.proofs.lemmas.Bool.{leb-true}
use Rattle.x86_64_c.specs.AddressSpaces.{wrong_indices, wrong_gone, bad_new, bad_gone, MakesSpace, GivesUpSpace}
use Rattle.x86_64_c.specs.Arguments.{bad_hierarchy, unless}
use Rattle.x86_64_c.specs.PoolCalls.{Loan, bad_pool, loan}
use Rattle.x86_64_c.specs.Status as status
use Rattle.x86_64_c.specs.Validity.{test_status, TellsWhether}
use Rattle.x86_64_c.specs.declared.arguments.Hierarchy.{Hierarchy}

-- what a test tells of one fact it tells of another that holds just if the first does
pub tells : {P Q : Type 0} (passed : Bool) (s : ℕ) → s ≡ test_status passed → (IsTrue passed ↔ P) → (P ↔ Q) → TellsWhether Q s
tells true s is means same = record { passes = (λ _. same.0 (means.0 refl), λ _. is); otherwise = inl is }
tells false s is means same = record {
  passes = (
    λ ok. let z : status.not_valid ≡ status.ok = sym is ∙ ok in absurd (omega (arith, z)),
    λ q. let z : false ≡ true = means.1 (same.1 q) in cc,
  );
  otherwise = inr is;
}

-- ---- arguments that are right

-- nothing is wrong with any of several arguments if nothing is with the first, and with the others
pub none_both : {X : Type 0} (a b : Option X) → option_or a b ≡ None → (a ≡ None) × (b ≡ None)
none_both None b none = (refl, none)
none_both (Some x) b none = absurd (let e : Some x ≡ None = none in cc)

pub unless_none : (b : Bool) (why : ℕ) → unless b why ≡ None → b ≡ true
unless_none true why none = refl
unless_none false why none = absurd (let e : Some why ≡ None = none in cc)

-- so the free frames of a right pool are in its array
pub within : (free capacity : ℕ) (other : Option ℕ) → bad_pool free capacity other ≡ None → free ≤ capacity
within free capacity other none = leb-true free capacity (unless_none (nat_le free capacity) status.bad_array (none_both (unless (nat_le free capacity) status.bad_array) other none).0)

pub within_new : (h : Hierarchy) (lent : Loan) (from to : ℕ) → bad_new h lent from to ≡ None → lent.free ≤ length lent.array
within_new h lent from to none = within lent.free (length lent.array) (wrong_indices from to) (none_both (bad_hierarchy h (length lent.tables)) _ none).1

-- and a space that is given up has no root in frame 0
pub root_not_zero : (h : Hierarchy) (lent : Loan) (from to : ℕ) → bad_gone h lent from to ≡ None → h.root ≡ 0 → ⊥
root_not_zero h lent from to none zero =
    let right = (none_both (bad_hierarchy h (length lent.tables)) (wrong_gone h.root lent.free (length lent.array) from to) none).1 in
    let above = unless_none (nat_lt 0 h.root) status.bad_root (none_both (unless (nat_lt 0 h.root) status.bad_root) (bad_pool lent.free (length lent.array) (wrong_indices from to)) right).0 in
    let e : false ≡ true = subst (λ root. nat_lt 0 root ≡ true) zero above in cc

-- ---- calls that are refused for an argument

module _ (own : List ℕ) (h : Hierarchy) (ts us : List (List ℕ)) (array left : List ℕ) (free from to s : ℕ) (tables : us ≡ ts) (same : left ≡ array) where
  pub refused_new : (before : ℕ) → bad_new h (loan ts array free) from to ≡ Some s → MakesSpace own h (loan ts array free) from to s before (loan us left free) before
  refused_new before wrong =
      subst₂ (λ us left. MakesSpace own h (loan ts array free) from to s before (loan us left free) before) (sym tables) (sym same) (record {
        bad = λ why is. let same : Some s ≡ Some why = sym wrong ∙ is in (cc, refl, refl);
        none = λ good. let z : None ≡ Some s = sym good ∙ wrong in cc;
        made = λ good. let z : None ≡ Some s = sym good ∙ wrong in cc;
        room = refl;
        in_array = λ within. within;
      })

  pub refused_gone : bad_gone h (loan ts array free) from to ≡ Some s → GivesUpSpace own h (loan ts array free) from to s (loan us left free)
  refused_gone wrong =
      subst₂ (λ us left. GivesUpSpace own h (loan ts array free) from to s (loan us left free)) (sym tables) (sym same) (record {
        bad = λ why is. let same : Some s ≡ Some why = sym wrong ∙ is in (cc, refl);
        in_use = λ good. let z : None ≡ Some s = sym good ∙ wrong in cc;
        given_up = λ good. let z : None ≡ Some s = sym good ∙ wrong in cc;
        room = refl;
        in_array = λ within. within;
      })
