use Rattle.std.proofs.Common.{◌≡◌, ◌∙◌, ⊎_elim, sym, subst, get_or, true, false, true≢false, Option, Some, None, Result, Ok, Err, IfOk, IfErr, is_err, refl, arith}
use Rattle.std.proofs.lemmas.Bool.{cases_lt}
use Rattle.std.proofs.lemmas.Option.{none-some}
use Rattle.x86_64_live.specs.Parts.{split_refusal, IsPartOf}
use Rattle.x86_64_live.proofs.PageParts.{are_parts}
use Rattle.x86_64_live.proofs.parts.are_parts.Goals as goal

-- what is said of a value holds if it is one, and what is said of an error if it is one
of_ok : {A E : Type 0} (P : Type 0) (r : Result A E) → is_err r ≡ false → IfOk r (λ _. P) → P
of_ok P (Ok a) is says = says
of_ok P (Err e) is says = absurd (true≢false is)

not_err : {A E : Type 0} (o : Option E) (r : Result A E) → is_err r ≡ true → IfErr r (λ e. o ≡ Some e) → o ≡ None → ⊥
not_err o (Ok a) is says none = true≢false (sym is)
not_err o (Err e) is says none = none-some e (sym none ∙ says)

pub loop-index-preserved : goal.loop-index-preserved
loop-index-preserved c j less =
    let at = c.loop-index.index in
    let here = subst (IsPartOf c.args.level c.args.word c.args.entry at) c.index.ensures.0 (c.is_part.ensures.0 c.if-not-is_part.false) in
    ⊎_elim (λ before. c.loop-index.invariant j before)
    (λ past. let e : at ≡ j = omega (arith, less, past) in subst (λ k. IsPartOf c.args.level c.args.word c.args.entry k (get_or c.args.table.now k 0)) e here)
    (cases_lt j at)

pub returns-then-is_err-clause-exact : goal.returns-then-is_err-clause-exact
returns-then-is_err-clause-exact c = (
  λ t. absurd (true≢false (sym t)),
  λ maps. absurd (not_err (split_refusal c.args.level c.args.word) c.may_split.result (sym c.is_err.ensures.value ∙ c.if-is_err.true) c.may_split.ensures.refused maps.page),
)

pub returns-clause-exact : goal.returns-clause-exact
returns-clause-exact c = (
  λ _. record {
    page = of_ok _ c.may_split.result (sym c.is_err.ensures.value ∙ c.if-is_err.false) c.may_split.ensures.good;
    parts = λ j small. c.loop-index.invariant j (omega (arith, small, c.loop-index-test.false));
  },
  λ _. refl,
)

pub returns-clause-parts : goal.returns-clause-parts
returns-clause-parts c _ = are_parts c.args.level c.args.word c.args.entry c.args.table.now (record {
  page = of_ok _ c.may_split.result (sym c.is_err.ensures.value ∙ c.if-is_err.false) c.may_split.ensures.good;
  parts = λ j small. c.loop-index.invariant j (omega (arith, small, c.loop-index-test.false));
})
