use Rattle.std.proofs.Common.{◌≡◌, ◌&&◌, not, true, false, true≢false, Bool, refl, sym, ap, ◌∙◌, arith}
use Rattle.std.proofs.lemmas.Bool.{or_parts}
use Rattle.x86_64.proofs.flushing.loses.Goals as goal

second : (a b : Bool) → (a && b) ≡ false → a ≡ true → b ≡ false
second a b none is = ap (λ a. a && b) (sym is) ∙ none

kept : (x y lost : Bool) → lost ≡ (x && not y) → lost ≡ false → x ≡ true → y ≡ true
kept x true lost is none here = refl
kept x false lost is none here = absurd (true≢false (sym (sym none ∙ is ∙ ap (λ b. b && true) here)))

not_got : (x y lost : Bool) → lost ≡ (y && not x) → lost ≡ false → x ≡ false → y ≡ false
not_got x false lost is none off = refl
not_got x true lost is none off = absurd (true≢false (sym (sym none ∙ is ∙ ap not off)))

still_used : (used unused : Bool) → unused ≡ not used → unused ≡ false → used ≡ true
still_used true unused is none = refl
still_used false unused is none = absurd (true≢false (sym is ∙ none))

pub returns-clause-nothing : goal.returns-clause-nothing
returns-clause-nothing c = λ none was_used.
    let all = or_parts _ _ (second _ _ none (ap not c.is_unused-2.ensures ∙ ap (λ b. not (not b)) was_used)) in
    let grants = or_parts _ _ all.1 in
    let more = or_parts _ _ grants.0 in
    let first = or_parts _ _ more.0 in
    let marks_and = or_parts _ _ all.0 in
    let marks = or_parts _ _ marks_and.1 in
    let kind_and = or_parts _ _ marks_and.0 in
    let huge_and = or_parts _ _ kind_and.0 in
    let leads = or_parts _ _ huge_and.0 in
    record {
      is_used = still_used _ _ c.is_unused.ensures leads.0;
      is_present = kept _ _ _ c.lacks-3.ensures first.0;
      same_huge = grind (arith, huge_and.1, c.has_flag.ensures, c.has_flag-2.ensures);
      same_address = grind (arith, leads.1, c.ne.ensures, c.addr.ensures, c.addr-2.ensures);
      same_kind = grind (arith, kind_and.1, c.word.ensures, c.word-2.ensures);
      accessed = kept _ _ _ c.lacks.ensures marks.0;
      dirty = kept _ _ _ c.lacks-2.ensures marks.1;
      write = kept _ _ _ c.lacks-4.ensures first.1;
      user = kept _ _ _ c.lacks-5.ensures more.1;
      execute = not_got _ _ _ c.lacks-6.ensures grants.1;
    }
