-- Addresses that are multiples of a size, and the page that starts there.
use Rattle.std.proofs.Common.{◌≡◌, ◌↔◌, ℕ, ◌%◌, ◌≤◌, ◌==◌, Bool, true, false, cond, IsOk, IfOk, Some, None, Result, Ok, Err, refl, sym, ap, ◌∙◌, subst}
use Rattle.std.proofs.lemmas.Bool.Decides.{Decides-and, Decides-eqb}
use Rattle.std.specs.Bool.{Decides}
use Rattle.std.specs.Result.{result_ok}
use Rattle.x86_64_addr.specs.Levels.{IsLevelCount}
use Rattle.x86_64_addr.specs.Position.{span, raw, IsCanonical}
use Rattle.x86_64_page.proofs.Multiples as multiples
use Rattle.pagetab_engine.specs.Starts.{is_canonical_number, is_page_start, page_in, position_at}
use Rattle.pagetab_engine.proofs.Parsing.{canonical_tells}

-- the page that starts at a canonical address, which leaves the same remainder by a size as its position (the address counted
-- without the gap)
pub page_found : {E : Type 0} (L start position size level : ℕ) (answer : Result ℕ E) → IsLevelCount L → 1 ≤ level → level ≤ 3 → size ≡ span level → raw L position ≡ start → position ≡ position_at L start → IsCanonical L start
    → IsOk answer ↔ (position % size ≡ 0) → IfOk answer (λ page. page ≡ position) → result_ok answer ≡ page_in L size start
page_found {E} L start position size level answer levels low high is of at canonical aligned value = by (is_page_start L size start) answer decides aligned value
  where
    same : start % size ≡ position % size
    same = subst (λ n. n % size ≡ position % size) of (multiples.same_remainder L position size level levels low high is)

    decides : Decides (is_page_start L size start) (IsCanonical L start × (start % size ≡ 0))
    decides = Decides-and (is_canonical_number L start) (start % size == 0) (canonical_tells L start) (Decides-eqb (start % size) 0)

    by : (test : Bool) (answer : Result ℕ E) → Decides test (IsCanonical L start × (start % size ≡ 0)) → IsOk answer ↔ (position % size ≡ 0) → IfOk answer (λ page. page ≡ position)
        → result_ok answer ≡ cond test (Some (position_at L start)) None
    by test (Ok page) tells aligned value = ap Some (value ∙ at) ∙ ap (λ b. cond b (Some (position_at L start)) None) (sym (tells.1 (canonical, same ∙ aligned.0 refl)))
    by true (Err e) tells aligned value = absurd (let ok = aligned.1 (sym same ∙ (tells.0 refl).1) in cc)
    by false (Err e) tells aligned value = refl
