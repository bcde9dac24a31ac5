-- Which calls are allowed: the first parent that is absent or huge, and the refusals of `set_flags`.
use Rattle.std.proofs.Common.{◌≡◌, ℕ, ◌+◌, ◌<◌, ◌||◌, nat_le, not, cond, List, ◌∷◌, length, take, find, Bool, true, false, Option, Some, None, is_some, bit_or, refl, sym, ap, ◌∙◌}
use Rattle.x86_64_model.specs.Entry.{present, huge, used, address}
use Rattle.x86_64_model.specs.Path.{level_of, front_at}
use Rattle.x86_64_model.specs.PathMap.{PathMap, entry, put}
use Rattle.x86_64_model.specs.Refusal.{Refusal, Done, Refused, PageNotMapped, ParentEntryHugePage, first_stop, refused_if}
use Rattle.x86_64_model.specs.PageRules.{AfterChange, refused_or, set_flags}
use Rattle.x86_64_model.specs.Allowed.{none_absent, refuses}
use Rattle.test_reference.specs.Fronts.{first_present}
use Rattle.test_reference.specs.declared.plain_calls.Refusal as plain
use Rattle.test_reference.specs.Calls.{refusals_of}
use Rattle.test_reference.proofs.Parents.{rest, rest_more}

first_present_more : (paths : PathMap) (p : List ℕ) (ps : List (List ℕ)) → first_present paths (p ∷ ps) ≡ cond (present (entry paths p)) (huge (entry paths p) || first_present paths ps) false
first_present_more paths p ps = by (present (entry paths p)) (huge (entry paths p)) refl
  where
    by : (a b : Bool) → present (entry paths p) ≡ a → none_absent paths (cond (not a || b) (Some p) (find (λ p. not (present (entry paths p)) || huge (entry paths p)) ps)) ≡ cond a (b || first_present paths ps) false
    by true true e = e
    by true false e = refl
    by false b e = e

first_present_at : (paths : PathMap) (q : List ℕ) (n e : ℕ) → n < length q → e ≡ entry paths (take n q) → first_present paths (rest q n) ≡ cond (present e) (huge e || first_present paths (rest q (n + 1))) false
first_present_at paths q n e h is = ap (first_present paths) (rest_more q n h) ∙ first_present_more paths (take n q) (rest q (n + 1)) ∙ ap (λ e. cond (present e) (huge e || first_present paths (rest q (n + 1))) false) (sym is)

pub table_here : (paths : PathMap) (q : List ℕ) (n e : ℕ) → n < length q → e ≡ entry paths (take n q) → present e ≡ true → huge e ≡ false → first_present paths (rest q (n + 1)) ≡ first_present paths (rest q n)
table_here paths q n e h is a b = sym (first_present_at paths q n e h is ∙ ap (λ b. cond b (huge e || first_present paths (rest q (n + 1))) false) a ∙ ap (λ b. b || first_present paths (rest q (n + 1))) b)

-- ---- the refusals of `set_flags`

refused_by_either : (paths : PathMap) (a : Option Refusal) (u : Bool) (next : AfterChange) → refuses next.answer ≡ false → refuses (refused_or paths a (refused_or paths (refused_if u PageNotMapped None) next)).answer ≡ (is_some a || u)
refused_by_either paths (Some why) u next e = refl
refused_by_either paths None true next e = refl
refused_by_either paths None false next e = e

pub set_flags_refuses_is : (L : ℕ) (E : List ℕ → ℕ) (paths : PathMap) (level : ℕ) (page : List ℕ) (given : ℕ) → refuses (set_flags L E paths level page given).answer ≡ (nat_le level (level_of L page) || is_some (first_stop E (front_at L level page)) || not (used (E (front_at L level page))))
unfolding set_flags
set_flags_refuses_is L E paths level page given = by (nat_le level (level_of L page)) (front_at L level page)
  where
    by : (low : Bool) (q : List ℕ) → refuses (cond low (record { paths = paths; answer = Refused ParentEntryHugePage })
        (refused_or paths (first_stop E q) (refused_or paths (refused_if (not (used (E q))) PageNotMapped None) (record { paths = put paths q (bit_or (address (E q)) given); answer = Done (address (E q)) })))).answer ≡ (low || is_some (first_stop E q) || not (used (E q)))
    by true q = refl
    by false q = refused_by_either paths (first_stop E q) (not (used (E q))) (record { paths = put paths q (bit_or (address (E q)) given); answer = Done (address (E q)) }) refl

pub is_some-refusals : (o : Option plain.Refusal) → is_some o ≡ is_some (refusals_of o)
is_some-refusals None = refl
is_some-refusals (Some why) = refl
