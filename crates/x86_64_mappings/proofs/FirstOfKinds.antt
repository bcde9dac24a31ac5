-- What holds for the first mapping of each kind holds for all mappings, if it holds for all of a kind or for none.
use Rattle.std.proofs.Common.{◌≡◌, ◌∙◌, ◌==◌, ◌&&◌, Bool, true, false, not, cond, List, [], ◌∷◌, filter, find, Some, refl, sym, ap}
use Rattle.std.specs.List.{AllByRecursion}
use Rattle.std.proofs.lemmas.Bool.{and_parts, eqb-true}
use Rattle.x86_64_model.specs.Mappings.{Mapping}
use Rattle.x86_64_model.specs.Regions.{same_rights}
use Rattle.x86_64_model.proofs.Lemmas.Mappings.Regions.{same_rights_is}
use Rattle.x86_64_mappings.specs.Kinds.{distinct, is_like}

pub record AreLike (m n : Mapping) : Type 0 where
  pub frame : m.frame ≡ n.frame
  pub size : m.size ≡ n.size
  pub rights : m.rights ≡ n.rights

pub like_then : (m n : Mapping) → is_like m n ≡ true → AreLike m n
like_then m n h =
    let all = and_parts ((m.frame == n.frame) && (m.size == n.size)) (same_rights m.rights n.rights) h in
    let place = and_parts (m.frame == n.frame) (m.size == n.size) all.0 in
    record { frame = eqb-true m.frame n.frame place.0; size = eqb-true m.size n.size place.1; rights = same_rights_is m.rights n.rights all.1 }

-- ---- facts

module _ (P : Mapping → Type 0) (by_kind : (m n : Mapping) → is_like m n ≡ true → P m → P n) where
  with_others : (m : Mapping) → P m → (ns : List Mapping) → AllByRecursion P (filter (λ n. not (is_like m n)) ns) → AllByRecursion P ns
  with_others m p [] h = tt
  with_others m p (n ∷ ns) h = by (is_like m n) refl (with_others m p ns) h
    where
      by : (b : Bool) → is_like m n ≡ b → (AllByRecursion P (filter (λ n. not (is_like m n)) ns) → AllByRecursion P ns)
          → AllByRecursion P (cond (not b) (n ∷ filter (λ n. not (is_like m n)) ns) (filter (λ n. not (is_like m n)) ns)) → AllByRecursion P (n ∷ ns)
      by true is rest h = (by_kind m n is p, rest h)
      by false is rest h = (h.0, rest h.1)

  pub all_of_distinct : (ms : List Mapping) → AllByRecursion P (distinct ms) → AllByRecursion P ms
  all_of_distinct [] h = tt
  all_of_distinct (m ∷ ms) h = (h.0, all_of_distinct ms (with_others m h.0 (distinct ms) h.1))

-- ---- searches

module _ (p : Mapping → Bool) (by_kind : (m n : Mapping) → is_like m n ≡ true → p m ≡ p n) where
  find_others : (m : Mapping) → p m ≡ false → (ns : List Mapping) → find p (filter (λ n. not (is_like m n)) ns) ≡ find p ns
  find_others m fails [] = refl
  find_others m fails (n ∷ ns) = by (is_like m n) refl (find_others m fails ns)
    where
      by : (b : Bool) → is_like m n ≡ b → find p (filter (λ n. not (is_like m n)) ns) ≡ find p ns
          → find p (cond (not b) (n ∷ filter (λ n. not (is_like m n)) ns) (filter (λ n. not (is_like m n)) ns)) ≡ find p (n ∷ ns)
      by true is same = same ∙ ap (λ b. cond b (Some n) (find p ns)) (sym fails ∙ by_kind m n is)
      by false is same = ap (λ found. cond (p n) (Some n) found) same

  -- the first mapping that passes a test, which passes all of a kind or none
  pub find_distinct : (ms : List Mapping) → find p (distinct ms) ≡ find p ms
  find_distinct [] = refl
  find_distinct (m ∷ ms) = by (p m) refl (find_distinct ms)
    where
      by : (b : Bool) → p m ≡ b → find p (distinct ms) ≡ find p ms
          → cond b (Some m) (find p (filter (λ n. not (is_like m n)) (distinct ms))) ≡ cond b (Some m) (find p ms)
      by true is same = refl
      by false is same = find_others m is (distinct ms) ∙ same
