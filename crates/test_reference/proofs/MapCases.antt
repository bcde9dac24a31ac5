-- Maps of pages, parent by parent and case by case.
use Rattle.std.proofs.Common.{◌≡◌, ℕ, ◌+◌, ◌<◌, ◌≤◌, ◌&&◌, ◌||◌, nat_lt, not, cond, List, [], ◌∷◌, ◌++◌, length, take, drop, filter, Bool, true, false, bit_or, refl, sym, ap, ◌∙◌, append_assoc, arith}
use Rattle.std.proofs.lemmas.List.{map-append, drop_all}
use Rattle.std.proofs.lemmas.Bool.{lt-ltb, le-ltb}
use Rattle.std.specs.Bool.{beq}
use Rattle.std.specs.List.{list_any}
use Rattle.x86_64_model.specs.Entry.{used, huge}
use Rattle.x86_64_model.specs.PathMap.{PathMap, entry, put}
use Rattle.x86_64_model.specs.MapRule.{AfterMap, with_flags, with_tables, map_rule}
use Rattle.x86_64_model.specs.Refusal.{Done, Refused, ParentEntryHugePage, PageAlreadyMapped, FrameAllocationFailed}
use Rattle.test_reference.specs.Fronts.{fronts, is_wanted_front}
use Rattle.test_reference.proofs.Parents.{rest, rest_more}

-- ---- the parents that pass a test

pub kept : (P : List ℕ → Bool) (q ns : List ℕ) (n : ℕ) → n < length q → P (take n q) ≡ true → fronts q (ns ++ n ∷ []) ++ filter P (rest q (n + 1)) ≡ fronts q ns ++ filter P (rest q n)
kept P q ns n h e = ap (λ ps. ps ++ filter P (rest q (n + 1))) (map-append (λ n. take n q) ns (n ∷ [])) ∙ append_assoc (fronts q ns) (take n q ∷ []) (filter P (rest q (n + 1)))
    ∙ ap (λ ps. fronts q ns ++ ps) (sym (ap (filter P) (rest_more q n h) ∙ ap (λ b. cond b (take n q ∷ filter P (rest q (n + 1))) (filter P (rest q (n + 1)))) e))

pub passed : (P : List ℕ → Bool) (q ns : List ℕ) (n : ℕ) → n < length q → P (take n q) ≡ false → fronts q ns ++ filter P (rest q (n + 1)) ≡ fronts q ns ++ filter P (rest q n)
passed P q ns n h e = ap (λ ps. fronts q ns ++ ps) (sym (ap (filter P) (rest_more q n h) ∙ ap (λ b. cond b (take n q ∷ filter P (rest q (n + 1))) (filter P (rest q (n + 1)))) e))

pub is_wanted_true : (paths : PathMap) (wanted b : Bool) (p : List ℕ) → b ≡ used (entry paths p) → beq b wanted ≡ true → is_wanted_front paths wanted p ≡ true
is_wanted_true paths wanted b p is e = ap (λ u. cond wanted u (not u)) (sym is) ∙ by b wanted e
  where
    by : (b wanted : Bool) → beq b wanted ≡ true → cond wanted b (not b) ≡ true
    by true true e = refl
    by true false e = cc
    by false true e = cc
    by false false e = refl

pub is_wanted_false : (paths : PathMap) (wanted b : Bool) (p : List ℕ) → b ≡ used (entry paths p) → beq b wanted ≡ false → is_wanted_front paths wanted p ≡ false
is_wanted_false paths wanted b p is n = ap (λ u. cond wanted u (not u)) (sym is) ∙ by b wanted n
  where
    by : (b wanted : Bool) → beq b wanted ≡ false → cond wanted b (not b) ≡ false
    by true true n = cc
    by true false n = refl
    by false true n = refl
    by false false n = cc

pub any_more : (P : List ℕ → Bool) (q : List ℕ) (n : ℕ) → n < length q → list_any P (rest q n) ≡ (P (take n q) || list_any P (rest q (n + 1)))
any_more P q n h = ap (list_any P) (rest_more q n h)

pub any_later : (P : List ℕ → Bool) (q : List ℕ) (n : ℕ) → n < length q → P (take n q) ≡ false → list_any P (rest q (n + 1)) ≡ list_any P (rest q n)
any_later P q n h e = sym (any_more P q n h ∙ ap (λ b. b || list_any P (rest q (n + 1))) e)

-- ---- the four answers of a map

module _ (paths : PathMap) (supply : List ℕ) (pf af : ℕ) (ps : List (List ℕ)) (q : List ℕ) (e frame : ℕ) where
  abbrev marked : PathMap
  marked = with_flags paths pf (filter (λ p. used (entry paths p)) ps)

  abbrev missing : List (List ℕ)
  missing = filter (λ p. not (used (entry paths p))) ps

  abbrev built : PathMap
  built = with_tables marked (bit_or pf af) missing supply

  abbrev by_tests : (stopped short mapped : Bool) → AfterMap
  by_tests stopped short mapped = cond stopped (record { paths = marked; supply = supply; answer = Refused ParentEntryHugePage })
      (cond short (record { paths = built; supply = []; answer = Refused FrameAllocationFailed })
      (cond mapped (record { paths = built; supply = drop (length missing) supply; answer = Refused (PageAlreadyMapped frame) })
      (record { paths = put built q e; supply = drop (length missing) supply; answer = Done frame })))

  rule_by : (stopped short mapped : Bool) → list_any (λ p. used (entry paths p) && huge (entry paths p)) ps ≡ stopped → nat_lt (length supply) (length missing) ≡ short → used (entry paths q) ≡ mapped → map_rule paths supply pf af ps q e frame ≡ by_tests stopped short mapped
  unfolding map_rule
  rule_by stopped short mapped a b c = λ i. by_tests (a i) (b i) (c i)

  module _ (m : PathMap) (us : List (List ℕ)) (marks : m ≡ with_flags paths pf us) (olds : us ≡ filter (λ p. used (entry paths p)) ps) where
    is_marked : m ≡ marked
    is_marked = marks ∙ ap (with_flags paths pf) olds

    pub map_huge : true ≡ list_any (λ p. used (entry paths p) && huge (entry paths p)) ps → ◌≡◌ {A = AfterMap} (record { paths = m; supply = supply; answer = Refused ParentEntryHugePage }) (map_rule paths supply pf af ps q e frame)
    map_huge h = ap (λ m. record { paths = m; supply = supply; answer = Refused ParentEntryHugePage }) is_marked ∙ sym (rule_by true _ _ (sym h) refl refl)

    module _ (n : PathMap) (ns : List (List ℕ)) (count : ℕ) (left : List ℕ) (makes : n ≡ with_tables m (bit_or pf af) ns supply) (news : ns ≡ missing) (counts : count ≡ length ns) (takes : left ≡ drop count supply)
        (through : false ≡ list_any (λ p. used (entry paths p) && huge (entry paths p)) ps) where
      is_built : n ≡ built
      is_built = makes ∙ (λ i. with_tables (is_marked i) (bit_or pf af) (news i) supply)

      is_count : count ≡ length missing
      is_count = counts ∙ ap length news

      is_left : left ≡ drop (length missing) supply
      is_left = takes ∙ ap (λ k. drop k supply) is_count

      pub map_short : length supply < count → ◌≡◌ {A = AfterMap} (record { paths = n; supply = left; answer = Refused FrameAllocationFailed }) (map_rule paths supply pf af ps q e frame)
      map_short h = (λ i. record { paths = is_built i; supply = (takes ∙ drop_all count supply (omega arith)) i; answer = Refused FrameAllocationFailed })
          ∙ sym (rule_by false true _ (sym through) (lt-ltb _ _ (omega (arith, h, is_count))) refl)

      pub map_mapped : count ≤ length supply → true ≡ used (entry paths q) → ◌≡◌ {A = AfterMap} (record { paths = n; supply = left; answer = Refused (PageAlreadyMapped frame) }) (map_rule paths supply pf af ps q e frame)
      map_mapped h u = (λ i. record { paths = is_built i; supply = is_left i; answer = Refused (PageAlreadyMapped frame) })
          ∙ sym (rule_by false false true (sym through) (le-ltb _ _ (omega (arith, h, is_count))) (sym u))

      pub map_done : (after : PathMap) (word : ℕ) → after ≡ put n q word → word ≡ e → count ≤ length supply → false ≡ used (entry paths q) → ◌≡◌ {A = AfterMap} (record { paths = after; supply = left; answer = Done frame }) (map_rule paths supply pf af ps q e frame)
      map_done after word sets w h u = (λ i. record { paths = (sets ∙ (λ j. put (is_built j) q (w j))) i; supply = is_left i; answer = Done frame })
          ∙ sym (rule_by false false false (sym through) (le-ltb _ _ (omega (arith, h, is_count))) (sym u))
