-- Regions that are joined as they arrive are those that the mappings form. Mappings without a gap and with equal rights are
-- joined at once.
use Rattle.std.proofs.Common.{◌≡◌, ◌≢◌, ◌⊎◌, inl, inr, ⊎_elim, ◌<◌, ◌≤◌, ◌+◌, ◌-◌, ◌==◌, ℕ, Bool, true, false, not, cond, List, [], ◌∷◌, ◌++◌, filter, Option, Some, None, MatchOption, refl, sym, ap, ap₂, ◌∙◌, subst, subst₂, arith, append-nil, append_assoc}
use Rattle.std.specs.Prelude.{⊤}
use Rattle.std.specs.Iterator.{MakesProgress, item_count}
use Rattle.std.proofs.lemmas.Bool.{and_from, eq-eqb, eqb-true}
use Rattle.x86_64_model.specs.Position.{lower_half}
use Rattle.x86_64_model.specs.Mappings.{Mapping, Rights}
use Rattle.x86_64_model.specs.Regions.{Region, region_of, same_rights, follows, grown_to, regions_in}
use Rattle.x86_64_model.proofs.Lemmas.Mappings.Regions.{begun, from_follows, same_rights_itself, regions_are_begun}
use Rattle.x86_64_page.proofs.Blocks.{goes_first}
use Rattle.x86_64_mappings.specs.private.Extents.{AreWhole}
use Rattle.x86_64_mappings.specs.private.Joined.{region_between, held_with, given_with, held_after, given_after, listed, regions_from, JoinsRegion, Joins}

-- ---- mappings, in two parts

held_after-append : (L : ℕ) (held : Option Region) (ms ns : List Mapping) → held_after L held (ms ++ ns) ≡ held_after L (held_after L held ms) ns
unfolding held_after
held_after-append L held [] ns = refl
held_after-append L held (m ∷ ms) ns = held_after-append L (Some (held_with L held (region_of m))) ms ns

given_after-append : (L : ℕ) (held : Option Region) (ms ns : List Mapping) → given_after L held (ms ++ ns) ≡ given_after L held ms ++ given_after L (held_after L held ms) ns
unfolding held_after given_after
given_after-append L held [] ns = refl
given_after-append L held (m ∷ ms) ns = let next = Some (held_with L held (region_of m)) in
    ap (λ rs. given_with L held (region_of m) ++ rs) (given_after-append L next ms ns)
    ∙ sym (append_assoc (given_with L held (region_of m)) (given_after L next ms) (given_after L (held_after L next ms) ns))

-- ---- all regions

begun_joined : (L : ℕ) (r : Region) (ms : List Mapping) → begun L r ms ≡ regions_from L (Some r) ms
unfolding begun held_after given_after
begun_joined L r [] = refl
begun_joined L r (m ∷ ms) = let s = region_of m in
    elim (follows L r s) as (λ b. cond b (begun L (grown_to r s) ms) (r ∷ begun L s ms)
    ≡ (cond b [] (r ∷ []) ++ given_after L (Some (cond b (grown_to r s) s)) ms) ++ listed (held_after L (Some (cond b (grown_to r s) s)) ms)) [
      | true ↦ begun_joined L (grown_to r s) ms
      | false ↦ ap (λ rs. r ∷ rs) (begun_joined L s ms)
    ]

pub regions_joined : (L : ℕ) (ms : List Mapping) → regions_in L ms ≡ regions_from L None ms
unfolding regions_in held_after given_after
regions_joined L [] = refl
regions_joined L (m ∷ ms) = regions_are_begun L m ms ∙ begun_joined L (region_of m) ms

-- one mapping less
pub one_arrives : (L : ℕ) (held : Option Region) (left ms : List Mapping) (m : Mapping) (s : Region) (given next : Option Region) → left ≡ m ∷ ms → s ≡ region_of m
    → listed given ≡ given_with L held s → next ≡ Some (held_with L held s) → regions_from L held left ≡ listed given ++ regions_from L next ms
unfolding held_after given_after
one_arrives L held left ms m s given next first is gives holds =
    let after = Some (held_with L held (region_of m)) in
    ap (regions_from L held) first
    ∙ append_assoc (given_with L held (region_of m)) (given_after L after ms) (listed (held_after L after ms))
    ∙ ap₂ (λ g h. g ++ regions_from L h ms) (sym (gives ∙ ap (given_with L held) is)) (sym (holds ∙ ap (λ s. Some (held_with L held s)) is))

all_arrived : (L : ℕ) (held : Option Region) (left : List Mapping) → left ≡ [] → regions_from L held left ≡ listed held
unfolding held_after given_after
all_arrived L held left none = ap (regions_from L held) none

-- the region that is held back comes last
pub last_arrives : (L : ℕ) (now : List Region) (held next : Option Region) (left behind : List Mapping) (result : Option Region) → now ≡ regions_from L held left
    → left ≡ [] → behind ≡ [] → result ≡ held → next ≡ None → MatchOption result ((now ≡ []) × (regions_from L next behind ≡ [])) (λ r. now ≡ r ∷ regions_from L next behind)
last_arrives L now held next left behind None is none gone same taken =
    (is ∙ all_arrived L held left none ∙ ap listed (sym same), all_arrived L next behind gone ∙ ap listed taken)
last_arrives L now held next left behind (Some r) is none gone same taken =
    is ∙ all_arrived L held left none ∙ ap listed (sym same) ∙ ap (λ rest. r ∷ rest) (sym (all_arrived L next behind gone ∙ ap listed taken))

pub goes_by : (before after : List Region) (result : Option Region) → MatchOption result ((before ≡ []) × (after ≡ [])) (λ r. before ≡ r ∷ after)
    → MakesProgress (λ _. ⊤) (item_count (λ rs. rs)) before result after
goes_by before after None yields = record { on = λ _. tt; keeps = tt; rests = λ _. tt }
goes_by before after (Some r) yields = goes_first (λ rs. rs) before after r r yields

-- ---- mappings without a gap

from_whole : (a b : ℕ) (rights : Rights) (ms : List Mapping) → AreWhole a b rights ms → a ≤ b
from_whole a b rights [] h = omega (arith, h)
from_whole a b rights (m ∷ ms) h = let on = from_whole (m.start + m.size) b rights ms h.3 in omega (arith, on, h.0)

follows_from : (L : ℕ) (r s : Region) → s.first ≡ r.last + 1 → s.first ≢ lower_half L → r.rights ≡ s.rights → follows L r s ≡ true
follows_from L r s next apart same = and_from _ _ (and_from _ _ (eq-eqb _ _ next) (ap not (differ (s.first == lower_half L) refl)))
    (subst (λ rights. same_rights r.rights rights ≡ true) same (same_rights_itself r.rights))
  where
    differ : (b : Bool) → (s.first == lower_half L) ≡ b → (s.first == lower_half L) ≡ false
    differ true e = absurd (apart (eqb-true _ _ e))
    differ false e = e

-- a region that others follow, up to a position
grown_whole : (L : ℕ) (r : Region) (a b : ℕ) (ms : List Mapping) → r.last + 1 ≡ a → AreWhole a b r.rights ms → (b ≤ lower_half L) ⊎ (lower_half L < a)
    → (held_after L (Some r) ms ≡ Some (record { first = r.first; last = b - 1; rights = r.rights })) × (given_after L (Some r) ms ≡ [])
unfolding held_after given_after
grown_whole L r a b [] next h half = (
  ap (λ last. Some (record { first = r.first; last = last; rights = r.rights })) (let e : r.last ≡ b - 1 = omega (arith, next, h) in e),
  refl,
)
grown_whole L r a b (m ∷ ms) next h half = let s = region_of m in
    elim (follows L r s) as (λ f. f ≡ true → (held_after L (Some (cond f (grown_to r s) s)) ms ≡ Some (record { first = r.first; last = b - 1; rights = r.rights }))
    × (cond f [] (r ∷ []) ++ given_after L (Some (cond f (grown_to r s) s)) ms ≡ [])) [
      | true ↦ λ e. grown_whole L (grown_to r s) (m.start + m.size) b ms (omega (arith, h.1)) h.3 (⊎_elim (λ l. inl l) (λ l. inr (omega (arith, l, h.0, h.1))) half)
      | false ↦ λ e. absurd (let t : false ≡ true = e in cc)
    ] is_next
  where
    not_middle : m.start ≢ lower_half L
    not_middle e = let after = from_whole (m.start + m.size) b r.rights ms h.3 in
        ⊎_elim (λ l. omega (arith, l, e, after, h.1)) (λ l. omega (arith, l, e, h.0)) half

    is_next : follows L r (region_of m) ≡ true
    is_next = follows_from L r (region_of m) (h.0 ∙ sym next) not_middle (sym h.2)

-- mappings without a gap arrive as one region
whole_joined : (L : ℕ) (held : Option Region) (a b : ℕ) (rights : Rights) (ms : List Mapping) → a < b → AreWhole a b rights ms → (b ≤ lower_half L) ⊎ (lower_half L ≤ a)
    → (let s = region_between a b rights in (held_after L held ms ≡ Some (held_with L held s)) × (given_after L held ms ≡ given_with L held s))
unfolding held_after given_after
whole_joined L held a b rights [] some h half = absurd (omega (arith, some, h))
whole_joined L held a b rights (m ∷ ms) some h half =
    subst₂ (λ a rights. let s = region_between a b rights in (held_after L held (m ∷ ms) ≡ Some (held_with L held s)) × (given_after L held (m ∷ ms) ≡ given_with L held s))
    h.0 h.2 (by held)
  where
    s : Region
    s = region_between m.start b m.rights

    on : (r : Region) → r.last ≡ m.start + m.size - 1 → r.rights ≡ m.rights
        → (held_after L (Some r) ms ≡ Some (record { first = r.first; last = b - 1; rights = r.rights })) × (given_after L (Some r) ms ≡ [])
    on r last same = grown_whole L r (m.start + m.size) b ms (omega (arith, last, h.1))
        (subst (λ rights. AreWhole (m.start + m.size) b rights ms) (sym h.2 ∙ sym same) h.3) (⊎_elim (λ l. inl l) (λ l. inr (omega (arith, l, h.0, h.1))) half)

    by : (held : Option Region) → (held_after L (Some (held_with L held (region_of m))) ms ≡ Some (held_with L held s))
        × (given_with L held (region_of m) ++ given_after L (Some (held_with L held (region_of m))) ms ≡ given_with L held s)
    by None = on (region_of m) refl refl
    by (Some r) = elim (follows L r (region_of m)) as (λ f. follows L r (region_of m) ≡ f
        → (held_after L (Some (cond f (grown_to r (region_of m)) (region_of m))) ms ≡ Some (cond f (grown_to r s) s))
        × (cond f [] (r ∷ []) ++ given_after L (Some (cond f (grown_to r (region_of m)) (region_of m))) ms ≡ cond f [] (r ∷ []))) [
          | true ↦ λ f. on (grown_to r (region_of m)) refl (from_follows L r (region_of m) f).rights
          | false ↦ λ f. let rest = on (region_of m) refl refl in (rest.0, ap (λ rs. r ∷ rs) rest.1)
        ] refl

-- ---- steps of joins

module _ {V : Type 0} (visits : V → V → List Region → Type 0) (L : ℕ) where
  pub joins_none : ((v : V) → visits v v []) → (held : Option Region) (visitor : V) → Joins visits L [] held visitor held visitor
  unfolding held_after given_after
  joins_none none held visitor = record { given = none visitor; held = refl }

  pub joins_both : ((u v w : V) (xs ys : List Region) → visits u v xs → visits v w ys → visits u w (xs ++ ys))
      → (ms ns : List Mapping) (a b c : Option Region) (u v w : V) → Joins visits L ms a u b v → Joins visits L ns b v c w → Joins visits L (ms ++ ns) a u c w
  joins_both both ms ns a b c u v w front back =
      let middle = front.held in
      record {
        given = subst (visits u w) (ap (λ h. given_after L a ms ++ given_after L h ns) middle ∙ sym (given_after-append L a ms ns)) (both u v w (given_after L a ms) (given_after L b ns) front.given back.given);
        held = back.held ∙ ap (λ h. held_after L h ns) middle ∙ sym (held_after-append L a ms ns);
      }

  -- a region arrives, and what is handed out is visited
  pub joins_region : (s : Region) (a given b : Option Region) (u v : V) → listed given ≡ given_with L a s → b ≡ Some (held_with L a s) → visits u v (listed given) → JoinsRegion visits L s a u b v
  joins_region s a given b u v is held visited = record { given = subst (visits u v) is visited; held = held }

  -- the region of a mapping arrives, if the mapping is wanted
  pub joins_wanted : (p : Mapping → Bool) (m : Mapping) (s : Region) → s ≡ region_of m → p m ≡ true
      → (a b : Option Region) (u v : V) → JoinsRegion visits L s a u b v → Joins visits L (filter p (m ∷ [])) a u b v
  unfolding held_after given_after
  joins_wanted p m s is wanted a b u v joins = subst (λ t. Joins visits L (cond t (m ∷ []) []) a u b v) (sym wanted) (record {
    given = subst (visits u v) (ap (given_with L a) is ∙ sym (append-nil (given_with L a (region_of m)))) joins.given;
    held = joins.held ∙ ap (λ s. Some (held_with L a s)) is;
  })

  pub joins_unwanted : ((v : V) → visits v v []) → (p : Mapping → Bool) (m : Mapping) → p m ≡ false → (held : Option Region) (visitor : V)
      → Joins visits L (filter p (m ∷ [])) held visitor held visitor
  joins_unwanted none p m unwanted held visitor = subst (λ t. Joins visits L (cond t (m ∷ []) []) held visitor held visitor) (sym unwanted) (joins_none none held visitor)

  -- the region of mappings without a gap arrives
  pub joins_whole : (a b : ℕ) (rights : Rights) (ms : List Mapping) → a < b → AreWhole a b rights ms → (b ≤ lower_half L) ⊎ (lower_half L ≤ a)
      → (s : Region) → s ≡ region_between a b rights → (h k : Option Region) (u v : V) → JoinsRegion visits L s h u k v → Joins visits L ms h u k v
  joins_whole a b rights ms some whole half s is h k u v joins =
      let all = whole_joined L h a b rights ms some whole half in
      record {
        given = subst (visits u v) (ap (given_with L h) is ∙ sym all.1) joins.given;
        held = joins.held ∙ ap (λ s. Some (held_with L h s)) is ∙ sym all.0;
      }

  -- all regions have arrived, and the one that is held back is handed out
  pub joins_last : ((u v w : V) (xs ys : List Region) → visits u v xs → visits v w ys → visits u w (xs ++ ys))
      → (ms : List Mapping) (after : Option Region) (u v w : V) → Joins visits L ms None u after v → visits v w (listed after) → visits u w (regions_in L ms)
  joins_last both ms after u v w joins last = subst (visits u w) (ap (λ h. given_after L None ms ++ listed h) joins.held ∙ sym (regions_joined L ms))
      (both u v w (given_after L None ms) (listed after) joins.given last)
