-- The regions that mappings form, as they are found from the first mapping to the last: a region grows as long as mappings follow on it.
use Rattle.std.proofs.Common.{◌≡◌, ◌≢◌, ◌⊎◌, inl, inr, ⊎_elim, ◌+◌, ◌==◌, ◌&&◌, ℕ, Bool, true, false, not, cond, List, [], ◌∷◌, refl, sym, ap, ◌∙◌, subst}
use Rattle.std.specs.Bool.{beq}
use Rattle.std.proofs.lemmas.Bool.{and_from, and_parts, eqb-true, eq-eqb, cases_Bool, true≢false}
use Rattle.x86_64_model.specs.Position.{lower_half}
use Rattle.x86_64_model.specs.Mappings.{Mapping, Rights}
use Rattle.x86_64_model.specs.Regions.{Region, region_of, same_rights, follows, grown_to, put_before, regions_in}

-- ---- rights

same_Bool : (a b : Bool) → beq a b ≡ true → a ≡ b
same_Bool true true h = refl
same_Bool true false h = sym h
same_Bool false true h = h
same_Bool false false h = refl

pub same_rights_is : (r s : Rights) → same_rights r s ≡ true → r ≡ s
same_rights_is r s h =
    let parts = and_parts (beq r.write s.write && beq r.user s.user) (beq r.execute s.execute) h in
    let first = and_parts (beq r.write s.write) (beq r.user s.user) parts.0 in
    λ i. record { write = same_Bool r.write s.write first.0 i; user = same_Bool r.user s.user first.1 i; execute = same_Bool r.execute s.execute parts.1 i }

pub same_rights_itself : (r : Rights) → same_rights r r ≡ true
same_rights_itself r = by r.write r.user r.execute
  where
    itself : (b : Bool) → beq b b ≡ true
    itself true = refl
    itself false = refl

    by : (a b c : Bool) → (beq a a && beq b b && beq c c) ≡ true
    by a b c = and_from (beq a a && beq b b) (beq c c) (and_from (beq a a) (beq b b) (itself a) (itself b)) (itself c)

-- ---- a region that grows

-- the regions from one that may still grow, over the mappings behind it
unfoldable pub begun : (L : ℕ) → Region → List Mapping → List Region
begun L r [] = r ∷ []
begun L r (m ∷ ms) = cond (follows L r (region_of m)) (begun L (grown_to r (region_of m)) ms) (r ∷ begun L (region_of m) ms)

pub record Follows (L : ℕ) (r s : Region) : Type 0 where
  pub next : s.first ≡ r.last + 1
  pub not_middle : s.first ≢ lower_half L
  pub rights : r.rights ≡ s.rights

pub from_follows : (L : ℕ) (r s : Region) → follows L r s ≡ true → Follows L r s
from_follows L r s h =
    let parts = and_parts ((s.first == r.last + 1) && not (s.first == lower_half L)) (same_rights r.rights s.rights) h in
    let first = and_parts (s.first == r.last + 1) (not (s.first == lower_half L)) parts.0 in
    record { next = eqb-true _ _ first.0; not_middle = λ e. absurd (true≢false (sym first.1 ∙ ap not (eq-eqb _ _ e))); rights = same_rights_is r.rights s.rights parts.1 }

pub not_follows : (L : ℕ) (r s : Region) → follows L r s ≡ false → s.first ≡ r.last + 1 → (s.first ≡ lower_half L) ⊎ (r.rights ≢ s.rights)
not_follows L r s h next = ⊎_elim
    (λ e. inl (eqb-true _ _ e))
    (λ e. inr (λ same. absurd (true≢false (sym (and_from _ _ (and_from _ _ (eq-eqb _ _ next) (ap not e)) (subst (λ rights. same_rights r.rights rights ≡ true) same (same_rights_itself r.rights))) ∙ h))))
    (cases_Bool (s.first == lower_half L))

-- a region that follows on s follows on r, too, once r has grown to the end of s
follows_grown : (L : ℕ) (r s t : Region) → follows L r s ≡ true → follows L (grown_to r s) t ≡ follows L s t
follows_grown L r s t h = ap (λ rights. (t.first == s.last + 1) && not (t.first == lower_half L) && same_rights rights t.rights) (from_follows L r s h).rights

put_before_begun : (L : ℕ) (r s : Region) (ms : List Mapping) → put_before L r (begun L s ms) ≡ cond (follows L r s) (begun L (grown_to r s) ms) (r ∷ begun L s ms)
unfolding begun
put_before_begun L r s [] = refl
put_before_begun L r s (m ∷ ms) = let t = region_of m in
    spread (follows L s t) (put_before_begun L r (grown_to s t) ms) ∙ chosen (follows L s t) (follows L r s) (follows L (grown_to r s) t) grows (grown_to r s ∷ begun L t ms) (begun L (grown_to s t) ms) (s ∷ begun L t ms) (follows_grown L r s t)
  where
    grows : List Region
    grows = begun L (grown_to r (region_of m)) ms

    spread : (f : Bool) → put_before L r (begun L (grown_to s (region_of m)) ms) ≡ cond (follows L r s) grows (r ∷ begun L (grown_to s (region_of m)) ms)
        → put_before L r (cond f (begun L (grown_to s (region_of m)) ms) (s ∷ begun L (region_of m) ms))
        ≡ cond f (cond (follows L r s) grows (r ∷ begun L (grown_to s (region_of m)) ms)) (cond (follows L r s) (grown_to r s ∷ begun L (region_of m) ms) (r ∷ s ∷ begun L (region_of m) ms))
    spread true h = h
    spread false h = refl

    chosen : (f g c : Bool) (x y z w : List Region) → (g ≡ true → c ≡ f) → cond f (cond g x (r ∷ z)) (cond g y (r ∷ w)) ≡ cond g (cond c x y) (r ∷ cond f z w)
    chosen f true c x y z w same = ap (λ b. cond b x y) (sym (same refl))
    chosen true false c x y z w same = refl
    chosen false false c x y z w same = refl

-- the regions of mappings are those that begin with the region of the first one
pub regions_are_begun : (L : ℕ) (m : Mapping) (ms : List Mapping) → regions_in L (m ∷ ms) ≡ begun L (region_of m) ms
unfolding regions_in begun
regions_are_begun L m [] = refl
regions_are_begun L m (n ∷ ms) = ap (put_before L (region_of m)) (regions_are_begun L n ms) ∙ put_before_begun L (region_of m) (region_of n) ms
