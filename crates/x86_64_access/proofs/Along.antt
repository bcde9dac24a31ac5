-- One word of a path that was read before, for code that has the level as a number.
use Rattle.std.proofs.Common.{zero, suc, ◌≡◌, ◌≤◌, ◌+◌, ◌-◌, ℕ, nat_lt, Bool, true, false, cond, List, [], ◌∷◌, length, drop, get_or, Some, None, Option, refl, sym, ap, ◌∙◌, arith, unwrap_or, option_map, ltb-true}
use Rattle.std.proofs.lemmas.Bool.{ltb-false}
use Rattle.std.proofs.lemmas.List.{drop_all, drop_more}
use Rattle.x86_64_model.specs.Access.{Access, Controls, NoMemory, access, ends_at, outcome, reserved, steps_from, until}
use Rattle.x86_64_model.specs.Entry.{address, present}
use Rattle.x86_64_model.specs.Mappings.{Rights, granted, maps_page}
use Rattle.x86_64_model.specs.Memory.{Words}
use Rattle.x86_64_model.specs.PageWalk.{read}
use Rattle.x86_64_model.specs.Position.{index}
use Rattle.x86_64_model.specs.Steps.{Step, leads_on, rights_in, steps}
use Rattle.x86_64_access.specs.Paths.{IsAccessWherever, access_along, steps_along, step_words}
use Rattle.x86_64_access.specs.private.Walking.{along_on, reads_on}
use Rattle.x86_64_access.proofs.Walked.{at_last, comes_of, first_ends, first_leads, reads_first, step_at}

abbrev pub steps_judged : Controls → (p level frame : ℕ) → List ℕ → List Step
steps_judged c p level frame words = until (λ s. reserved c s.level s.word) (steps_along p level frame words)

along_is : (c : Controls) (p : ℕ) (a : Access) (level frame : ℕ) (r : Rights) (words : List ℕ)
    → along_on c p a level frame r words ≡ comes_of c a p r frame (steps_judged c p level frame words)
unfolding along_on
along_is c p a level frame r words = refl

pub along_root : (c : Controls) (p : ℕ) (a : Access) (level root : ℕ) (words : List ℕ)
    → access_along level c root p a words ≡ along_on c p a level root (record { write = true; user = true; execute = true }) words
unfolding access_along along_on
along_root c p a level root words = refl

pub along_zero : (c : Controls) (p : ℕ) (a : Access) (frame : ℕ) (r : Rights) (words : List ℕ) → NoMemory frame ≡ along_on c p a 0 frame r words
unfolding along_on steps_along
along_zero c p a frame r words = refl

pub along_none : (c : Controls) (p : ℕ) (a : Access) (level frame : ℕ) (r : Rights) → NoMemory frame ≡ along_on c p a level frame r []
unfolding along_on steps_along
along_none c p a zero frame r = refl
along_none c p a (suc n) frame r = refl

steps_are : (c : Controls) (p level frame e : ℕ) (words : List ℕ) → 1 ≤ level
    → steps_judged c p level frame (e ∷ words) ≡ step_at p level frame e ∷ cond (reads_on c level e) (steps_judged c p (level - 1) (address e) words) []
unfolding steps_along
steps_are c p zero frame e words l = absurd (omega arith)
steps_are c p (suc n) frame e words l = reads_first c p (suc n) frame e (steps_along p n (address e) words) l
    ∙ ap (λ k. step_at p (suc n) frame e ∷ cond (reads_on c (suc n) e) (steps_judged c p k (address e) words) []) less
  where
    less : n ≡ suc n - 1
    less = omega arith

-- ---- by the word that is next

module _ (c : Controls) (p : ℕ) (a : Access) (level frame : ℕ) (r : Rights) (e : ℕ) (words : List ℕ) (l : 1 ≤ level) where
  -- the access ends at the word
  pub along_end : reads_on c level e ≡ false → ends_at c a p (granted r e) (step_at p level frame e) ≡ along_on c p a level frame r (e ∷ words)
  along_end h = first_ends c p a level frame r e (steps_judged c p (level - 1) (address e) words) (steps_judged c p level frame (e ∷ words)) (steps_are c p level frame e words l) h
      ∙ sym (along_is c p a level frame r (e ∷ words))

  -- the access goes on in the table that the word names
  pub along_table : present e ≡ true → reserved c level e ≡ false → maps_page level e ≡ false
      → along_on c p a (level - 1) (address e) (granted r e) words ≡ along_on c p a level frame r (e ∷ words)
  along_table here sound table = along_is c p a (level - 1) (address e) (granted r e) words
      ∙ first_leads c p a level frame r e (steps_judged c p (level - 1) (address e) words) (steps_judged c p level frame (e ∷ words)) (steps_are c p level frame e words l) here sound table
      ∙ sym (along_is c p a level frame r (e ∷ words))

-- ---- in a memory

-- the steps along the words that a walk reads are its steps
steps_back : (T : Words) (p level frame : ℕ) → steps_along p level frame (step_words (steps T p level frame)) ≡ steps T p level frame
unfolding steps steps_along
steps_back T p zero frame = refl
steps_back T p (suc n) frame = by (λ f. steps_back T p n f) (read T frame (index (suc n) p))
  where
    found : Option ℕ → List Step
    found o = unwrap_or (option_map
        (λ e. step_at p (suc n) frame e ∷ cond (leads_on (suc n) e) (steps T p n (address e)) []) o) []

    on : (f : ℕ) → steps_along p n f (step_words (steps T p n f)) ≡ steps T p n f → (b : Bool)
        → cond b (steps_along p n f (step_words (cond b (steps T p n f) []))) [] ≡ cond b (steps T p n f) []
    on f back true = back
    on f back false = refl

    by : ((f : ℕ) → steps_along p n f (step_words (steps T p n f)) ≡ steps T p n f) → (o : Option ℕ) → steps_along p (suc n) frame (step_words (found o)) ≡ found o
    by back None = refl
    by back (Some e) = ap (λ below. step_at p (suc n) frame e ∷ below) (on (address e) (back (address e)) (leads_on (suc n) e))

pub is_access : (L : ℕ) (c : Controls) (root p : ℕ) (a : Access) (words : List ℕ) → IsAccessWherever L c root p a words (access_along L c root p a words)
unfolding access access_along steps_from
is_access L c root p a words T is = ap (λ list. outcome c a p root (until (λ s. reserved c s.level s.word) list))
    (ap (steps_along p L root) (sym is) ∙ steps_back T p L root)

-- what comes of an access along words is the same for each root
pub roots_alike : (L : ℕ) → 1 ≤ L → (c : Controls) (root other p : ℕ) (a : Access) (e : ℕ) (words : List ℕ)
    → access_along L c root p a (e ∷ words) ≡ access_along L c other p a (e ∷ words)
unfolding access_along steps_along
roots_alike zero l c root other p a e words = absurd (omega (arith, l))
roots_alike (suc n) l c root other p a e words =
    by (cond (reserved c (suc n) e) [] (until (λ s. reserved c s.level s.word) (cond (leads_on (suc n) e) (steps_along p n (address e) words) [])))
  where
    by : (below : List Step) → outcome c a p root (step_at p (suc n) root e ∷ below) ≡ outcome c a p other (step_at p (suc n) other e ∷ below)
    by [] = refl
    by (s ∷ steps) = at_last c a p (rights_in (step_at p (suc n) root e ∷ s ∷ steps)) root other s steps

-- ---- the words that are left

pub none_left : (words : List ℕ) (i : ℕ) → false ≡ nat_lt i (length words) → drop i words ≡ []
none_left words i is = drop_all i words (ltb-false i (length words) (sym is))

pub one_left : (words : List ℕ) (i e : ℕ) → true ≡ nat_lt i (length words) → e ≡ get_or words i e → drop i words ≡ e ∷ drop (i + 1) words
one_left words i e is at = drop_more words i e (ltb-true i (length words) (sym is)) ∙ ap (λ x. x ∷ drop (i + 1) words) (sym at)
