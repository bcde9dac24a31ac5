-- The page walk arrives by the words that it reads.
use Rattle.std.proofs.Common.{zero, suc, ◌≡◌, ◌≤◌, ◌+◌, ◌-◌, ◌%◌, ℕ, ◌&&◌, Bool, true, false, not, cond, List, [], ◌∷◌, map, Some, None, Option, option_map, option_and_then, unwrap_or, refl, sym, ap, ◌∙◌, arith}
use Rattle.std.proofs.Math.Nat.{mod-eq-sub-div-mul}
use Rattle.std.specs.List.{last_or}
use Rattle.x86_64_model.specs.Entry.{present, huge, address}
use Rattle.x86_64_model.specs.Laws.Mappings.{arrival_in}
use Rattle.x86_64_model.specs.Laws.Walks.{WalksArriveBySteps}
use Rattle.x86_64_model.specs.Mappings.{Rights, Mapping, rights_of, maps_page, granted, every_right}
use Rattle.x86_64_model.specs.Memory.{Words}
use Rattle.x86_64_model.specs.PageWalk.{Walked, arrives, page_start, read}
use Rattle.x86_64_model.specs.Position.{index, span}
use Rattle.x86_64_model.specs.Steps.{Step, leads_on, steps, rights_in, last_arrival}
use Rattle.x86_64_model.specs.private.Found.{found, found_on, page_at}
use Rattle.x86_64_model.proofs.Lemmas.Mappings.Along.{both, both_last, both_more}
use Rattle.x86_64_model.proofs.Lemmas.Mappings.Found.{found_by}
use Rattle.x86_64_model.proofs.Lemmas.Mappings.Walked.{walk_finds}

-- ---- one word

abbrev pub step : (p level frame word : ℕ) → Step
step p level frame e = record { level = level; frame = frame; index = index level p; word = e }

pub steps_none : (T : Words) (p level frame : ℕ) → 1 ≤ level → None ≡ read T frame (index level p) → steps T p level frame ≡ []
unfolding steps
steps_none T p zero frame l is = absurd (omega (arith, l))
steps_none T p (suc n) frame l is =
    ap (λ o. unwrap_or (option_map (λ e. step p (suc n) frame e ∷ cond (leads_on (suc n) e) (steps T p n (address e)) []) o) []) (sym is)

pub steps_some : (T : Words) (p level frame e : ℕ) → 1 ≤ level → Some e ≡ read T frame (index level p)
    → steps T p level frame ≡ step p level frame e ∷ cond (leads_on level e) (steps T p (level - 1) (address e)) []
unfolding steps
steps_some T p zero frame e l is = absurd (omega (arith, l))
steps_some T p (suc n) frame e l is =
    let less : n ≡ suc n - 1 = omega arith in
    ap (λ o. unwrap_or (option_map (λ e. step p (suc n) frame e ∷ cond (leads_on (suc n) e) (steps T p n (address e)) []) o) []) (sym is)
    ∙ ap (λ k. step p (suc n) frame e ∷ cond (leads_on (suc n) e) (steps T p k (address e)) []) less

-- below level one there is none
pub steps_done : (T : Words) (p level frame : ℕ) → level ≡ 0 → steps T p level frame ≡ []
unfolding steps
steps_done T p zero frame is = refl
steps_done T p (suc n) frame is = absurd (omega (arith, is))

-- ---- the arrival

-- the arrival over words, below words with rights r
abbrev over : (p : ℕ) → Rights → List Step → Option Walked
over p r steps = last_arrival p (both r (rights_in steps)) (last_or None steps)

module _ (p level frame e : ℕ) (r : Rights) where
  abbrev here : Step
  here = step p level frame e

  ends : (present e && maps_page level e) ≡ false → (k : Rights) → last_arrival p k (Some here) ≡ None
  ends is k = ap (λ b. cond b (arrives (page_start level e + p % span level) k.write k.user) None) is

  -- below a word that maps no page
  below_word : maps_page level e ≡ false → (below : List Step) → over p r (here ∷ below) ≡ over p (granted r e) below
  below_word table [] = ends (by (present e) (maps_page level e) table) (both r (rights_of (e ∷ [])))
    where
      by : (b m : Bool) → m ≡ false → (b && m) ≡ false
      by true m is = is
      by false m is = refl
  below_word table (s ∷ below) = ap (λ k. last_arrival p k (last_or (Some s) below)) (both_more r e (s.word ∷ map (λ t. t.word) below))

  at_page : present e ≡ true → maps_page level e ≡ true → Some (arrival_in p (page_at p level r e)) ≡ over p r (here ∷ [])
  at_page there page =
      let both_are : (present e && maps_page level e) ≡ true = rw (there, page) refl in
      ap (λ o. arrives (page_start level e + o) (granted r e).write (granted r e).user) (sym (mod-eq-sub-div-mul p (span level)))
      ∙ ap (λ k. arrives (page_start level e + p % span level) k.write k.user) (sym (both_last r e))
      ∙ ap (λ b. cond b (arrives (page_start level e + p % span level) (both r (rights_of (e ∷ []))).write (both r (rights_of (e ∷ []))).user) None) (sym both_are)

  by_word : (below : List Step) (mapping : Option Mapping) → option_map (arrival_in p) mapping ≡ over p (granted r e) below
      → option_map (arrival_in p) (found_by p level r e mapping) ≡ over p r (here ∷ cond (leads_on level e) below [])
  by_word below mapping same = each (present e) (maps_page level e) (huge e) refl refl
    where
      each : (b m h : Bool) → present e ≡ b → maps_page level e ≡ m
          → option_map (arrival_in p) (cond b (cond m (Some (page_at p level r e)) (cond h None mapping)) None) ≡ over p r (here ∷ cond (b && not m && not h) below [])
      each false m h there page = sym (ends (ap (λ b. b && maps_page level e) there) (both r (rights_of (e ∷ []))))
      each true true h there page = at_page there page
      each true false true there page = sym (below_word page [])
      each true false false there page = same ∙ sym (below_word page below)

walked : (T : Words) (p n : ℕ) (r : Rights) (frame : ℕ) → option_map (arrival_in p) (found_on T p n r frame) ≡ over p r (steps T p n frame)
unfolding found_on steps
walked T p zero r frame = refl
walked T p (suc n) r frame = by (read T frame (index (suc n) p)) (λ e. walked T p n (granted r e) (address e))
  where
    by : (o : Option ℕ) → ((e : ℕ) → option_map (arrival_in p) (found_on T p n (granted r e) (address e)) ≡ over p (granted r e) (steps T p n (address e)))
        → option_map (arrival_in p) (option_and_then (λ e. found_by p (suc n) r e (found_on T p n (granted r e) (address e))) o)
        ≡ over p r (unwrap_or (option_map (λ e. step p (suc n) frame e ∷ cond (leads_on (suc n) e) (steps T p n (address e)) []) o) [])
    by None below = refl
    by (Some e) below = by_word p (suc n) frame e r (steps T p n (address e)) (found_on T p n (granted r e) (address e)) (below e)

pub walks_arrive_by_steps : WalksArriveBySteps
unfolding found
walks_arrive_by_steps L T root p = walk_finds L T root p ∙ walked T p L every_right root
