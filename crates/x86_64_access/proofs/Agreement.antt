-- Accesses agree with page walks.
use Rattle.std.proofs.Common.{zero, suc, inl, inr, ◌≡◌, ◌<◌, ◌≤◌, ◌-◌, ◌+◌, ◌%◌, ℕ, ◌&&◌, Bool, true≢false, true, false, not, cond, is_some, List, ◌∷◌, Some, None, Option, refl, sym, ap, subst, ◌∙◌, arith}
use Rattle.x86_64_model.specs.Arrivals.{Reaches}
use Rattle.x86_64_model.specs.Entry.{present, huge, writable, user, address}
use Rattle.x86_64_model.specs.Mappings.{Rights, maps_page, rights_of, granted}
use Rattle.x86_64_model.specs.Lists.{In}
use Rattle.x86_64_model.specs.Memory.{Words}
use Rattle.x86_64_model.specs.PageWalk.{Walked, page_start, page_walk, read, walk_on}
use Rattle.x86_64_model.specs.Position.{index, span}
use Rattle.x86_64_model.proofs.Lemmas.Mappings.Along.{both_last, both_more}
use Rattle.x86_64_tables.proofs.WalkSteps.{on_absent, on_end, on_none as walk_none, on_table}
use Rattle.x86_64_tables.specs.Walks.{ends}
use Rattle.x86_64_model.specs.Access.{Access, Arrives, Controls, Faults, Outcome, access_allowed, code, steps_from, reserved}
use Rattle.x86_64_model.specs.Steps.{Step}
use Rattle.x86_64_access.specs.private.Walking.{access_on}
use Rattle.x86_64_tables.specs.Rights.{both}
use Rattle.x86_64_access.specs.Laws.{ArriveWhereWalksDo, WalksAllowedArrive}
use Rattle.x86_64_access.specs.Paths.{step_words}
use Rattle.x86_64_access.proofs.Walked.{and_left, and_right, is_arrival, on_fault, on_none, on_page, on_root, on_table as to_table, on_zero, not_huge, page_low, steps_first, steps_on, steps_page, page_ends, table_high}

-- the arrival in a page
ends_in : (level p e : ℕ) (w u : Bool) → 1 ≤ level → level ≤ 3 → ends level p w u e ≡ Some (record { address = page_start level e + p % span level; write = w; user = u })
ends_in zero p e w u low high = absurd (omega (arith, low))
ends_in (suc zero) p e w u low high = refl
ends_in (suc (suc zero)) p e w u low high = refl
ends_in (suc (suc (suc zero))) p e w u low high = refl
ends_in (suc (suc (suc (suc n)))) p e w u low high = absurd (omega (arith, high))

abbrev arrival_of : Outcome → ℕ → ℕ
arrival_of (Arrives to) d = to
arrival_of outcome d = d

abbrev address_in : Option Walked → ℕ → ℕ
address_in None d = d
address_in (Some w) d = w.address

zero_walk : (T : Words) (p : ℕ) (w u : Bool) (frame : ℕ) → None ≡ walk_on T p 0 w u frame
unfolding walk_on
zero_walk T p w u frame = refl

module _ (c : Controls) (T : Words) (p : ℕ) (a : Access) where
  -- at a page
  at_page : (level frame : ℕ) (r : Rights) (e to : ℕ) → 1 ≤ level → Some e ≡ read T frame (index level p)
      → present e ≡ true → reserved c level e ≡ false → maps_page level e ≡ true
      → access_on c T p a level frame r ≡ Arrives to → Reaches (walk_on T p level r.write r.user frame) to
  at_page level frame r e to l is here sound page arrives = by_rights (access_allowed c a (granted r e)) refl
    where
      there : page_start level e + p % span level ≡ to → Reaches (walk_on T p level r.write r.user frame) to
      there same = (
        r.write && writable e,
        r.user && user e,
        sym (on_end T p level r.write r.user frame e is l here (page_ends level e page))
            ∙ ends_in level p e (r.write && writable e) (r.user && user e) l (page_low level e page)
            ∙ ap (λ x. Some (record { address = x; write = r.write && writable e; user = r.user && user e })) same,
      )

      by_rights : (b : Bool) → access_allowed c a (granted r e) ≡ b → Reaches (walk_on T p level r.write r.user frame) to
      by_rights true enough = there (ap (λ o. arrival_of o 0)
          (sym (ap (λ b. cond (not b) (Faults (code c a true false) level) (Arrives (page_start level e + p % span level))) enough)
          ∙ on_page c T p a level frame r e l is here sound page ∙ arrives))
      by_rights false refused = absurd (true≢false (sym (ap is_arrival
          (sym (ap (λ b. cond (not b) (Faults (code c a true false) level) (Arrives (page_start level e + p % span level))) refused)
          ∙ on_page c T p a level frame r e l is here sound page ∙ arrives))))

  -- at a word of a level above n
  at_word : (n frame : ℕ) (r : Rights) (to : ℕ)
      → (below : (f : ℕ) (s : Rights) → access_on c T p a n f s ≡ Arrives to → Reaches (walk_on T p n s.write s.user f) to)
      → access_on c T p a (suc n) frame r ≡ Arrives to → Reaches (walk_on T p (suc n) r.write r.user frame) to
  at_word n frame r to below arrives = by_word (read T frame (index (suc n) p)) refl
    where
      less : suc n - 1 ≡ n
      less = omega arith

      low : 1 ≤ suc n
      low = omega arith

      by_page : (e : ℕ) → Some e ≡ read T frame (index (suc n) p) → present e ≡ true → reserved c (suc n) e ≡ false
          → (b : Bool) → maps_page (suc n) e ≡ b → Reaches (walk_on T p (suc n) r.write r.user frame) to
      by_page e is here sound true page = at_page (suc n) frame r e to low is here sound page arrives
      by_page e is here sound false table =
          let small : huge e ≡ false = not_huge c (suc n) e low sound table in
          let more : 1 < suc n = table_high (suc n) e low table in
          subst (λ w. Reaches w to)
          (ap (λ k. walk_on T p k (r.write && writable e) (r.user && user e) (address e)) (sym less)
          ∙ on_table T p (suc n) r.write r.user frame e is more here small)
          (below (address e) (granted r e) (ap (λ k. access_on c T p a k (address e) (granted r e)) (sym less)
          ∙ to_table c T p a (suc n) frame r e low is here sound table ∙ arrives))

      by_sound : (e : ℕ) → Some e ≡ read T frame (index (suc n) p)
          → (b : Bool) → (present e && not (reserved c (suc n) e)) ≡ b → Reaches (walk_on T p (suc n) r.write r.user frame) to
      by_sound e is true sound = by_page e is (and_left (present e) (reserved c (suc n) e) sound) (and_right (present e) (reserved c (suc n) e) sound)
          (maps_page (suc n) e) refl
      by_sound e is false bad = absurd (true≢false (sym (ap is_arrival (on_fault c T p a (suc n) frame r e low is bad ∙ arrives))))

      by_word : (o : Option ℕ) → read T frame (index (suc n) p) ≡ o → Reaches (walk_on T p (suc n) r.write r.user frame) to
      by_word None is = absurd (true≢false (sym (ap is_arrival (on_none c T p a (suc n) frame r low (sym is) ∙ arrives))))
      by_word (Some e) is = by_sound e (sym is) (present e && not (reserved c (suc n) e)) refl

  arrives_walks : (level frame : ℕ) (r : Rights) (to : ℕ) → access_on c T p a level frame r ≡ Arrives to
      → Reaches (walk_on T p level r.write r.user frame) to
  arrives_walks zero frame r to arrives = absurd (true≢false (sym (ap is_arrival (on_zero c T p a frame r ∙ arrives))))
  arrives_walks (suc n) frame r to arrives = at_word n frame r to (λ f s h. arrives_walks n f s to h) arrives

  -- ---- from a walk to an access

  abbrev AllSound : List Step → Type 0
  AllSound steps = (s : Step) → In steps s → reserved c s.level s.word ≡ false

  -- an access on a walk that arrives is allowed and finds no reserved bit
  abbrev MayArrive : (level frame : ℕ) → Rights → Walked → Type 0
  MayArrive level frame r w = (walk_on T p level r.write r.user frame ≡ Some w) × AllSound (steps_from c T p level frame)
      × (access_allowed c a (both r (rights_of (step_words (steps_from c T p level frame)))) ≡ true)

  page_allowed : (level frame : ℕ) (r : Rights) (e : ℕ) (w : Walked) → 1 ≤ level → Some e ≡ read T frame (index level p)
      → present e ≡ true → reserved c level e ≡ false → maps_page level e ≡ true
      → walk_on T p level r.write r.user frame ≡ Some w → access_allowed c a (granted r e) ≡ true → access_on c T p a level frame r ≡ Arrives w.address
  page_allowed level frame r e w l is here sound page walks enough =
      sym (on_page c T p a level frame r e l is here sound page)
      ∙ ap (λ b. cond (not b) (Faults (code c a true false) level) (Arrives (page_start level e + p % span level))) enough
      ∙ ap (λ o. Arrives (address_in o 0)) (sym (ends_in level p e (r.write && writable e) (r.user && user e) l (page_low level e page))
      ∙ on_end T p level r.write r.user frame e is l here (page_ends level e page) ∙ walks)

  word_allowed : (n frame : ℕ) (r : Rights) (w : Walked)
      → (below : (f : ℕ) (s : Rights) → MayArrive n f s w → access_on c T p a n f s ≡ Arrives w.address)
      → MayArrive (suc n) frame r w → access_on c T p a (suc n) frame r ≡ Arrives w.address
  word_allowed n frame r w below (walks, all_sound, enough) = by_word (read T frame (index (suc n) p)) refl
    where
      less : suc n - 1 ≡ n
      less = omega arith

      low : 1 ≤ suc n
      low = omega arith

      first_sound : (e : ℕ) → Some e ≡ read T frame (index (suc n) p) → reserved c (suc n) e ≡ false
      first_sound e is = all_sound (record { level = suc n; frame = frame; index = index (suc n) p; word = e })
          (subst (λ steps. In steps (record { level = suc n; frame = frame; index = index (suc n) p; word = e })) (sym (steps_first c T p a (suc n) frame e low is)) (inl refl))

      by_page : (e : ℕ) → Some e ≡ read T frame (index (suc n) p) → present e ≡ true
          → (b : Bool) → maps_page (suc n) e ≡ b → access_on c T p a (suc n) frame r ≡ Arrives w.address
      by_page e is here true page = page_allowed (suc n) frame r e w low is here (first_sound e is) page walks
          (sym (ap (access_allowed c a) (ap (λ steps. both r (rights_of (step_words steps))) (steps_page c T p a (suc n) frame r e low is page)
          ∙ both_last r e)) ∙ enough)
      by_page e is here false table =
          let sound = first_sound e is in
          let small : huge e ≡ false = not_huge c (suc n) e low sound table in
          let more : 1 < suc n = table_high (suc n) e low table in
          let both_sound : (present e && not (reserved c (suc n) e)) ≡ true = rw (here, sound) refl in
          let steps = steps_on c T p a (suc n) frame e low is both_sound table
          ∙ ap (λ k. record { level = suc n; frame = frame; index = index (suc n) p; word = e } ∷ steps_from c T p k (address e)) less in
          sym (to_table c T p a (suc n) frame r e low is here sound table)
          ∙ ap (λ k. access_on c T p a k (address e) (granted r e)) less
          ∙ below (address e) (granted r e) (
            ap (λ k. walk_on T p k (r.write && writable e) (r.user && user e) (address e)) (sym less) ∙ on_table T p (suc n) r.write r.user frame e is more here small ∙ walks,
            (λ s member. all_sound s (subst (λ list. In list s) (sym steps) (inr member))),
            sym (ap (access_allowed c a) (ap (λ list. both r (rights_of (step_words list))) steps ∙ both_more r e (step_words (steps_from c T p n (address e))))) ∙ enough,
          )

      by_present : (e : ℕ) → Some e ≡ read T frame (index (suc n) p) → (b : Bool) → present e ≡ b
          → access_on c T p a (suc n) frame r ≡ Arrives w.address
      by_present e is true here = by_page e is here (maps_page (suc n) e) refl
      by_present e is false absent = absurd (true≢false (sym (ap is_some (on_absent T p (suc n) r.write r.user frame e is low absent ∙ walks))))

      by_word : (o : Option ℕ) → read T frame (index (suc n) p) ≡ o → access_on c T p a (suc n) frame r ≡ Arrives w.address
      by_word None is = absurd (true≢false (sym (ap is_some (walk_none T p (suc n) r.write r.user frame low (sym is) ∙ walks))))
      by_word (Some e) is = by_present e (sym is) (present e) refl

  walks_allowed : (level frame : ℕ) (r : Rights) (w : Walked) → MayArrive level frame r w → access_on c T p a level frame r ≡ Arrives w.address
  walks_allowed zero frame r w (walks, sound, enough) = absurd (true≢false (sym (ap is_some (zero_walk T p r.write r.user frame ∙ walks))))
  walks_allowed (suc n) frame r w may = word_allowed n frame r w (λ f s h. walks_allowed n f s w h) may

pub arrive_where_walks_do : ArriveWhereWalksDo
unfolding page_walk
arrive_where_walks_do L c T root p a to arrives =
    arrives_walks c T p a L root (record { write = true; user = true; execute = true }) to (sym (on_root c T p a L root) ∙ arrives)

pub walks_allowed_arrive : WalksAllowedArrive
unfolding page_walk
walks_allowed_arrive L c T root p a w walks sound enough =
    on_root c T p a L root ∙ walks_allowed c T p a L root (record { write = true; user = true; execute = true }) w (walks, sound, enough)
