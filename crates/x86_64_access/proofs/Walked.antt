-- One word of the walk of an access, for code that has the level as a number.
use Rattle.std.proofs.Common.{le-leb, ltb-true, nat_lt, zero, suc, ⊎_elim, inl, inr, ◌⊎◌, ◌≡◌, ◌<◌, ◌≤◌, ◌+◌, ◌-◌, ◌%◌, ◌^◌, ℕ, ◌&&◌, Bool, true≢false, true, false, not, ◌||◌, ◌==◌, nat_le, bit_and, cond, List, [], ◌∷◌, map, Some, None, Option, option_map, unwrap_or, refl, sym, ap, ◌∙◌, arith}
use Rattle.std.specs.List.{last_or}
use Rattle.x86_64_model.specs.Entry.{present, huge, global, no_execute, address}
use Rattle.x86_64_model.specs.Mappings.{Rights, rights_of, maps_page, granted}
use Rattle.x86_64_model.specs.Memory.{Memory, Places, Words}
use Rattle.x86_64_model.specs.PageWalk.{read, page_start}
use Rattle.x86_64_model.specs.Position.{index, span}
use Rattle.x86_64_model.proofs.Lemmas.Entries.Words.{address_within}
use Rattle.x86_64_model.proofs.Lemmas.Mappings.Along.{both_last, both_more}
use Rattle.x86_64_model.specs.Access.{Access, Kind, Controls, set_bits, bits_to_set, marked, Outcome, NoMemory, steps_from, until, ends_at, ends_by, reserved, low_bits, access_allowed, code, Arrives, Faults, access}
use Rattle.x86_64_access.proofs.Deciding.{both_left, both_right}
use Rattle.x86_64_access.proofs.ReservedBySome.{low_none, page_none, table_none}
use Rattle.x86_64_model.specs.Steps.{Step, leads_on, steps}
use Rattle.x86_64_access.specs.Paths.{step_words}
use Rattle.x86_64_access.specs.private.Walking.{access_on, may_read_on, reads_on, ArrivesFrom}
use Rattle.x86_64_tables.specs.Rights.{both}
use Rattle.std.specs.Int.Bits.{and_zero_r}
use Rattle.std.proofs.Math.Bool.{and-false}
use Rattle.std.proofs.lemmas.Bool.{eqb-true, eqb-false, lt-leb}

-- ---- which words map pages, and which name tables

one_of : (a h b c : Bool) → (a || (h && (b || c))) ≡ true → (a ≡ true) ⊎ ((b ≡ true) ⊎ (c ≡ true))
one_of true h b c t = inl refl
one_of false h true c t = inr (inl refl)
one_of false h false true t = inr (inr refl)
one_of false true false false t = absurd (true≢false (sym t))
one_of false false false false t = absurd (true≢false (sym t))

pub or_left : (a b : Bool) → (a || b) ≡ false → a ≡ false
or_left false b h = refl
or_left true b h = absurd (true≢false h)

pub or_right : (a b : Bool) → (a || b) ≡ false → b ≡ false
or_right false b h = h
or_right true b h = absurd (true≢false h)

pub table_high : (level e : ℕ) → 1 ≤ level → maps_page level e ≡ false → 1 < level
table_high level e low table = omega (arith, low, eqb-false level 1 (or_left (level == 1) (huge e && ((level == 2) || (level == 3))) table))

high_huge : (level e : ℕ) → 1 ≤ level → maps_page level e ≡ false → huge e ≡ true → nat_le 4 level ≡ true
high_huge level e low table large =
    let both : ((level == 2) || (level == 3)) ≡ false = sym (ap (λ h. h && ((level == 2) || (level == 3))) large) ∙ or_right (level == 1) (huge e && ((level == 2) || (level == 3))) table in
    le-leb 4 level (omega (arith, table_high level e low table, eqb-false level 2 (or_left (level == 2) (level == 3) both), eqb-false level 3 (or_right (level == 2) (level == 3) both)))

-- a word without reserved bits that maps no page isn't huge
pub not_huge : (c : Controls) (level e : ℕ) → 1 ≤ level → reserved c level e ≡ false → maps_page level e ≡ false → huge e ≡ false
unfolding reserved
not_huge c level e low sound table = by (huge e) refl
  where
    by : (b : Bool) → huge e ≡ b → b ≡ false
    by false small = refl
    by true large =
        let misplaced : (huge e && (nat_le 4 level || not (bit_and e (low_bits level) == 0))) ≡ false = or_right _ _ (or_left _ _ sound) in
        absurd (true≢false (sym (high_huge level e low table large)
        ∙ or_left _ _ (sym (ap (λ b. b && (nat_le 4 level || not (bit_and e (low_bits level) == 0))) large) ∙ misplaced)))

-- that is where the page walk does, unless a reserved bit is set
reads_is : (c : Controls) (level e : ℕ) → 1 ≤ level → (leads_on level e && not (reserved c level e)) ≡ reads_on c level e
reads_is c level e low = by (present e) (maps_page level e) (huge e) (reserved c level e) (λ sound table. not_huge c level e low sound table)
  where
    by : (p m h r : Bool) → (r ≡ false → m ≡ false → h ≡ false) → ((p && not m && not h) && not r) ≡ (p && not r && not m)
    by false m h r small = refl
    by true true h true small = refl
    by true true h false small = refl
    by true false true true small = refl
    by true false true false small = absurd (true≢false (small refl refl))
    by true false false true small = refl
    by true false false false small = refl

-- ---- the words that are read

abbrev pub step_at : (p level frame word : ℕ) → Step
step_at p level frame e = record { level = level; frame = frame; index = index level p; word = e }

-- the steps from a word on, up to the first that has a reserved bit
pub reads_first : (c : Controls) (p level frame e : ℕ) (below : List Step) → 1 ≤ level
    → until (λ s. reserved c s.level s.word) (step_at p level frame e ∷ cond (leads_on level e) below [])
    ≡ step_at p level frame e ∷ cond (reads_on c level e) (until (λ s. reserved c s.level s.word) below) []
reads_first c p level frame e below l = ap (λ rest. step_at p level frame e ∷ rest)
    (each (reserved c level e) (leads_on level e) ∙ ap (λ b. cond b (until bad below) []) (reads_is c level e l))
  where
    bad : Step → Bool
    bad s = reserved c s.level s.word

    each : (r b : Bool) → cond r [] (until bad (cond b below [])) ≡ cond (b && not r) (until bad below) []
    each true true = refl
    each true false = refl
    each false true = refl
    each false false = refl

-- the steps by the word that is read
steps_read : Controls → Words → (p level frame : ℕ) → Option ℕ → List Step
steps_read c T p level frame word = unwrap_or (option_map
    (λ e. step_at p level frame e ∷ cond (reads_on c level e) (steps_from c T p (level - 1) (address e)) []) word) []

steps_are : (c : Controls) (T : Words) (p level frame : ℕ) → 1 ≤ level → steps_from c T p level frame ≡ steps_read c T p level frame (read T frame (index level p))
unfolding steps_from steps steps_read
steps_are c T p zero frame l = absurd (omega arith)
steps_are c T p (suc n) frame l = by (read T frame (index (suc n) p)) ∙ ap (λ k. read_to k (read T frame (index (suc n) p))) less
  where
    less : n ≡ suc n - 1
    less = omega arith

    read_to : ℕ → Option ℕ → List Step
    read_to k word = unwrap_or (option_map
        (λ e. step_at p (suc n) frame e ∷ cond (reads_on c (suc n) e) (until (λ s. reserved c s.level s.word) (steps T p k (address e))) []) word) []

    by : (o : Option ℕ) → until (λ s. reserved c s.level s.word) (unwrap_or (option_map
        (λ e. step_at p (suc n) frame e ∷ cond (leads_on (suc n) e) (steps T p n (address e)) []) o) []) ≡ read_to n o
    by None = refl
    by (Some e) = reads_first c p (suc n) frame e (steps T p n (address e)) l

-- the outcome of steps
abbrev pub comes_of : Controls → Access → (p : ℕ) → Rights → (frame : ℕ) → List Step → Outcome
comes_of c a p r frame steps = ends_by c a p (both r (rights_of (map (λ s. s.word) steps))) frame (last_or None steps)

on_is : (c : Controls) (T : Words) (p : ℕ) (a : Access) (level frame : ℕ) (r : Rights) → access_on c T p a level frame r ≡ comes_of c a p r frame (steps_from c T p level frame)
unfolding access_on
on_is c T p a level frame r = refl

pub on_root : (c : Controls) (T : Words) (p : ℕ) (a : Access) (level root : ℕ)
    → access level c T root p a ≡ access_on c T p a level root (record { write = true; user = true; execute = true })
unfolding access access_on
on_root c T p a level root = refl

pub on_zero : (c : Controls) (T : Words) (p : ℕ) (a : Access) (frame : ℕ) (r : Rights) → NoMemory frame ≡ access_on c T p a 0 frame r
unfolding access_on steps_from steps
on_zero c T p a frame r = refl

pub on_none : (c : Controls) (T : Words) (p : ℕ) (a : Access) (level frame : ℕ) (r : Rights) → 1 ≤ level → None ≡ read T frame (index level p)
    → NoMemory frame ≡ access_on c T p a level frame r
unfolding steps_read
on_none c T p a level frame r l is = sym (on_is c T p a level frame r
    ∙ ap (comes_of c a p r frame) (steps_are c T p level frame l ∙ ap (steps_read c T p level frame) (sym is)))

pub and_left : (b d : Bool) → (b && not d) ≡ true → b ≡ true
and_left true d h = refl
and_left false d h = h

pub and_right : (b d : Bool) → (b && not d) ≡ true → d ≡ false
and_right true false h = refl
and_right true true h = absurd (true≢false (sym h))
and_right false d h = absurd (true≢false (sym h))

abbrev pub is_arrival : Outcome → Bool
is_arrival (Arrives to) = true
is_arrival outcome = false

-- ---- rights

-- the last step decides, whatever frame the walk began with
pub at_last : (c : Controls) (a : Access) (p : ℕ) (r : Rights) (frame other : ℕ) (s : Step) (steps : List Step)
    → ends_by c a p r frame (last_or (Some s) steps) ≡ ends_by c a p r other (last_or (Some s) steps)
at_last c a p r frame other s [] = refl
at_last c a p r frame other s (t ∷ steps) = at_last c a p r frame other t steps

-- ---- by the word at which the processor reads no further

-- it maps a page, and the rights suffice
pub ends_arriving : (c : Controls) (a : Access) (p : ℕ) (r : Rights) (s : Step) → present s.word ≡ true → reserved c s.level s.word ≡ false → maps_page s.level s.word ≡ true
    → access_allowed c a r ≡ true → Arrives (page_start s.level s.word + p % span s.level) ≡ ends_at c a p r s
ends_arriving c a p r s here sound page may = rw (here, sound, page, may) refl

-- in the table of a page's word the processor reads nothing
pub page_reads : (c : Controls) (level e : ℕ) → maps_page level e ≡ true → reads_on c level e ≡ false
page_reads c level e page = rw page (and-false (present e && not (reserved c level e)))

-- ---- by the first of the steps

-- steps from a word on, of which there are more if the processor reads on
module _ (c : Controls) (p : ℕ) (a : Access) (level frame : ℕ) (r : Rights) (e : ℕ) (below whole : List Step)
    (are : whole ≡ step_at p level frame e ∷ cond (reads_on c level e) below []) where
  to_first : comes_of c a p r frame whole ≡ comes_of c a p r frame (step_at p level frame e ∷ cond (reads_on c level e) below [])
  to_first = ap (comes_of c a p r frame) are

  -- they end at the word
  pub first_ends : reads_on c level e ≡ false → ends_at c a p (granted r e) (step_at p level frame e) ≡ comes_of c a p r frame whole
  first_ends h = sym (to_first ∙ ap (λ b. comes_of c a p r frame (step_at p level frame e ∷ cond b below [])) h
      ∙ ap (λ s. ends_at c a p s (step_at p level frame e)) (both_last r e))

  -- where the steps from the table below lead, if there are any
  after : (steps : List Step) → ends_at c a p (both r (rights_of (e ∷ []))) (step_at p level frame e) ≡ NoMemory (address e)
      → comes_of c a p r frame (step_at p level frame e ∷ steps) ≡ comes_of c a p (granted r e) (address e) steps
  after [] gone = gone
  after (s ∷ steps) gone = ap (λ k. ends_by c a p k frame (last_or (Some s) steps)) (both_more r e (s.word ∷ step_words steps))
      ∙ at_last c a p (both (granted r e) (rights_of (s.word ∷ step_words steps))) frame (address e) s steps

  -- they go on in the table that the word names
  pub first_leads : present e ≡ true → reserved c level e ≡ false → maps_page level e ≡ false
      → comes_of c a p (granted r e) (address e) below ≡ comes_of c a p r frame whole
  first_leads here sound table =
      sym (to_first ∙ ap (λ b. comes_of c a p r frame (step_at p level frame e ∷ cond b below [])) goes_on ∙ after below gone)
    where
      goes_on : reads_on c level e ≡ true
      goes_on = rw (here, sound, table) refl

      gone : ends_at c a p (both r (rights_of (e ∷ []))) (step_at p level frame e) ≡ NoMemory (address e)
      gone = rw (here, sound, table) refl

-- ---- by the word that is read

module _ (c : Controls) (T : Words) (p : ℕ) (a : Access) (level frame : ℕ) (r : Rights) (e : ℕ) (l : 1 ≤ level) (is : Some e ≡ read T frame (index level p)) where
  abbrev step : Step
  step = step_at p level frame e

  abbrev below : List Step
  below = steps_from c T p (level - 1) (address e)

  are : steps_from c T p level frame ≡ step ∷ cond (reads_on c level e) below []
  unfolding steps_read
  are = steps_are c T p level frame l ∙ ap (steps_read c T p level frame) (sym is)

  -- the walk ends at the word
  pub on_end : reads_on c level e ≡ false → ends_at c a p (granted r e) step ≡ access_on c T p a level frame r
  on_end h = first_ends c p a level frame r e below (steps_from c T p level frame) are h ∙ sym (on_is c T p a level frame r)

  -- the walk goes on in the table that the word names
  pub on_table : present e ≡ true → reserved c level e ≡ false → maps_page level e ≡ false
      → access_on c T p a (level - 1) (address e) (granted r e) ≡ access_on c T p a level frame r
  on_table here sound table = on_is c T p a (level - 1) (address e) (granted r e)
      ∙ first_leads c p a level frame r e below (steps_from c T p level frame) are here sound table ∙ sym (on_is c T p a level frame r)

  -- the word is absent or has a reserved bit
  pub on_fault : (present e && not (reserved c level e)) ≡ false → Faults (code c a (present e) (present e)) level ≡ access_on c T p a level frame r
  on_fault bad = faults (present e) (reserved c level e) bad ∙ on_end (rw bad refl)
    where
      faults : (here odd : Bool) → (here && not odd) ≡ false → Faults (code c a here here) level
          ≡ cond (not here) (Faults (code c a false false) level) (cond odd (Faults (code c a true true) level)
          (cond (not (maps_page level e)) (NoMemory (address e)) (cond (not (access_allowed c a (granted r e))) (Faults (code c a true false) level)
          (Arrives (page_start level e + p % span level)))))
      faults false odd h = refl
      faults true true h = refl
      faults true false h = absurd (true≢false h)

  -- the word maps a page
  pub on_page : present e ≡ true → reserved c level e ≡ false → maps_page level e ≡ true
      → cond (not (access_allowed c a (granted r e))) (Faults (code c a true false) level) (Arrives (page_start level e + p % span level)) ≡ access_on c T p a level frame r
  on_page here sound page = arrives ∙ on_end (rw (here, sound, page) refl)
    where
      arrives : cond (not (access_allowed c a (granted r e))) (Faults (code c a true false) level) (Arrives (page_start level e + p % span level)) ≡ ends_at c a p (granted r e) step
      arrives = rw (here, sound, page) refl

  -- the steps end at a page
  pub steps_page : maps_page level e ≡ true → steps_from c T p level frame ≡ step ∷ []
  unfolding steps_read
  steps_page page =
      let ends : reads_on c level e ≡ false = page_reads c level e page in
      steps_are c T p level frame l ∙ ap (steps_read c T p level frame) (sym is) ∙ ap (λ b. step ∷ cond b below []) ends

-- otherwise they go on in the table that the word names
module _ (c : Controls) (T : Words) (p : ℕ) (a : Access) (level frame : ℕ) (e : ℕ) (l : 1 ≤ level) (is : Some e ≡ read T frame (index level p)) where
  abbrev first : Step
  first = record { level = level; frame = frame; index = index level p; word = e }

  pub sound_arrives : ArrivesFrom c T p a level frame → (b : Bool) → (present e && not (reserved c level e)) ≡ b → b ≡ true
  sound_arrives there true h = refl
  sound_arrives (r, to, arrives) false h = absurd (true≢false (sym (ap is_arrival (on_fault c T p a level frame r e l is h ∙ arrives))))

  -- the first step is at the word
  pub steps_first : steps_from c T p level frame ≡ first ∷ cond (reads_on c level e) (steps_from c T p (level - 1) (address e)) []
  unfolding steps_read
  steps_first = steps_are c T p level frame l ∙ ap (steps_read c T p level frame) (sym is)

  pub steps_on : (present e && not (reserved c level e)) ≡ true → maps_page level e ≡ false
      → steps_from c T p level frame ≡ first ∷ steps_from c T p (level - 1) (address e)
  steps_on sound table =
      let on : reads_on c level e ≡ true = rw (sound, table) refl in
      steps_first ∙ ap (λ b. first ∷ cond b (steps_from c T p (level - 1) (address e)) []) on

  pub steps_table : ArrivesFrom c T p a level frame → maps_page level e ≡ false
      → steps_from c T p level frame ≡ first ∷ steps_from c T p (level - 1) (address e)
  steps_table there table = steps_on (sound_arrives there (present e && not (reserved c level e)) refl) table

  pub arrives_below : ArrivesFrom c T p a level frame → maps_page level e ≡ false → ArrivesFrom c T p a (level - 1) (address e)
  arrives_below (r, to, arrives) table =
      let sound : (present e && not (reserved c level e)) ≡ true = sound_arrives (r, to, arrives) (present e && not (reserved c level e)) refl in
      (granted r e, to, on_table c T p a level frame r e l is (and_left (present e) (reserved c level e) sound) (and_right (present e) (reserved c level e) sound) table ∙ arrives)

  module _ (places : Places) (kind : Kind) (m n : Memory) where
    -- the memory after a page's entry is marked
    pub marks_page : maps_page level e ≡ true → n ≡ set_bits places frame (index level p) (bits_to_set kind level e) m
        → n ≡ marked places kind (steps_from c T p level frame) m
    unfolding marked
    marks_page page set = set ∙ ap (λ steps. marked places kind steps m)
        (sym (steps_page c T p a level frame (record { write = true; user = true; execute = true }) e l is page))

    -- the memory after an entry is marked that names a table, after those below it
    pub marks_table : (lower : Memory) → ArrivesFrom c T p a level frame → maps_page level e ≡ false
        → lower ≡ marked places kind (steps_from c T p (level - 1) (address e)) m
        → n ≡ set_bits places frame (index level p) (bits_to_set kind level e) lower → n ≡ marked places kind (steps_from c T p level frame) m
    unfolding marked
    marks_table lower there table under set = set ∙ ap (set_bits places frame (index level p) (bits_to_set kind level e)) under
        ∙ ap (λ steps. marked places kind steps m) (sym (steps_table there table))

pub none_arrives : (c : Controls) (T : Words) (p : ℕ) (a : Access) (level frame : ℕ) → 1 ≤ level → ArrivesFrom c T p a level frame
    → None ≡ read T frame (index level p) → ⊥
none_arrives c T p a level frame l (r, to, arrives) is = true≢false (sym (ap is_arrival (on_none c T p a level frame r l is ∙ arrives)))

-- ---- which words name tables that are read

plain_sound : (p h lt le nx x bad : Bool) → (lt ≡ true → le ≡ false) → (p && (not h && (lt && (nx || not x)))) ≡ true
    → (p ≡ true) × (((le || (h && bad)) || (x && not nx)) ≡ false)
plain_sound false h lt le nx x bad f t = absurd (true≢false (sym t))
plain_sound true true lt le nx x bad f t = absurd (true≢false (sym t))
plain_sound true false false le nx x bad f t = absurd (true≢false (sym t))
plain_sound true false true true nx x bad f t = absurd (true≢false (f refl))
plain_sound true false true false true true bad f t = (refl, refl)
plain_sound true false true false true false bad f t = (refl, refl)
plain_sound true false true false false true bad f t = absurd (true≢false (sym t))
plain_sound true false true false false false bad f t = (refl, refl)

pub read_not_huge : (c : Controls) (e : ℕ) → may_read_on c e ≡ true → huge e ≡ false
unfolding may_read_on
read_not_huge c e on = by (present e) (huge e) (nat_lt (address e) (2 ^ c.physical_bits) && (c.no_execute || not (no_execute e))) (both_left _ (not (c.global_reserved && global e)) on)
  where
    by : (p h rest : Bool) → (p && (not h && rest)) ≡ true → h ≡ false
    by true false rest t = refl
    by true true rest t = absurd (true≢false (sym t))
    by false h rest t = absurd (true≢false (sym t))

pub reads_sound : (c : Controls) (level e : ℕ) → may_read_on c e ≡ true → (present e ≡ true) × (reserved c level e ≡ false)
unfolding may_read_on reserved
reads_sound c level e on =
    let bad = nat_le 4 level || not (bit_and e (low_bits level) == 0) in
    let rest = present e && (not (huge e) && (nat_lt (address e) (2 ^ c.physical_bits) && (c.no_execute || not (no_execute e)))) in
    let plain = plain_sound (present e) (huge e) (nat_lt (address e) (2 ^ c.physical_bits)) (nat_le (2 ^ c.physical_bits) (address e)) c.no_execute (no_execute e) bad
    (λ t. lt-leb (2 ^ c.physical_bits) (address e) (ltb-true (address e) (2 ^ c.physical_bits) t)) (and_left rest (c.global_reserved && global e) on) in
    let none = table_none c level e (read_not_huge c e on) (and_right rest (c.global_reserved && global e) on) in (
      plain.0,
      ap (λ s. ((s || nat_le (2 ^ c.physical_bits) (address e)) || (huge e && bad)) || (no_execute e && not c.no_execute)) none ∙ plain.1,
    )

pub no_page : (a h b : Bool) → a ≡ false → h ≡ false → (a || (h && b)) ≡ false
no_page false false b n m = refl
no_page true h b n m = absurd (true≢false n)
no_page false true b n m = absurd (true≢false m)

-- above level one the processor reads on by a word that lets it do so at any level
pub read_on : (c : Controls) (level e : ℕ) → (level == 1) ≡ false → may_read_on c e ≡ true → reads_on c level e ≡ true
read_on c level e other on =
    let sound = reads_sound c level e on in
    let table : maps_page level e ≡ false = no_page (level == 1) (huge e) ((level == 2) || (level == 3)) other (read_not_huge c e on) in
    rw (sound.0, sound.1, table) refl

-- a word after which the processor reads on
pub table_sound : (c : Controls) (level e : ℕ) → reads_on c level e ≡ true → (present e ≡ true) × (reserved c level e ≡ false) × (maps_page level e ≡ false)
table_sound c level e on =
    let sound = and_left (present e && not (reserved c level e)) (maps_page level e) on in
    (and_left (present e) (reserved c level e) sound, and_right (present e) (reserved c level e) sound, and_right (present e && not (reserved c level e)) (maps_page level e) on)

-- a word that maps a page, and that the processor accepts
accepted_by : (le h high low nx x : Bool) → high ≡ false → low ≡ true → ((le || (h && false)) || (x && not nx)) ≡ false → ((le || (h && (high || not low))) || (x && not nx)) ≡ false
accepted_by le h false true nx x f t sound = sound
accepted_by le h true low nx x f t sound = absurd (true≢false f)
accepted_by le h false false nx x f t sound = absurd (true≢false (sym t))

-- a page's word without low bits has a reserved bit only if it has one at level one, or if there are no pages of its size
pub low_sound : (c : Controls) (level e : ℕ) → level ≤ 3 → (bit_and e (low_bits level) == 0) ≡ true → ((level == 3) && c.no_1gib_pages) ≡ false
    → reserved c 1 e ≡ false → reserved c level e ≡ false
unfolding reserved
low_sound c level e below low there sound =
    ap (λ s. ((s || nat_le (2 ^ c.physical_bits) (address e)) || (huge e && (nat_le 4 level || not (bit_and e (low_bits level) == 0)))) || (no_execute e && not c.no_execute))
    (page_none c level e below there)
    ∙ accepted_by (nat_le (2 ^ c.physical_bits) (address e)) (huge e) (nat_le 4 level) (bit_and e (low_bits level) == 0) c.no_execute (no_execute e)
    (lt-leb 4 level (omega (arith, below))) low
    (ap (λ z. (nat_le (2 ^ c.physical_bits) (address e) || (huge e && not (z == 0))) || (no_execute e && not c.no_execute)) (sym (and_zero_r e))
    ∙ ap (λ s. ((s || nat_le (2 ^ c.physical_bits) (address e)) || (huge e && not (bit_and e 0 == 0))) || (no_execute e && not c.no_execute)) (sym (low_none c 1 e refl refl))
    ∙ sound)

ends_of : (a h b : Bool) → (a || (h && b)) ≡ true → (a ≡ true) ⊎ (h ≡ true)
ends_of true h b t = inl refl
ends_of false true b t = inr refl
ends_of false false b t = absurd (true≢false (sym t))

-- a page is mapped at level one, or by HUGE_PAGE
pub page_ends : (level e : ℕ) → maps_page level e ≡ true → (level ≡ 1) ⊎ (huge e ≡ true)
page_ends level e page = ⊎_elim (λ one. inl (eqb-true level 1 one)) (λ large. inr large)
    (ends_of (level == 1) (huge e) ((level == 2) || (level == 3)) page)

pub page_low : (level e : ℕ) → maps_page level e ≡ true → level ≤ 3
page_low level e page = ⊎_elim
    (λ one. omega (arith, eqb-true level 1 one))
    (λ more. ⊎_elim (λ two. omega (arith, eqb-true level 2 two)) (λ three. omega (arith, eqb-true level 3 three)) more)
    (one_of (level == 1) (huge e) (level == 2) (level == 3) page)

-- a word that maps a page and that the processor accepts, by what a mask finds of it
pub accepted : (c : Controls) (level e : ℕ) (m n : Bool) → m ≡ (present e && not (reserved c 1 e)) → n ≡ c.no_1gib_pages
    → (m && ((level == 1) || ((maps_page level e && (bit_and e (low_bits level) == 0)) && not ((level == 3) && n)))) ≡ true
    → (present e ≡ true) × (reserved c level e ≡ false) × (maps_page level e ≡ true)
accepted c level e m n is lacks t = by (level == 1) refl
  where
    plain : Bool
    plain = maps_page level e && (bit_and e (low_bits level) == 0)

    none : Bool
    none = (level == 3) && n

    fits : Bool
    fits = plain && not none

    sound : (present e && not (reserved c 1 e)) ≡ true
    sound = sym is ∙ both_left m ((level == 1) || fits) t

    fine : reserved c 1 e ≡ false
    fine = and_right (present e) (reserved c 1 e) sound

    by : (b : Bool) → (level == 1) ≡ b → (present e ≡ true) × (reserved c level e ≡ false) × (maps_page level e ≡ true)
    by true one = (
      and_left (present e) (reserved c 1 e) sound,
      ap (λ k. reserved c k e) (eqb-true level 1 one) ∙ fine,
      ap (λ b. b || (huge e && ((level == 2) || (level == 3)))) one,
    )
    by false other =
        let large : fits ≡ true = ap (λ b. b || fits) (sym other) ∙ both_right m ((level == 1) || fits) t in
        let both : plain ≡ true = and_left plain none large in
        let page = both_left (maps_page level e) (bit_and e (low_bits level) == 0) both in (
          and_left (present e) (reserved c 1 e) sound,
          low_sound c level e (page_low level e page) (both_right (maps_page level e) (bit_and e (low_bits level) == 0) both) (ap (λ b. (level == 3) && b) (sym lacks) ∙ and_right plain none large) fine,
          page,
        )

-- an address in a page lies below 2^52
pub arrives_within : (e p level : ℕ) → 1 ≤ level → level ≤ 3 → page_start level e + p % span level < 2 ^ 52
arrives_within e p zero low high = absurd (omega arith)
arrives_within e p (suc zero) low high = omega (arith, address_within e)
arrives_within e p (suc (suc zero)) low high = omega (arith, address_within e)
arrives_within e p (suc (suc (suc zero))) low high = omega (arith, address_within e)
arrives_within e p (suc (suc (suc (suc n)))) low high = absurd (omega arith)
