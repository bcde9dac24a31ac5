-- Marks change no walk and no access.
use Rattle.std.proofs.Common.{zero, suc, inl, inr, ◌⊎◌, ◌≡◌, ◌<◌, ◌≤◌, ◌-◌, ◌+◌, ◌%◌, ◌/◌, ◌*◌, ℕ, ◌&&◌, ◌||◌, ◌==◌, List, ◌∷◌, Bool, true≢false, true, false, not, nat_le, cond, IsSome, Some, None, Option, option_map, bit_and, bit_or, get_or, refl, sym, ap, subst, subst₂, ◌↔◌, ◌≢◌, ⊎_elim, length, set, unwrap_or, lt-ltb, ◌∙◌, arith}
use Rattle.std.proofs.lemmas.Nat.{and_assoc, and_comm}
use Rattle.x86_64_model.proofs.Lemmas.Entries.Bits.{and_or_distrib, has_or, or_assoc, address_or}
use Rattle.x86_64_model.specs.Entry.{has, present, huge, writable, user, address}
use Rattle.x86_64_model.specs.Mappings.{Rights, maps_page, granted}
use Rattle.x86_64_model.specs.Memory.{IsMapping, Memory, Places, Words, set_word, word, word_in, words_of}
use Rattle.x86_64_model.specs.PageWalk.{Walked, arrives, page_start, page_walk, read, walk_on}
use Rattle.x86_64_model.specs.Position.{index, span}
use Rattle.x86_64_access.specs.Marks.{AreMarks, GetsMarks, OnlyMarks, MarkedWalksStay, AccessesStay, AccessesLeaveMarks}
use Rattle.x86_64_model.proofs.Lemmas.Caches.Walks.{read_or_zero}
use Rattle.x86_64_model.proofs.Lemmas.Walks.Walked.{index_small, read_there}
use Rattle.std.proofs.lemmas.Nat.{and_or_apart}
use Rattle.std.proofs.lemmas.Bool.{cases_eq, cases_lt}
use Rattle.std.proofs.Math.ListN.{get_or-eq_default}
use Rattle.std.specs.FinMap.{get, insert}
use Rattle.x86_64_model.proofs.Lemmas.Hierarchies.Held.{is_some-set, word-set_frame, word-set_index, word-set_same}
use Rattle.x86_64_model.proofs.Lemmas.Hierarchies.Memories.{covered, words_of-insert}
use Rattle.x86_64_model.proofs.Lemmas.Hierarchies.Unset.{is_some-unset}
use Rattle.x86_64_model.specs.Access.{Access, Arrives, Controls, Faults, Outcome, access_allowed, code, low_bits, reserved, set_bits, Kind, NoMemory, access, bits_to_set, is_write, marked as marks_left, memory_after, steps_from}
use Rattle.x86_64_access.specs.private.Walking.{access_on, ArrivesFrom}
use Rattle.x86_64_access.proofs.Walked.{and_left, and_right, arrives_below, is_arrival, none_arrives, sound_arrives, steps_page, steps_table, on_fault, on_none, on_page, on_root, on_table as to_table, on_zero}

-- ---- one word

apart : (bits mask : ℕ) → AreMarks bits → bit_and 0x60 mask ≡ 0 → bit_and bits mask ≡ 0
apart bits mask marks none = ap (λ b. bit_and b mask) (sym marks) ∙ and_assoc mask bits 0x60 ∙ ap (bit_and bits) none ∙ and_comm bits 0

pub same_has : (e g mask : ℕ) → GetsMarks e g → bit_and 0x60 mask ≡ 0 → has g mask ≡ has e mask
same_has e g mask (inl same) none = ap (λ w. has w mask) same
same_has e g mask (inr (here, bits, marks, is)) none = ap (λ w. has w mask) is ∙ has_or e bits mask (apart bits mask marks none)

no_address : (bits : ℕ) → AreMarks bits → address bits ≡ 0
unfolding address
no_address bits marks = apart bits 0x000f_ffff_ffff_f000 marks refl

pub same_address : (e g : ℕ) → GetsMarks e g → address g ≡ address e
same_address e g (inl same) = ap address same
same_address e g (inr (here, bits, marks, is)) = ap address is ∙ address_or e bits (no_address bits marks)

-- ---- walks

module _ (T U : Words) (p : ℕ) (marked : OnlyMarks T U) where
  walk_same : (n : ℕ) (w u : Bool) (f : ℕ) → walk_on U p n w u f ≡ walk_on T p n w u f
  unfolding walk_on has
  walk_same zero w u f = refl
  walk_same (suc zero) w u f =
      let i = index 1 p in
      let gets = marked.words f i in
      let arrive : ℕ → Option Walked = λ e. cond (present e) (arrives (address e + p % span 1) (w && writable e) (u && user e)) None in
      read_or_zero arrive U f i (index_small 1 p) refl
      ∙ rw (
        same_has (word T f i) (word U f i) 0x1 gets refl,
        same_has (word T f i) (word U f i) 0x2 gets refl,
        same_has (word T f i) (word U f i) 0x4 gets refl,
        same_address (word T f i) (word U f i) gets,
      ) refl
      ∙ sym (read_or_zero arrive T f i (index_small 1 p) refl)
  walk_same (suc (suc n)) w u f =
      let level = suc (suc n) in
      let i = index level p in
      let gets = marked.words f i in
      let on : Words → ℕ → Option Walked = λ V e. cond (present e)
      (cond (huge e) (cond (nat_le level 3) (arrives (page_start level e + p % span level) (w && writable e) (u && user e)) None)
      (walk_on V p (suc n) (w && writable e) (u && user e) (address e))) None in
      read_or_zero (on U) U f i (index_small level p) refl
      ∙ rw (
        same_has (word T f i) (word U f i) 0x1 gets refl,
        same_has (word T f i) (word U f i) 0x2 gets refl,
        same_has (word T f i) (word U f i) 0x4 gets refl,
        same_has (word T f i) (word U f i) 0x80 gets refl,
        same_address (word T f i) (word U f i) gets,
        walk_same (suc n) (w && writable (word T f i)) (u && user (word T f i)) (address (word T f i)),
      ) refl
      ∙ sym (read_or_zero (on T) T f i (index_small level p) refl)

pub walks_stay : MarkedWalksStay
unfolding page_walk
walks_stay L T U root p marked = walk_same T U p marked L true true root

-- ---- accesses

same_and : (e g mask : ℕ) → GetsMarks e g → bit_and 0x60 mask ≡ 0 → bit_and g mask ≡ bit_and e mask
same_and e g mask (inl same) none = ap (λ w. bit_and w mask) same
same_and e g mask (inr (here, bits, marks, is)) none = ap (λ w. bit_and w mask) is ∙ and_or_apart mask e bits (apart bits mask marks none)

low_apart : (level : ℕ) → bit_and 0x60 (low_bits level) ≡ 0
low_apart level = by (level == 3) (level == 2)
  where
    by : (x y : Bool) → bit_and 0x60 (cond x 0x3fff_e000 (cond y 0x001f_e000 0)) ≡ 0
    by true y = refl
    by false true = refl
    by false false = refl

same_reserved : (c : Controls) (level e g : ℕ) → GetsMarks e g → reserved c level g ≡ reserved c level e
unfolding reserved
same_reserved c level e g gets = rw (
  same_address e g gets,
  same_has e g 0x80 gets refl,
  same_has e g 0x100 gets refl,
  same_has e g 0x8000_0000_0000_0000 gets refl,
  same_and e g (low_bits level) gets (low_apart level),
) refl

same_page : (level e g : ℕ) → GetsMarks e g → maps_page level g ≡ maps_page level e
same_page level e g gets = ap (λ h. (level == 1) || (h && ((level == 2) || (level == 3)))) (same_has e g 0x80 gets refl)

same_granted : (r : Rights) (e g : ℕ) → GetsMarks e g → granted r g ≡ granted r e
same_granted r e g gets = rw (same_has e g 0x2 gets refl, same_has e g 0x4 gets refl, same_has e g 0x8000_0000_0000_0000 gets refl) refl

module _ (c : Controls) (T U : Words) (p : ℕ) (a : Access) (marked : OnlyMarks T U) where
  -- where an access arrives in a page, or faults for want of rights
  abbrev in_page : (level e : ℕ) → Rights → Outcome
  in_page level e r = cond (not (access_allowed c a r)) (Faults (code c a true false) level) (Arrives (page_start level e + p % span level))

  at_entry : (n f : ℕ) (r : Rights) (e g : ℕ) → Some e ≡ read T f (index (suc n) p) → Some g ≡ read U f (index (suc n) p) → GetsMarks e g
      → ((f : ℕ) (s : Rights) → access_on c U p a n f s ≡ access_on c T p a n f s)
      → access_on c U p a (suc n) f r ≡ access_on c T p a (suc n) f r
  at_entry n f r e g is is' gets below = by_sound (present e && not (reserved c (suc n) e)) refl
    where
      low : 1 ≤ suc n
      low = omega arith

      less : suc n - 1 ≡ n
      less = omega arith

      here : present g ≡ present e
      here = same_has e g 0x1 gets refl

      odd : reserved c (suc n) g ≡ reserved c (suc n) e
      odd = same_reserved c (suc n) e g gets

      both_sound : (present g && not (reserved c (suc n) g)) ≡ (present e && not (reserved c (suc n) e))
      both_sound = rw (here, odd) refl

      by_page : present e ≡ true → reserved c (suc n) e ≡ false → (b : Bool) → maps_page (suc n) e ≡ b
          → access_on c U p a (suc n) f r ≡ access_on c T p a (suc n) f r
      by_page there sound true page =
          sym (on_page c U p a (suc n) f r g low is' (here ∙ there) (odd ∙ sound) (same_page (suc n) e g gets ∙ page))
          ∙ (ap (in_page (suc n) g) (same_granted r e g gets)
          ∙ ap (λ x. cond (not (access_allowed c a (granted r e))) (Faults (code c a true false) (suc n)) (Arrives (x / span (suc n) * span (suc n) + p % span (suc n))))
          (same_address e g gets))
          ∙ on_page c T p a (suc n) f r e low is there sound page
      by_page there sound false table =
          sym (to_table c U p a (suc n) f r g low is' (here ∙ there) (odd ∙ sound) (same_page (suc n) e g gets ∙ table))
          ∙ (ap (λ k. access_on c U p a k (address g) (granted r g)) less
          ∙ ap (λ x. access_on c U p a n x (granted r g)) (same_address e g gets)
          ∙ ap (access_on c U p a n (address e)) (same_granted r e g gets)
          ∙ below (address e) (granted r e)
          ∙ ap (λ k. access_on c T p a k (address e) (granted r e)) (sym less))
          ∙ to_table c T p a (suc n) f r e low is there sound table

      by_sound : (b : Bool) → (present e && not (reserved c (suc n) e)) ≡ b → access_on c U p a (suc n) f r ≡ access_on c T p a (suc n) f r
      by_sound true sound = by_page (and_left (present e) (reserved c (suc n) e) sound) (and_right (present e) (reserved c (suc n) e) sound)
          (maps_page (suc n) e) refl
      by_sound false bad = sym (on_fault c U p a (suc n) f r g low is' (both_sound ∙ bad))
          ∙ ap (λ b. Faults (code c a b b) (suc n)) here ∙ on_fault c T p a (suc n) f r e low is bad

  at_frame : (n f : ℕ) (r : Rights) → ((f : ℕ) (s : Rights) → access_on c U p a n f s ≡ access_on c T p a n f s)
      → access_on c U p a (suc n) f r ≡ access_on c T p a (suc n) f r
  at_frame n f r below = by (T f) refl (U f) refl
    where
      i : ℕ
      i = index (suc n) p

      low : 1 ≤ suc n
      low = omega arith

      by : (t : Option (List ℕ)) → T f ≡ t → (u : Option (List ℕ)) → U f ≡ u → access_on c U p a (suc n) f r ≡ access_on c T p a (suc n) f r
      by None t None u = sym (on_none c U p a (suc n) f r low (sym (ap (option_map (λ words. get_or words (index (suc n) p) 0)) u)))
          ∙ on_none c T p a (suc n) f r low (sym (ap (option_map (λ words. get_or words (index (suc n) p) 0)) t))
      by (Some x) t (Some y) u = at_entry n f r (word T f i) (word U f i)
          (sym (read_there T f i (index_small (suc n) p) (subst IsSome (sym t) refl)))
          (sym (read_there U f i (index_small (suc n) p) (subst IsSome (sym u) refl))) (marked.words f i) below
      by None t (Some y) u = absurd (true≢false (sym (subst IsSome t ((marked.there f).0 (subst IsSome (sym u) refl)))))
      by (Some x) t None u = absurd (true≢false (sym (subst IsSome u ((marked.there f).1 (subst IsSome (sym t) refl)))))

  access_same : (level f : ℕ) (r : Rights) → access_on c U p a level f r ≡ access_on c T p a level f r
  access_same zero f r = sym (on_zero c U p a f r) ∙ on_zero c T p a f r
  access_same (suc n) f r = at_frame n f r (λ g s. access_same n g s)

pub accesses_stay : AccessesStay
accesses_stay L c T U root p a marked = on_root c U p a L root
    ∙ access_same c T U p a marked L root (record { write = true; user = true; execute = true }) ∙ sym (on_root c T p a L root)

-- ---- what an access leaves

none_marked : (T : Words) → OnlyMarks T T
none_marked T = record { there = λ f. (λ h. h, λ h. h); words = λ f i. inl refl }

marks_together : (b bits : ℕ) → AreMarks b → AreMarks bits → AreMarks (bit_or b bits)
marks_together b bits h k = and_or_distrib b bits 0x60 ∙ ap (λ x. bit_or x (bit_and bits 0x60)) h ∙ ap (bit_or b) k

more_marks : (e g bits : ℕ) → present e ≡ true → GetsMarks e g → AreMarks bits → GetsMarks e (bit_or g bits)
more_marks e g bits here (inl same) marks = inr (here, bits, marks, ap (λ x. bit_or x bits) same)
more_marks e g bits here (inr (there, b, m, is)) marks =
    inr (here, bit_or b bits, marks_together b bits m marks, ap (λ x. bit_or x bits) is ∙ or_assoc e b bits)

-- an index at which a table has a present word is one of its indices
within : (table : List ℕ) (i : ℕ) → present (get_or table i 0) ≡ true → i < length table
unfolding has
within table i here = ⊎_elim (λ less. less) (λ past. absurd (true≢false (sym here ∙ ap present (get_or-eq_default table 0 past)))) (cases_lt i (length table))

word_is : (T : Words) (f i : ℕ) (table : List ℕ) → i < 512 → T f ≡ Some table → word T f i ≡ get_or table i 0
unfolding word
word_is T f i table small is = ap (λ b. cond b (word_in (T f) i) 0) (lt-ltb i 512 small) ∙ ap (λ o. word_in o i) is

module _ (T : Words) (places : Places) (mapping : IsMapping places) (n : Memory) (only : OnlyMarks T (words_of n places)) (f i bits : ℕ)
    (marks : AreMarks bits) (small : i < 512) (here : present (word T f i) ≡ true) where
  abbrev U : Words
  U = words_of n places

  -- at a table that is there
  set_there : (table : List ℕ) → U f ≡ Some table → OnlyMarks T (words_of (set_bits places f i bits n) places)
  set_there table is = subst (OnlyMarks T) (sym written) (record { there = there; words = λ g j. at g j (cases_eq g f) (cases_eq j i) })
    where
      v : ℕ
      v = bit_or (get_or table i 0) bits

      is_covered : places.covers f ≡ true
      is_covered = covered n places f (subst IsSome (sym is) refl)

      got : get n (places.place f) ≡ Some table
      got = sym (ap (λ b. cond b (get n (places.place f)) None) is_covered) ∙ is

      written : words_of (set_bits places f i bits n) places ≡ set_word U f i v
      written = ap (λ o. words_of (unwrap_or (option_map (λ t. insert n (places.place f) (set t i (bit_or (get_or t i 0) bits))) o) n) places) got
          ∙ words_of-insert n places f i v table mapping.distinct is_covered got

      there : (g : ℕ) → IsSome (set_word U f i v g) ↔ IsSome (T g)
      there g = (λ h. (only.there g).0 (is_some-unset U f i v g h), λ h. is_some-set U f i v g ((only.there g).1 h))

      got_marks : GetsMarks (word T f i) (get_or table i 0)
      got_marks = subst (GetsMarks (word T f i)) (word_is U f i table small is) (only.words f i)

      long : i < length table
      long = within table i (same_has (word T f i) (get_or table i 0) 0x1 got_marks refl ∙ here)

      at : (g j : ℕ) → (g ≡ f) ⊎ (g ≢ f) → (j ≡ i) ⊎ (j ≢ i) → GetsMarks (word T g j) (word (set_word U f i v) g j)
      at g j (inr other) _ = subst (GetsMarks (word T g j)) (sym (word-set_frame U f i v g j other)) (only.words g j)
      at g j (inl same) (inr other) = subst (GetsMarks (word T g j)) (sym (word-set_index U f i v g j other)) (only.words g j)
      at g j (inl one) (inl two) = subst₂ (λ x y. GetsMarks (word T x y) (word (set_word U f i v) x y)) (sym one) (sym two)
          (subst (GetsMarks (word T f i)) (sym (word-set_same U f i v table is long small)) (more_marks (word T f i) (get_or table i 0) bits here got_marks marks))

  set_marks : IsSome (T f) → OnlyMarks T (words_of (set_bits places f i bits n) places)
  set_marks some = by (U f) refl ((only.there f).1 some)
    where
      by : (o : Option (List ℕ)) → U f ≡ o → IsSome (U f) → OnlyMarks T (words_of (set_bits places f i bits n) places)
      by None is h = absurd (true≢false (sym (subst IsSome is h)))
      by (Some table) is h = set_there table is

bits_are_marks : (kind : Kind) (level e : ℕ) → AreMarks (bits_to_set kind level e)
bits_are_marks kind level e = by (is_write kind && maps_page level e)
  where
    by : (b : Bool) → AreMarks (cond b 0x60 0x20)
    by true = refl
    by false = refl

module _ (c : Controls) (p : ℕ) (a : Access) (places : Places) (mapping : IsMapping places) (m : Memory) where
  abbrev T₀ : Words
  T₀ = words_of m places

  abbrev after : (level frame : ℕ) → Words
  after level frame = words_of (marks_left places a.kind (steps_from c T₀ p level frame) m) places

  at_table : (n frame : ℕ) → ArrivesFrom c T₀ p a (suc n) frame → ((f : ℕ) → ArrivesFrom c T₀ p a n f → OnlyMarks T₀ (after n f))
      → IsSome (T₀ frame) → OnlyMarks T₀ (after (suc n) frame)
  unfolding marks_left
  at_table n frame arrives below there = by (maps_page (suc n) e) refl
    where
      i : ℕ
      i = index (suc n) p

      e : ℕ
      e = word (words_of m places) frame (index (suc n) p)

      low : 1 ≤ suc n
      low = omega arith

      less : suc n - 1 ≡ n
      less = omega arith

      is : Some (word (words_of m places) frame (index (suc n) p)) ≡ read (words_of m places) frame (index (suc n) p)
      is = sym (read_there (words_of m places) frame (index (suc n) p) (index_small (suc n) p) there)

      here : present (word (words_of m places) frame (index (suc n) p)) ≡ true
      here = and_left _ _ (sound_arrives c (words_of m places) p a (suc n) frame (word (words_of m places) frame (index (suc n) p)) low is arrives _ refl)

      all : Rights
      all = record { write = true; user = true; execute = true }

      by : (b : Bool) → maps_page (suc n) (word (words_of m places) frame (index (suc n) p)) ≡ b → OnlyMarks T₀ (after (suc n) frame)
      by true page = subst (λ steps. OnlyMarks T₀ (words_of (marks_left places a.kind steps m) places))
          (sym (steps_page c T₀ p a (suc n) frame all e low is page))
          (set_marks T₀ places mapping m (none_marked T₀) frame i (bits_to_set a.kind (suc n) e) (bits_are_marks a.kind (suc n) e) (index_small (suc n) p) here there)
      by false table =
          let steps = steps_table c T₀ p a (suc n) frame e low is arrives table
          ∙ ap (λ k. record { level = suc n; frame = frame; index = index (suc n) p; word = e } ∷ steps_from c T₀ p k (address e)) less in
          let on = subst (λ k. ArrivesFrom c T₀ p a k (address e)) less (arrives_below c T₀ p a (suc n) frame e low is arrives table) in
          subst (λ steps. OnlyMarks T₀ (words_of (marks_left places a.kind steps m) places)) (sym steps)
          (set_marks T₀ places mapping (marks_left places a.kind (steps_from c T₀ p n (address e)) m) (below (address e) on) frame i
          (bits_to_set a.kind (suc n) e) (bits_are_marks a.kind (suc n) e) (index_small (suc n) p) here there)

  at_step : (n frame : ℕ) → ArrivesFrom c T₀ p a (suc n) frame → ((f : ℕ) → ArrivesFrom c T₀ p a n f → OnlyMarks T₀ (after n f))
      → OnlyMarks T₀ (after (suc n) frame)
  at_step n frame arrives below = by (T₀ frame) refl
    where
      by : (o : Option (List ℕ)) → words_of m places frame ≡ o → OnlyMarks T₀ (after (suc n) frame)
      by None is = absurd (none_arrives c T₀ p a (suc n) frame (omega arith) arrives
          (sym (ap (option_map (λ words. get_or words (index (suc n) p) 0)) is)))
      by (Some table) is = at_table n frame arrives below (subst IsSome (sym is) refl)

  leaves : (level frame : ℕ) → ArrivesFrom c T₀ p a level frame → OnlyMarks T₀ (after level frame)
  leaves zero frame (r, to, arrives) = absurd (true≢false (sym (ap is_arrival (on_zero c T₀ p a frame r ∙ arrives))))
  leaves (suc n) frame arrives = at_step n frame arrives (λ f h. leaves n f h)

pub accesses_leave_marks : AccessesLeaveMarks
accesses_leave_marks L c m places root p a mapping = by (access L c (words_of m places) root p a) refl
  where
    by : (o : Outcome) → access L c (words_of m places) root p a ≡ o
        → OnlyMarks (words_of m places) (words_of (memory_after places a.kind (steps_from c (words_of m places) p L root) o m) places)
    by (Arrives to) is = leaves c p a places mapping m L root
        (record { write = true; user = true; execute = true }, to, sym (on_root c (words_of m places) p a L root) ∙ is)
    by (Faults code level) is = none_marked (words_of m places)
    by (NoMemory frame) is = none_marked (words_of m places)
