-- First mappings of frames: what they are after one more mapping, and the first alias of a mapping by them.
use Rattle.std.proofs.Common.{◌≡◌, ◌∙◌, ◌+◌, ◌-◌, ◌%◌, ◌<◌, ◌≤◌, ◌==◌, ◌&&◌, ◌||◌, ◌++◌, ℕ, Bool, true, false, not, cond, nat_eq, nat_le, nat_lt, List, [], ◌∷◌, find, Option, None, Some, IfSome, option_map, option_and_then, refl, sym, ap, ap₂, subst, arith}
use Rattle.std.proofs.Math.Bool.{and-true, or-false}
use Rattle.std.proofs.Math.Nat.{mod-eq_of_lt}
use Rattle.std.proofs.lemmas.Bool.{and_from, and_parts, eq-eqb, eqb-true, false_from_ne_true, le-leb, le-ltb, leb-true, lt-ltb, ltb-false}
use Rattle.std.proofs.lemmas.List.Folds.{find-append}
use Rattle.std.specs.HashMap.{get}
use Rattle.std.specs.List.{AllByRecursion}
use Rattle.std.specs.Option.{option_or}
use Rattle.x86_64_mappings.specs.Kinds.{distinct, is_like}
use Rattle.x86_64_mappings.specs.Views.{frame_at, frame_at_frame}
use Rattle.x86_64_mappings.proofs.FirstOfKinds.{all_of_distinct, find_distinct, like_then}
use Rattle.x86_64_model.specs.Laws.Mappings.{InOrder}
use Rattle.x86_64_model.specs.Mappings.{Mapping, Rights}
use Rattle.x86_64_model.specs.Position.{position_count, raw}
use Rattle.x86_64_model.specs.Regions.{same_rights}
use Rattle.x86_64_model.proofs.Lemmas.Mappings.Regions.{same_rights_is}
use Rattle.x86_64_tables.specs.Translations.{frame_size, frame_start}
use Rattle.x86_64_tables.specs.declared.translation.MappedFrame.{MappedFrame}
use Rattle.x86_64_tables.specs.declared.translation.MappedFrame.TheVariants.{Size4KiB, Size2MiB, Size1GiB}
use Rattle.ptdump_check.specs.Aliases.{alias_in, aliased, contains, is_alias}
use Rattle.ptdump_check.specs.declared.first_mappings.FirstMappings.{FirstMappings}
use Rattle.ptdump_check.specs.declared.first_mappings.Firsts.{Firsts}
use Rattle.ptdump_check.specs.declared.findings.aliased.Aliased.{Aliased}
use Rattle.ptdump_check.specs.Aliasing.{alias_by, aliased_by, before, earlier, in_1gib, in_2mib, is_same_frame, is_other, frame_key, noted, other_in, AreOfAll, AreFirstsAfter, IsAligned, MapsAPage, MapsFrame, TakesFirsts}

-- ---- keys

same_key : (f g : MappedFrame) → IsAligned f → IsAligned g → frame_key f ≡ frame_key g → f ≡ g
same_key (Size4KiB s) (Size4KiB t) a b same = ap Size4KiB (let e : s ≡ t = omega (arith, same) in e)
same_key (Size4KiB s) (Size2MiB t) a b same = absurd (omega (arith, a, b, same))
same_key (Size4KiB s) (Size1GiB t) a b same = absurd (omega (arith, a, b, same))
same_key (Size2MiB s) (Size4KiB t) a b same = absurd (omega (arith, a, b, same))
same_key (Size2MiB s) (Size2MiB t) a b same = ap Size2MiB (let e : s ≡ t = omega (arith, same) in e)
same_key (Size2MiB s) (Size1GiB t) a b same = absurd (omega (arith, a, b, same))
same_key (Size1GiB s) (Size4KiB t) a b same = absurd (omega (arith, a, b, same))
same_key (Size1GiB s) (Size2MiB t) a b same = absurd (omega (arith, a, b, same))
same_key (Size1GiB s) (Size1GiB t) a b same = ap Size1GiB (let e : s ≡ t = omega (arith, same) in e)

-- a start and a size are those of one frame
is_frame_then : (f g : MappedFrame) → is_same_frame f (frame_start g) (frame_size g) ≡ true → f ≡ g
is_frame_then f g is =
    let parts = and_parts (frame_size g == frame_size f) (frame_start g == frame_start f) is in
    sym (frame_at_frame f)
    ∙ (λ i. frame_at (sym (eqb-true (frame_size g) (frame_size f) parts.0) i) (sym (eqb-true (frame_start g) (frame_start f) parts.1) i))
    ∙ frame_at_frame g

is_frame_itself : (f : MappedFrame) → is_same_frame f (frame_start f) (frame_size f) ≡ true
is_frame_itself f = and_from (frame_size f == frame_size f) (frame_start f == frame_start f) (eq-eqb (frame_size f) (frame_size f) refl) (eq-eqb (frame_start f) (frame_start f) refl)

-- ---- one more mapping

or_none : {X : Type 0} (o : Option X) → option_or o None ≡ o
or_none None = refl
or_none (Some x) = refl

unless : {X : Type 0} (b : Bool) (x : X) → cond b None (Some x) ≡ cond (not b) (Some x) None
unless true x = refl
unless false x = refl

module _ {X : Type 0} where
  other_noted : (r : Rights) (o : Option (Firsts X)) (m : Mapping)
      → other_in r (noted o m) ≡ option_or (option_and_then (other_in r) o) (cond (not (same_rights r m.rights)) (Some m) None)
  other_noted r None m = unless (same_rights r m.rights) m
  other_noted r (Some f) m = by (same_rights r f.first.rights) refl
    where
      by : (b : Bool) → same_rights r f.first.rights ≡ b
          → cond b (option_or f.other (cond (same_rights f.first.rights m.rights) None (Some m))) (Some f.first)
          ≡ option_or (cond b f.other (Some f.first)) (cond (not (same_rights r m.rights)) (Some m) None)
      by false is = refl
      by true is = ap (option_or f.other)
          (ap (λ s. cond (same_rights s m.rights) None (Some m)) (sym (same_rights_is r f.first.rights is)) ∙ unless (same_rights r m.rights) m)

  -- a mapping of a frame was noted
  pub takes_one : (old new : FirstMappings X) (m : Mapping) (frame : MappedFrame) → MapsFrame m frame
      → ((k : ℕ) → get nat_eq new.firsts k ≡ cond (nat_eq (frame_key frame) k) (Some (noted (get nat_eq old.firsts (frame_key frame)) m)) (get nat_eq old.firsts k))
      → TakesFirsts old new (m ∷ [])
  takes_one old new m frame leads puts ms after = record {
    pages = all_more ms after.pages;
    others = λ f aligned r. ap (option_and_then (other_in r)) (puts (frame_key f)) ∙ by f aligned r (nat_eq (frame_key frame) (frame_key f)) refl ∙ sym (find-append (is_other f r) ms (m ∷ []));
  }
    where
      all_more : (ms : List Mapping) → AllByRecursion MapsAPage ms → AllByRecursion MapsAPage (ms ++ m ∷ [])
      all_more [] h = ((frame, leads), tt)
      all_more (n ∷ ms) h = (h.0, all_more ms h.1)

      -- whether it leads to a frame
      is_at : (f : MappedFrame) → is_same_frame f m.frame m.size ≡ is_same_frame f (frame_start frame) (frame_size frame)
      is_at f = λ i. is_same_frame f (leads.start i) (leads.size i)

      here : (f : MappedFrame) → frame ≡ f → (r : Rights) → is_other f r m ≡ not (same_rights r m.rights)
      here f same r = ap (λ b. b && not (same_rights r m.rights)) (is_at f ∙ subst (λ g. is_same_frame g (frame_start frame) (frame_size frame) ≡ true) same (is_frame_itself frame))

      elsewhere : (f : MappedFrame) → nat_eq (frame_key frame) (frame_key f) ≡ false → (r : Rights) → is_other f r m ≡ false
      elsewhere f other r = ap (λ b. b && not (same_rights r m.rights)) (is_at f ∙ false_from_ne_true (is_same_frame f (frame_start frame) (frame_size frame))
          (λ is. absurd (let e : true ≡ false = sym (eq-eqb (frame_key frame) (frame_key f) (ap frame_key (sym (is_frame_then f frame is)))) ∙ other in cc)))

      by : (f : MappedFrame) → IsAligned f → (r : Rights) → (b : Bool) → nat_eq (frame_key frame) (frame_key f) ≡ b
          → option_and_then (other_in r) (cond b (Some (noted (get nat_eq old.firsts (frame_key frame)) m)) (get nat_eq old.firsts (frame_key f)))
          ≡ option_or (find (is_other f r) ms) (find (is_other f r) (m ∷ []))
      by f aligned r true is =
          let same : frame ≡ f = same_key frame f leads.aligned aligned (eqb-true (frame_key frame) (frame_key f) is) in
          other_noted r (get nat_eq old.firsts (frame_key frame)) m
          ∙ (λ i. option_or (option_and_then (other_in r) (get nat_eq old.firsts (frame_key (same i)))) (cond (sym (here f same r) i) (Some m) None))
          ∙ ap (λ o. option_or o (cond (is_other f r m) (Some m) None)) (after.others f aligned r)
      by f aligned r false is =
          after.others f aligned r ∙ sym (or_none (find (is_other f r) ms))
          ∙ ap (λ b. option_or (find (is_other f r) ms) (cond b (Some m) None)) (sym (elsewhere f is r))

  -- all mappings were noted if the first one of each kind was
  pub after_distinct : (firsts : FirstMappings X) (ms : List Mapping) → AreFirstsAfter firsts (distinct ms) → AreFirstsAfter firsts ms
  after_distinct firsts ms after = record {
    pages = all_of_distinct MapsAPage same_page ms after.pages;
    others = λ f aligned r. after.others f aligned r ∙ find_distinct (is_other f r) (same_other f r) ms;
  }
    where
      same_page : (m n : Mapping) → is_like m n ≡ true → MapsAPage m → MapsAPage n
      same_page m n like page =
          let same = like_then m n like in
          let leads = page.1 in (page.0, record { size = sym same.size ∙ leads.size; start = sym same.frame ∙ leads.start; aligned = leads.aligned })

      same_other : (f : MappedFrame) (r : Rights) (m n : Mapping) → is_like m n ≡ true → is_other f r m ≡ is_other f r n
      same_other f r m n like = let same = like_then m n like in λ i. is_same_frame f (same.frame i) (same.size i) && not (same_rights r (same.rights i))

-- ---- the first of mappings in order

abbrev Precedes : Mapping → Mapping → Type 0
Precedes m n = (m.start < n.start) × (m.start + m.size ≤ n.start)

found_all : (Q : Mapping → Type 0) (p : Mapping → Bool) (ms : List Mapping) → AllByRecursion Q ms → IfSome (find p ms) Q
found_all Q p [] h = tt
found_all Q p (m ∷ ms) h = elim (p m) as (λ b. IfSome (cond b (Some m) (find p ms)) Q) [ true ↦ h.0 | false ↦ found_all Q p ms h.1 ]

found_is : (p : Mapping → Bool) (ms : List Mapping) → IfSome (find p ms) (λ n. p n ≡ true)
found_is p [] = tt
found_is p (m ∷ ms) = by (p m) refl (found_is p ms)
  where
    by : (b : Bool) → p m ≡ b → IfSome (find p ms) (λ n. p n ≡ true) → IfSome (cond b (Some m) (find p ms)) (λ n. p n ≡ true)
    by true is rest = is
    by false is rest = rest

find_same : (p q : Mapping → Bool) (ms : List Mapping) → AllByRecursion (λ m. p m ≡ q m) ms → find p ms ≡ find q ms
find_same p q [] h = refl
find_same p q (m ∷ ms) h = ap₂ (λ b o. cond b (Some m) o) h.0 (find_same p q ms h.1)

-- the first mapping of two kinds
find_or : (p q : Mapping → Bool) (ms : List Mapping) → InOrder Precedes ms → find (λ n. p n || q n) ms ≡ earlier (find p ms) (find q ms)
find_or p q [] order = refl
find_or p q (m ∷ ms) order = by (p m) (q m) (find_or p q ms order.1)
  where
    first : (o : Option Mapping) → IfSome o (Precedes m) → Some m ≡ earlier (Some m) o
    first None after = refl
    first (Some n) after = ap (λ b. cond b (Some n) (Some m)) (sym (le-ltb n.start m.start (omega (arith, after.0))))

    second : (o : Option Mapping) → IfSome o (Precedes m) → Some m ≡ earlier o (Some m)
    second None after = refl
    second (Some n) after = ap (λ b. cond b (Some m) (Some n)) (sym (lt-ltb m.start n.start after.0))

    either : (b : Bool) → Some m ≡ cond b (Some m) (Some m)
    either true = refl
    either false = refl

    by : (a b : Bool) → find (λ n. p n || q n) ms ≡ earlier (find p ms) (find q ms)
        → cond (a || b) (Some m) (find (λ n. p n || q n) ms) ≡ earlier (cond a (Some m) (find p ms)) (cond b (Some m) (find q ms))
    by true true rest = either (nat_lt m.start m.start)
    by true false rest = first (find q ms) (found_all (Precedes m) q ms order.0)
    by false true rest = second (find p ms) (found_all (Precedes m) p ms order.0)
    by false false rest = rest

-- the first mapping of a kind, if it starts before a position
find_before : (p : Mapping → Bool) (position : ℕ) (ms : List Mapping) → InOrder Precedes ms → find (λ n. p n && nat_lt n.start position) ms ≡ before position (find p ms)
find_before p position [] order = refl
find_before p position (m ∷ ms) order = by (p m) (find_before p position ms order.1)
  where
    none : (ms : List Mapping) → AllByRecursion (Precedes m) ms → position ≤ m.start → find (λ n. p n && nat_lt n.start position) ms ≡ None
    none [] after late = refl
    none (n ∷ ms) after late = ap (λ b. cond b (Some n) (find (λ n. p n && nat_lt n.start position) ms)) (never (p n) (le-ltb n.start position (omega (arith, after.0.0, late)))) ∙ none ms after.1 late
      where
        never : (a : Bool) → nat_lt n.start position ≡ false → (a && nat_lt n.start position) ≡ false
        never true later = later
        never false later = refl

    here : (b : Bool) → nat_lt m.start position ≡ b → cond b (Some m) (find (λ n. p n && nat_lt n.start position) ms) ≡ cond b (Some m) None
    here true is = refl
    here false is = none ms order.0 (ltb-false m.start position is)

    by : (a : Bool) → find (λ n. p n && nat_lt n.start position) ms ≡ before position (find p ms)
        → cond (a && nat_lt m.start position) (Some m) (find (λ n. p n && nat_lt n.start position) ms) ≡ before position (cond a (Some m) (find p ms))
    by true rest = here (nat_lt m.start position) refl
    by false rest = rest

-- ---- aliases by their frames

-- whether a mapping, of which the frame is given, is an alias: another one of the same frame that starts before, or one of a larger frame
abbrev alias_test : MappedFrame → (start size : ℕ) → (differs before : Bool) → Bool
alias_test (Size4KiB f) s z d b = ((is_same_frame (Size4KiB f) s z && d && b) || (is_same_frame (in_2mib f) s z && d)) || (is_same_frame (in_1gib f) s z && d)
alias_test (Size2MiB f) s z d b = (is_same_frame (Size2MiB f) s z && d && b) || (is_same_frame (in_1gib f) s z && d)
alias_test (Size1GiB f) s z d b = is_same_frame (Size1GiB f) s z && d && b

-- the same by the definition
abbrev contained_test : (frame size start length : ℕ) → (differs before : Bool) → Bool
contained_test f z s y d b = nat_le s f && nat_le (f + z) (s + y) && d && (nat_lt z y || b)

same_test : (s f x y e : ℕ) → (s ≤ f → x ≤ y → s ≡ e) → (s ≡ e → s ≤ f) → (s ≡ e → x ≤ y) → (nat_le s f && nat_le x y) ≡ (s == e)
same_test s f x y e to low high = by (s == e) refl
  where
    by : (b : Bool) → (s == e) ≡ b → (nat_le s f && nat_le x y) ≡ b
    by true is = and_from (nat_le s f) (nat_le x y) (le-leb s f (low (eqb-true s e is))) (le-leb x y (high (eqb-true s e is)))
    by false is = false_from_ne_true (nat_le s f && nat_le x y)
        (λ both. let parts = and_parts (nat_le s f) (nat_le x y) both in
        absurd (let other : true ≡ false = sym (eq-eqb s e (to (leb-true s f parts.0) (leb-true x y parts.1))) ∙ is in cc))

too_small : (s f x y : ℕ) → (s ≤ f → x ≤ y → ⊥) → (nat_le s f && nat_le x y) ≡ false
too_small s f x y never = false_from_ne_true (nat_le s f && nat_le x y) (λ both. let parts = and_parts (nat_le s f) (nat_le x y) both in absurd (never (leb-true s f parts.0) (leb-true x y parts.1)))

or_false_twice : (b : Bool) → b ≡ ((b || false) || false)
or_false_twice true = refl
or_false_twice false = refl

same_tests : (f g : MappedFrame) → IsAligned f → IsAligned g → (d b : Bool) → contained_test (frame_start f) (frame_size f) (frame_start g) (frame_size g) d b ≡ alias_test f (frame_start g) (frame_size g) d b
same_tests (Size4KiB f) (Size4KiB g) h k d b =
    ap (λ c. c && d && b) (same_test g f (f + 0x1000) (g + 0x1000) f (λ l m. omega (arith, l, m)) (λ e. omega (arith, e)) (λ e. omega (arith, e))) ∙ or_false_twice ((g == f) && d && b)
same_tests (Size4KiB f) (Size2MiB g) h k d b =
    and-true _ ∙ ap (λ c. c && d) (same_test g f (f + 0x1000) (g + 0x20_0000) (f - f % 0x20_0000) (λ l m. omega (arith, l, m, h, k)) (λ e. omega (arith, e, h, k)) (λ e. omega (arith, e, h, k)))
    ∙ sym (or-false ((g == f - f % 0x20_0000) && d))
same_tests (Size4KiB f) (Size1GiB g) h k d b =
    and-true _ ∙ ap (λ c. c && d) (same_test g f (f + 0x1000) (g + 0x4000_0000) (f - f % 0x4000_0000) (λ l m. omega (arith, l, m, h, k)) (λ e. omega (arith, e, h, k)) (λ e. omega (arith, e, h, k)))
same_tests (Size2MiB f) (Size4KiB g) h k d b = ap (λ c. c && d && b) (too_small g f (f + 0x20_0000) (g + 0x1000) (λ l m. omega (arith, l, m)))
same_tests (Size2MiB f) (Size2MiB g) h k d b =
    ap (λ c. c && d && b) (same_test g f (f + 0x20_0000) (g + 0x20_0000) f (λ l m. omega (arith, l, m)) (λ e. omega (arith, e)) (λ e. omega (arith, e))) ∙ sym (or-false ((g == f) && d && b))
same_tests (Size2MiB f) (Size1GiB g) h k d b =
    and-true _ ∙ ap (λ c. c && d) (same_test g f (f + 0x20_0000) (g + 0x4000_0000) (f - f % 0x4000_0000) (λ l m. omega (arith, l, m, h, k)) (λ e. omega (arith, e, h, k)) (λ e. omega (arith, e, h, k)))
same_tests (Size1GiB f) (Size4KiB g) h k d b = ap (λ c. c && d && b) (too_small g f (f + 0x4000_0000) (g + 0x1000) (λ l m. omega (arith, l, m)))
same_tests (Size1GiB f) (Size2MiB g) h k d b = ap (λ c. c && d && b) (too_small g f (f + 0x4000_0000) (g + 0x20_0000) (λ l m. omega (arith, l, m)))
same_tests (Size1GiB f) (Size1GiB g) h k d b =
    ap (λ c. c && d && b) (same_test g f (f + 0x4000_0000) (g + 0x4000_0000) f (λ l m. omega (arith, l, m)) (λ e. omega (arith, e)) (λ e. omega (arith, e)))

-- ---- the first alias

some_size : (f : MappedFrame) → 0 < frame_size f
some_size (Size4KiB f) = omega arith
some_size (Size2MiB f) = omega arith
some_size (Size1GiB f) = omega arith

module _ {X : Type 0} (L : ℕ) (firsts : FirstMappings X) (ms : List Mapping) (all : AreOfAll L firsts ms) where
  abbrev test_at : MappedFrame → (m n : Mapping) → Bool
  test_at f m n = alias_test f n.frame n.size (not (same_rights m.rights n.rights)) (nat_lt n.start m.start)

  all_tested : (f : MappedFrame) (m : Mapping) → MapsFrame m f → (ns : List Mapping) → AllByRecursion MapsAPage ns → AllByRecursion (λ n. is_alias m n ≡ test_at f m n) ns
  all_tested f m leads [] pages = tt
  all_tested f m leads (n ∷ ns) pages =
      let d = not (same_rights m.rights n.rights) in
      let b = nat_lt n.start m.start in
      let g = pages.0.0 in
      let there = pages.0.1 in (
        (λ i. contained_test (leads.start i) (leads.size i) (there.start i) (there.size i) d b)
            ∙ same_tests f g leads.aligned there.aligned d b
            ∙ (λ i. alias_test f (sym there.start i) (sym there.size i) d b),
        all_tested f m leads ns pages.1,
      )

  find_tested : (f : MappedFrame) → IsAligned f → (m : Mapping) → find (test_at f m) ms ≡ alias_by firsts f m.rights m.start
  find_tested (Size4KiB a) h m = let r = m.rights in let p = m.start in let own = is_other (Size4KiB a) r in let middle = is_other (in_2mib a) r in
      find_or (λ n. (own n && nat_lt n.start p) || middle n) (is_other (in_1gib a) r) ms all.order
      ∙ ap₂ earlier
      (find_or (λ n. own n && nat_lt n.start p) middle ms all.order
      ∙ ap₂ earlier (find_before own p ms all.order ∙ ap (before p) (sym (all.after.others (Size4KiB a) h r))) (sym (all.after.others (in_2mib a) (omega arith) r)))
      (sym (all.after.others (in_1gib a) (omega arith) r))
  find_tested (Size2MiB a) h m = let r = m.rights in let p = m.start in let own = is_other (Size2MiB a) r in
      find_or (λ n. own n && nat_lt n.start p) (is_other (in_1gib a) r) ms all.order
      ∙ ap₂ earlier (find_before own p ms all.order ∙ ap (before p) (sym (all.after.others (Size2MiB a) h r))) (sym (all.after.others (in_1gib a) (omega arith) r))
  find_tested (Size1GiB a) h m =
      find_before (is_other (Size1GiB a) m.rights) m.start ms all.order ∙ ap (before m.start) (sym (all.after.others (Size1GiB a) h m.rights))

  first_alias : (f : MappedFrame) (m : Mapping) → MapsFrame m f → alias_by firsts f m.rights m.start ≡ alias_in ms m
  first_alias f m leads = sym (find_same (is_alias m) (test_at f m) ms (all_tested f m leads ms all.after.pages) ∙ find_tested f leads.aligned m)

  -- what is said of a mapping by its first alias
  pub said_by : {Y : Type 0} (say : Aliased → Y) (f : MappedFrame) (m : Mapping) → MapsFrame m f
      → option_map (λ n. say (aliased_by L m n)) (alias_by firsts f m.rights m.start) ≡ option_map (λ n. say (aliased L m n)) (alias_in ms m)
  said_by say f m leads = ap (option_map (λ n. say (aliased_by L m n))) (first_alias f m leads)
      ∙ by (alias_in ms m) (found_is (is_alias m) ms) (found_all (λ n. n.start + n.size ≤ position_count L) (is_alias m) ms all.fit)
    where
      inside : (n : Mapping) → is_alias m n ≡ true → n.start + n.size ≤ position_count L → n.start + (m.frame - n.frame) < position_count L
      inside n is fits =
          let front = and_parts (contains n m && not (same_rights m.rights n.rights)) (nat_lt m.size n.size || nat_lt n.start m.start) is in
          let inner = and_parts (contains n m) (not (same_rights m.rights n.rights)) front.0 in
          let ends = and_parts (nat_le n.frame m.frame) (nat_le (m.frame + m.size) (n.frame + n.size)) inner.0 in
          let low : n.frame ≤ m.frame = leb-true n.frame m.frame ends.0 in
          let high : m.frame + m.size ≤ n.frame + n.size = leb-true (m.frame + m.size) (n.frame + n.size) ends.1 in
          let some : 0 < m.size = subst (λ z. 0 < z) (sym leads.size) (some_size f) in
          omega (arith, low, high, some, fits)

      by : (o : Option Mapping) → IfSome o (λ n. is_alias m n ≡ true) → IfSome o (λ n. n.start + n.size ≤ position_count L)
          → option_map (λ n. say (aliased_by L m n)) o ≡ option_map (λ n. say (aliased L m n)) o
      by None is fits = refl
      by (Some n) is fits = ap (λ p. Some (say (record {
        frame = m.frame;
        at = record { address = raw L m.start; rights = m.rights };
        other = record { address = raw L p; rights = n.rights };
      }))) (mod-eq_of_lt (inside n is fits))
