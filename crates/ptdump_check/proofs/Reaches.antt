-- Searches: what the first mapping that leads to an address is after more mappings, and which of them change nothing.
use Rattle.std.proofs.Common.{◌≡◌, ◌∙◌, ◌+◌, ◌-◌, ◌*◌, ◌<◌, ◌≤◌, ◌%◌, ◌&&◌, ◌||◌, ◌++◌, ℕ, Bool, true, false, not, cond, nat_eq, nat_le, nat_lt, List, [], ◌∷◌, filter, find, length, map, Option, None, Some, IfSome, option_map, refl, sym, ap, ap₂, subst, append-nil, append_assoc, arith}
use Rattle.std.proofs.lemmas.Bool.{and_parts, eqb-true, le-leb, leb-true, lt-leb, lt-ltb, ltb-true}
use Rattle.std.proofs.lemmas.List.{with_items_is}
use Rattle.std.proofs.lemmas.List.Elements.{filter-append}
use Rattle.std.proofs.lemmas.List.Folds.{find-append}
use Rattle.std.specs.HashMap.{get}
use Rattle.std.specs.HashSet.{contains}
use Rattle.std.specs.List.{AllByRecursion}
use Rattle.std.specs.List.Sorted.{IsNonDecreasingBy}
use Rattle.std.specs.Option.{option_or, IsSomeAnd}
use Rattle.std.specs.Vec.{with_items}
use Rattle.x86_64_mappings.specs.Wanted.{asked_mappings, leads_to}
use Rattle.x86_64_mappings.specs.private.Placed.{placed}
use Rattle.x86_64_mappings.proofs.Visited.{span_below}
use Rattle.x86_64_model.specs.Mappings.{Mapping, Rights, mappings_of}
use Rattle.x86_64_model.specs.Memory.{identity_places, words_of}
use Rattle.x86_64_model.specs.Position.{position_count, span}
use Rattle.x86_64_model.proofs.Lemmas.Mappings.Placed.{mappings_fit, mappings_placed}
use Rattle.x86_64_model.proofs.Lemmas.Mappings.RegionLaws.{IsPlaced}
use Rattle.x86_64_tables.specs.Rights.{both}
use Rattle.x86_64_mappings.specs.Selections.{includes}
use Rattle.ptdump_check.specs.declared.reached.positions.Positions.{Positions}
use Rattle.ptdump_check.specs.declared.reached.search.Found.{Found}
use Rattle.ptdump_check.specs.declared.reached.search.Search.{Search}
use Rattle.ptdump_check.specs.declared.reached.search.Visit.{Visit}
use Rattle.ptdump_check.specs.private.Reaching.{address_leading_to, are_apart, are_left_out, searched, is_sought, sought, sought_in, span_of_table, positions_of, first_address_of_each, kept, kept_below, address_is_within, Cover, IsFoundAfter, TakesFound}
use Rattle.ptdump_check.proofs.Asked.{all_wanted}
use Rattle.ptdump_check.proofs.Noted.{so_many}

-- ---- rights

-- a right that both have is needed or not
part_kept : (a b n : Bool) → (a || not n) ≡ true → ((a && b) || not n) ≡ (b || not n)
part_kept true b n h = refl
part_kept false b true h = absurd (let e : false ≡ true = h in cc)
part_kept false true false h = refl
part_kept false false false h = refl

part_missing : (a b n : Bool) → ((a && b) || not n) ≡ true → (a || not n) ≡ true
part_missing true b n h = refl
part_missing false b n h = h

both_true : (a b : Bool) → a ≡ true → b ≡ true → (a && b) ≡ true
both_true a b p q = λ i. p i && q i

included : (r s needed : Rights) → includes r needed ≡ true → includes (both r s) needed ≡ includes s needed
included r s n h =
    let last = and_parts ((r.write || not n.write) && (r.user || not n.user)) (r.execute || not n.execute) h in
    let first = and_parts (r.write || not n.write) (r.user || not n.user) last.0 in
    λ i. (part_kept r.write s.write n.write first.0 i && part_kept r.user s.user n.user first.1 i) && part_kept r.execute s.execute n.execute last.1 i

excluded : (r s needed : Rights) → includes (both r s) needed ≡ true → includes r needed ≡ true
excluded r s n h =
    let last = and_parts (((r.write && s.write) || not n.write) && ((r.user && s.user) || not n.user)) ((r.execute && s.execute) || not n.execute) h in
    let first = and_parts ((r.write && s.write) || not n.write) ((r.user && s.user) || not n.user) last.0 in
    both_true ((r.write || not n.write) && (r.user || not n.user)) (r.execute || not n.execute)
    (both_true (r.write || not n.write) (r.user || not n.user) (part_missing r.write s.write n.write first.0) (part_missing r.user s.user n.user first.1))
    (part_missing r.execute s.execute n.execute last.1)

missing : (r s needed : Rights) → includes r needed ≡ false → includes (both r s) needed ≡ false
missing r s n h = by (includes (both r s) n) refl
  where
    by : (b : Bool) → includes (both r s) n ≡ b → b ≡ false
    by false is = refl
    by true is = sym (excluded r s n is) ∙ h

-- ---- mappings of a table with the needed rights, as seen from above

pub kept_placed : (needed : Rights) (s : ℕ) (r : Rights) (ms : List Mapping) → includes r needed ≡ true → kept needed (map (placed s r) ms) ≡ map (placed s r) (kept needed ms)
kept_placed needed s r [] h = refl
kept_placed needed s r (m ∷ ms) h =
    ap (λ b. cond b (placed s r m ∷ kept needed (map (placed s r) ms)) (kept needed (map (placed s r) ms))) (included r m.rights needed h)
    ∙ by (includes m.rights needed) (kept_placed needed s r ms h)
  where
    by : (b : Bool) → kept needed (map (placed s r) ms) ≡ map (placed s r) (kept needed ms)
        → cond b (placed s r m ∷ kept needed (map (placed s r) ms)) (kept needed (map (placed s r) ms)) ≡ map (placed s r) (cond b (m ∷ kept needed ms) (kept needed ms))
    by true e = ap (λ ms. placed s r m ∷ ms) e
    by false e = e

pub kept_none : (needed : Rights) (s : ℕ) (r : Rights) (ms : List Mapping) → includes r needed ≡ false → kept needed (map (placed s r) ms) ≡ []
kept_none needed s r [] h = refl
kept_none needed s r (m ∷ ms) h =
    ap (λ b. cond b (placed s r m ∷ kept needed (map (placed s r) ms)) (kept needed (map (placed s r) ms))) (missing r m.rights needed h)
    ∙ kept_none needed s r ms h

-- ---- mappings that are left out

module _ {X : Type 0} (p q : X → Bool) where
  filter_whole : (xs : List X) → AllByRecursion (λ x. p x ≡ true) xs → filter p (filter q xs) ≡ filter q xs
  filter_whole [] all = refl
  filter_whole (x ∷ xs) all = by (q x) (filter_whole xs all.1)
    where
      by : (b : Bool) → filter p (filter q xs) ≡ filter q xs → filter p (cond b (x ∷ filter q xs) (filter q xs)) ≡ cond b (x ∷ filter q xs) (filter q xs)
      by true rest = ap (λ c. cond c (x ∷ filter p (filter q xs)) (filter p (filter q xs))) all.0 ∙ ap (λ ys. x ∷ ys) rest
      by false rest = rest

  filter_nothing : (xs : List X) → AllByRecursion (λ x. p x ≡ false) xs → filter p (filter q xs) ≡ []
  filter_nothing [] all = refl
  filter_nothing (x ∷ xs) all = by (q x) (filter_nothing xs all.1)
    where
      by : (b : Bool) → filter p (filter q xs) ≡ [] → filter p (cond b (x ∷ filter q xs) (filter q xs)) ≡ []
      by true rest = ap (λ c. cond c (x ∷ filter p (filter q xs)) (filter p (filter q xs))) all.0 ∙ rest
      by false rest = rest

-- what holds of the placed mappings of a table
all_placed : (P : Mapping → Type 0) (level count s : ℕ) (r : Rights) → ((m : Mapping) → IsPlaced level m → m.start + m.size ≤ count → P (placed s r m))
    → (ms : List Mapping) → AllByRecursion (IsPlaced level) ms → AllByRecursion (λ m. m.start + m.size ≤ count) ms → AllByRecursion P (map (placed s r) ms)
all_placed P level count s r holds [] some fit = tt
all_placed P level count s r holds (m ∷ ms) some fit = (holds m some.0 fit.0, all_placed P level count s r holds ms some.1 fit.1)

-- a mapping among the positions of a table's span is left out with them
inside_left_out : (out : Option Positions) (s start size count : ℕ) → 0 < size → start + size ≤ count → are_left_out out (record { first = s; last = s + (count - 1) }) ≡ true
    → are_left_out out (record { first = s + start; last = s + start + size - 1 }) ≡ true
inside_left_out None s start size count some fits all = all
inside_left_out (Some out) s start size count some fits all =
    let parts = and_parts (nat_le out.first s) (nat_le (s + (count - 1)) out.last) all in
    let low : out.first ≤ s = leb-true out.first s parts.0 in
    let high : s + (count - 1) ≤ out.last = leb-true (s + (count - 1)) out.last parts.1 in
    both_true (nat_le out.first (s + start)) (nat_le (s + start + size - 1) out.last) (le-leb out.first (s + start) (omega arith)) (le-leb (s + start + size - 1) out.last (omega arith))

-- and isn't left out if none of them is
apart_kept : (out : Option Positions) (s start size count : ℕ) → 0 < size → start + size ≤ count → are_apart out (record { first = s; last = s + (count - 1) }) ≡ true
    → are_left_out out (record { first = s + start; last = s + start + size - 1 }) ≡ false
apart_kept None s start size count some fits all = refl
apart_kept (Some out) s start size count some fits all = by (nat_lt (s + (count - 1)) out.first) (nat_lt out.last s) refl refl all
  where
    none : (a : Bool) → (a && false) ≡ false
    none true = refl
    none false = refl

    by : (b c : Bool) → nat_lt (s + (count - 1)) out.first ≡ b → nat_lt out.last s ≡ c → (b || c) ≡ true → (nat_le out.first (s + start) && nat_le (s + start + size - 1) out.last) ≡ false
    by true c p q h =
        let below : s + (count - 1) < out.first = ltb-true (s + (count - 1)) out.first p in
        ap (λ b. b && nat_le (s + start + size - 1) out.last) (lt-leb out.first (s + start) (omega arith))
    by false true p q h =
        let above : out.last < s = ltb-true out.last s q in
        ap (λ b. nat_le out.first (s + start) && b) (lt-leb (s + start + size - 1) out.last (omega arith)) ∙ none (nat_le out.first (s + start))
    by false false p q h = absurd (let e : false ≡ true = h in cc)

-- a table's span consists of those of its entries
count_span : (level : ℕ) → 1 ≤ level → position_count level ≡ 512 * span level
count_span level low =
    let same : level ≡ level + 1 - 1 = omega arith in
    ap position_count same ∙ span_below (level + 1) (omega (arith, low)) ∙ ap (λ n. 512 * span n) (sym same)

-- the mappings of a table that is visited
abbrev mapped_in : Search → Visit → List Mapping
mapped_in search visit = map (placed visit.start visit.above) (asked_mappings (searched search) visit.level visit.frame)

module _ (search : Search) (visit : Visit) (low : 1 ≤ visit.level) where
  -- the positions of the span, by the number of positions that the table's level has
  span_is : span_of_table visit ≡ record { first = visit.start; last = visit.start + (position_count visit.level - 1) }
  span_is = ap (λ n. record { first = visit.start; last = visit.start + (n - 1) }) (sym (count_span visit.level low))

  all_mapped : (P : Mapping → Type 0) → ((m : Mapping) → IsPlaced visit.level m → m.start + m.size ≤ position_count visit.level → P (placed visit.start visit.above m)) → AllByRecursion P (mapped_in search visit)
  all_mapped P holds =
      let T = words_of search.memory.now identity_places in
      subst (λ ms. AllByRecursion P (map (placed visit.start visit.above) ms)) (sym (all_wanted (mappings_of visit.level T visit.frame)))
      (all_placed P visit.level (position_count visit.level) visit.start visit.above holds (mappings_of visit.level T visit.frame) (mappings_placed visit.level T visit.frame) (mappings_fit visit.level T visit.frame))

  left_out_in : are_left_out search.left_out (span_of_table visit) ≡ true → sought_in search visit ≡ []
  left_out_in all = filter_nothing (λ m. not (are_left_out search.left_out (positions_of m))) (λ m. includes m.rights search.needed) (mapped_in search visit)
      (all_mapped (λ m. not (are_left_out search.left_out (positions_of m)) ≡ false)
      (λ m is fits. ap not (inside_left_out search.left_out visit.start m.start m.size (position_count visit.level) is.some fits (subst (λ p. are_left_out search.left_out p ≡ true) span_is all))))

  apart_in : are_apart search.left_out (span_of_table visit) ≡ true → sought_in search visit ≡ kept search.needed (mapped_in search visit)
  apart_in all = filter_whole (λ m. not (are_left_out search.left_out (positions_of m))) (λ m. includes m.rights search.needed) (mapped_in search visit)
      (all_mapped (λ m. not (are_left_out search.left_out (positions_of m)) ≡ true)
      (λ m is fits. ap not (apart_kept search.left_out visit.start m.start m.size (position_count visit.level) is.some fits (subst (λ p. are_apart search.left_out p ≡ true) span_is all))))

-- ---- the first mapping that leads to an address

find_placed : (a s : ℕ) (r : Rights) (ms : List Mapping) → find (leads_to a) (map (placed s r) ms) ≡ option_map (placed s r) (find (leads_to a) ms)
find_placed a s r [] = refl
find_placed a s r (m ∷ ms) = by (leads_to a m) (find_placed a s r ms)
  where
    by : (b : Bool) → find (leads_to a) (map (placed s r) ms) ≡ option_map (placed s r) (find (leads_to a) ms)
        → cond b (Some (placed s r m)) (find (leads_to a) (map (placed s r) ms)) ≡ option_map (placed s r) (cond b (Some m) (find (leads_to a) ms))
    by true e = refl
    by false e = e

none_of : {X Y : Type 0} (f : X → Y) (o : Option X) → option_map f o ≡ None → o ≡ None
none_of f None is = refl
none_of f (Some x) is = absurd (let e : Some (f x) ≡ None = is in cc)

first_none : {X : Type 0} (o p : Option X) → option_or o p ≡ None → (o ≡ None) × (p ≡ None)
first_none None p is = (refl, is)
first_none (Some x) p is = absurd (let e : Some x ≡ None = is in cc)

none_in : (a : ℕ) (ms more : List Mapping) → find (leads_to a) (ms ++ more) ≡ None → (find (leads_to a) ms ≡ None) × (find (leads_to a) more ≡ None)
none_in a ms more is = first_none (find (leads_to a) ms) (find (leads_to a) more) (sym (find-append (leads_to a) ms more) ∙ is)

-- ---- what some mappings cover

pub cover_more : (ms more others : List Mapping) → Cover ms others → Cover (ms ++ more) others
cover_more ms more others cover a none = cover a (none_in a ms more none).0

cover_placed : (ms others : List Mapping) (s : ℕ) (r : Rights) → Cover (ms ++ map (placed s r) others) others
cover_placed ms others s r a none = none_of (placed s r) (find (leads_to a) others) (sym (find_placed a s r others) ∙ (none_in a ms (map (placed s r) others) none).1)

cover_seen : (ms others : List Mapping) (s : ℕ) (r : Rights) → Cover ms others → Cover ms (map (placed s r) others)
cover_seen ms others s r cover a none = find_placed a s r others ∙ ap (option_map (placed s r)) (cover a none)

-- mappings that are covered are nowhere the first
not_first : (ms others : List Mapping) → Cover ms others → (a : ℕ) → find (leads_to a) ms ≡ find (leads_to a) (ms ++ others)
not_first ms others cover a = sym (find-append (leads_to a) ms others ∙ by (find (leads_to a) ms) refl)
  where
    by : (o : Option Mapping) → find (leads_to a) ms ≡ o → option_or o (find (leads_to a) others) ≡ o
    by (Some m) is = refl
    by None is = cover a is

-- what they lead to, fewer lead to
none_kept : (p : Mapping → Bool) (a : ℕ) (ms : List Mapping) → find (leads_to a) ms ≡ None → find (leads_to a) (filter p ms) ≡ None
none_kept p a [] none = refl
none_kept p a (m ∷ ms) none = by (leads_to a m) (p m) refl none (none_kept p a ms)
  where
    by : (b c : Bool) → leads_to a m ≡ b → cond b (Some m) (find (leads_to a) ms) ≡ None → (find (leads_to a) ms ≡ None → find (leads_to a) (filter p ms) ≡ None)
        → find (leads_to a) (cond c (m ∷ filter p ms) (filter p ms)) ≡ None
    by true c is none rest = absurd (let e : Some m ≡ None = none in cc)
    by false true is none rest = ap (λ b. cond b (Some m) (find (leads_to a) (filter p ms))) is ∙ rest none
    by false false is none rest = rest none

cover_fewer : (p : Mapping → Bool) (ms others : List Mapping) → Cover ms others → Cover ms (filter p others)
cover_fewer p ms others cover a none = none_kept p a others (cover a none)

-- what some mappings lead to of a page, more lead to
within_more : (ms more : List Mapping) (o : Option ℕ) (start : ℕ) → IfSome o (λ size. (a : ℕ) → find (leads_to a) ms ≡ None → address_is_within start size a ≡ false)
    → IfSome o (λ size. (a : ℕ) → find (leads_to a) (ms ++ more) ≡ None → address_is_within start size a ≡ false)
within_more ms more None start h = tt
within_more ms more (Some size) start h = λ a none. h a (none_in a ms more none).0

-- a page with the same start that isn't larger is covered
smaller_within : (start size noted a : ℕ) → size ≤ noted → address_is_within start noted a ≡ false → address_is_within start size a ≡ false
smaller_within start size noted a le out = by (nat_le start a) (nat_lt a (start + size)) refl refl
  where
    by : (b c : Bool) → nat_le start a ≡ b → nat_lt a (start + size) ≡ c → (b && c) ≡ false
    by false c p q = refl
    by true false p q = refl
    by true true p q =
        let more : nat_lt a (start + noted) ≡ true = lt-ltb a (start + noted) (omega (arith, ltb-true a (start + size) q, le)) in
        let e : true ≡ false = (λ i. sym p i && sym more i) ∙ out in absurd cc

firsts_same : (L : ℕ) (ms ns : List Mapping) → ((a : ℕ) → find (leads_to a) ms ≡ find (leads_to a) ns) → (frames : List ℕ) → first_address_of_each L frames ms ≡ first_address_of_each L frames ns
firsts_same L ms ns same [] = refl
firsts_same L ms ns same (f ∷ fs) = ap₂ (λ o os. o ∷ os) (ap (option_map (address_leading_to L f)) (same f)) (firsts_same L ms ns same fs)

-- ---- a page that is sought or not

pub sought_one : (search : Search) (m : Mapping) → sought search (m ∷ []) ≡ cond (is_sought search m) (m ∷ []) []
sought_one search m = by (includes m.rights search.needed) (not (are_left_out search.left_out (positions_of m))) refl
  where
    by : (b c : Bool) → not (are_left_out search.left_out (positions_of m)) ≡ c
        → filter (λ m. not (are_left_out search.left_out (positions_of m))) (cond b (m ∷ []) []) ≡ cond (b && c) (m ∷ []) []
    by true c is = ap (λ c. cond c (m ∷ []) []) is
    by false c is = refl

-- ---- searches

module _ (L : ℕ) (search : Search) where
  pub takes_nothing : (found : Found) → TakesFound L search found found []
  takes_nothing found ms after = subst (IsFoundAfter L search found) (sym (append-nil ms)) after

  pub takes_both : (old between new : Found) (front back : List Mapping) → TakesFound L search old between front → TakesFound L search between new back → TakesFound L search old new (front ++ back)
  takes_both old between new front back first second ms after = subst (IsFoundAfter L search new) (append_assoc ms front back) (second (ms ++ front) (first ms after))

  sought-append : (front back : List Mapping) → sought search (front ++ back) ≡ sought search front ++ sought search back
  sought-append front back =
      ap (filter (λ m. not (are_left_out search.left_out (positions_of m)))) (filter-append (λ m. includes m.rights search.needed) front back)
      ∙ filter-append (λ m. not (are_left_out search.left_out (positions_of m))) (kept search.needed front) (kept search.needed back)

  -- mappings of which those that are sought were taken in two parts
  pub takes_more : (old between new : Found) (front back : List Mapping) → TakesFound L search old between (sought search front) → TakesFound L search between new (sought search back)
      → TakesFound L search old new (sought search (front ++ back))
  takes_more old between new front back first second =
      subst (TakesFound L search old new) (sym (sought-append front back))
      (takes_both old between new (sought search front) (sought search back) first second)

  -- a page of 4KiB was noted
  pub takes_page : (old new : Found) (m : Mapping) → ((ms : List Mapping) → IsNonDecreasingBy (λ f. f) search.frames.now → old.firsts.items ≡ first_address_of_each L search.frames.now ms → new.firsts.items ≡ first_address_of_each L search.frames.now (ms ++ m ∷ []))
      → new.visited ≡ old.visited → new.pages ≡ old.pages → TakesFound L search old new (m ∷ [])
  takes_page old new m noted visited pages ms after = record {
    ascend = after.ascend;
    firsts = noted ms after.ascend after.firsts;
    visited = λ level frame low aligned is.
        cover_more ms (m ∷ []) (kept_below search level frame) (after.visited level frame low aligned (subst (λ v. contains nat_eq v (frame + level) ≡ true) visited is));
    pages = λ start. within_more ms (m ∷ []) (get nat_eq new.pages start) start
        (subst (λ ps. IfSome (get nat_eq ps start) (λ size. (a : ℕ) → find (leads_to a) ms ≡ None → address_is_within start size a ≡ false)) (sym pages) (after.pages start));
  }

  -- the addresses in a page were noted
  pub takes_note : (found : Found) (m : Mapping) (firsts : List (Option ℕ)) → ((ms : List Mapping) → IsNonDecreasingBy (λ f. f) search.frames.now → found.firsts.items ≡ first_address_of_each L search.frames.now ms → firsts ≡ first_address_of_each L search.frames.now (ms ++ m ∷ []))
      → TakesFound L search found (record { firsts = with_items found.firsts firsts; visited = found.visited; pages = found.pages }) (m ∷ [])
  takes_note found m firsts noted = takes_page found (record { firsts = with_items found.firsts firsts; visited = found.visited; pages = found.pages }) m
      (λ ms ascend is.
      let all = noted ms ascend is in
      with_items_is found.firsts firsts
      (ap length all ∙ so_many L search.frames.now (ms ++ m ∷ []) ∙ sym (so_many L search.frames.now ms) ∙ ap length (sym is) ∙ sym found.firsts.ok.0)
      ∙ all)
      refl refl

  -- a large page was noted, and recorded
  pub takes_large_page : (old between new : Found) (m : Mapping) → TakesFound L search old between (m ∷ []) → new.firsts ≡ between.firsts → new.visited ≡ between.visited
      → ((start : ℕ) → get nat_eq new.pages start ≡ cond (nat_eq m.frame start) (Some m.size) (get nat_eq between.pages start)) → TakesFound L search old new (m ∷ [])
  takes_large_page old between new m taken firsts visited pages ms before = record {
    ascend = after.ascend;
    firsts = ap (λ v. v.items) firsts ∙ after.firsts;
    visited = λ level frame low aligned is. after.visited level frame low aligned (subst (λ v. contains nat_eq v (frame + level) ≡ true) visited is);
    pages = λ start. subst (Fits start) (sym (pages start)) (by start (nat_eq m.frame start) refl);
  }
    where
      all : List Mapping
      all = ms ++ m ∷ []

      after : IsFoundAfter L search between (ms ++ m ∷ [])
      after = taken ms before

      Fits : (start : ℕ) → Option ℕ → Type 0
      Fits start o = IfSome o (λ size. (a : ℕ) → find (leads_to a) (ms ++ m ∷ []) ≡ None → address_is_within start size a ≡ false)

      out : (a : ℕ) (b : Bool) → cond b (Some m) None ≡ None → b ≡ false
      out a true h = absurd (let e : Some m ≡ None = h in cc)
      out a false h = refl

      by : (start : ℕ) (b : Bool) → nat_eq m.frame start ≡ b → Fits start (cond b (Some m.size) (get nat_eq between.pages start))
      by start true same = λ a none. subst (λ s. address_is_within s m.size a ≡ false) (eqb-true m.frame start same) (out a (leads_to a m) (none_in a ms (m ∷ []) none).1)
      by start false other = after.pages start

  takes_covered : (found : Found) (ms others : List Mapping) → Cover ms others → IsFoundAfter L search found ms → IsFoundAfter L search found (ms ++ others)
  takes_covered found ms others cover after = record {
    ascend = after.ascend;
    firsts = after.firsts ∙ firsts_same L ms (ms ++ others) (not_first ms others cover) search.frames.now;
    visited = λ level frame low aligned is. cover_more ms others (kept_below search level frame) (after.visited level frame low aligned is);
    pages = λ start. within_more ms others (get nat_eq found.pages start) start (after.pages start);
  }

  -- a large page that was noted
  pub takes_noted : (found : Found) (m : Mapping) → IsSomeAnd (get nat_eq found.pages m.frame) (λ noted. m.size ≤ noted) → TakesFound L search found found (m ∷ [])
  takes_noted found m noted ms after = takes_covered found ms (m ∷ []) (by (get nat_eq found.pages m.frame) noted (after.pages m.frame)) after
    where
      by : (o : Option ℕ) → IsSomeAnd o (λ noted. m.size ≤ noted) → IfSome o (λ size. (a : ℕ) → find (leads_to a) ms ≡ None → address_is_within m.frame size a ≡ false) → Cover ms (m ∷ [])
      by None some out = absurd some
      by (Some size) some out = λ a none. ap (λ b. cond b (Some m) None) (smaller_within m.frame m.size size a some (out a none))

  -- a table below words that lack a right
  pub takes_no_right : (found : Found) (visit : Visit) → includes visit.above search.needed ≡ false → TakesFound L search found found (sought_in search visit)
  takes_no_right found visit lacks =
      subst (TakesFound L search found found)
      (sym (ap (filter (λ m. not (are_left_out search.left_out (positions_of m)))) (kept_none search.needed visit.start visit.above (asked_mappings (searched search) visit.level visit.frame) lacks)))
      (takes_nothing found)

  -- a table whose positions are left out
  pub takes_left_out : (found : Found) (visit : Visit) → 1 ≤ visit.level → are_left_out search.left_out (span_of_table visit) ≡ true → TakesFound L search found found (sought_in search visit)
  takes_left_out found visit low all = subst (TakesFound L search found found) (sym (left_out_in search visit low all)) (takes_nothing found)

  -- a table that was visited
  pub takes_visited : (found : Found) (visit : Visit) → includes visit.above search.needed ≡ true → visit.level < 4096 → visit.frame % 4096 ≡ 0
      → contains nat_eq found.visited (visit.frame + visit.level) ≡ true → TakesFound L search found found (sought_in search visit)
  takes_visited found visit has low aligned is ms after =
      let below = kept_below search visit.level visit.frame in
      let seen : Cover ms (map (placed visit.start visit.above) below) = cover_seen ms below visit.start visit.above (after.visited visit.level visit.frame low aligned is) in
      let all : Cover ms (kept search.needed (mapped_in search visit)) =
      subst (Cover ms) (sym (kept_placed search.needed visit.start visit.above (asked_mappings (searched search) visit.level visit.frame) has)) seen in
      takes_covered found ms (sought_in search visit) (cover_fewer (λ m. not (are_left_out search.left_out (positions_of m))) ms (kept search.needed (mapped_in search visit)) all) after

  -- a table and a level are determined by their sum
  same_frame : (f l g k : ℕ) → f % 4096 ≡ 0 → g % 4096 ≡ 0 → l < 4096 → k < 4096 → f + l ≡ g + k → f ≡ g
  same_frame f l g k fa ga lo ko is = omega arith

  -- a table none of whose positions is left out is marked after its visit
  pub marked : (old new : Found) (ms : List Mapping) (visit : Visit) → includes visit.above search.needed ≡ true → 1 ≤ visit.level → are_apart search.left_out (span_of_table visit) ≡ true → visit.level < 4096 → visit.frame % 4096 ≡ 0
      → new.firsts.items ≡ old.firsts.items → new.pages ≡ old.pages
      → ((key : ℕ) → contains nat_eq new.visited key ≡ cond (nat_eq (visit.frame + visit.level) key) true (contains nat_eq old.visited key))
      → IsFoundAfter L search old (ms ++ sought_in search visit) → IsFoundAfter L search new (ms ++ sought_in search visit)
  marked old new ms visit has some apart low aligned firsts pages marks after = record {
    ascend = after.ascend;
    firsts = firsts ∙ after.firsts;
    visited = λ level frame l a is. by level frame l a (nat_eq (visit.frame + visit.level) (frame + level)) refl (sym (marks (frame + level)) ∙ is);
    pages = λ start. subst (λ ps. IfSome (get nat_eq ps start) (λ size. (a : ℕ) → find (leads_to a) (ms ++ sought_in search visit) ≡ None → address_is_within start size a ≡ false)) (sym pages) (after.pages start);
  }
    where
      all : List Mapping
      all = ms ++ sought_in search visit

      here : Cover all (kept_below search visit.level visit.frame)
      here = subst (λ ns. Cover (ms ++ ns) (kept_below search visit.level visit.frame))
          (sym (apart_in search visit some apart ∙ kept_placed search.needed visit.start visit.above (asked_mappings (searched search) visit.level visit.frame) has))
          (cover_placed ms (kept_below search visit.level visit.frame) visit.start visit.above)

      by : (level frame : ℕ) → level < 4096 → frame % 4096 ≡ 0 → (b : Bool) → nat_eq (visit.frame + visit.level) (frame + level) ≡ b
          → cond b true (contains nat_eq old.visited (frame + level)) ≡ true → Cover all (kept_below search level frame)
      by level frame l a true same is =
          let sum : visit.frame + visit.level ≡ frame + level = eqb-true (visit.frame + visit.level) (frame + level) same in
          let frames : visit.frame ≡ frame = same_frame visit.frame visit.level frame level aligned a low l sum in
          let levels : visit.level ≡ level = omega (arith, sum, frames) in
          subst (λ k. Cover all (kept_below search k frame)) levels (subst (λ f. Cover all (kept_below search visit.level f)) frames here)
      by level frame l a false other is = after.visited level frame l a is
