-- Summaries of mappings, part by part.
use Rattle.std.proofs.Common.{◌≡◌, ◌<◌, ◌+◌, ◌-◌, ◌*◌, ◌==◌, ℕ, ◌&&◌, ◌||◌, Bool, true, false, cond, List, [], ◌∷◌, ◌++◌, length, get_or, take, map, filter, sum_by, Option, Some, None, bit_and, bit_or, refl, sym, ap, ◌∙◌, arith, length-append}
use Rattle.std.specs.List.{list_all, list_any}
use Rattle.std.proofs.Math.Dec.{eqb-suc-zero}
use Rattle.std.proofs.lemmas.Bool.{cond-false, true≢false}
use Rattle.std.proofs.lemmas.List.Sums.{sum_by-append, sum_by-cons}
use Rattle.std.proofs.lemmas.List.{length-map}
use Rattle.std.proofs.lemmas.List.Folds.{list_any-append, list_all-append}
use Rattle.x86_64_model.specs.Entry.{has}
use Rattle.x86_64_model.specs.Mappings.{Rights, Mapping, every_right, granted}
use Rattle.x86_64_mappings.specs.declared.summaries.summary.Summary.{Summary}
use Rattle.x86_64_mappings.specs.Summaries.{summary_of}
use Rattle.x86_64_mappings.specs.Wanted.{Asked, is_wanted, asked_mappings}
use Rattle.x86_64_tables.specs.declared.page_table.target.EntryTarget.TheVariants.{Page, Table}
use Rattle.x86_64_mappings.specs.private.Placed.{placed}
use Rattle.x86_64_tables.specs.EntryTargets.{target_of}
use Rattle.x86_64_mappings.specs.private.Targets.{asked_by, asked_on, mappings_at}
use Rattle.x86_64_tables.specs.Rights.{both}
use Rattle.x86_64_mappings.specs.private.Merged.{joined, lessened, of_bits}
use Rattle.x86_64_model.specs.Position.{span}
use Rattle.x86_64_model.specs.private.Found.{page_from}
use Rattle.x86_64_mappings.proofs.PageBits.{has_either, has_both, lacks_either, lacks_both}
use Rattle.x86_64_mappings.proofs.Tables.{by_table, on_more}
use Rattle.x86_64_mappings.proofs.Visited.{visited_same}

pub summary-append : (ms ns : List Mapping) → summary_of (ms ++ ns) ≡ joined (summary_of ms) (summary_of ns)
unfolding summary_of
summary-append ms ns = λ i. record {
  count = length-append ms ns i;
  bytes = sum_by-append (λ m. m.size) ms ns i;
  some = record {
    write = list_any-append (λ m. m.rights.write) ms ns i;
    user = list_any-append (λ m. m.rights.user) ms ns i;
    execute = list_any-append (λ m. m.rights.execute) ms ns i;
  };
  all = record {
    write = list_all-append (λ m. m.rights.write) ms ns i;
    user = list_all-append (λ m. m.rights.user) ms ns i;
    execute = list_all-append (λ m. m.rights.execute) ms ns i;
  };
}

-- ---- placed

sum-placed : (s : ℕ) (r : Rights) (ms : List Mapping) → sum_by (λ m. m.size) (map (placed s r) ms) ≡ sum_by (λ m. m.size) ms
sum-placed s r [] = refl
sum-placed s r (m ∷ ms) =
    sum_by-cons (λ m. m.size) (placed s r m) (map (placed s r) ms) ∙ ap (λ n. m.size + n) (sum-placed s r ms) ∙ sym (sum_by-cons (λ m. m.size) m ms)

-- a test of placed mappings that also requires b
any-placed : (s : ℕ) (r : Rights) (b : Bool) (p : Mapping → Bool) → ((m : Mapping) → p (placed s r m) ≡ (b && p m)) → (ms : List Mapping) → list_any p (map (placed s r) ms) ≡ (b && list_any p ms)
any-placed s r true p same [] = refl
any-placed s r false p same [] = refl
any-placed s r true p same (m ∷ ms) = λ i. same m i || any-placed s r true p same ms i
any-placed s r false p same (m ∷ ms) = λ i. same m i || any-placed s r false p same ms i

all-placed : (s : ℕ) (r : Rights) (b : Bool) (p : Mapping → Bool) → ((m : Mapping) → p (placed s r m) ≡ (b && p m)) → (m : Mapping) (ms : List Mapping) → list_all p (map (placed s r) (m ∷ ms)) ≡ (b && list_all p (m ∷ ms))
all-placed s r b p same m [] = ap (λ c. c && true) (same m) ∙ by b (p m)
  where
    by : (b c : Bool) → ((b && c) && true) ≡ (b && (c && true))
    by true c = refl
    by false c = refl
all-placed s r b p same m (n ∷ ms) = (λ i. same m i && all-placed s r b p same n ms i) ∙ by b (p m) (list_all p (n ∷ ms))
  where
    by : (b c d : Bool) → ((b && c) && (b && d)) ≡ (b && (c && d))
    by true c d = refl
    by false c d = refl

some-placed : (s : ℕ) (r : Rights) (m : Mapping) (ms : List Mapping) → (let t = summary_of (m ∷ ms) in
    summary_of (map (placed s r) (m ∷ ms)) ≡ record { count = t.count; bytes = t.bytes; some = both r t.some; all = both r t.all })
unfolding summary_of
some-placed s r m ms = let q = r in λ i. record {
  count = length-map (m ∷ ms) (placed s q) i;
  bytes = sum-placed s q (m ∷ ms) i;
  some = record {
    write = any-placed s q r.write (λ m. m.rights.write) (λ m. refl) (m ∷ ms) i;
    user = any-placed s q r.user (λ m. m.rights.user) (λ m. refl) (m ∷ ms) i;
    execute = any-placed s q r.execute (λ m. m.rights.execute) (λ m. refl) (m ∷ ms) i;
  };
  all = record {
    write = all-placed s q r.write (λ m. m.rights.write) (λ m. refl) m ms i;
    user = all-placed s q r.user (λ m. m.rights.user) (λ m. refl) m ms i;
    execute = all-placed s q r.execute (λ m. m.rights.execute) (λ m. refl) m ms i;
  };
}

not_none : (m : Mapping) (ms : List Mapping) → ((summary_of (m ∷ ms)).count == 0) ≡ false
unfolding summary_of
not_none m ms = eqb-suc-zero (length ms)

pub summary-placed : (s : ℕ) (r : Rights) (ms : List Mapping) → summary_of (map (placed s r) ms) ≡ lessened r (summary_of ms)
unfolding summary_of
summary-placed s r [] = refl
summary-placed s r (m ∷ ms) = let t = summary_of (m ∷ ms) in
    some-placed s r m ms ∙ sym (cond-false (t.count == 0) t (record { count = t.count; bytes = t.bytes; some = both r t.some; all = both r t.all }) (not_none m ms))

-- ---- none and one

abbrev pub no_summary : Summary
no_summary = record {
  count = 0;
  bytes = 0;
  some = record { write = false; user = false; execute = false };
  all = record { write = true; user = true; execute = true };
}

abbrev pub one_summary : (bytes : ℕ) → Rights → Summary
one_summary bytes r = record { count = 1; bytes = bytes; some = r; all = r }

of_nothing : no_summary ≡ summary_of []
unfolding summary_of
of_nothing = refl

pub of_none : (ms : List Mapping) → ms ≡ [] → no_summary ≡ summary_of ms
of_none ms none = of_nothing ∙ ap summary_of (sym none)

-- if the count is 0, there are no mappings
pub none_counted : (ms : List Mapping) (s : Summary) → s ≡ summary_of ms → (s.count == 0) ≡ true → ms ≡ []
none_counted [] s is zero = refl
none_counted (m ∷ ms) s is zero = absurd (true≢false (sym zero ∙ ap (λ s. s.count == 0) is ∙ not_none m ms))

of_one : (m : Mapping) (r : Rights) → r ≡ m.rights → one_summary m.size r ≡ summary_of (m ∷ [])
unfolding summary_of
of_one m r same = λ i. record {
  count = 1;
  bytes = (let e : m.size ≡ 0 + m.size = omega arith in e) i;
  some = record { write = or_none r.write m.rights.write (ap (λ r. r.write) same) i; user = or_none r.user m.rights.user (ap (λ r. r.user) same) i; execute = or_none r.execute m.rights.execute (ap (λ r. r.execute) same) i };
  all = record { write = and_all r.write m.rights.write (ap (λ r. r.write) same) i; user = and_all r.user m.rights.user (ap (λ r. r.user) same) i; execute = and_all r.execute m.rights.execute (ap (λ r. r.execute) same) i };
}
  where
    or_none : (b c : Bool) → b ≡ c → b ≡ (c || false)
    or_none b true e = e
    or_none b false e = e

    and_all : (b c : Bool) → b ≡ c → b ≡ (c && true)
    and_all b true e = e
    and_all b false e = e

-- a mapping with another start is wanted exactly if the mapping is
wanted_at : (wanted : Option ℕ) (m : Mapping) (start : ℕ) → is_wanted wanted (record m { start = start }) ≡ is_wanted wanted m
wanted_at None m start = refl
wanted_at (Some a) m start = refl

pub of_wanted : (wanted : Option ℕ) (m : Mapping) (start : ℕ) (r : Rights) → r ≡ m.rights → is_wanted wanted m ≡ true
    → one_summary m.size r ≡ summary_of (filter (is_wanted wanted) (record m { start = start } ∷ []))
of_wanted wanted m start r same is = let n : Mapping = record m { start = start } in
    of_one n r same ∙ ap (λ b. summary_of (cond b (n ∷ []) [])) (sym (wanted_at wanted m start ∙ is))

pub of_unwanted : (wanted : Option ℕ) (m : Mapping) (start : ℕ) → is_wanted wanted m ≡ false
    → no_summary ≡ summary_of (filter (is_wanted wanted) (record m { start = start } ∷ []))
of_unwanted wanted m start is = let n : Mapping = record m { start = start } in
    of_nothing ∙ ap (λ b. summary_of (cond b (n ∷ []) [])) (sym (wanted_at wanted m start ∙ is))

-- ---- entry by entry

-- the summary of the mappings by an entry that names a table
pub of_table : (asked : Asked) (n start e f : ℕ) (r : Rights) (s : Summary) → Table f ≡ target_of (n + 1) e → r ≡ granted every_right e
    → s ≡ summary_of (asked_mappings asked n f) → lessened r s ≡ summary_of (asked_by asked (n + 1) start every_right e)
of_table asked n start e f r s named rights is =
    ap (lessened r) is ∙ sym (summary-placed start r (asked_mappings asked n f))
    ∙ ap summary_of (ap (λ r. map (placed start r) (asked_mappings asked n f)) rights
    ∙ ap (λ k. map (placed start (granted every_right e)) (asked_mappings asked k f)) (let e : n ≡ n + 1 - 1 = omega arith in e)
    ∙ sym (by_table asked (n + 1) start every_right e f named))

-- one entry more
pub sum_more : (asked : Asked) (level i : ℕ) (words : List ℕ) (sum part : Summary) → i < length words
    → sum ≡ summary_of (asked_on asked level 0 every_right (take i words))
    → ((start : ℕ) → part ≡ summary_of (asked_by asked level start every_right (get_or words i 0)))
    → joined sum part ≡ summary_of (asked_on asked level 0 every_right (take (i + 1) words))
sum_more asked level i words sum part less is one =
    let front = asked_on asked level 0 every_right (take i words) in
    let back = asked_by asked level (0 + i * span level) every_right (get_or words i 0) in
    (λ k. joined (is k) (one (0 + i * span level) k)) ∙ sym (summary-append front back) ∙ ap summary_of (sym (on_more asked level 0 every_right words i less))

-- ---- small pages

-- the page by an entry of level one
abbrev pub small_page_by : (entry : ℕ) → Mapping
small_page_by e = page_from 0 1 every_right e

-- no page
pub no_bits : of_bits 0 0 0xffff_ffff_ffff_ffff ≡ summary_of []
unfolding summary_of has
no_bits = refl

-- the bits of one entry more
bits_more : (count some all e : ℕ) → of_bits (count + 1) (bit_or some e) (bit_and all e) ≡ joined (of_bits count some all) (one_summary 4096 (granted every_right e))
bits_more count some all e =
    let more : (count + 1) * 4096 ≡ count * 4096 + 4096 = omega arith in λ i. record {
      count = count + 1;
      bytes = more i;
      some = record { write = has_either some e 1 i; user = has_either some e 2 i; execute = lacks_either all e 63 i };
      all = record { write = has_both all e 1 i; user = has_both all e 2 i; execute = lacks_both some e 63 i };
    }

-- a wanted page more
pub page_more : (asked : Asked) (i : ℕ) (words : List ℕ) (count some all : ℕ) → (let e = get_or words i 0 in i < length words
    → Page ≡ target_of 1 e → is_wanted asked.wanted (small_page_by e) ≡ true
    → of_bits count some all ≡ summary_of (asked_on asked 1 0 every_right (take i words))
    → of_bits (count + 1) (bit_or some e) (bit_and all e) ≡ summary_of (asked_on asked 1 0 every_right (take (i + 1) words)))
page_more asked i words count some all less page wanted is =
    let e = get_or words i 0 in
    let r = granted every_right e in
    bits_more count some all e
    ∙ sum_more asked 1 i words (of_bits count some all) (one_summary 4096 r) less is (λ start.
    of_wanted asked.wanted (small_page_by e) start r refl wanted
    ∙ ap (λ t. summary_of (filter (is_wanted asked.wanted) (mappings_at asked.words 1 start every_right e t))) page)

-- a page that isn't wanted
pub page_unwanted : (asked : Asked) (i : ℕ) (words : List ℕ) (sum : Summary) → i < length words
    → Page ≡ target_of 1 (get_or words i 0) → is_wanted asked.wanted (small_page_by (get_or words i 0)) ≡ false
    → sum ≡ summary_of (asked_on asked 1 0 every_right (take i words)) → sum ≡ summary_of (asked_on asked 1 0 every_right (take (i + 1) words))
page_unwanted asked i words sum less page unwanted is =
    let e = get_or words i 0 in
    let s = 0 + i * span 1 in
    visited_same asked 1 0 every_right words i less (λ ms. sum ≡ summary_of ms)
    (ap (λ t. filter (is_wanted asked.wanted) (mappings_at asked.words 1 s every_right e t)) (sym page)
    ∙ ap (λ b. cond b (page_from s 1 every_right e ∷ []) []) (wanted_at asked.wanted (small_page_by e) s ∙ unwanted)) is
