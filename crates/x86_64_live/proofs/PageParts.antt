-- The words of the parts of a larger page map its parts.
use Rattle.std.proofs.Common.{suc, ◌≡◌, ◌⊎◌, inl, inr, ⊎_elim, ◌<◌, ◌≤◌, ◌+◌, ◌-◌, ◌*◌, ◌/◌, ◌==◌, ◌||◌, ◌&&◌, not, ℕ, Bool, true, false, cond, List, map, take, length, get_or, Some, None, bit_and, bit_or, refl, sym, ap, ap₂, ◌∙◌, subst, arith, eqb-true}
use Rattle.std.proofs.lemmas.Nat.{and_assoc, and_le_r}
use Rattle.std.proofs.lemmas.List.{take_all}
use Rattle.std.proofs.lemmas.List.FromFn.{get_or-map-range_with_len}
use Rattle.std.proofs.lemmas.Option.{none-some}
use Rattle.std.specs.List.{range_with_len}
use Rattle.std.specs.Int.Bits.{or_add_and}
use Rattle.x86_64_live.specs.Parts.{part_of, parts_of, part_bits, IsPartOf, MapsParts, split_refusal}
use Rattle.x86_64_live.specs.declared.parts.SplitError.TheVariants.{NoSuchLevel, PageNotMapped, HasTable, InvalidFrameAddress}
use Rattle.x86_64_model.specs.Access.{low_bits}
use Rattle.x86_64_model.specs.Entry.{used, has, present, writable, user, huge, no_execute, address, flags}
use Rattle.x86_64_model.specs.Laws.Splits.{AreParts, AllowsAll, part_of_2mib, part_of_1gib}
use Rattle.x86_64_model.specs.Mappings.{Rights, every_right, granted, maps_page}
use Rattle.x86_64_model.specs.PageWalk.{page_start}
use Rattle.x86_64_model.specs.Position.{span}
use Rattle.x86_64_model.proofs.Lemmas.Entries.Bits.{has_or, address_or, and_or_distrib, has_flags, only_flags, address_is}
use Rattle.x86_64_model.proofs.Lemmas.Entries.Words.{address-multiple, address-flags}
use Rattle.x86_64_model.proofs.Lemmas.Live.PartWords.{pages_have_parts}

-- a word is the part of a page of the level above: it lies there, and has the page's flags
record IsPartWord (level e start p : ℕ) : Type 0 where
  pages : maps_page level p ≡ true
  lies : page_start level p ≡ start
  there : present p ≡ present e
  write : writable p ≡ writable e
  user_is : user p ≡ user e
  execute : no_execute p ≡ no_execute e

-- ---- a 2MiB page

-- an entry that takes no right
allows_all : AllowsAll 0x7
unfolding has
allows_all = record { write = refl; user = refl; execute = refl }

not_same : (a b : Bool) → not a ≡ not b → a ≡ b
not_same true true h = refl
not_same true false h = sym h ∙ refl
not_same false true h = sym h ∙ refl
not_same false false h = refl

small_part : (e j : ℕ) → j < 512 → IsPartWord 1 e (page_start 2 e + j * span 1) (part_of_2mib e j)
unfolding has
small_part e j small =
    let parts = (pages_have_parts e 0x7 (part_of_2mib e) allows_all).0 (λ j _. refl) in record {
      pages = refl;
      lies = parts.frames j small;
      there = parts.present j small;
      write = parts.write j small;
      user_is = parts.user j small;
      execute = not_same _ _ (parts.execute j small);
    }

-- ---- a 1GiB page

-- the address at which a part of a 1GiB page starts
abbrev start_3 : (e j : ℕ) → ℕ
start_3 e j = page_start 3 e + j * span 2

base_3 : (e j : ℕ) → j < 512 → address (start_3 e j) ≡ start_3 e j
base_3 e j small = address-multiple (start_3 e j) (omega (arith, address_is e)) (omega (arith, address_is e, small))

-- the bit PAT of the page
abbrev pat_3 : Bool → ℕ
pat_3 b = cond b 0x1000 0

no_flag_in : (b : Bool) (f : ℕ) → bit_and 0x1000 f ≡ 0 → bit_and (pat_3 b) f ≡ 0
no_flag_in true f h = h
no_flag_in false f h = refl

large_has : (e j f : ℕ) → j < 512 → bit_and 0x000f_ffff_ffff_f000 f ≡ 0 → bit_and 0x1000 f ≡ 0
    → bit_and 0xfff0_0000_0000_0fff f ≡ f → has (part_of 3 e j) f ≡ has e f
large_has e j f small apart none left =
    has_or (part_of_1gib e j) (pat_3 (has e 0x1000)) f (no_flag_in (has e 0x1000) f none)
    ∙ only_flags (start_3 e j) (flags e) f (base_3 e j small) apart ∙ has_flags e f left

large_address : (e j : ℕ) → j < 512 → address (part_of 3 e j) ≡ bit_or (start_3 e j) (address (pat_3 (has e 0x1000)))
unfolding address
large_address e j small =
    and_or_distrib (part_of_1gib e j) (pat_3 (has e 0x1000)) 0x000f_ffff_ffff_f000
    ∙ ap (λ a. bit_or a (bit_and (pat_3 (has e 0x1000)) 0x000f_ffff_ffff_f000))
    (address_or (start_3 e j) (flags e) (address-flags e) ∙ base_3 e j small)

pat_address : (b : Bool) → address (pat_3 b) ≤ 0x1000
unfolding address
pat_address true = omega arith
pat_address false = omega arith

large_start : (e j : ℕ) → j < 512 → page_start 2 (part_of 3 e j) ≡ start_3 e j
large_start e j small =
    let p = address (pat_3 (has e 0x1000)) in
    let both = or_add_and (start_3 e j) p in
    ap (λ a. a / span 2 * span 2) (large_address e j small)
    ∙ omega (arith, both, and_le_r (start_3 e j) p, pat_address (has e 0x1000), address_is e)

large_part : (e j : ℕ) → huge e ≡ true → j < 512 → IsPartWord 2 e (start_3 e j) (part_of 3 e j)
large_part e j is_page small = record {
  pages = ap (λ b. b && true) (large_has e j 0x80 small refl refl refl ∙ is_page);
  lies = large_start e j small;
  there = large_has e j 0x1 small refl refl refl;
  write = large_has e j 0x2 small refl refl refl;
  user_is = large_has e j 0x4 small refl refl refl;
  execute = large_has e j 0x8000_0000_0000_0000 small refl refl refl;
}

-- ---- words that map the parts

-- what a word has that agrees with another one on the kind
kind_has : (p w f : ℕ) → bit_and part_bits f ≡ f → bit_and p part_bits ≡ bit_and w part_bits → has p f ≡ has w f
unfolding has
kind_has p w f within same =
    ap (λ x. x == f) (sym (ap (bit_and p) within) ∙ sym (and_assoc f p part_bits) ∙ ap (λ x. bit_and x f) same ∙ and_assoc f w part_bits ∙ ap (bit_and w) within)

kind_address : (p w : ℕ) → bit_and p part_bits ≡ bit_and w part_bits → address p ≡ address w
unfolding address
kind_address p w same =
    sym (and_assoc 0x000f_ffff_ffff_f000 p part_bits) ∙ ap (λ x. bit_and x 0x000f_ffff_ffff_f000) same ∙ and_assoc 0x000f_ffff_ffff_f000 w part_bits

-- words that map the parts are parts, as the laws of splits say it
parts_like : (level e t : ℕ) (part : ℕ → ℕ)
    → ((j : ℕ) → j < 512 → IsPartWord level e (page_start (suc level) e + j * span level) (part_of (suc level) e j))
    → ((j : ℕ) → j < 512 → IsPartOf (suc level) e t j (part j))
    → ((p w : ℕ) → bit_and p part_bits ≡ bit_and w part_bits → maps_page level p ≡ maps_page level w)
    → AreParts level e t part
parts_like level e t part is maps pages = record {
  pages = λ j small. pages (part j) (part_of (suc level) e j) (maps j small).kind ∙ (is j small).pages;
  frames = λ j small. ap (λ a. a / span level * span level) (kind_address (part j) (part_of (suc level) e j) (maps j small).kind) ∙ (is j small).lies;
  present = λ j small. kind_has (part j) (part_of (suc level) e j) 0x1 refl (maps j small).kind ∙ (is j small).there;
  write = λ j small. ap (λ (r : Rights). r.write) (maps j small).rights;
  user = λ j small. ap (λ (r : Rights). r.user) (maps j small).rights;
  execute = λ j small. ap (λ (r : Rights). r.execute) (maps j small).rights;
}

-- a page that has parts has one of the two levels, and HUGE_PAGE
has_parts : (two three some large whole : Bool)
    → cond (not (two || three)) (Some NoSuchLevel) (cond (not some) (Some PageNotMapped) (cond (not large) (Some HasTable) (cond whole None (Some InvalidFrameAddress)))) ≡ None
    → ((two ≡ true) ⊎ (three ≡ true)) × (large ≡ true)
has_parts true three true true whole is = (inl refl, refl)
has_parts false true true true whole is = (inr refl, refl)
has_parts true three false large whole is = absurd (none-some _ (sym is))
has_parts true three true false whole is = absurd (none-some _ (sym is))
has_parts false true false large whole is = absurd (none-some _ (sym is))
has_parts false true true false whole is = absurd (none-some _ (sym is))
has_parts false false some large whole is = absurd (none-some _ (sym is))

-- what is proved of pages of levels two and three holds of all that have parts
by_levels : (P : ℕ → Type 0) (level e : ℕ) → split_refusal level e ≡ None → (huge e ≡ true → P 2) → (huge e ≡ true → P 3) → P level
by_levels P level e page small large =
    let has = has_parts (level == 2) (level == 3) (used e) (huge e) (bit_and e (low_bits level) == 0) page in
    ⊎_elim (λ two. subst P (sym (eqb-true level 2 two)) (small has.1)) (λ three. subst P (sym (eqb-true level 3 three)) (large has.1)) has.0

pub are_parts : (level e t : ℕ) (words : List ℕ) → MapsParts level e t words → AreParts (level - 1) e t (λ j. get_or words j 0)
are_parts level e t words maps =
    by_levels (λ level. ((j : ℕ) → j < 512 → IsPartOf level e t j (get_or words j 0)) → AreParts (level - 1) e t (λ j. get_or words j 0)) level e maps.page
    (λ _ parts. parts_like 1 e t (λ j. get_or words j 0) (λ j small. small_part e j small) parts (λ p w same. refl))
    (λ is_page parts. parts_like 2 e t (λ j. get_or words j 0) (λ j small. large_part e j is_page small) parts
    (λ p w same. ap (λ b. b && true) (kind_has p w 0x80 refl same)))
    maps.parts

-- ---- words that are written

abbrev rights : (write user execute : Bool) → Rights
rights w u x = record { write = w; user = u; execute = x }

-- below an entry that takes no right, a word with the page's flags grants what the page grants
grants : (level e start t p : ℕ) → AllowsAll t → IsPartWord level e start p → granted (granted every_right t) p ≡ granted every_right e
grants level e start t p all is =
    ap₂ (λ (w u : Bool). rights w u (not (no_execute t) && not (no_execute p))) (ap₂ (λ a b. a && b) all.write is.write) (ap₂ (λ a b. a && b) all.user is.user_is)
    ∙ ap (rights (writable e) (user e)) (ap₂ (λ a b. not a && not b) all.execute is.execute)

pub maps_parts : (level e t : ℕ) (words : List ℕ) → split_refusal level e ≡ None → AllowsAll t → ((j : ℕ) → j < 512 → get_or words j 0 ≡ part_of level e j)
    → MapsParts level e t words
maps_parts level e t words page all is = record {
  page = page;
  parts = λ j small. subst (IsPartOf level e t j) (sym (is j small)) (record {
    kind = refl;
    rights = by_levels (λ level. granted (granted every_right t) (part_of level e j) ≡ granted every_right e) level e page
        (λ _. grants 1 e (page_start 2 e + j * span 1) t (part_of 2 e j) all (small_part e j small))
        (λ is_page. grants 2 e (start_3 e j) t (part_of 3 e j) all (large_part e j is_page small));
  });
}

-- ---- a table of the words

-- a table whose words so far are those of the parts, when it has all of them
pub all_parts : (level e : ℕ) (words : List ℕ) (n : ℕ) → n ≡ 512 → length words ≡ 512 → take n words ≡ map (part_of level e) (range_with_len 0 n) → words ≡ parts_of level e
unfolding parts_of
all_parts level e words n all size read = sym (take_all n words (omega arith)) ∙ read ∙ ap (λ count. map (part_of level e) (range_with_len 0 count)) all

-- the words of a table of the parts
pub part_read : (level e j : ℕ) → j < 512 → get_or (parts_of level e) j 0 ≡ part_of level e j
unfolding parts_of
part_read level e j small = get_or-map-range_with_len (part_of level e) 0 512 j j 0 small (omega arith)
