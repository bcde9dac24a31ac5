-- The words of the parts of a page.
use Rattle.std.proofs.Common.{◌≡◌, ◌<◌, ◌+◌, ◌*◌, ◌/◌, ◌==◌, ◌&&◌, not, ℕ, Bool, true, false, cond, Some, None, Option, option_map, bit_and, bit_or, refl, ap, ap₂, ◌∙◌, arith}
use Rattle.std.proofs.lemmas.Nat.{and_assoc}
use Rattle.std.specs.Int.Bits.{and_zero_l, and_zero_r}
use Rattle.x86_64_model.specs.Caches.{PartialWalk, walk_with_rights, walked_in}
use Rattle.x86_64_model.specs.Entry.{has, present, writable, user, huge, no_execute, address, flags}
use Rattle.x86_64_model.specs.Laws.Splits.{arrival_of_way, AreParts, AllowsAll, part_of_2mib, part_of_1gib, PagesHaveParts, ArrivalsSayWalks}
use Rattle.x86_64_model.specs.PageWalk.{page_start}
use Rattle.x86_64_model.specs.Position.{span}
use Rattle.x86_64_model.proofs.Lemmas.Caches.Walks.{walks_with_rights}
use Rattle.x86_64_model.proofs.Lemmas.Entries.Bits.{has_or, address_or, has_flags, only_flags, address_is}
use Rattle.x86_64_model.proofs.Lemmas.Entries.Words.{address-multiple, address-flags}

-- flags that are left of an entry
has_left : (e mask f : ℕ) → bit_and mask f ≡ f → has (bit_and e mask) f ≡ has e f
unfolding has
has_left e mask f h = ap (λ x. x == f) (and_assoc f e mask ∙ ap (bit_and e) h)

no_address_left : (e : ℕ) → address (bit_and e 0xfff0_0000_0000_0f7f) ≡ 0
unfolding address
no_address_left e = and_assoc 0x000f_ffff_ffff_f000 e 0xfff0_0000_0000_0f7f ∙ and_zero_r e

-- ---- a 2MiB page

base_2 : (e j : ℕ) → j < 512 → address (page_start 2 e + j * span 1) ≡ page_start 2 e + j * span 1
base_2 e j small = address-multiple (page_start 2 e + j * span 1) (omega (arith, address_is e))
    (omega (arith, address_is e, small))

no_pat_in : (b : Bool) (f : ℕ) → bit_and 0x80 f ≡ 0 → bit_and (cond b 0x80 0) f ≡ 0
no_pat_in true f h = h
no_pat_in false f h = and_zero_l f

no_pat_address : (b : Bool) → address (cond b 0x80 0) ≡ 0
unfolding address
no_pat_address true = refl
no_pat_address false = refl

-- the flags of a part of a 2MiB page
abbrev small_flags : (e : ℕ) → ℕ
small_flags e = bit_or (bit_and e 0xfff0_0000_0000_0f7f) (cond (has e 0x1000) 0x80 0)

small_address : (e : ℕ) → address (small_flags e) ≡ 0
small_address e = address_or (bit_and e 0xfff0_0000_0000_0f7f) (cond (has e 0x1000) 0x80 0)
    (no_pat_address (has e 0x1000)) ∙ no_address_left e

small_has : (e j f : ℕ) → j < 512 → bit_and 0x000f_ffff_ffff_f000 f ≡ 0 → bit_and 0x80 f ≡ 0
    → bit_and 0xfff0_0000_0000_0f7f f ≡ f → has (part_of_2mib e j) f ≡ has e f
small_has e j f small apart none left =
    only_flags (page_start 2 e + j * span 1) (small_flags e) f (base_2 e j small) apart
    ∙ has_or (bit_and e 0xfff0_0000_0000_0f7f) (cond (has e 0x1000) 0x80 0) f
    (no_pat_in (has e 0x1000) f none)
    ∙ has_left e 0xfff0_0000_0000_0f7f f left

small_start : (e j : ℕ) → j < 512 → page_start 1 (part_of_2mib e j) ≡ page_start 2 e + j * span 1
small_start e j small =
    ap (λ a. a / span 1 * span 1) (address_or (page_start 2 e + j * span 1) (small_flags e)
    (small_address e) ∙ base_2 e j small)
    ∙ (let a = address_is e in omega (arith, a))

both_of : (a b c : Bool) → a ≡ true → b ≡ c → (a && b) ≡ c
both_of a b c x y = ap₂ (λ a b. a && b) x y

parts_2 : (e t : ℕ) (part : ℕ → ℕ) → AllowsAll t → ((j : ℕ) → j < 512 → part j ≡ part_of_2mib e j)
    → AreParts 1 e t part
parts_2 e t part allows is = record {
  pages = λ j small. refl;
  frames = λ j small. ap (page_start 1) (is j small) ∙ small_start e j small;
  present = λ j small. ap present (is j small) ∙ small_has e j 0x1 small refl refl refl;
  write = λ j small. both_of (writable t) (writable (part j)) (writable e) allows.write
      (ap writable (is j small) ∙ small_has e j 0x2 small refl refl refl);
  user = λ j small. both_of (user t) (user (part j)) (user e) allows.user
      (ap user (is j small) ∙ small_has e j 0x4 small refl refl refl);
  execute = λ j small. both_of (not (no_execute t)) (not (no_execute (part j))) (not (no_execute e))
      (ap not allows.execute) (ap (λ w. not (no_execute w)) (is j small)
      ∙ ap not (small_has e j 0x8000_0000_0000_0000 small refl refl refl));
}

-- ---- a 1GiB page

base_3 : (e j : ℕ) → j < 512 → address (page_start 3 e + j * span 2) ≡ page_start 3 e + j * span 2
base_3 e j small = address-multiple (page_start 3 e + j * span 2) (omega (arith, address_is e))
    (omega (arith, address_is e, small))

large_has : (e j f : ℕ) → j < 512 → bit_and 0x000f_ffff_ffff_f000 f ≡ 0
    → bit_and 0xfff0_0000_0000_0fff f ≡ f → has (part_of_1gib e j) f ≡ has e f
large_has e j f small apart left = only_flags (page_start 3 e + j * span 2) (flags e) f
    (base_3 e j small) apart ∙ has_flags e f left

large_start : (e j : ℕ) → j < 512 → page_start 2 (part_of_1gib e j) ≡ page_start 3 e + j * span 2
large_start e j small =
    ap (λ a. a / span 2 * span 2) (address_or (page_start 3 e + j * span 2) (flags e) (address-flags e)
    ∙ base_3 e j small)
    ∙ (let a = address_is e in omega (arith, a))

parts_3 : (e t : ℕ) (part : ℕ → ℕ) → AllowsAll t → huge e ≡ true
    → ((j : ℕ) → j < 512 → part j ≡ part_of_1gib e j) → AreParts 2 e t part
parts_3 e t part allows is_page is = record {
  pages = λ j small. ap (λ b. b && true)
      (ap huge (is j small) ∙ large_has e j 0x80 small refl refl ∙ is_page);
  frames = λ j small. ap (page_start 2) (is j small) ∙ large_start e j small;
  present = λ j small. ap present (is j small) ∙ large_has e j 0x1 small refl refl;
  write = λ j small. both_of (writable t) (writable (part j)) (writable e) allows.write
      (ap writable (is j small) ∙ large_has e j 0x2 small refl refl);
  user = λ j small. both_of (user t) (user (part j)) (user e) allows.user
      (ap user (is j small) ∙ large_has e j 0x4 small refl refl);
  execute = λ j small. both_of (not (no_execute t)) (not (no_execute (part j))) (not (no_execute e))
      (ap not allows.execute) (ap (λ w. not (no_execute w)) (is j small)
      ∙ ap not (large_has e j 0x8000_0000_0000_0000 small refl refl));
}

pub pages_have_parts : PagesHaveParts
pages_have_parts e t part allows = (parts_2 e t part allows, λ is_page plain. parts_3 e t part allows is_page)

-- ---- and the page walk

pub arrivals_say_walks : ArrivalsSayWalks
arrivals_say_walks L T root p = walks_with_rights L T root p ∙ by (walk_with_rights L T root p)
  where
    by : (o : Option PartialWalk) → option_map (λ w. walked_in L p w) o
        ≡ option_map (λ a. record { address = a.address; write = a.rights.write; user = a.rights.user })
        (option_map (arrival_of_way L p) o)
    by None = refl
    by (Some w) = refl
