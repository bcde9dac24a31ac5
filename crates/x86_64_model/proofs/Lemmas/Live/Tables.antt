-- The tables that large pages may be split into.
use Rattle.std.proofs.Common.{◌≡◌, ◌+◌, ◌-◌, ◌&&◌, not, ℕ, true, false, List, length, get_or, bit_and, bit_or, ◌≤◌, refl, ap₂, ◌∙◌, subst, arith, eqb-true}
use Rattle.x86_64_model.specs.Entry.{has, present, huge, address, is_frame, names_table}
use Rattle.x86_64_model.specs.Laws.Splits.{AreParts, IsInParts, AllowsAll, LargePagesHaveTables}
use Rattle.x86_64_model.specs.Path.{level_of}
use Rattle.x86_64_model.proofs.Lemmas.Entries.Bits.{address_or, only_flags, used_present}
use Rattle.x86_64_model.proofs.Lemmas.Live.PartWords.{pages_have_parts}

module _ (g : ℕ) (frame : address g ≡ g) where
  flag_7 : (f : ℕ) → has 0x7 f ≡ true → bit_and 0x000f_ffff_ffff_f000 f ≡ 0 → has (bit_or g 0x7) f ≡ true
  flag_7 f is apart = only_flags g 0x7 f frame apart ∙ is

  no_flag_7 : (f : ℕ) → has 0x7 f ≡ false → bit_and 0x000f_ffff_ffff_f000 f ≡ 0 → has (bit_or g 0x7) f ≡ false
  no_flag_7 f is apart = only_flags g 0x7 f frame apart ∙ is

  is_present : present (bit_or g 0x7) ≡ true
  unfolding has
  is_present = flag_7 0x1 refl refl

  not_huge : huge (bit_or g 0x7) ≡ false
  unfolding has
  not_huge = no_flag_7 0x80 refl refl

  is_table : names_table (bit_or g 0x7) ≡ true
  is_table = ap₂ (λ u h. u && not h) (used_present (bit_or g 0x7) is_present) not_huge

  allows : AllowsAll (bit_or g 0x7)
  unfolding has
  allows = record { write = flag_7 0x2 refl refl; user = flag_7 0x4 refl refl; execute = no_flag_7 0x8000_0000_0000_0000 refl refl }

  names : address (bit_or g 0x7) ≡ g
  unfolding address
  names = address_or g 0x7 refl ∙ frame

  in_parts : (L level : ℕ) (q : List ℕ) (e : ℕ) (part : ℕ → ℕ) → huge e ≡ true → level_of L q ≡ level + 1 → (1 ≤ level) → (level ≤ 2)
      → AreParts level e (bit_or g 0x7) part → IsInParts L q e (bit_or g 0x7) g part
  in_parts L level q e part is_page at low high parts = record {
    at_least = omega (arith, at, low);
    at_most = omega (arith, at, high);
    is_page = is_page;
    is_table = is_table;
    is_present = is_present;
    names = names;
    parts = subst (λ k. AreParts k e (bit_or g 0x7) part) (let k : level ≡ L - length q = omega (arith, at) in k) parts;
  }

pub large_pages_have_tables : LargePagesHaveTables
large_pages_have_tables L q e g table is_frame is_page =
    let frame : address g ≡ g = eqb-true (address g) g is_frame in
    let words = pages_have_parts e (bit_or g 0x7) (λ j. get_or table j 0) (allows g frame) in (
      λ at are. in_parts g frame L 1 q e (λ j. get_or table j 0) is_page at (omega arith) (omega arith) (words.0 are),
      λ at plain are. in_parts g frame L 2 q e (λ j. get_or table j 0) is_page at (omega arith) (omega arith) (words.1 is_page plain are),
    )
