-- Levels whose entries don't have a flaw.
use Rattle.std.proofs.Common.{◌≡◌, ◌∙◌, ◌≤◌, ◌^◌, ◌==◌, ◌&&◌, ◌||◌, ℕ, zero, suc, Bool, true, false, true≢false, not, cond, nat_le, nat_lt, List, [], ◌∷◌, Option, None, Some, option_map, bit_and, refl, ap, ap₂, arith}
use Rattle.std.proofs.Math.Pow.{pow_mono}
use Rattle.std.proofs.lemmas.Bool.Decides.{nat_tests}
use Rattle.std.specs.Int.Bits.{and_zero_r}
use Rattle.std.specs.List.{cons_option, filter_map}
use Rattle.x86_64_access.specs.Accesses.{controls_of}
use Rattle.x86_64_access.specs.declared.controls.Controls.{Controls}
use Rattle.x86_64_access.proofs.ReservedBySome.{low_none}
use Rattle.x86_64_model.specs.Access.{low_bits, reserved, reserved_by_some}
use Rattle.x86_64_model.specs.Entry.{present, huge, no_execute, address}
use Rattle.x86_64_model.specs.Memory.{Words}
use Rattle.x86_64_model.specs.PageWalk.{read}
use Rattle.x86_64_model.specs.Path.{indices}
use Rattle.x86_64_model.proofs.Lemmas.Entries.Words.{address_within}
use Rattle.ptdump_check.specs.Findings.{entries_in, entry_in_table, flaw_in}
use Rattle.ptdump_check.specs.declared.findings.entry.Entry.{Entry}
use Rattle.ptdump_check.specs.declared.findings.entry.Table.{Table}
use Rattle.ptdump_check.specs.declared.findings.finding.EntryFlaw.{EntryFlaw}
use Rattle.ptdump_check.specs.declared.findings.finding.EntryFlaw.TheVariants as flaws
use Rattle.ptdump_check.specs.declared.findings.finding.Finding.{Finding}

-- no entry of a level has a flaw
abbrev pub NoneAt : EntryFlaw → (level : ℕ) → Type 0
NoneAt flaw level = (e : Entry) → e.level ≡ level → flaw_in flaw e ≡ None

-- ---- entries

none_reserved : (p s r : Bool) (o : Option Finding) → r ≡ false → cond (p && not s && r) o None ≡ None
none_reserved true true r o is = refl
none_reserved true false true o is = absurd (true≢false is)
none_reserved true false false o is = refl
none_reserved false s r o is = refl

-- a page of 4KiB has no reserved bit if the processor lacks no address bit and NO_EXECUTE is on
low_sound : (c : Controls) → 52 ≤ c.physical_bits → c.no_execute ≡ true → (level word : ℕ) → level ≤ 1 → reserved (controls_of c) level word ≡ false
unfolding reserved
low_sound c bits on level e low = by level low
  where
    within : nat_le (2 ^ c.physical_bits) (address e) ≡ false
    within =
        let high : 2 ^ 52 ≤ 2 ^ c.physical_bits = pow_mono bits in
        let below = address_within e in
        grind (arith, nat_tests)

    none : (h x : Bool) → ((false || (h && false)) || (x && false)) ≡ false
    none true true = refl
    none true false = refl
    none false true = refl
    none false false = refl

    -- a word that has no low bits of large pages
    ends : ((nat_le (2 ^ c.physical_bits) (address e) || (huge e && not (bit_and e 0 == 0))) || (no_execute e && not c.no_execute)) ≡ false
    ends = ap (λ z. (nat_le (2 ^ c.physical_bits) (address e) || (huge e && not (z == 0))) || (no_execute e && not c.no_execute)) (and_zero_r e)
        ∙ ap₂ (λ a n. (a || (huge e && false)) || (no_execute e && not n)) within on
        ∙ none (huge e) (no_execute e)

    -- nor one that only some processors reserve
    with_some : (some : Bool) → some ≡ false
        → (((some || nat_le (2 ^ c.physical_bits) (address e)) || (huge e && not (bit_and e 0 == 0))) || (no_execute e && not c.no_execute)) ≡ false
    with_some true h = absurd (true≢false h)
    with_some false h = ends

    by : (level : ℕ) → level ≤ 1 → (((reserved_by_some (controls_of c) level e || nat_le (2 ^ c.physical_bits) (address e))
        || (huge e && (nat_le 4 level || not (bit_and e (low_bits level) == 0)))) || (no_execute e && not c.no_execute)) ≡ false
    by zero low = with_some _ (low_none (controls_of c) 0 e refl refl)
    by (suc zero) low = with_some _ (low_none (controls_of c) 1 e refl refl)
    by (suc (suc n)) low = absurd (omega (arith, low))

pub none_beyond : (c : Controls) (level : ℕ) → level ≤ 1 → 52 ≤ c.physical_bits → c.no_execute ≡ true → NoneAt (flaws.ReservedBits c) level
none_beyond c level low bits on e is =
    let at : e.level ≤ 1 = omega (arith, is, low) in
    none_reserved (present e.word) (nat_lt 3 e.level && huge e.word) (reserved (controls_of c) e.level e.word) _ (low_sound c bits on e.level e.word at)

-- likewise by a test of the processor
pub none_unlimited : (c : Controls) (level : ℕ) → level ≤ 1 → (nat_lt c.physical_bits 52 || not c.no_execute) ≡ false → NoneAt (flaws.ReservedBits c) level
none_unlimited c level low is = by (nat_lt c.physical_bits 52) c.no_execute refl refl is
  where
    by : (few on : Bool) → nat_lt c.physical_bits 52 ≡ few → c.no_execute ≡ on → (few || not on) ≡ false → NoneAt (flaws.ReservedBits c) level
    by true on p q test = absurd (true≢false test)
    by false false p q test = absurd (true≢false test)
    by false true p q test = let bits : 52 ≤ c.physical_bits = grind (arith, nat_tests) in none_beyond c level low bits q

-- ---- tables

-- the entries of a table at such a level have no flaw
pub none_in : (flaw : EntryFlaw) (T : Words) (t : Table) → NoneAt flaw t.level → filter_map (flaw_in flaw) (entries_in T t) ≡ []
unfolding entries_in
none_in flaw T t none = at indices
  where
    at : (is : List ℕ) → filter_map (flaw_in flaw) (filter_map (entry_in_table T t) is) ≡ []
    at [] = refl
    at (i ∷ is) = by (read T t.frame i) (at is)
      where
        by : (o : Option ℕ) → filter_map (flaw_in flaw) (filter_map (entry_in_table T t) is) ≡ []
            → filter_map (flaw_in flaw) (cons_option (option_map (λ e. record { slot = record { table = t.frame; index = i }; level = t.level; word = e }) o) (filter_map (entry_in_table T t) is)) ≡ []
        by None rest = rest
        by (Some e) rest = ap (λ f. cons_option f (filter_map (flaw_in flaw) (filter_map (entry_in_table T t) is))) (none (record { slot = record { table = t.frame; index = i }; level = t.level; word = e }) refl) ∙ rest
