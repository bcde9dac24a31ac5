-- Where no word has a bit that only some processors reserve.
use Rattle.std.proofs.Common.{◌≡◌, ◌≤◌, ℕ, ◌&&◌, ◌||◌, ◌==◌, nat_le, Bool, true, false, true≢false, refl, arith}
use Rattle.std.proofs.Math.Bool.{and-false}
use Rattle.std.proofs.lemmas.Bool.{lt-leb}
use Rattle.x86_64_model.specs.Access.{Controls, reserved_by_some}
use Rattle.x86_64_model.specs.Entry.{huge, global}

-- at levels below three
pub low_none : (c : Controls) (level e : ℕ) → (level == 3) ≡ false → nat_le 4 level ≡ false → reserved_by_some c level e ≡ false
low_none c level e three four = rw (three, four) (by c.no_1gib_pages c.global_reserved)
  where
    by : (n g : Bool) → ((n && false && huge e) || (g && false && global e)) ≡ false
    by true true = refl
    by true false = refl
    by false true = refl
    by false false = refl

-- in a word that lacks HUGE_PAGE, and GLOBAL if that is reserved somewhere
pub table_none : (c : Controls) (level e : ℕ) → huge e ≡ false → (c.global_reserved && global e) ≡ false → reserved_by_some c level e ≡ false
table_none c level e small local = rw small (by (c.no_1gib_pages && (level == 3)) c.global_reserved (nat_le 4 level) (global e) local)
  where
    by : (n g f b : Bool) → (g && b) ≡ false → ((n && false) || (g && f && b)) ≡ false
    by n false f b h = rw (and-false n) refl
    by n true f false h = rw (and-false n, and-false f) refl
    by n true f true h = absurd (true≢false h)

-- in a word of a page that isn't of 1GiB, or may be
pub page_none : (c : Controls) (level e : ℕ) → level ≤ 3 → ((level == 3) && c.no_1gib_pages) ≡ false → reserved_by_some c level e ≡ false
page_none c level e low there = rw (lt-leb 4 level (omega (arith, low))) (by c.no_1gib_pages (level == 3) c.global_reserved there)
  where
    by : (n t g : Bool) → (t && n) ≡ false → ((n && t && huge e) || (g && false && global e)) ≡ false
    by true true g h = absurd (true≢false h)
    by true false true h = refl
    by true false false h = refl
    by false t true h = refl
    by false t false h = refl
