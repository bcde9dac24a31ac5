-- The words that a page walk reads, by what each leads to.
use Rattle.std.proofs.Common.{zero, suc, ◌≡◌, ◌≤◌, ◌-◌, ℕ, ◌&&◌, Bool, true, false, not, cond, List, [], ◌∷◌, ◌++◌, map, length, append-nil, append_assoc, Option, Some, None, option_map, unwrap_or, refl, sym, ap, ◌∙◌, arith}
use Rattle.std.proofs.Math.Bool.{and-true, and_assoc}
use Rattle.std.specs.List.{last_or, list_all}
use Rattle.x86_64_model.specs.Entry.{present, huge, address, no_execute, user, writable}
use Rattle.x86_64_model.specs.Mappings.{Rights, every_right, granted, maps_page}
use Rattle.x86_64_model.specs.Memory.{Words}
use Rattle.x86_64_model.specs.PageWalk.{read}
use Rattle.x86_64_model.specs.Position.{index}
use Rattle.x86_64_model.specs.Steps.{Step, leads_on, rights_in, steps}
use Rattle.x86_64_model.proofs.Lemmas.Walks.Steps.{step, steps_some}
use Rattle.x86_64_tables.specs.EntryTargets.{target_of}
use Rattle.x86_64_tables.specs.declared.page_table.target.EntryTarget.{EntryTarget}
use Rattle.x86_64_tables.specs.declared.page_table.target.EntryTarget.TheVariants.{Nothing, Page, Table}

-- the words that are read below a word with a target
abbrev pub steps_below : Words → (p level : ℕ) → EntryTarget → List Step
steps_below T p level (Table frame) = steps T p (level - 1) frame
steps_below T p level other = []

pub nothing_below : (T : Words) (p level : ℕ) (target : EntryTarget) → ((frame : ℕ) → target ≡ Table frame → ⊥) → steps_below T p level target ≡ []
nothing_below T p level Nothing other = refl
nothing_below T p level Page other = refl
nothing_below T p level (Table frame) other = absurd (other frame refl)

below : (T : Words) (p level e : ℕ) → cond (leads_on level e) (steps T p (level - 1) (address e)) [] ≡ steps_below T p level (target_of level e)
below T p level e = each (present e) (maps_page level e) (huge e)
  where
    each : (b m h : Bool) → cond (b && not m && not h) (steps T p (level - 1) (address e)) [] ≡ steps_below T p level (cond b (cond m Page (cond h Nothing (Table (address e)))) Nothing)
    each false m h = refl
    each true true h = refl
    each true false true = refl
    each true false false = refl

pub reads_one : (T : Words) (p level frame e : ℕ) → 1 ≤ level → Some e ≡ read T frame (index level p)
    → steps T p level frame ≡ step p level frame e ∷ steps_below T p level (target_of level e)
reads_one T p level frame e low is = steps_some T p level frame e low is ∙ ap (λ rest. step p level frame e ∷ rest) (below T p level e)

-- ---- a loop that reads one word after the other

-- a walk reads at most a word of each level
pub steps_within : (T : Words) (p level frame : ℕ) → length (steps T p level frame) ≤ level
unfolding steps
steps_within T p zero frame = omega arith
steps_within T p (suc n) frame = by (read T frame (index (suc n) p)) (λ e. steps_within T p n (address e))
  where
    on : (s : Step) (below : List Step) → length below ≤ n → (b : Bool) → length (s ∷ cond b below []) ≤ suc n
    on s below short true = omega (arith, short)
    on s below short false = omega arith

    by : (o : Option ℕ) → ((e : ℕ) → length (steps T p n (address e)) ≤ n)
        → length (unwrap_or (option_map (λ e. step p (suc n) frame e ∷ cond (leads_on (suc n) e) (steps T p n (address e)) []) o) []) ≤ suc n
    by None short = omega arith
    by (Some e) short = on (step p (suc n) frame e) (steps T p n (address e)) (short e) (leads_on (suc n) e)

pub last_more : {X : Type 0} (o : Option X) (read : List X) (x : X) → last_or o (read ++ x ∷ []) ≡ Some x
last_more o [] x = refl
last_more o (y ∷ read) x = last_more (Some y) read x

all_more : (f : ℕ → Bool) (read : List Step) (s : Step) → (list_all f (map (λ s. s.word) read) && f s.word) ≡ list_all f (map (λ s. s.word) (read ++ s ∷ []))
all_more f [] s = sym (and-true (f s.word))
all_more f (t ∷ read) s = and_assoc (f t.word) (list_all f (map (λ s. s.word) read)) (f s.word) ∙ ap (λ b. f t.word && b) (all_more f read s)

-- some of all words have been read, which grant the rights, and the rest is to come
pub record HaveRead (all read rest : List Step) (r : Rights) : Type 0 where
  pub all_are : read ++ rest ≡ all
  pub rights_are : r ≡ rights_in read

pub read_none : (all : List Step) → HaveRead all [] all every_right
read_none all = record { all_are = refl; rights_are = refl }

pub read_more : (all read rest left : List Step) (r : Rights) (s : Step) → HaveRead all read rest r → rest ≡ s ∷ left → HaveRead all (read ++ s ∷ []) left (granted r s.word)
read_more all read rest left r s have is = record {
  all_are = append_assoc read (s ∷ []) left ∙ sym (ap (λ more. read ++ more) is) ∙ have.all_are;
  rights_are = ap (λ (k : Rights). granted k s.word) have.rights_are ∙ rw (all_more writable read s, all_more user read s, all_more (λ e. not (no_execute e)) read s) refl;
}

pub read_all : (all read rest : List Step) (r : Rights) → HaveRead all read rest r → rest ≡ [] → read ≡ all
read_all all read rest r have is = sym (append-nil read) ∙ sym (ap (λ more. read ++ more) is) ∙ have.all_are
