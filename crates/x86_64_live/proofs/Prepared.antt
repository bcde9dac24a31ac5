-- Tables that are made after a look: they are refused as the look says, or made.
use Rattle.std.proofs.Common.{◌≡◌, ℕ, length, Option, None, Result, Ok, Err, OnErr, IsSome, sym, ap, ◌∙◌, subst}
use Rattle.x86_64_live.specs.Prepares.{Prepares, made_or_nothing}
use Rattle.x86_64_live.specs.WouldAnswer.{WouldRefuse}
use Rattle.x86_64_mappers.specs.Supplies.{Supply}
use Rattle.x86_64_mappers.specs.TablesAbove.{AfterTables, CreatesAbove, tables_refusal, tables_rule}
use Rattle.x86_64_model.proofs.Lemmas.Machines.WordsAlone.{in_words, keeps_alone}
use Rattle.x86_64_model.specs.Hierarchy.{◌laid_in◌, Hierarchy, paths, path_of}
use Rattle.x86_64_model.specs.Layout.{Layout}
use Rattle.x86_64_model.specs.Memory.{Memory}
use Rattle.x86_64_model.specs.Path.{parents}
use Rattle.x86_64_model.specs.Refusal.{Refusal}
use Rattle.x86_64_tables.specs.declared.errors.MapToError.{MapToError}

-- ---- by the look

module _ {Lent : Type 0} (h : Hierarchy Lent) (supply : Supply) (level page more : ℕ) where
  abbrev rule : AfterTables
  rule = tables_rule (paths h) supply.frames more h.layout.added_flags (parents (path_of h level page))

  module _ (refusal : Option Refusal) (after : Hierarchy Lent) (rest : Supply) (creates : CreatesAbove h supply level page more refusal after rest) (is : rule.refusal ≡ None) where
    none_left : refusal ≡ None
    none_left = ap (λ (a : AfterTables). a.refusal) creates.outcome ∙ is

    pub made_by_look : Prepares h supply level page more refusal after rest
    made_by_look = record {
      outcome = creates.outcome ∙ sym (ap (made_or_nothing (paths h) supply.frames rule) is);
      done = λ _. creates;
      refused = λ some. absurd (let none : IsSome {T = Refusal} None = subst IsSome none_left some in cc);
    }

-- tables that were made have no error
no_error : {S X : Type 0} (result : Result X (MapToError S)) (P : Type 0) → tables_refusal result ≡ None → OnErr result P
no_error (Ok x) P is = tt
no_error (Err why) P is = cc

-- ---- the mapper's hierarchy and the words alone

module _ {Lent : Type 0} (h : Hierarchy Lent) (l : Layout) (m : Memory) (layout : h.layout ≡ l) (memory : h.memory ≡ m) where
  -- what the mapper did, of the words alone
  made_in_words : (after : Hierarchy Lent) (n : Memory) → after.memory ≡ n → (supply rest : Supply) (level page more : ℕ) (refusal : Option Refusal)
      → CreatesAbove h supply level page more refusal after rest → CreatesAbove (l laid_in m) supply level page more refusal (l laid_in n) rest
  made_in_words after n left supply rest level page more refusal creates =
      in_words h after l m n layout memory left creates.keeps.layout (λ before last. CreatesAbove before supply level page more refusal last rest) (record {
        outcome = creates.outcome;
        made = creates.made;
        entries = creates.entries;
        fits = creates.fits;
        conserved = creates.conserved;
        walks = creates.walks;
        keeps = keeps_alone creates.keeps;
        serves = creates.serves;
      })

  -- tables are made if the look found no reason against it
  pub made_after_look : {E X : Type 0} (after : Hierarchy Lent) (n : Memory) → after.memory ≡ n → (supply rest : Supply) (free : ℕ) → length supply.frames ≡ free → (level page more : ℕ) (result : Result X (MapToError E))
      → WouldRefuse (l laid_in m) level page free None → CreatesAbove h supply level page more (tables_refusal result) after rest
      → Prepares (l laid_in m) supply level page more (tables_refusal result) (l laid_in n) rest × ((P : Type 0) → OnErr result P)
  made_after_look after n left supply rest free count level page more result would creates =
      let here = made_in_words after n left supply rest level page more (tables_refusal result) creates in
      let is = would supply.frames more count in (
        made_by_look (l laid_in m) supply level page more (tables_refusal result) (l laid_in n) rest here is,
        λ P. no_error result P (none_left (l laid_in m) supply level page more (tables_refusal result) (l laid_in n) rest here is),
      )
