-- What making the tables above a page leaves of the caller's tables and pool, and the status that it has.
use Rattle.std.proofs.Common.{◌≡◌, ℕ, true, false, true≢false, not, List, Option, Some, None, Result, Ok, Err, refl, sym, ap, ap₂, ◌∙◌, subst, subst₂}
use Rattle.std.proofs.lemmas.Bool.{ne_eqb}
use Rattle.std.specs.Option.{option_or}
use Rattle.x86_64_live.specs.Prepares.{Prepares}
use Rattle.x86_64_mappers.specs.PageAnswers.{allows_page}
use Rattle.x86_64_mappers.specs.Supplies.{Supply}
use Rattle.x86_64_mappers.specs.TablesAbove.{AfterTables, tables_refusal}
use Rattle.x86_64_model.specs.Hierarchy.{Hierarchy}
use Rattle.x86_64_model.specs.Layout.{Layout}
use Rattle.x86_64_model.specs.Memory.{Memory}
use Rattle.x86_64_model.specs.Refusal.{Refusal}
use Rattle.x86_64_model.specs.Store.{KeepsPool, Store, StoreFits}
use Rattle.x86_64.proofs.Keeping.{keeps_nothing}
use Rattle.x86_64_c.specs.Arguments.{hierarchy_in, level_of_page_size, position_of}
use Rattle.x86_64_tables.specs.MapperAnswers.{map_refusal}
use Rattle.x86_64_tables.specs.declared.errors.MapToError.{MapToError}
use Rattle.x86_64_c.specs.Calls.{result_status}
use Rattle.x86_64_c.specs.PoolCalls.{loan}
use Rattle.x86_64_c.specs.Preparations.{ExecutesPreparation, PreparesPage, preparation_refusal, preparation_status, supply_in, wrong_preparation}
use Rattle.x86_64_c.specs.Status.{not_allowed, ok}
use Rattle.x86_64_c.specs.declared.arguments.Hierarchy.{Hierarchy as Given}
use Rattle.x86_64_c.specs.declared.arguments.Page.{Page}
use Rattle.x86_64_c.specs.private.OrNothing.{is_refusal}
use Rattle.x86_64_c.specs.private.Pools.{TakesStep}
use Rattle.x86_64_c.proofs.ArgumentsGiven.{kept}
use Rattle.x86_64_c.proofs.EntryChanges.{of}

module _ (l : Layout) (store : Store) (m : Memory) (level page more : ℕ) (fits : StoreFits (of l m) store) where
  stays : KeepsPool l store.serves m store.frames m store.frames
  stays = keeps_nothing l store.serves m store.frames fits

  -- one that isn't allowed
  pub not_prepared : allows_page (of l m) level page 0 more ≡ false → (n : Memory) → n ≡ m → PreparesPage (of l m) store level page more (of l n) store not_allowed
  not_prepared denied n same = subst (λ n. PreparesPage (of l m) store level page more (of l n) store not_allowed) (sym same) (record {
    status_is = ap (λ b. preparation_status b (preparation_refusal (of l m) store level page more)) (sym denied);
    prepares = λ may. absurd (true≢false (sym may ∙ denied));
    keeps = stays;
    serves = refl;
  })

  module _ (n : Memory) (rest : Store) where
    keeps_by : (refusal : Option Refusal) → Prepares (of l m) (supply_in store) level page more refusal (of l n) (supply_in rest)
        → KeepsPool l store.serves m store.frames n rest.frames × (rest.serves ≡ store.serves)
    keeps_by None prepares =
        let made = prepares.done refl in
        (record { fits = made.fits store.serves fits; conserved = made.conserved; others = λ k none. made.keeps.others k (λ f own. none f own.0) }, made.serves)
    keeps_by (Some why) prepares =
        let same = prepares.refused refl in (
          subst (λ n. KeepsPool l store.serves m store.frames n rest.frames) (sym (ap (λ (h : Hierarchy (Unit {0})). h.memory) same.0))
              (subst (λ frames. KeepsPool l store.serves m store.frames m frames) (sym (ap (λ (s : Supply). s.frames) same.1)) stays),
          ap (λ (s : Supply). s.serves) same.1,
        )

    -- one that is allowed, after a look at the same words
    pub page_prepared : (k : Memory) → k ≡ m → allows_page (of l m) level page 0 more ≡ true → (refusal : Option Refusal) → Prepares (of l k) (supply_in store) level page more refusal (of l n) (supply_in rest)
        → (status : ℕ) → status ≡ preparation_status true refusal → PreparesPage (of l m) store level page more (of l n) rest status
    page_prepared k same may refusal did status told =
        let prepares = subst (λ k. Prepares (of l k) (supply_in store) level page more refusal (of l n) (supply_in rest)) same did in
        let is : refusal ≡ preparation_refusal (of l m) store level page more = ap (λ (a : AfterTables). a.refusal) prepares.outcome in
        let keeps = keeps_by refusal prepares in record {
          status_is = told ∙ ap₂ preparation_status (sym may) is;
          prepares = λ _. subst (λ r. Prepares (of l m) (supply_in store) level page more r (of l n) (supply_in rest)) is prepares;
          keeps = keeps.0;
          serves = keeps.1;
        }

-- ---- by the result

-- the status of an allowed one is that of its result
pub told_status : {S X : Type 0} (r : Result X (MapToError S)) → result_status map_refusal r ≡ preparation_status true (tables_refusal r)
told_status (Ok x) = refl
told_status (Err why) = refl

-- it leaves a supply that serves the same frames
pub prepared_serves : {Lent S X : Type 0} (h after : Hierarchy Lent) (supply rest : Supply) (level page more : ℕ) (r : Result X (MapToError S)) → Prepares h supply level page more (tables_refusal r) after rest → rest.serves ≡ supply.serves
prepared_serves h after supply rest level page more (Ok x) prepares = (prepares.done refl).serves
prepared_serves h after supply rest level page more (Err why) prepares = ap (λ (s : Supply). s.serves) (prepares.refused refl).1

-- ---- in the caller's tables and pool

-- beside the page nothing can be wrong
pub or_none : (o : Option ℕ) → option_or o None ≡ o
or_none None = refl
or_none (Some why) = refl

module _ (own : List ℕ) (h : Given) (ts us : List (List ℕ)) (array left : List ℕ) (free : ℕ) (page : Page) (more : ℕ) where
  -- with right arguments
  pub executes_preparation : (number status : ℕ) → wrong_preparation h (loan ts array free) page ≡ None
      → TakesStep own (hierarchy_in h ts) array free (λ pool rest. PreparesPage (hierarchy_in h ts) pool (level_of_page_size page.size) (position_of h.levels page.start) more (hierarchy_in h us) rest status) (is_refusal status)
      (hierarchy_in h us) left number
      → ExecutesPreparation own h (loan ts array free) page more status (loan us left number)
  executes_preparation number status good runs = record {
    bad = λ why is. absurd (let e : None ≡ Some why = sym good ∙ is in cc);
    prepares = λ _. runs.0.does;
    refused = λ other.
        let stay = runs.1 (ap not (ne_eqb status ok other)) in
        ap (λ ts. loan ts left number) (kept ts us stay.0) ∙ ap (λ a. loan ts a number) stay.1 ∙ ap (loan ts array) stay.2;
    room = runs.0.room;
    in_array = λ _. runs.0.in_array;
  }

  -- with a wrong one
  pub refuses_preparation : (why : ℕ) → wrong_preparation h (loan ts array free) page ≡ Some why → us ≡ ts → left ≡ array
      → ExecutesPreparation own h (loan ts array free) page more why (loan us left free)
  refuses_preparation why wrong tables same =
      subst₂ (λ us left. ExecutesPreparation own h (loan ts array free) page more why (loan us left free)) (sym tables) (sym same) (record {
        bad = λ also is. (let e : Some why ≡ Some also = sym wrong ∙ is in cc, refl);
        prepares = λ good. absurd (let e : Some why ≡ None = sym wrong ∙ good in cc);
        refused = λ other. refl;
        room = refl;
        in_array = λ within. within;
      })
