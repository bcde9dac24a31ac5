-- The effect of one `map_to`.
use Rattle.std.proofs.Common.{◌≡◌, ◌≢◌, ◌⊎◌, inl, inr, ◌<◌, ◌≤◌, ◌+◌, ◌-◌, ◌%◌, ◌^◌, ℕ, true, Result, refl, sym, ap, ◌∙◌, subst, arith}
use Rattle.std.specs.Result.{IfOk}
use Rattle.x86_64_model.specs.Call.{MapTo}
use Rattle.x86_64_model.specs.Entry.{IsParentFlags, present}
use Rattle.x86_64_model.specs.Memory.{IsMapping}
use Rattle.x86_64_model.specs.Hierarchy.{Hierarchy, MayMap, IsMappedAs}
use Rattle.x86_64_model.specs.Position.{span}
use Rattle.x86_64_model.specs.Refusal.{Answer, Done, Refused, ParentEntryHugePage}
use Rattle.x86_64_model.proofs.Lemmas.Machines.Standing.{map_to_stands, stands_after, stands_refuses}
use Rattle.x86_64_tables.specs.MapperAnswers.{map_answer}
use Rattle.x86_64_tables.specs.declared.errors.MapToError.{MapToError}
use Rattle.x86_64_mappers.specs.Supplies.{Supply, MapsFrom}
use Rattle.x86_64_mappers.proofs.Map.MapArrivals.{frame_address, small_multiple}
use Rattle.x86_64_loader.specs.Pages.{IsFree, LeavesSupply}
use Rattle.x86_64_loader.proofs.Made.{kept_one}

module _ {Lent : Type 0} (h after : Hierarchy Lent) (supply rest : Supply) (level size page frame given : ℕ) (spans : size ≡ span level) (low : 1 ≤ level) (high : level ≤ 3) (some : 3 < h.layout.levels)
    (may : MayMap h supply.frames (MapTo level page frame given)) where
  abbrev Does : Answer → Type 0
  Does answer = MapsFrom h supply (MapTo level page frame given) answer after rest

  fits_in : level ≤ h.layout.levels
  fits_in = omega (arith, some, high)

  pub makes_stand : IsParentFlags h.layout.added_flags → frame < 2 ^ 52 → frame % size ≡ 0 → present given ≡ true → Does (Done frame) → IsMappedAs after level page frame given
  makes_stand adds below aligned is_present does =
      let multiple : frame % span level ≡ 0 = ap (λ s. frame % s) (sym spans) ∙ aligned in
      map_to_stands h after supply.frames rest.frames level page frame given (Done frame) low fits_in may does.map high adds (frame_address frame below (small_multiple level frame low high multiple)) multiple is_present refl

  pub was_free : page % size ≡ 0 → Does (Done frame) → IsFree h page size
  was_free aligned does l q f g multiple stands p from to its_from its_to =
      stands_refuses h after supply.frames rest.frames level page frame given (Done frame) low fits_in may does.map l q f g (ap (λ s. page % s) (sym spans) ∙ aligned) multiple stands
      (p - page) (p - q) (let below : p < page + span level = subst (λ s. p < page + s) spans to in omega (arith, below, from)) (omega (arith, its_from, its_to)) (omega (arith, from, its_from)) refl

  pub leaves : {S : Type 0} (result : Result ℕ (MapToError S)) (highest : ℕ) → IfOk result (λ flush. flush ≡ page) → (highest ≤ level) ⊎ (map_answer frame result ≢ Refused ParentEntryHugePage)
      → IsParentFlags h.layout.added_flags → IsMapping h.layout.places → Does (map_answer frame result) → LeavesSupply highest h supply after rest
  leaves result highest same spared adds mapping does = record {
    kept = kept_one h after supply rest level page frame given low high some adds mapping result same may does;
    pages = λ l q f g up stands. stands_after h after supply.frames rest.frames level page frame given (map_answer frame result) low fits_in may does.map l q f g (as_high l up spared) stands;
  }
    where
      as_high : (l : ℕ) → l ≤ highest → (highest ≤ level) ⊎ (map_answer frame result ≢ Refused ParentEntryHugePage) → (l ≤ level) ⊎ (map_answer frame result ≢ Refused ParentEntryHugePage)
      as_high l up (inl le) = inl (omega (arith, up, le))
      as_high l up (inr not) = inr not

pub done_not_refused : (frame : ℕ) → Done frame ≢ Refused ParentEntryHugePage
done_not_refused frame is = cc
