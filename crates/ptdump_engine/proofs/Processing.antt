-- The processors of a dump, read one by one.
use Rattle.std.proofs.Common.{◌≡◌, ◌∙◌, ◌+◌, ◌<◌, ◌≤◌, ◌++◌, ℕ, Bool, List, [], ◌∷◌, Option, Result, Ok, Err, false, drop, get_or, length, refl, sym, ap, append_assoc, append-nil}
use Rattle.std.proofs.lemmas.List.{drop_all, drop_more}
use Rattle.x86_64_addr.specs.declared.level_count.Levels.{Levels}
use Rattle.x86_64_dump.specs.Opening.{GivesAtOnce}
use Rattle.x86_64_dump.specs.declared.error.DumpError.{DumpError}
use Rattle.x86_64_dump.specs.declared.error.DumpError.TheVariants as errors
use Rattle.x86_64_dump.specs.declared.error.Fault.{Fault}
use Rattle.x86_64_dump.specs.declared.note.Note.{Note}
use Rattle.ptdump_engine.specs.Failure.{failure_of}
use Rattle.ptdump_json.specs.Paging.{registers_of}
use Rattle.ptdump_engine.specs.Processors.{processor_with, processors_from}
use Rattle.ptdump_engine.specs.Steps.{FailsBy, and_then, of_dump}
use Rattle.ptdump_engine.specs.declared.failure.Failure.{Failure}
use Rattle.ptdump_engine.specs.declared.processors.Processor.{Processor}
use Rattle.ptdump_json.specs.declared.registers.Registers.{Registers}

-- processors, and behind them those that are found
abbrev pub onto : List Processor → Result (List Processor) Failure → Result (List Processor) Failure
onto ps found = and_then found (λ others. Ok (ps ++ others))

onto_more : (ps : List Processor) (p : Processor) (found : Result (List Processor) Failure) → onto ps (and_then found (λ others. Ok (p ∷ others))) ≡ onto (ps ++ p ∷ []) found
onto_more ps p (Ok others) = ap Ok (sym (append_assoc ps (p ∷ []) others))
onto_more ps p (Err failure) = refl

module _ (file : List ℕ) (given : Option Levels) (notes : List Note) where
  -- the processors so far and those of the notes to come are all
  abbrev pub AreRead : (i : ℕ) → List Processor → Type 0
  AreRead i ps = processors_from file given 0 notes ≡ onto ps (processors_from file given i (drop i notes))

  -- those of the notes to come, by what the next note says
  abbrev behind : (i : ℕ) → List Processor → Result Registers Fault → Result (List Processor) Failure
  behind i ps found = onto ps (and_then (of_dump found) (λ registers.
      and_then (processors_from file given (i + 1) (drop (i + 1) notes)) (λ others. Ok (processor_with given i registers ∷ others))))

  next : (i : ℕ) (ps : List Processor) (d : Note) → i < length notes → AreRead i ps → processors_from file given 0 notes ≡ behind i ps (registers_of file (get_or notes i d))
  next i ps d below so_far = so_far ∙ ap (λ ns. onto ps (processors_from file given i ns)) (drop_more notes i d below)

  -- none is read
  pub read_none : (ps : List Processor) → ps ≡ [] → AreRead 0 ps
  read_none ps nothing = none (processors_from file given 0 notes) ∙ ap (λ qs. onto qs (processors_from file given 0 notes)) (sym nothing)
    where
      none : (found : Result (List Processor) Failure) → found ≡ onto [] found
      none (Ok ps) = refl
      none (Err failure) = refl

  -- one more is read
  pub read_more : (i : ℕ) (ps : List Processor) (d : Note) (registers : Registers) → i < length notes → AreRead i ps → registers_of file (get_or notes i d) ≡ Ok registers
      → AreRead (i + 1) (ps ++ processor_with given i registers ∷ [])
  read_more i ps d registers below so_far says =
      next i ps d below so_far ∙ ap (behind i ps) says ∙ onto_more ps (processor_with given i registers) (processors_from file given (i + 1) (drop (i + 1) notes))

  -- the next note can't be read
  pub read_fails : (fails : Bool) (i : ℕ) (ps : List Processor) (d : Note) (error : DumpError) → i < length notes → AreRead i ps
      → GivesAtOnce {X = Registers} fails (λ r. r) (Err error) (registers_of file (get_or notes i d)) → FailsBy fails false (failure_of error) (processors_from file given 0 notes)
  read_fails fails i ps d errors.OutOfMemory below so_far is = absurd is
  read_fails fails i ps d (errors.Read error) below so_far is = is
  read_fails fails i ps d (errors.Fault fault) below so_far is = next i ps d below so_far ∙ ap (behind i ps) is

  -- all are read
  pub read_all : (i : ℕ) (ps : List Processor) → length notes ≤ i → AreRead i ps → processors_from file given 0 notes ≡ Ok ps
  read_all i ps end so_far = so_far ∙ ap (λ ns. onto ps (processors_from file given i ns)) (drop_all i notes end) ∙ ap Ok (append-nil ps)
