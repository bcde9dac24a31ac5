-- How the parts of a run make up the whole.
use Rattle.std.proofs.Common.{◌≡◌, ◌∙◌, ℕ, suc, Bool, true, false, cond, List, [], Option, Some, None, refl, sym, ap, subst}
use Rattle.std.specs.Bool.{⊤, Decides}
use Rattle.std.specs.Io.KnownBytes.{Appends}
use Rattle.std.specs.List.{flat_map}
use Rattle.pagetab_engine.specs.Arguments.{arguments_in}
use Rattle.pagetab_engine.specs.Commands.{Command}
use Rattle.pagetab_engine.specs.Hierarchy.{FitsImage, ModeReaches}
use Rattle.pagetab_engine.specs.Image.{first_situation, fits, nothing_loaded}
use Rattle.pagetab_engine.specs.Lines.{Numbered, ForSome, IsInput, TracesBack, lines_of, numbered_from}
use Rattle.pagetab_engine.specs.Modes.{mode_reaches}
use Rattle.pagetab_engine.specs.Program.{CanEnd, IsTold, Runs, Transcript, ending_alone, levels_in, image_transcript, served_transcript, statements_in, tested_transcript, transcript}
use Rattle.pagetab_engine.specs.Situation.{situation}
use Rattle.pagetab_engine.specs.Texts.{reply_line}
use Rattle.pagetab_engine.specs.declared.arguments.Arguments.{Arguments}
use Rattle.pagetab_engine.specs.declared.arguments.Mode.{Mode}
use Rattle.pagetab_engine.specs.declared.ending.Ending.{Ending}
use Rattle.pagetab_engine.specs.declared.ending.Ending.TheVariants.{Done, Stopped}
use Rattle.pagetab_engine.specs.declared.ending.Fault.{Fault}
use Rattle.pagetab_engine.specs.declared.ending.Fault.TheVariants.{BadLine, InvalidHierarchy, OutOfMemory, Input, Output, Usage}
use Rattle.pagetab_engine.specs.declared.hierarchy.Hierarchy.{Hierarchy}
use Rattle.pagetab_engine.specs.private.RunParts.{IsEmpty, IsFirst, IsFirstShown, LoadsImage, RunsFrom, Served, StopsInImage, loaded_of, read_into, situation_of, with_first}
use Rattle.pagetab_engine.proofs.Fitting.{fits_tell}
use Rattle.pagetab_engine.proofs.LoadedLines.{empty_reached, empty_told}
use Rattle.pagetab_engine.proofs.Numbering.{MayFollow, some_input}
use Rattle.pagetab_engine.proofs.Written.{appends_nothing}

-- what holds for all lines holds for those of the input
pub of_input : (P : List Numbered → Type 0) (number : ℕ) (left remaining : Option (List ℕ)) → number ≡ 0 → left ≡ remaining → ForSome (MayFollow number left) P
    → ForSome (IsInput remaining) (λ input. P (numbered_from 1 (lines_of input)))
of_input P number left remaining none same of =
    let bytes = of.1.0 in
    (bytes, subst (λ known. IsInput known bytes) same of.1.1, subst P (of.1.2 ∙ ap (λ n. numbered_from (suc n) (lines_of bytes)) none) of.2)

-- a test that decides a fact is false if the fact is not so
is_false : {P : Type 0} (b : Bool) → Decides b P → ¬ P → b ≡ false
is_false true tells none = absurd (none (tells.0 refl))
is_false false tells none = refl

-- nothing is written if the transcript has no reply, or if the run was cut off
abbrev ToldNothing : Option (List ℕ) → Transcript → Ending → Type 0
ToldNothing held t ending = (ending ≡ t.ending) × Appends held held (flat_map reply_line t.replies)

told_nothing : (held : Option (List ℕ)) (t : Transcript) (ending : Ending) → t ≡ ending_alone ending → ToldNothing held t ending
told_nothing held t ending is = subst (λ t. ToldNothing held t ending) (sym is) (refl, appends_nothing held)

module _ (words : List (List ℕ)) (known : Option (List ℕ)) (old : Option (List ℕ)) where
  -- a run with wrong arguments
  ends_in_usage : ((input : List ℕ) → transcript (arguments_in words) input ≡ ending_alone (Stopped Usage)) → ForSome (IsInput known) (λ input. Runs words input old old (Stopped Usage))
  ends_in_usage is = let some = some_input known in (some.0, some.1, record { may_end = tt; told = told_nothing old (transcript (arguments_in words) some.0) (Stopped Usage) (is some.0) })

  pub no_arguments : arguments_in words ≡ None → ForSome (IsInput known) (λ input. Runs words input old old (Stopped Usage))
  no_arguments none = ends_in_usage (λ input. ap (λ arguments. transcript arguments input) none)

  module _ (arguments : Arguments) (are : arguments_in words ≡ Some arguments) where
    pub no_memory : ForSome (IsInput known) (λ input. Runs words input old old (Stopped OutOfMemory))
    no_memory =
        let some = some_input known in
        (some.0, some.1, record { may_end = subst (λ arguments. CanEnd arguments (Stopped OutOfMemory)) (sym are) refl; told = ([], (transcript (arguments_in words) some.0).replies, refl, appends_nothing old) })

    module _ (empty : Hierarchy) (is_empty : IsEmpty arguments empty) where
      pub not_reached : ¬ (ModeReaches empty.mode empty.frames.memory) → ForSome (IsInput known) (λ input. Runs words input old old (Stopped Usage))
      not_reached never = ends_in_usage (λ input. ap (λ arguments. transcript arguments input) are
          ∙ ap (λ b. cond b (image_transcript arguments.mode (statements_in (levels_in arguments) arguments.places (numbered_from 1 (lines_of input))) (nothing_loaded arguments.places)) (ending_alone (Stopped Usage)))
          (is_false (mode_reaches arguments.mode arguments.places) (empty_reached arguments empty is_empty) never))

      -- a run that reads
      pub goes_on : ModeReaches empty.mode empty.frames.memory → (ending : Ending) (new : Option (List ℕ))
          → ForSome (IsInput known) (λ input. RunsFrom (levels_in arguments) arguments.places empty input old new ending) → ForSome (IsInput known) (λ input. Runs words input old new ending)
      goes_on reached ending new (input, may, told) = (input, may, record { may_end = subst (λ arguments. CanEnd arguments ending) (sym are) (can_end ending); told = subst (λ (t : Transcript). IsTold t old new ending) (sym same) told })
        where
          reads : mode_reaches arguments.mode arguments.places ≡ true
          reads = (empty_reached arguments empty is_empty).1 reached

          same : transcript (arguments_in words) input ≡ read_into (levels_in arguments) arguments.places (numbered_from 1 (lines_of input)) empty
          same = ap (λ arguments. transcript arguments input) are
              ∙ ap (λ b. cond b (image_transcript arguments.mode (statements_in (levels_in arguments) arguments.places (numbered_from 1 (lines_of input))) (nothing_loaded arguments.places)) (ending_alone (Stopped Usage))) reads
              ∙ (λ i. image_transcript (sym is_empty.mode i) (statements_in (levels_in arguments) arguments.places (numbered_from 1 (lines_of input))) (sym (empty_told arguments empty is_empty) i))

          can_end : (ending : Ending) → CanEnd (Some arguments) ending
          can_end Done = tt
          can_end (Stopped OutOfMemory) = refl
          can_end (Stopped Input) = reads
          can_end (Stopped Output) = tt
          can_end (Stopped Usage) = tt
          can_end (Stopped InvalidHierarchy) = tt
          can_end (Stopped (BadLine number)) = tt

module _ (start : List Numbered → Type 0) (old : Option (List ℕ)) (levels places : ℕ) (empty : Hierarchy) where
  -- these lines are read into the empty hierarchy, and the transcript is written
  abbrev pub RunsLines : (new : Option (List ℕ)) → Ending → List Numbered → Type 0
  RunsLines new ending lines = IsTold (read_into levels places lines empty) old new ending

  -- a run that stops in the image
  pub stops_in_image : (fault : Fault) → ForSome start (λ lines. StopsInImage levels places lines empty fault) → ForSome start (RunsLines old (Stopped fault))
  stops_in_image fault stops = (stops.0, stops.1, stops.2 old)

  module _ (image : Hierarchy) (mode : image.mode ≡ empty.mode) (first : Option Command) (after : List Numbered → Type 0)
      (loaded : TracesBack start after (λ lines behind. LoadsImage levels places lines empty first behind image)) where
    pub not_tested : ForSome after (λ behind. ⊤) → ForSome start (RunsLines old (Stopped OutOfMemory))
    not_tested some = let lines = loaded some.0 some.1 in (lines.0, lines.1, ([], (read_into levels places lines.0 empty).replies, refl, appends_nothing old))

    -- the transcript after the test
    by_test : (lines behind : List Numbered) → LoadsImage levels places lines empty first behind image → (b : Bool) → fits image.mode (loaded_of image.frames) ≡ b
        → read_into levels places lines empty ≡ cond b (served_transcript (with_first levels places first behind) (first_situation image.mode (loaded_of image.frames))) (ending_alone (Stopped InvalidHierarchy))
    by_test lines behind loads b is =
        loads.1 ∙ ap (λ (mode : Mode). tested_transcript mode (loaded_of image.frames) (with_first levels places first behind)) (sym mode)
        ∙ ap (λ b. cond b (served_transcript (with_first levels places first behind) (first_situation image.mode (loaded_of image.frames))) (ending_alone (Stopped InvalidHierarchy))) is

    pub not_fitting : ForSome after (λ behind. ⊤) → ¬ (FitsImage image) → ForSome start (RunsLines old (Stopped InvalidHierarchy))
    not_fitting some never =
        let lines = loaded some.0 some.1 in
        let no_fit = is_false (fits image.mode (loaded_of image.frames)) (fits_tell image.mode (loaded_of image.frames)) never in
        (lines.0, lines.1, told_nothing old (read_into levels places lines.0 empty) (Stopped InvalidHierarchy) (by_test lines.0 some.0 lines.2 false no_fit))

    module _ (fitting : FitsImage image) (ready : Hierarchy) (is_first : IsFirst image ready) where
      -- the transcript of what follows the image
      goes_on_with : (lines behind : List Numbered) → LoadsImage levels places lines empty first behind image → read_into levels places lines empty ≡ served_transcript (with_first levels places first behind) (situation_of ready)
      goes_on_with lines behind loads =
          by_test lines behind loads true ((fits_tell image.mode (loaded_of image.frames)).1 fitting)
          ∙ (λ i. served_transcript (with_first levels places first behind) (situation (sym is_first.mode i) (sym is_first.memory i) (sym is_first.pool i).frames))

      pub no_commands : ForSome after (λ behind. ⊤) → first ≡ None → ForSome start (RunsLines old Done)
      no_commands some none =
          let lines = loaded some.0 some.1 in
          (lines.0, lines.1, told_nothing old (read_into levels places lines.0 empty) Done (goes_on_with lines.0 some.0 lines.2 ∙ ap (λ first. served_transcript (with_first levels places first some.0) (situation_of ready)) none))

      pub commands : (command : Command) (ending : Ending) (new : Option (List ℕ)) → first ≡ Some command
          → ForSome after (λ behind. Served levels places command behind ready old new ending) → ForSome start (RunsLines new ending)
      commands command ending new asked told =
          let lines = loaded told.0 told.1 in
          let shows = subst IsFirstShown asked lines.2.0 in
          (lines.0, lines.1, subst (λ (t : Transcript). IsTold t old new ending) (sym (goes_on_with lines.0 told.0 lines.2 ∙ ap (λ first. served_transcript (with_first levels places first told.0) (situation_of ready)) asked)) (told.2 shows))
