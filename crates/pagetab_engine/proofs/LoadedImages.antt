-- How an image is read, line by line.
use Rattle.std.proofs.Common.{◌≡◌, ◌∙◌, ℕ, Bool, true, false, cond, List, [], ◌∷◌, None, Some, refl, sym, ap, subst}
use Rattle.std.specs.Bool.{⊤}
use Rattle.std.specs.Io.KnownBytes.{Appends}
use Rattle.std.specs.List.{flat_map}
use Rattle.pagetab_engine.specs.Commands.{Command, Statement, Image, Asks}
use Rattle.pagetab_engine.specs.Frames.{IsLoadable}
use Rattle.pagetab_engine.specs.Image.{Loaded, is_loadable, load}
use Rattle.pagetab_engine.specs.Lines.{Numbered, ExplainsRead, ForSome, TakesStatement, TracesBack}
use Rattle.pagetab_engine.specs.Program.{Transcript, image_transcript, statements_in, stops_at}
use Rattle.pagetab_engine.specs.Texts.{reply_line}
use Rattle.pagetab_engine.specs.declared.ending.Ending.TheVariants.{Stopped}
use Rattle.pagetab_engine.specs.declared.ending.Fault.{Fault}
use Rattle.pagetab_engine.specs.declared.ending.Fault.TheVariants.{BadLine, InvalidHierarchy, OutOfMemory, Input, Output, Usage}
use Rattle.pagetab_engine.specs.declared.hierarchy.Hierarchy.{Hierarchy}
use Rattle.pagetab_engine.specs.declared.statement.ImageLine.{ImageLine}
use Rattle.pagetab_engine.specs.private.RunParts.{Follows, LoadsImage, Loads, StopsInImage, loaded_of, read_into}
use Rattle.pagetab_engine.proofs.LoadedLines.{load_told, loadable_tells}
use Rattle.pagetab_engine.proofs.Parsing.{shown}
use Rattle.pagetab_engine.proofs.Written.{appends_nothing}

module _ (levels places : ℕ) (before : Hierarchy) (start : List Numbered → Type 0) where
  -- the transcript of these lines, after those before them were loaded
  abbrev of : List Numbered → Hierarchy → Transcript
  of lines between = image_transcript before.mode (statements_in levels places lines) (loaded_of between.frames)

  pub begins : TracesBack start start (λ all left. Follows levels places all before left before)
  begins = λ left may. (left, may, refl)

  module _ (between : Hierarchy) (old : List Numbered → Type 0) (follows : TracesBack start old (λ all left. Follows levels places all before left between)) where
    -- the transcript of lines that begin with this statement
    taken : (lines : List Numbered) (number : ℕ) (rest : List Numbered) (statement : Statement) → TakesStatement levels places lines number rest statement
        → of lines between ≡ image_transcript before.mode ((number, Some statement) ∷ statements_in levels places rest) (loaded_of between.frames)
    taken lines number rest statement takes =
        ap (λ lines. of lines between) takes.1
        ∙ ap (λ said. image_transcript before.mode ((number, said) ∷ statements_in levels places rest) (loaded_of between.frames)) takes.2

    -- another line was loaded
    pub goes_on : (new : List Numbered → Type 0) (number : ℕ) (image : ImageLine) (after : Hierarchy)
        → TracesBack old new (λ lines rest. TakesStatement levels places lines number rest (Image image)) → Loads image between after
        → TracesBack start new (λ all left. Follows levels places all before left after)
    goes_on new number image after takes loads = λ rest may.
        let lines = takes rest may in let all = follows lines.0 lines.1 in (
          all.0,
          all.1,
          all.2 ∙ taken lines.0 number rest (Image image) lines.2
              ∙ ap (λ b. cond b (image_transcript before.mode (statements_in levels places rest) (load (loaded_of between.frames) image)) (stops_at number)) ((loadable_tells between.frames image).1 loads.accepted)
              ∙ ap (λ (loaded : Loaded). image_transcript before.mode (statements_in levels places rest) loaded) (sym (load_told image between after loads)),
        )

    -- a line says the first command
    pub command_follows : (new : List Numbered → Type 0) (number : ℕ) (command : Command) → TracesBack old new (λ lines rest. TakesStatement levels places lines number rest (Asks command))
        → TracesBack start new (λ all behind. LoadsImage levels places all before (Some command) behind between)
    command_follows new number command takes = λ rest may.
        let lines = takes rest may in let all = follows lines.0 lines.1 in
        (all.0, all.1, (shown levels places lines.2.0 command lines.2.2, all.2 ∙ taken lines.0 number rest (Asks command) lines.2))

    -- no line is left
    pub nothing_follows : (new : List Numbered → Type 0) → TracesBack old new (λ lines rest. lines ≡ []) → TracesBack start new (λ all behind. LoadsImage levels places all before None behind between)
    nothing_follows new none = λ rest may.
        let lines = none rest may in let all = follows lines.0 lines.1 in
        (all.0, all.1, (tt, all.2 ∙ ap (λ lines. of lines between) lines.2))

    -- the image ends at a bad line
    bad : (all : List Numbered) (number : ℕ) → read_into levels places all before ≡ stops_at number → StopsInImage levels places all before (BadLine number)
    bad all number is = λ held. subst (λ (t : Transcript). ((Stopped (BadLine number) ≡ t.ending) × Appends held held (flat_map reply_line t.replies))) (sym is) (refl, appends_nothing held)

    -- a line is bad, or a read failed
    pub unread : (fault : Fault) → ForSome old (λ lines. ExplainsRead levels places lines fault) → ForSome start (λ all. StopsInImage levels places all before fault)
    unread fault why = let all = follows why.0 why.1 in (all.0, all.1, stops all.0 why.0 fault why.2 all.2)
      where
        stops : (all lines : List Numbered) (fault : Fault) → ExplainsRead levels places lines fault → read_into levels places all before ≡ of lines between → StopsInImage levels places all before fault
        stops all [] (BadLine number) why is = absurd why
        stops all (line ∷ lines) (BadLine number) why is = bad all number
            (is ∙ ap (λ said. image_transcript before.mode ((line.number, said) ∷ statements_in levels places lines) (loaded_of between.frames)) why.1
            ∙ ap stops_at why.0)
        stops all lines Input why is = λ held. ([], (read_into levels places all before).replies, refl, appends_nothing held)
        stops all lines InvalidHierarchy why is = absurd why
        stops all lines OutOfMemory why is = absurd why
        stops all lines Output why is = absurd why
        stops all lines Usage why is = absurd why

    -- a line can't be loaded
    pub not_loaded : (new : List Numbered → Type 0) (number : ℕ) (image : ImageLine) → ForSome new (λ rest. ⊤) → TracesBack old new (λ lines rest. TakesStatement levels places lines number rest (Image image))
        → ¬ (IsLoadable between.frames image) → ForSome start (λ all. StopsInImage levels places all before (BadLine number))
    not_loaded new number image some takes never =
        let lines = takes some.0 some.1 in let all = follows lines.0 lines.1 in (
          all.0,
          all.1,
          bad all.0 number (all.2 ∙ taken lines.0 number some.0 (Image image) lines.2
              ∙ ap (λ b. cond b (image_transcript before.mode (statements_in levels places some.0) (load (loaded_of between.frames) image)) (stops_at number)) (refused (is_loadable (loaded_of between.frames) image) refl)),
        )
      where
        refused : (b : Bool) → is_loadable (loaded_of between.frames) image ≡ b → is_loadable (loaded_of between.frames) image ≡ false
        refused false is = is
        refused true is = absurd (never ((loadable_tells between.frames image).0 is))
