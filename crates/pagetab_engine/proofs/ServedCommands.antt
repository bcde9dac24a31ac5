-- How commands are served, line by line.
use Rattle.std.proofs.Common.{◌≡◌, ℕ, List, [], ◌∷◌, ◌++◌, Option, Some, refl, sym, ap, ◌∙◌, subst, append-nil, append_assoc}
use Rattle.std.specs.Bool.{⊤}
use Rattle.std.proofs.lemmas.Grind.{flat_map-append}
use Rattle.std.specs.Io.KnownBytes.{Appends}
use Rattle.std.specs.List.{flat_map}
use Rattle.pagetab_engine.specs.Commands.{Command, Statement, Image, Asks}
use Rattle.pagetab_engine.specs.Lines.{Numbered, ExplainsRead, ForSome, TakesStatement, TracesBack}
use Rattle.pagetab_engine.specs.Program.{IsTold, Transcript, ending_alone, served_transcript, statements_in, stops_at}
use Rattle.pagetab_engine.specs.Reply.{Reply}
use Rattle.pagetab_engine.specs.Texts.{reply_line}
use Rattle.pagetab_engine.specs.declared.ending.Ending.{Ending}
use Rattle.pagetab_engine.specs.declared.ending.Ending.TheVariants.{Done, Stopped}
use Rattle.pagetab_engine.specs.declared.ending.Fault.{Fault}
use Rattle.pagetab_engine.specs.declared.ending.Fault.TheVariants.{BadLine, InvalidHierarchy, OutOfMemory, Input, Output, Usage}
use Rattle.pagetab_engine.specs.declared.hierarchy.Hierarchy.{Hierarchy}
use Rattle.pagetab_engine.specs.declared.statement.ImageLine.{ImageLine}
use Rattle.pagetab_engine.specs.private.RunParts.{Replies, Served, ServedUntil, CommandStops, behind_replies, situation_of, with_first}
use Rattle.pagetab_engine.proofs.Parsing.{shown}
use Rattle.pagetab_engine.proofs.Situations.{answer_told}
use Rattle.pagetab_engine.proofs.Written.{appends_both}

module _ (levels places : ℕ) (first : Command) (before : Hierarchy) (old : Option (List ℕ)) (start : List Numbered → Type 0) where
  -- the program stops at the first command
  pub first_stops : ForSome start (λ behind. ⊤) → (after : Hierarchy) (new : Option (List ℕ)) (fault : Fault) → CommandStops first before after old new fault
      → ForSome start (λ behind. Served levels places first behind before old new (Stopped fault))
  first_stops some after new fault stops = (some.0, some.1, by fault stops)
    where
      by : (fault : Fault) → CommandStops first before after old new fault → Served levels places first some.0 before old new (Stopped fault)
      by OutOfMemory stops = λ shows. ([], (served_transcript (with_first levels places (Some first) some.0) (situation_of before)).replies, refl, stops)
      by Output (reply, answers, (front, part, appends)) = λ shows.
          ([], reply, (served_transcript (statements_in levels places some.0) (situation_of after)).replies, front, ap (λ (t : Transcript). t.replies) (answer_told levels places first before after reply answers shows some.0), part, appends)
      by (BadLine number) stops = absurd stops
      by InvalidHierarchy stops = absurd stops
      by Input stops = absurd stops
      by Usage stops = absurd stops

  -- the first command gets its reply
  pub begins : (after : Hierarchy) (new : Option (List ℕ)) → Replies first before after old new
      → TracesBack start start (λ behind left. ServedUntil levels places first behind before old new left after)
  begins after new (reply, answers, appends) = λ behind may. (
    behind,
    may,
    λ shows. (reply ∷ [], subst (λ bytes. Appends old new bytes) (sym (append-nil (reply_line reply))) appends, answer_told levels places first before after reply answers shows behind),
  )

  module _ (between : Hierarchy) (held : Option (List ℕ)) (left : List Numbered → Type 0)
      (until : TracesBack start left (λ behind lines. ServedUntil levels places first behind before old held lines between)) where
    -- the transcript of the lines that are left
    abbrev of : List Numbered → Transcript
    of lines = served_transcript (statements_in levels places lines) (situation_of between)

    -- the transcript of lines that begin with this statement
    taken : (lines : List Numbered) (number : ℕ) (rest : List Numbered) (statement : Statement) → TakesStatement levels places lines number rest statement
        → of lines ≡ served_transcript ((number, Some statement) ∷ statements_in levels places rest) (situation_of between)
    taken lines number rest statement takes = ap of takes.1 ∙ ap (λ said. served_transcript ((number, said) ∷ statements_in levels places rest) (situation_of between)) takes.2

    -- the next command gets its reply
    pub next_served : (next : List Numbered → Type 0) (number : ℕ) (command : Command) (after : Hierarchy) (new : Option (List ℕ))
        → TracesBack left next (λ lines rest. TakesStatement levels places lines number rest (Asks command)) → Replies command between after held new
        → TracesBack start next (λ behind rest. ServedUntil levels places first behind before old new rest after)
    next_served next number command after new takes (reply, answers, appends) = λ rest may.
        let lines = takes rest may in let all = until lines.0 lines.1 in (
          all.0,
          all.1,
          λ shows.
              let so_far = all.2 shows in
              let more = taken lines.0 number rest (Asks command) lines.2 ∙ answer_told levels places command between after reply answers (shown levels places lines.2.0 command lines.2.2) rest in (
                so_far.0 ++ reply ∷ [],
                subst (λ bytes. Appends old new bytes) (sym (ap (λ bytes. flat_map reply_line so_far.0 ++ bytes) (append-nil (reply_line reply))) ∙ sym (flat_map-append reply_line so_far.0 (reply ∷ [])))
                    (appends_both old held new (flat_map reply_line so_far.0) (reply_line reply) so_far.1 appends),
                so_far.2 ∙ ap (behind_replies so_far.0) more
                    ∙ (λ i. record { replies = sym (append_assoc so_far.0 (reply ∷ []) (served_transcript (statements_in levels places rest) (situation_of after)).replies) i; ending = (served_transcript (statements_in levels places rest) (situation_of after)).ending }),
              ),
        )

    -- a run that ends at the lines that are left
    ended : (lines : List Numbered) → left lines → (ending : Ending) (new : Option (List ℕ))
        → ((replies : List Reply) → Appends old held (flat_map reply_line replies) → IsTold (behind_replies replies (of lines)) old new ending) → ForSome start (λ behind. Served levels places first behind before old new ending)
    ended lines may ending new told =
        let all = until lines may in
        (all.0, all.1, λ shows. let so_far = all.2 shows in subst (λ (t : Transcript). IsTold t old new ending) (sym so_far.2) (told so_far.0 so_far.1))

    -- the program stops at the next command
    pub next_stops : (next : List Numbered → Type 0) → ForSome next (λ rest. ⊤) → (number : ℕ) (command : Command) (after : Hierarchy) (new : Option (List ℕ)) (fault : Fault)
        → TracesBack left next (λ lines rest. TakesStatement levels places lines number rest (Asks command)) → CommandStops command between after held new fault
        → ForSome start (λ behind. Served levels places first behind before old new (Stopped fault))
    next_stops next some number command after new fault takes stops = by fault stops
      where
        by : (fault : Fault) → CommandStops command between after held new fault → ForSome start (λ behind. Served levels places first behind before old new (Stopped fault))
        by OutOfMemory stops =
            let lines = takes some.0 some.1 in
            ended lines.0 lines.1 (Stopped OutOfMemory) new
            (λ replies written. (replies, (of lines.0).replies, refl, subst (λ bytes. Appends old new bytes) (append-nil (flat_map reply_line replies)) (appends_both old held new (flat_map reply_line replies) [] written stops)))
        by Output (reply, answers, (front, part, appends)) =
            let lines = takes some.0 some.1 in
            let more = taken lines.0 number some.0 (Asks command) lines.2 ∙ answer_told levels places command between after reply answers (shown levels places lines.2.0 command lines.2.2) some.0 in
            ended lines.0 lines.1 (Stopped Output) new
            (λ replies written. (
              replies,
              reply,
              (served_transcript (statements_in levels places some.0) (situation_of after)).replies,
              front,
              ap (λ (t : Transcript). replies ++ t.replies) more,
              part,
              appends_both old held new (flat_map reply_line replies) front written appends,
            ))
        by (BadLine number) stops = absurd stops
        by InvalidHierarchy stops = absurd stops
        by Input stops = absurd stops
        by Usage stops = absurd stops

    -- the lines that are left have no reply
    whole : (lines : List Numbered) (ending : Ending) → of lines ≡ ending_alone ending → (replies : List Reply) → Appends old held (flat_map reply_line replies)
        → (ending ≡ (of lines).ending) × Appends old held (flat_map reply_line (replies ++ (of lines).replies))
    whole lines ending is replies written =
        (sym (ap (λ (t : Transcript). t.ending) is), subst (λ (replies : List Reply). Appends old held (flat_map reply_line replies)) (sym (ap (λ (t : Transcript). replies ++ t.replies) is ∙ append-nil replies)) written)

    -- no line is left
    pub all_served : (next : List Numbered → Type 0) → ForSome next (λ rest. ⊤) → TracesBack left next (λ lines rest. lines ≡ []) → ForSome start (λ behind. Served levels places first behind before old held Done)
    all_served next some none = let lines = none some.0 some.1 in ended lines.0 lines.1 Done held (whole lines.0 Done (ap of lines.2))

    -- a line is a line of an image
    pub image_too_late : (next : List Numbered → Type 0) → ForSome next (λ rest. ⊤) → (number : ℕ) (image : ImageLine)
        → TracesBack left next (λ lines rest. TakesStatement levels places lines number rest (Image image)) → ForSome start (λ behind. Served levels places first behind before old held (Stopped (BadLine number)))
    image_too_late next some number image takes =
        let lines = takes some.0 some.1 in ended lines.0 lines.1 (Stopped (BadLine number)) held (whole lines.0 (Stopped (BadLine number)) (taken lines.0 number some.0 (Image image) lines.2))

    -- a line is bad, or a read failed
    pub unread : (fault : Fault) → ForSome left (λ lines. ExplainsRead levels places lines fault) → ForSome start (λ behind. Served levels places first behind before old held (Stopped fault))
    unread fault why = stops why.0 fault why.1 why.2
      where
        stops : (lines : List Numbered) (fault : Fault) → left lines → ExplainsRead levels places lines fault → ForSome start (λ behind. Served levels places first behind before old held (Stopped fault))
        stops [] (BadLine number) may why = absurd why
        stops (line ∷ lines) (BadLine number) may why = ended (line ∷ lines) may (Stopped (BadLine number)) held
            (whole (line ∷ lines) (Stopped (BadLine number)) (ap (λ said. served_transcript ((line.number, said) ∷ statements_in levels places lines) (situation_of between)) why.1 ∙ ap stops_at why.0))
        stops lines Input may why = ended lines may (Stopped Input) held (λ replies written. (replies, (of lines).replies, refl, written))
        stops lines InvalidHierarchy may why = absurd why
        stops lines OutOfMemory may why = absurd why
        stops lines Output may why = absurd why
        stops lines Usage may why = absurd why
