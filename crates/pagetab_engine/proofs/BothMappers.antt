-- In a pair both mappers have the same replies to the calls of any lines.
use Rattle.std.proofs.Common.{◌≡◌, ◌<◌, ℕ, Bool, true, false, cond, List, [], ◌∷◌, map, Option, Some, None, option_map, refl, ap, subst, lit<}
use Rattle.std.proofs.lemmas.List.Sorted.{IsPermutation-refl}
use Rattle.x86_64_model.specs.Alike.{Alike}
use Rattle.x86_64_model.specs.Call as model
use Rattle.x86_64_model.specs.Call.{IsCall}
use Rattle.x86_64_model.specs.Hierarchy.{◌laid_in◌, PoolFits, machine_of}
use Rattle.x86_64_model.specs.Laws.Steps.{FitsState}
use Rattle.x86_64_model.specs.Layout.{Layout}
use Rattle.x86_64_model.specs.Machine.{Machine, State, step}
use Rattle.x86_64_model.specs.Memory.{Memory, Words, identity_places, word, words_of}
use Rattle.x86_64_model.specs.Pool.{TakesBack, serves_below}
use Rattle.x86_64_model.proofs.Lemmas.Machines.Giving.{giving_from}
use Rattle.x86_64_model.proofs.Lemmas.Machines.Laws.{pairs_reply_alike, step_is_held}
use Rattle.x86_64_mappers.specs.Recursive.{recursive_at}
use Rattle.x86_64_mappers.specs.private.ImplLaws.{no_flags, present_writable}
use Rattle.x86_64.specs.Pairs.{put_first}
use Rattle.x86_64.specs.Replies.{Reply as CallReply, reply_of}
use Rattle.x86_64.specs.Runs.{AfterStep, state_in, step_by}
use Rattle.x86_64.specs.declared.call_values.MapperReply.TheVariants.{NotAllowed}
use Rattle.x86_64.proofs.Named.{none_named}
use Rattle.x86_64_addr.specs.declared.level_count.Levels.{Levels}
use Rattle.x86_64_addr.specs.declared.level_count.Levels.TheVariants.{Four, Five}
use Rattle.pagetab_engine.specs.Arguments.{count}
use Rattle.pagetab_engine.specs.BothMappers.{AreSameByMapper, BothMappersReply, by_mapper}
use Rattle.pagetab_engine.specs.Commands.{Statement, Image, Asks, Call, Walk, Show, Pool}
use Rattle.pagetab_engine.specs.Frames.{direct_layout, recursive_layout, without_self_entry}
use Rattle.pagetab_engine.specs.Image.{Loaded}
use Rattle.pagetab_engine.specs.Lines.{Numbered}
use Rattle.pagetab_engine.specs.Modes.{is_refused}
use Rattle.pagetab_engine.specs.Program.{Transcript, behind_reply, served_transcript, statements_in}
use Rattle.pagetab_engine.specs.Reply.{Reply, Answered}
use Rattle.pagetab_engine.specs.Reply as told
use Rattle.pagetab_engine.specs.Situation.{Situation, call_back}
use Rattle.pagetab_engine.specs.TableWords.{words_after}
use Rattle.pagetab_engine.specs.declared.arguments.Mode.{Mode}
use Rattle.pagetab_engine.specs.declared.arguments.Mode.TheVariants.{Pair}
use Rattle.pagetab_engine.proofs.Cleared.{cleared_alike, cleared_fits}
use Rattle.pagetab_engine.proofs.Fitting.{fits_tell}
use Rattle.pagetab_engine.proofs.WrittenCalls.{AreMachines, written}

gives_first : TakesBack put_first
gives_first = giving_from put_first (λ held frame. IsPermutation-refl (frame ∷ held))

some_levels : (levels : Levels) → 3 < count levels
some_levels Four = lit< tt
some_levels Five = lit< tt

lines_written : (levels : Levels) (places : ℕ) (lines : List Numbered) → AreMachines (count levels) (some_levels levels) (statements_in (count levels) places lines)
lines_written levels places [] = tt
lines_written levels places (line ∷ lines) = (written (count levels) (some_levels levels) places line.line, lines_written levels places lines)

same_behind : (reply : Option Reply) (one other : Transcript) → AreSameByMapper one other → AreSameByMapper (behind_reply reply one) (behind_reply reply other)
same_behind None one other same = same
same_behind (Some reply) one other same = record { replies = ap (λ replies. by_mapper reply ∷ replies) same.replies; ending = same.ending }

-- the mappers of a pair, and the self-entry of the recursive one
module _ (levels : Levels) (index entry : ℕ) where
  abbrev L : ℕ
  L = count levels

  abbrev mode : Mode
  mode = Pair levels index

  abbrev second_layout : Layout
  second_layout = recursive_at L 0x1000 (record { index = index; self_entry = entry })

  abbrev one : Machine
  one = machine_of (direct_layout L) put_first

  abbrev two : Machine
  two = machine_of second_layout put_first

  -- what the commands act on if the one or the other executes them
  abbrev by_one : State → (ℕ → ℕ → ℕ) → Situation
  by_one s words = record { mode = mode; layout = direct_layout L; state = s; words = words }

  abbrev by_two : State → (ℕ → ℕ → ℕ) → Situation
  by_two t words = record { mode = mode; layout = second_layout; state = t; words = words }

  pub record ArePair (serves : ℕ → Bool) (s t : State) : Type 0 where
    pub alike : Alike L s.paths t.paths
    pub pools : s.pool ≡ t.pool
    pub fits : (T : Words) × FitsState one T 0x1000 serves s
    pub other_fits : (T : Words) × FitsState two T 0x1000 serves t

  module _ (serves : ℕ → Bool) where
    pub record AreAfter (x y : AfterStep CallReply) : Type 0 where
      pub pair : ArePair serves x.state y.state
      pub reply : x.reply ≡ y.reply

    module _ (s t : State) (pair : ArePair serves s t) (call : model.Call) (is : IsCall L call) where
      call_made : is_refused mode call ≡ false → AreAfter (step_by one s call) (step_by two t call)
      call_made unnamed =
          let runs = pairs_reply_alike one two refl refl gives_first no_flags present_writable pair.fits.0 pair.other_fits.0 0x1000 0x1000 serves serves
          (call ∷ []) (is, tt) (none_named {C = Unit {0}} (λ _. call) L (some_levels levels) (λ _. is) one.window (tt ∷ []) tt) (none_named {C = Unit {0}} (λ _. call) L (some_levels levels) (λ _. is) two.window (tt ∷ []) (unnamed, tt))
          s t pair.fits.1 pair.other_fits.1 pair.alike pair.pools in
          let held = step_is_held one (record { adds = no_flags.adds; gives = gives_first }) pair.fits.0 0x1000 serves s call is pair.fits.1 in
          let other_held = step_is_held two (record { adds = present_writable.adds; gives = gives_first }) pair.other_fits.0 0x1000 serves t call is pair.other_fits.1 in
          let same : (step one s call).reply ≡ (step two t call).reply = let all : ◌≡◌ {A = List model.Reply} ((step one s call).reply ∷ []) ((step two t call).reply ∷ []) = runs.replies in cc in
          record {
            pair = record { alike = runs.paths; pools = runs.pools; fits = (held.0, held.1); other_fits = (other_held.0, other_held.1) };
            reply = ap (reply_of call) same;
          }

      stepped : (refused : Bool) → is_refused mode call ≡ refused
          → AreAfter (cond refused (record { state = s; reply = Some NotAllowed }) (step_by one s call)) (cond refused (record { state = t; reply = Some NotAllowed }) (step_by two t call))
      stepped true named = record { pair = pair; reply = refl }
      stepped false unnamed = call_made unnamed

    served : (lines : List (ℕ × Option Statement)) → AreMachines L (some_levels levels) lines → (s t : State) → ArePair serves s t → (u v : ℕ → ℕ → ℕ)
        → AreSameByMapper (served_transcript lines (by_one s u)) (served_transcript lines (by_two t v))
    served [] are s t pair u v = record { replies = refl; ending = refl }
    served ((number, None) ∷ lines) are s t pair u v = record { replies = refl; ending = refl }
    served ((number, Some (Image line)) ∷ lines) are s t pair u v = record { replies = refl; ending = refl }
    served ((number, Some (Asks (Walk position))) ∷ lines) are s t pair u v =
        let rest = served lines are.1 s t pair u v in record { replies = ap (λ replies. None ∷ replies) rest.replies; ending = rest.ending }
    served ((number, Some (Asks (Show slot))) ∷ lines) are s t pair u v =
        let rest = served lines are.1 s t pair u v in record { replies = ap (λ replies. None ∷ replies) rest.replies; ending = rest.ending }
    served ((number, Some (Asks Pool)) ∷ lines) are s t pair u v =
        let rest = served lines are.1 s t pair u v in record { replies = (λ i. Some (told.Pool (pair.pools i)) ∷ rest.replies i); ending = rest.ending }
    served ((number, Some (Asks (Call call))) ∷ lines) are s t pair u v =
        let after = stepped s t pair call are.0 (is_refused mode call) refl in
        let x : AfterStep CallReply = cond (is_refused mode call) (record { state = s; reply = Some NotAllowed }) (step_by one s call) in
        let y : AfterStep CallReply = cond (is_refused mode call) (record { state = t; reply = Some NotAllowed }) (step_by two t call) in
        let first = by_one x.state (words_after (direct_layout L) x.state (call_back (by_one s u) call) u) in
        let second = by_two y.state (words_after second_layout y.state (call_back (by_two t v) call) v) in
        let rest : AreSameByMapper (served_transcript lines first) (served_transcript lines second) = served lines are.1 x.state y.state after.pair _ _ in
        subst (λ (reply : Option CallReply). AreSameByMapper (behind_reply (option_map Answered x.reply) (served_transcript lines first)) (behind_reply (option_map Answered reply) (served_transcript lines second)))
        after.reply (same_behind (option_map Answered x.reply) (served_transcript lines first) (served_transcript lines second) rest)

-- an image that fits is one for both mappers
pub both_mappers_reply : BothMappersReply
both_mappers_reply levels index loaded fitting places lines =
    let m : Memory = loaded.memory in
    let cleared : Memory = without_self_entry index m in
    let serves = serves_below loaded.limit in
    let fits : PoolFits (recursive_layout (count levels) m index laid_in m) serves loaded.free = (fits_tell (Pair levels index) loaded).0 fitting in
    let pair : ArePair levels index (word (words_of m identity_places) 0x1000 index) serves (state_in (direct_layout (count levels)) cleared loaded.free) (state_in (recursive_layout (count levels) m index) m loaded.free) = record {
      alike = cleared_alike levels m index;
      pools = refl;
      fits = (words_of cleared identity_places, cleared_fits levels m index serves loaded.free fits);
      other_fits = (words_of m identity_places, fits);
    } in
    served levels index (word (words_of m identity_places) 0x1000 index) serves (statements_in (count levels) places lines) (lines_written levels places lines)
    (state_in (direct_layout (count levels)) cleared loaded.free) (state_in (recursive_layout (count levels) m index) m loaded.free) pair (word (words_of cleared identity_places)) (word (words_of m identity_places))
