-- A map that follows a look: it is refused as the look says, or done.
use Rattle.std.proofs.Common.{◌≡◌, ℕ, true, false, cond, length, Result, Ok, Err, OnErr, refl, sym, ap, ◌∙◌, subst}
use Rattle.std.proofs.lemmas.Option.{same_Some}
use Rattle.x86_64_live.specs.MapsOrNothing.{MapsOrNothing, by_rule, call_for}
use Rattle.x86_64_live.specs.WouldAnswer.{WouldAnswer}
use Rattle.x86_64_live.specs.declared.map.PageMap.{PageMap}
use Rattle.x86_64_mappers.specs.Supplies.{MapsFrom, Supply}
use Rattle.x86_64_model.specs.Allowed.{refuses}
use Rattle.x86_64_model.specs.Call.{Call}
use Rattle.x86_64_model.specs.Layout.{Layout}
use Rattle.x86_64_model.specs.MapRule.{AfterMap}
use Rattle.x86_64_model.proofs.Lemmas.Machines.WordsAlone as alone
use Rattle.x86_64_model.specs.Hierarchy.{◌laid_in◌, Hierarchy, paths}
use Rattle.x86_64_model.specs.Memory.{Memory}
use Rattle.x86_64_model.specs.Refusal.{Answer, Done}
use Rattle.x86_64_tables.specs.MapperAnswers.{map_answer}
use Rattle.x86_64_tables.specs.declared.errors.MapToError.{MapToError}

module _ {Lent S L : Type 0} (h : Hierarchy Lent) (supply : Supply) (level : ℕ) (map : PageMap S L) where
  abbrev rule : AfterMap
  rule = by_rule h supply.frames level map

  abbrev Foretold : Answer → Type 0
  Foretold answer = WouldAnswer h level map.page map.frame (length supply.frames) answer

  told : (answer : Answer) → Foretold answer → rule.answer ≡ answer
  told answer foretold = foretold supply.frames _ _ refl

  module _ (answer : Answer) (after : Hierarchy Lent) (rest : Supply) (maps : MapsFrom h supply (call_for level map) answer after rest) where
    by_the_rule : rule ≡ record { paths = paths after; supply = rest.frames; answer = answer }
    by_the_rule = same_Some _ _ maps.map.outcome

    is_done : Foretold (Done map.frame) → answer ≡ Done map.frame
    is_done foretold = sym (ap (λ (a : AfterMap). a.answer) by_the_rule) ∙ told (Done map.frame) foretold

    done_map : Foretold (Done map.frame) → MapsOrNothing h supply level map answer after rest
    done_map foretold = record {
      outcome = sym by_the_rule ∙ ap (λ a. cond (refuses a) (record { paths = paths h; supply = supply.frames; answer = rule.answer }) rule) (sym (told (Done map.frame) foretold));
      done = λ _. maps;
      refused = λ yes. absurd (let t : false ≡ true = sym (ap refuses (is_done foretold)) ∙ yes in cc);
    }

-- a map that is done has no error
no_error : {S X : Type 0} (frame : ℕ) (result : Result X (MapToError S)) (P : Type 0) → map_answer frame result ≡ Done frame → OnErr result P
no_error frame (Ok flush) P is = tt
no_error frame (Err why) P is = let t = is in cc

-- ---- the mapper's hierarchy and the words alone

module _ {Lent : Type 0} (h : Hierarchy Lent) (l : Layout) (m : Memory) (layout : h.layout ≡ l) (memory : h.memory ≡ m) where
  -- what the mapper did, of the words alone
  pub in_words : (after : Hierarchy Lent) (n : Memory) → after.memory ≡ n → (supply rest : Supply) (call : Call) (answer : Answer)
      → MapsFrom h supply call answer after rest → MapsFrom (l laid_in m) supply call answer (l laid_in n) rest
  in_words after n left supply rest call answer maps =
      alone.in_words h after l m n layout memory left maps.map.keeps.layout (λ before last. MapsFrom before supply call answer last rest)
      (record { map = alone.maps_alone maps.map; serves = maps.serves })

  -- a map is done if the look found no reason against it
  pub done_after_look : {S L E X : Type 0} (after : Hierarchy Lent) (n : Memory) → after.memory ≡ n → (supply rest : Supply) (free : ℕ) → length supply.frames ≡ free → (level : ℕ) (map : PageMap S L) (result : Result X (MapToError E))
      → WouldAnswer (l laid_in m) level map.page map.frame free (Done map.frame) → MapsFrom h supply (call_for level map) (map_answer map.frame result) after rest
      → MapsOrNothing (l laid_in m) supply level map (map_answer map.frame result) (l laid_in n) rest × ((P : Type 0) → OnErr result P)
  done_after_look after n left supply rest free count level map result foretold maps =
      let here = in_words after n left supply rest (call_for level map) (map_answer map.frame result) maps in
      let known = subst (λ n. WouldAnswer (l laid_in m) level map.page map.frame n (Done map.frame)) (sym count) foretold in (
        done_map (l laid_in m) supply level map (map_answer map.frame result) (l laid_in n) rest here known,
        λ P. no_error map.frame result P (is_done (l laid_in m) supply level map (map_answer map.frame result) (l laid_in n) rest here known),
      )
