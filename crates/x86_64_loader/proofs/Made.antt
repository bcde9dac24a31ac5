-- Lists of maps, one after another.
use Rattle.std.proofs.Common.{◌≡◌, ◌<◌, ◌≤◌, ◌++◌, ℕ, Bool, true, cond, List, [], ◌∷◌, map, Result, refl, sym, ap, ap₂, ◌∙◌, subst, subst₂, append_assoc}
use Rattle.std.proofs.lemmas.List.{map-append}
use Rattle.std.specs.Result.{IfOk}
use Rattle.x86_64_model.specs.Call.{Call, MapTo, Reply, Answered, NotAllowed}
use Rattle.x86_64_model.specs.Entry.{IsParentFlags}
use Rattle.x86_64_model.specs.Layout.{Layout}
use Rattle.x86_64_model.proofs.Lemmas.Machines.Owners.{map_allows, map_leads}
use Rattle.x86_64_model.specs.Machine.{AfterCall, State, only_reply, do_call, step, replies_of, state_after}
use Rattle.x86_64_model.specs.MapRule.{parent_part}
use Rattle.x86_64_model.specs.Memory.{IsMapping}
use Rattle.x86_64_model.specs.Hierarchy.{Hierarchy, DoesMap, MayMap, PoolFits, machine_of, state_of}
use Rattle.x86_64_model.specs.PageMappings.{PageMapping, accepted, map_calls, map_call_of}
use Rattle.x86_64_model.specs.Pool.{TakesBack}
use Rattle.x86_64_model.specs.Refusal.{Answer, Refusal, Refused}
use Rattle.x86_64_model.proofs.Lemmas.Runs.Runs.{replies_append, state_append}
use Rattle.x86_64_tables.specs.MapperAnswers.{map_answer}
use Rattle.x86_64_tables.specs.declared.errors.MapToError.{MapToError}
use Rattle.x86_64_mappers.specs.Supplies.{Supply, MapsFrom}
use Rattle.x86_64.specs.Pairs.{put_first}
use Rattle.x86_64.specs.declared.call_values.PageReply.TheVariants as reply
use Rattle.x86_64.proofs.FreeFrames.{nothing_keeps_free}
use Rattle.x86_64.proofs.Keeping.{keeps_nothing}
use Rattle.x86_64.proofs.PageSteps.{Serves, Start, map_to_served}
use Rattle.x86_64_loader.specs.Maps.{Accepts, KeptWithSupply, Made, Refuses}
use Rattle.x86_64_loader.specs.Segments.{page_mapping}

-- the supply that a value is, by what it can hand out and what it serves
abbrev pub supplied : {Self : Type 0} → (supply : Self → List ℕ) → (serves : Self → ℕ → Bool) → Self → Supply
supplied supply serves value = record { frames = supply value; serves = serves value }

-- ---- the machine's steps for them

-- for no map
pub accepts_none : {Lent : Type 0} (h : Hierarchy Lent) (supply : List ℕ) → Accepts h supply [] h supply
accepts_none h supply = record { replies = λ take_back. refl; state = λ take_back. refl }

module _ {Lent : Type 0} (h now after : Hierarchy Lent) (supply between rest : List ℕ) (xs ys : List PageMapping) (same : now.layout ≡ h.layout) where
  -- for some maps and then others
  pub made_then : (answers others : List Reply) → Made h supply xs answers now between → Made now between ys others after rest → Made h supply (xs ++ ys) (answers ++ others) after rest
  made_then answers others one two = record {
    replies = λ take_back.
        let m = machine_of h.layout take_back in
        ap (replies_of m (state_of h supply)) (map-append map_call_of xs ys)
        ∙ replies_append m (state_of h supply) (map_calls xs) (map_calls ys)
        ∙ ap₂ (λ rs (s : State). rs ++ replies_of m s (map_calls ys)) (one.replies take_back) (one.state take_back)
        ∙ ap (λ rs. answers ++ rs) (subst (λ (l : Layout). replies_of (machine_of l take_back) (state_of now between) (map_calls ys) ≡ others) same (two.replies take_back));
    state = λ take_back.
        let m = machine_of h.layout take_back in
        ap (state_after m (state_of h supply)) (map-append map_call_of xs ys)
        ∙ state_append m (state_of h supply) (map_calls xs) (map_calls ys)
        ∙ ap (λ (s : State). state_after m s (map_calls ys)) (one.state take_back)
        ∙ subst (λ (l : Layout). state_after (machine_of l take_back) (state_of now between) (map_calls ys) ≡ state_of after rest) same (two.state take_back);
  }

  pub accepts_then : Accepts h supply xs now between → Accepts now between ys after rest → Accepts h supply (xs ++ ys) after rest
  accepts_then one two = subst (λ rs. Made h supply (xs ++ ys) rs after rest) (sym (map-append accepted xs ys)) (made_then (map accepted xs) (map accepted ys) one two)

-- for accepted maps, followed by others of which the last was refused
pub refuses_then : {Lent : Type 0} (h now after : Hierarchy Lent) (supply between rest : List ℕ) (xs ys : List PageMapping) → now.layout ≡ h.layout → (next : PageMapping) (why : Refusal)
    → Accepts h supply xs now between → Refuses now between ys next why after rest → Refuses h supply (xs ++ ys) next why after rest
refuses_then h now after supply between rest xs ys same next why one two =
    let refused : List Reply = Answered (Refused why) ∷ [] in
    subst₂ (λ pages answers. Made h supply pages answers after rest) (sym (append_assoc xs ys (next ∷ [])))
    (sym (append_assoc (map accepted xs) (map accepted ys) refused) ∙ ap (λ rs. rs ++ refused) (sym (map-append accepted xs ys)))
    (made_then h now after supply between rest xs (ys ++ next ∷ []) same (map accepted xs) (map accepted ys ++ refused) one two)

-- for one map
pub made_one : {Lent : Type 0} (h : Hierarchy Lent) (supply : List ℕ) (level page frame given : ℕ) (answer : Answer) (after : Hierarchy Lent) (rest : List ℕ)
    → MayMap h supply (MapTo level page frame given) → DoesMap h supply (MapTo level page frame given) answer after rest
    → Made h supply (page_mapping level page frame given ∷ []) (Answered answer ∷ []) after rest
made_one h supply level page frame given answer after rest may does = record {
  replies = λ take_back. ap (λ (x : AfterCall). x.reply ∷ []) (one take_back);
  state = λ take_back. ap (λ (x : AfterCall). x.state) (one take_back);
}
  where
    call : Call
    call = MapTo level page frame given

    one : (take_back : List ℕ → ℕ → List ℕ) → step (machine_of h.layout take_back) (state_of h supply) call ≡ record { state = state_of after rest; reply = Answered answer }
    one take_back = ap (λ b. cond b (do_call (machine_of h.layout take_back) (state_of h supply) call) (only_reply (state_of h supply) NotAllowed))
        (map_allows h supply call may.allowed) ∙ map_leads h supply call answer after rest does.outcome take_back

-- ---- what they keep

pub gives_first : TakesBack put_first
gives_first = record { same_frames = λ held f g. (λ i. i, λ i. i); each_once = λ held f once. once }

-- no map
pub kept_none : {Lent : Type 0} (h : Hierarchy Lent) (supply : Supply) → PoolFits h (λ f. true) supply.frames → KeptWithSupply h supply h supply
kept_none h supply fits = record {
  fits = fits;
  keeps = λ serves fits. keeps_nothing h.layout serves h.memory supply.frames fits;
  serves = refl;
  free = nothing_keeps_free h.layout h.memory supply.frames;
  walks = λ p w is. (w, is, record { same_place = refl; write_kept = λ a. a; user_kept = λ a. a });
  layout = refl;
  lent = refl;
}

-- one map
pub kept_one : {Lent : Type 0} {S : Type 0} (h after : Hierarchy Lent) (supply rest : Supply) (level page frame given : ℕ) → 1 ≤ level → level ≤ 3 → 3 < h.layout.levels
    → IsParentFlags h.layout.added_flags → IsMapping h.layout.places → (result : Result ℕ (MapToError S)) → IfOk result (λ flush. flush ≡ page)
    → MayMap h supply.frames (MapTo level page frame given) → MapsFrom h supply (MapTo level page frame given) (map_answer frame result) after rest → KeptWithSupply h supply after rest
kept_one {S = S} h after supply rest level page frame given low high some adds mapping result same may does = record {
  fits = does.map.fits;
  keeps = λ serves fits. (served serves fits).keeps;
  serves = does.serves;
  free = (served (λ f. true) may.fits).free;
  walks = λ p w is. let v = does.map.walks (parent_part given) refl p w is in (v.0, v.1, v.2.no_worse);
  layout = does.map.keeps.layout;
  lent = does.map.keeps.lent;
}
  where
    start : (serves : ℕ → Bool) → PoolFits h serves supply.frames → Start h.layout put_first serves h.memory supply.frames level
    start serves fits = record { at_least_four = some; adds = adds; gives = gives_first; mapping = mapping; fits = fits; low = low; high = high }

    served : (serves : ℕ → Bool) (fits : PoolFits h serves supply.frames) → Serves S h.layout put_first serves h.memory supply.frames (MapTo level page frame given) after.memory rest.frames (reply.Map result)
    served serves fits = map_to_served h (start serves fits) page frame given result after rest.frames does.map same result refl may.allowed
