-- One more call of a list: what is left after it, together with what is done, is what was left before it.
use Rattle.std.proofs.Common.{zero, suc, ◌≡◌, ◌+◌, ◌<◌, ◌≤◌, ◌++◌, ℕ, Bool, true, false, refl, List, [], ◌∷◌, length, map, drop, get_or, Option, Some, ap, sym, ◌∙◌, subst, append_assoc, add-one, drop-cons, arith}
use Rattle.std.proofs.Math.Nat.{le_refl}
use Rattle.std.proofs.Math.Seq.{drop-append_seam}
use Rattle.std.proofs.lemmas.List.{append-nil, drop_all, drop-append-le, drop-map, length-append, length-map, map-append}
use Rattle.std.specs.List.{AllByRecursion}
use Rattle.x86_64_model.specs.Call.{Call}
use Rattle.x86_64_model.specs.Memory.{Memory}
use Rattle.x86_64_model.specs.Layout.{Layout}
use Rattle.x86_64_model.specs.Machine.{Machine, State, state_after}
use Rattle.x86_64_model.specs.Hierarchy.{Hierarchy}
use Rattle.x86_64_model.specs.Store.{Store, KeepsPool}
use Rattle.x86_64_model.specs.Flushing.{freed_by}
use Rattle.x86_64_tables.specs.declared.tokens.recorder.FlushItem.{FlushItem}
use Rattle.x86_64.specs.Flushes.{flush_items_of, items_told}
use Rattle.x86_64.specs.private.Served.{recorded}
use Rattle.x86_64.specs.FreeFrames.{KeepsFree, all_back}
use Rattle.x86_64.specs.Runs.{machine_of, state_in, Keeps, AfterStep, step_by, replies_to, appended, UnchangedIfRefused}
use Rattle.x86_64.specs.Replies.{Reply, changes_nothing}
use Rattle.x86_64.proofs.Keeping.{keeps_then}

left : {C : Type 0} (calls : List C) (i : ℕ) (call : C) → i < length calls → call ≡ get_or calls i call → drop i calls ≡ call ∷ drop (i + 1) calls
left calls i call here item = rw add-one (drop-cons calls i call here ∙ ap (λ c. c ∷ drop (suc i) calls) (sym item))

recorded_both : (b : Bool) (xs ys : List FlushItem) → recorded b (xs ++ ys) ≡ recorded b xs ++ recorded b ys
recorded_both true xs ys = refl
recorded_both false xs ys = refl

module _ {C : Type 0} (asks : C → Call) (m : Machine) (s t : State) (r : Reply) (calls : List C) (i : ℕ) (call : C) (here : i < length calls) (item : call ≡ get_or calls i call) (one : step_by m s (asks call) ≡ record { state = t; reply = Some r }) where
  pub told_next : (items more : List Reply) (all : List (Option Reply)) → more ≡ items ++ r ∷ [] → map Some items ++ replies_to asks m s (drop i calls) ≡ all → map Some more ++ replies_to asks m t (drop (i + 1) calls) ≡ all
  told_next items more all e before =
      let rest = drop (i + 1) calls in
      ap (λ xs. map Some xs ++ replies_to asks m t rest) e ∙ ap (λ xs. xs ++ replies_to asks m t rest) (map-append Some items (r ∷ [])) ∙ append_assoc (map Some items) (Some r ∷ []) (replies_to asks m t rest)
      ∙ ap (λ (x : AfterStep Reply). map Some items ++ x.reply ∷ replies_to asks m x.state rest) (sym one) ∙ ap (λ cs. map Some items ++ replies_to asks m s cs) (sym (left calls i call here item)) ∙ before

  pub rest_next : (all : State) → state_after m s (map asks (drop i calls)) ≡ all → state_after m t (map asks (drop (i + 1) calls)) ≡ all
  rest_next all before = ap (λ (x : AfterStep Reply). state_after m x.state (map asks (drop (i + 1) calls))) (sym one) ∙ ap (λ cs. state_after m s (map asks cs)) (sym (left calls i call here item)) ∙ before

  -- the frames that are returned from here on
  pub back_next : all_back m s (map asks (drop i calls)) ≡ freed_by m.levels s (asks call) ++ all_back m t (map asks (drop (i + 1) calls))
  back_next =
      ap (λ cs. all_back m s (map asks cs)) (left calls i call here item)
      ∙ ap (λ (x : AfterStep Reply). freed_by m.levels s (asks call) ++ all_back m x.state (map asks (drop (i + 1) calls))) one

-- ---- the replies that were appended

items_both : (levels : ℕ) (xs ys : List Reply) → items_told levels (xs ++ ys) ≡ items_told levels xs ++ items_told levels ys
items_both levels [] ys = refl
items_both levels (x ∷ xs) ys = ap (λ zs. flush_items_of levels x ++ zs) (items_both levels xs ys) ∙ sym (append_assoc (flush_items_of levels x) (items_told levels xs) (items_told levels ys))

all_parts : {X : Type 0} (P : X → Type 0) (xs : List X) (y : X) → AllByRecursion P (xs ++ y ∷ []) → AllByRecursion P xs × P y
all_parts P [] y all = (tt, all.0)
all_parts P (x ∷ xs) y all = let parts = all_parts P xs y all.1 in ((all.0, parts.0), parts.1)

module _ (before items more : List Reply) (r : Reply) (longer : length before ≤ length items) (e : more ≡ items ++ r ∷ []) where
  one_appended : appended before more ≡ appended before items ++ r ∷ []
  one_appended = ap (appended before) e ∙ drop-append-le (length before) items (r ∷ []) longer

  pub longer_next : length before ≤ length more
  longer_next = let long : length more ≡ length items + 1 = ap length e ∙ length-append items (r ∷ []) in omega (arith, longer, long)

  pub items_next : (levels : ℕ) (b : Bool) (start held next : List FlushItem) → next ≡ held ++ recorded b (flush_items_of levels r) → held ≡ start ++ recorded b (items_told levels (appended before items))
      → next ≡ start ++ recorded b (items_told levels (appended before more))
  items_next levels b start held next adds first =
      adds ∙ ap (λ xs. xs ++ recorded b (flush_items_of levels r)) first ∙ append_assoc start (recorded b (items_told levels (appended before items))) (recorded b (flush_items_of levels r))
      ∙ ap (λ xs. start ++ xs) (sym (recorded_both b (items_told levels (appended before items)) (flush_items_of levels r)) ∙ ap (recorded b) (one_item ∙ ap (items_told levels) (sym one_appended)))
    where
      one_item : items_told levels (appended before items) ++ flush_items_of levels r ≡ items_told levels (appended before items ++ r ∷ [])
      one_item = ap (λ xs. items_told levels (appended before items) ++ xs) (sym (append-nil (flush_items_of levels r))) ∙ sym (items_both levels (appended before items) (r ∷ []))

  pub still_next : (m n o : Memory) → UnchangedIfRefused (appended before items) m n → (changes_nothing r ≡ true → o ≡ n) → UnchangedIfRefused (appended before more) m o
  still_next m n o first next all =
      let parts = all_parts (λ reply. changes_nothing reply ≡ true) (appended before items) r (subst (AllByRecursion (λ reply. changes_nothing reply ≡ true)) one_appended all) in
      next parts.1 ∙ first parts.0

replies_long : {C : Type 0} (asks : C → Call) (m : Machine) (s : State) (calls : List C) → length (replies_to asks m s calls) ≡ length calls
replies_long asks m s [] = refl
replies_long asks m s (call ∷ calls) = ap suc (replies_long asks m (step_by m s (asks call)).state calls)

-- no call is left
pub told_last : {C : Type 0} (asks : C → Call) (m : Machine) (s : State) (calls : List C) (i : ℕ) → length calls ≤ i → (items : List Reply) (all : List (Option Reply)) → map Some items ++ replies_to asks m s (drop i calls) ≡ all → map Some items ≡ all
told_last asks m s calls i past items all told = sym (append-nil (map Some items)) ∙ ap (λ cs. map Some items ++ replies_to asks m s cs) (sym (drop_all i calls past)) ∙ told

pub rest_last : {C : Type 0} (asks : C → Call) (m : Machine) (s : State) (calls : List C) (i : ℕ) → length calls ≤ i → (all : State) → state_after m s (map asks (drop i calls)) ≡ all → s ≡ all
rest_last asks m s calls i past all rest = ap (λ cs. state_after m s (map asks cs)) (sym (drop_all i calls past)) ∙ rest

pub back_last : {C : Type 0} (asks : C → Call) (m : Machine) (s : State) (calls : List C) (i : ℕ) → length calls ≤ i → all_back m s (map asks (drop i calls)) ≡ []
back_last asks m s calls i past = ap (λ cs. all_back m s (map asks cs)) (drop_all i calls past)

-- one for each call
pub one_each : {C : Type 0} (asks : C → Call) (m : Machine) (s : State) (calls : List C) (before after : List Reply) → map Some after ≡ map Some before ++ replies_to asks m s calls → length after ≡ length before + length calls
one_each asks m s calls before after told =
    sym (length-map after Some) ∙ ap length told ∙ length-append (map Some before) (replies_to asks m s calls) ∙ ap (λ n. n + length (replies_to asks m s calls)) (length-map before Some) ∙ ap (λ n. length before + n) (replies_long asks m s calls)

-- the appended replies are the machine's
pub appended_told : {R : Type 0} (before after : List R) (told : List (Option R)) → map Some after ≡ map Some before ++ told → map Some (appended before after) ≡ told
appended_told before after told e =
    sym (drop-map Some (length before) after) ∙ ap (drop (length before)) e ∙ ap (λ n. drop n (map Some before ++ told)) (sym (length-map before Some)) ∙ drop-append_seam (map Some before) told

-- where there are no items, none is recorded
pub nothing_recorded : (b : Bool) (held : List FlushItem) → held ≡ held ++ recorded b []
nothing_recorded true held = sym (append-nil held)
nothing_recorded false held = sym (append-nil held)

-- if no reply was appended, no item is recorded
pub items_first : (levels : ℕ) (b : Bool) (before : List Reply) (held : List FlushItem) → held ≡ held ++ recorded b (items_told levels (appended before before))
items_first levels b before held =
    nothing_recorded b held
    ∙ sym (ap (λ told. held ++ recorded b (items_told levels told)) (drop_all (length before) before (le_refl (length before))))

-- room for k + 1 tokens is room for one
pub room_for_one : (has_room : ℕ → Type 0) → ((n : ℕ) → has_room (n + 1) → has_room n) → (k : ℕ) → has_room (k + 1) → has_room 1
room_for_one has_room fewer zero room = room
room_for_one has_room fewer (suc k) room =
    let same : suc k + 1 ≡ k + 1 + 1 = omega arith in
    room_for_one has_room fewer k (fewer (k + 1) (subst has_room same room))

-- ---- in the same layout

module _ (k l : Layout) (same : l ≡ k) (take_back : List ℕ → ℕ → List ℕ) (n o : Memory) (rest last : List ℕ) where
  pub step_at : (call : Call) (r : Reply) → step_by (machine_of l take_back) (state_in l n rest) call ≡ record { state = state_in l o last; reply = Some r } → step_by (machine_of k take_back) (state_in k n rest) call ≡ record { state = state_in k o last; reply = Some r }
  step_at call r = subst (λ l. step_by (machine_of l take_back) (state_in l n rest) call ≡ record { state = state_in l o last; reply = Some r }) same

  pub free_at : (call : Call) → KeepsFree l n rest (freed_by l.levels (state_in l n rest) call) o last → KeepsFree k n rest (freed_by k.levels (state_in k n rest) call) o last
  free_at call = subst (λ l. KeepsFree l n rest (freed_by l.levels (state_in l n rest) call) o last) same

pub kept_then : {Lent : Type 0} (h now after : Hierarchy Lent) (store left last : Store) → Keeps h store now left → Keeps now left after last → Keeps h store after last
kept_then h now after store left last one next = record {
  keeps = keeps_then h.layout store.serves h.memory now.memory after.memory store.frames left.frames last.frames one.keeps
      (subst (λ serves. KeepsPool h.layout serves now.memory left.frames after.memory last.frames) one.serves (subst (λ l. KeepsPool l left.serves now.memory left.frames after.memory last.frames) one.layout next.keeps));
  serves = next.serves ∙ one.serves;
  layout = next.layout ∙ one.layout;
  lent = next.lent ∙ one.lent;
}
