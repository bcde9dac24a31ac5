-- A call with its flush leaves nothing due.
use Rattle.std.proofs.Common.{zero, suc, inl, inr, ◌≡◌, ◌++◌, ℕ, Bool, true, false, List, [], ◌∷◌, take, cond, not, filter, Option, Some, None, unwrap_or, refl, ap, ◌∙◌, subst, eq-eqb}
use Rattle.std.proofs.lemmas.Bool.{and_from}
use Rattle.std.proofs.lemmas.List.{append-nil}
use Rattle.x86_64_model.specs.Call as machine
use Rattle.x86_64_model.specs.Call.{Call, MapTo, MapToWithTableFlags, IdentityMap, Unmap, UpdateFlags, SetFlags, TranslatePage, Translate, TranslateAddress, CleanUp}
use Rattle.x86_64_model.specs.Flushing.{Due, PageDue, TablesDue, WindowDue, BelowDue, flush_after, freed_by, if_accepted, if_allowed, if_window, below_due}
use Rattle.x86_64_model.specs.Lists.{In}
use Rattle.x86_64_model.specs.Machine.{step}
use Rattle.x86_64_model.specs.Hierarchy.{machine_of, state_in}
use Rattle.x86_64_model.specs.Path.{begins, path_at, is_small}
use Rattle.x86_64_model.specs.Position.{page_path}
use Rattle.x86_64_model.specs.Refusal.{Done, Refused}
use Rattle.x86_64_model.specs.Window.{Window}
use Rattle.x86_64.specs.Calls.{page_of_call}
use Rattle.x86_64.specs.FlushesDue.{flush_for, executed, settles_any, InPages}
use Rattle.x86_64.specs.Processors.{IsReachable, ArisesByFlushedCalls}
use Rattle.x86_64.specs.Replies.{Reply}
use Rattle.x86_64.specs.Runs.{AfterStep}
use Rattle.x86_64.proofs.FlushesTold.{flushes_settle}
use Rattle.x86_64.proofs.Processors.{arises_by_caching, arises_by_calls, arises_by_flushes}

-- ---- the page that is due is the call's

begins_taken : (n : ℕ) (q : List ℕ) → begins (take n q) q ≡ true
begins_taken zero q = refl
begins_taken (suc n) [] = refl
begins_taken (suc n) (i ∷ q) = and_from _ _ (eq-eqb i i refl) (begins_taken n q)

-- no page is due
abbrev NoPage : List Due → Type 0
NoPage due = (q : List ℕ) (frame : ℕ) → In due (PageDue q frame) → ⊥

none_in_window : (small : Bool) (window : Option Window) → NoPage (cond small [] (if_window window))
none_in_window true window q frame i = i
none_in_window false None q frame i = i
none_in_window false (Some w) q frame (inl e) = cc
none_in_window false (Some w) q frame (inr i) = i

none_below : (window : Option Window) (r : List ℕ) → NoPage (below_due window r)
none_below window r q frame (inl e) = cc
none_below window r q frame (inr i) = none_in_window false window q frame i

none_marked : (b : Bool) (window : Option Window) (r : List ℕ) → NoPage (cond b (below_due window r) [])
none_marked true window r q frame i = none_below window r q frame i
none_marked false window r q frame i = i

allowed : (r : machine.Reply) (due : List Due) → NoPage due → NoPage (if_allowed r due)
allowed machine.NotAllowed due none q frame i = i
allowed (machine.Answered a) due none q frame i = none q frame i
allowed (machine.Position t) due none q frame i = none q frame i
allowed (machine.Address a) due none q frame i = none q frame i
allowed machine.Cleaned due none q frame i = none q frame i

abbrev page_of_due : Due → List ℕ
page_of_due (PageDue q frame) = q
page_of_due (TablesDue freed) = []
page_of_due WindowDue = []
page_of_due (BelowDue q) = []

module _ (L : ℕ) (window : Option Window) (freed : List ℕ) (r : machine.Reply) where
  accepted : (due : ℕ → List Due) (page : ℕ) → ((f : ℕ) → InPages L (due f) page) → InPages L (if_accepted r due) page
  accepted due page each q frame i = by r i
    where
      by : (r : machine.Reply) → In (if_accepted r due) (PageDue q frame) → begins q (page_path L page) ≡ true
      by (machine.Answered (Done f)) i = each f q frame i
      by (machine.Answered (Refused why)) i = absurd i
      by machine.NotAllowed i = absurd i
      by (machine.Position t) i = absurd i
      by (machine.Address a) i = absurd i
      by machine.Cleaned i = absurd i

  changed : (level page f : ℕ) (small : Bool) → InPages L (PageDue (path_at L level page) f ∷ cond small [] (if_window window)) page
  changed level page f small q frame (inl e) = subst (λ q. begins q (page_path L page) ≡ true) (ap page_of_due e) (begins_taken _ (page_path L page))
  changed level page f small q frame (inr i) = absurd (none_in_window small window q frame i)

  cleaned : NoPage (TablesDue freed ∷ if_window window)
  cleaned q frame (inl e) = cc
  cleaned q frame (inr i) = none_in_window false window q frame i

  in_pages : (call : Call) → InPages L (flush_after L window freed call r) (unwrap_or (page_of_call L call) 0)
  in_pages (MapTo level page start flags) q frame i = absurd i
  in_pages (MapToWithTableFlags level page start flags more) q frame i = absurd (allowed r _ (none_marked _ window _) q frame i)
  in_pages (IdentityMap level start flags) q frame i = absurd i
  in_pages (Unmap level page) q frame i = accepted _ page (λ f. changed level page f (is_small L (path_at L level page))) q frame i
  in_pages (UpdateFlags level page flags) q frame i = accepted _ page (λ f. changed level page f (is_small L (path_at L level page))) q frame i
  in_pages (SetFlags at level page flags) q frame i = accepted _ page (λ f q frame i. absurd (none_below window _ q frame i)) q frame i
  in_pages (TranslatePage level page) q frame i = absurd i
  in_pages (Translate p) q frame i = absurd i
  in_pages (TranslateAddress p) q frame i = absurd i
  in_pages (CleanUp low high) q frame i = absurd (cleaned q frame i)

  pub some_in_pages : (loses : Bool) (call : Call) → InPages L (cond loses (flush_after L window freed call r) []) (unwrap_or (page_of_call L call) 0)
  some_in_pages true call q frame i = in_pages call q frame i
  some_in_pages false call q frame i = absurd i

-- ---- a call with its flush

none_left : (P : Due → Bool) (due : List Due) → ((d : Due) → In due d → P d ≡ true) → filter (λ d. not (P d)) due ≡ []
none_left P [] each = refl
none_left P (d ∷ due) each = ap (λ b. cond (not b) (d ∷ filter (λ d. not (P d)) due) (filter (λ d. not (P d)) due)) (each d (inl refl)) ∙ none_left P due (λ d i. each d (inr i))

pub arises_by_flushed_calls : ArisesByFlushedCalls
arises_by_flushed_calls l take_back serves m n pool rest call reply loses is fits stepped free kept kept_all flush tells before first second after arises early late left =
    let r = (step (machine_of l take_back) (state_in l m pool) call).reply in
    let freed = freed_by l.levels (state_in l m pool) call in
    let due = cond loses (flush_after l.levels l.window freed call r) [] in
    let p = unwrap_or (page_of_call l.levels call) 0 in
    let ready = arises_by_caching l take_back serves m pool [] before first arises early in
    let called : IsReachable l take_back serves n rest first (due ++ []) =
    arises_by_calls l take_back serves m n pool rest first [] call loses ready is (λ f d i. absurd d.1) (λ q r frame i. absurd i) kept_all fits (ap (λ (a : AfterStep Reply). a.state) stepped) free kept in
    let waiting = arises_by_caching l take_back serves n rest due first second (subst (λ due. IsReachable l take_back serves n rest first due) (append-nil due) called) late in
    let is_told : flush ≡ flush_for due = tells l.window freed r refl (ap (λ (a : AfterStep Reply). a.reply) stepped) in
    subst (λ due. IsReachable l take_back serves n rest after due) (none_left (settles_any l.levels (executed (flush_for due) p)) due ((flushes_settle l.levels due p).settled (some_in_pages l.levels l.window freed r loses call)))
    (arises_by_flushes l take_back serves n rest due (executed (flush_for due) p) second after waiting (rw is_told at left))
