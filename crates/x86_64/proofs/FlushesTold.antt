-- What has to be flushed after a call is told by its reply, settles all that is due, and is the least that does.
use Rattle.std.proofs.Common.{◌≡◌, inl, inr, ◌<◌, ◌≤◌, ℕ, nat_lt, Bool, true, false, cond, List, [], ◌∷◌, take, Option, Some, None, option_map, Err, refl, sym, ap, ◌∙◌, subst, arith, eq-eqb, ne_eqb}
use Rattle.std.specs.Option.{is_some}
use Rattle.std.proofs.lemmas.Option.{same_Some}
use Rattle.x86_64_model.specs.Call as machine
use Rattle.x86_64_model.specs.Call.{Call, MapTo, MapToWithTableFlags, IdentityMap, Unmap, UpdateFlags, SetFlags, TranslatePage, CleanUp}
use Rattle.x86_64_model.specs.Entry.{no_execute}
use Rattle.x86_64_model.specs.Flushing.{Due, PageDue, TablesDue, WindowDue, BelowDue, Invlpg, flush_after, if_window, page_due, below_due}
use Rattle.x86_64_model.specs.Lists.{In}
use Rattle.x86_64_model.specs.Path.{begins, front_at, is_small, path_at}
use Rattle.x86_64_model.specs.Position.{page_path}
use Rattle.x86_64_model.specs.Refusal.{Answer, Done, Refused}
use Rattle.x86_64_model.specs.Window.{Window}
use Rattle.x86_64_page.specs.declared.page.Size4KiB.{Size4KiB as Small}
use Rattle.x86_64_page.specs.declared.page.Size2MiB.{Size2MiB as Large}
use Rattle.x86_64_page.specs.declared.page.Size1GiB.{Size1GiB as Giant}
use Rattle.x86_64_mappers.proofs.Way.EntryPaths.{path_length}
use Rattle.x86_64.specs.FlushesDue.{told_of, rank, larger, flush_for, executed, settles_any, FlushesSettle, FlushesAreLeast}
use Rattle.x86_64.specs.Replies.{SizeReply, Reply, map_error, unmap_error, update_error, translate_error, reply_of}
use Rattle.x86_64.specs.declared.call_values.PageReply.TheVariants as page_reply
use Rattle.x86_64.specs.declared.call_values.MapperReply.TheVariants as reply
use Rattle.x86_64.specs.declared.flushing.Flush.{Flush}
use Rattle.x86_64.specs.declared.flushing.Flush.TheVariants.{Nothing, Tables, Page, Everything}
use Rattle.x86_64.specs.private.FlushReplies.{takes, page_flush}
use Rattle.x86_64.specs.private.Served.{size_reply}
use Rattle.x86_64.proofs.ReplyCases.{IsOnPage, reply_cases}

-- ---- by the reply

-- the flush after a call with this reply; shown says whether there is a recursive window
abbrev pub flush_by : (takes_execute shown : Bool) → Reply → Flush
flush_by takes shown (reply.Of4KiB answer) = page_flush takes false answer
flush_by takes shown (reply.Of2MiB answer) = page_flush takes shown answer
flush_by takes shown (reply.Of1GiB answer) = page_flush takes shown answer
flush_by takes shown (reply.Translate result) = Nothing
flush_by takes shown (reply.Address address) = Nothing
flush_by takes shown reply.Cleaned = cond shown Everything Tables
flush_by takes shown reply.NotAllowed = Nothing

-- all items below a path are due
below : (q : List ℕ) (window : Option Window) → flush_for (below_due window q) ≡ Everything
below q None = refl
below q (Some w) = refl

marked : (b : Bool) (q : List ℕ) (window : Option Window) → flush_for (cond b (below_due window q) []) ≡ cond b Everything Nothing
marked true q window = below q window
marked false q window = refl

cleaned : (window : Option Window) (freed : List ℕ) → flush_for (TablesDue freed ∷ if_window window) ≡ cond (is_some window) Everything Tables
cleaned None freed = refl
cleaned (Some w) freed = refl

-- a page's entry was changed
changed : (q : List ℕ) (frame : ℕ) (small : Bool) (window : Option Window) → flush_for (PageDue q frame ∷ cond small [] (if_window window)) ≡ cond (cond small false (is_some window)) Everything Page
changed q frame true window = refl
changed q frame false None = refl
changed q frame false (Some w) = refl

not_allowed : (L : ℕ) (window : Option Window) (freed : List ℕ) (call : Call) (level : ℕ) → IsOnPage level call → flush_for (flush_after L window freed call machine.NotAllowed) ≡ Nothing
not_allowed L window freed (CleanUp low high) level on = cc
not_allowed L window freed call level on = refl

module _ {S : Type 0} (takes shown : Bool) where
  by_answer : (f : Flush) (told : SizeReply S) → f ≡ page_flush takes shown told → (answer : SizeReply S) → Some told ≡ Some answer → f ≡ page_flush takes shown answer
  by_answer f told tells answer e = tells ∙ ap (page_flush takes shown) (same_Some _ _ e)

  by_refusal : {E : Type 0} (f : Flush) (wrap : E → SizeReply S) (error : Option E) → ((w : E) → f ≡ page_flush takes shown (wrap w)) → (answer : SizeReply S) → option_map wrap error ≡ Some answer → f ≡ page_flush takes shown answer
  by_refusal f wrap None tells answer e = cc
  by_refusal f wrap (Some w) tells answer e = by_answer f (wrap w) (tells w) answer e

module _ (S : Type 0) (L level : ℕ) (small : Bool) (is : (page : ℕ) → is_small L (path_at L level page) ≡ small) (window : Option Window) (freed : List ℕ) where
  abbrev shown : Bool
  shown = cond small false (is_some window)

  changed_at : (l page frame : ℕ) → Some l ≡ Some level → flush_for (page_due L window (path_at L l page) frame) ≡ cond shown Everything Page
  changed_at l page frame on = ap (λ b. flush_for (PageDue (path_at L l page) frame ∷ cond b [] (if_window window))) (ap (λ l. is_small L (path_at L l page)) (same_Some _ _ on) ∙ is page) ∙ changed (path_at L l page) frame small window

  answer_tells : (call : Call) → IsOnPage level call → (a : Answer) (answer : SizeReply S) → size_reply call a ≡ Some answer → flush_for (flush_after L window freed call (machine.Answered a)) ≡ page_flush (takes call) shown answer
  answer_tells (MapTo l page frame flags) on (Done f) = by_answer false shown Nothing _ refl
  answer_tells (MapTo l page frame flags) on (Refused why) = by_refusal false shown Nothing (λ w. page_reply.Map (Err w)) (map_error why) (λ w. refl)
  answer_tells (MapToWithTableFlags l page frame flags more) on (Done f) = by_answer (no_execute more) shown _ _ (marked (no_execute more) (take 1 (path_at L l page)) window)
  answer_tells (MapToWithTableFlags l page frame flags more) on (Refused why) = by_refusal (no_execute more) shown _ (λ w. page_reply.Map (Err w)) (map_error why) (λ w. marked (no_execute more) (take 1 (path_at L l page)) window)
  answer_tells (IdentityMap l frame flags) on (Done f) = by_answer false shown Nothing _ refl
  answer_tells (IdentityMap l frame flags) on (Refused why) = by_refusal false shown Nothing (λ w. page_reply.Map (Err w)) (map_error why) (λ w. refl)
  answer_tells (Unmap l page) on (Done f) = by_answer false shown _ _ (changed_at l page f on)
  answer_tells (Unmap l page) on (Refused why) = by_refusal false shown Nothing (λ w. page_reply.Unmap (Err w)) (unmap_error why) (λ w. refl)
  answer_tells (UpdateFlags l page flags) on (Done f) = by_answer false shown _ _ (changed_at l page f on)
  answer_tells (UpdateFlags l page flags) on (Refused why) = by_refusal false shown Nothing (λ w. page_reply.Update (Err w)) (update_error why) (λ w. refl)
  answer_tells (SetFlags at l page flags) on (Done f) = by_answer false shown _ _ (below (front_at L at (path_at L l page)) window)
  answer_tells (SetFlags at l page flags) on (Refused why) = by_refusal false shown Nothing (λ w. page_reply.TableFlags (Err w)) (update_error why) (λ w. refl)
  answer_tells (TranslatePage l page) on (Done f) = by_answer false shown Nothing _ refl
  answer_tells (TranslatePage l page) on (Refused why) = by_refusal false shown Nothing (λ w. page_reply.Frame (Err w)) (translate_error why) (λ w. refl)
  answer_tells call on a = λ answer e. cc

pub told_by : (L : ℕ) → 3 < L → (window : Option Window) (freed : List ℕ) (call : Call) (r : machine.Reply) (x : Reply) → reply_of call r ≡ Some x
    → flush_for (flush_after L window freed call r) ≡ flush_by (takes call) (is_some window) x
told_by L some window freed =
    let small : (page : ℕ) → is_small L (path_at L 1 page) ≡ true = λ page. eq-eqb _ _ (let l = path_length L 1 page (omega arith) (omega (arith, some)) in omega (arith, l)) in
    let large : (page : ℕ) → is_small L (path_at L 2 page) ≡ false = λ page. ne_eqb _ _ (λ s. let l = path_length L 2 page (omega arith) (omega (arith, some)) in omega (arith, l, s, some)) in
    let giant : (page : ℕ) → is_small L (path_at L 3 page) ≡ false = λ page. ne_eqb _ _ (λ s. let l = path_length L 3 page (omega arith) (omega (arith, some)) in omega (arith, l, s, some)) in
    reply_cases (λ call r x. flush_for (flush_after L window freed call r) ≡ flush_by (takes call) (is_some window) x) (not_allowed L window freed)
    (answer_tells Small L 1 true small window freed) (answer_tells Large L 2 false large window freed) (answer_tells Giant L 3 false giant window freed)
    (λ p t told e. refl) (λ p a. refl) (λ low high. cleaned window freed)

-- a recursive index is that of a window
pub is_some_index : (window : Option Window) (index : Option ℕ) → option_map (λ (w : Window). w.index) window ≡ index → is_some index ≡ is_some window
is_some_index None index e = ap is_some (sym e)
is_some_index (Some w) index e = ap is_some (sym e)

-- ---- what a flush settles

larger_left : (f g : Flush) → rank f ≤ rank (larger f g)
larger_left f g = elim (nat_lt (rank f) (rank g)) as (λ b. nat_lt (rank f) (rank g) ≡ b → rank f ≤ rank (cond b g f)) [
  | true ↦ λ e. grind (arith, e)
  | false ↦ λ e. omega arith
] refl

larger_right : (f g : Flush) → rank g ≤ rank (larger f g)
larger_right f g = elim (nat_lt (rank f) (rank g)) as (λ b. nat_lt (rank f) (rank g) ≡ b → rank g ≤ rank (cond b g f)) [
  | true ↦ λ e. omega arith
  | false ↦ λ e. grind (arith, e)
] refl

larger_least : (f g : Flush) (n : ℕ) → rank f ≤ n → rank g ≤ n → rank (larger f g) ≤ n
larger_least f g n left right = elim (nat_lt (rank f) (rank g)) as (λ b. rank (cond b g f) ≤ n) [
  | true ↦ right
  | false ↦ left
]

told_least : (due : List Due) (n : ℕ) → ((d : Due) → In due d → rank (told_of d) ≤ n) → rank (flush_for due) ≤ n
told_least [] n each = omega arith
told_least (e ∷ due) n each = larger_least (told_of e) (flush_for due) n (each e (inl refl)) (told_least due n (λ d i. each d (inr i)))

told_at_least : (due : List Due) (d : Due) → In due d → rank (told_of d) ≤ rank (flush_for due)
told_at_least [] d i = absurd i
told_at_least (e ∷ due) d (inl is) = subst (λ d. rank (told_of d) ≤ rank (flush_for (e ∷ due))) is (larger_left (told_of e) (flush_for due))
told_at_least (e ∷ due) d (inr i) = let rest = told_at_least due d i in let right = larger_right (told_of e) (flush_for due) in omega (arith, rest, right)

settles_from : (L : ℕ) (f : Flush) (p : ℕ) (d : Due) → rank (told_of d) ≤ rank f → ((q : List ℕ) (frame : ℕ) → d ≡ PageDue q frame → begins q (page_path L p) ≡ true) → settles_any L (executed f p) d ≡ true
settles_from L Nothing p (PageDue q frame) r page = absurd (omega (arith, r))
settles_from L Nothing p (TablesDue freed) r page = absurd (omega (arith, r))
settles_from L Nothing p WindowDue r page = absurd (omega (arith, r))
settles_from L Nothing p (BelowDue q) r page = absurd (omega (arith, r))
settles_from L Tables p (PageDue q frame) r page = absurd (omega (arith, r))
settles_from L Tables p (TablesDue freed) r page = refl
settles_from L Tables p WindowDue r page = absurd (omega (arith, r))
settles_from L Tables p (BelowDue q) r page = absurd (omega (arith, r))
settles_from L Page p (PageDue q frame) r page = page q frame refl
settles_from L Page p (TablesDue freed) r page = refl
settles_from L Page p WindowDue r page = absurd (omega (arith, r))
settles_from L Page p (BelowDue q) r page = absurd (omega (arith, r))
settles_from L Everything p d r page = refl

rank_from : (L : ℕ) (f : Flush) (p : ℕ) (d : Due) → settles_any L (executed f p) d ≡ true → rank (told_of d) ≤ rank f
rank_from L Nothing p d s = cc
rank_from L Tables p (PageDue q frame) s = cc
rank_from L Tables p (TablesDue freed) s = omega arith
rank_from L Tables p WindowDue s = cc
rank_from L Tables p (BelowDue q) s = cc
rank_from L Page p (PageDue q frame) s = omega arith
rank_from L Page p (TablesDue freed) s = omega arith
rank_from L Page p WindowDue s = cc
rank_from L Page p (BelowDue q) s = cc
rank_from L Everything p (PageDue q frame) s = omega arith
rank_from L Everything p (TablesDue freed) s = omega arith
rank_from L Everything p WindowDue s = omega arith
rank_from L Everything p (BelowDue q) s = omega arith

any_page : (L any : ℕ) (d : Due) → rank (told_of d) ≤ 1 → settles_any L (Some (Invlpg any)) d ≡ true
any_page L any (PageDue q frame) r = absurd (omega (arith, r))
any_page L any (TablesDue freed) r = refl
any_page L any WindowDue r = absurd (omega (arith, r))
any_page L any (BelowDue q) r = absurd (omega (arith, r))

pub flushes_settle : FlushesSettle
flushes_settle L due p = record {
  settled = λ within d i. settles_from L (flush_for due) p d (told_at_least due d i) (λ q frame is. within q frame (subst (In due) is i));
  tables = λ is any d i. any_page L any d (subst (λ f. rank (told_of d) ≤ rank f) is (told_at_least due d i));
}

pub flushes_are_least : FlushesAreLeast
flushes_are_least L due p f settled = told_least due (rank f) (λ d i. rank_from L f p d (settled d i))
