-- What is due for the items with each tag.
use Rattle.std.proofs.Common.{◌≡◌, ◌≢◌, inl, inr, ⊎_elim, ◌≤◌, ◌+◌, ◌-◌, ◌==◌, ◌&&◌, ℕ, zero, suc, Bool, true, false, not, cond, List, [], ◌∷◌, ◌++◌, filter, length, take, Some, None, Option, refl, sym, ap, ◌∙◌, subst, arith}
use Rattle.std.proofs.lemmas.Bool.{cases_Bool}
use Rattle.x86_64_model.specs.Entry.{no_execute}
use Rattle.x86_64_model.specs.Lists.{In}
use Rattle.x86_64_model.specs.Path.{is_small, front_at, path_at}
use Rattle.x86_64_model.specs.Window.{Window}
use Rattle.x86_64_model.specs.Refusal.{Done, Refused}
use Rattle.x86_64_model.specs.Call.{Call, IsCall, MapTo, MapToWithTableFlags, IdentityMap, Unmap, UpdateFlags, SetFlags, TranslatePage, Translate, TranslateAddress, CleanUp, Reply, NotAllowed, Answered, Position, Address, Cleaned}
use Rattle.x86_64_model.specs.Spaces.{is_shared, Avoids}
use Rattle.x86_64_model.specs.Flushing as one
use Rattle.x86_64_model.specs.Flushing.{Due, PageDue, TablesDue, WindowDue, BelowDue, if_accepted, if_allowed, if_window, below_due, page_due, flush_after, loosens}
use Rattle.x86_64_model.specs.Caches.{PartialWalk, Cached, Table, Page, way_of}
use Rattle.x86_64_model.specs.Tags.{Tag, Of, Global, TaggedFlush, Invlpg, InvpcidAddress, InvpcidContext, InvpcidAll, InvpcidAllButGlobal, is_current, is_of, is_left, is_settled}
use Rattle.x86_64_model.specs.Switches.{Switching, is_held, is_concerned, pending, holder_with, due_with}
use Rattle.x86_64_model.proofs.Lemmas.Lists.Members.{in_left, in_right, in_append, in_filter, from_filter, passes}
use Rattle.x86_64_model.proofs.Lemmas.Machines.Effects.{page_of_level}
use Rattle.x86_64_model.proofs.Lemmas.Spaces.Calls.{front_shared}
use Rattle.x86_64_model.proofs.Lemmas.Caches.Items.{StaysDue}

pub in_cond : {X : Type 0} (b : Bool) (xs : List X) (x : X) → In (cond b xs []) x → In xs x
in_cond true xs x i = i
in_cond false xs x i = absurd i

-- ---- what a call makes due

from_accepted : (reply : Reply) (due : ℕ → List Due) (d : Due) → In (if_accepted reply due) d → (f : ℕ) × In (due f) d
from_accepted (Answered (Done f)) due d i = (f, i)
from_accepted (Answered (Refused why)) due d i = absurd i
from_accepted NotAllowed due d i = absurd i
from_accepted (Position t) due d i = absurd i
from_accepted (Address a) due d i = absurd i
from_accepted Cleaned due d i = absurd i

from_allowed : (reply : Reply) (due : List Due) (d : Due) → In (if_allowed reply due) d → In due d
from_allowed NotAllowed due d i = absurd i
from_allowed (Answered a) due d i = i
from_allowed (Position t) due d i = i
from_allowed (Address a) due d i = i
from_allowed Cleaned due d i = i

from_window : (window : Option Window) (d : Due) → In (if_window window) d → WindowDue ≡ d
from_window None d i = absurd i
from_window (Some w) d (inl e) = e
from_window (Some w) d (inr i) = absurd i

not_window : (window : Option Window) (q : List ℕ) → In (if_window window) (BelowDue q) → ⊥
not_window window q i = let t : WindowDue ≡ BelowDue q = from_window window _ i in cc

no_page : (L : ℕ) (window : Option Window) (p : List ℕ) (f : ℕ) (q : List ℕ) → In (page_due L window p f) (BelowDue q) → ⊥
no_page L window p f q (inl e) = cc
no_page L window p f q (inr i) = by (is_small L p) i
  where
    by : (b : Bool) → In (cond b [] (if_window window)) (BelowDue q) → ⊥
    by true i = i
    by false i = not_window window q i

same_below : (window : Option Window) (p q : List ℕ) → In (below_due window p) (BelowDue q) → p ≡ q
same_below window p q (inl e) = let t : BelowDue p ≡ BelowDue q = e in cc
same_below window p q (inr i) = absurd (not_window window q i)

nonempty_front : (n : ℕ) (q : List ℕ) → 1 ≤ n → 1 ≤ length q → take n q ≢ []
nonempty_front zero q l k e = absurd (omega (arith, l))
nonempty_front (suc n) [] l k e = absurd (omega (arith, k))
nonempty_front (suc n) (i ∷ q) l k e = cc

module _ (shared : ℕ → Bool) (L : ℕ) (window : Option Window) (freed : List ℕ) (reply : Reply) where
  abbrev Fine : Call → List ℕ → Type 0
  Fine call q = (q ≢ []) × (Avoids L shared call → is_shared shared q ≡ false)

  front_fine : (call : Call) (n : ℕ) (p q : List ℕ) → 1 ≤ n → 1 ≤ length p → (Avoids L shared call → is_shared shared p ≡ false) → In (below_due window (take n p)) (BelowDue q) → Fine call q
  front_fine call n p q l k off i = let same = same_below window (take n p) q i in (
    λ e. nonempty_front n p l k (same ∙ e),
    λ a. ap (is_shared shared) (sym same) ∙ front_shared shared n p l (off a),
  )

  -- all items on a path are due after calls that change entries below its first index
  pub made_below : (call : Call) → IsCall L call → (q : List ℕ) → In (flush_after L window freed call reply) (BelowDue q) → Fine call q
  made_below (MapTo level page frame given) is q i = absurd i
  made_below (MapToWithTableFlags level page frame given more) is q i = let p = path_at L level page in
      front_fine (MapToWithTableFlags level page frame given more) 1 p q (omega arith) (page_of_level L level page is).nonempty (λ a. a) (in_cond (no_execute more) _ _ (from_allowed reply _ _ i))
  made_below (IdentityMap level frame given) is q i = absurd i
  made_below (Unmap level page) is q i = let p = path_at L level page in let x = from_accepted reply (λ f. page_due L window p f) _ i in absurd (no_page L window p x.0 q x.1)
  made_below (UpdateFlags level page given) is q i = let p = path_at L level page in let x = from_accepted reply (λ f. page_due L window p f) _ i in absurd (no_page L window p x.0 q x.1)
  made_below (SetFlags at level page given) is q i = let p = path_at L level page in let x = from_accepted reply (λ f. below_due window (front_at L at p)) _ i in let top = is.1 in let is_page = page_of_level L level page is.2 in
      front_fine (SetFlags at level page given) (L + 1 - at) p q (omega (arith, top)) is_page.nonempty (λ a. a) x.1
  made_below (TranslatePage level page) is q i = absurd i
  made_below (Translate p) is q i = absurd i
  made_below (TranslateAddress p) is q i = absurd i
  made_below (CleanUp low high) is q (inl e) = cc
  made_below (CleanUp low high) is q (inr i) = absurd (not_window window q i)

-- ---- what is due for all tags

-- What the call under way makes due is due. What is due for all items on a path below a shared index is due for global
-- translations, too.
pub record AreDue (shared : ℕ → Bool) (s : Switching) : Type 0 where
  pub covers : (tag : Tag) (d : Due) → In (pending s tag) d → In (s.due tag) d
  pub narrow : (c : ℕ) (q : List ℕ) → In (s.due (Of c)) (BelowDue q) → is_shared shared q ≡ true → In (s.due Global) (BelowDue q)
  pub never_all : (tag : Tag) → In (s.due tag) (BelowDue []) → ⊥
  pub avoids : s.everywhere ≡ false → (q : List ℕ) → In s.under_way (BelowDue q) → is_shared shared q ≡ false
  pub never_all_now : In s.under_way (BelowDue []) → ⊥

-- what the call under way makes due below a shared index is due everywhere
pub pending_narrow : (shared : ℕ → Bool) (s : Switching) → AreDue shared s → (q : List ℕ) → In s.under_way (BelowDue q) → is_shared shared q ≡ true → In (pending s Global) (BelowDue q)
pending_narrow shared s due q i h = ⊎_elim
    (λ e. subst (λ b. In (cond b s.under_way []) (BelowDue q)) (sym e) i)
    (λ e. absurd (let t : true ≡ false = sym h ∙ due.avoids e q i in cc))
    (cases_Bool s.everywhere)

-- ---- a flush

not_settled : (L current : ℕ) (f : TaggedFlush) (c : ℕ) (q : List ℕ) → not (is_settled L current f (Of c) (BelowDue q)) ≡ true → not (is_settled L current f Global (BelowDue q)) ≡ true
not_settled L current (Invlpg p) c q h = refl
not_settled L current (InvpcidAddress pcid p) c q h = refl
not_settled L current (InvpcidContext pcid) c q h = refl
not_settled L current InvpcidAll c q h = cc
not_settled L current InvpcidAllButGlobal c q h = cc

module _ (L current : ℕ) (window : Option Window) where
  and_false : (b : Bool) → not (b && false) ≡ true
  and_false true = refl
  and_false false = refl

  page_left : (f : TaggedFlush) (tag : Tag) (w : PartialWalk) (frame : ℕ) → is_left L current f tag (Page w) ≡ true → not (is_settled L current f tag (PageDue w.path frame)) ≡ true
  page_left (Invlpg p) tag w frame h = by (is_current current tag) (one.settles L (one.Invlpg p) (PageDue w.path frame)) h
    where
      by : (b d : Bool) → cond b (not d) true ≡ true → not (b && d) ≡ true
      by true d h = h
      by false d h = refl
  page_left (InvpcidAddress pcid p) tag w frame h = h
  page_left (InvpcidContext pcid) tag w frame h = h
  page_left InvpcidAll tag w frame h = cc
  page_left InvpcidAllButGlobal (Of c) w frame h = cc
  page_left InvpcidAllButGlobal Global w frame h = refl

  table_left : (f : TaggedFlush) (tag : Tag) (t : PartialWalk) (freed : List ℕ) → is_left L current f tag (Table t) ≡ true → not (is_settled L current f tag (TablesDue freed)) ≡ true
  table_left (Invlpg p) tag t freed h = by (is_current current tag) h
    where
      by : (b : Bool) → cond b false true ≡ true → not (b && true) ≡ true
      by true h = cc
      by false h = refl
  table_left (InvpcidAddress pcid p) tag t freed h = and_false (is_of pcid tag)
  table_left (InvpcidContext pcid) tag t freed h = h
  table_left InvpcidAll tag t freed h = cc
  table_left InvpcidAllButGlobal (Of c) t freed h = cc
  table_left InvpcidAllButGlobal Global t freed h = refl

  loose_left : (f : TaggedFlush) (tag : Tag) (x : Cached) (d : Due) (path : List ℕ) → loosens window d path ≡ true → is_left L current f tag x ≡ true → not (is_settled L current f tag d) ≡ true
  loose_left f tag x (PageDue q frame) path l h = cc
  loose_left f tag x (TablesDue freed) path l h = cc
  loose_left (Invlpg p) tag x WindowDue path l h = and_false (is_current current tag)
  loose_left (InvpcidAddress pcid p) tag x WindowDue path l h = and_false (is_of pcid tag)
  loose_left (InvpcidContext pcid) tag x WindowDue path l h = h
  loose_left InvpcidAll tag x WindowDue path l h = cc
  loose_left InvpcidAllButGlobal (Of c) x WindowDue path l h = cc
  loose_left InvpcidAllButGlobal Global x WindowDue path l h = refl
  loose_left (Invlpg p) tag x (BelowDue q) path l h = and_false (is_current current tag)
  loose_left (InvpcidAddress pcid p) tag x (BelowDue q) path l h = and_false (is_of pcid tag)
  loose_left (InvpcidContext pcid) tag x (BelowDue q) path l h = h
  loose_left InvpcidAll tag x (BelowDue q) path l h = cc
  loose_left InvpcidAllButGlobal (Of c) x (BelowDue q) path l h = cc
  loose_left InvpcidAllButGlobal Global x (BelowDue q) path l h = refl

  -- what drops an item that is left is due still
  pub left_stays : (f : TaggedFlush) (tag : Tag) (x : Cached) (due later : List Due) (pool : List ℕ) → is_left L current f tag x ≡ true
      → StaysDue window due (filter (λ due. not (is_settled L current f tag due)) due ++ later) pool pool x
  left_stays f tag x due later pool h = record {
    pages = λ w e frame i. in_left _ later _ (in_filter _ due _ i (page_left f tag w frame (subst (λ x. is_left L current f tag x ≡ true) e h)));
    tables = λ t e d. ((d.0, in_left _ later _ (in_filter _ due _ d.1 (table_left f tag t d.0 (subst (λ x. is_left L current f tag x ≡ true) e h))), d.2), λ i. i);
    loose = λ d i l. in_left _ later _ (in_filter _ due d i (loose_left f tag x d (way_of x).path l h));
  }

-- ---- each event keeps this

module _ (shared : ℕ → Bool) (s : Switching) (due : AreDue shared s) where
  pub flush_due : (L : ℕ) (f : TaggedFlush) → AreDue shared (record s { due = λ tag. filter (λ due. not (is_settled L s.pcid f tag due)) (s.due tag) ++ pending s tag })
  flush_due L f = record {
    covers = λ tag d i. in_right (filter (λ due. not (is_settled L s.pcid f tag due)) (s.due tag)) _ d i;
    narrow = λ c q i h. ⊎_elim
        (λ i. in_left _ (pending s Global) _ (in_filter _ (s.due Global) _ (due.narrow c q (from_filter _ (s.due (Of c)) _ i) h)
        (not_settled L s.pcid f c q (passes (λ due. not (is_settled L s.pcid f (Of c) due)) (s.due (Of c)) _ i))))
        (λ i. in_right (filter (λ due. not (is_settled L s.pcid f Global due)) (s.due Global)) _ _ (pending_narrow shared s due q (in_cond _ s.under_way _ i) h))
        (in_append (filter (λ due. not (is_settled L s.pcid f (Of c) due)) (s.due (Of c))) (pending s (Of c)) _ i);
    never_all = λ tag i. ⊎_elim (λ i. due.never_all tag (from_filter _ (s.due tag) _ i)) (λ i. due.never_all_now (in_cond _ s.under_way _ i))
        (in_append (filter (λ due. not (is_settled L s.pcid f tag due)) (s.due tag)) (pending s tag) _ i);
    avoids = due.avoids;
    never_all_now = due.never_all_now;
  }

  pub return_due : AreDue shared (record s { under_way = [] })
  return_due = record {
    covers = λ tag d i. absurd (in_cond _ [] d i);
    narrow = due.narrow;
    never_all = due.never_all;
    avoids = λ e q i. absurd i;
    never_all_now = λ i. i;
  }

  -- a PCID holds another root, or none
  module _ (pcid : ℕ) (new : Option ℕ) (mine : List Due) (pends : (d : Due) → In (cond (is_held s.reaches new) s.under_way []) d → In mine d) (fine : (d : Due) → In mine d → In s.under_way d) where
    pub holder_due : AreDue shared (record s { holder = holder_with pcid new s.holder; due = due_with pcid mine s.due })
    holder_due = record {
      covers = covers;
      narrow = λ c q i h. by_narrow c (c == pcid) q i h;
      never_all = never;
      avoids = due.avoids;
      never_all_now = due.never_all_now;
    }
      where
        by_covers : (c : ℕ) (b : Bool) (d : Due) → In (cond (is_held s.reaches (cond b new (s.holder c))) s.under_way []) d → In (cond b mine (s.due (Of c))) d
        by_covers c true d i = pends d i
        by_covers c false d i = due.covers (Of c) d i

        covers : (tag : Tag) (d : Due) → In (cond (is_concerned (holder_with pcid new s.holder) s.reaches s.everywhere tag) s.under_way []) d → In (due_with pcid mine s.due tag) d
        covers (Of c) d i = by_covers c (c == pcid) d i
        covers Global d i = due.covers Global d i

        by_narrow : (c : ℕ) (b : Bool) (q : List ℕ) → In (cond b mine (s.due (Of c))) (BelowDue q) → is_shared shared q ≡ true → In (s.due Global) (BelowDue q)
        by_narrow c true q i h = due.covers Global _ (pending_narrow shared s due q (fine _ i) h)
        by_narrow c false q i h = due.narrow c q i h

        by_never : (c : ℕ) (b : Bool) → In (cond b mine (s.due (Of c))) (BelowDue []) → ⊥
        by_never c true i = due.never_all_now (fine _ i)
        by_never c false i = due.never_all (Of c) i

        never : (tag : Tag) → In (due_with pcid mine s.due tag) (BelowDue []) → ⊥
        never (Of c) i = by_never c (c == pcid) i
        never Global i = due.never_all Global i
