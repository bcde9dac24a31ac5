-- What a kernel executes after a call: the least flush that settles all that the model makes due.
use Rattle.std.specs.Prelude.{◌≡◌, ◌≤◌, ℕ, nat_lt, Bool, true, false, cond, List, [], ◌∷◌, length, Option, Some, None, option_map}
use Rattle.x86_64_model.specs.Call as machine
use Rattle.x86_64_model.specs.Call.{Call}
use Rattle.x86_64_model.specs.Flushing as kernel
use Rattle.x86_64_model.specs.Flushing.{Due, PageDue, TablesDue, WindowDue, BelowDue, Invlpg, LoadCr3, FlushAll, flush_after, due_between}
use Rattle.x86_64_model.specs.Lists.{In}
use Rattle.x86_64_model.specs.Path.{begins, level_of}
use Rattle.x86_64_model.specs.Position.{page_path}
use Rattle.x86_64_model.specs.Window.{Window}
use Rattle.x86_64.specs.Replies.{Reply, reply_of}
use Rattle.x86_64.specs.declared.flushing.Flush.{Flush}
use Rattle.x86_64.specs.declared.flushing.Flush.TheVariants.{Nothing, Tables, Page, Everything}

-- The flush to be executed for one thing that is due.
abbrev pub told_of : Due → Flush
told_of (PageDue q frame) = Page
told_of (TablesDue freed) = Tables
told_of WindowDue = Everything
told_of (BelowDue q) = Everything

-- How much a flush drops, from 0 to 3. Each flush does what those below it do, since INVLPG drops all items of tables, too.
abbrev pub rank : Flush → ℕ
rank Nothing = 0
rank Tables = 1
rank Page = 2
rank Everything = 3

-- The one of two flushes that drops more.
abbrev pub larger : Flush → Flush → Flush
larger f g = cond (nat_lt (rank f) (rank g)) g f

-- The flush to be executed for all that is due: the largest of those for one thing.
abbrev pub flush_for : List Due → Flush
flush_for [] = Nothing
flush_for (d ∷ due) = larger (told_of d) (flush_for due)

-- The answer is the flush for all that is due after a call with this reply, with or without a recursive index, whatever frames it
-- freed. If `loses` is false, the caller knows that no used entry loses anything, and then nothing is due.
abbrev pub TellsFlush : (L : ℕ) → Call → Reply → (recursive_index : Option ℕ) → (loses : Bool) → (answer : Flush) → Type 0
TellsFlush L call reply index loses answer = (window : Option Window) (freed : List ℕ) (r : machine.Reply) → option_map (λ (w : Window). w.index) window ≡ index → reply_of call r ≡ Some reply
    → answer ≡ flush_for (cond loses (flush_after L window freed call r) [])

-- The answer is the flush for all that is due after the word of an entry of this level was exchanged for another one, with or without
-- a recursive index, however many levels there are.
abbrev pub TellsFlushBetween : (level old new : ℕ) → (recursive_index : Option ℕ) → (answer : Flush) → Type 0
TellsFlushBetween level old new index answer =
    (L : ℕ) (window : Option Window) (q : List ℕ) → length q ≤ L → level_of L q ≡ level → option_map (λ (w : Window). w.index) window ≡ index
    → answer ≡ flush_for (due_between L window q old new)

-- ---- flushes as the processor sees them

-- What the kernel executes for a flush: nothing, a load of CR3, INVLPG of the address at this position (its number counted
-- without the gap), or a flush of everything.
abbrev pub executed : Flush → (position : ℕ) → Option kernel.Flush
executed Nothing p = None
executed Tables p = Some LoadCr3
executed Page p = Some (Invlpg p)
executed Everything p = Some FlushAll

-- Whether something is due no longer after what the kernel executed, if anything.
abbrev pub settles_any : (L : ℕ) → Option kernel.Flush → Due → Bool
settles_any L None due = false
settles_any L (Some f) due = kernel.settles L f due

-- The position lies in each page that is due.
abbrev pub InPages : (L : ℕ) → List Due → (position : ℕ) → Type 0
InPages L due p = (q : List ℕ) (frame : ℕ) → In due (PageDue q frame) → begins q (page_path L p) ≡ true

-- The flush for all that is due settles all of it, if the position of INVLPG lies in the pages that are due. If only tables are
-- due, INVLPG of any address settles them, too.
pub record ToldSettles (L : ℕ) (due : List Due) (p : ℕ) : Type 0 where
  pub settled : InPages L due p → (d : Due) → In due d → settles_any L (executed (flush_for due) p) d ≡ true
  pub tables : flush_for due ≡ Tables → (any : ℕ) (d : Due) → In due d → settles_any L (Some (Invlpg any)) d ≡ true

-- The flush for all that is due is the least of the four: each one that settles all of it drops no less.
abbrev pub ToldIsLeast : (L : ℕ) → List Due → (position : ℕ) → Type 0
ToldIsLeast L due p = (f : Flush) → ((d : Due) → In due d → settles_any L (executed f p) d ≡ true) → rank (flush_for due) ≤ rank f

-- Whatever is due, the flush for all of it settles all, at a position in the pages that are due.
abbrev pub FlushesSettle : Type 0
FlushesSettle = (L : ℕ) (due : List Due) (p : ℕ) → ToldSettles L due p

-- Whatever is due, the flush for all of it is the least that settles all.
abbrev pub FlushesAreLeast : Type 0
FlushesAreLeast = (L : ℕ) (due : List Due) (p : ℕ) → ToldIsLeast L due p
