-- What a map answers, from why the tables above its page would be refused and from its own entry, and the reverse.
use Rattle.std.proofs.Common.{◌≡◌, ◌<◌, ◌≤◌, ◌-◌, ℕ, Bool, true, false, cond, ◌&&◌, not, List, [], length, filter, nat_lt, Option, Some, None, refl, sym, ap, ◌∙◌, subst}
use Rattle.std.specs.List.{list_any}
use Rattle.x86_64_live.specs.WouldAnswer.{IsEntryIn, WouldAnswer, WouldRefuse}
use Rattle.x86_64_live.proofs.Looks.{LooksAt, answers_by, look_meets_free, look_meets_used, told}
use Rattle.x86_64_mappers.specs.Layouts.{direct_at}
use Rattle.x86_64_model.specs.Entry.{used, huge}
use Rattle.x86_64_model.specs.Hierarchy.{◌laid_in◌, Hierarchy, Valid, paths, path_of, words}
use Rattle.x86_64_model.specs.MapRule.{leaf_entry, map_rule}
use Rattle.x86_64_model.specs.Memory.{Memory, Places, word}
use Rattle.x86_64_model.specs.Path.{parents}
use Rattle.x86_64_model.specs.PathMap.{entry}
use Rattle.x86_64_model.specs.Position.{index}
use Rattle.x86_64_model.specs.Refusal.{Refusal, PageNotMapped, ParentEntryHugePage, InvalidFrameAddress, PageAlreadyMapped, FrameAllocationFailed, Answer, Done, Refused, refusal_of}
use Rattle.x86_64_model.specs.Validity.{entry_in}
use Rattle.x86_64_model.proofs.Lemmas.Hierarchies.Changes.{zero_not_used}

-- why a map is refused above its page
abbrev pub refusal_above : Answer → Option Refusal
refusal_above (Done frame) = None
refusal_above (Refused (PageAlreadyMapped frame)) = None
refusal_above (Refused PageNotMapped) = Some PageNotMapped
refusal_above (Refused ParentEntryHugePage) = Some ParentEntryHugePage
refusal_above (Refused (InvalidFrameAddress address)) = Some (InvalidFrameAddress address)
refusal_above (Refused FrameAllocationFailed) = Some FrameAllocationFailed

-- the answer of a map, by this and by whether the page's own entry is used
abbrev pub answer_below : (frame : ℕ) → (full : Bool) → Option Refusal → Answer
answer_below frame full None = cond full (Refused (PageAlreadyMapped frame)) (Done frame)
answer_below frame full (Some why) = Refused why

-- it doesn't depend on the page's own entry
same_above : (free frame : ℕ) (stops : Bool) (missing : ℕ) (full : Bool) → refusal_of (told free 0 stops missing false) ≡ refusal_above (told free frame stops missing full)
same_above free frame true missing full = refl
same_above free frame false missing full = by (nat_lt free missing) full
  where
    by : (short full : Bool) → refusal_of (cond short (Refused FrameAllocationFailed) (Done 0)) ≡ refusal_above (cond short (Refused FrameAllocationFailed) (cond full (Refused (PageAlreadyMapped frame)) (Done frame)))
    by true full = refl
    by false true = refl
    by false false = refl

same_below : (free frame : ℕ) (stops : Bool) (missing : ℕ) (full : Bool) → told free frame stops missing full ≡ answer_below frame full (refusal_of (told free 0 stops missing false))
same_below free frame true missing full = refl
same_below free frame false missing full = by (nat_lt free missing)
  where
    by : (short : Bool) → cond short (Refused FrameAllocationFailed) (cond full (Refused (PageAlreadyMapped frame)) (Done frame)) ≡ answer_below frame full (refusal_of (cond short (Refused FrameAllocationFailed) (Done 0)))
    by true = refl
    by false = refl

module _ {Lent : Type 0} (h : Hierarchy Lent) (valid : Valid h) (level page free : ℕ) where
  abbrev way : List ℕ
  way = path_of h level page

  abbrev stops : Bool
  stops = list_any (λ p. used (entry (paths h) p) && huge (entry (paths h) p)) (parents way)

  abbrev missing : ℕ
  missing = length (filter (λ p. not (used (entry (paths h) p))) (parents way))

  rule_told : (supply : List ℕ) (more : ℕ) → refusal_of (map_rule (paths h) supply more h.layout.added_flags (parents way) [] 0 0).answer ≡ refusal_of (told (length supply) 0 stops missing false)
  rule_told supply more = ap refusal_of (answers_by (paths h) supply more h.layout.added_flags (parents way) [] 0 0
      ∙ ap (told (length supply) 0 stops missing) (ap used valid.valid.holds.nothing_above ∙ zero_not_used))

  map_told : (supply : List ℕ) (more frame given : ℕ) → (map_rule (paths h) supply more h.layout.added_flags (parents way) way (leaf_entry h.layout.levels way frame given) frame).answer
      ≡ told (length supply) frame stops missing (used (entry (paths h) way))
  map_told supply more frame given = answers_by (paths h) supply more h.layout.added_flags (parents way) way (leaf_entry h.layout.levels way frame given) frame

  -- of the tables alone
  pub refuses_above : (frame : ℕ) (answer : Answer) → WouldAnswer h level page frame free answer → WouldRefuse h level page free (refusal_above answer)
  refuses_above frame answer would supply more count =
      rule_told supply more ∙ same_above (length supply) frame stops missing (used (entry (paths h) way)) ∙ ap refusal_above (sym (map_told supply more frame 0) ∙ would supply 0 more count)

  -- of the map
  below_told : (refusal : Option Refusal) → WouldRefuse h level page free refusal → (frame : ℕ) → WouldAnswer h level page frame free (answer_below frame (used (entry (paths h) way)) refusal)
  below_told refusal would frame supply given more count =
      map_told supply more frame given ∙ same_below (length supply) frame stops missing (used (entry (paths h) way))
      ∙ ap (answer_below frame (used (entry (paths h) way))) (sym (rule_told supply more) ∙ would supply more count)

  pub refused_below : (why : Refusal) → WouldRefuse h level page free (Some why) → (frame : ℕ) → WouldAnswer h level page frame free (Refused why)
  refused_below why = below_told (Some why)

  pub answers_below : WouldRefuse h level page free None → (table : Option ℕ) → IsEntryIn h level page table → (full : Bool) → used (entry_in (words h) table (index level page)) ≡ full → (frame : ℕ)
      → WouldAnswer h level page frame free (answer_below frame full None)
  answers_below would table own full is frame = subst (λ b. WouldAnswer h level page frame free (answer_below frame b None)) (ap used own ∙ is) (below_told None would frame)

-- a look that passed all parents finds no reason
module _ (L level : ℕ) (at_least_four : 3 < L) (low : 1 ≤ level) (high : level ≤ 3) (places : Places) (root : ℕ) (m : Memory) (valid : Valid (direct_at L places root laid_in m)) (page free k table : ℕ)
    (here : LooksAt (direct_at L places root laid_in m) level page 0 free k table) (last : k ≡ L - level) where
  abbrev own : ℕ
  own = word (words (direct_at L places root laid_in m)) table (index level page)

  pub look_ends : WouldRefuse (direct_at L places root laid_in m) level page free None
  look_ends = elim (used own) as (λ u. used own ≡ u → WouldRefuse (direct_at L places root laid_in m) level page free None) [
    | true ↦ λ u. refuses_above (direct_at L places root laid_in m) valid level page free 0 (Refused (PageAlreadyMapped 0))
        (look_meets_used L level at_least_four low high places root m valid page 0 free k table here last level refl own refl u)
    | false ↦ λ u. refuses_above (direct_at L places root laid_in m) valid level page free 0 (Done 0)
        (look_meets_free L level at_least_four low high places root m valid page 0 free k table here last level refl own refl u)
  ] refl
