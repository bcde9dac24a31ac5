-- Steps down to the tables that words lead to.
use Rattle.std.proofs.Common.{◌≡◌, ◌<◌, ◌+◌, ℕ, Bool, true, false, ◌&&◌, not, cond, List, [], ◌∷◌, ◌++◌, length, take, drop, get_or, Option, Some, None, IsSome, option_and_then, Ok, refl, sym, ap, ap₂, ◌∙◌, subst, add-one}
use Rattle.std.proofs.lemmas.Option.{same_Some}
use Rattle.std.proofs.Math.Seq.{take-suc}
use Rattle.x86_64_model.specs.Arrivals.{leads}
use Rattle.x86_64_model.specs.Entry.{present, huge, address}
use Rattle.x86_64_model.specs.Layout.{Layout}
use Rattle.x86_64_model.specs.Hierarchy.{◌laid_in◌, Valid, paths, words}
use Rattle.x86_64_model.proofs.Lemmas.Walks.Agrees.{reads}
use Rattle.x86_64_model.proofs.Lemmas.Walks.Walked.{read_there}
use Rattle.x86_64_model.specs.Memory.{Memory, Words, word}
use Rattle.x86_64_model.specs.PageWalk.{read}
use Rattle.x86_64_mappers.specs.private.Stops.{table_below}
use Rattle.x86_64_mappers.specs.Reached.{IsReached}
use Rattle.x86_64_mappers.proofs.Way.Finds.{names_below, way_start, find_next, IsOnWay}

-- ---- one step

-- the words lead one index further
pub leads_last : (T : Words) (f : ℕ) (q : List ℕ) (g i e : ℕ) → leads T f q ≡ Some g → read T g i ≡ Some e → present e ≡ true → huge e ≡ false → leads T f (q ++ i ∷ []) ≡ Some (address e)
leads_last T f [] g i e way is here plain =
    ap (λ f. leads T f (i ∷ [])) (same_Some f g way)
    ∙ ap (option_and_then (λ e. cond (present e && not (huge e)) (Some (address e)) None)) is
    ∙ ap₂ (λ p h. cond (p && not h) (Some (address e)) None) here plain
leads_last T f (k ∷ q) g i e way is here plain = by (λ x w. leads_last T (address x) q g i e w is here plain) (read T f k) way
  where
    Rest : Type 0
    Rest = (x : ℕ) → leads T (address x) q ≡ Some g → leads T (address x) (q ++ i ∷ []) ≡ Some (address e)

    on : Rest → (x : ℕ) (b : Bool) → cond b (leads T (address x) q) None ≡ Some g → cond b (leads T (address x) (q ++ i ∷ [])) None ≡ Some (address e)
    on more x true w = more x w
    on more x false w = cc

    by : Rest → (o : Option ℕ) → option_and_then (λ x. cond (present x && not (huge x)) (leads T (address x) q) None) o ≡ Some g
        → option_and_then (λ x. cond (present x && not (huge x)) (leads T (address x) (q ++ i ∷ [])) None) o ≡ Some (address e)
    by more None w = cc
    by more (Some x) w = on more x (present x && not (huge x)) w

pub reached_next : (l : Layout) (m : Memory) (path : List ℕ) (f i g : ℕ) → IsReached l m path f → i < 512 → Ok g ≡ table_below (word (words (l laid_in m)) f i) → IsSome (words (l laid_in m) g) → IsReached l m (path ++ i ∷ []) g
reached_next l m path f i g r small is there = let n = names_below (word (words (l laid_in m)) f i) g is in record {
  way = leads_last (words (l laid_in m)) l.root path f i (word (words (l laid_in m)) f i) r.way (read_there (words (l laid_in m)) f i small r.there) n.is_present n.not_huge ∙ ap Some (sym n.address);
  there = there;
  root_there = r.root_there;
  self = r.self;
}

-- ---- the walk down the parents of a page

-- the first k parents are done
pub record IsHere (l : Layout) (m : Memory) (path : List ℕ) (k frame : ℕ) : Type 0 where
  pub way : IsOnWay l m path (take k path) (drop k path) frame
  pub reached : IsReached l m (take k path) frame

pub here_first : (l : Layout) (m : Memory) (path : List ℕ) → Valid (l laid_in m) → IsHere l m path 0 l.root
here_first l m path valid = let there = (reads l.levels (words (l laid_in m)) l.root (paths (l laid_in m)) l.window valid).root_there in record {
  way = way_start l m path valid;
  reached = record { way = refl; there = there; root_there = there; self = valid.self };
}

pub here_next : (l : Layout) (m : Memory) → Valid (l laid_in m) → (path : List ℕ) → length path < l.levels → (k : ℕ) → k < length path → (f : ℕ) → IsHere l m path k f
    → get_or path k 0 < 512 → (g : ℕ) → Ok g ≡ table_below (word (words (l laid_in m)) f (get_or path k 0)) → IsHere l m path (k + 1) g
here_next l m valid path levels k within f here small g is =
    let way = find_next l m valid path levels k within f here.way g is in record {
      way = way;
      reached = subst (λ t. IsReached l m t g) (sym (ap (λ j. take j path) (add-one k) ∙ take-suc path k 0 within))
          (reached_next l m (take k path) f (get_or path k 0) g here.reached small is way.leads.there);
    }
