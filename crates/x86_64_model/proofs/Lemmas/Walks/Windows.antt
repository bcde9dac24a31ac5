-- The walks of windows.
use Rattle.std.proofs.Common.{zero, suc, ◌≡◌, ◌<◌, ◌+◌, ◌%◌, ℕ, ◌&&◌, Bool, true, false, not, cond, nat_le, List, [], ◌++◌, replicate, Some, None, Option, IsSome, option_and_then, refl, sym, ap, ap₂, ◌∙◌, arith}
use Rattle.std.proofs.lemmas.Option.{same_Some}
use Rattle.x86_64_model.specs.Entry.{present, huge, address, writable, user}
use Rattle.x86_64_model.specs.Memory.{Words}
use Rattle.x86_64_model.specs.Window.{Window, IsSelfEntry}
use Rattle.x86_64_model.specs.Position.{index, span, page_path}
use Rattle.x86_64_model.specs.PageWalk.{page_start, read, arrives, walk_on, page_walk, Walked}
use Rattle.x86_64_model.specs.Arrivals.{leads, Reaches}
use Rattle.x86_64_model.specs.Laws.Walks.{WindowsReach}
use Rattle.x86_64_model.proofs.Lemmas.Walks.Walked.{read_there, passed}

-- where the words of the whole path lead on, the walk arrives there
module _ (T : Words) (p g : ℕ) where
  abbrev step : (q : List ℕ) → ℕ → Option ℕ
  step q e = cond (present e && not (huge e)) (leads T (address e) q) None

  walk_leads : (n : ℕ) (w u : Bool) (f : ℕ) → leads T f (page_path (suc n) p) ≡ Some g → Reaches (walk_on T p (suc n) w u f) (g + p % span 1)
  unfolding walk_on page_path
  walk_leads zero w u f h = by (read T f (index 1 p)) h
    where
      at : (e : ℕ) (h g' : Bool) → present e ≡ h → cond (h && not g') (Some (address e)) None ≡ Some g
          → Reaches (cond (present e) (arrives (address e + p % span 1) (w && writable e) (u && user e)) None) (g + p % span 1)
      at e true true is l = cc
      at e true false is l = (
        w && writable e,
        u && user e,
        ap (λ b. cond b (arrives (address e + p % span 1) (w && writable e) (u && user e)) None) is
            ∙ ap (λ a. arrives (a + p % span 1) (w && writable e) (u && user e)) (same_Some (address e) g l),
      )
      at e false g' is l = cc

      by : (o : Option ℕ) → option_and_then (step []) o ≡ Some g → Reaches (option_and_then (λ e. cond (present e) (arrives (address e + p % span 1) (w && writable e) (u && user e)) None) o) (g + p % span 1)
      by None l = cc
      by (Some e) l = at e (present e) (huge e) refl l
  walk_leads (suc n) w u f h = by (λ e. walk_leads n (w && writable e) (u && user e) (address e)) (read T f (index (suc (suc n)) p)) h
    where
      Rest : Type 0
      Rest = (e : ℕ) → leads T (address e) (page_path (suc n) p) ≡ Some g → Reaches (walk_on T p (suc n) (w && writable e) (u && user e) (address e)) (g + p % span 1)

      at : Rest → (e : ℕ) (h g' : Bool) → present e ≡ h → huge e ≡ g' → cond (h && not g') (leads T (address e) (page_path (suc n) p)) None ≡ Some g
          → Reaches (passed (suc (suc n)) p w u e (walk_on T p (suc n) (w && writable e) (u && user e) (address e))) (g + p % span 1)
      at more e true true is huge_too l = cc
      at more e true false is plain l =
          let rest = more e l in
          (rest.0, rest.1, ap₂ (λ h g. cond h (cond g (huge_one e) (walk_on T p (suc n) (w && writable e) (u && user e) (address e))) None) is plain ∙ rest.2)
        where
          huge_one : ℕ → Option Walked
          huge_one e = cond (nat_le (suc (suc n)) 3) (arrives (page_start (suc (suc n)) e + p % span (suc (suc n))) (w && writable e) (u && user e)) None
      at more e false g' is plain l = cc

      by : Rest → (o : Option ℕ) → option_and_then (step (page_path (suc n) p)) o ≡ Some g
          → Reaches (option_and_then (λ e. passed (suc (suc n)) p w u e (walk_on T p (suc n) (w && writable e) (u && user e) (address e))) o) (g + p % span 1)
      by more None l = cc
      by more (Some e) l = at more e (present e) (huge e) refl refl l

-- each time round the self-entry leads to the root again
leads_again : (T : Words) (root : ℕ) (window : Window) → window.index < 512 → IsSome (T root) → IsSelfEntry T root window → (times : ℕ) (q : List ℕ) → leads T root (replicate times window.index ++ q) ≡ leads T root q
leads_again T root window small there self zero q = refl
leads_again T root window small there self (suc times) q =
    ap (option_and_then (λ e. cond (present e && not (huge e)) (leads T (address e) (replicate times window.index ++ q)) None)) (read_there T root window.index small there ∙ ap Some (sym self.is_word))
    ∙ ap₂ (λ h g. cond (h && not g) (leads T (address window.self_entry) (replicate times window.index ++ q)) None) self.is_present self.not_huge
    ∙ ap (λ f. leads T f (replicate times window.index ++ q)) self.names_root
    ∙ leads_again T root window small there self times q

pub windows_reach : WindowsReach
unfolding page_walk
windows_reach zero levels T root window small there self times q f leading p path = absurd (omega arith)
windows_reach (suc n) levels T root window small there self times q f leading p path =
    walk_leads T p f n true true root (ap (leads T root) path ∙ leads_again T root window small there self times q ∙ leading)
