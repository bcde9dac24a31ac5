-- Windows: their indices, and where their walks arrive.
use Rattle.std.proofs.Common.{◌≡◌, ◌<◌, ◌+◌, ◌-◌, ◌%◌, ◌==◌, ◌&&◌, ℕ, Bool, true, false, not, cond, List, [], ◌∷◌, ◌++◌, replicate, Option, Some, None, IsSome, option_and_then, refl, sym, ap, ap₂, ◌∙◌, subst, arith, eqb-true, eq-eqb, ltb-true, nat_lt}
use Rattle.std.proofs.lemmas.Option.{same_Some}
use Rattle.x86_64_model.specs.Arrivals.{leads}
use Rattle.x86_64_model.specs.Entry.{has, present, huge, address}
use Rattle.x86_64_model.specs.Memory.{Memory, Words, word, word_in, words_of, identity_places}
use Rattle.x86_64_model.specs.PageWalk.{read}
use Rattle.x86_64_model.specs.Position.{page_path, span}
use Rattle.x86_64_model.specs.Window.{Window, IsSelfEntry}
use Rattle.x86_64_model.proofs.Lemmas.Entries.Words.{address_aligned}
use Rattle.x86_64_model.proofs.Lemmas.Walks.Windows.{windows_reach}
use Rattle.x86_64_tables.specs.ActiveMemory.{frame_walked_to, walked_frame, walked_table}
use Rattle.x86_64_tables.specs.SelfEntries.{has_self_entry, window_at}
use Rattle.x86_64_mappers.specs.Reached.{IsReached}
use Rattle.x86_64_mappers.specs.Recursive.{recursive_at}
use Rattle.x86_64_mappers.specs.Windows.{ShowsTable, WindowsShowTables}

-- ---- the root's entry for itself

-- if the test returns true, the self-entry is there
self_entry_found : (T : Words) (root r : ℕ) → has_self_entry T root r ≡ true → IsSelfEntry T root (window_at T root r)
self_entry_found T root r found =
    let w = word T root r in
    let parts = by (present w) (huge w) (address w == root) found in
    record { is_word = refl; is_present = parts.0; not_huge = parts.1; names_root = eqb-true (address w) root parts.2 }
  where
    by : (p h n : Bool) → (p && not h && n) ≡ true → (p ≡ true) × (h ≡ false) × (n ≡ true)
    by true false true t = (refl, refl, refl)
    by true false false t = absurd (let f : false ≡ true = t in cc)
    by true true n t = absurd (let f : false ≡ true = t in cc)
    by false h n t = absurd (let f : false ≡ true = t in cc)

-- a word that is present belongs to a table that is in the memory
present_there : (T : Words) (f i : ℕ) → present (word T f i) ≡ true → (i < 512) × IsSome (T f)
unfolding word has
present_there T f i = by (nat_lt i 512) (T f) refl
  where
    by : (b : Bool) (o : Option (List ℕ)) → nat_lt i 512 ≡ b → present (cond b (word_in o i) 0) ≡ true → (i < 512) × IsSome o
    by true (Some words) small h = (ltb-true i 512 small, refl)
    by true None small h = absurd (let t : false ≡ true = h in cc)
    by false o small h = absurd (let t : false ≡ true = h in cc)

-- ---- where walks arrive

-- a frame that words lead to starts at a multiple of 4096, as the first one does
leads_aligned : (T : Words) (q : List ℕ) (f g : ℕ) → f % 4096 ≡ 0 → leads T f q ≡ Some g → g % 4096 ≡ 0
leads_aligned T [] f g aligned way = ap (λ f. f % 4096) (sym (same_Some f g way)) ∙ aligned
leads_aligned T (i ∷ q) f g aligned way = by (λ e. leads_aligned T q (address e) g (address_aligned e)) (read T f i) way
  where
    Rest : Type 0
    Rest = (e : ℕ) → leads T (address e) q ≡ Some g → g % 4096 ≡ 0

    on : Rest → (e : ℕ) (b : Bool) → cond b (leads T (address e) q) None ≡ Some g → g % 4096 ≡ 0
    on more e true w = more e w
    on more e false w = absurd (let t : None ≡ Some g = w in cc)

    by : Rest → (o : Option ℕ) → option_and_then (λ e. cond (present e && not (huge e)) (leads T (address e) q) None) o ≡ Some g → g % 4096 ≡ 0
    by more None w = absurd (let t : None ≡ Some g = w in cc)
    by more (Some e) w = on more e (present e && not (huge e)) w

arrived : (to f : ℕ) → to ≡ f → f % 4096 ≡ 0 → cond (to % 4096 == 0) (Some to) None ≡ Some f
arrived to f same aligned = ap (λ to. cond (to % 4096 == 0) (Some to) None) same ∙ ap (λ b. cond b (Some f) None) (eq-eqb (f % 4096) 0 aligned)

pub windows_show_tables : WindowsShowTables
windows_show_tables levels r times path p some aligned is T root frame found way =
    let self = self_entry_found T root r found in
    let there = present_there T root r self.is_present in
    let walk = windows_reach levels some T root (window_at T root r) there.0 there.1 self times path frame way p is in
    let root_aligned = ap (λ f. f % 4096) (sym self.names_root) ∙ address_aligned (word T root r) in
    ap (option_and_then frame_walked_to) walk.2
    ∙ arrived (frame + p % span 1) frame (ap (λ o. frame + o) aligned ∙ omega arith) (leads_aligned T path root frame root_aligned way)

-- ---- the page of a window

-- a page that contains a multiple of 4096 starts there
starts_at : (w p : ℕ) → p ≡ w - w % 4096 → w % 4096 ≡ 0 → p ≡ w
starts_at w p contains aligned = omega (arith, contains, aligned)

module _ (levels r times w p : ℕ) (path q : List ℕ) (contains : p ≡ w - w % 4096) (aligned : w % 4096 ≡ 0) (same : path ≡ q) where
  pub window_path : page_path levels w ≡ replicate times r ++ path → page_path levels p ≡ replicate times r ++ q
  window_path is = ap (page_path levels) (starts_at w p contains aligned) ∙ is ∙ ap (λ q. replicate times r ++ q) same

  pub window_shows : ShowsTable levels r path w → ShowsTable levels r q p
  window_shows shows = subst (ShowsTable levels r q) (sym (starts_at w p contains aligned)) (subst (λ q. ShowsTable levels r q w) same shows)

-- ---- tables through them

-- if the root's entry for itself is there, the test returns true
pub self_entry_tells : (T : Words) (root : ℕ) (w : Window) → IsSelfEntry T root w → has_self_entry T root w.index ≡ true
self_entry_tells T root w self =
    ap (λ e. present e && not (huge e) && (address e == root)) (sym self.is_word)
    ∙ ap₂ (λ p h. p && not h && (address w.self_entry == root)) self.is_present self.not_huge ∙ eq-eqb (address w.self_entry) root self.names_root

module _ (levels : ℕ) (memory : Memory) (root : ℕ) (w : Window) (path : List ℕ) (f : ℕ) (reached : IsReached (recursive_at levels root w) memory path f) (p : ℕ) (shows : ShowsTable levels w.index path p) where
  pub window_walks : walked_frame levels (words_of memory identity_places) root p ≡ Some f
  window_walks = shows (words_of memory identity_places) root f (self_entry_tells (words_of memory identity_places) root w reached.self) reached.way

  pub window_table : walked_table levels (words_of memory identity_places) root p ≡ words_of memory identity_places f
  window_table = ap (option_and_then (words_of memory identity_places)) window_walks
