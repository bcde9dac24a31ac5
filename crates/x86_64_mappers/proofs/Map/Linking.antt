-- A new table may be linked after it was cleared. One that is linked first is reached at once, and the two writes may come in
-- either order.
use Rattle.std.proofs.Common.{◌≡◌, ◌≢◌, ⊎_elim, ◌<◌, ℕ, Bool, true, false, ◌&&◌, not, cond, List, [], ◌∷◌, ◌++◌, take, set, get_or, Option, Some, None, option_and_then, option_map, refl, sym, ap, ◌∙◌, ◌==◌, bit_or, eqb-true, subst, append_assoc}
use Rattle.std.proofs.lemmas.Bool.{cases_eq}
use Rattle.std.proofs.lemmas.List.{append-nil}
use Rattle.std.specs.Cmp.{nat_cmp_total}
use Rattle.std.specs.FinMap.{get, insert, same_map, nat_cmp-IsAntisymmetric}
use Rattle.x86_64_model.specs.Arrivals.{leads}
use Rattle.x86_64_model.specs.Entry.{IsParentFlags, has, used, present, huge, address, is_frame}
use Rattle.x86_64_model.specs.Layout.{Layout}
use Rattle.x86_64_model.proofs.Lemmas.Entries.Bits.{address_or, only_flags}
use Rattle.x86_64_model.proofs.Lemmas.Hierarchies.Held.{set_word_other, word-set_same}
use Rattle.x86_64_model.proofs.Lemmas.Spaces.Tables.{same_self}
use Rattle.x86_64_model.proofs.Lemmas.Walks.Walked.{read_there}
use Rattle.x86_64_model.specs.Memory.{Memory, Places, Distinct, Words, word}
use Rattle.x86_64_model.specs.PageWalk.{read}
use Rattle.x86_64_tables.specs.PageTable.{zero_words}
use Rattle.x86_64_model.specs.Hierarchy.{◌laid_in◌, Hierarchy, words}
use Rattle.x86_64_mappers.specs.AccessLending.{with_zeros}
use Rattle.x86_64_mappers.specs.Reached.{IsReached}
use Rattle.x86_64_mappers.specs.private.Linked.{Beside, IsClearedFirst, MayLink, NotOnWay}
use Rattle.x86_64_mappers.specs.private.Writes.{IsThere, IsSet, IsZeroed, IsTaken, word_in_frame}
use Rattle.x86_64_mappers.proofs.Memory.Changed.{not_none, set_is, set_keeps, self_set, cleared_other, cleared_keeps, cleared_here}
use Rattle.x86_64_mappers.proofs.Way.ReachedSteps.{leads_last}
use Rattle.x86_64_model.proofs.Lemmas.Hierarchies.Memories.{covered}
use Rattle.x86_64_mappers.proofs.Memory.Stored.{get-put, get-put_same}

-- ---- the two writes in either order

commute : (m : Memory) (a b : ℕ) (x y : List ℕ) → a ≢ b → insert (insert m a x) b y ≡ insert (insert m b y) a x
commute m a b x y apart = same_map nat_cmp_total nat_cmp-IsAntisymmetric _ _ (λ k. ⊎_elim
    (λ e. let other : k ≢ b = λ h. apart (sym e ∙ h) in
    get-put (insert m a x) b k y other ∙ ap (get (insert m a x)) e ∙ get-put_same m a x ∙ sym (ap (get (insert (insert m b y) a x)) e ∙ get-put_same (insert m b y) a x))
    (λ n. ⊎_elim
    (λ e. ap (get (insert (insert m a x) b y)) e ∙ get-put_same (insert m a x) b y ∙ sym (get-put (insert m b y) a k x n ∙ ap (get (insert m b y)) e ∙ get-put_same m b y))
    (λ o. get-put (insert m a x) b k y o ∙ get-put m a k x n ∙ sym (get-put (insert m b y) a k x n ∙ get-put m b k y o))
    (cases_eq k b))
    (cases_eq k a))

pub cleared_first : (places : Places) → Distinct places → (m : Memory) (f i w g : ℕ) (a n : Memory) → f ≢ g → IsThere places m g → IsSet places m f i w a → IsZeroed places a g n → IsClearedFirst places m f i w g n
cleared_first places apart m f i w g a n other there k c =
    let cf = covered m places f (not_none _ k.table k.is) in
    let cg = covered m places g there in
    let cleared : IsZeroed places m g (insert m (places.place g) zero_words) = record { there = there; after = refl } in record {
      middle = insert m (places.place g) zero_words;
      is_cleared = cleared;
      is_set = record {
        table = k.table;
        is = cleared_other places apart m g _ cleared f other ∙ k.is;
        long = k.long;
        after = c.after ∙ ap (λ x. insert x (places.place g) zero_words) k.after
            ∙ commute m (places.place f) (places.place g) (set k.table i w) zero_words (λ e. other (apart f g cf cg e));
      };
    }

-- ---- the path leads as before

abbrev SameOnWay : Words → Words → (root : ℕ) → (path : List ℕ) → Type 0
SameOnWay T U root path = (a : List ℕ) (j : ℕ) (b : List ℕ) → path ≡ a ++ j ∷ b → (h : ℕ) → leads T root a ≡ Some h → read U h j ≡ read T h j

abbrev on : Words → List ℕ → ℕ → Option ℕ
on T q e = cond (present e && not (huge e)) (leads T (address e) q) None

leads_same : (T U : Words) (root : ℕ) (q : List ℕ) (g : ℕ) → leads T root q ≡ Some g → SameOnWay T U root q → leads U root q ≡ Some g
leads_same T U root [] g is same = is
leads_same T U root (k ∷ q) g is same =
    ap (option_and_then (on U q)) (same [] k q refl root refl) ∙ by (λ e way same. leads_same T U (address e) q g way same) (read T root k) refl is
  where
    Rest : Type 0
    Rest = (e : ℕ) → leads T (address e) q ≡ Some g → SameOnWay T U (address e) q → leads U (address e) q ≡ Some g

    below : (e : ℕ) → read T root k ≡ Some e → (present e && not (huge e)) ≡ true → SameOnWay T U (address e) q
    below e r t a j b split h lead = same (k ∷ a) j b (ap (λ q. k ∷ q) split) h
        (ap (option_and_then (on T a)) r ∙ ap (λ t. cond t (leads T (address e) a) None) t ∙ lead)

    at : Rest → (e : ℕ) → read T root k ≡ Some e → (t : Bool) → (present e && not (huge e)) ≡ t → cond t (leads T (address e) q) None ≡ Some g → cond t (leads U (address e) q) None ≡ Some g
    at more e r true t is = more e is (below e r t)
    at more e r false t is = cc

    by : Rest → (o : Option ℕ) → read T root k ≡ o → option_and_then (on T q) o ≡ Some g → option_and_then (on U q) o ≡ Some g
    by more None r is = cc
    by more (Some e) r is = at more e r (present e && not (huge e)) refl is

-- the words lead along the front of a path too
leads_front : (T : Words) (root : ℕ) (a b : List ℕ) (f : ℕ) → leads T root (a ++ b) ≡ Some f → (h : ℕ) × (leads T root a ≡ Some h)
leads_front T root [] b f led = (root, refl)
leads_front T root (k ∷ a) b f led = by (λ e led. leads_front T (address e) a b f led) (read T root k) led
  where
    Rest : Type 0
    Rest = (e : ℕ) → leads T (address e) (a ++ b) ≡ Some f → (h : ℕ) × (leads T (address e) a ≡ Some h)

    at : Rest → (e : ℕ) (t : Bool) → cond t (leads T (address e) (a ++ b)) None ≡ Some f → (h : ℕ) × (cond t (leads T (address e) a) None ≡ Some h)
    at more e true led = more e led
    at more e false led = cc

    by : Rest → (o : Option ℕ) → option_and_then (on T (a ++ b)) o ≡ Some f → (h : ℕ) × (option_and_then (on T a) o ≡ Some h)
    by more None led = cc
    by more (Some e) led = at more e (present e && not (huge e)) led

-- ---- the table is cleared first

module _ (l : Layout) (apart : Distinct l.places) (m : Memory) (path : List ℕ) (k f g x : ℕ) (may : MayLink l m path k f g x) (n : Memory) (cleared : IsZeroed l.places m g n) where
  abbrev q : List ℕ
  q = take k path

  abbrev T : Words
  T = words (l laid_in m)

  abbrev U : Words
  U = words (l laid_in n)

  same_at : (a b : List ℕ) → q ≡ a ++ b → (h : ℕ) → leads T l.root a ≡ Some h → U h ≡ T h
  same_at a b split h led = cleared_other l.places apart m g n cleared h (may.unmet a b split h led)

  same_front : (a b : List ℕ) → q ≡ a ++ b → (h : ℕ) → leads T l.root a ≡ Some h → leads U l.root a ≡ Some h
  same_front a b split h led = leads_same T U l.root a h led (λ c j d at e lead.
      ap (option_map (λ words. get_or words j 0)) (same_at c ((j ∷ d) ++ b) (split ∙ ap (λ t. t ++ b) at ∙ append_assoc c (j ∷ d) b) e lead))

  -- where the words lead after that, they led before
  led_before : (a b : List ℕ) → q ≡ a ++ b → (h : ℕ) → leads U l.root a ≡ Some h → leads T l.root a ≡ Some h
  led_before a b split h led =
      let front = leads_front T l.root a b f (ap (leads T l.root) (sym split) ∙ may.reached.way) in
      front.1 ∙ sym (same_front a b split front.0 front.1) ∙ led

  -- the table may be linked after it was cleared
  pub may_link_cleared : MayLink l n path k f g x
  may_link_cleared = record {
    reached = record {
      way = same_front q [] (sym (append-nil q)) f may.reached.way;
      there = cleared_keeps l.places apart m g n cleared f may.reached.there;
      root_there = cleared_keeps l.places apart m g n cleared l.root may.reached.root_there;
      self = same_self l.window l.root T U (same_at [] q refl l.root refl) may.reached.self;
    };
    not_on_way = λ a j b split h led. may.not_on_way a j b split h (led_before a (j ∷ b) split h led);
    beside = may.beside;
    there = cleared_keeps l.places apart m g n cleared g may.there;
    unmet = λ a b split h led. may.unmet a b split h (led_before a b split h led);
    marks = may.marks;
    is_present = may.is_present;
  }

-- the mapper's hierarchy after it was to clear the table
module _ {Lent : Type 0} (h after : Hierarchy Lent) (apart : Distinct h.layout.places) (path : List ℕ) (k f g x : ℕ) (may : MayLink h.layout h.memory path k f g x) (was : Bool) (is : after ≡ cond was (with_zeros h g) h) where
  now_cleared : IsZeroed h.layout.places h.memory g (with_zeros h g).memory
  now_cleared = record { there = may.there; after = refl }

  pub same_layout : after.layout ≡ h.layout
  same_layout = elim was as (λ b. after ≡ cond b (with_zeros h g) h → after.layout ≡ h.layout) [
    | true ↦ λ e. ap (λ (h : Hierarchy Lent). h.layout) e
    | false ↦ λ e. ap (λ (h : Hierarchy Lent). h.layout) e
  ] is

  pub may_after : MayLink after.layout after.memory path k f g x
  may_after = elim was as (λ b. after ≡ cond b (with_zeros h g) h → MayLink after.layout after.memory path k f g x) [
    | true ↦ λ e. subst (λ (h : Hierarchy Lent). MayLink h.layout h.memory path k f g x) (sym e) (may_link_cleared h.layout apart h.memory path k f g x may (with_zeros h g).memory now_cleared)
    | false ↦ λ e. subst (λ (h : Hierarchy Lent). MayLink h.layout h.memory path k f g x) (sym e) may
  ] is

  pub zeros_after : was ≡ true → words after g ≡ Some zero_words
  zeros_after done = let e : after ≡ with_zeros h g = rw done at is in
      ap (λ (h : Hierarchy Lent). words h g) e ∙ cleared_here h.layout.places apart h.memory g (with_zeros h g).memory now_cleared

  -- the entry was set after that
  pub linked_after : was ≡ true → (i w : ℕ) (n : Memory) → IsSet after.layout.places after.memory f i w n → IsClearedFirst h.layout.places h.memory f i w g n
  linked_after done i w n set = let e : after ≡ with_zeros h g = rw done at is in record {
    middle = (with_zeros h g).memory;
    is_cleared = now_cleared;
    is_set = subst (λ (a : Hierarchy Lent). IsSet a.layout.places a.memory f i w n) e set;
  }

  -- the entry was set before the table was cleared
  pub cleared_after : was ≡ false → (i w : ℕ) (a n : Memory) → IsSet after.layout.places after.memory f i w a → IsZeroed h.layout.places a g n → IsClearedFirst h.layout.places h.memory f i w g n
  cleared_after done i w a n set cleared = let e : after ≡ h = rw done at is in
      cleared_first h.layout.places apart h.memory f i w g a n (may.unmet (take k path) [] (sym (append-nil _)) f may.reached.way) may.there
      (subst (λ (h : Hierarchy Lent). IsSet h.layout.places h.memory f i w a) e set) cleared

-- a table in the first frame of a supply that was linked
pub taken_linked : (l k : Layout) → k ≡ l → (m o : Memory) → o ≡ m → (s rest : List ℕ) (f i x given g : ℕ) → x ≡ given → (n : Memory) → used (word_in_frame l.places m f i) ≡ false → s ≡ g ∷ rest
    → IsClearedFirst k.places o f i (bit_or g x) g n → IsTaken l.places m s f i given g n rest
taken_linked l k same m o unmoved s rest f i x given g flags n unused first linked =
    let h : IsClearedFirst l.places m f i (bit_or g given) g n = rw (same, unmoved, flags) at linked in
    record { is_unused = unused; first = first; middle = h.middle; is_cleared = h.is_cleared; is_set = h.is_set }

pub may_still : (l k : Layout) → k ≡ l → (m o : Memory) → o ≡ m → (path : List ℕ) (i f g x given : ℕ) → x ≡ given → MayLink l m path i f g given → MayLink k o path i f g x
may_still l k same m o unmoved path i f g x given flags may = rw (same, unmoved, flags) may

module _ (l : Layout) (apart : Distinct l.places) (m : Memory) (path : List ℕ) (f i : ℕ) (small : i < 512) (reached : IsReached l m path f) (before : NotOnWay (words (l laid_in m)) l.root path f) (beside : Beside l.window l.root f i) where
  -- the table is still reached after a write to a word of it that isn't the self-entry
  pub reached_set : (w : ℕ) (n : Memory) → IsSet l.places m f i w n → IsReached l n path f
  reached_set w n k = record {
    way = leads_same (words (l laid_in m)) (words (l laid_in n)) l.root path f reached.way (λ a j b split h lead.
        ap (λ T. read T h j) (set_is l.places apart m f i w n k) ∙ ap (option_map (λ words. get_or words j 0)) (set_word_other (words (l laid_in m)) f i w h (before a j b split h lead)));
    there = set_keeps l.places apart m f i w n k f reached.there;
    root_there = set_keeps l.places apart m f i w n k l.root reached.root_there;
    self = self_set l apart m f i w n k beside reached.self;
  }

  -- the table that the word then names is reached too, whatever words it holds
  pub reached_linked : (w : ℕ) (n : Memory) → IsSet l.places m f i w n → present w ≡ true → huge w ≡ false → IsThere l.places m (address w) → IsReached l n (path ++ i ∷ []) (address w)
  reached_linked w n k here plain there =
      let r = reached_set w n k in
      let is : word (words (l laid_in n)) f i ≡ w = ap (λ T. word T f i) (set_is l.places apart m f i w n k) ∙ word-set_same (words (l laid_in m)) f i w k.table k.is (subst (λ n. i < n) (sym k.long) small) small in record {
        way = leads_last (words (l laid_in n)) l.root path f i w r.way (read_there (words (l laid_in n)) f i small r.there ∙ ap Some is) here plain;
        there = set_keeps l.places apart m f i w n k (address w) there;
        root_there = r.root_there;
        self = r.self;
      }

-- a table's new entry is present and names it, so that the table is reached through it at once
pub linked_reached : (l : Layout) → Distinct l.places → (m : Memory) (path : List ℕ) (f i : ℕ) → i < 512 → IsReached l m path f → NotOnWay (words (l laid_in m)) l.root path f → Beside l.window l.root f i
    → (g x : ℕ) → is_frame g ≡ true → IsParentFlags x → present x ≡ true → IsThere l.places m g → (n : Memory) → IsSet l.places m f i (bit_or g x) n → IsReached l n (path ++ i ∷ []) g
unfolding has
linked_reached l apart m path f i small reached before beside g x frame marks here there n k =
    let own : address g ≡ g = eqb-true (address g) g frame in
    let same : address (bit_or g x) ≡ g = address_or g x marks.no_address ∙ own in
    subst (λ a. IsReached l n (path ++ i ∷ []) a) same
    (reached_linked l apart m path f i small reached before beside (bit_or g x) n k
    (only_flags g x 0x1 own refl ∙ here) (only_flags g x 0x80 own refl ∙ ap (λ y. y == 0x80) marks.not_huge) (subst (IsThere l.places m) (sym same) there))
