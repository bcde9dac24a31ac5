-- Marks change nothing of what items agree with.
use Rattle.std.proofs.Common.{◌≡◌, inl, inr, ⊎_elim, ◌==◌, ℕ, true, false, cond, List, [], ◌∷◌, map, Some, None, Option, refl, sym, ap, ◌∙◌, subst, subst₂}
use Rattle.std.proofs.lemmas.Bool.{cases_Bool}
use Rattle.x86_64_model.specs.Lists.{In}
use Rattle.x86_64_model.specs.Entry.{LeadAlike, used, present, huge, address}
use Rattle.x86_64_model.specs.Memory.{Words}
use Rattle.x86_64_model.specs.PathMap.{PathMap, entry}
use Rattle.x86_64_model.specs.Window.{Window, windowed, entry_at}
use Rattle.x86_64_model.specs.Spaces.{is_shared}
use Rattle.x86_64_model.specs.Caches.{PartialWalk, Cached, Table, Page}
use Rattle.x86_64_model.specs.Flushing.{Due, PageDue, HasZeros}
use Rattle.x86_64_model.specs.Tags.{Of, Global}
use Rattle.x86_64_model.specs.Switches.{Kernel, Space, Switching, held_by, with_marks, Marks, after_switch}
use Rattle.x86_64_model.specs.MaySwitch.{MayMarkAll}
use Rattle.x86_64_model.proofs.Lemmas.Entries.Bits.{unused_zero}
use Rattle.x86_64_model.proofs.Lemmas.Hierarchies.Changes.{zero_not_used}
use Rattle.x86_64_model.proofs.Lemmas.Lists.Members.{in_map, from_map}
use Rattle.x86_64_model.proofs.Lemmas.Caches.Agrees.{Grants, leads}
use Rattle.x86_64_model.proofs.Lemmas.Caches.Items as items
use Rattle.x86_64_model.proofs.Lemmas.Caches.Kept.{Kept, SameTarget, agrees_kept}
use Rattle.x86_64_model.proofs.Lemmas.Caches.Windowed.{Becomes, AsBefore, Made, Marked, Remapped, Reflagged, Removed}
use Rattle.x86_64_model.proofs.Lemmas.Switches.Alike.{alike_itself, alike_kept, alike_table, safe_alike, part, part_is, shared_front}
use Rattle.x86_64_model.proofs.Lemmas.Switches.Safe.{IsSafe, GlobalIn, tagged, own, wide}

-- ---- changes of entries that were and will be marked

module _ (L : ℕ) (window : Option Window) (due : List Due) (pool : List ℕ) (q : List ℕ) (e f e' f' : ℕ) (before : LeadAlike e e') (after : LeadAlike f f') where
  kept_marked : Kept e f → present e' ≡ true → Kept e' f'
  kept_marked k h = record {
    is_present = after.same_present ∙ k.is_present;
    same_huge = after.same_huge ∙ k.same_huge ∙ sym before.same_huge;
    same_address = after.same_address ∙ k.same_address ∙ sym before.same_address;
    grants = λ r g. let was = k.grants r (record { write = λ x. sym before.same_write ∙ g.write x; user = λ x. sym before.same_user ∙ g.user x; execute = λ x. sym before.same_execute ∙ g.execute x }) in
        record { write = λ x. after.same_write ∙ was.write x; user = λ x. after.same_user ∙ was.user x; execute = λ x. after.same_execute ∙ was.execute x };
  }

  target_marked : SameTarget e f → SameTarget e' f'
  target_marked t = record {
    was_used = before.same_used ∙ t.was_used;
    is_used = after.same_used ∙ t.is_used;
    same_huge = after.same_huge ∙ t.same_huge ∙ sym before.same_huge;
    same_address = after.same_address ∙ t.same_address ∙ sym before.same_address;
  }

  pub becomes_marked : Becomes L window due pool q e f → Becomes L window due pool q e' f'
  becomes_marked (AsBefore is) = ⊎_elim
      (λ u. Marked
      (λ h. kept_marked (record { is_present = ap present is ∙ sym before.same_present ∙ h; same_huge = ap huge is; same_address = ap address is; grants = λ r g. subst (λ x. Grants x r) (sym is) g }) h)
      (target_marked (record { was_used = u; is_used = ap used is ∙ u; same_huge = ap huge is; same_address = ap address is })))
      (λ u. Made (before.same_used ∙ u)) (cases_Bool (used e))
  becomes_marked (Made u) = Made (before.same_used ∙ u)
  becomes_marked (Marked k t) = Marked (λ h. kept_marked (k (sym before.same_present ∙ h)) h) (target_marked t)
  becomes_marked (Remapped n d w) = Remapped (alike_table L q e e' before ∙ n) (subst (λ a. In due (PageDue q a)) (sym before.same_address) d) w
  becomes_marked (Reflagged t r d b w) = Reflagged (target_marked t) r d b w
  becomes_marked (Removed z w g is d i) = Removed (unused_zero f' (after.same_used ∙ ap used z ∙ zero_not_used)) w g (alike_table L q e e' before ∙ is) d i

-- ---- what the processor reads

-- through the window, too
pub seen_alike : (window : Option Window) (M N : PathMap) → ((q : List ℕ) → LeadAlike (entry M q) (entry N q)) → (q : List ℕ) → LeadAlike (entry_at window M q) (entry_at window N q)
unfolding entry_at
seen_alike None M N same q = same q
seen_alike (Some w) M N same [] = alike_itself 0
seen_alike (Some w) M N same (i ∷ []) = elim (i == w.index) as (λ b. LeadAlike (cond b w.self_entry (entry M (i ∷ []))) (cond b w.self_entry (entry N (i ∷ [])))) [ true ↦ alike_itself w.self_entry | false ↦ same (i ∷ []) ]
seen_alike (Some w) M N same (i ∷ j ∷ q) = let more = seen_alike (Some w) M N same (j ∷ q) in
    elim (i == w.index) as (λ b. LeadAlike (cond b (windowed w M (j ∷ q)) (entry M (i ∷ j ∷ q))) (cond b (windowed w N (j ∷ q)) (entry N (i ∷ j ∷ q)))) [ true ↦ more | false ↦ same (i ∷ j ∷ q) ]

module _ (L root : ℕ) (window : Option Window) (due : List Due) (pool : List ℕ) (T U : Words) (E F : List ℕ → ℕ) (same : (q : List ℕ) → LeadAlike (E q) (F q)) (zeros : (f : ℕ) → HasZeros T f → HasZeros U f) where
  leads_alike : (q : List ℕ) → leads L root F q ≡ leads L root E q
  leads_alike [] = refl
  leads_alike (i ∷ q) = alike_table L (i ∷ q) _ _ (same (i ∷ q))

  pub item_marked : (c : Cached) → items.Safe L root window due pool T E c → items.Safe L root window due pool U F c
  item_marked (Table t) (inl a) = inl (agrees_kept L root E F (Table t) a (λ i c b h. alike_kept _ _ (same (i ∷ c)) h))
  item_marked (Table t) (inr (inl x)) = inr (inl (x.0, x.1, zeros t.frame x.2))
  item_marked (Table t) (inr (inr x)) = inr (inr (x.0, leads_alike t.path ∙ x.1))
  item_marked (Page w) x = safe_alike L E F w (λ i c b. same (i ∷ c)) window due x

module _ (k : Kernel) (s : Switching) (safe : IsSafe k s) (next : Space → PathMap) (U : Words) (may : MayMarkAll k s next U) where
  abbrev marked : Switching
  marked = after_switch k s (Marks next U)

  marked_items : (c : ℕ) (x : Cached) → In s.cache (tagged (Of c) x) → (b : Space) → In (map (with_marks k next U) s.spaces) b → s.holder c ≡ Some b.root
      → items.Safe k.levels b.root b.window (s.due (Of c)) s.pool U (entry_at b.window b.paths) x
  marked_items c x i b ib = let o = from_map (with_marks k next U) s.spaces b ib in
      subst (λ (b : Space). s.holder c ≡ Some b.root → items.Safe k.levels b.root b.window (s.due (Of c)) s.pool U (entry_at b.window b.paths) x) o.2
      (λ h. item_marked k.levels o.0.root o.0.window (s.due (Of c)) s.pool s.words U (entry_at o.0.window o.0.paths) (entry_at o.0.window (held_by k U o.0))
      (seen_alike o.0.window o.0.paths (held_by k U o.0) (may.now o.0 o.1)) may.keeps x (safe.items c x i o.0 o.1 h))

  global_marked : (a : Space) → In s.spaces a → (w : PartialWalk) → is_shared k.shared w.path ≡ true → GlobalIn k s a w → GlobalIn k marked (with_marks k next U a) w
  global_marked a ia w on x = safe_alike k.levels (part k.shared a.paths) (part k.shared (held_by k U a)) w (λ i c b. let h = shared_front k.shared i c w.path b on in
      subst₂ LeadAlike (sym (part_is k.shared a.paths (i ∷ c) h)) (sym (part_is k.shared (held_by k U a) (i ∷ c) h)) (may.now a ia (i ∷ c))) None (s.due Global) x

  pub mark_keeps : IsSafe k marked
  mark_keeps = record {
    held = may.held;
    current = let c = safe.current in (with_marks k next U c.0, in_map (with_marks k next U) s.spaces c.0 c.1, c.2);
    holds = safe.holds;
    moves = λ b ib q. let o = from_map (with_marks k next U) s.spaces b ib in
        subst (λ (b : Space). Becomes k.levels b.window (own s b.root) s.pool q (entry b.paths q) (entry b.next q)) o.2
        (becomes_marked k.levels o.0.window (own s o.0.root) s.pool q _ _ _ _ (may.now o.0 o.1 q) (may.then o.0 o.1 q) (safe.moves o.0 o.1 q));
    moves_shared = λ b ib q on. let o = from_map (with_marks k next U) s.spaces b ib in
        subst (λ (b : Space). Becomes k.levels None (wide s) s.pool q (entry b.paths q) (entry b.next q)) o.2
        (becomes_marked k.levels None (wide s) s.pool q _ _ _ _ (may.now o.0 o.1 q) (may.then o.0 o.1 q) (safe.moves_shared o.0 o.1 q on));
    dues = record { covers = safe.dues.covers; narrow = safe.dues.narrow; never_all = safe.dues.never_all; avoids = safe.dues.avoids; never_all_now = safe.dues.never_all_now };
    items = marked_items;
    globals = λ x i. let g = safe.globals x i in (
      g.0,
      g.1,
      g.2,
      λ b ib. let o = from_map (with_marks k next U) s.spaces b ib in
          subst (λ (b : Space). GlobalIn k marked b g.0) o.2 (global_marked o.0 o.1 g.0 g.2 (g.3 o.0 o.1)),
    );
  }
