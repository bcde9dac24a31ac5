-- Words change during a call, in all spaces at once.
use Rattle.std.proofs.Common.{◌≡◌, ⊎_elim, ℕ, Bool, true, cond, List, [], map, Some, None, sym, subst}
use Rattle.x86_64_model.specs.Lists.{In}
use Rattle.x86_64_model.specs.Memory.{Words}
use Rattle.x86_64_model.specs.PathMap.{PathMap, entry}
use Rattle.x86_64_model.specs.Window.{entry_at, outside_window, IsValidFor}
use Rattle.x86_64_model.specs.Spaces.{is_shared}
use Rattle.x86_64_model.specs.Caches.{PartialWalk, Cached}
use Rattle.x86_64_model.specs.Flushing.{Due}
use Rattle.x86_64_model.specs.Tags.{Of, Global}
use Rattle.x86_64_model.specs.Switches.{Kernel, Space, Switching, with_words, held_by, is_held, Writes, after_switch}
use Rattle.x86_64_model.specs.MaySwitch.{MayWriteAll}
use Rattle.x86_64_model.proofs.Lemmas.Hierarchies.Trees.{IsTree, hierarchy_of_valid}
use Rattle.x86_64_model.proofs.Lemmas.Lists.Members.{in_map, from_map}
use Rattle.x86_64_model.proofs.Lemmas.Caches.Items as items
use Rattle.x86_64_model.proofs.Lemmas.Caches.Items.{item_written}
use Rattle.x86_64_model.proofs.Lemmas.Caches.Windowed.{Becomes, AsBefore, seen_moves, seen_below, seen_empty}
use Rattle.x86_64_model.proofs.Lemmas.Switches.Alike.{become_more, part_written}
use Rattle.x86_64_model.proofs.Lemmas.Switches.Dues.{AreDue}
use Rattle.x86_64_model.proofs.Lemmas.Switches.Safe.{IsSafe, SafeIn, GlobalIn, tagged, own, wide}

-- what the call under way makes due for a root's items is due for the PCID that holds them
pub own_due : (shared : ℕ → Bool) (s : Switching) → AreDue shared s → (c root : ℕ) → s.holder c ≡ Some root → (d : Due) → In (own s root) d → In (s.due (Of c)) d
own_due shared s due c root h d i = due.covers (Of c) d (subst (λ o. In (cond (is_held s.reaches o) s.under_way []) d) (sym h) i)

module _ (k : Kernel) (s : Switching) (safe : IsSafe k s) (U : Words) (may : MayWriteAll k s U) where
  abbrev now : Space → PathMap
  now a = held_by k U a

  module _ (a : Space) (ia : In s.spaces a) where
    valid : IsValidFor k.levels a.window U a.root (now a)
    valid = may.held.valid (with_words k U a) (in_map (with_words k U) s.spaces a ia)

    tree : IsTree k.levels a.root (now a)
    tree = (hierarchy_of_valid k.levels (outside_window a.window a.root U) a.root (now a) valid.valid).tree

    -- each entry that changes becomes as it will be
    changed : (q : List ℕ) → Becomes k.levels a.window (own s a.root) s.pool q (entry a.paths q) (entry (now a) q)
    changed q = ⊎_elim (λ e. AsBefore e) (λ e. subst (Becomes k.levels a.window (own s a.root) s.pool q (entry a.paths q)) (sym e) (safe.moves a ia q)) (may.between a ia q)

    changed_shared : (q : List ℕ) → is_shared k.shared q ≡ true → Becomes k.levels None (wide s) s.pool q (entry a.paths q) (entry (now a) q)
    changed_shared q on = ⊎_elim (λ e. AsBefore e) (λ e. subst (Becomes k.levels None (wide s) s.pool q (entry a.paths q)) (sym e) (safe.moves_shared a ia q on)) (may.between a ia q)

    left : (q : List ℕ) → Becomes k.levels a.window (own s a.root) s.pool q (entry (now a) q) (entry a.next q)
    left q = ⊎_elim (λ e. subst (λ x. Becomes k.levels a.window (own s a.root) s.pool q x (entry a.next q)) (sym e) (safe.moves a ia q)) (λ e. AsBefore (sym e)) (may.between a ia q)

    left_shared : (q : List ℕ) → is_shared k.shared q ≡ true → Becomes k.levels None (wide s) s.pool q (entry (now a) q) (entry a.next q)
    left_shared q on = ⊎_elim (λ e. subst (λ x. Becomes k.levels None (wide s) s.pool q x (entry a.next q)) (sym e) (safe.moves_shared a ia q on)) (λ e. AsBefore (sym e)) (may.between a ia q)

    written : (c : ℕ) → s.holder c ≡ Some a.root → (x : Cached) → SafeIn k s a c x → items.Safe k.levels a.root a.window (s.due (Of c)) s.pool U (entry_at a.window (now a)) x
    written c h x = item_written k.levels a.root a.window (entry_at a.window a.paths) (entry_at a.window (now a)) (s.due (Of c)) s.pool s.words U
        (seen_below k.levels a.root a.paths (now a) (s.due (Of c)) s.pool U a.window valid.self tree)
        (seen_moves k.levels a.root a.paths (now a) (s.due (Of c)) s.pool U a.window (λ q. become_more k.levels a.window a.window (own s a.root) (s.due (Of c)) s.pool q _ _ grows (λ w v e. grows _ (w v e)) (changed q)))
        (seen_empty k.levels a.root a.paths (now a) (s.due (Of c)) s.pool U a.window (may.empty a ia))
        (may.keeps c) x
      where
        grows : (d : Due) → In (own s a.root) d → In (s.due (Of c)) d
        grows d i = own_due k.shared s safe.dues c a.root h d i

    global_written : (w : PartialWalk) → GlobalIn k s a w → GlobalIn k (after_switch k s (Writes U)) (with_words k U a) w
    global_written w x = part_written k.shared k.levels a.root a.paths (now a) (s.due Global) s.pool s.words U tree
        (λ q on. become_more k.levels None None (wide s) (s.due Global) s.pool q _ _ (λ d i. safe.dues.covers Global d i) (λ w v e. cc) (changed_shared q on))
        (may.empty a ia) w x

  written_items : (c : ℕ) (x : Cached) → In s.cache (tagged (Of c) x) → (b : Space) → In (map (with_words k U) s.spaces) b → s.holder c ≡ Some b.root
      → items.Safe k.levels b.root b.window (s.due (Of c)) s.pool U (entry_at b.window b.paths) x
  written_items c x i b ib = let o = from_map (with_words k U) s.spaces b ib in
      subst (λ (b : Space). s.holder c ≡ Some b.root → items.Safe k.levels b.root b.window (s.due (Of c)) s.pool U (entry_at b.window b.paths) x) o.2
      (λ h. written o.0 o.1 c h x (safe.items c x i o.0 o.1 h))

  pub write_keeps : IsSafe k (after_switch k s (Writes U))
  write_keeps = record {
    held = may.held;
    current = let c = safe.current in (with_words k U c.0, in_map (with_words k U) s.spaces c.0 c.1, c.2);
    holds = safe.holds;
    moves = λ b ib q. let o = from_map (with_words k U) s.spaces b ib in
        subst (λ (b : Space). Becomes k.levels b.window (own s b.root) s.pool q (entry b.paths q) (entry b.next q)) o.2 (left o.0 o.1 q);
    moves_shared = λ b ib q on. let o = from_map (with_words k U) s.spaces b ib in
        subst (λ (b : Space). Becomes k.levels None (wide s) s.pool q (entry b.paths q) (entry b.next q)) o.2 (left_shared o.0 o.1 q on);
    dues = record { covers = safe.dues.covers; narrow = safe.dues.narrow; never_all = safe.dues.never_all; avoids = safe.dues.avoids; never_all_now = safe.dues.never_all_now };
    items = written_items;
    globals = λ x i. let g = safe.globals x i in (
      g.0,
      g.1,
      g.2,
      λ b ib. let o = from_map (with_words k U) s.spaces b ib in
          subst (λ (b : Space). GlobalIn k (after_switch k s (Writes U)) b g.0) o.2 (global_written o.0 o.1 g.0 (g.3 o.0 o.1)),
    );
  }
