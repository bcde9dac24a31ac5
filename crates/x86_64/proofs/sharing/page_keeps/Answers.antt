use Rattle.std.proofs.Common.{◌≡◌, ◌↔◌, ◌<◌, ◌≤◌, ◌∙◌, ℕ, Bool, bit_or, true, IsTrue, sym, ap, subst}
use Rattle.x86_64_model.specs.Hierarchy.{Hierarchy, path_of}
use Rattle.x86_64_model.specs.Position.{index}
use Rattle.x86_64_model.specs.Spaces.{is_shared, HasFlags}
use Rattle.x86_64.specs.Sharing.{root_entries}
use Rattle.x86_64_spaces.specs.SpaceLayouts.{indices_of}
use Rattle.x86_64.proofs.SharedEntries.{of_page}
use Rattle.x86_64.proofs.sharing.page_keeps.Goals as goal

module _ {Lent : Type 0} (h : Hierarchy Lent) (L : ℕ) (known : h.layout.levels ≡ L) (some : 3 < h.layout.levels) (level : ℕ) (low : level ≤ 3) (shared : ℕ → Bool) (test : Bool) where
  -- the test of the root's entry by its index is one by the page's path
  keeps_flags : (page i given : ℕ) → i ≡ index L page → (IsTrue test ↔ (shared i ≡ true → bit_or (root_entries h i) given ≡ root_entries h i))
      → IsTrue test ↔ HasFlags shared (root_entries h) (path_of h level page) given
  keeps_flags page i given is tests = of_page h.layout.levels level page some low (λ q. IsTrue test ↔ HasFlags shared (root_entries h) q given)
      (λ q. subst (λ i. IsTrue test ↔ (shared i ≡ true → bit_or (root_entries h i) given ≡ root_entries h i)) (is ∙ ap (λ n. index n page) (sym known)) tests)

  keeps_level : (page at : ℕ) → (IsTrue test ↔ (shared (index L page) ≡ true → at < L)) → IsTrue test ↔ (is_shared shared (path_of h level page) ≡ true → at < h.layout.levels)
  keeps_level page at tests = of_page h.layout.levels level page some low (λ q. IsTrue test ↔ (is_shared shared q ≡ true → at < h.layout.levels))
      (λ q. subst (λ n. IsTrue test ↔ (shared (index n page) ≡ true → at < n)) (sym known) tests)

pub returns-in-MapTo : goal.returns-in-MapTo
returns-in-MapTo g c =
    let s = c.args.mapper.now in let h = g.M.Tables.hierarchy s in
    rw c.in-MapTo.is (keeps_flags h g.L.LevelCount.LEVELS (g.met.M.TablesIn.level_count s) (g.met.M.Tables.at_least_four s) g.S.PageSize.LEVEL g.S.PageSize.high (indices_of c.args.shared) c.has_flags.result
    c.in-MapTo.page c.table_index.result _ (c.table_index.ensures ∙ ap (λ n. index n c.in-MapTo.page) c.LEVELS.ensures)
    (subst (λ given. IsTrue c.has_flags.result ↔ (indices_of c.args.shared c.table_index.result ≡ true → bit_or (root_entries h c.table_index.result) given ≡ root_entries h c.table_index.result)) c.parent_flags.ensures c.has_flags.ensures))

pub returns-in-MapToWithTableFlags : goal.returns-in-MapToWithTableFlags
returns-in-MapToWithTableFlags g c =
    let s = c.args.mapper.now in let h = g.M.Tables.hierarchy s in let w = c.in-MapToWithTableFlags in
    rw w.is (keeps_flags h g.L.LevelCount.LEVELS (g.met.M.TablesIn.level_count s) (g.met.M.Tables.at_least_four s) g.S.PageSize.LEVEL g.S.PageSize.high (indices_of c.args.shared) c.has_flags-in-MapToWithTableFlags.result
    w.page c.table_index-in-MapToWithTableFlags.result _ (c.table_index-in-MapToWithTableFlags.ensures ∙ ap (λ n. index n w.page) c.LEVELS-in-MapToWithTableFlags.ensures)
    c.has_flags-in-MapToWithTableFlags.ensures)

pub returns-in-IdentityMap : goal.returns-in-IdentityMap
returns-in-IdentityMap g c =
    let s = c.args.mapper.now in let h = g.M.Tables.hierarchy s in let w = c.in-IdentityMap in
    rw w.is (keeps_flags h g.L.LevelCount.LEVELS (g.met.M.TablesIn.level_count s) (g.met.M.Tables.at_least_four s) g.S.PageSize.LEVEL g.S.PageSize.high (indices_of c.args.shared) c.has_flags-in-IdentityMap.result
    w.frame c.index_of.result _ c.index_of.ensures
    (subst (λ given. IsTrue c.has_flags-in-IdentityMap.result ↔ (indices_of c.args.shared c.index_of.result ≡ true → bit_or (root_entries h c.index_of.result) given ≡ root_entries h c.index_of.result)) c.parent_flags-in-IdentityMap.ensures c.has_flags-in-IdentityMap.ensures))

pub returns-in-SetFlagsP5 : goal.returns-in-SetFlagsP5
returns-in-SetFlagsP5 g c =
    let s = c.args.mapper.now in let h = g.M.Tables.hierarchy s in
    rw c.in-SetFlagsP5.is (keeps_level h g.L.LevelCount.LEVELS (g.met.M.TablesIn.level_count s) (g.met.M.Tables.at_least_four s) g.S.PageSize.LEVEL g.S.PageSize.high (indices_of c.args.shared) c.is_below_root.result c.in-SetFlagsP5.page 5 c.is_below_root.ensures)

pub returns-in-SetFlagsP4 : goal.returns-in-SetFlagsP4
returns-in-SetFlagsP4 g c =
    let s = c.args.mapper.now in let h = g.M.Tables.hierarchy s in
    rw c.in-SetFlagsP4.is (keeps_level h g.L.LevelCount.LEVELS (g.met.M.TablesIn.level_count s) (g.met.M.Tables.at_least_four s) g.S.PageSize.LEVEL g.S.PageSize.high (indices_of c.args.shared) c.is_below_root-in-SetFlagsP4.result c.in-SetFlagsP4.page 4 c.is_below_root-in-SetFlagsP4.ensures)

pub returns-in-SetFlagsP3 : goal.returns-in-SetFlagsP3
returns-in-SetFlagsP3 g c =
    let s = c.args.mapper.now in let h = g.M.Tables.hierarchy s in
    rw c.in-SetFlagsP3.is (keeps_level h g.L.LevelCount.LEVELS (g.met.M.TablesIn.level_count s) (g.met.M.Tables.at_least_four s) g.S.PageSize.LEVEL g.S.PageSize.high (indices_of c.args.shared) c.is_below_root-in-SetFlagsP3.result c.in-SetFlagsP3.page 3 c.is_below_root-in-SetFlagsP3.ensures)

pub returns-in-SetFlagsP2 : goal.returns-in-SetFlagsP2
returns-in-SetFlagsP2 g c =
    let s = c.args.mapper.now in let h = g.M.Tables.hierarchy s in
    rw c.in-SetFlagsP2.is (keeps_level h g.L.LevelCount.LEVELS (g.met.M.TablesIn.level_count s) (g.met.M.Tables.at_least_four s) g.S.PageSize.LEVEL g.S.PageSize.high (indices_of c.args.shared) c.is_below_root-in-SetFlagsP2.result c.in-SetFlagsP2.page 2 c.is_below_root-in-SetFlagsP2.ensures)
