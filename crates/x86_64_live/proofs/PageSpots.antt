-- The way down to a position, and what lies in the span of the entry at which it ends.
use Rattle.std.proofs.Common.{zero, suc, ◌≡◌, ◌≢◌, ⊎_elim, ◌<◌, ◌≤◌, ◌+◌, ◌-◌, ◌*◌, ◌/◌, ◌%◌, ◌^◌, ◌==◌, ◌&&◌, ◌||◌, ℕ, Bool, true, false, not, cond, List, [], ◌∷◌, ◌++◌, length, take, nat_lt, Some, None, unwrap_or, refl, sym, ap, ap₂, ◌∙◌, subst, subst₂, arith, append_assoc, eqb-true, le-ltb}
use Rattle.std.proofs.lemmas.Bool.{and_parts, cases_eq, cases_lt, ne_eqb}
use Rattle.std.proofs.Math.Bool.{and-false}
use Rattle.std.proofs.Math.Nat.{div-add-mod, div-div-eq-div-mul, div-mul-le_self, mod-lt, mul_comm, mul_assoc, mul-div_left}
use Rattle.std.proofs.Math.Seq.{take-suc}
use Rattle.x86_64_mappers.proofs.Translate.WalkedPart.{index_at}
use Rattle.x86_64_live.specs.PageRanges.{HasNoPage, is_page}
use Rattle.x86_64_live.specs.private.RangeSteps.{IsOnWay, IsSpot, StartsAt, leads_down, below_of}
use Rattle.x86_64_live.specs.declared.ranges.search.Cursor.{Cursor}
use Rattle.x86_64_live.specs.declared.ranges.search.Spot.{Spot}
use Rattle.x86_64_model.specs.Entry.{huge, address, names_table}
use Rattle.x86_64_model.specs.Memory.{Words, word}
use Rattle.x86_64_model.specs.Path.{path_at}
use Rattle.x86_64_model.specs.PathMap.{PathMap, entry, table_of, table_at}
use Rattle.x86_64_model.specs.Position.{index, page_path, span}
use Rattle.x86_64_model.specs.Validity.{IsValid, entry_in}
use Rattle.x86_64_model.proofs.Lemmas.Hierarchies.Trees.{IsTree, tree_of_holds, tree_below, table_at_is, table_of_gives, none_or_some, used_table, plain_table, used_last, some_not_none}
use Rattle.x86_64_model.proofs.Lemmas.Machines.Spares.{length_path}
use Rattle.x86_64_model.proofs.Lemmas.Mappings.SpanEnds.{same_number}
use Rattle.x86_64_model.proofs.Lemmas.Paths.Pages.{length_taken, span_pos, span_up, front_in_page}
use Rattle.x86_64_model.proofs.Lemmas.Paths.Puts.{no_end}
use Rattle.x86_64_model.proofs.Lemmas.Walks.Agrees.{named}

-- ---- numbers of spans

number_of : (level k x : ℕ) → 1 ≤ level → level ≤ k → x / span k ≡ x / span level / 2 ^ (9 * (k - level))
number_of level k x low high = ap (λ s. x / s) (span_up level k low high) ∙ sym (div-div-eq-div-mul x (span level) (2 ^ (9 * (k - level))))

-- positions in one span are in one span of each higher level
pub number_up : (level k p x : ℕ) → 1 ≤ level → level ≤ k → x / span level ≡ p / span level → x / span k ≡ p / span k
number_up level k p x low high same = number_of level k x low high ∙ ap (λ n. n / 2 ^ (9 * (k - level))) same ∙ sym (number_of level k p low high)

multiples : (a b : ℕ) → (a * 4096 + b * 4096) % 4096 ≡ 0
multiples a b = omega arith

-- a span is a multiple of 4KiB
pub span_pages : (level : ℕ) → 1 ≤ level → span level ≡ 2 ^ (9 * (level - 1)) * 4096
span_pages level low = span_up 1 level (omega arith) low ∙ mul_comm 4096 (2 ^ (9 * (level - 1)))

pub end_aligned : (level n : ℕ) → 1 ≤ level → (n * span level + span level) % 4096 ≡ 0
end_aligned level n low = let m = 2 ^ (9 * (level - 1)) in
    ap (λ s. (n * s + s) % 4096) (span_pages level low) ∙ ap (λ z. (z + m * 4096) % 4096) (sym (mul_assoc n m 4096)) ∙ multiples (n * m) m

-- the number of the span behind one
next_number : (level p : ℕ) → (p / span level * span level + span level) / span level ≡ p / span level + 1
next_number level p = let n = p / span level in
    ap (λ x. x / span level) (let e : n * span level + span level ≡ (n + 1) * span level = grind arith in e) ∙ mul-div_left (n + 1) (span_pos level)

no_carry : (n : ℕ) → (n + 1) % 512 ≢ 0 → (n + 1) / 512 ≡ n / 512
no_carry n some = omega (arith, some)

-- ---- the table below

pub record IsBelow (s : Spot) (c : Cursor) : Type 0 where
  pub cursor : record { position = s.position; frame = address s.word; level = s.level - 1 } ≡ c
  pub names : names_table s.word ≡ true
  pub more : 2 ≤ s.level

pub is_below : (s : Spot) (c : Cursor) → 1 ≤ s.level → below_of s ≡ Some c → IsBelow s c
is_below s c low is = by (leads_down s.level s.word) refl is
  where
    at : Cursor
    at = record { position = s.position; frame = address s.word; level = s.level - 1 }

    by : (b : Bool) → leads_down s.level s.word ≡ b → cond b (Some at) None ≡ Some c → IsBelow s c
    by true down is =
        let parts = and_parts (not (s.level == 1)) (names_table s.word) down in record {
          cursor = ap (λ o. unwrap_or o at) is;
          names = parts.1;
          more = ⊎_elim (λ one. absurd (let t : false ≡ true = sym (ap (λ n. not (n == 1)) one) ∙ parts.0 in cc)) (λ other. omega (arith, low, other)) (cases_eq s.level 1);
        }
    by false down is = cc

-- ---- paths

module _ (L : ℕ) where
  pub path_up : (level p : ℕ) → 1 ≤ level → level ≤ L → path_at L level p ≡ path_at L (level + 1) p ++ index level p ∷ []
  path_up level p low high =
      ap (λ n. take n (page_path L p)) (let e : L + 1 - level ≡ suc (L - level) = omega (arith, high) in e)
      ∙ take-suc (page_path L p) (L - level) 0 (let l = length_path L p in omega (arith, l, low, high))
      ∙ ap₂ (λ n i. take n (page_path L p) ++ i ∷ []) (let e : L - level ≡ L + 1 - (level + 1) = omega arith in e)
      (index_at L p (L - level) (omega (arith, low, high)) ∙ ap (λ n. index n p) (let e : L - (L - level) ≡ level = omega (arith, high) in e))

  pub no_path : (p : ℕ) → path_at L (L + 1) p ≡ []
  no_path p = ap (λ n. take n (page_path L p)) (let e : L + 1 - (L + 1) ≡ 0 = omega arith in e)

  to_start : (level x : ℕ) → 1 ≤ level → level ≤ L → path_at L level x ≡ path_at L level (x / span level * span level)
  to_start level x low high =
      let n = x / span level in let o = x % span level in
      let is : x ≡ n * span level + o = (let all = div-add-mod x (span level) in let c = mul_comm n (span level) in omega (arith, all, c)) in
      let within : o < span level = (let pos = span_pos level in mod-lt x pos) in
      ap (λ k. take k (page_path L x)) (sym (length_taken (n * span level) (L + 1 - level) L (omega (arith, low))))
      ∙ ap (λ y. take (length (path_at L level (n * span level))) (page_path L y)) is
      ∙ front_in_page L level n o low high within

  pub path_same : (level p x : ℕ) → 1 ≤ level → level ≤ L → x / span level ≡ p / span level → path_at L level x ≡ path_at L level p
  path_same level p x low high same = to_start level x low high ∙ ap (λ n. path_at L level (n * span level)) same ∙ sym (to_start level p low high)

  longer : (k p d : ℕ) → 1 ≤ k → k + d ≤ L → (j : ℕ) × (s : List ℕ) × (path_at L k p ≡ path_at L (k + d + 1) p ++ j ∷ s)
  longer k p zero low high = (index k p, [], path_up k p low (omega (arith, high)) ∙ ap (λ n. path_at L n p ++ index k p ∷ []) (let e : k + 1 ≡ k + 0 + 1 = omega arith in e))
  longer k p (suc d) low high =
      let shorter = longer k p d low (omega (arith, high)) in
      let i = index (k + d + 1) p in (
        i,
        shorter.0 ∷ shorter.1,
        shorter.2
            ∙ ap (λ q. q ++ shorter.0 ∷ shorter.1) (path_up (k + d + 1) p (omega arith) (omega (arith, high)))
            ∙ append_assoc (path_at L (k + d + 1 + 1) p) (i ∷ []) (shorter.0 ∷ shorter.1)
            ∙ ap (λ n. path_at L n p ++ i ∷ shorter.0 ∷ shorter.1) (let e : k + d + 1 + 1 ≡ k + suc d + 1 = omega arith in e),
      )

  -- ---- entries on the way

  module _ (T : Words) (root : ℕ) (M : PathMap) (valid : IsValid L T root M) where
    tree : IsTree L root M
    tree = tree_of_holds L T root M valid.holds

    tabled : (q : List ℕ) (i : ℕ) → table_at L root M (q ++ i ∷ []) ≢ None → names_table (entry M (q ++ i ∷ [])) ≡ true
    tabled q i there =
        let at = none_or_some (table_at L root M (q ++ i ∷ [])) there in
        (table_of_gives L (q ++ i ∷ []) (entry M (q ++ i ∷ [])) at.0 (sym (table_at_is L root M (q ++ i ∷ []) (λ e. no_end q i (sym e))) ∙ at.1)).is_table

    leads_up : (level p d : ℕ) → 1 ≤ level → level + d ≤ L → table_at L root M (path_at L (level + 1) p) ≢ None
        → table_at L root M (path_at L (level + d + 1) p) ≢ None
    leads_up level p zero low high leads = subst (λ n. table_at L root M (path_at L n p) ≢ None) (let e : level + 1 ≡ level + 0 + 1 = omega arith in e) leads
    leads_up level p (suc d) low high leads =
        let k = level + d + 1 in
        let q = path_at L (k + 1) p in let i = index k p in
        let here : table_at L root M (q ++ i ∷ []) ≢ None =
        subst (λ r. table_at L root M r ≢ None) (path_up k p (omega arith) (omega (arith, high))) (leads_up level p d low (omega (arith, high)) leads) in
        subst (λ n. table_at L root M (path_at L n p) ≢ None) (let e : k + 1 ≡ level + suc d + 1 = omega arith in e)
        (used_last L root M tree q i (used_table (entry M (q ++ i ∷ [])) (tabled q i here))).1

    above_is_table : (level p k : ℕ) → 1 ≤ level → level < k → k ≤ L → table_at L root M (path_at L (level + 1) p) ≢ None → huge (entry M (path_at L k p)) ≡ false
    above_is_table level p k low more high leads =
        let there : table_at L root M (path_at L k p) ≢ None =
        subst (λ n. table_at L root M (path_at L n p) ≢ None) (let e : level + (k - level - 1) + 1 ≡ k = omega (arith, more) in e)
        (leads_up level p (k - level - 1) low (omega (arith, more, high)) leads) in
        let up = path_up k p (omega (arith, more)) high in
        ap (λ q. huge (entry M q)) up ∙ plain_table (entry M (path_at L (k + 1) p ++ index k p ∷ []))
        (tabled (path_at L (k + 1) p) (index k p) (subst (λ q. table_at L root M q ≢ None) up there))

    below_unused : (level p k : ℕ) → 1 ≤ k → k < level → level ≤ L → table_at L root M (path_at L level p) ≡ None → entry M (path_at L k p) ≡ 0
    below_unused level p k low less high none =
        let more = longer k p (level - k - 1) low (omega (arith, less, high)) in
        let is : k + (level - k - 1) + 1 ≡ level = omega (arith, less) in
        ap (entry M) (more.2 ∙ ap (λ n. path_at L n p ++ more.0 ∷ more.1) is)
        ∙ tree_below L root M tree (path_at L level p) more.0 more.1 none

    -- ---- the entry at which a look ends

    pub on_root : (p : ℕ) → 1 ≤ L → IsOnWay L root M p L root
    on_root p some = record { low = some; high = omega arith; leads = ap (table_at L root M) (no_path p) }

    pub way_reads : (p level frame : ℕ) → IsOnWay L root M p level frame → entry M (path_at L level p) ≡ word T frame (index level p)
    way_reads p level frame way = ap (entry M) (path_up level p way.low way.high) ∙ valid.holds.entries (path_at L (level + 1) p) (index level p)
        ∙ ap (λ t. entry_in T t (index level p)) way.leads

    length_at : (level p : ℕ) → 1 ≤ level → length (path_at L level p) ≡ L + 1 - level
    length_at level p low = length_taken p (L + 1 - level) L (omega (arith, low))

    nonempty : (level p : ℕ) → 1 ≤ level → level ≤ L → path_at L level p ≢ []
    nonempty level p low high e = let l = length_at level p low in let z : length (path_at L level p) ≡ 0 = ap length e in absurd (omega (arith, l, z, low, high))

    pub goes_below : (s : Spot) (c : Cursor) → IsSpot L root M s → below_of s ≡ Some c → IsOnWay L root M c.position c.level c.frame
    goes_below s c spot is = let b = is_below s c spot.way.low is in
        let low = spot.way.low in let high = spot.way.high in let more = b.more in
        let long = length_at s.level s.position low in
        subst (λ (c : Cursor). IsOnWay L root M c.position c.level c.frame) b.cursor (record {
          low = omega (arith, more);
          high = omega (arith, high);
          leads = ap (λ n. table_at L root M (path_at L n s.position)) (let e : s.level - 1 + 1 ≡ s.level = omega (arith, low) in e)
              ∙ table_at_is L root M (path_at L s.level s.position) (nonempty s.level s.position low high)
              ∙ named L (path_at L s.level s.position) (entry M (path_at L s.level s.position)) (ap names_table spot.reads ∙ b.names) (omega (arith, long, more, high))
              ∙ ap (λ e. Some (address e)) spot.reads;
        })

    module _ (s : Spot) (spot : IsSpot L root M s) (ends : leads_down s.level s.word ≡ false) where
      no_table : table_at L root M (path_at L s.level s.position) ≡ None
      unfolding table_of
      no_table =
          let q = path_at L s.level s.position in
          table_at_is L root M q (nonempty s.level s.position spot.way.low spot.way.high)
          ∙ ap (λ e. cond (names_table e && nat_lt (length q) L) (Some (address e)) None) spot.reads
          ∙ ap (λ b. cond b (Some (address s.word)) None) (by (s.level == 1) refl ends)
        where
          by : (one : Bool) → (s.level == 1) ≡ one → (not one && names_table s.word) ≡ false → (names_table s.word && nat_lt (length (path_at L s.level s.position)) L) ≡ false
          by true is h =
              let one = eqb-true s.level 1 is in let long = length_at s.level s.position spot.way.low in
              ap (λ b. names_table s.word && b) (le-ltb (length (path_at L s.level s.position)) L (omega (arith, long, one))) ∙ and-false (names_table s.word)
          by false is h = ap (λ b. b && nat_lt (length (path_at L s.level s.position)) L) h

      module _ (x : ℕ) (same : x / span s.level ≡ s.position / span s.level) where
        pub here : entry M (path_at L s.level x) ≡ s.word
        here = ap (entry M) (path_same s.level s.position x spot.way.low spot.way.high same) ∙ spot.reads

        -- no other entry on the way to a position of the span is that of a page
        pub only_here : (wanted : ℕ → Bool) → wanted 0 ≡ false → (k : ℕ) → 1 ≤ k → k ≤ L → k ≢ s.level → is_page wanted k (entry M (path_at L k x)) ≡ false
        only_here wanted zero_not k low high other = ⊎_elim below above (cases_lt k s.level)
          where
            below : k < s.level → is_page wanted k (entry M (path_at L k x)) ≡ false
            below less =
                let none : table_at L root M (path_at L s.level x) ≡ None = ap (table_at L root M) (path_same s.level s.position x spot.way.low spot.way.high same) ∙ no_table in
                ap (is_page wanted k) (below_unused s.level x k low less spot.way.high none) ∙ ap (λ w. w && ((k == 1) || huge 0)) zero_not

            above : s.level ≤ k → is_page wanted k (entry M (path_at L k x)) ≡ false
            above least =
                let more : s.level < k = (let low = spot.way.low in omega (arith, least, other)) in
                let e = entry M (path_at L k x) in
                let plain : huge e ≡ false = ap (λ q. huge (entry M q)) (path_same k s.position x low high (number_up s.level k s.position x spot.way.low least same))
                ∙ above_is_table s.level s.position k spot.way.low more high (λ n. some_not_none s.frame (sym spot.way.leads ∙ n)) in
                let not_one : (k == 1) ≡ false = (let low = spot.way.low in ne_eqb k 1 (λ one. omega (arith, one, more, low))) in
                ap₂ (λ one h. wanted e && (one || h)) not_one plain ∙ and-false (wanted e)

      -- nothing in the span is a wanted page, if the entry is none
      pub span_has_none : (wanted : ℕ → Bool) → wanted 0 ≡ false → 3 ≤ L → is_page wanted s.level s.word ≡ false → HasNoPage L wanted M s.position (s.position / span s.level * span s.level + span s.level)
      span_has_none wanted zero_not three none x k from to low high =
          let start : s.position / span s.level * span s.level ≤ s.position = div-mul-le_self s.position (span s.level) in
          let same = same_number s.level s.position x (omega (arith, start, from)) to in
          ⊎_elim (λ is. subst (λ k. is_page wanted k (entry M (path_at L k x)) ≡ false) (sym is) (ap (is_page wanted s.level) (here x same) ∙ none))
          (only_here x same wanted zero_not k low (omega (arith, high, three))) (cases_eq k s.level)

      -- the next position is on the way again
      pub goes_past : 1 ≤ L → (c : Cursor) → c.position ≡ s.position / span s.level * span s.level + span s.level → StartsAt L root s.frame s.level c → IsOnWay L root M c.position c.level c.frame
      unfolding index
      goes_past some c next starts = ⊎_elim (λ h. subst₂ (IsOnWay L root M c.position) (sym h.1) (sym h.0) (on_root c.position some)) inside starts
        where
          inside : ((c.frame ≡ s.frame) × ((c.level ≡ s.level) × (index s.level c.position ≢ 0))) → IsOnWay L root M c.position c.level c.frame
          inside h = subst₂ (IsOnWay L root M c.position) (sym h.1.0) (sym h.0) (record {
            low = spot.way.low;
            high = spot.way.high;
            leads = ap (table_at L root M) path ∙ spot.way.leads;
          })
            where
              low : 1 ≤ s.level
              low = spot.way.low

              number : c.position / span s.level ≡ s.position / span s.level + 1
              number = ap (λ x. x / span s.level) next ∙ next_number s.level s.position

              some_index : (s.position / span s.level + 1) % 512 ≢ 0
              some_index z = h.1.1 (ap (λ n. n % 512) number ∙ z)

              power : 2 ^ (9 * (s.level + 1 - s.level)) ≡ 512
              power = ap (λ n. 2 ^ (9 * n)) (let e : s.level + 1 - s.level ≡ 1 = omega arith in e)

              up : (x : ℕ) → x / span (s.level + 1) ≡ x / span s.level / 512
              up x = number_of s.level (s.level + 1) x low (omega arith) ∙ ap (λ n. x / span s.level / n) power

              path : path_at L (s.level + 1) c.position ≡ path_at L (s.level + 1) s.position
              path = ⊎_elim
                  (λ less. path_same (s.level + 1) s.position c.position (omega arith) (omega (arith, less))
                  (up c.position ∙ ap (λ n. n / 512) number ∙ no_carry (s.position / span s.level) some_index ∙ sym (up s.position)))
                  (λ most. let is : s.level + 1 ≡ L + 1 = (let high = spot.way.high in omega (arith, most, high)) in
                  ap (λ n. path_at L n c.position) is ∙ no_path c.position ∙ sym (ap (λ n. path_at L n s.position) is ∙ no_path s.position))
                  (cases_lt s.level L)

    pub none_joined : (wanted : ℕ → Bool) (p q r : ℕ) → HasNoPage L wanted M p q → HasNoPage L wanted M q r → HasNoPage L wanted M p r
    none_joined wanted p q r first second x k from to low high = ⊎_elim (λ less. first x k from less low high) (λ least. second x k least to low high) (cases_lt x q)

    -- what is read for a position in a table on the way is the entry
    pub spot_read : (c : Cursor) (s : Spot) → s.position ≡ c.position → s.level ≡ c.level → s.frame ≡ c.frame → s.word ≡ word T c.frame (index c.level c.position)
        → IsOnWay L root M c.position c.level c.frame → IsSpot L root M s
    spot_read c s position level frame is way =
        let here : IsOnWay L root M s.position s.level s.frame = subst (λ p. IsOnWay L root M p s.level s.frame) (sym position) (subst₂ (IsOnWay L root M c.position) (sym level) (sym frame) way) in
        record {
          way = here;
          reads = way_reads s.position s.level s.frame here
              ∙ ap₂ (word T) frame (ap₂ index level position)
              ∙ sym is;
        }
