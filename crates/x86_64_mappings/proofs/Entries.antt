-- The remaining entries of a table: where they come from, the entries after some of them, and the table below the first.
use Rattle.std.proofs.Common.{zero, suc, ◌≡◌, ◌<◌, ◌≤◌, ◌+◌, ◌-◌, ◌*◌, ◌/◌, ◌%◌, ℕ, true, false, cond, List, length, get_or, drop, Some, None, option_map, sym, ap, ◌∙◌, subst, arith, ⊎_elim}
use Rattle.std.proofs.lemmas.Bool.{cases_lt}
use Rattle.std.proofs.lemmas.List.{get_or-drop, length-drop}
use Rattle.std.proofs.lemmas.Nat.{le-div}
use Rattle.std.proofs.Math.Nat.{add-mul, div-eq_of_lt, div-lt_iff_lt-mul, mul-div_left, mul-le-mul_right}
use Rattle.std.proofs.Math.Pow.{pow_mono}
use Rattle.x86_64_model.specs.Entry.{present, huge, address}
use Rattle.x86_64_model.specs.Memory.{Words}
use Rattle.x86_64_model.specs.PageWalk.{read}
use Rattle.x86_64_model.specs.Position.{span, index, position_count}
use Rattle.x86_64_model.specs.Mappings.{Rights, maps_page, granted}
use Rattle.x86_64_model.specs.private.Found.{page_at, found_on, found, span_end, LeadsTo}
use Rattle.x86_64_model.proofs.Lemmas.Mappings.Found.{found_read}
use Rattle.x86_64_model.proofs.Lemmas.Mappings.SpanEnds.{span-next, count-next, span_from, span_end_after, span_end_inside, same_number, next_span}
use Rattle.x86_64_model.proofs.Lemmas.Paths.Pages.{span_pos}
use Rattle.x86_64_model.proofs.Lemmas.Paths.Spans.{number-up}
use Rattle.x86_64_mappings.specs.private.Cursors.{found_by, IsOn}

number_up : (level p : ℕ) → 1 ≤ level → p / span (level + 1) ≡ p / span level / 512
number_up zero p some = absurd (omega arith)
number_up (suc n) p some =
    ap (λ k. p / k) (ap span (let e : suc n + 1 ≡ suc (suc n) = omega arith in e) ∙ span-next (suc n))
    ∙ number-up n p ∙ ap (λ k. p / k / 512) (sym (span-next n))

found_on_by : (T : Words) (x level : ℕ) (r : Rights) (f e : ℕ) → 1 ≤ level → read T f (index level x) ≡ Some e → found_on T x level r f ≡ found_by T x level r e
found_on_by T x zero r f e some is = absurd (omega arith)
found_on_by T x (suc n) r f e some is = found_read T x n r f e is
    ∙ ap (λ k. cond (present e) (cond (maps_page (suc n) e) (Some (page_at x (suc n) r e)) (cond (huge e) None (found_on T x k (granted r e) (address e)))) None)
    (let e : n ≡ suc n - 1 = omega arith in e)

pub index_below : (level p : ℕ) → index level p < 512
unfolding index
index_below level p = omega arith

-- the entries of a table from an index on end within the address space
table_room : (L level p : ℕ) → 1 ≤ level → level ≤ L → p < position_count L → p / span level * span level + (512 - index level p) * span level ≤ position_count L
table_room L zero p low high inside = absurd (omega arith)
table_room L (suc n) p low high inside =
    let k = index (suc n) p in let s = span (suc n) in
    let below : k < 512 = index_below (suc n) p in
    let parts : (k + (512 - k)) * s ≡ k * s + (512 - k) * s = add-mul k (512 - k) s in
    let whole : (k + (512 - k)) * s ≡ 512 * s = ap (λ z. z * s) (omega arith) in
    let table : position_count (suc n) ≡ 512 * s = count-next n ∙ ap (λ z. 512 * z) (sym (span-next n)) in
    let at : p / position_count (suc n) * position_count (suc n) + k * s ≡ p / s * s = next_span n p in
    let most : p / position_count (suc n) * position_count (suc n) + position_count (suc n) ≤ position_count L = ⊎_elim
    (λ l. subst (λ z. p / z * z + z ≤ position_count L) (span-next (suc n)) (span_end_inside L (suc (suc n)) p (omega arith) (omega (arith, l)) inside))
    (λ l. let same : suc n ≡ L = omega (arith, l, high) in
    let none : p / position_count (suc n) ≡ 0 = div-eq_of_lt (subst (λ z. p < position_count z) (sym same) inside) in
    subst (λ z. p / position_count (suc n) * position_count (suc n) + position_count (suc n) ≤ position_count z) same
    (let e : p / position_count (suc n) * position_count (suc n) ≡ 0 * position_count (suc n) = ap (λ z. z * position_count (suc n)) none in omega (arith, e)))
    (cases_lt (suc n) L) in
    omega (arith, parts, whole, table, at, most)

module _ (L : ℕ) (T : Words) (root : ℕ) where
  -- the entries of a table from the one that spans the position on
  pub on_table : (next level : ℕ) (r : Rights) (frame : ℕ) (table : List ℕ) → 1 ≤ level → level ≤ L → next < position_count L
      → LeadsTo L T root next level r frame → T frame ≡ Some table → length table ≡ 512 → IsOn L T root next level r (drop (index level next) table)
  unfolding index
  on_table next level r frame table low high inside leads there size = record {
    low = low;
    high = high;
    inside = omega (arith, inside);
    room = let e : length (drop k table) * s ≡ (512 - k) * s = ap (λ z. z * s) left in let all = table_room L level next low high inside in omega (arith, e, all);
    reads = λ i x few from at.
        let at_index : index level x ≡ k + i = same_index i x few at in
        leads.on x from (inside_table i x few at)
        ∙ found_on_by T x level r frame (get_or (drop k table) i 0) low
        (ap (option_map (λ words. get_or words (index level x) 0)) there ∙ ap Some (ap (λ z. get_or table z 0) at_index ∙ sym (get_or-drop k table i 0)));
  }
    where
      k : ℕ
      k = index level next

      s : ℕ
      s = span level

      left : length (drop k table) ≡ 512 - k
      left = length-drop k table ∙ ap (λ z. z - k) size

      same_index : (i x : ℕ) → i < length (drop k table) → x / s ≡ next / s + i → index level x ≡ k + i
      same_index i x few at = ap (λ z. z % 512) at ∙ (let l = left in omega (arith, l, few))

      inside_table : (i x : ℕ) → i < length (drop k table) → x / s ≡ next / s + i → x < span_end (level + 1) next
      inside_table i x few at =
          let number : x / span (level + 1) ≡ next / span (level + 1) =
          number_up level x low ∙ ap (λ z. z / 512) at ∙ (let l = left in let e : (next / s + i) / 512 ≡ next / s / 512 = omega (arith, l, few) in e) ∙ sym (number_up level next low) in
          subst (λ z. x < z * span (level + 1) + span (level + 1)) number (span_end_after (level + 1) x)

module _ (L : ℕ) (T : Words) (root next level : ℕ) (r : Rights) (rest : List ℕ) (on : IsOn L T root next level r rest) where
  abbrev pub s : ℕ
  s = span level

  pos : 0 < s
  pos = span_pos level

  past_is : (k : ℕ) → (next / s + k) * s ≡ next / s * s + k * s
  past_is k = add-mul (next / s) k s

  pub within : (k : ℕ) → k ≤ length rest → next / s * s + k * s ≤ position_count L
  within k few = let most : k * s ≤ length rest * s = mul-le-mul_right s few in let room = on.room in omega (arith, most, room)

  -- the position past some of them fits
  pub past_fits : L ≤ 5 → (k : ℕ) → k ≤ length rest → next / s * s + k * s ≤ position_count 5
  past_fits five k few =
      let inside = within k few in
      let fits : position_count L ≤ position_count 5 = pow_mono {j = 57} (let e : 12 + 9 * L ≤ 57 = omega (arith, five) in e) in
      omega (arith, inside, fits)

  -- if entries remain, the position is within the address space
  pub next_inside : 0 < length rest → next < position_count L
  next_inside some = let all = within 1 (omega (arith, some)) in let to = span_end_after level next in omega (arith, all, to)

  past_number : (k : ℕ) → (next / s * s + k * s) / s ≡ next / s + k
  past_number k = ap (λ z. z / s) (sym (past_is k)) ∙ mul-div_left (next / s + k) pos

  pub next_before : (k : ℕ) → 1 ≤ k → next < next / s * s + k * s
  next_before k some = let to = span_end_after level next in let one : 1 * s ≤ k * s = mul-le-mul_right s some in omega (arith, to, one)

  -- the entries after the first k
  pub on_past : (k : ℕ) → 1 ≤ k → k ≤ length rest → IsOn L T root (next / s * s + k * s) level r (drop k rest)
  on_past k some few = let p = next / s * s + k * s in record {
    low = on.low;
    high = on.high;
    inside = within k few;
    room =
        let at : p / s * s ≡ p = ap (λ z. z * s) (past_number k) ∙ past_is k in
        let left : length (drop k rest) * s ≡ (length rest - k) * s = ap (λ z. z * s) (length-drop k rest) in
        let parts : (k + (length rest - k)) * s ≡ k * s + (length rest - k) * s = add-mul k (length rest - k) s in
        let whole : (k + (length rest - k)) * s ≡ length rest * s = ap (λ z. z * s) (omega (arith, few)) in
        let room = on.room in omega (arith, at, left, parts, whole, room);
    reads = λ i x less from at.
        let left : length (drop k rest) ≡ length rest - k = length-drop k rest in
        let before = next_before k some in
        on.reads (k + i) x (omega (arith, left, less)) (omega (arith, before, from)) (at ∙ ap (λ z. z + i) (past_number k) ∙ (let e : next / s + k + i ≡ next / s + (k + i) = omega arith in e))
        ∙ ap (found_by T x level r) (sym (get_or-drop k rest i 0));
  }

  -- if nothing is found in the spans of the first k entries, nothing is found before the span of the next
  pub none_before : (k : ℕ) → k ≤ length rest → ((i x : ℕ) → i < k → found_by T x level r (get_or rest i 0) ≡ None)
      → (x : ℕ) → next ≤ x → x < next / s * s + k * s → found L T root x ≡ None
  none_before k few none x from to =
      let y = next / s in
      let low : y ≤ x / s = le-div y x s pos (let start = span_from level next in omega (arith, start, from)) in
      let high : x / s < y + k = (div-lt_iff_lt-mul pos).1 (subst (λ z. x < z) (sym (past_is k)) to) in
      let less : x / s - y < k = omega (arith, low, high) in
      on.reads (x / s - y) x (omega (arith, less, few)) from (omega (arith, low)) ∙ none (x / s - y) x less

  pub first_found : 0 < length rest → found L T root next ≡ found_by T next level r (get_or rest 0 0)
  first_found some = on.reads 0 next some (omega arith) (omega arith)

  -- the walk continues below the first entry if it names a table
  pub leads_below : 0 < length rest → (let e = get_or rest 0 0 in present e ≡ true → maps_page level e ≡ false → huge e ≡ false → LeadsTo L T root next (level - 1) (granted r e) (address e))
  leads_below some there no_page table = let e = get_or rest 0 0 in record {
    on = λ x from to.
        let up : level - 1 + 1 ≡ level = let low = on.low in omega (arith, low) in
        let number : x / s ≡ next / s = same_number level next x (let start = span_from level next in omega (arith, start, from)) (subst (λ z. x < span_end z next) up to) in
        on.reads 0 x some from (number ∙ (let e : next / s ≡ next / s + 0 = omega arith in e))
        ∙ (λ i. cond (there i) (cond (no_page i) (Some (page_at x level r e)) (cond (table i) None (found_on T x (level - 1) (granted r e) (address e)))) None);
  }
