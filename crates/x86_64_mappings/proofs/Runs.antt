-- Runs of entries of level one with equal page bits: they map pages without a gap and with equal rights, or map nothing.
use Rattle.std.proofs.Common.{suc, ◌≡◌, ◌<◌, ◌≤◌, ◌+◌, ◌-◌, ◌*◌, ◌==◌, ◌&&◌, ℕ, not, cond, true, false, List, [], ◌∷◌, ◌++◌, length, get_or, take, drop, filter, None, refl, sym, ap, ap₂, ◌∙◌, subst, arith, bit_and, eq-eqb, eqb-true}
use Rattle.std.specs.List.{prefix_len}
use Rattle.std.proofs.lemmas.List.{get_or-take, length-drop, take_rest}
use Rattle.std.proofs.lemmas.List.Folds.{length-prefix_len}
use Rattle.std.proofs.lemmas.List.Sums.{prefix_len_passes, prefix_len-le-length}
use Rattle.std.proofs.lemmas.Nat.{and_assoc}
use Rattle.x86_64_model.specs.Entry.{has, present}
use Rattle.x86_64_model.specs.Position.{span}
use Rattle.x86_64_model.specs.Mappings.{Rights, granted}
use Rattle.x86_64_model.specs.private.Found.{page_from}
use Rattle.x86_64_mappings.specs.Wanted.{Asked, is_wanted}
use Rattle.x86_64_mappings.specs.private.Extents.{AreWhole}
use Rattle.x86_64_mappings.specs.private.Runs.{page_mask, page_bits, has_page_bits}
use Rattle.x86_64_mappings.specs.private.Targets.{asked_by, asked_on, mappings_at}
use Rattle.x86_64_mappings.proofs.Tables.{by_nothing}
use Rattle.x86_64_mappings.proofs.Visited.{small_page, small_nothing}

-- ---- flags among the page bits

has_kept : (e m : ℕ) → bit_and page_mask m ≡ m → has e m ≡ has (page_bits e) m
unfolding has
has_kept e m among = ap (λ n. bit_and e n == m) (sym among) ∙ ap (λ n. n == m) (sym (and_assoc m e page_mask))

module _ (e f : ℕ) (alike : page_bits e ≡ page_bits f) where
  has_alike : (m : ℕ) → bit_and page_mask m ≡ m → has e m ≡ has f m
  has_alike m among = has_kept e m among ∙ ap (λ n. has n m) alike ∙ sym (has_kept f m among)

  present_alike : present e ≡ present f
  present_alike = has_alike 0x1 refl

  granted_alike : (r : Rights) → granted r e ≡ granted r f
  granted_alike r = λ i. record {
    write = r.write && has_alike 0x2 refl i;
    user = r.user && has_alike 0x4 refl i;
    execute = r.execute && not (has_alike 0x8000_0000_0000_0000 refl i);
  }

-- ---- runs

abbrev pub AreAlike : (entry : ℕ) → (run : List ℕ) → Type 0
AreAlike e run = (k : ℕ) → k < length run → page_bits (get_or run k 0) ≡ page_bits e

-- a run begins with the first entry
pub run_some : (words : List ℕ) → 0 < length words → 0 < prefix_len (has_page_bits (get_or words 0 0)) words
run_some [] some = absurd (omega arith)
run_some (e ∷ rest) some = subst (λ b. 0 < cond b (1 + prefix_len (has_page_bits e) rest) 0) (sym (eq-eqb (page_bits e) (page_bits e) refl)) (omega arith)

-- a run lies within the entries
pub run_within : (words : List ℕ) (i f n : ℕ) → i < length words → n ≡ prefix_len (has_page_bits f) (take (length words - i) (drop i words)) → i + n ≤ length words
run_within words i f n less is =
    let past = ap (prefix_len (has_page_bits f)) (take_rest words i) in
    let most = prefix_len-le-length (has_page_bits f) (drop i words) in
    let left = length-drop i words in
    omega (arith, is, past, most, left, less)

pub run_alike : (e : ℕ) (words : List ℕ) → AreAlike e (take (prefix_len (has_page_bits e) words) words)
run_alike e words k less =
    let n = prefix_len (has_page_bits e) words in
    let within : k < n = omega (arith, less, length-prefix_len (has_page_bits e) words) in
    ap page_bits (get_or-take n words k 0 within) ∙ eqb-true _ _ (prefix_len_passes (has_page_bits e) words k 0 within)

pub run_whole : (asked : Asked) (s b : ℕ) (r : Rights) (e : ℕ) (run : List ℕ) → asked.wanted ≡ None → present e ≡ true → AreAlike e run
    → s + length run * 4096 ≡ b → AreWhole s b (granted r e) (asked_on asked 1 s r run)
run_whole asked s b r e [] every there alike end = omega (arith, end)
run_whole asked s b r e (f ∷ run) every there alike end =
    let first : page_bits f ≡ page_bits e = alike 0 (omega arith) in
    let page : asked_by asked 1 s r f ≡ page_from s 1 r f ∷ [] =
    ap (λ t. filter (is_wanted asked.wanted) (mappings_at asked.words 1 s r f t)) (sym (small_page f (present_alike f e first ∙ there)))
    ∙ ap (λ wanted. filter (is_wanted wanted) (page_from s 1 r f ∷ [])) every in
    subst (λ ms. AreWhole s b (granted r e) (ms ++ asked_on asked 1 (s + span 1) r run)) (sym page)
    (refl, omega arith, granted_alike f e first r, run_whole asked (s + 4096) b r e run every there (λ k less. alike (suc k) (omega (arith, less))) (omega (arith, end)))

pub run_nothing : (asked : Asked) (s : ℕ) (r : Rights) (e : ℕ) (run : List ℕ) → present e ≡ false → AreAlike e run → asked_on asked 1 s r run ≡ []
run_nothing asked s r e [] absent alike = refl
run_nothing asked s r e (f ∷ run) absent alike =
    ap₂ (λ ms ns. ms ++ ns) (by_nothing asked 1 s r f (small_nothing f (present_alike f e (alike 0 (omega arith)) ∙ absent)))
    (run_nothing asked (s + span 1) r e run absent (λ k less. alike (suc k) (omega (arith, less))))
