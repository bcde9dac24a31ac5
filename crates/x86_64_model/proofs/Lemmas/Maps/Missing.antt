-- A map is accepted if the supply has a frame for each table that is missing on the page's path.
use Rattle.std.proofs.Common.{suc, ◌≡◌, ◌≢◌, inl, inr, ⊎_elim, ◌<◌, ◌≤◌, ℕ, Bool, true, false, cond, List, [], ◌∷◌, length, bit_or, refl, sym, ap, ◌∙◌, arith}
use Rattle.std.specs.List.{AllByRecursion}
use Rattle.x86_64_model.specs.Conserved.{IsFrame}
use Rattle.x86_64_model.specs.Entry.{IsParentFlags, used, huge}
use Rattle.x86_64_model.specs.Lists.{In}
use Rattle.x86_64_model.specs.MapRule.{AfterMap, map_rule}
use Rattle.x86_64_model.specs.PathMap.{PathMap, entry, put}
use Rattle.x86_64_model.specs.Refusal.{Done}
use Rattle.x86_64_model.proofs.Lemmas.Entries.Bits.{has_or}
use Rattle.x86_64_model.proofs.Lemmas.Lists.All.{all_both}
use Rattle.x86_64_model.proofs.Lemmas.Maps.Accepted.{map_ind}
use Rattle.x86_64_model.proofs.Lemmas.Maps.Down.{Descends, others}
use Rattle.x86_64_model.proofs.Lemmas.Maps.Frames.{flags_or, used_or, used_not_zero, frame_not_huge}
use Rattle.x86_64_model.proofs.Lemmas.Paths.Puts.{cases_path, entry-put_same, entry-put_other}

-- the number of these paths without an entry
abbrev pub missing : PathMap → List (List ℕ) → ℕ
missing M [] = 0
missing M (t ∷ ts) = cond (used (entry M t)) (missing M ts) (suc (missing M ts))

pub missing_few : (M : PathMap) (ts : List (List ℕ)) → missing M ts ≤ length ts
missing_few M [] = omega arith
missing_few M (t ∷ ts) = let few = missing_few M ts in elim (used (entry M t)) as (λ b. cond b (missing M ts) (suc (missing M ts)) ≤ suc (length ts)) [
  | true ↦ omega (arith, few)
  | false ↦ omega (arith, few)
]

-- ---- entries that are used stay so

abbrev pub StaysUsed : PathMap → PathMap → Type 0
StaysUsed M N = (t : List ℕ) → used (entry M t) ≡ true → used (entry N t) ≡ true

pub put_stays : (M : PathMap) (p : List ℕ) (x : ℕ) → (used (entry M p) ≡ true → used x ≡ true) → StaysUsed M (put M p x)
put_stays M p x h t u = ⊎_elim
    (λ is. ap (λ t. used (entry (put M p x) t)) is ∙ ap used (entry-put_same M p x) ∙ h (ap (λ t. used (entry M t)) (sym is) ∙ u))
    (λ n. ap used (entry-put_other M p x t n) ∙ u) (cases_path t p)

no_more : (b c : Bool) (x y : ℕ) → (b ≡ true → c ≡ true) → y ≤ x → cond c y (suc y) ≤ cond b x (suc x)
no_more true true x y h l = l
no_more true false x y h l = absurd (let t : false ≡ true = h refl in cc)
no_more false true x y h l = omega (arith, l)
no_more false false x y h l = omega (arith, l)

fewer : (b c : Bool) (x y : ℕ) → (b ≡ true → c ≡ true) → y < x → cond c y (suc y) < cond b x (suc x)
fewer true true x y h l = l
fewer true false x y h l = absurd (let t : false ≡ true = h refl in cc)
fewer false true x y h l = omega (arith, l)
fewer false false x y h l = omega (arith, l)

module _ (M N : PathMap) (stays : StaysUsed M N) where
  pub missing_no_more : (ts : List (List ℕ)) → missing N ts ≤ missing M ts
  missing_no_more [] = omega arith
  missing_no_more (t ∷ ts) = no_more (used (entry M t)) (used (entry N t)) (missing M ts) (missing N ts) (stays t) (missing_no_more ts)

  -- with one more that is used there are fewer
  pub missing_fewer : (ts : List (List ℕ)) (p : List ℕ) → In ts p → used (entry M p) ≡ false → used (entry N p) ≡ true → missing N ts < missing M ts
  missing_fewer [] p i before after = absurd i
  missing_fewer (t ∷ ts) p (inl is) before after =
      let less = missing_no_more ts in
      let now : missing N (t ∷ ts) ≡ missing N ts = ap (λ b. cond b (missing N ts) (suc (missing N ts))) (ap (λ t. used (entry N t)) is ∙ after) in
      let then : missing M (t ∷ ts) ≡ suc (missing M ts) = ap (λ b. cond b (missing M ts) (suc (missing M ts))) (ap (λ t. used (entry M t)) is ∙ before) in
      omega (arith, less, now, then)
  missing_fewer (t ∷ ts) p (inr i) before after = fewer (used (entry M t)) (used (entry N t)) (missing M ts) (missing N ts) (stays t) (missing_fewer ts p i before after)

-- ---- the way down

module _ (more added : ℕ) (marks : IsParentFlags more) (adds : IsParentFlags added) (q : List ℕ) (e frame : ℕ) where
  marked_used : (x : ℕ) → used x ≡ true → used (bit_or x more) ≡ true
  marked_used x u = used_or x more (used_not_zero x u)

  new_used : (f : ℕ) → IsFrame f → used (bit_or f (bit_or more added)) ≡ true
  new_used f frame = used_or f (bit_or more added) frame.not_zero

  marked_plain : (x : ℕ) → huge x ≡ false → huge (bit_or x more) ≡ false
  marked_plain x h = has_or x more 0x80 marks.not_huge ∙ h

  new_plain : (f : ℕ) → IsFrame f → huge (bit_or f (bit_or more added)) ≡ false
  new_plain f frame = has_or f (bit_or more added) 0x80 (flags_or more added marks adds).not_huge ∙ frame_not_huge f frame.aligned

  -- entries that are used stay so, but for the page's own
  pub map_stays : (r : List ℕ) → r ≢ q → (M : PathMap) (supply : List ℕ) (ps : List (List ℕ)) → Descends M ps q → AllByRecursion IsFrame supply
      → used (entry M r) ≡ true → used (entry (map_rule M supply more added ps q e frame).paths r) ≡ true
  map_stays r n = map_ind more added q e frame (λ M s ps m. AllByRecursion IsFrame s → used (entry M r) ≡ true → used (entry m.paths r) ≡ true)
      (λ M s u fr v. v)
      (λ M s u fr v. ap used (entry-put_other M q e r n) ∙ v)
      (λ M s p ps u h fr v. put_stays M p _ (marked_used _) r v)
      (λ M s p ps d u h m ih fr v. ih fr (put_stays M p _ (marked_used _) r v))
      (λ M p ps u fr v. v)
      (λ M f fs p ps d u m ih fr v. ih fr.1 (put_stays M p _ (λ _. new_used f fr.0) r v))

  put_plain : (r : List ℕ) (M : PathMap) (p : List ℕ) (x : ℕ) → (huge (entry M p) ≡ false → huge x ≡ false) → huge (entry M r) ≡ false → huge (entry (put M p x) r) ≡ false
  put_plain r M p x h v = ⊎_elim
      (λ is. ap (λ r. huge (entry (put M p x) r)) is ∙ ap huge (entry-put_same M p x) ∙ h (ap (λ r. huge (entry M r)) (sym is) ∙ v))
      (λ n. ap huge (entry-put_other M p x r n) ∙ v) (cases_path r p)

  -- and those that aren't huge
  pub map_stays_plain : (r : List ℕ) → r ≢ q → (M : PathMap) (supply : List ℕ) (ps : List (List ℕ)) → Descends M ps q → AllByRecursion IsFrame supply
      → huge (entry M r) ≡ false → huge (entry (map_rule M supply more added ps q e frame).paths r) ≡ false
  map_stays_plain r n = map_ind more added q e frame (λ M s ps m. AllByRecursion IsFrame s → huge (entry M r) ≡ false → huge (entry m.paths r) ≡ false)
      (λ M s u fr v. v)
      (λ M s u fr v. ap huge (entry-put_other M q e r n) ∙ v)
      (λ M s p ps u h fr v. put_plain r M p _ (marked_plain _) v)
      (λ M s p ps d u h m ih fr v. ih fr (put_plain r M p _ (marked_plain _) v))
      (λ M p ps u fr v. v)
      (λ M f fs p ps d u m ih fr v. ih fr.1 (put_plain r M p _ (λ _. new_plain f fr.0) v))

  module _ (ts : List (List ℕ)) where
    -- no parent is huge, those without an entry are among the paths, the page has no entry, and there is a frame for each path without an entry
    pub record IsGoing (M : PathMap) (supply : List ℕ) (ps : List (List ℕ)) : Type 0 where
      pub frames : AllByRecursion IsFrame supply
      pub plain : AllByRecursion (λ p. huge (entry M p) ≡ false) ps
      pub among : AllByRecursion (λ p. used (entry M p) ≡ false → In ts p) ps
      pub unused : used (entry M q) ≡ false
      pub enough : missing M ts ≤ length supply

    -- then the map is accepted, and there still is
    abbrev pub Succeeds : PathMap → List ℕ → List (List ℕ) → AfterMap → Type 0
    Succeeds M s ps m = IsGoing M s ps → (m.answer ≡ Done frame) × (missing m.paths ts ≤ length m.supply)

    goes_on : (M : PathMap) (s t p : List ℕ) (ps : List (List ℕ)) (x : ℕ) → Descends M (p ∷ ps) q → AllByRecursion IsFrame t → missing (put M p x) ts ≤ length t → IsGoing M s (p ∷ ps) → IsGoing (put M p x) t ps
    goes_on M s t p ps x d frames enough going = let same = others more added q e frame M p x ps d.1 in record {
      frames = frames;
      plain = all_both _ _ _ (λ r (h : huge (entry M r) ≡ false) (is : entry (put M p x) r ≡ entry M r). ap huge is ∙ h) ps going.plain.1 same;
      among = all_both _ _ (λ r. used (entry (put M p x) r) ≡ false → In ts r) (λ r (h : used (entry M r) ≡ false → In ts r) (is : entry (put M p x) r ≡ entry M r) u. h (ap used (sym is) ∙ u)) ps going.among.1 same;
      unused = ap used (entry-put_other M p x q d.2) ∙ going.unused;
      enough = enough;
    }

    -- a path without an entry is one of those that are missing
    one_missing : (M : PathMap) (p : List ℕ) → In ts p → used (entry M p) ≡ false → 0 < missing M ts
    unfolding used
    one_missing M p i u = let less = missing_fewer M (put M p 1) (put_stays M p 1 (λ _. refl)) ts p i u (ap used (entry-put_same M p 1)) in omega (arith, less)

    pub map_succeeds : (M : PathMap) (supply : List ℕ) (ps : List (List ℕ)) → Descends M ps q → Succeeds M supply ps (map_rule M supply more added ps q e frame)
    map_succeeds = map_ind more added q e frame Succeeds
        (λ M s u going. absurd (let t : true ≡ false = sym u ∙ going.unused in cc))
        (λ M s u going. (refl, (let less = missing_no_more M (put M q e) (put_stays M q e (λ v. absurd (let t : true ≡ false = sym v ∙ u in cc))) ts in let enough = going.enough in omega (arith, less, enough))))
        (λ M s p ps u h going. absurd (let t : true ≡ false = sym h ∙ going.plain.0 in cc))
        (λ M s p ps d u h m ih going. ih (goes_on M s s p ps _ d going.frames
        (let less = missing_no_more M _ (put_stays M p _ (marked_used _)) ts in let enough = going.enough in omega (arith, less, enough)) going))
        (λ M p ps u going. absurd (let some = one_missing M p (going.among.0 u) u in let enough = going.enough in omega (arith, some, enough)))
        (λ M f fs p ps d u m ih going. ih (goes_on M (f ∷ fs) fs p ps _ d going.frames.1
        (let less = missing_fewer M _ (put_stays M p _ (λ _. new_used f going.frames.0)) ts p (going.among.0 u) u (ap used (entry-put_same M p _) ∙ new_used f going.frames.0) in let enough = going.enough in omega (arith, less, enough)) going))
