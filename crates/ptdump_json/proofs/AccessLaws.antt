-- What a processor does with an access is the same in words that agree on the way, and by settings with at most 52 bits.
use Rattle.std.proofs.Common.{◌≡◌, ◌∙◌, ◌+◌, ◌≤◌, ◌<◌, ◌^◌, ◌%◌, ◌&&◌, ◌||◌, ◌==◌, ℕ, Bool, true, false, not, cond, min, nat_le, bit_and, Option, Some, None, is_some, refl, sym, ap, arith}
use Rattle.std.proofs.Math.Nat.{min-eq_left, min-eq_right}
use Rattle.std.proofs.Math.Pow.{pow_mono}
use Rattle.std.proofs.lemmas.Bool.{leb-true}
use Rattle.std.proofs.lemmas.Bool.Decides.{nat_tests}
use Rattle.std.specs.List.{last_or}
use Rattle.x86_64_access.specs.Accesses.{access_of, controls_of}
use Rattle.x86_64_access.specs.declared.controls.Controls.{Controls as Settings}
use Rattle.x86_64_access.specs.declared.request.Access.{Access as Asked}
use Rattle.x86_64_dump.specs.Reached.{SameBelow}
use Rattle.x86_64_dump.proofs.SameMappings.{same_steps}
use Rattle.x86_64_model.specs.Access.{Access, Arrives, Faults, NoMemory, access, access_allowed, code, ends_by, low_bits, outcome, reserved, reserved_by_some, steps_from, until}
use Rattle.x86_64_model.specs.Steps.{Step, steps, rights_in}
use Rattle.x86_64_model.specs.Entry.{present, huge, no_execute, address}
use Rattle.x86_64_model.specs.Mappings.{Rights, maps_page}
use Rattle.x86_64_model.specs.Memory.{Words}
use Rattle.x86_64_model.specs.PageWalk.{page_walk, page_start}
use Rattle.x86_64_model.specs.Position.{span}
use Rattle.x86_64_model.proofs.Lemmas.Entries.Words.{address_within}
use Rattle.ptdump_json.specs.Accesses.{access_text, asked_text, is_arrived, is_access_there, limited, outcome_in}
use Rattle.ptdump_json.specs.Walks.{line}
use Rattle.ptdump_json.specs.declared.options.ControlsSource.{ControlsSource}

-- ---- words that agree on the way

pub same_outcome : (c : Settings) (a : Asked) (L : ℕ) (T W : Words) (root p : ℕ) → SameBelow L T W root → outcome_in L T root p c a ≡ outcome_in L W root p c a
unfolding access steps_from
same_outcome c a L T W root p same =
    let settings = controls_of c in
    ap (λ read. outcome settings (access_of a) p root (until (λ s. reserved settings s.level s.word) read)) (same_steps T W p L root same)

pub same_asked : (c : Settings) (source : ControlsSource) (asked : Option Asked) (L : ℕ) (T W : Words) (root p : ℕ) → SameBelow L T W root
    → asked_text c source asked L T root p ≡ asked_text c source asked L W root p
same_asked c source None L T W root p same = refl
same_asked c source (Some a) L T W root p same = ap (λ o. line (access_text a c source o)) (same_outcome c a L T W root p same)

pub same_there : (c : Settings) (asked : Option Asked) (L : ℕ) (T W : Words) (root p : ℕ) → page_walk L T root p ≡ page_walk L W root p → SameBelow L T W root
    → is_access_there c asked L T root p ≡ is_access_there c asked L W root p
same_there c None L T W root p walks same = ap is_some walks
same_there c (Some a) L T W root p walks same = ap is_arrived (same_outcome c a L T W root p same)

-- ---- at most 52 bits of physical addresses

same_bits : (bits a : ℕ) → a < 2 ^ 52 → nat_le (2 ^ min bits 52) a ≡ nat_le (2 ^ bits) a
same_bits bits a low = by (nat_le bits 52) refl
  where
    by : (b : Bool) → nat_le bits 52 ≡ b → nat_le (2 ^ min bits 52) a ≡ nat_le (2 ^ bits) a
    by true few = ap (λ m. nat_le (2 ^ m) a) (min-eq_left (leb-true bits 52 few))
    by false many =
        let more : 52 ≤ bits = grind (arith, nat_tests) in
        let high : 2 ^ 52 ≤ 2 ^ bits = pow_mono more in
        let neither : nat_le (2 ^ 52) a ≡ false = grind (arith, nat_tests) in
        let either : nat_le (2 ^ bits) a ≡ false = grind (arith, nat_tests) in
        ap (λ m. nat_le (2 ^ m) a) (min-eq_right more) ∙ neither ∙ sym either

pub limited_reserved : (c : Settings) (level e : ℕ) → reserved (controls_of (limited c)) level e ≡ reserved (controls_of c) level e
unfolding reserved
limited_reserved c level e =
    ap (λ b. reserved_by_some (controls_of c) level e || b || (huge e && (nat_le 4 level || not (bit_and e (low_bits level) == 0))) || (no_execute e && not c.no_execute))
    (same_bits c.physical_bits (address e) (address_within e))

pub limited_access : (c : Settings) (L : ℕ) (T : Words) (root p : ℕ) (a : Access) → access L (controls_of (limited c)) T root p a ≡ access L (controls_of c) T root p a
unfolding access steps_from
limited_access c L T root p a =
    let few = controls_of (limited c) in
    (λ i. outcome few a p root (until (λ s. limited_reserved c s.level s.word i) (steps T p L root)))
    ∙ (let read = steps_from (controls_of c) T p L root in by (rights_in read) (last_or None read))
  where
    by : (r : Rights) (o : Option Step) → ends_by (controls_of (limited c)) a p r root o ≡ ends_by (controls_of c) a p r root o
    by r None = refl
    by r (Some s) = ap (λ bad. cond (not (present s.word)) (Faults (code (controls_of c) a false false) s.level)
        (cond bad (Faults (code (controls_of c) a true true) s.level)
        (cond (not (maps_page s.level s.word)) (NoMemory (address s.word))
        (cond (not (access_allowed (controls_of c) a r)) (Faults (code (controls_of c) a true false) s.level)
        (Arrives (page_start s.level s.word + p % span s.level))))))
        (limited_reserved c s.level s.word)
