-- FileParts: a part of a file that was read at once, and a frame in it.
use Rattle.std.proofs.Common.{◌≡◌, ◌+◌, ◌-◌, ◌≤◌, ℕ, true, leb-true, nat_le, List, length, take, drop, sym, ap, ◌∙◌, arith, take-take, drop-drop, length-take}
use Rattle.std.proofs.lemmas.Bool.{and_parts}
use Rattle.std.proofs.lemmas.List.{drop-take}
use Rattle.x86_64_dump.specs.Source.{bytes_at}
use Rattle.x86_64_dump.specs.private.FileParts.{Part, has_frame_at}

pub placed : (part : Part) (offset : ℕ) → has_frame_at part offset ≡ true → (part.start ≤ offset) × (offset + 4096 ≤ part.start + length part.bytes)
placed part offset has =
    let each = and_parts (nat_le part.start offset) (nat_le (offset + 4096) (part.start + length part.bytes)) has in
    (leb-true _ _ each.0, leb-true _ _ each.1)

pub frame_within : (bytes : List ℕ) (start offset count : ℕ) → (start ≤ offset) × (offset + 4096 ≤ start + length (take count bytes))
    → let at = offset - start in take (at + 4096 - at) (drop at bytes) ≡ bytes_at (take count bytes) at 4096
frame_within bytes start offset count place =
    let at = offset - start in
    let few : length (take count bytes) ≤ count = omega (arith, length-take count bytes) in
    let long : at + 4096 - at ≡ 4096 = omega arith in
    let rest : at + (count - at) ≡ count = omega (arith, place.0, place.1, few) in
    ap (λ n. take n (drop at bytes)) long
    ∙ sym (take-take 4096 (count - at) (drop at bytes) (omega (arith, place.0, place.1, few)))
    ∙ ap (take 4096) (sym (drop-take at (count - at) bytes) ∙ ap (λ n. drop at (take n bytes)) rest)

pub frame_shown : (file bytes : List ℕ) (start offset count : ℕ) → take count bytes ≡ bytes_at file start (length (take count bytes))
    → (start ≤ offset) × (offset + 4096 ≤ start + length (take count bytes))
    → let at = offset - start in take (at + 4096 - at) (drop at bytes) ≡ bytes_at file offset 4096
frame_shown file bytes start offset count is place =
    let at = offset - start in
    let size = length (take count bytes) in
    let few : size ≤ count = omega (arith, length-take count bytes) in
    let inside : at + 4096 ≤ size = omega (arith, place.0, place.1) in
    let same : start + at ≡ offset = omega (arith, place.0) in
    let long : at + 4096 - at ≡ 4096 = omega arith in
    let front : take (at + 4096) bytes ≡ take (at + 4096) (drop start file) =
    sym (take-take (at + 4096) count bytes (omega (arith, few, inside))) ∙ ap (take (at + 4096)) is ∙ take-take (at + 4096) size (drop start file) inside in
    ap (λ n. take n (drop at bytes)) long ∙ sym (drop-take at 4096 bytes) ∙ ap (drop at) front ∙ drop-take at 4096 (drop start file)
    ∙ ap (take 4096) (drop-drop at start file ∙ ap (λ n. drop n file) same)
