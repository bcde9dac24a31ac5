-- Fields are taken from the front of a line.
use Rattle.std.proofs.Common.{◌≡◌, ◌≢◌, ◌<◌, ◌==◌, ℕ, refl, arith, sym, ap, ◌∙◌, inl, inr, true, false, List, [], ◌∷◌, ◌++◌, length, drop, get_or, Some, None, lit<, filter}
use Rattle.std.specs.List.{All}
use Rattle.std.specs.Str.Pattern.{FindsCharPrefix, CutsPrefixes, IsFullyTrimmed}
use Rattle.std.proofs.lemmas.Bool.{eqb-true}
use Rattle.std.proofs.lemmas.Bool.Decides.{eqb_tells}
use Rattle.std.proofs.lemmas.List.Elements.{All-from_get_or}
use Rattle.std.proofs.lemmas.List.Splits.{slice_split_none, slice_split_at}
use Rattle.std.proofs.lemmas.Str.{encode_ascii}
use Rattle.std.proofs.lemmas.Str.Pattern.{drop_at_char}
use Rattle.pagetab_engine.specs.Fields.{is_space, has_bytes, fields_of}

-- a space in front changes no field
pub space_first : (xs : List ℕ) → fields_of (32 ∷ xs) ≡ fields_of xs
unfolding fields_of
space_first xs = refl

no_fields : fields_of [] ≡ []
unfolding fields_of
no_fields = refl

-- an empty text has no field
pub fields_empty : (text : List ℕ) → true ≡ (length text == 0) → fields_of text ≡ []
fields_empty [] none = no_fields
fields_empty (byte ∷ bytes) none = absurd (let e : length (byte ∷ bytes) ≡ 0 = eqb-true _ _ (sym none) in omega arith)

-- all the spaces in front change no field
pub fields_trimmed : (line cuts rest : List ℕ) → CutsPrefixes (FindsCharPrefix 32) line cuts rest → fields_of line ≡ fields_of rest
fields_trimmed line [] rest same = ap fields_of (sym same)
fields_trimmed line (n ∷ cuts) rest (m, before, space, is) =
    let split : m ≡ 32 ∷ drop n m = drop_at_char 32 m 0 n space (lit< tt) in
    fields_trimmed line cuts m before ∙ ap fields_of split ∙ space_first (drop n m) ∙ ap fields_of (sym is)

-- a trimmed text begins with no space
pub no_space_first : (rest : List ℕ) → IsFullyTrimmed (FindsCharPrefix 32) rest → (xs : List ℕ) → rest ≢ 32 ∷ xs
no_space_first rest (None, none, u) xs = λ e. none xs (e ∙ ap (λ space. space ++ xs) (sym (encode_ascii 32 (lit< tt))))
no_space_first rest (Some n, space, empty) xs = λ e. absurd (let ends = space.ends in omega arith)

not_space : (byte : ℕ) → byte ≢ 32 → is_space byte ≡ false
not_space byte other = elim (eqb_tells byte 32) [ inl space ↦ absurd (other space.1) | inr differs ↦ differs.0 ]

no_spaces : (xs : List ℕ) → ((i : ℕ) → i < length xs → get_or xs i 0 ≢ 32) → All (λ byte. is_space byte ≡ false) xs
no_spaces xs none = All-from_get_or (λ byte. is_space byte ≡ false) xs 0 (λ i small. not_space (get_or xs i 0) (none i small))

-- a text without spaces is a field
pub fields_last : (byte : ℕ) (bytes : List ℕ) → ((i : ℕ) → i < length (byte ∷ bytes) → get_or (byte ∷ bytes) i 0 ≢ 32) → fields_of (byte ∷ bytes) ≡ (byte ∷ bytes) ∷ []
unfolding fields_of
fields_last byte bytes none = ap (filter has_bytes) (slice_split_none is_space (byte ∷ bytes) (no_spaces (byte ∷ bytes) none))

-- the text before the first space is a field
pub fields_first : (byte : ℕ) (bytes rest : List ℕ) → ((i : ℕ) → i < length (byte ∷ bytes) → get_or (byte ∷ bytes) i 0 ≢ 32)
    → fields_of ((byte ∷ bytes) ++ (32 ∷ rest)) ≡ (byte ∷ bytes) ∷ fields_of rest
unfolding fields_of
fields_first byte bytes rest none = ap (filter has_bytes) (slice_split_at is_space (byte ∷ bytes) 32 rest (no_spaces (byte ∷ bytes) none) refl)

-- this for a trimmed text, whose first part has bytes
pub first_field : (text field rest : List ℕ) → ((xs : List ℕ) → text ≢ 32 ∷ xs) → text ≡ field ++ (32 ∷ rest) → ((i : ℕ) → i < length field → get_or field i 0 ≢ 32)
    → fields_of text ≡ field ∷ fields_of rest
first_field text [] rest trimmed split none = absurd (trimmed rest split)
first_field text (byte ∷ bytes) rest trimmed split none = ap fields_of split ∙ fields_first byte bytes rest none

pub last_field : (text : List ℕ) → false ≡ (length text == 0) → ((i : ℕ) → i < length text → get_or text i 0 ≢ 32) → fields_of text ≡ text ∷ fields_of []
last_field [] some none = absurd cc
last_field (byte ∷ bytes) some none = fields_last byte bytes none ∙ ap (λ fs. (byte ∷ bytes) ∷ fs) (sym no_fields)
