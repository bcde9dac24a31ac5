-- KernelTexts: memory is searched for texts segment by segment, chunk by chunk, page by page.
use Rattle.std.proofs.Common.{◌≡◌, ℕ, zero, suc, ◌+◌, ◌-◌, ◌*◌, ◌/◌, ◌≤◌, ◌<◌, ◌==◌, ◌&&◌, Bool, true, false, cond, List, [], ◌∷◌, ◌++◌, Option, None, Some, Result, Ok, length, take, drop, refl, ap, ap₂, sym, ◌∙◌, arith, nat_le, le-leb, eqb-true, append-nil, append_assoc, add-one, drop-drop, take-take}
use Rattle.std.specs.List.{find, flat_map, list_all, range_with_len}
use Rattle.std.specs.Option.{option_map_or}
use Rattle.std.proofs.lemmas.Bool.{and_parts, lt-leb}
use Rattle.std.proofs.iter.Rest.{range_with_len_first, range_with_len_none}
use Rattle.std.proofs.lemmas.List.{drop-take, length-drop, take_all}
use Rattle.x86_64_dump.specs.KernelTexts.{begins_text, line_begins, memory_size, page_count, page_gap, page_texts, segment_texts, text_begins, text_in_page, texts_in, texts_within}
use Rattle.x86_64_dump.specs.Notes.{fitting}
use Rattle.x86_64_dump.specs.Source.{bytes_at}
use Rattle.x86_64_dump.specs.declared.error.Fault.{Fault}
use Rattle.x86_64_dump.specs.declared.kernel_text.KernelText.{KernelText}
use Rattle.x86_64_dump.specs.declared.segment.Segment.{Segment}

-- ---- the text in a page

begins_not : (bytes : List ℕ) → begins_text (0 ∷ bytes) ≡ false
unfolding begins_text
begins_not bytes = refl

-- the text begins nowhere in bytes 0
blank_begins : (at : ℕ) (page : List ℕ) → list_all (λ byte. byte == 0) page ≡ true → begins_text (drop at page) ≡ false
unfolding begins_text
blank_begins zero [] blank = refl
blank_begins (suc at) [] blank = refl
blank_begins zero (byte ∷ bytes) blank =
    let each = and_parts (byte == 0) (list_all (λ byte. byte == 0) bytes) blank in
    ap (λ b. begins_text (b ∷ bytes)) (eqb-true byte 0 each.0) ∙ begins_not bytes
blank_begins (suc at) (byte ∷ bytes) blank = blank_begins at bytes (and_parts (byte == 0) (list_all (λ byte. byte == 0) bytes) blank).1

nowhere : (page : List ℕ) (positions : List ℕ) → list_all (λ byte. byte == 0) page ≡ true → find (text_begins page) positions ≡ None
nowhere page [] blank = refl
nowhere page (at ∷ positions) blank =
    ap (λ b. cond (b && line_begins page at) (Some at) (find (text_begins page) positions)) (blank_begins at page blank) ∙ nowhere page positions blank

-- bytes 0 have no text
pub blank_text : (page : List ℕ) → list_all (λ byte. byte == 0) page ≡ true → text_in_page page ≡ []
blank_text page blank = ap (λ found. option_map_or (λ at. drop at page) found []) (nowhere page (range_with_len 0 (length page)) blank)

-- the positions from one on, of which the first one where the text begins counts
abbrev pub begins_from : (page : List ℕ) → (at : ℕ) → Option ℕ
begins_from page at = find (text_begins page) (range_with_len at (length page - at))

pub begins_further : (page : List ℕ) (at : ℕ) (begins : Bool) → at < length page → begins ≡ text_begins page at → begins ≡ false → begins_from page (at + 1) ≡ begins_from page at
begins_further page at begins less tested none =
    sym (ap (find (text_begins page)) (range_with_len_first at (length page) less)
    ∙ ap (λ b. cond b (Some at) (begins_from page (at + 1))) (sym tested ∙ none))

-- so does the text
text_by : (page : List ℕ) (found : Option ℕ) → found ≡ begins_from page 0 → option_map_or (λ at. drop at page) found [] ≡ text_in_page page
text_by page found first =
    let whole : length page - 0 ≡ length page = omega arith in
    ap (λ found. option_map_or (λ at. drop at page) found []) (first ∙ ap (λ n. find (text_begins page) (range_with_len 0 n)) whole)

pub begins_here : (page : List ℕ) (at : ℕ) (begins : Bool) → at < length page → begins ≡ text_begins page at → begins ≡ true → begins_from page at ≡ begins_from page 0
    → take (length page - at) (drop at page) ≡ text_in_page page
begins_here page at begins less tested is first =
    take_all (length page - at) (drop at page) (let rest = length-drop at page in omega (arith, rest))
    ∙ text_by page (Some at) (sym (ap (find (text_begins page)) (range_with_len_first at (length page) less)
    ∙ ap (λ b. cond b (Some at) (begins_from page (at + 1))) (sym tested ∙ is)) ∙ first)

pub begins_nowhere : (page : List ℕ) (at : ℕ) → length page ≤ at → begins_from page at ≡ begins_from page 0
    → take (length page - length page) (drop (length page) page) ≡ text_in_page page
begins_nowhere page at all first =
    let none : length page - length page ≡ 0 = omega arith in
    ap (λ n. take n (drop (length page) page)) none
    ∙ text_by page None (sym (ap (find (text_begins page)) (range_with_len_none at (length page) all)) ∙ first)

-- ---- pages

-- the texts in the pages behind the first one
behind_first : (page pages offset : ℕ) (bytes : List ℕ) → flat_map (λ page. page_texts (offset + 4096 * page) (bytes_at bytes (4096 * page) 4096)) (range_with_len (page + 1) pages)
    ≡ flat_map (λ page. page_texts (offset + 4096 + 4096 * page) (bytes_at (drop 4096 bytes) (4096 * page) 4096)) (range_with_len page pages)
behind_first page zero offset bytes = refl
behind_first page (suc pages) offset bytes =
    let place : offset + 4096 * (page + 1) ≡ offset + 4096 + 4096 * page = omega arith in
    let counted : 4096 * (page + 1) ≡ 4096 + 4096 * page = omega arith in
    let part : bytes_at bytes (4096 * (page + 1)) 4096 ≡ bytes_at (drop 4096 bytes) (4096 * page) 4096 =
    ap (λ n. take 4096 (drop n bytes)) counted ∙ ap (take 4096) (sym (drop-drop (4096 * page) 4096 bytes)) in
    ap₂ (λ front back. front ++ back) (ap₂ page_texts place part) (behind_first (page + 1) pages offset bytes)

-- the texts in pages are those in the first one, and behind it
first_page : (pages offset : ℕ) (bytes : List ℕ) → texts_in (suc pages) offset bytes ≡ page_texts offset (take 4096 bytes) ++ texts_in pages (offset + 4096) (drop 4096 bytes)
first_page pages offset bytes =
    let place : offset + 4096 * 0 ≡ offset = omega arith in
    ap₂ (λ front back. front ++ back) (ap (λ o. page_texts o (take 4096 bytes)) place) (behind_first 0 pages offset bytes)

pub next_page : (offset at : ℕ) (bytes page behind : List ℕ) (now added all : List KernelText) → 4096 ≤ length bytes → page ≡ take 4096 bytes → behind ≡ drop 4096 bytes → at ≡ offset + 4096
    → added ≡ now ++ page_texts offset page → now ++ texts_in (length bytes / 4096) offset bytes ≡ all → added ++ texts_in (length behind / 4096) at behind ≡ all
next_page offset at bytes page behind now added all long front back place pushed told =
    let left : length behind ≡ length bytes - 4096 = ap length back ∙ length-drop 4096 bytes in
    let count : length bytes / 4096 ≡ suc (length behind / 4096) = omega (arith, left, long) in
    let later = texts_in (length behind / 4096) at behind in
    let step : texts_in (length bytes / 4096) offset bytes ≡ page_texts offset page ++ later =
    ap (λ n. texts_in n offset bytes) count ∙ first_page (length behind / 4096) offset bytes ∙ ap₂ (λ p b. page_texts offset p ++ texts_in (length behind / 4096) (offset + 4096) b) (sym front) (sym back)
    ∙ ap (λ o. page_texts offset page ++ texts_in (length behind / 4096) o behind) (sym place) in
    ap (λ ts. ts ++ later) pushed ∙ append_assoc now (page_texts offset page) later ∙ ap (λ ts. now ++ ts) (sym step) ∙ told

pub no_page : (offset : ℕ) (bytes : List ℕ) (now all : List KernelText) → length bytes < 4096 → now ++ texts_in (length bytes / 4096) offset bytes ≡ all → now ≡ all
no_page offset bytes now all short told =
    let none : length bytes / 4096 ≡ 0 = omega (arith, short) in
    sym (append-nil now) ∙ ap (λ n. now ++ texts_in n offset bytes) (sym none) ∙ told

-- ---- chunks of pages

-- only the bytes of the pages count
taken : (pages offset : ℕ) (bytes : List ℕ) → texts_in pages offset (take (4096 * pages) bytes) ≡ texts_in pages offset bytes
taken zero offset bytes = refl
taken (suc pages) offset bytes =
    let counted : 4096 * suc pages ≡ 4096 + 4096 * pages = omega arith in
    first_page pages offset (take (4096 * suc pages) bytes)
    ∙ ap₂ (λ page behind. page_texts offset page ++ texts_in pages (offset + 4096) behind)
    (take-take 4096 (4096 * suc pages) bytes (omega arith))
    (ap (λ n. drop 4096 (take n bytes)) counted ∙ drop-take 4096 (4096 * pages) bytes)
    ∙ ap (λ ts. page_texts offset (take 4096 bytes) ++ ts) (taken pages (offset + 4096) (drop 4096 bytes))
    ∙ sym (first_page pages offset bytes)

pub chunk_added : (part file : List ℕ) (offset pages size : ℕ) (old new : List KernelText) → size ≡ 4096 * pages → length part ≡ size → part ≡ bytes_at file offset size
    → new ≡ old ++ texts_in (length part / 4096) offset part → old ++ texts_in pages offset (drop offset file) ≡ new
chunk_added part file offset pages size old new sized long read pushed =
    let counted : length part / 4096 ≡ pages = omega (arith, sized, long) in
    ap (λ ts. old ++ ts) (sym (taken pages offset (drop offset file)))
    ∙ ap (λ n. old ++ texts_in pages offset (take n (drop offset file))) (sym sized)
    ∙ ap₂ (λ n bytes. old ++ texts_in n offset bytes) (sym counted) (sym read)
    ∙ sym pushed

-- the texts in some pages, and in those behind
in_turn : (done more offset : ℕ) (bytes : List ℕ) → texts_in (done + more) offset bytes ≡ texts_in done offset bytes ++ texts_in more (offset + 4096 * done) (drop (4096 * done) bytes)
in_turn zero more offset bytes =
    let all : zero + more ≡ more = omega arith in
    let none : 4096 * zero ≡ 0 = omega arith in
    let start : offset + 4096 * zero ≡ offset = omega arith in
    ap (λ n. texts_in n offset bytes) all ∙ ap₂ (λ o n. texts_in more o (drop n bytes)) (sym start) (sym none)
in_turn (suc done) more offset bytes =
    let front = page_texts offset (take 4096 bytes) in
    let middle = texts_in done (offset + 4096) (drop 4096 bytes) in
    let all : suc done + more ≡ suc (done + more) = omega arith in
    let place : offset + 4096 + 4096 * done ≡ offset + 4096 * suc done = omega arith in
    let counted : 4096 + 4096 * done ≡ 4096 * suc done = omega arith in
    ap (λ n. texts_in n offset bytes) all
    ∙ first_page (done + more) offset bytes
    ∙ ap (λ ts. front ++ ts) (in_turn done more (offset + 4096) (drop 4096 bytes))
    ∙ sym (append_assoc front middle (texts_in more (offset + 4096 + 4096 * done) (drop (4096 * done) (drop 4096 bytes))))
    ∙ ap (λ ts. ts ++ texts_in more (offset + 4096 + 4096 * done) (drop (4096 * done) (drop 4096 bytes))) (sym (first_page done offset bytes))
    ∙ ap₂ (λ o bs. texts_in (suc done) offset bytes ++ texts_in more o bs) place (drop-drop (4096 * done) 4096 bytes ∙ ap (λ n. drop n bytes) counted)

pub chunk_passed : (file : List ℕ) (offset done more at : ℕ) (old now added : List KernelText) → at ≡ offset + 4096 * done → now ≡ old ++ texts_in done offset (drop offset file)
    → ◌≡◌ {A = Result (List KernelText) Fault} (Ok (now ++ texts_in more at (drop at file))) (Ok added) → added ≡ old ++ texts_in (done + more) offset (drop offset file)
chunk_passed file offset done more at old now added place so_far told =
    let pages = texts_in done offset (drop offset file) in
    let next = texts_in more at (drop at file) in
    let read : now ++ next ≡ added = cc in
    let same : texts_in more (offset + 4096 * done) (drop (4096 * done) (drop offset file)) ≡ next =
    ap (texts_in more (offset + 4096 * done)) (drop-drop (4096 * done) offset file) ∙ ap (λ n. texts_in more n (drop n file)) (sym place) in
    sym read ∙ ap (λ ts. ts ++ next) so_far ∙ append_assoc old pages next
    ∙ ap (λ ts. old ++ (pages ++ ts)) (sym same)
    ∙ ap (λ ts. old ++ ts) (sym (in_turn done more offset (drop offset file)))

-- ---- segments

-- the pages of a segment
pub pages_of : (file : List ℕ) (segment : Segment) (long size gap pages : ℕ) → long ≡ length file → size ≡ memory_size long segment → gap ≡ page_gap segment → pages ≡ (size - gap) / 4096
    → texts_in pages (segment.offset + gap) (drop (segment.offset + gap) file) ≡ segment_texts file segment
unfolding segment_texts
pages_of file segment long size gap pages counted sized gapped paged =
    let all : pages ≡ page_count (length file) segment =
    paged ∙ ap₂ (λ s g. (s - g) / 4096) (sized ∙ ap (λ n. memory_size n segment) counted) gapped in
    ap₂ (λ n g. texts_in n (segment.offset + g) (drop (segment.offset + g) file)) all gapped

pub none_in_segment : (file : List ℕ) (segment : Segment) (at pages : ℕ) (texts : List KernelText) → texts_in pages at (drop at file) ≡ segment_texts file segment → pages ≡ 0
    → ◌≡◌ {A = Result (List KernelText) Fault} (Ok (texts ++ segment_texts file segment)) (Ok texts)
none_in_segment file segment at pages texts all none =
    ap Ok (ap (λ ts. texts ++ ts) (sym all ∙ ap (λ n. texts_in n at (drop at file)) none) ∙ append-nil texts)

-- if there is room for the next segment
pub segment_passed : (file : List ℕ) (segments : List Segment) (i room size rest : ℕ) (segment : Segment) (texts added all : List KernelText) → drop i segments ≡ segment ∷ drop (suc i) segments
    → size ≡ memory_size (length file) segment → size ≤ room → rest ≡ room - size
    → ◌≡◌ {A = Result (List KernelText) Fault} (Ok (texts ++ segment_texts file segment)) (Ok added) → texts ++ texts_within room file (drop i segments) ≡ all
    → added ++ texts_within rest file (drop (i + 1) segments) ≡ all
segment_passed file segments i room size rest segment texts added all here sized fits left told before =
    let own = segment_texts file segment in
    let later = texts_within rest file (drop (suc i) segments) in
    let more : texts ++ own ≡ added = cc in
    let open_room : nat_le (memory_size (length file) segment) room ≡ true = ap (λ n. nat_le n room) (sym sized) ∙ le-leb _ _ fits in
    let step : texts_within room file (segment ∷ drop (suc i) segments) ≡ own ++ later =
    ap (λ b. flat_map (segment_texts file) (cond b (segment ∷ fitting (room - memory_size (length file) segment) (memory_size (length file)) (drop (suc i) segments)) [])) open_room
    ∙ ap (λ n. own ++ texts_within (room - n) file (drop (suc i) segments)) (sym sized)
    ∙ ap (λ n. own ++ texts_within n file (drop (suc i) segments)) (sym left) in
    ap (λ items. items ++ texts_within rest file (drop (i + 1) segments)) (sym more)
    ∙ append_assoc texts own (texts_within rest file (drop (i + 1) segments))
    ∙ ap (λ n. texts ++ (own ++ texts_within rest file (drop n segments))) (add-one i)
    ∙ ap (λ items. texts ++ items) (sym step)
    ∙ ap (λ after. texts ++ texts_within room file after) (sym here)
    ∙ before

-- if there is none
pub segment_left_out : (file : List ℕ) (segments : List Segment) (i room size : ℕ) (segment : Segment) (texts all : List KernelText) → drop i segments ≡ segment ∷ drop (suc i) segments
    → size ≡ memory_size (length file) segment → room < size → texts ++ texts_within room file (drop i segments) ≡ all → ◌≡◌ {A = Result (List KernelText) Fault} (Ok all) (Ok texts)
segment_left_out file segments i room size segment texts all here sized full before =
    let closed : nat_le (memory_size (length file) segment) room ≡ false = ap (λ n. nat_le n room) (sym sized) ∙ lt-leb _ _ full in
    let none : texts_within room file (segment ∷ drop (suc i) segments) ≡ [] =
    ap (λ b. flat_map (segment_texts file) (cond b (segment ∷ fitting (room - memory_size (length file) segment) (memory_size (length file)) (drop (suc i) segments)) [])) closed in
    ap Ok (sym before ∙ ap (λ after. texts ++ texts_within room file after) here ∙ ap (λ items. texts ++ items) none ∙ append-nil texts)

-- behind the last segment
pub segments_passed : (file : List ℕ) (segments : List Segment) (i room : ℕ) (texts all : List KernelText) → drop i segments ≡ [] → texts ++ texts_within room file (drop i segments) ≡ all
    → ◌≡◌ {A = Result (List KernelText) Fault} (Ok all) (Ok texts)
segments_passed file segments i room texts all none before = ap Ok (sym before ∙ ap (λ after. texts ++ texts_within room file after) none ∙ append-nil texts)
