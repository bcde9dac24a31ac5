use Rattle.std.proofs.Common.{◌≡◌, ◌≤◌, ◌<◌, ℕ, true, ◌+◌, ◌-◌, ◌*◌, ◌^◌, drop, ◌++◌, ◌∷◌, List, [], Some, length, map, set, ◌∙◌, sym, ap, ap₂, subst, arith}
use Rattle.std.proofs.Math.Seq.{set-append_seam}
use Rattle.std.proofs.lemmas.List.{map_more, map_push, take_all, take_rest, length-drop}
use Rattle.std.proofs.lemmas.List.Elements.{All-take, All-drop}
use Rattle.std.proofs.lemmas.List.FromFn.{map-range_with_len_more}
use Rattle.x86_64_dump.specs.Dump.{words_of_dump}
use Rattle.x86_64_dump.specs.Opened.{holds, opened}
use Rattle.x86_64_dump.specs.Loaded.{up_to}
use Rattle.x86_64_dump.specs.private.FrameNumbers.{words_numbered}
use Rattle.x86_64_dump.proofs.Places.{number_from}
use Rattle.x86_64_dump.proofs.tables.loading.tables_of.Goals as goal

pub fill_table-requires-clause-there : goal.fill_table-requires-clause-there
fill_table-requires-clause-there g c =
    let Held : ℕ → Type 0 = λ n. holds g.S.ByteSource.size c.args.dump.now (n * 4096) ≡ true in
    subst Held (sym (number_from c.args.numbers.now c.loop-i.i)) (c.requires.there c.loop-i.i 0 c.loop-i-test.true)

pub loop-i-preserved : goal.loop-i-preserved
loop-i-preserved g c = record {
  len = c.push_reserved.ensures.len ∙ ap (λ n. n + 1) c.loop-i.invariant.len;
  part = c.in_ok-fill_table.ensures.part;
  room = let P : ℕ → Type 0 = λ n. length c.args.numbers.now ≤ n in subst P (sym c.push_reserved.ensures.capacity) c.loop-i.invariant.room;
  tables = λ known.
      let W = words_of_dump (opened g.S.ByteSource.bytes c.args.dump.now) in
      let numbers = c.args.numbers.now in
      let read = c.in_ok-fill_table.ensures.words known ∙ ap (words_numbered W) (number_from numbers c.loop-i.i) in
      let old = c.loop-i.tables.items in
      let table = c.fill_table.new.table in
      let written : set c.push_reserved.new.self.items c.loop-i.i table ≡ old ++ table ∷ [] =
      ap (λ items. set items c.loop-i.i table) c.push_reserved.ensures.items
      ∙ ap (λ at. set (old ++ c.new.result ∷ []) at table) (sym c.loop-i.invariant.len ∙ c.loop-i.tables.ok.0) ∙ set-append_seam old c.new.result [] table in
      ap (map Some) written ∙ map_push Some old table
      ∙ ap₂ (λ front last. front ++ last ∷ []) (c.loop-i.invariant.tables known) read
      ∙ sym (map_more (words_numbered W) numbers c.loop-i.i 0 c.loop-i-test.true);
  told =
      let Told : List ℕ → Type 0 = g.G.Progress.Told c.args.progress.now c.tables.new.self in
      subst Told (sym (map-range_with_len_more (λ i. i + 1) 0 c.loop-i.i c.loop-i.i (omega arith)))
      (g.met.G.Progress.both c.args.progress.now c.loop-i.progress c.tables.new.self (up_to c.loop-i.i) ((c.loop-i.i + 1) ∷ []) c.loop-i.invariant.told c.tables.ensures);
}

pub returns-in_err-tables-clause-counted : goal.returns-in_err-tables-clause-counted
returns-in_err-tables-clause-counted g c = (0, g.met.G.Progress.none c.args.progress.now)

pub returns-in_err-fill_table-clause-counted : goal.returns-in_err-fill_table-clause-counted
returns-in_err-fill_table-clause-counted g c = (c.loop-i.i, c.loop-i.invariant.told)

pub returns-clause-counted : goal.returns-clause-counted
returns-clause-counted g c = (c.loop-i.i, c.loop-i.invariant.told)

pub returns-clause-tables : goal.returns-clause-tables
returns-clause-tables g c known =
    let W = words_of_dump (opened g.S.ByteSource.bytes c.args.dump.now) in
    c.loop-i.invariant.tables known ∙ ap (map (words_numbered W)) (take_all c.loop-i.i c.args.numbers.now c.loop-i-test.false)

pub returns-clause-count : goal.returns-clause-count
returns-clause-count g c = omega (arith, c.loop-i.invariant.len, c.loop-i-test.false, c.loop-i.auto.i-end)

pub returns-clause-told : goal.returns-clause-told
returns-clause-told g c =
    let Told : ℕ → Type 0 = λ n. g.G.Progress.Told c.args.progress.now c.loop-i.progress (up_to n) in
    let all : c.loop-i.i ≡ length c.args.numbers.now = omega (arith, c.loop-i-test.false, c.loop-i.auto.i-end) in
    subst Told all c.loop-i.invariant.told

pub loop-i-init : goal.loop-i-init
loop-i-init g c = record {
  len = c.in_ok-tables.ensures.len;
  room = c.in_ok-tables.ensures.capacity;
  told = g.met.G.Progress.none c.args.progress.now;
  part = λ _. c.new-part.ensures (g.S.ByteSource.bytes c.args.dump.now.source);
  tables = λ _. ap (map Some) c.in_ok-tables.ensures.items;
}

pub push_reserved-requires : goal.push_reserved-requires
push_reserved-requires g c = omega (arith, c.loop-i.invariant.len, c.loop-i.invariant.room, c.loop-i-test.true)

pub index_mut-requires : goal.index_mut-requires
index_mut-requires g c = omega (arith, c.loop-i.invariant.len, c.push_reserved.ensures.len)

pub fill_table-requires-clause-some : goal.fill_table-requires-clause-some
fill_table-requires-clause-some g c =
    omega (arith, ap length (take_rest c.args.numbers.now c.loop-i.i), length-drop c.loop-i.i c.args.numbers.now, c.loop-i-test.true)

pub fill_table-requires-clause-numbers : goal.fill_table-requires-clause-numbers
fill_table-requires-clause-numbers g c =
    let numbers = c.args.numbers.now in
    All-take (λ n. n * 4096 < 2 ^ 52) (length numbers - c.loop-i.i) (drop c.loop-i.i numbers)
    (All-drop (λ n. n * 4096 < 2 ^ 52) c.loop-i.i numbers c.requires.numbers)

pub fill_table-requires-clause-read : goal.fill_table-requires-clause-read
fill_table-requires-clause-read g c = c.requires.read

pub fill_table-requires-clause-part : goal.fill_table-requires-clause-part
fill_table-requires-clause-part g c = c.loop-i.invariant.part
