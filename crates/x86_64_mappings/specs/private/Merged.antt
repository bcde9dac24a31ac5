-- Merging of summaries.
use Rattle.std.specs.Prelude.{◌+◌, ◌*◌, ◌==◌, ℕ, cond}
use Rattle.x86_64_model.specs.Mappings.{Rights, every_right, granted}
use Rattle.x86_64_tables.specs.Rights.{both, either}
use Rattle.x86_64_mappings.specs.declared.summaries.summary.Summary.{Summary}

-- The summary of mappings together with others, by the summary of each.
abbrev pub joined : (some others : Summary) → Summary
joined s t = record { count = s.count + t.count; bytes = s.bytes + t.bytes; some = either s.some t.some; all = both s.all t.all }

-- The summary of mappings of a table as they are below words that grant rights r, by their summary without these words. If there
-- are no mappings, it doesn't change.
abbrev pub lessened : Rights → Summary → Summary
lessened r s = cond (s.count == 0) s (record { count = s.count; bytes = s.bytes; some = both r s.some; all = both r s.all })

-- The summary of the 4KiB pages mapped by entries of level one: `count` is the number of entries, `some` has the bits that at least
-- one of them has, and `all` has the bits that all of them have.
abbrev pub of_bits : (count some all : ℕ) → Summary
of_bits count some all =
    let most = granted every_right some in
    let least = granted every_right all in
    record {
      count = count;
      bytes = count * 4096;
      some = record { write = most.write; user = most.user; execute = least.execute };
      all = record { write = least.write; user = least.user; execute = most.execute };
    }
