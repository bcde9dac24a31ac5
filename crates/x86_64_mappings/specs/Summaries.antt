-- Summaries of mappings.
use Rattle.std.specs.Prelude.{List, length, sum_by}
use Rattle.std.specs.List.{list_all, list_any}
use Rattle.x86_64_model.specs.Mappings.{Mapping}
use Rattle.x86_64_mappings.specs.declared.summaries.summary.Summary.{Summary}

-- The summary of mappings: their number, their size in bytes, the rights that at least one of them has, and the rights that all of
-- them have.
unfoldable pub summary_of : List Mapping → Summary
summary_of ms = record {
  count = length ms;
  bytes = sum_by (λ m. m.size) ms;
  some = record { write = list_any (λ m. m.rights.write) ms; user = list_any (λ m. m.rights.user) ms; execute = list_any (λ m. m.rights.execute) ms };
  all = record { write = list_all (λ m. m.rights.write) ms; user = list_all (λ m. m.rights.user) ms; execute = list_all (λ m. m.rights.execute) ms };
}
