-- Two pages that meet the premises of the laws of pages that are mapped one after the other.
use Rattle.std.proofs.Common.{◌≡◌, inl, inr, ℕ, true, false, List, refl, ap, ◌∙◌, arith, lit<}
use Rattle.std.specs.List.{AllByRecursion}
use Rattle.x86_64_model.specs.Entry.{has, huge, used, address}
use Rattle.x86_64_model.specs.Laws.PageMappings.{IsMappable, HasMissing, AsksFor, four_levels, nothing_yet, two_pages, their_tables, TwoPagesMapped}
use Rattle.x86_64_model.specs.Laws.Worked.{nothing_mapped}
use Rattle.x86_64_model.specs.Machine.{IsMachine}
use Rattle.x86_64_model.specs.PageMappings.{IsUnmapped, EachApart}
use Rattle.x86_64_model.specs.Path.{parents}
use Rattle.x86_64_model.specs.PathMap.{entry}
use Rattle.x86_64_model.specs.Position.{index, page_path}
use Rattle.x86_64_model.proofs.Lemmas.Hierarchies.Changes.{zero_not_huge, zero_not_used}
use Rattle.x86_64_model.proofs.Lemmas.Lists.All.{every}
use Rattle.x86_64_model.proofs.Lemmas.Machines.PageMappings.{mappings_succeed}
use Rattle.x86_64_model.proofs.Lemmas.Paths.Puts.{entry-empty}
use Rattle.x86_64_model.proofs.Lemmas.Worked.Fitting.{some_pool_fits}

machine : IsMachine four_levels
unfolding address
machine = record {
  adds = record { no_address = refl; not_huge = refl };
  gives = record { same_frames = λ held f g. (λ h. h, λ h. h); each_once = λ held f h. h };
}

unmapped : (q : List ℕ) → IsUnmapped nothing_mapped q
unfolding nothing_mapped
unmapped q = record {
  unused = ap used (entry-empty q) ∙ zero_not_used;
  none_huge = every (λ p. huge (entry nothing_mapped p) ≡ false) (λ p. ap huge (entry-empty p) ∙ zero_not_huge) (parents q);
}

mappable : AllByRecursion (IsMappable four_levels nothing_mapped) two_pages
unfolding has address page_path
mappable = (
  record { low = omega arith; high = omega arith; levels = omega arith; multiple = refl; inside = lit< tt; is_present = refl; unmapped = unmapped _; allowed = refl },
  (record { low = omega arith; high = omega arith; levels = omega arith; multiple = refl; inside = lit< tt; is_present = refl; unmapped = unmapped _; allowed = refl }, tt),
)

apart : EachApart two_pages
apart = ((λ p a b c d. absurd (omega (arith, b, c)), tt), (tt, tt))

tables : AllByRecursion (HasMissing 4 nothing_mapped their_tables) two_pages
unfolding page_path index
tables = ((λ u. inl refl, (λ u. inr (inl refl), (λ u. inr (inr (inl refl)), tt))), ((λ u. inl refl, (λ u. inr (inl refl), tt)), tt))

asks : AllByRecursion (AsksFor 4) two_pages
unfolding has address page_path
asks = (
  record { is_present = refl; no_address = refl; at_level = refl; nonempty = omega arith; low = omega arith; high = omega arith; is_frame = refl; aligned = refl },
  (record { is_present = refl; no_address = refl; at_level = refl; nonempty = omega arith; low = omega arith; high = omega arith; is_frame = refl; aligned = refl }, tt),
)

pub two_pages_mapped : TwoPagesMapped
two_pages_mapped = let fits = some_pool_fits.direct 4 in record {
  machine = machine;
  fits = fits;
  mappable = mappable;
  apart = apart;
  tables = tables;
  asks = asks;
  replies = mappings_succeed four_levels machine fits.0 0x1000 (λ f. true) nothing_yet fits.1 two_pages mappable apart their_tables tables (omega arith);
}
