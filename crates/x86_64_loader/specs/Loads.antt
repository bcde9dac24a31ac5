-- The effect of a load of segments.
use Rattle.std.specs.Prelude.{List, flat_map, Result, OnOk, IfErr, IsOk}
use Rattle.std.specs.List.{All}
use Rattle.x86_64_model.specs.Hierarchy.{Hierarchy}
use Rattle.x86_64_model.specs.PageMappings.{PageMapping}
use Rattle.x86_64_mappers.specs.Supplies.{Supply}
use Rattle.x86_64_loader.specs.Maps.{Accepts, KeptWithSupply}
use Rattle.x86_64_loader.specs.Segments.{Disjoint, IsLoaded, LoadIsRefused, Suffices}
use Rattle.x86_64_loader.specs.declared.segment.LoadError.{LoadError}
use Rattle.x86_64_loader.specs.declared.segment.Segment.{Segment}

-- Segments were loaded in order, each with the pages that `pages_of` returns for it, with this result. Before, there were a
-- hierarchy and a supply; afterwards, there are `after` and `rest`.
pub record LoadsSegments {Lent : Type 0} (pages_of : Segment → List PageMapping) (h : Hierarchy Lent) (supply : Supply) (segments : List Segment) (result : Result (Unit {0}) LoadError) (after : Hierarchy Lent) (rest : Supply) : Type 0 where
  -- If it succeeds, each page was mapped by `map_to`, in order, and every map was accepted.
  pub accepted : OnOk result (Accepts h supply.frames (flat_map pages_of segments) after rest.frames)
  -- If it succeeds, each segment's pages are mapped with all of its flags, and page walks in it arrive where they should, with
  -- exactly these rights.
  pub loaded : OnOk result (All (IsLoaded pages_of after) segments)
  -- If it succeeds, no two segments have a position in common.
  pub disjoint : OnOk result (Disjoint segments)
  -- If it fails, every map before the page that the error names was accepted, the map of this page was refused for the error's
  -- reason, and no other page was mapped. What comes before the page is reached.
  pub refused : IfErr result (λ error. LoadIsRefused pages_of h supply.frames segments error after rest.frames)
  -- It succeeds if nothing is mapped in the way, no two segments overlap, and there are enough frames.
  pub succeeds : Suffices pages_of h supply.frames segments → IsOk result
  -- Whether it succeeds or not, it keeps what maps keep.
  pub kept : KeptWithSupply h supply after rest
