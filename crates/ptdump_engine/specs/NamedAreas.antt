-- Named areas: by what it is known in which of Linux's areas mappings and regions lie.
use Rattle.std.specs.Prelude.{Bool, true, false, if◌then◌else◌, Option, None, Some}
use Rattle.linux_areas.specs.Areas.{area_layout}
use Rattle.linux_areas.specs.declared.layout.Layout.{Layout}
use Rattle.x86_64_dump.specs.Dump.{Contents}
use Rattle.x86_64_dump.specs.VmCoreInfo.{vmcoreinfo_of}
use Rattle.ptdump_engine.specs.declared.request.AreaNames.{AreaNames}
use Rattle.ptdump_engine.specs.declared.request.AreaNames.TheVariants.{OfKernel, Always, By}
use Rattle.ptdump_json.specs.declared.start.Origin.{Origin}
use Rattle.ptdump_json.specs.declared.start.Origin.TheVariants.{ByKernel, ByText}
use Rattle.ptdump_json.specs.declared.start.Start.{Start}

-- The layout by which lines name areas, or None if no layout is known.
abbrev pub layout_in : AreaNames → Option Layout
layout_in (By layout) = Some layout
layout_in names = None

-- Whether VMCOREINFO says where the root is, be it a note or a text at an offset of the file.
abbrev pub is_by_kernel : Origin → Bool
is_by_kernel ByKernel = true
is_by_kernel (ByText offset) = true
is_by_kernel origin = false

-- Lines name areas by the layout that a dump's VMCOREINFO describes, with the levels of the start of page walks.
abbrev pub noted_layout : Contents → Start → AreaNames
noted_layout dump start = By (area_layout (vmcoreinfo_of dump) start.levels)

-- Which lines name areas in a dump, for a start of page walks. If that is asked for in any case, or by default if VMCOREINFO says
-- where the root is, they do so by the layout that VMCOREINFO describes. A layout that is given stays.
abbrev pub names_for : AreaNames → Contents → Start → AreaNames
names_for OfKernel dump start = if is_by_kernel start.origin then noted_layout dump start else OfKernel
names_for Always dump start = noted_layout dump start
names_for (By layout) dump start = By layout
