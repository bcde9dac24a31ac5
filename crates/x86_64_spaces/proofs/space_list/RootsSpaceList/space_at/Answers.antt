use Rattle.std.proofs.Common.{◌≡◌, ◌<◌, ◌%◌, ℕ, true, cond, List, get_or, length, Some, None, sym, ap, ◌∙◌, subst}
use Rattle.std.proofs.lemmas.List.{length-map, get_or-map}
use Rattle.std.proofs.lemmas.List.Elements.{All-get_or}
use Rattle.x86_64_model.specs.Entry.{is_frame}
use Rattle.x86_64_spaces.specs.declared.space.Space.{Space}
use Rattle.x86_64_spaces.specs.declared.space.SharedIndices.{SharedIndices}
use Rattle.x86_64_spaces.specs.SpaceGroups.{Grouped, all_sharing}
use Rattle.x86_64_spaces.specs.SpaceLayouts.{indices_of, spaces_at}
use Rattle.x86_64_tables.proofs.FrameAddresses.{frame_bounds}
use Rattle.x86_64_spaces.proofs.space_list.RootsSpaceList.space_at.Goals as goal

abbrev at : ℕ → Space
at root = record { root = root; recursive = None }

abbrev all : (shared : SharedIndices) → Space → Grouped
all shared s = record { space = s; group = λ i. cond (indices_of shared i) (Some 0) None }

few : (shared : SharedIndices) (roots : List ℕ) (n : ℕ) → n < length (all_sharing (indices_of shared) (spaces_at roots)) → n < length roots
few shared roots n h = subst (λ l. n < l) (length-map (spaces_at roots) (all shared) ∙ length-map roots at) h

pub new-address-requires : goal.new-address-requires
new-address-requires c =
    let roots = c.args.self.now.addresses.now in
    let within = few c.args.self.now.shared roots c.args.n c.requires in
    (frame_bounds (get_or roots c.args.n 0) (All-get_or (λ a. is_frame a ≡ true) roots c.args.n 0 within c.args.self.now.are_frames)).0

pub from_start_address_unchecked-requires : goal.from_start_address_unchecked-requires
from_start_address_unchecked-requires c =
    let roots = c.args.self.now.addresses.now in
    let within = few c.args.self.now.shared roots c.args.n c.requires in
    subst (λ a. a % 4096 ≡ 0) (sym c.new-address.ensures)
    (frame_bounds (get_or roots c.args.n 0) (All-get_or (λ a. is_frame a ≡ true) roots c.args.n 0 within c.args.self.now.are_frames)).1

pub returns : goal.returns
returns c =
    let roots = c.args.self.now.addresses.now in
    let within = few c.args.self.now.shared roots c.args.n c.requires in
    let shared = c.args.self.now.shared in
    let listed : c.args.n < length (spaces_at roots) = subst (λ l. c.args.n < l) (sym (length-map roots at)) within in
    ap at (c.from_start_address_unchecked.ensures ∙ c.new-address.ensures)
    ∙ sym (ap (λ (s : Grouped). s.space) (get_or-map (all shared) (spaces_at roots) c.args.n (at 0) (record { space = at 0; group = λ i. None }) listed)
    ∙ get_or-map at roots c.args.n 0 (at 0) within)
