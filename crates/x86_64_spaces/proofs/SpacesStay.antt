-- The layouts of address spaces stay, since their roots keep their self-entries.
use Rattle.std.proofs.Common.{◌≡◌, inl, inr, ℕ, Bool, List, [], ◌∷◌, map, Some, None, Option, refl, ap, ap₂}
use Rattle.x86_64_model.specs.Layout.{Layout}
use Rattle.x86_64_model.specs.Hierarchy.{◌laid_in◌, PoolFits, Valid}
use Rattle.x86_64_model.specs.Lists.{In}
use Rattle.x86_64_model.specs.Memory.{Memory, Places, words_of}
use Rattle.x86_64_model.specs.Window.{Window, SelfEntry}
use Rattle.x86_64_model.proofs.Lemmas.Lists.Members.{in_map}
use Rattle.x86_64_spaces.specs.declared.space.Space.{Space}
use Rattle.x86_64_spaces.specs.SpaceLaws.{LayoutsStay, PairedLayoutsStay}
use Rattle.x86_64_spaces.specs.SpaceLayouts.{space_layout, layouts_of, flags_added}
use Rattle.x86_64_tables.specs.SelfEntries.{window_in}

same_window : (m n : Memory) (places : Places) (root : ℕ) (recursive : Option ℕ) → SelfEntry (words_of n places) root (window_in (words_of m places) root recursive)
    → window_in (words_of m places) root recursive ≡ window_in (words_of n places) root recursive
same_window m n places root None self = refl
same_window m n places root (Some r) self = ap (λ e. Some (record { index = r; self_entry = e })) self.is_word

same_layout : (levels : ℕ) (places : Places) (m n : Memory) (s : Space) → Valid (space_layout levels places m s laid_in n) → space_layout levels places m s ≡ space_layout levels places n s
same_layout levels places m n s valid =
    ap (λ (window : Option Window). record { levels = levels; places = places; root = s.root; window = window; added_flags = flags_added s.recursive })
    (same_window m n places s.root s.recursive valid.self)

same_layouts : (f g : Space → Layout) (spaces : List Space) → ((s : Space) → In spaces s → f s ≡ g s) → map f spaces ≡ map g spaces
same_layouts f g [] same = refl
same_layouts f g (s ∷ spaces) same = ap₂ (λ l ls. l ∷ ls) (same s (inl refl)) (same_layouts f g spaces (λ t i. same t (inr i)))

all_stay : (levels : ℕ) (places : Places) (m n : Memory) (serves : ℕ → Bool) (pool : List ℕ) (spaces : List Space)
    → ((a : Layout) → In (layouts_of levels places m spaces) a → PoolFits (a laid_in n) serves pool) → layouts_of levels places m spaces ≡ layouts_of levels places n spaces
all_stay levels places m n serves pool spaces fits =
    same_layouts (space_layout levels places m) (space_layout levels places n) spaces
    (λ s i. same_layout levels places m n s (fits (space_layout levels places m s) (in_map (space_layout levels places m) spaces s i)).valid)

pub layouts_stay : LayoutsStay
layouts_stay shared levels places m n serves pool spaces are = all_stay levels places m n serves pool spaces are.fits

pub paired_layouts_stay : PairedLayoutsStay
paired_layouts_stay sharing levels places m n serves pool spaces are = all_stay levels places m n serves pool spaces are.fits
