-- Names that are tested one by one.
use Rattle.std.proofs.Common.{◌≡◌, ◌∙◌, ◌++◌, ◌||◌, ℕ, List, Bool, true, false, true≢false, codes, refl, sym, if◌then◌else◌}
use Rattle.std.proofs.lemmas.Slice.Eq.{bytes_eq-Decides}
use Rattle.std.specs.Str.{bytes_eq}
use Rattle.x86_64_access.specs.declared.request.Access.{Access}
use Rattle.x86_64_access.specs.declared.request.AccessKind.{AccessKind}
use Rattle.x86_64_access.specs.declared.request.AccessKind.TheVariants.{Read, Write, Fetch}
use Rattle.ptdump_json.specs.Accesses.{access_name, kind_name}
use Rattle.ptdump.specs.Asked.{is_listed}
use Rattle.ptdump.specs.Reasons.{command_names}

-- texts that are equal by the test are equal
pub same_name : (a b : List ℕ) → bytes_eq a b ≡ true → a ≡ b
same_name a b is = (bytes_eq-Decides a b).0 is

-- texts that differ by the test differ
pub other_name : (a b : List ℕ) → bytes_eq a b ≡ false → a ≡ b → ⊥
other_name a b differs is = absurd (true≢false (sym ((bytes_eq-Decides a b).1 is) ∙ differs))

not_equal : (a b : List ℕ) → bytes_eq a b ≡ false → bytes_eq b a ≡ false
not_equal a b differs = by (bytes_eq b a) (λ is. other_name a b differs (sym (same_name b a is)))
  where
    by : (t : Bool) → (t ≡ true → ⊥) → t ≡ false
    by true none = absurd (none refl)
    by false none = refl

neither : (a b : Bool) → a ≡ false → b ≡ false → (a || b) ≡ false
neither true b is others = cc
neither false b is others = others

-- the name is that of no command
pub unlisted_name : (name : List ℕ) → bytes_eq name (codes "regions") ≡ false → bytes_eq name (codes "pages") ≡ false → bytes_eq name (codes "walk") ≡ false
    → bytes_eq name (codes "find") ≡ false → bytes_eq name (codes "check") ≡ false → bytes_eq name (codes "image") ≡ false → bytes_eq name (codes "picture") ≡ false
    → bytes_eq name (codes "info") ≡ false → is_listed command_names name ≡ false
unlisted_name name a b c d e f g h =
    neither _ _ (not_equal name (codes "regions") a) (neither _ _ (not_equal name (codes "pages") b) (neither _ _ (not_equal name (codes "walk") c)
    (neither _ _ (not_equal name (codes "find") d) (neither _ _ (not_equal name (codes "check") e) (neither _ _ (not_equal name (codes "image") f)
    (neither _ _ (not_equal name (codes "picture") g) (neither _ _ (not_equal name (codes "info") h) refl)))))))

-- no access has the name
pub no_access : (name : List ℕ) → bytes_eq name (codes "user-read") ≡ false → bytes_eq name (codes "user-write") ≡ false → bytes_eq name (codes "user-fetch") ≡ false
    → bytes_eq name (codes "supervisor-read") ≡ false → bytes_eq name (codes "supervisor-write") ≡ false → bytes_eq name (codes "supervisor-fetch") ≡ false
    → (access : Access) → name ≡ access_name access → ⊥
no_access name a b c d e f access = each access.user access.kind
  where
    each : (user : Bool) (kind : AccessKind) → name ≡ (if user then codes "user-" else codes "supervisor-") ++ kind_name kind → ⊥
    each true Read = other_name name (codes "user-read") a
    each true Write = other_name name (codes "user-write") b
    each true Fetch = other_name name (codes "user-fetch") c
    each false Read = other_name name (codes "supervisor-read") d
    each false Write = other_name name (codes "supervisor-write") e
    each false Fetch = other_name name (codes "supervisor-fetch") f
