-- The units of files follow one another.
use Rattle.std.proofs.Common.{Bool, ◌≡◌, ℕ, zero, suc, ◌+◌, ◌<◌, ◌≤◌, List, [], ◌∷◌, ◌++◌, Some, length, map, take, get_or, refl, sym, ◌∙◌, ap, subst, arith, below_more, append_assoc}
use Rattle.std.specs.List.{AllZip, slice_get}
use Rattle.std.proofs.lemmas.List.{map-append, append-nil, take_all, take_more}
use Rattle.std.proofs.Math.ListN.{get_or-append}
use Rattle.std.proofs.Math.Seq.{get_or-append_seam}
use Rattle.std.proofs.lemmas.Option.{slice_get-get_or}
use Rattle.base.specs.declared.design.Scan.{Scan}
use Rattle.base.specs.declared.design.Unit.{Unit as DesignUnit}
use Rattle.base.specs.declared.design.UnitKind.TheVariants as kinds
use Rattle.base.specs.declared.design.UnitKind.{UnitKind}
use Rattle.base.specs.declared.child.MaybeText.{MaybeText}
use Rattle.base.specs.declared.child.MaybeText.TheVariants.{Nothing}
use Rattle.base.specs.declared.lexical.Token.{Token}
use Rattle.base.specs.declared.refs.Ref.{Ref}
use Rattle.base.specs.declared.project.ProjectFile.{ProjectFile}
use Rattle.vhdl_spec.specs.References.{configured, structural_by}
use Rattle.vhdl_spec.specs.Visibility.{ScopeUnit, configured_name, scope_unit, scope_units}
use Rattle.vhdl_outline.specs.UnresolvedRefs.{structural_of}
use Rattle.vhdl_outline.specs.declared.outlines.UnitScope.{UnitScope}
use Rattle.vhdl_outline.specs.Outlines.{scope_of, scopes_of}
use Rattle.vhdl_scope.specs.declared.groups.Owned.{Owned}
use Rattle.vhdl_scope.specs.declared.want.Group.{Group}
use Rattle.vhdl_scope.specs.Scopes.{AreGrouped, as_scope, units_before}

-- one pair more
pub zip_push : {A B : Type 0} (R : A → B → Type 0) (xs : List A) (ys : List B) (x : A) (y : B) → AllZip R xs ys → R x y → AllZip R (xs ++ x ∷ []) (ys ++ y ∷ [])
zip_push R [] [] x y all one = (one, tt)
zip_push R [] (b ∷ ys) x y all one = absurd all
zip_push R (a ∷ xs) [] x y all one = absurd all
zip_push R (a ∷ xs) (b ∷ ys) x y all one = (all.0, zip_push R xs ys x y all.1 one)

no_unit : DesignUnit
no_unit = record { kind = kinds.Entity; name = []; owner = Nothing; lead = 0; first = 0; last = 0 }

first_architecture : List Ref → MaybeText
first_architecture [] = Nothing
first_architecture (ref ∷ refs) = ref.architecture

-- a unit that mentions what its text says configures the architecture that its text says
pub same_configured : (text : List ℕ) (tokens : List Token) (unit : DesignUnit) (kind : UnitKind) (found : MaybeText) → structural_of found unit kind ≡ structural_by text tokens unit kind → configured_name kind found ≡ configured_name kind (configured text tokens unit)
unfolding first_architecture
same_configured text tokens unit kinds.Entity found is = refl
same_configured text tokens unit kinds.Architecture found is = refl
same_configured text tokens unit kinds.Configuration found is = ap first_architecture is
same_configured text tokens unit kinds.Package found is = refl
same_configured text tokens unit kinds.PackageBody found is = refl
same_configured text tokens unit kinds.PackageInstance found is = refl
same_configured text tokens unit kinds.Context found is = refl

-- one unit more of a file
pub unit_more : {X : Type 0} (R : X → ScopeUnit → Type 0) (made : DesignUnit → ScopeUnit) (designs : List DesignUnit) (number : ℕ) (found : List X) (one : X) (units : List ScopeUnit) → number < length designs → ((unit : DesignUnit) → slice_get designs number ≡ Some unit → R one (made unit)) → AllZip R found (units ++ map made (take number designs)) → AllZip R (found ++ one ∷ []) (units ++ map made (take (number + 1) designs))
unit_more R made designs number found one units within is so_far =
    let unit : DesignUnit = get_or designs number no_unit in
    let done : List ScopeUnit = map made (take number designs) in
    let all : units ++ map made (take (number + 1) designs) ≡ (units ++ done) ++ made unit ∷ [] =
    ap (λ (some : List DesignUnit). units ++ map made some) (take_more designs number no_unit within)
    ∙ (ap (λ (some : List ScopeUnit). units ++ some) (map-append made (take number designs) (unit ∷ [])) ∙ sym (append_assoc units done (made unit ∷ []))) in
    subst (AllZip R (found ++ one ∷ [])) (sym all) (zip_push R found (units ++ done) one (made unit) so_far (is unit (slice_get-get_or designs number no_unit within)))

-- what the units of a project name is kept in their order
scopes_of_units : (library text : List ℕ) (scan : Scan) (designs : List DesignUnit) → map (scope_of text scan) designs ≡ map as_scope (map (scope_unit library text scan) designs)
scopes_of_units library text scan [] = refl
scopes_of_units library text scan (unit ∷ designs) = ap (λ (rest : List UnitScope). scope_of text scan unit ∷ rest) (scopes_of_units library text scan designs)

pub scopes_are : (files : List ProjectFile) (texts : List (List ℕ)) (scans : List Scan) → length texts ≡ length files → scopes_of texts scans ≡ map as_scope (scope_units files texts scans)
scopes_are [] [] scans each = refl
scopes_are [] (text ∷ texts) scans each = let never : ⊥ = cc in absurd never
scopes_are (file ∷ files) [] scans each = let never : ⊥ = cc in absurd never
scopes_are (file ∷ files) (text ∷ texts) [] each = refl
scopes_are (file ∷ files) (text ∷ texts) (scan ∷ scans) each =
    let fewer : length texts ≡ length files = cc in
    ap (λ (some : List UnitScope). some ++ scopes_of texts scans) (scopes_of_units file.name.library text scan scan.units)
    ∙ (ap (λ (some : List UnitScope). map as_scope (map (scope_unit file.name.library text scan) scan.units) ++ some) (scopes_are files texts scans fewer)
    ∙ sym (map-append as_scope (map (scope_unit file.name.library text scan) scan.units) (scope_units files texts scans)))

-- the units of one file more
pub file_more : (files : List ProjectFile) (texts : List (List ℕ)) (scans : List Scan) (at : ℕ) (file : ProjectFile) (text : List ℕ) (scan : Scan) → slice_get files at ≡ Some file → slice_get texts at ≡ Some text → slice_get scans at ≡ Some scan → scope_units (take (at + 1) files) (take (at + 1) texts) (take (at + 1) scans) ≡ scope_units (take at files) (take at texts) (take at scans) ++ map (scope_unit file.name.library text scan) scan.units
file_more [] texts scans at file text scan f t s = let never : ⊥ = cc in absurd never
file_more (x ∷ files) [] scans at file text scan f t s = let never : ⊥ = cc in absurd never
file_more (x ∷ files) (y ∷ texts) [] at file text scan f t s = let never : ⊥ = cc in absurd never
file_more (x ∷ files) (y ∷ texts) (z ∷ scans) zero file text scan f t s =
    let same_file : x ≡ file = cc in
    let same_text : y ≡ text = cc in
    let same_scan : z ≡ scan = cc in
    append-nil (map (scope_unit x.name.library y z) z.units)
    ∙ (ap (λ (q : ProjectFile). map (scope_unit q.name.library y z) z.units) same_file
    ∙ (ap (λ (q : List ℕ). map (scope_unit file.name.library q z) z.units) same_text
    ∙ ap (λ (q : Scan). map (scope_unit file.name.library text q) q.units) same_scan))
file_more (x ∷ files) (y ∷ texts) (z ∷ scans) (suc at) file text scan f t s =
    let next : suc at + 1 ≡ suc (at + 1) = omega arith in
    let first : List ScopeUnit = map (scope_unit x.name.library y z) z.units in
    rw next (ap (λ (rest : List ScopeUnit). first ++ rest) (file_more files texts scans at file text scan f t s)
    ∙ sym (append_assoc first (scope_units (take at files) (take at texts) (take at scans)) (map (scope_unit file.name.library text scan) scan.units)))

pub as_long : {X Y : Type 0} (R : X → Y → Type 0) (xs : List X) (ys : List Y) → AllZip R xs ys → length xs ≡ length ys
as_long R [] [] all = refl
as_long R [] (y ∷ ys) all = absurd all
as_long R (x ∷ xs) [] all = absurd all
as_long R (x ∷ xs) (y ∷ ys) all = ap suc (as_long R xs ys (all.1))

-- what holds at each index
pub at_index : {X Y : Type 0} (R : X → Y → Type 0) (xs : List X) (ys : List Y) (k : ℕ) (d : X) (e : Y) → AllZip R xs ys → k < length ys → R (get_or xs k d) (get_or ys k e)
at_index R [] [] k d e all within = absurd (omega arith)
at_index R [] (y ∷ ys) k d e all within = absurd all
at_index R (x ∷ xs) [] k d e all within = absurd all
at_index R (x ∷ xs) (y ∷ ys) zero d e all within = all.0
at_index R (x ∷ xs) (y ∷ ys) (suc k) d e all within = at_index R xs ys k d e (all.1) (omega arith)

-- the start of one file more
pub starts_more : (starts : List ℕ) (start end : ℕ) (wanted : ℕ → ℕ) → length starts ≡ end → start ≡ wanted end → ((file : ℕ) → file < end → get_or starts file 0 ≡ wanted file) → (file : ℕ) → file < end + 1 → get_or (starts ++ start ∷ []) file 0 ≡ wanted file
starts_more starts start end wanted each is so_far = below_more _ _ (λ (k : ℕ) (below : k < end). get_or-append starts (start ∷ []) 0 k (omega arith) ∙ so_far k below) (ap (λ (n : ℕ). get_or (starts ++ start ∷ []) n 0) (sym each) ∙ (get_or-append_seam starts start [] 0 ∙ is))

-- the units of the first `count` files, with their groups
pub record AreFirst (keeps : Bool) (files : List ProjectFile) (texts : List (List ℕ)) (scans : List Scan) (count : ℕ) (starts : List ℕ) (groups : List Group) (owned : List Owned) : Type 0 where
  pub grouped : AreGrouped keeps (scope_units (take count files) (take count texts) (take count scans)) groups owned
  pub begins : (file : ℕ) → file < count → get_or starts file 0 ≡ units_before files texts scans file

-- the units of as many files as there are
pub all_units : (files : List ProjectFile) (texts : List (List ℕ)) (scans : List Scan) (count : ℕ) → length files ≤ count → length texts ≤ count → length scans ≤ count → scope_units (take count files) (take count texts) (take count scans) ≡ scope_units files texts scans
all_units files texts scans count f t s =
    ap (λ (some : List ProjectFile). scope_units some (take count texts) (take count scans)) (take_all count files f)
    ∙ (ap (λ (some : List (List ℕ)). scope_units files some (take count scans)) (take_all count texts t)
    ∙ ap (scope_units files texts) (take_all count scans s))
