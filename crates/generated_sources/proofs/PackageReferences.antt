-- What the package of a file refers to.
use Rattle.std.proofs.Common.{◌≡◌, ℕ, ◌+◌, ◌/◌, ◌^◌, ◌<◌, ◌⊎◌, Bool, true, false, ◌&&◌, List, [], ◌∷◌, length, map, refl, ap, ◌∙◌, inl, inr}
use Rattle.std.specs.Prelude.{if◌then◌else◌}
use Rattle.std.specs.Fmt.{decimal}
use Rattle.std.specs.Option.{option_map_or}
use Rattle.base.specs.declared.child.MaybeText.{MaybeText}
use Rattle.base.specs.declared.child.MaybeText.TheVariants.{Nothing, Given}
use Rattle.base.specs.declared.design.Role.{Role}
use Rattle.base.specs.declared.design.Unit.{Unit as DesignUnit}
use Rattle.base.specs.declared.lexical.Token.{Token}
use Rattle.base.specs.declared.lexical.TokenKind.TheVariants.{High}
use Rattle.base.specs.declared.project.ProjectFile.{ProjectFile}
use Rattle.base.specs.declared.refs.Ref.{Ref}
use Rattle.vhdl_spec.specs.Dependencies.{LinkUnit, link_unit}
use Rattle.vhdl_spec.specs.References.{configured, context_refs, first_for, has_architecture, has_block, is_configuration, is_context_ref, is_library_name, is_reference, is_strict, is_use_of_all, library_names, name_if, indices, refs_of, uses_of_all}
use Rattle.vhdl_spec.specs.Units.{name_of, role_at, roles_of}
use Rattle.generated_project.specs.Files.{package_text}
use Rattle.generated_sources.proofs.Digits.{decimal_digits}
use Rattle.generated_sources.proofs.PackageFindings.{half_small, names_of_file, roles_of_file}
use Rattle.generated_sources.proofs.PackageParts.{file_parts, file_text}
use Rattle.generated_sources.proofs.PackageRoles.{library_named, name_at, used_named}
use Rattle.generated_sources.proofs.LexicalElements.{name_in, names_in}
use Rattle.generated_sources.specs.PackageLinks.{file_libraries, file_refs, used_library, package_link, package_refs, used_ref}
use Rattle.generated_sources.specs.PackageScans.{AreDigits, file_roles, file_tokens, file_unit, is_alone, package_scan, package_tokens, package_unit}

-- ## By the roles of the tokens

module _ (text : List ℕ) (tokens : List Token) (unit : DesignUnit) where
  abbrev architecture_by : List Role → ℕ → MaybeText
  architecture_by roles at =
      if has_architecture roles at then Given (name_of text tokens (at + 4))
      else (if is_configuration unit.kind && has_block roles at then Given (name_of text tokens (at + 5))
      else Nothing)

  abbrev ref_by : List Role → ℕ → Ref
  ref_by roles at = record { library = name_of text tokens at; name = name_of text tokens (at + 2); architecture = architecture_by roles at; strict = is_strict roles at; at = at }

  abbrev named_by : List Role → List Ref
  named_by roles = map (ref_by roles) (indices (is_reference roles) unit.lead unit.last)

  abbrev contexts_by : ℕ → List Role → List Ref
  contexts_by end roles = map (ref_by roles) (indices (is_context_ref roles) unit.lead end)

  abbrev libraries_by : ℕ → List Role → List (List ℕ)
  libraries_by end roles = map (name_of text tokens) (indices (is_library_name roles unit.first) unit.lead end)

  abbrev whole_by : List Role → List (List ℕ)
  whole_by roles = map (name_of text tokens) (indices (is_use_of_all roles) unit.lead unit.last)

  abbrev configured_by : List Role → MaybeText
  configured_by roles = option_map_or (λ at. name_if (role_at roles (at + 1)) (name_of text tokens (at + 1))) (first_for roles unit.first unit.last) Nothing

module _ (text : List ℕ) (tokens : List Token) (alone : Bool) (name : List ℕ) (are : roles_of text tokens ≡ file_roles alone) where
  refs_are : refs_of text tokens (file_unit alone name) ≡ named_by text tokens (file_unit alone name) (file_roles alone)
  refs_are = ap (named_by text tokens (file_unit alone name)) are

  contexts_are : context_refs text tokens (file_unit alone name) ≡ contexts_by text tokens (file_unit alone name) (if alone then 0 else 10) (file_roles alone)
  contexts_are = ap (contexts_by text tokens (file_unit alone name) (if alone then 0 else 10)) are

  libraries_are : library_names text tokens (file_unit alone name) ≡ libraries_by text tokens (file_unit alone name) (if alone then 0 else 10) (file_roles alone)
  libraries_are = ap (libraries_by text tokens (file_unit alone name) (if alone then 0 else 10)) are

  whole_are : map (name_of text tokens) (uses_of_all (roles_of text tokens) (file_unit alone name)) ≡ whole_by text tokens (file_unit alone name) (file_roles alone)
  whole_are = ap (whole_by text tokens (file_unit alone name)) are

  configured_is : configured text tokens (file_unit alone name) ≡ configured_by text tokens (file_unit alone name) (file_roles alone)
  configured_is = ap (configured_by text tokens (file_unit alone name)) are

-- ## With names

no_contexts : (text : List ℕ) (tokens : List Token) (alone : Bool) (name : List ℕ) → contexts_by text tokens (file_unit alone name) (if alone then 0 else 10) (file_roles alone) ≡ []
no_contexts text tokens true name = refl
no_contexts text tokens false name = refl

none_whole : (text : List ℕ) (tokens : List Token) (alone : Bool) (name : List ℕ) → whole_by text tokens (file_unit alone name) (file_roles alone) ≡ []
none_whole text tokens true name = refl
none_whole text tokens false name = refl

none_configured : (text : List ℕ) (tokens : List Token) (alone : Bool) (name : List ℕ) → configured_by text tokens (file_unit alone name) (file_roles alone) ≡ Nothing
none_configured text tokens true name = refl
none_configured text tokens false name = refl

some_refs : (text : List ℕ) (tokens : List Token) (alone : Bool) (name used : List ℕ) → (alone ≡ false → name_of text tokens 4 ≡ used_library) → (alone ≡ false → name_of text tokens 6 ≡ used) → named_by text tokens (file_unit alone name) (file_roles alone) ≡ file_refs alone used
some_refs text tokens true name used library used_is = refl
some_refs text tokens false name used library used_is =
    ap (λ (it : List ℕ). record { library = it; name = name_of text tokens 6; architecture = Nothing; strict = true; at = 4 } ∷ []) (library refl)
    ∙ ap (λ (it : List ℕ). used_ref it ∷ []) (used_is refl)

some_libraries : (text : List ℕ) (tokens : List Token) (alone : Bool) (name : List ℕ) → (alone ≡ false → name_of text tokens 1 ≡ used_library) → libraries_by text tokens (file_unit alone name) (if alone then 0 else 10) (file_roles alone) ≡ file_libraries alone
some_libraries text tokens true name library = refl
some_libraries text tokens false name library = ap (λ (it : List ℕ). it ∷ []) (library refl)

-- ## Any digits

module _ (alone : Bool) (used digits : List ℕ) (noted : Bool) (of_used : AreDigits used) (of_own : AreDigits digits) where
  abbrev here : List ℕ
  here = file_text alone used digits noted

  abbrev all : List Token
  all = file_tokens alone (length used) (length digits)

  library_is : (lex_state : ℕ) → (lex_state ≡ 1) ⊎ (lex_state ≡ 4) → alone ≡ false → name_of here all lex_state ≡ used_library
  unfolding used_library
  library_is lex_state is uses =
      name_at here all (names_in (file_parts alone used digits noted)) lex_state (names_of_file alone used digits noted of_used of_own)
      ∙ library_named lex_state alone used digits noted (name_in here (record { kind = High; start = 0; end = 0 })) uses is

  used_is : alone ≡ false → name_of here all 6 ≡ 112 ∷ used
  used_is uses =
      name_at here all (names_in (file_parts alone used digits noted)) 6 (names_of_file alone used digits noted of_used of_own)
      ∙ used_named alone used digits noted (name_in here (record { kind = High; start = 0; end = 0 })) of_used uses

  roles : roles_of here all ≡ file_roles alone
  roles = roles_of_file alone used digits noted of_used of_own

  pub file_refs_are : refs_of here all (file_unit alone (112 ∷ digits)) ≡ file_refs alone (112 ∷ used)
  file_refs_are = refs_are here all alone (112 ∷ digits) roles ∙ some_refs here all alone (112 ∷ digits) (112 ∷ used) (library_is 4 (inr refl)) used_is

  pub file_libraries_are : library_names here all (file_unit alone (112 ∷ digits)) ≡ file_libraries alone
  file_libraries_are = libraries_are here all alone (112 ∷ digits) roles ∙ some_libraries here all alone (112 ∷ digits) (library_is 1 (inl refl))

  pub file_contexts_are : context_refs here all (file_unit alone (112 ∷ digits)) ≡ []
  file_contexts_are = contexts_are here all alone (112 ∷ digits) roles ∙ no_contexts here all alone (112 ∷ digits)

  pub file_whole_are : map (name_of here all) (uses_of_all (roles_of here all) (file_unit alone (112 ∷ digits))) ≡ []
  file_whole_are = whole_are here all alone (112 ∷ digits) roles ∙ none_whole here all alone (112 ∷ digits)

  pub file_configured_is : configured here all (file_unit alone (112 ∷ digits)) ≡ Nothing
  file_configured_is = configured_is here all alone (112 ∷ digits) roles ∙ none_configured here all alone (112 ∷ digits)

-- ## The package as a unit of a project

linked : (position : ℕ) (file : ProjectFile) (unit : DesignUnit) (names others : List (List ℕ)) (contexts : List Ref) (named : MaybeText) (refs some : List Ref) (whole : List (List ℕ)) → names ≡ others → contexts ≡ [] → named ≡ Nothing → refs ≡ some → whole ≡ [] →
    ◌≡◌ {A = LinkUnit}
    (record { file = file; position = position; scope = record { library = file.name.library; unit = unit; names = names; contexts = contexts; configured = named }; refs = refs; whole = whole })
    (record { file = file; position = position; scope = record { library = file.name.library; unit = unit; names = others; contexts = []; configured = Nothing }; refs = some; whole = [] })
linked position file unit names others contexts named refs some whole a b c d e =
    λ i. record { file = file; position = position; scope = record { library = file.name.library; unit = unit; names = a i; contexts = b i; configured = c i }; refs = d i; whole = e i }

pub package_linked : (position : ℕ) (file : ProjectFile) (number : ℕ) (noted : Bool) → number < 2 ^ 64 → link_unit position file (package_text number noted) (package_scan number noted) (package_unit number) ≡ package_link position file number
package_linked position file number noted small = by_digits (decimal_digits (number / 2) (half_small number small)) (decimal_digits number small) where
  by_digits : AreDigits (decimal (number / 2)) → AreDigits (decimal number) → link_unit position file (package_text number noted) (package_scan number noted) (package_unit number) ≡ package_link position file number
  by_digits of_used of_own =
      linked position file (package_unit number) _ _ _ _ _ _ _
      (file_libraries_are (is_alone number) (decimal (number / 2)) (decimal number) noted of_used of_own)
      (file_contexts_are (is_alone number) (decimal (number / 2)) (decimal number) noted of_used of_own)
      (file_configured_is (is_alone number) (decimal (number / 2)) (decimal number) noted of_used of_own)
      (file_refs_are (is_alone number) (decimal (number / 2)) (decimal number) noted of_used of_own)
      (file_whole_are (is_alone number) (decimal (number / 2)) (decimal number) noted of_used of_own)

pub package_refers : (number : ℕ) (noted : Bool) → number < 2 ^ 64 → refs_of (package_text number noted) (package_tokens number) (package_unit number) ≡ package_refs number
package_refers number noted small = file_refs_are (is_alone number) (decimal (number / 2)) (decimal number) noted (decimal_digits (number / 2) (half_small number small)) (decimal_digits number small)
