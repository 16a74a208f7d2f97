-- What a scanner finds in the file of a package.
use Rattle.std.proofs.Common.{◌≡◌, ℕ, ◌/◌, ◌^◌, ◌<◌, Bool, true, false, List, [], ◌∷◌, length, map, refl, sym, ap, subst, ◌∙◌, arith}
use Rattle.std.specs.Fmt.{decimal}
use Rattle.base.specs.declared.design.Role.{Role}
use Rattle.base.specs.declared.lexical.Token.{Token}
use Rattle.base.specs.declared.lexical.TokenKind.TheVariants.{High}
use Rattle.vhdl_spec.specs.Scans.{Finding, Clean, IsScanner, IsScanOf}
use Rattle.vhdl_spec.specs.Tokens.{IsCut}
use Rattle.vhdl_spec.specs.Units.{IsOutline, name_of, roles_of, units_of}
use Rattle.vhdl_spec.proofs.OneFinding.{one_finding}
use Rattle.generated_project.specs.Files.{package_text}
use Rattle.generated_sources.proofs.Digits.{decimal_digits}
use Rattle.generated_sources.proofs.PackageOutlines.{file_outline}
use Rattle.generated_sources.proofs.PackageParts.{all_word_bytes, file_fits, file_parts, file_text, joined_file}
use Rattle.generated_sources.proofs.PackageRoles.{file_roles_are, name_at, own_name, own_named}
use Rattle.generated_sources.proofs.PackageTokens.{file_notes, file_indices}
use Rattle.generated_sources.proofs.Parts.{joined, are_parts, lexical_elements_from}
use Rattle.generated_sources.proofs.LexicalElements.{name_in, names_are, names_in, parts_cut, rest_of, roles_are}
use Rattle.generated_sources.specs.PackageScans.{AreDigits, file_comments, file_elements, file_roles, file_tokens, file_unit, is_alone, package_scan, package_tokens}

-- ## Any digits

one_unit : (alone : Bool) (text : List ℕ) (tokens : List Token) → units_of text tokens (file_elements alone) ≡ file_unit alone (name_of text tokens (own_name alone)) ∷ []
unfolding own_name
one_unit true text tokens = refl
one_unit false text tokens = refl

module _ (alone : Bool) (used digits : List ℕ) (noted : Bool) (of_used : AreDigits used) (of_own : AreDigits digits) where
  fits : are_parts (file_parts alone used digits noted) [] ≡ true
  fits = file_fits alone used digits noted (all_word_bytes used of_used.all) (all_word_bytes digits of_own.all)

  text_is : file_text alone used digits noted ≡ joined (file_parts alone used digits noted) []
  text_is = sym (joined_file alone used digits noted)

  pub file_cut : IsCut (file_text alone used digits noted) (lexical_elements_from 0 (file_parts alone used digits noted))
  file_cut = parts_cut (file_text alone used digits noted) (file_parts alone used digits noted) text_is fits

  pub roles_of_file : roles_of (file_text alone used digits noted) (file_tokens alone (length used) (length digits)) ≡ file_roles alone
  roles_of_file =
      ap (λ (tokens : List Token). roles_of (file_text alone used digits noted) tokens) (sym (file_indices alone used digits noted))
      ∙ roles_are (file_text alone used digits noted) 0 (file_parts alone used digits noted) [] (rest_of (file_text alone used digits noted) (file_parts alone used digits noted) text_is) fits
      ∙ file_roles_are alone used digits noted of_used of_own

  pub names_of_file : map (name_in (file_text alone used digits noted)) (file_tokens alone (length used) (length digits)) ≡ names_in (file_parts alone used digits noted)
  names_of_file =
      ap (λ (tokens : List Token). map (name_in (file_text alone used digits noted)) tokens) (sym (file_indices alone used digits noted))
      ∙ names_are (file_text alone used digits noted) 0 (file_parts alone used digits noted) [] (rest_of (file_text alone used digits noted) (file_parts alone used digits noted) text_is)

  own_name_is : name_of (file_text alone used digits noted) (file_tokens alone (length used) (length digits)) (own_name alone) ≡ 112 ∷ digits
  own_name_is =
      name_at (file_text alone used digits noted) (file_tokens alone (length used) (length digits)) (names_in (file_parts alone used digits noted)) (own_name alone) names_of_file
      ∙ own_named alone used digits noted (name_in (file_text alone used digits noted) (record { kind = High; start = 0; end = 0 })) of_own

  pub units_of_file : units_of (file_text alone used digits noted) (file_tokens alone (length used) (length digits)) (file_elements alone) ≡ file_unit alone (112 ∷ digits) ∷ []
  units_of_file = one_unit alone (file_text alone used digits noted) (file_tokens alone (length used) (length digits)) ∙ ap (λ (name : List ℕ). file_unit alone name ∷ []) own_name_is

  pub file_scan : IsScanOf (file_text alone used digits noted) (record { tokens = record { list = file_tokens alone (length used) (length digits); comments = file_comments alone (length used) (length digits) noted }; units = file_unit alone (112 ∷ digits) ∷ [] })
  file_scan = record {
    tokens = (lexical_elements_from 0 (file_parts alone used digits noted), file_cut, record { list = sym (file_indices alone used digits noted); comments = sym (file_notes alone used digits noted) });
    elements = file_elements alone;
    outline = subst (λ (roles : List Role). IsOutline roles (file_elements alone)) (sym roles_of_file) (file_outline alone);
    units = sym units_of_file;
  }

-- ## The digits of numbers

pub half_small : (number : ℕ) → number < 2 ^ 64 → number / 2 < 2 ^ 64
half_small number small = omega (arith, small)

pub package_is_scan : (number : ℕ) (noted : Bool) → number < 2 ^ 64 → IsScanOf (package_text number noted) (package_scan number noted)
package_is_scan number noted small = file_scan (is_alone number) (decimal (number / 2)) (decimal number) noted (decimal_digits (number / 2) (half_small number small)) (decimal_digits number small)

pub package_found : (scan : List ℕ → Finding) (number : ℕ) (noted : Bool) → IsScanner scan → number < 2 ^ 64 → scan (package_text number noted) ≡ Clean (package_scan number noted)
package_found scan number noted scans small = one_finding (package_text number noted) (scan (package_text number noted)) (Clean (package_scan number noted)) (scans (package_text number noted)) (package_is_scan number noted small)

pub package_roles : (number : ℕ) (noted : Bool) → number < 2 ^ 64 → roles_of (package_text number noted) (package_tokens number) ≡ file_roles (is_alone number)
package_roles number noted small = roles_of_file (is_alone number) (decimal (number / 2)) (decimal number) noted (decimal_digits (number / 2) (half_small number small)) (decimal_digits number small)
