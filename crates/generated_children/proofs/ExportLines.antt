-- An artefact of a package exports the package.
use Rattle.std.proofs.Common.{◌≡◌, ℕ, ◌^◌, ◌<◌, Bool, true, false, not, ◌&&◌, ◌||◌, ◌==◌, List, [], ◌∷◌, ◌++◌, Option, Some, refl, sym, ap, ◌∙◌, arith, append_assoc}
use Rattle.std.specs.Prelude.{All}
use Rattle.std.specs.Char.{is_ascii_digit}
use Rattle.std.specs.Fmt.{decimal}
use Rattle.std.specs.List.{list_all, list_any}
use Rattle.std.specs.Option.{option_map_or}
use Rattle.std.specs.Str.{bytes_eq}
use Rattle.std.proofs.lemmas.Bool.Decides.{nat_tests}
use Rattle.std.proofs.lemmas.List.Elements.{All-cons, All-nil}
use Rattle.std.proofs.lemmas.List.Splits.{slice_split_at}
use Rattle.std.proofs.lemmas.Slice.Eq.{bytes_eq-Decides}
use Rattle.child_lines.specs.Lines.{after_word, lines}
use Rattle.child_tools.specs.Exports.{exported_by, exports_unit, is_export}
use Rattle.generated_sources.proofs.ByteTests.{both_of, not_false}
use Rattle.generated_sources.proofs.Digits.{decimal_digits}
use Rattle.generated_sources.specs.PackageScans.{package_name}
use Rattle.generated_children.specs.CompiledTexts.{named_artefact, package_artefact, script_lines, package_line_words}

-- ## Lines

abbrev ends_line : ℕ → Bool
ends_line byte = byte == 10

abbrev in_line : ℕ → Bool
in_line byte = not (ends_line byte)

abbrev IsInLine : ℕ → Type 0
IsInLine byte = ends_line byte ≡ false

digit_in_line : (byte : ℕ) → is_ascii_digit byte ≡ true → in_line byte ≡ true
digit_in_line byte is = grind (arith, nat_tests)

digits_in_line : (digits : List ℕ) → list_all is_ascii_digit digits ≡ true → list_all in_line digits ≡ true
digits_in_line [] all = refl
digits_in_line (byte ∷ digits) all =
    let both = both_of (is_ascii_digit byte) (list_all is_ascii_digit digits) all in
    ap (λ (test : Bool). test && list_all in_line digits) (digit_in_line byte both.0) ∙ digits_in_line digits both.1

all_in_line : (bytes : List ℕ) → list_all in_line bytes ≡ true → All IsInLine bytes
all_in_line [] all = All-nil IsInLine
all_in_line (byte ∷ bytes) all =
    let both = both_of (in_line byte) (list_all in_line bytes) all in
    All-cons IsInLine byte bytes (not_false (ends_line byte) both.0) (all_in_line bytes both.1)

module _ (name : List ℕ) (plain : list_all in_line name ≡ true) (noted : Bool) where
  line_plain : All IsInLine (package_line_words ++ name)
  unfolding package_line_words
  line_plain = all_in_line (package_line_words ++ name) plain

  first_line : lines (named_artefact name noted) ≡ (package_line_words ++ name) ∷ lines (script_lines noted)
  first_line =
      ap lines (sym (append_assoc package_line_words name (10 ∷ script_lines noted)))
      ∙ slice_split_at ends_line (package_line_words ++ name) 10 (script_lines noted) line_plain refl

  line_exports : exported_by (package_line_words ++ name) ≡ Some name
  unfolding exported_by after_word package_line_words
  line_exports = refl

  is_exported : is_export name (package_line_words ++ name) ≡ true
  is_exported = ap (λ (found : Option (List ℕ)). option_map_or (λ other. bytes_eq other name) found false) line_exports ∙ (bytes_eq-Decides name name).1 refl

  named_exports : exports_unit (named_artefact name noted) name ≡ true
  named_exports =
      ap (list_any (is_export name)) first_line
      ∙ ap (λ (test : Bool). test || list_any (is_export name) (lines (script_lines noted))) is_exported

pub package_exports : (number : ℕ) (noted : Bool) → number < 2 ^ 64 → exports_unit (package_artefact number noted) (package_name number) ≡ true
package_exports number noted small = named_exports (package_name number) (digits_in_line (decimal number) (decimal_digits number small).all) noted
