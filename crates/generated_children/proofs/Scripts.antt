-- What the comment of an edited file says to the compiler: its one script line is `note 1`, which refuses nothing.
use Rattle.std.proofs.Common.{◌≡◌, ℕ, ◌+◌, Bool, true, false, List, [], ◌∷◌, ◌++◌, length, Option, Some, None, refl, sym, ap, subst, append_assoc}
use Rattle.std.specs.Prelude.{codes, slice_get}
use Rattle.std.specs.List.{cons_option, flat_map}
use Rattle.std.specs.Option.{option_and_then, option_map_or}
use Rattle.base.specs.declared.lexical.Span.{Span}
use Rattle.child_lines.specs.Lines.{after_word}
use Rattle.child_tools.specs.Artefacts.{comment_line, script_line}
use Rattle.child_tools.specs.Scripts.{first_refusal, refusal_at, script_at}
use Rattle.generated_project.specs.Files.{note_line}
use Rattle.generated_sources.proofs.PackageParts.{file_text}
use Rattle.generated_sources.proofs.Rests.{IsRest, rest_range}
use Rattle.generated_sources.specs.PackageScans.{file_comments, lines_end, package_start}
use Rattle.generated_children.proofs.Sizes.{lines_before, own_lines, package_index}
use Rattle.generated_children.specs.CompiledTexts.{script_lines, script_words}

abbrev comment : List ℕ
comment = codes "-- child: note 1"

note_is : note_line ≡ comment ++ 10 ∷ []
unfolding note_line
note_is = refl

module _ (alone : Bool) (used digits : List ℕ) where
  abbrev text : List ℕ
  text = file_text alone used digits true

  abbrev offset : ℕ
  offset = lines_end (package_start alone (length used)) (length digits)

  abbrev span : Span
  span = record { start = offset; end = offset + 16 }

  comment_is_there : IsRest text offset (comment ++ 10 ∷ [])
  comment_is_there = subst (IsRest text offset) note_is (record {
    before = lines_before alone used ++ own_lines digits;
    whole = sym (append_assoc (lines_before alone used) (own_lines digits) note_line);
    offset = package_index alone used digits;
  })

  script_is : script_at text span ≡ Some (codes "note 1")
  unfolding after_word
  script_is = ap (after_word (codes "-- child: ")) (rest_range text offset comment (10 ∷ []) comment_is_there)

  not_refused : refusal_at text span ≡ None
  unfolding after_word
  not_refused = ap (option_and_then (after_word (codes "refuse "))) script_is

  script_line_is : flat_map (comment_line text) (span ∷ []) ≡ script_words
  unfolding script_line script_words
  script_line_is = ap (λ (line : Option (List ℕ)). option_map_or script_line line [] ++ []) script_is

pub none_refused : (alone : Bool) (used digits : List ℕ) (noted : Bool) → first_refusal (file_text alone used digits noted) (file_comments alone (length used) (length digits) noted) ≡ None
none_refused alone used digits true = ap (λ (line : Option (List ℕ)). slice_get (cons_option line []) 0) (not_refused alone used digits)
none_refused alone used digits false = refl

pub scripts_are : (alone : Bool) (used digits : List ℕ) (noted : Bool) → flat_map (comment_line (file_text alone used digits noted)) (file_comments alone (length used) (length digits) noted) ≡ script_lines noted
scripts_are alone used digits true = script_line_is alone used digits
scripts_are alone used digits false = refl
