-- What a scanner finds in the file of the bench, and what its units refer to, by computation.
use Rattle.std.proofs.Common.{◌≡◌, ℕ, ◌+◌, ◌*◌, true, List, [], ◌∷◌, ◌++◌, refl, sym, ap, subst, ◌∙◌, arith}
use Rattle.std.specs.Prelude.{codes}
use Rattle.base.specs.declared.design.Role.{Role}
use Rattle.base.specs.declared.design.Role.TheVariants.{Name}
use Rattle.base.specs.declared.project.ProjectFile.{ProjectFile}
use Rattle.vhdl_spec.proofs.OneFinding.{one_finding}
use Rattle.vhdl_spec.specs.Dependencies.{link_unit}
use Rattle.vhdl_spec.specs.Scans.{Finding, Clean, IsScanner, IsScanOf}
use Rattle.vhdl_spec.specs.Tokens.{IsCut, tokens_of, comments_of}
use Rattle.vhdl_spec.specs.Units.{IsOutline, IsOwner, role_at, roles_of, units_of, word_role}
use Rattle.vhdl_spec.specs.Words.{reserved_words}
use Rattle.generated_project.specs.Files.{bench_head, bench_body}
use Rattle.generated_sources.proofs.PackageOutlines.{first_semicolon, quiet_items}
use Rattle.generated_sources.proofs.PackageParts.{blank, sign, word}
use Rattle.generated_sources.proofs.Parts.{Part, quoted, are_parts, joined, lexical_elements_from}
use Rattle.generated_sources.proofs.LexicalElements.{parts_cut}
use Rattle.generated_sources.specs.BenchScans.{architecture_link, bench_architecture, bench_elements, bench_entity, bench_entity_name, bench_roles, bench_scan, bench_file_tokens, entity_link}
use Rattle.generated_sources.specs.PackageLinks.{used_library}

abbrev string : List ℕ → Part
string bytes = record { kind = quoted; bytes = bytes }

unfoldable bench_parts : List Part
bench_parts =
    word (codes "library") ∷ blank 32 ∷ word (codes "lib") ∷ sign 59 ∷ blank 10 ∷ word (codes "use") ∷ blank 32 ∷
    word (codes "lib") ∷ sign 46 ∷ word (codes "p1") ∷ sign 46 ∷ word (codes "all") ∷ sign 59 ∷ blank 10 ∷
    word (codes "entity") ∷ blank 32 ∷ word (codes "tb") ∷ blank 32 ∷ word (codes "is") ∷ blank 32 ∷
    word (codes "generic") ∷ blank 32 ∷ sign 40 ∷ word (codes "runner_cfg") ∷ blank 32 ∷ sign 58 ∷ blank 32 ∷
    word (codes "string") ∷ sign 41 ∷ sign 59 ∷ blank 32 ∷ word (codes "end") ∷ sign 59 ∷ blank 10 ∷
    word (codes "architecture") ∷ blank 32 ∷ word (codes "a") ∷ blank 32 ∷ word (codes "of") ∷ blank 32 ∷
    word (codes "tb") ∷ blank 32 ∷ word (codes "is") ∷ blank 32 ∷ word (codes "begin") ∷ blank 10 ∷ blank 32 ∷
    blank 32 ∷ word (codes "x") ∷ blank 32 ∷ sign 60 ∷ sign 61 ∷ blank 32 ∷ word (codes "run") ∷ sign 40 ∷
    string (codes "\"one\"") ∷ sign 41 ∷ sign 59 ∷ blank 10 ∷ blank 32 ∷ blank 32 ∷ word (codes "y") ∷ blank 32 ∷
    sign 60 ∷ sign 61 ∷ blank 32 ∷ word (codes "run") ∷ sign 40 ∷ string (codes "\"two\"") ∷ sign 41 ∷ sign 59 ∷
    blank 10 ∷ word (codes "end") ∷ sign 59 ∷ blank 10 ∷ []

text_is : bench_head ++ bench_body ≡ joined bench_parts []
unfolding bench_parts bench_head bench_body
text_is = refl

fits : are_parts bench_parts [] ≡ true
unfolding bench_parts
fits = refl

bench_cut : IsCut (bench_head ++ bench_body) (lexical_elements_from 0 bench_parts)
bench_cut = parts_cut (bench_head ++ bench_body) bench_parts text_is fits

tokens_are : bench_file_tokens ≡ tokens_of (lexical_elements_from 0 bench_parts)
unfolding bench_parts
tokens_are = refl

no_comments : [] ≡ comments_of (lexical_elements_from 0 bench_parts)
unfolding bench_parts
no_comments = refl

pub bench_roles_are : roles_of (bench_head ++ bench_body) bench_file_tokens ≡ bench_roles
unfolding bench_head bench_body word_role reserved_words
bench_roles_are = refl

owner_is : IsOwner bench_roles 25 0
owner_is = record {
  names = λ n least. let same : 25 ≡ 25 + 2 * n = omega (arith, least) in ap (role_at bench_roles) (sym same) ∙ first;
  dots = λ n less. absurd (omega (arith, less));
  is_after = refl;
} where
  first : role_at bench_roles 25 ≡ Name
  first = refl

outline : IsOutline bench_roles bench_elements
outline = (
  (refl, first_semicolon bench_roles 1 1 2 refl refl refl),
  (
    (refl, first_semicolon bench_roles 4 5 9 refl refl refl),
    (
      (refl, record { close = 20; inside = quiet_items bench_roles 13 13 7 20 refl refl; ends = record { word = refl; what = refl }; semicolon = first_semicolon bench_roles 21 0 21 refl refl refl }),
      (
        (refl, owner_is, record { close = 44; inside = quiet_items bench_roles 27 27 17 44 refl refl; ends = record { word = refl; what = refl }; semicolon = first_semicolon bench_roles 45 0 45 refl refl refl }),
        refl,
      ),
    ),
  ),
)

units_are : bench_entity ∷ bench_architecture ∷ [] ≡ units_of (bench_head ++ bench_body) bench_file_tokens bench_elements
unfolding bench_head bench_body bench_entity_name
units_are = refl

pub bench_is_scan : IsScanOf (bench_head ++ bench_body) bench_scan
bench_is_scan = record {
  tokens = (lexical_elements_from 0 bench_parts, bench_cut, record { list = tokens_are; comments = no_comments });
  elements = bench_elements;
  outline = subst (λ (roles : List Role). IsOutline roles bench_elements) (sym bench_roles_are) outline;
  units = units_are;
}

pub bench_found : (scan : List ℕ → Finding) → IsScanner scan → scan (bench_head ++ bench_body) ≡ Clean bench_scan
bench_found scan scans = one_finding (bench_head ++ bench_body) (scan (bench_head ++ bench_body)) (Clean bench_scan) (scans (bench_head ++ bench_body)) bench_is_scan

pub entity_linked : (position : ℕ) (file : ProjectFile) → link_unit position file (bench_head ++ bench_body) bench_scan bench_entity ≡ entity_link position file
unfolding bench_head bench_body bench_entity_name used_library word_role reserved_words
entity_linked position file = refl

pub architecture_linked : (position : ℕ) (file : ProjectFile) → link_unit position file (bench_head ++ bench_body) bench_scan bench_architecture ≡ architecture_link position file
unfolding bench_head bench_body bench_entity_name used_library word_role reserved_words
architecture_linked position file = refl
