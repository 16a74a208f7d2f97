-- The files are the parts of the text.
use Rattle.std.proofs.Common.{◌≡◌, ◌∙◌, ℕ, Bool, List, ap, codes, length, subst, sym}
use Rattle.std.specs.List.{All}
use Rattle.base.specs.declared.design.Scan.{Scan}
use Rattle.base.specs.declared.project.ProjectFile.{ProjectFile}
use Rattle.vhdl_spec.specs.Scans.{AreScansOf}
use Rattle.vhdl_spec.specs.Visibility.{ScopeUnit, scope_units, sees as unit_sees}
use Rattle.vhdl_scope.specs.Tables.{IsUnitAt}
use Rattle.bench_library.specs.Projects.{HasSight, parts_at}
use Rattle.bench_library.proofs.scopes.first_sees.Goals as goal

told : (text ends library : List ℕ) (parts : List (List ℕ)) (files : List ProjectFile) (scans : List Scan) (seen : Bool) → parts ≡ parts_at text 0 ends → length files ≡ length parts → All (λ (file : ProjectFile). file.name.library ≡ codes "l") files → AreScansOf parts scans → ((user : ScopeUnit) → IsUnitAt files parts scans (record { file = 0; unit = 0 }) user → seen ≡ unit_sees (scope_units files parts scans) user library) → HasSight text ends library seen
told text ends library parts files scans seen same each library_is are exactly = record {
  files = files;
  each = each ∙ ap length same;
  library_is = library_is;
  scans = scans;
  are = subst (λ (p : List (List ℕ)). AreScansOf p scans) same are;
  exactly = subst (λ (p : List (List ℕ)). (user : ScopeUnit) → IsUnitAt files p scans (record { file = 0; unit = 0 }) user → seen ≡ unit_sees (scope_units files p scans) user library) same exactly;
}

pub returns : goal.returns
returns c =
    let outlined = c.in_ok-outlines.ensures in
    told c.args.text.now c.args.ends.now c.args.library.now c.in_ok-texts.texts c.project_of-project.result.files outlined.scans c.sees_library.result c.in_ok-texts.ensures.parts
    (ap length c.project_of-project.ensures ∙ (c.in_ok-files_of.ensures.each ∙ c.len.ensures))
    (subst (All (λ (file : ProjectFile). file.name.library ≡ codes "l")) (sym c.project_of-project.ensures) c.in_ok-files_of.ensures.library)
    outlined.scanned (λ user unit. c.sees_library.ensures ∙ (c.in_ok-sets.ensures outlined.scans outlined.are).sees (record { file = 0; unit = 0 }) user unit c.args.library.now)
