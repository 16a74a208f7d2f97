-- A path of a project is a name.
use Rattle.std.proofs.Common.{ℕ, ◌≡◌, true, List, length}
use Rattle.std.proofs.lemmas.Bool.{and_parts, leb-true}
use Rattle.std.proofs.lemmas.Str.{IsUtf8-from_is_utf8}
use Rattle.base.specs.declared.limits.TheConstants.{PATH_LIMIT}
use Rattle.outside.specs.Trees.{IsName}
use Rattle.project_file.specs.Csv.{is_path}

pub path_name : (path : List ℕ) → is_path path ≡ true → IsName path
path_name path is =
    let parts = and_parts _ _ is in
    let sizes = and_parts _ _ (and_parts _ _ (and_parts _ _ parts.0).0).0 in
    record { some = leb-true 1 (length path) sizes.0; short = leb-true (length path) PATH_LIMIT sizes.1; text = IsUtf8-from_is_utf8 path parts.1 }
