-- A request that was written file by file is the one of all its files.
use Rattle.std.proofs.Common.{◌≡◌, ℕ, List, ◌++◌, length, ap, ◌∙◌}
use Rattle.std.specs.Prelude.{codes}
use Rattle.std.specs.List.{flat_map}
use Rattle.std.proofs.lemmas.List.{append_assoc}
use Rattle.base.specs.declared.file.FileName.{FileName}
use Rattle.base.specs.declared.graph.BuiltFile.{BuiltFile}
use Rattle.base.specs.Bytes.{number_bytes, text_bytes}
use Rattle.base.specs.Jobs.{name_bytes, built_bytes, all_built_bytes, compile_input}
use Rattle.child_compile_request.specs.Written.{begun_input}

pub compile_input-is : (name : FileName) (text : List ℕ) (files : List BuiltFile) → begun_input name text (length files) ++ flat_map built_bytes files ≡ compile_input name text files
unfolding begun_input compile_input all_built_bytes
compile_input-is name text files =
    let rest : List ℕ = flat_map built_bytes files in
    let count : List ℕ = number_bytes (length files) in
    append_assoc (codes "VRC1") (name_bytes name ++ (text_bytes text ++ count)) rest
    ∙ ap (λ (l : List ℕ). codes "VRC1" ++ l) (append_assoc (name_bytes name) (text_bytes text ++ count) rest ∙ ap (λ (l : List ℕ). name_bytes name ++ l) (append_assoc (text_bytes text) count rest))
