-- Those of its files, and those outside.
use Rattle.std.proofs.Common.{◌∙◌, ◌||◌, ℕ, List, ap}
use Rattle.std.specs.List.{list_any}
use Rattle.std.specs.Str.{bytes_eq}
use Rattle.base.specs.declared.project.ProjectFile.{ProjectFile}
use Rattle.vhdl_spec.specs.Dependencies.{is_one_of}
use Rattle.vhdl_graph.specs.Libraries.{always_external}
use Rattle.vhdl_graph.proofs.RowLemmas.{files_of}
use Rattle.vhdl_graph.proofs.libraries.libraries_of.Goals as goal

pub returns : goal.returns
returns c = record {
  own = λ name. c.in_ok-own_names.ensures name ∙ (ap (λ (files : List ProjectFile). list_any (λ file. bytes_eq name file.name.library) files) c.as_slice.ensures ∙ files_of c.args.project.now.files name);
  external = λ name. c.in_ok-external_names.ensures name ∙ ap (λ (list : List (List ℕ)). is_one_of list name || is_one_of always_external name) c.as_slice-2.ensures;
}
