-- The test for equal inputs of a compiler decides whether they are equal.
use Rattle.std.proofs.Common.{◌≡◌, ℕ, List, ap, ◌∙◌}
use Rattle.std.specs.Bool.{Decides}
use Rattle.std.specs.Cmp.Lexicographic.{pointwise_decides}
use Rattle.std.proofs.lemmas.Bool.{and_parts, and_from}
use Rattle.std.proofs.lemmas.Slice.Eq.{bytes_eq-Decides}
use Rattle.base.specs.declared.file.FileName.{FileName}
use Rattle.base.specs.declared.graph.BuiltFile.{BuiltFile}
use Rattle.base.specs.Names.{is_same_name}
use Rattle.outside.specs.Records.{Asked}
use Rattle.run_spec.specs.Recorded.{is_same_built, is_same_asked}

pub same_names : (a b : FileName) → Decides (is_same_name a b) (a ≡ b)
same_names a b =
    let library = bytes_eq-Decides a.library b.library in
    let path = bytes_eq-Decides a.path b.path in (
      λ t.
          let parts = and_parts _ _ t in
          ap (λ (bytes : List ℕ). record { library = bytes; path = a.path }) (library.0 parts.0) ∙ ap (λ (bytes : List ℕ). record { library = b.library; path = bytes }) (path.0 parts.1),
      λ e. and_from _ _ (library.1 (ap (λ (n : FileName). n.library) e)) (path.1 (ap (λ (n : FileName). n.path) e)),
    )

pub same_built_files : (a b : BuiltFile) → Decides (is_same_built a b) (a ≡ b)
same_built_files a b =
    let name = same_names a.name b.name in
    let artefact = bytes_eq-Decides a.artefact b.artefact in (
      λ t.
          let parts = and_parts _ _ t in
          ap (λ (n : FileName). record { name = n; artefact = a.artefact }) (name.0 parts.0) ∙ ap (λ (bytes : List ℕ). record { name = b.name; artefact = bytes }) (artefact.0 parts.1),
      λ e. and_from _ _ (name.1 (ap (λ (x : BuiltFile). x.name) e)) (artefact.1 (ap (λ (x : BuiltFile). x.artefact) e)),
    )

pub same_asked : (a b : Asked) → Decides (is_same_asked a b) (a ≡ b)
unfolding is_same_asked
same_asked a b =
    let command = pointwise_decides bytes_eq-Decides a.command b.command in
    let name = same_names a.name b.name in
    let text = bytes_eq-Decides a.text b.text in
    let below = pointwise_decides same_built_files a.below b.below in (
      λ t.
          let last = and_parts _ _ t in
          let middle = and_parts _ _ last.0 in
          let first = and_parts _ _ middle.0 in
          ap (λ (words : List (List ℕ)). record { command = words; name = a.name; text = a.text; below = a.below }) (command.0 first.0)
          ∙ ap (λ (n : FileName). record { command = b.command; name = n; text = a.text; below = a.below }) (name.0 first.1)
          ∙ ap (λ (bytes : List ℕ). record { command = b.command; name = b.name; text = bytes; below = a.below }) (text.0 middle.1)
          ∙ ap (λ (files : List BuiltFile). record { command = b.command; name = b.name; text = b.text; below = files }) (below.0 last.1),
      λ e.
          and_from _ _ (and_from _ _ (and_from _ _ (command.1 (ap (λ (x : Asked). x.command) e)) (name.1 (ap (λ (x : Asked). x.name) e))) (text.1 (ap (λ (x : Asked). x.text) e)))
          (below.1 (ap (λ (x : Asked). x.below) e)),
    )
