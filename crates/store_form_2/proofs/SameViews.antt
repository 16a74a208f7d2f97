-- The test of two views tells whether they are the same.
use Rattle.std.proofs.Common.{◌≡◌, ℕ, List, ap, ◌∙◌}
use Rattle.std.specs.Bool.{Decides}
use Rattle.std.specs.Cmp.{unsigned_Decides}
use Rattle.std.specs.Cmp.Lexicographic.{pointwise_decides}
use Rattle.std.proofs.lemmas.Bool.{and_parts, and_from}
use Rattle.std.proofs.lemmas.Slice.Eq.{bytes_eq-Decides}
use Rattle.base.specs.declared.file.FileName.{FileName}
use Rattle.base.specs.declared.graph.Entry.{Entry}
use Rattle.base.specs.Names.{is_same_name}
use Rattle.store_form_2.specs.ViewRecords.{is_same_entry, is_same_view}

pub same_names : (a b : FileName) → Decides (is_same_name a b) (a ≡ b)
same_names a b =
    let library = bytes_eq-Decides a.library b.library in
    let path = bytes_eq-Decides a.path b.path in (
      λ t.
          let parts = and_parts _ _ t in
          ap (λ (bytes : List ℕ). record { library = bytes; path = a.path }) (library.0 parts.0) ∙ ap (λ (bytes : List ℕ). record { library = b.library; path = bytes }) (path.0 parts.1),
      λ e. and_from _ _ (library.1 (ap (λ (n : FileName). n.library) e)) (path.1 (ap (λ (n : FileName). n.path) e)),
    )

same_entries : (a b : Entry) → Decides (is_same_entry a b) (a ≡ b)
same_entries a b =
    let name = same_names a.name b.name in
    let command = pointwise_decides bytes_eq-Decides a.command b.command in
    let text = bytes_eq-Decides a.text b.text in
    let deps = pointwise_decides unsigned_Decides a.deps b.deps in (
      λ t.
          let last = and_parts _ _ t in
          let middle = and_parts _ _ last.0 in
          let first = and_parts _ _ middle.0 in
          ap (λ (n : FileName). record { name = n; command = a.command; text = a.text; deps = a.deps }) (name.0 first.0)
          ∙ ap (λ (words : List (List ℕ)). record { name = b.name; command = words; text = a.text; deps = a.deps }) (command.0 first.1)
          ∙ ap (λ (bytes : List ℕ). record { name = b.name; command = b.command; text = bytes; deps = a.deps }) (text.0 middle.1)
          ∙ ap (λ (positions : List ℕ). record { name = b.name; command = b.command; text = b.text; deps = positions }) (deps.0 last.1),
      λ e.
          and_from _ _ (and_from _ _ (and_from _ _ (name.1 (ap (λ (x : Entry). x.name) e)) (command.1 (ap (λ (x : Entry). x.command) e))) (text.1 (ap (λ (x : Entry). x.text) e)))
          (deps.1 (ap (λ (x : Entry). x.deps) e)),
    )

pub same_views : (a b : List Entry) → Decides (is_same_view a b) (a ≡ b)
unfolding is_same_view
same_views a b = pointwise_decides same_entries a b
