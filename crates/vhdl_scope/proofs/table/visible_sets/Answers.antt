-- The rows of what the units say are what they see.
use Rattle.std.proofs.Common.{◌≡◌, ◌∙◌, ℕ, List, arith, length, subst, sym, take}
use Rattle.vhdl_spec.specs.Visibility.{ScopeUnit, scope_units}
use Rattle.vhdl_outline.specs.declared.outlines.UnitScope.{UnitScope}
use Rattle.vhdl_outline.proofs.OutlineLemmas.{scopes_kept}
use Rattle.vhdl_scope.specs.declared.links.Link.{Link}
use Rattle.vhdl_scope.specs.Names.{keys_of}
use Rattle.vhdl_scope.specs.Owned.{IsOwnedBy}
use Rattle.vhdl_scope.specs.Tables.{AreVisible, table_of}
use Rattle.vhdl_scope.specs.Exact.{AreGrown, AreLinked}
use Rattle.vhdl_scope.proofs.ScopeLemmas.{as_long, scopes_are}
use Rattle.vhdl_scope.proofs.TableLemmas.{visible}
use Rattle.vhdl_scope.proofs.table.visible_sets.Goals as goal

pub linked-requires-clause-grouped : goal.linked-requires-clause-grouped
linked-requires-clause-grouped c scans are = (c.in_ok-starts.ensures c.args.texts.now scans are.files).grouped

pub grown_rows-requires-clause-linked : goal.grown_rows-requires-clause-linked
grown_rows-requires-clause-linked c scans are =
    subst (λ (links : List (List Link)). AreLinked (scope_units c.args.project.now.files c.args.texts.now scans) (keys_of c.in_ok-names.names) c.len-count.result links) (sym c.as_slice-2.ensures.value)
    (subst (λ (count : ℕ). AreLinked (scope_units c.args.project.now.files c.args.texts.now scans) (keys_of c.in_ok-names.names) count c.in_ok-links.links.items) (sym c.len-count.ensures.len) (c.in_ok-links.ensures scans are))

pub returns : goal.returns
returns c scans are =
    let grouped = (c.in_ok-starts.ensures c.args.texts.now scans are.files).grouped in
    let users : List ScopeUnit = scope_units c.args.project.now.files c.args.texts.now scans in
    let long : length c.in_ok-starts.field-0.owned.items ≡ length users = as_long (IsOwnedBy grouped.keeps c.in_ok-starts.field-0.groups) c.in_ok-starts.field-0.owned.items users grouped.grouped.each in
    let counted : c.len-units.result ≡ length users = omega (arith, c.len-units.ensures, long) in
    let rows : c.shrink_to_fit.new.self.items ≡ take c.len-units.result c.in_ok-rows.rows.items = c.shrink_to_fit.ensures.items ∙ c.truncate.ensures.items in
    subst (λ (kept : List (List ℕ)). AreVisible c.args.project.now.files c.args.texts.now scans (table_of c.in_ok-starts.field-0.starts.items (keys_of c.in_ok-names.names) kept)) (sym rows)
    (visible c.args.project.now.files c.args.texts.now scans c.in_ok-starts.field-0 (keys_of c.in_ok-names.names) c.in_ok-rows.rows.items c.len-units.result counted (c.in_ok-starts.ensures c.args.texts.now scans are.files)
    (subst (λ (units : List UnitScope). AreGrown units (scope_units c.args.project.now.files c.args.texts.now scans) (keys_of c.in_ok-names.names) c.in_ok-rows.rows.items)
    (scopes_kept c.args.texts.now scans c.args.outlines.now.files are.files ∙ scopes_are c.args.project.now.files c.args.texts.now scans c.requires.each) (c.in_ok-rows.ensures scans are)))
