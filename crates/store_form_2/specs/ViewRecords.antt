-- Records of views: whose record one is, the latest record of each name, and when two views are the same.
use Rattle.std.specs.Prelude.{◌-◌, Bool, false, ◌&&◌, if◌then◌else◌, List, [], ◌∷◌, length, slice_get, nat_eq, Option, Some, None}
use Rattle.std.specs.List.{list_any}
use Rattle.std.specs.Option.{option_or, option_map_or}
use Rattle.std.specs.Str.{bytes_eq}
use Rattle.std.specs.Cmp.Lexicographic.{pointwise}
use Rattle.base.specs.declared.file.FileName.{FileName}
use Rattle.base.specs.declared.graph.Entry.{Entry}
use Rattle.base.specs.Names.{is_same_name}
use Rattle.store_form_2.specs.declared.kept_view.Record.{Record as ViewRecord}

-- the file that a view is of: its last
abbrev pub last_file : List Entry → Option Entry
last_file view = slice_get view (length view - 1)

-- the view of a record ends in this name
abbrev pub ends_in : FileName → ViewRecord → Bool
ends_in name kept = option_map_or (λ entry. is_same_name entry.name name) (last_file kept.view) false

-- the last record of a view that ends in a name
unfoldable pub latest_view : FileName → List ViewRecord → Option ViewRecord
latest_view name [] = None
latest_view name (first ∷ rest) = option_or (latest_view name rest) (if ends_in name first then Some first else None)

-- the view of a later record ends in the same name
abbrev pub is_followed : List ViewRecord → ViewRecord → Bool
is_followed later kept = option_map_or (λ entry. list_any (ends_in entry.name) later) (last_file kept.view) false

-- the latest record of each name, in their order
unfoldable pub latest_views : List ViewRecord → List ViewRecord
latest_views [] = []
latest_views (first ∷ rest) = if is_followed rest first then latest_views rest else first ∷ latest_views rest

-- the same name, words, text and dependencies
abbrev pub is_same_entry : Entry → Entry → Bool
is_same_entry a b = is_same_name a.name b.name && pointwise bytes_eq a.command b.command && bytes_eq a.text b.text && pointwise nat_eq a.deps b.deps

-- the same files in the same order
unfoldable pub is_same_view : List Entry → List Entry → Bool
is_same_view a b = pointwise is_same_entry a b
