-- Rows of requests, sorted by rank: their requests are the ones that stand for the records of views.
use Rattle.std.proofs.Common.{◌≡◌, true, ◌+◌, ◌<◌, List, [], ◌∷◌, length, map, get_or, Option, Some, None, sym, ap, subst, refl, ◌∙◌, arith}
use Rattle.std.specs.Prelude.{ℕ, All, AllPairs, IsPermutation, IsSorted, is_some}
use Rattle.std.specs.Cmp.{IsTotalOrder, nat_cmp_total, on_total, then_total}
use Rattle.std.specs.Cmp.Lexicographic.{on_texts}
use Rattle.std.specs.List.{cons_option, filter_map}
use Rattle.std.specs.Option.{option_map, unwrap_or}
use Rattle.std.specs.Ordering.{is_lt, nat_cmp, ordering_then}
use Rattle.std.proofs.lemmas.List.{get_or-map, length-map}
use Rattle.std.proofs.lemmas.List.Elements.{All-head, All-tail}
use Rattle.std.proofs.lemmas.List.Sorted.{All-permutation, IsPermutation-map}
use Rattle.base.specs.declared.file.FileName.{FileName}
use Rattle.base.specs.declared.graph.BuiltFile.{BuiltFile}
use Rattle.outside.specs.Records.{Record}
use Rattle.store_form_2.specs.declared.kept_view.Record.{Record as ViewRecord}
use Rattle.store_form_2.specs.Nodes.{Node, node_file}
use Rattle.project_views.proofs.Parts.{map_map}
use Rattle.store_form_2.specs.ByNumber.{NodeRecord, built_node, named_by, node_request, numbered_node, unfolded_record}
use Rattle.store_form_2.specs.Migrating.{each_of, migrated_requests, rank_cmp, ranked, request_for, request_over}
use Rattle.store_form_2.specs.NodeRows.{AreOfNodes, no_record, row_request}
use Rattle.store_form_2.specs.RankedRows.{IsRankOf, name_cmp, row_cmp}
use Rattle.store_form_2.specs.ViewRecords.{latest_views}
use Rattle.store_form_2.specs.declared.ranks.RankedRow.{RankedRow}
use Rattle.store_form_2.proofs.Picking.{length_each}
use Rattle.store_form_2.proofs.RecordNodes.{node_at}
use Rattle.store_form_2.proofs.RankedOnce.{ranked_once}
use Rattle.store_form_2.proofs.Requests.{OfOtherName, apart}

pub row_total : IsTotalOrder row_cmp
row_total = then_total (on_total (λ (row : RankedRow). row.count) nat_cmp_total) (on_total (λ (row : RankedRow). row.name.now) (then_total (on_texts (λ (name : FileName). name.library)) (on_texts (λ (name : FileName). name.path))))

-- The rows of some records, and the same rows sorted by rank.
pub record AreRanked (nodes : List Node) (numbers rows ordered : List ℕ) : Type 0 where
  pub found : List RankedRow
  pub sorted : List RankedRow
  pub ranks : All (IsRankOf nodes numbers) found
  pub rows_of : map (λ row. row.row) found ≡ rows
  pub moved : IsPermutation found sorted
  pub rises : IsSorted row_cmp sorted
  pub ordered_of : ordered ≡ map (λ row. row.row) sorted

module _ (nodes : List Node) (numbers rows ordered : List ℕ) (are : AreRanked nodes numbers rows ordered) where
  rows_moved : IsPermutation rows ordered
  rows_moved =
      subst (λ (xs : List ℕ). IsPermutation xs ordered) are.rows_of
      (subst (IsPermutation (map (λ row. row.row) are.found)) (sym are.ordered_of) (IsPermutation-map (λ (row : RankedRow). row.row) are.found are.sorted are.moved))

  pub each_within : All (λ row. row < length numbers) rows → All (λ row. row < length numbers) ordered
  each_within all = All-permutation (λ row. row < length numbers) rows ordered rows_moved all

-- where all values are there, they are those of a function
picked_all : {X Y : Type 0} (f : X → Option Y) (d : Y) (xs : List X) → All (λ x. is_some (f x) ≡ true) xs → filter_map f xs ≡ map (λ x. unwrap_or (f x) d) xs
picked_all f d [] all = refl
picked_all {X} {Y} f d (x ∷ xs) all = first (f x) (All-head (λ (y : X). is_some (f y) ≡ true) x xs all) ∙ ap (λ (ys : List Y). unwrap_or (f x) d ∷ ys) (picked_all f d xs (All-tail (λ (y : X). is_some (f y) ≡ true) x xs all)) where
  first : (o : Option Y) → is_some o ≡ true → cons_option o (filter_map f xs) ≡ unwrap_or o d ∷ filter_map f xs
  first None e = absurd (let nothing : ⊥ = cc in nothing)
  first (Some y) e = refl

abbrev no_request : Record
no_request = record { asked = record { command = []; name = record { library = []; path = [] }; text = []; below = [] }; artefact = [] }

-- how many files a request is over, and its name
record IsOver (count : ℕ) (name : FileName) (kept : Record) : Type 0 where
  files : length kept.asked.below ≡ count
  own : kept.asked.name ≡ name

module _ (texts : List (List ℕ)) (nodes : List Node) (numbers : List ℕ) (records : List NodeRecord) (of : AreOfNodes numbers records) where
  abbrev request_at : ℕ → Option Record
  request_at row = row_request texts nodes records row

  abbrev request_of : ℕ → Record
  request_of row = unwrap_or (request_at row) no_request

  abbrev IsThere : ℕ → Type 0
  IsThere row = is_some (request_at row) ≡ true

  over : (kept : NodeRecord) → is_some (node_request texts nodes records kept) ≡ true
      → IsOver (length (numbered_node nodes kept.node).deps) (named_by nodes kept.node) (unwrap_or (node_request texts nodes records kept) no_request)
  unfolding node_request
  over kept there = from (each_of (map (built_node nodes records) (numbered_node nodes kept.node).deps)) refl there where
    from : (built : Option (List BuiltFile)) → each_of (map (built_node nodes records) (numbered_node nodes kept.node).deps) ≡ built
        → is_some (option_map (request_over (node_file texts (numbered_node nodes kept.node)) kept.artefact) built) ≡ true
        → IsOver (length (numbered_node nodes kept.node).deps) (named_by nodes kept.node) (unwrap_or (option_map (request_over (node_file texts (numbered_node nodes kept.node)) kept.artefact) built) no_request)
    from None is e = absurd (let nothing : ⊥ = cc in nothing)
    from (Some built) is e = record { files = length_each (built_node nodes records) (numbered_node nodes kept.node).deps built is; own = refl }

  -- a row has what its request is ranked by
  ranked_by : (row : RankedRow) → IsRankOf nodes numbers row → IsThere row.row → IsOver row.count row.name.now (request_of row.row)
  ranked_by row is there =
      let kept : NodeRecord = get_or records row.row no_record in
      let node : kept.node ≡ get_or numbers row.row 0 = node_at numbers records of row.row is.within in
      let told : IsOver (length (numbered_node nodes kept.node).deps) (named_by nodes kept.node) (request_of row.row) = over kept there in
      record {
        files = told.files ∙ ap (λ (n : ℕ). length (numbered_node nodes n).deps) node ∙ sym is.count;
        own = told.own ∙ ap (named_by nodes) node ∙ sym is.name;
      }

  same_order : (a b : RankedRow) (m n : Record) → IsOver a.count a.name.now m → IsOver b.count b.name.now n → rank_cmp m n ≡ row_cmp a b
  same_order a b m n one other =
      ap (λ (count : ℕ). ordering_then (nat_cmp count (length n.asked.below)) (name_cmp m.asked.name n.asked.name)) one.files
      ∙ ap (λ (count : ℕ). ordering_then (nat_cmp a.count count) (name_cmp m.asked.name n.asked.name)) other.files
      ∙ ap (λ (name : FileName). ordering_then (nat_cmp a.count b.count) (name_cmp name n.asked.name)) one.own
      ∙ ap (λ (name : FileName). ordering_then (nat_cmp a.count b.count) (name_cmp a.name.now name)) other.own

  -- the requests of sorted rows are sorted
  requests_rise : (sorted : List RankedRow) → IsSorted row_cmp sorted → All (λ row. IsOver row.count row.name.now (request_of row.row)) sorted → IsSorted rank_cmp (map (λ row. request_of row.row) sorted)
  requests_rise [] rises each k d at_least l = absurd (omega arith)
  requests_rise (first ∷ rest) rises each k d at_least l =
      let all : List RankedRow = first ∷ rest in
      let f : RankedRow → Record = λ row. request_of row.row in
      let high : k + 1 < length all = omega (arith, l, length-map all f) in
      let low : k < length all = omega (arith, high) in
      let a : RankedRow = get_or all (k + 1) first in
      let b : RankedRow = get_or all k first in
      ap (λ (m : Record). is_lt (rank_cmp m (get_or (map f all) k d))) (get_or-map f all (k + 1) first d high)
      ∙ ap (λ (n : Record). is_lt (rank_cmp (f a) n)) (get_or-map f all k first d low)
      ∙ ap is_lt (same_order a b (f a) (f b) (each (k + 1) first high) (each k first low))
      ∙ rises k first at_least high

  module _ (rows ordered : List ℕ) (are : AreRanked nodes numbers rows ordered) where
    pub each_there : All IsThere rows → All IsThere ordered
    each_there all = All-permutation IsThere rows ordered (rows_moved nodes numbers rows ordered are) all

    module _ (there : All IsThere rows) where
      sorted_there : All (λ row. IsThere row.row) are.sorted
      sorted_there k d l =
          let low : k < length ordered = omega (arith, l, ap (λ (xs : List ℕ). length xs) are.ordered_of, length-map are.sorted (λ (row : RankedRow). row.row)) in
          subst IsThere (ap (λ (xs : List ℕ). get_or xs k d.row) are.ordered_of ∙ get_or-map (λ (row : RankedRow). row.row) are.sorted k d d.row l) (each_there there k d.row low)

      ranks_there : All (λ row. IsOver row.count row.name.now (request_of row.row)) are.sorted
      ranks_there k d l =
          ranked_by (get_or are.sorted k d) (All-permutation (IsRankOf nodes numbers) are.found are.sorted are.moved are.ranks k d l) (sorted_there k d l)

      ordered_rise : IsSorted rank_cmp (map request_of ordered)
      ordered_rise =
          subst (IsSorted rank_cmp) (sym (ap (map request_of) are.ordered_of ∙ map_map request_of (λ (row : RankedRow). row.row) are.sorted))
          (requests_rise are.sorted are.rises ranks_there)

      -- the requests of the sorted rows are those of the rows, ranked
      pub ranked_requests : AllPairs OfOtherName (filter_map request_at rows) → filter_map request_at ordered ≡ ranked (filter_map request_at rows)
      ranked_requests differ =
          let found : filter_map request_at rows ≡ map request_of rows = picked_all request_at no_request rows there in
          picked_all request_at no_request ordered (each_there there)
          ∙ ranked_once (map request_of rows) (map request_of ordered) (IsPermutation-map request_of rows ordered (rows_moved nodes numbers rows ordered are)) ordered_rise (subst (AllPairs OfOtherName) found differ)
          ∙ sym (ap ranked found)

      -- if the requests of the rows stand for the latest records, the requests of the sorted rows are the migrated ones
      pub are_migrated : filter_map request_at rows ≡ filter_map (request_for (map (unfolded_record texts nodes) records)) (latest_views (map (unfolded_record texts nodes) records))
          → filter_map request_at ordered ≡ migrated_requests (map (unfolded_record texts nodes) records)
      unfolding migrated_requests
      are_migrated latest =
          let views : List ViewRecord = map (unfolded_record texts nodes) records in
          ranked_requests (subst (AllPairs OfOtherName) (sym latest) (apart views views)) ∙ ap ranked latest
