-- The request that stands for a record of a node, by its parts.
use Rattle.std.proofs.Common.{◌≡◌, ◌≢◌, ℕ, zero, suc, ◌<◌, ◌≤◌, Bool, true, false, List, [], ◌∷◌, length, map, get_or, Option, Some, None, refl, sym, ap, subst, ◌∙◌, arith}
use Rattle.std.specs.Prelude.{All, AllPairs, ◌==◌, if◌then◌else◌}
use Rattle.std.specs.Option.{option_and_then, option_map}
use Rattle.std.proofs.lemmas.List.{get_or-map, get_or_default, length-map, same_lists}
use Rattle.std.proofs.lemmas.Option.{none-some, same_Some}
use Rattle.base.specs.declared.file.FileName.{FileName}
use Rattle.base.specs.declared.graph.BuiltFile.{BuiltFile}
use Rattle.base.specs.Names.{FitsCommand, FitsName}
use Rattle.base.specs.declared.graph.Entry.{Entry}
use Rattle.base.specs.declared.limits.TheConstants.{ARTEFACT_LIMIT, TEXT_LIMIT}
use Rattle.outside.specs.Records.{Asked, Record, asked_of, built_of_record, latest}
use Rattle.store_form_2.specs.Nodes.{Node, node_file}
use Rattle.store_codec.specs.RecordTables.{RecordTable, product_at}
use Rattle.store.specs.Additions.{IsRequestOver, record_over}
use Rattle.store_form_2.specs.ByNumber.{NodeRecord, built_node, built_where_node, named_by, node_request, numbered_node}
use Rattle.store_form_2.specs.Migrating.{each_of, request_over}
use Rattle.store_form_2.proofs.Picking.{each_parts, length_each}
use Rattle.store.specs.Taking.{IsNext, alone}

-- each value is there
each_at : {X Y : Type 0} (f : X → Option Y) (xs : List X) (ys : List Y) → each_of (map f xs) ≡ Some ys → (k : ℕ) (x : X) (y : Y) → k < length xs → f (get_or xs k x) ≡ Some (get_or ys k y)
each_at f [] ys h k x y l = absurd (omega (arith, l))
each_at {Y = Y} f (first ∷ rest) ys h zero x y l =
    let parts = each_parts (f first) (map f rest) ys h in
    parts.2 ∙ ap (λ (all : List Y). Some (get_or all 0 y)) parts.4
each_at {Y = Y} f (first ∷ rest) ys h (suc k) x y l =
    let parts = each_parts (f first) (map f rest) ys h in
    each_at f rest parts.1 parts.3 k x y (omega arith) ∙ ap (λ (all : List Y). Some (get_or all (suc k) y)) parts.4

if_named : (b : Bool) (own file : BuiltFile) → (if b then Some own else None) ≡ Some file → file.name ≡ own.name
if_named true own file h = ap (λ (f : BuiltFile). f.name) (sym (same_Some own file h))
if_named false own file h = absurd (none-some file h)

where_named : (nodes : List Node) (number : ℕ) (file : BuiltFile) (kept : Option NodeRecord) → option_and_then (built_where_node nodes number) kept ≡ Some file → file.name ≡ named_by nodes number
where_named nodes number file None h = absurd (none-some file h)
where_named nodes number file (Some kept) h = if_named (kept.node == number) (record { name = named_by nodes number; artefact = kept.artefact }) file h

-- a file that was built of a node has the name of the node
built_named : (nodes : List Node) (records : List NodeRecord) (number : ℕ) (file : BuiltFile) → built_node nodes records number ≡ Some file → file.name ≡ named_by nodes number
unfolding built_node
built_named nodes records number file h = where_named nodes number file _ h

-- The request that stands for a record: its file over the built files below it.
pub record HasParts (texts : List (List ℕ)) (nodes : List Node) (records : List NodeRecord) (kept : NodeRecord) (new : Record) : Type 0 where
  pub below : List BuiltFile
  pub each : each_of (map (built_node nodes records) (numbered_node nodes kept.node).deps) ≡ Some below
  pub over : request_over (node_file texts (numbered_node nodes kept.node)) kept.artefact below ≡ new

pub parts_of : (texts : List (List ℕ)) (nodes : List Node) (records : List NodeRecord) (kept : NodeRecord) (new : Record) → node_request texts nodes records kept ≡ Some new → HasParts texts nodes records kept new
unfolding node_request
parts_of texts nodes records kept new is = by (each_of (map (built_node nodes records) (numbered_node nodes kept.node).deps)) refl is
  where
    by : (all : Option (List BuiltFile)) → each_of (map (built_node nodes records) (numbered_node nodes kept.node).deps) ≡ all → option_map (request_over (node_file texts (numbered_node nodes kept.node)) kept.artefact) all ≡ Some new → HasParts texts nodes records kept new
    by None e h = absurd (none-some new h)
    by (Some below) e h = record { below = below; each = e; over = same_Some (request_over (node_file texts (numbered_node nodes kept.node)) kept.artefact below) new h }

abbrev no_file : BuiltFile
no_file = record { name = record { library = []; path = [] }; artefact = [] }

module _ (texts : List (List ℕ)) (nodes : List Node) (records : List NodeRecord) (kept : NodeRecord) (new : Record) (parts : HasParts texts nodes records kept new) (before : List Record) (next : IsNext before new) where
  abbrev deps : List ℕ
  deps = (numbered_node nodes kept.node).deps

  below_is : parts.below ≡ new.asked.below
  below_is = ap (λ (r : Record). r.asked.below) parts.over

  many : length parts.below ≡ length deps
  many = length_each (built_node nodes records) deps parts.below parts.each

  name_at : (k : ℕ) (file : BuiltFile) → k < length deps → (get_or parts.below k file).name ≡ named_by nodes (get_or deps k 0)
  name_at k file l = built_named nodes records (get_or deps k 0) (get_or parts.below k file) (each_at (built_node nodes records) deps parts.below parts.each k 0 file l)

  -- the latest record of the name of each node below built the file
  latest_at : (k : ℕ) (file : BuiltFile) → k < length deps → option_map built_of_record (latest (named_by nodes (get_or deps k 0)) before) ≡ Some (get_or parts.below k file)
  latest_at k file l =
      subst (λ (name : FileName). option_map built_of_record (latest name before) ≡ Some (get_or parts.below k file)) (name_at k file l)
      (subst (λ (files : List BuiltFile). option_map built_of_record (latest (get_or files k file).name before) ≡ Some (get_or files k file)) (sym below_is)
      (next.built k file (omega (arith, l, many, ap length below_is))))

  pub there_at : (k : ℕ) → k < length deps → latest (named_by nodes (get_or deps k 0)) before ≢ None
  there_at k l none = none-some (get_or parts.below k no_file) (ap (option_map built_of_record) (sym none) ∙ latest_at k no_file l)

  -- the products of these names are the files below
  module _ (contents : RecordTable) (numbers : List ℕ) (built : map (λ number. Some (product_at contents.products number)) numbers ≡ map (λ node. option_map built_of_record (latest (named_by nodes node) before)) deps) where
    as_many : length numbers ≡ length deps
    as_many = sym (length-map numbers (λ (n : ℕ). Some (product_at contents.products n))) ∙ ap length built ∙ length-map deps (λ (n : ℕ). option_map built_of_record (latest (named_by nodes n) before))

    product_is : (k : ℕ) → k < length numbers → product_at contents.products (get_or numbers k 0) ≡ get_or parts.below k no_file
    product_is k l =
        let m : k < length deps = omega (arith, l, as_many) in
        same_Some (product_at contents.products (get_or numbers k 0)) (get_or parts.below k no_file)
        (sym (get_or-map (λ (n : ℕ). Some (product_at contents.products n)) numbers k 0 None l)
        ∙ ap (λ (all : List (Option BuiltFile)). get_or all k None) built
        ∙ get_or-map (λ (n : ℕ). option_map built_of_record (latest (named_by nodes n) before)) deps k 0 None m
        ∙ latest_at k no_file m)

    products_are : map (product_at contents.products) numbers ≡ new.asked.below
    products_are =
        same_lists (map (product_at contents.products) numbers) parts.below (length-map numbers (product_at contents.products) ∙ as_many ∙ sym many) (λ k d l.
        let m : k < length numbers = omega (arith, l, length-map numbers (product_at contents.products)) in
        get_or-map (product_at contents.products) numbers k 0 d m ∙ product_is k m ∙ get_or_default parts.below k no_file d (omega (arith, m, as_many, many)))
        ∙ below_is

    -- so the file is a record over them
    module _ (entry : Entry) (artefact : List ℕ) (entry_is : entry ≡ alone (node_file texts (numbered_node nodes kept.node))) (artefact_is : artefact ≡ kept.artefact) (there : All (λ number. number < length contents.products) numbers) where
      own : asked_of entry new.asked.below ≡ new.asked
      own = ap (λ (e : Entry). asked_of e new.asked.below) entry_is ∙ ap (asked_of (alone (node_file texts (numbered_node nodes kept.node)))) (sym below_is) ∙ ap (λ (r : Record). r.asked) parts.over

      given : artefact ≡ new.artefact
      given = artefact_is ∙ ap (λ (r : Record). r.artefact) parts.over

      pub over_products : IsRequestOver contents entry numbers artefact
      over_products = record {
        sizes = record {
          name = subst FitsName (sym (ap (λ (asked : Asked). asked.name) own)) next.name;
          command = subst FitsCommand (sym (ap (λ (asked : Asked). asked.command) own)) next.command;
          text = subst (λ (t : List ℕ). length t ≤ TEXT_LIMIT) (sym (ap (λ (asked : Asked). asked.text) own)) next.text;
          few = omega (arith, as_many, many, ap length below_is, next.few);
          small = subst (λ (t : List ℕ). length t ≤ ARTEFACT_LIMIT) (sym given) next.artefact;
        };
        there = there;
        apart = subst (AllPairs (λ a b. a.name ≢ b.name)) (sym products_are) next.apart;
        others = subst (λ (files : List BuiltFile). All (λ other. other.name ≢ entry.name) files) (sym products_are)
            (subst (λ (name : FileName). All (λ other. other.name ≢ name) new.asked.below) (sym (ap (λ (asked : Asked). asked.name) own)) next.others);
      }

      pub is_new : record_over contents entry numbers artefact ≡ new
      is_new =
          ap (λ (files : List BuiltFile). record { asked = asked_of entry files; artefact = artefact }) products_are
          ∙ ap (λ (a : List ℕ). record { asked = asked_of entry new.asked.below; artefact = a }) given
          ∙ ap (λ (asked : Asked). record { asked = asked; artefact = new.artefact }) own
