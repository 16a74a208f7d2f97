-- Both names are put, one after another.
use Rattle.std.proofs.Common.{◌∷◌, ℕ, List, [], codes, replicate, subst, sym}
use Rattle.vhdl_spec.specs.References.{work}
use Rattle.vhdl_scope.specs.Names.{implicit, keys_of}
use Rattle.vhdl_scope.specs.Graph.{HasPut, IsRowOf}
use Rattle.vhdl_scope.proofs.OwnLemmas.{put_both, row_is}
use Rattle.vhdl_scope.proofs.own.implicit_row.Goals as goal

pub returns : goal.returns
returns c =
    let first = subst (λ (x : List ℕ). HasPut (keys_of c.args.names.now) (x ∷ []) (replicate c.args.words 0) c.put.new.row) c.as_slice.ensures (subst (λ (row : List ℕ). HasPut (keys_of c.args.names.now) (c.as_slice.result.now ∷ []) row c.put.new.row) c.in_ok-row.ensures c.put.ensures) in
    let second = subst (λ (x : List ℕ). HasPut (keys_of c.args.names.now) (x ∷ []) c.put.new.row c.put-2.new.row) c.as_slice-2.ensures c.put-2.ensures in
    subst (λ (row : List ℕ). IsRowOf (keys_of c.args.names.now) c.args.words row implicit) (sym c.in_ok-to_row.ensures)
    (row_is (keys_of c.args.names.now) (work ∷ (codes "std" ∷ [])) c.args.words c.put-2.new.row
    (put_both (keys_of c.args.names.now) (work ∷ []) (codes "std" ∷ []) (replicate c.args.words 0) c.put.new.row c.put-2.new.row first second))
