-- The library is seen, and looked into.
use Rattle.std.proofs.Common.{◌∙◌, ℕ, List, sym, ap}
use Rattle.vhdl_graph.specs.Libraries.{stands_outside}
use Rattle.vhdl_graph.proofs.InsideLemmas.{inside_looked, inside_seen}
use Rattle.vhdl_graph.proofs.LinkLemmas.{linked_seen}
use Rattle.vhdl_graph.proofs.seen.link_ref.Goals as goal

pub link_inside-requires-clause-inside : goal.link_inside-requires-clause-inside
link_inside-requires-clause-inside c =
    ap (λ (library : List ℕ). stands_outside c.args.tables.now.libraries library) c.library_of-library.ensures ∙ inside_looked c.args.tables.now c.args._id c.args.file.now.library c.args.reference.now.library c.requires.inside

pub returns : goal.returns
returns c units unit known stands =
    linked_seen c.args.project.now units unit c.args.reference.now c.args.tables.now c.args._id c.args.file.now stands c.library_of-library.result.now c.args.row.now c.link_inside.new.row c.link_inside.result
    (inside_seen c.args.tables.now c.args._id c.args.file.now.library c.args.reference.now.library c.requires.inside) (sym c.library_of-library.ensures) (c.link_inside.ensures units known)
