-- So far the references up to the index are taken up.
use Rattle.std.proofs.Common.{Ok, List, map, take}
use Rattle.std.specs.Prelude.{⊤}
use Rattle.vhdl_spec.specs.Dependencies.{LinkUnit}
use Rattle.vhdl_outline.specs.UnresolvedRefs.{named_ref}
use Rattle.vhdl_graph.specs.Linking.{IsLooked, Knows, LinksRefs, Stands}
use Rattle.vhdl_graph.proofs.seen.link_refs.Given as goal

abbrev pub invariant-loop-named : goal.invariant-loop-named
invariant-loop-named l = record {
  known : IsLooked l.tables l.id l.file.library l.scratch.looked;
  linked : (units : List LinkUnit) (unit : LinkUnit) → Knows l.project units l.tables → Stands units l.tables l.id l.file unit →
      LinksRefs {T = ⊤} l.project units unit (map (named_ref l.text) (take l.named-index l.refs)) l.initial.row l.row (Ok tt);
}
