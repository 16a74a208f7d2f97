-- So far the files before the index; the others follow.
use Rattle.std.proofs.Common.{◌≡◌, ◌++◌, drop}
use Rattle.std.specs.List.{All}
use Rattle.vhdl_outline.specs.Roles.{IsTextSmall}
use Rattle.bench_library.specs.Projects.{parts_at}
use Rattle.bench_library.proofs.scopes.parts_of.Given as goal

abbrev pub invariant-loop-end : goal.invariant-loop-end
invariant-loop-end l = record {
  parts : parts_at l.text 0 l.ends ≡ l.parts ++ parts_at l.text l.from (drop l.end-index l.ends);
  small : All IsTextSmall l.parts;
}
