use Rattle.std.proofs.Common.{◌≡◌, take}
use Rattle.std.specs.Prelude.{fold}
use Rattle.store_form_2.proofs.commands.CommandHash.hash.Given as goal

abbrev pub invariant-loop-word : goal.invariant-loop-word
invariant-loop-word g l = l.state ≡ fold g.H.Hasher.write l.fn.state (take l.word-index l.word-items)
