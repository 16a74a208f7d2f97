-- Answers to the goals of `Gathered::new`.
use Rattle.std.proofs.Common.{ℕ, List, sym, subst}
use Rattle.run_build.specs.Requests.{IsGathered}
use Rattle.run_build.proofs.Gathering.{none_gathered}
use Rattle.run_build.proofs.requests.Gathered.new.Goals as goal

pub returns : goal.returns
returns c = λ latest_of graph. subst (λ (bytes : List ℕ). IsGathered latest_of graph (record { count = 0; files = bytes })) (sym c.new.ensures) (none_gathered latest_of graph)
