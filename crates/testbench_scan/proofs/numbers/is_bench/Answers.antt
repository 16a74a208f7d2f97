-- A bench is the unit whose token is kept.
use Rattle.std.proofs.Common.{◌≡◌, ◌∙◌, Bool, true, false, cond, Some, None, is_some, refl, ap}
use Rattle.base.specs.declared.lexical.Token.{Token}
use Rattle.vhdl_outline.specs.declared.runs.UnitFacts.{UnitFacts}
use Rattle.testbench_scan.proofs.numbers.is_bench.Goals as goal

told : (is : Bool) (token : Token) → is_some (cond is (Some token) None) ≡ is
told true token = refl
told false token = refl

pub returns-clause-is : goal.returns-clause-is
returns-clause-is c scans are = c.is_some.ensures ∙ ap (λ (runs : UnitFacts). is_some runs.bench) (c.find-found.ensures.located scans are).runs ∙ told _ _
