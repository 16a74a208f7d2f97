-- What a source and a sink over memory hold.
use Rattle.std.specs.Prelude.{ℕ, List}
use Rattle.memory_outside.specs.declared.failing.Calls.{Calls}

-- a source: its bytes that remain, and its calls
pub record HeldSource : Type 0 where
  pub left : List ℕ
  pub calls : Calls

-- a sink: what was put, how many bytes it holds before it takes memory again, and its calls
pub record HeldSink : Type 0 where
  pub contents : List ℕ
  pub room : ℕ
  pub calls : Calls
