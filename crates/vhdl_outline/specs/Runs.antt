-- What the units of a file say of tests, kept without the tokens around it.
use Rattle.std.specs.Prelude.{◌≡◌, ℕ, ◌+◌, ◌≤◌, Bool, true, false, ◌&&◌, if◌then◌else◌, Option, Some, None, List, [], length, map}
use Rattle.std.specs.List.{All}
use Rattle.base.specs.declared.design.Scan.{Scan}
use Rattle.base.specs.declared.design.Unit.{Unit as DesignUnit}
use Rattle.base.specs.declared.design.UnitKind.{UnitKind}
use Rattle.base.specs.declared.design.UnitKind.TheVariants as kinds
use Rattle.base.specs.declared.lexical.Token.{Token}
use Rattle.vhdl_spec.specs.Dependencies.{is_architecture_kind}
use Rattle.vhdl_spec.specs.Units.{name_token, token_at}
use Rattle.vhdl_lex.specs.LexicalElements.{LiesIn}
use Rattle.vhdl_outline.specs.Calls.{asks_same_sim, has_runner, run_strings}
use Rattle.vhdl_outline.specs.declared.runs.FileFacts.{FileFacts}
use Rattle.vhdl_outline.specs.declared.runs.UnitFacts.{UnitFacts}

-- an entity
abbrev pub is_entity_kind : UnitKind → Bool
is_entity_kind kinds.Entity = true
is_entity_kind _ = false

-- an entity whose first generic clause has `runner_cfg`
abbrev pub is_bench_unit : List ℕ → List Token → DesignUnit → Bool
is_bench_unit text tokens unit = is_entity_kind unit.kind && has_runner text tokens unit

-- the token that names a bench
abbrev pub bench_token : List ℕ → List Token → DesignUnit → Option Token
bench_token text tokens unit = if is_bench_unit text tokens unit then Some (token_at tokens (name_token unit.kind unit.first)) else None

-- the strings that an architecture calls `run` with
abbrev pub unit_strings : List ℕ → List Token → DesignUnit → List Token
unit_strings text tokens unit = if is_architecture_kind unit.kind then run_strings text tokens unit.first unit.last else []

-- what a unit says of tests
abbrev pub unit_runs : List ℕ → List Token → DesignUnit → UnitFacts
unit_runs text tokens unit = record { bench = bench_token text tokens unit; strings = unit_strings text tokens unit }

-- The testbench facts of a file, kept without its tokens. For each unit that is a bench, they have the token of its name.
-- For each architecture, they have the strings with which it calls `run`. They also say whether a comment asks for one
-- simulation.
abbrev pub file_runs : List ℕ → Scan → FileFacts
file_runs text scan = record { units = map (unit_runs text scan.tokens.list) scan.units; same_sim = asks_same_sim text scan.tokens.comments }

-- a string literal of a text, with both of its quotes
abbrev pub IsStringIn : List ℕ → Token → Type 0
IsStringIn text token = (token.start + 2 ≤ token.end) × (token.end ≤ length text)

-- the token that names a bench, if there is one, ends within the text
abbrev pub BenchLiesIn : List ℕ → Option Token → Type 0
BenchLiesIn text None = Unit {0}
BenchLiesIn text (Some token) = LiesIn text token

-- the tokens that are kept of a unit lie in its text
pub record UnitRunsLieIn (text : List ℕ) (runs : UnitFacts) : Type 0 where
  pub bench : BenchLiesIn text runs.bench
  pub strings : All (IsStringIn text) runs.strings
