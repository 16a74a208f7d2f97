-- Children that answer by a table.
use Rattle.std.specs.Prelude.{ℕ, Bool, true, false, ◌&&◌, nat_eq, List, [], ◌∷◌, if◌then◌else◌}
use Rattle.std.specs.List.{AllByRecursion}
use Rattle.std.specs.Cmp.Lexicographic.{pointwise}
use Rattle.base.specs.declared.child.Request.{Request}
use Rattle.base.specs.declared.child.Exit.{Exit}
use Rattle.base.specs.declared.child.MaybeText.{MaybeText}
use Rattle.base.specs.declared.child.MaybeText.TheVariants.{Nothing, Given}
use Rattle.outside.specs.Children.{FitsExit, AnswersPath}
use Rattle.memory_outside.specs.declared.answer.Answer.{Answer}
use Rattle.memory_outside.specs.ChildLogs.{HeldChildLog}

-- a table of answers, and a log of children
pub record Script : Type 0 where
  pub answers : List Answer
  pub child_log : HeldChildLog

-- the exit of a child whose request the table doesn't have
abbrev pub unknown_exit : Exit
unknown_exit = record { code = 127; output = []; results = Nothing }

-- whether two texts, or none, are the same
abbrev pub same_maybe : MaybeText → MaybeText → Bool
same_maybe Nothing Nothing = true
same_maybe Nothing (Given other) = false
same_maybe (Given text) Nothing = false
same_maybe (Given text) (Given other) = pointwise nat_eq text other

-- whether two lists of texts are the same
abbrev pub same_texts : List (List ℕ) → List (List ℕ) → Bool
same_texts texts others = pointwise (pointwise nat_eq) texts others

-- whether two requests are the same
abbrev pub same_request : Request → Request → Bool
same_request request other = same_texts request.command other.command && pointwise nat_eq request.input other.input && same_maybe request.results other.results

-- the exit of the first answer to a request
abbrev pub answer_of : List Answer → Request → Exit
answer_of [] request = unknown_exit
answer_of (answer ∷ rest) request = if same_request answer.request request then answer.exit else answer_of rest request

-- an answer that a child can give: its exit has its size, and results only where the request names a path for them
pub record CanBeGiven (answer : Answer) : Type 0 where
  pub sizes : FitsExit answer.exit
  pub results : AnswersPath answer.request.results answer.exit.results

-- each answer of a table can be given
abbrev pub CanAnswer : List Answer → Type 0
CanAnswer answers = AllByRecursion CanBeGiven answers
