-- What a table answers keeps the sizes of an exit, and has results only where they were asked for.
use Rattle.std.proofs.Common.{◌≡◌, Bool, true, false, cond, List, [], ◌∷◌, refl, sym, subst, lit≤}
use Rattle.std.specs.Prelude.{Option, Some, None, IfSome}
use Rattle.std.proofs.lemmas.Bool.{and_parts, both_ways}
use Rattle.base.specs.declared.child.Request.{Request}
use Rattle.base.specs.declared.child.Exit.{Exit}
use Rattle.base.specs.declared.child.MaybeText.{MaybeText}
use Rattle.base.specs.declared.child.MaybeText.TheVariants.{Nothing, Given}
use Rattle.outside.specs.Children.{FitsExit, AnswersPath}
use Rattle.memory_outside.specs.declared.answer.Answer.{Answer}
use Rattle.memory_outside.specs.Scripts.{answer_of, same_request, same_maybe, unknown_exit, CanAnswer}

unknown_fits : FitsExit unknown_exit
unknown_fits = record { output = lit≤ tt; results = tt }

pub answer_fits : (answers : List Answer) (request : Request) → CanAnswer answers → FitsExit (answer_of answers request)
answer_fits [] request can = unknown_fits
answer_fits (answer ∷ rest) request can =
    elim (same_request answer.request request) as (λ b. FitsExit (cond b answer.exit (answer_of rest request))) [ true ↦ can.0.sizes | false ↦ answer_fits rest request can.1 ]

-- an exit without results answers any request
no_results : (path : MaybeText) → AnswersPath path Nothing
no_results Nothing = refl
no_results (Given path) = tt

false_is_not : false ≡ true → ⊥
false_is_not e = both_ways false refl e

-- results that answer a request for one path answer a request for the same path
same_answers : (path other found : MaybeText) → same_maybe path other ≡ true → AnswersPath path found → AnswersPath other found
same_answers Nothing Nothing found same answers = answers
same_answers Nothing (Given other) found same answers = tt
same_answers (Given path) Nothing found same answers = absurd (false_is_not same)
same_answers (Given path) (Given other) found same answers = tt

first_answers : (same : Bool) (request : Request) (answer : Answer) (later : Exit) → same_request answer.request request ≡ same → AnswersPath answer.request.results answer.exit.results → AnswersPath request.results later.results → AnswersPath request.results (cond same answer.exit later).results
first_answers true request answer later same here rest = same_answers answer.request.results request.results answer.exit.results (and_parts _ _ same).1 here
first_answers false request answer later same here rest = rest

answer_has_path : (answers : List Answer) (request : Request) → CanAnswer answers → AnswersPath request.results (answer_of answers request).results
answer_has_path [] request can = no_results request.results
answer_has_path (answer ∷ rest) request can = first_answers (same_request answer.request request) request answer (answer_of rest request) refl can.0.results (answer_has_path rest request can.1)

-- the same of the exit of a request that may be there
pub exit_has_path : (answers : List Answer) (request : Option Request) (exit : Exit) → CanAnswer answers → IfSome request (λ r. exit ≡ answer_of answers r) → IfSome request (λ r. AnswersPath r.results exit.results)
exit_has_path answers None exit can is = tt
exit_has_path answers (Some request) exit can is = subst (λ (e : Exit). AnswersPath request.results e.results) (sym is) (answer_has_path answers request can)
