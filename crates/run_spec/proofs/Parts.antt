-- A lawful journal of a build has compilers' events alone, and none where the graph has no file.
use Rattle.std.proofs.Common.{◌≡◌, ℕ, Bool, false, not, eqb, List, Option, Some, None, inl, inr, sym, ◌∙◌, [], ◌∷◌, ◌++◌, length, refl, ap}
use Rattle.std.specs.Prelude.{slice_get, filter}
use Rattle.std.specs.Option.{option_map, option_and_then}
use Rattle.std.proofs.lemmas.Bool.{cond-true, cond-false, cases_Bool, false≢true}
use Rattle.std.proofs.lemmas.Option.{none-some}
use Rattle.base.specs.declared.graph.Entry.{Entry}
use Rattle.base.specs.declared.child.Request.{Request}
use Rattle.base.specs.declared.child.Exit.{Exit}
use Rattle.base.specs.declared.child.Event.{Event}
use Rattle.base.specs.declared.child.Event.TheVariants.{Started, Ended, Gone}
use Rattle.base.specs.Jobs.{compile_request}
use Rattle.outside.specs.Children.{started_with}
use Rattle.run_spec.specs.Moves.{first_from, next_start, is_startable, LawfulMoves}
use Rattle.run_spec.specs.ChildJournal.{Work, End, BuildProgress, empty_progress, artefact_so_far, built_at, workload_of, schedule_of, next_position, request_at, after, moves_after, AreRequested, EachAfter, HoldsAnswer, Answered, Lawful}
use Rattle.run_spec.specs.JournalParts.{IsCompilerOf, is_test, is_test_event, compile_part, test_part}

-- without a file nothing can be started
no_start : (s : Work) (b : BuildProgress) → s.graph ≡ [] → next_position s b ≡ None
unfolding next_start first_from
no_start s b e = ap (λ (graph : List Entry). first_from (is_startable (workload_of s) (schedule_of b)) 0 (length graph)) e

-- so nothing happens
pub no_event : (s : Work) (events : List Event) → s.graph ≡ [] → Lawful s events → events ≡ []
unfolding LawfulMoves moves_after AreRequested
no_event s [] e lawful = refl
no_event s (Started t r ∷ events) e lawful = absurd (none-some r (sym (ap (option_and_then (request_at s [])) (no_start s empty_progress e)) ∙ lawful.requests.0))
no_event s (Ended t x ∷ events) e lawful = absurd (false≢true lawful.moves.0)
no_event s (Gone t ∷ events) e lawful = absurd (false≢true lawful.moves.0)

-- a compiler is started without a path for results
plain_from : (s : Work) (ends : List End) (entry : Option Entry) (r : Request) →
    option_map (λ entry. compile_request entry (built_at s.graph (artefact_so_far s ends) entry.deps)) entry ≡ Some r → is_test (Some r) ≡ false
plain_from s ends None r h = absurd (none-some r h)
plain_from s ends (Some entry) r h = ap is_test (sym h)

plain : (s : Work) (ends : List End) (next : Option ℕ) (r : Request) → option_and_then (request_at s ends) next ≡ Some r → is_test (Some r) ≡ false
unfolding request_at
plain s ends None r h = absurd (none-some r h)
plain s ends (Some position) r h = plain_from s ends (slice_get s.graph position) r h

no_test : (s : Work) (b : BuildProgress) (events : List Event) → AreRequested s b events → (ticket : ℕ) → is_test (started_with ticket events) ≡ false
unfolding AreRequested
no_test s b [] requested ticket = refl
no_test s b (Started t r ∷ events) requested ticket =
    elim (cases_Bool (eqb t ticket)) [
      | inl here ↦ ap is_test (cond-true (eqb t ticket) (Some r) (started_with ticket events) here) ∙ plain s b.ends (next_position s b) r requested.0
      | inr other ↦ ap is_test (cond-false (eqb t ticket) (Some r) (started_with ticket events) other) ∙ no_test s (after s b (Started t r)) events requested.1 ticket
    ]
no_test s b (Ended t e ∷ events) requested ticket = no_test s (after s b (Ended t e)) events requested.1 ticket
no_test s b (Gone t ∷ events) requested ticket = no_test s (after s b (Gone t)) events requested.1 ticket

module _ (journal : List Event) where
  one_more : (event : Event) (events : List Event) → is_test_event journal event ≡ false →
      (filter (λ other. not (is_test_event journal other)) events ≡ events) × (filter (is_test_event journal) events ≡ []) →
      (filter (λ other. not (is_test_event journal other)) (event ∷ events) ≡ event ∷ events) × (filter (is_test_event journal) (event ∷ events) ≡ [])
  one_more event events plain rest = (
    cond-true (not (is_test_event journal event)) _ _ (ap not plain) ∙ ap (λ (l : List Event). event ∷ l) rest.0,
    cond-false (is_test_event journal event) _ _ plain ∙ rest.1,
  )

  parts_from : ((ticket : ℕ) → is_test (started_with ticket journal) ≡ false) → (s : Work) (b : BuildProgress) (events : List Event) → AreRequested s b events →
      (filter (λ event. not (is_test_event journal event)) events ≡ events) × (filter (is_test_event journal) events ≡ [])
  unfolding AreRequested
  parts_from none s b [] requested = (refl, refl)
  parts_from none s b (Started t r ∷ events) requested = one_more (Started t r) events (plain s b.ends (next_position s b) r requested.0) (parts_from none s (after s b (Started t r)) events requested.1)
  parts_from none s b (Ended t e ∷ events) requested = one_more (Ended t e) events (none t) (parts_from none s (after s b (Ended t e)) events requested.1)
  parts_from none s b (Gone t ∷ events) requested = one_more (Gone t) events (none t) (parts_from none s (after s b (Gone t)) events requested.1)

-- all events of a build are compilers', and none is a test's
pub build_parts : (s : Work) (events : List Event) → Lawful s events → (compile_part events ≡ events) × (test_part events ≡ [])
build_parts s events lawful = parts_from events (no_test s empty_progress events lawful.requests) s empty_progress events lawful.requests

-- where no event is a test's all are compilers'
filter_rest : {X : Type 0} (test : X → Bool) (xs : List X) → filter test xs ≡ [] → filter (λ x. not (test x)) xs ≡ xs
filter_rest test [] none = refl
filter_rest {X} test (x ∷ xs) none =
    elim (cases_Bool (test x)) [
      | inl t ↦ absurd (not_empty x (filter test xs) (sym (cond-true (test x) (x ∷ filter test xs) (filter test xs) t) ∙ none))
      | inr f ↦
          cond-true (not (test x)) (x ∷ filter (λ y. not (test y)) xs) (filter (λ y. not (test y)) xs) (ap not f)
          ∙ ap (λ (l : List X). x ∷ l) (filter_rest test xs (sym (cond-false (test x) (x ∷ filter test xs) (filter test xs) f) ∙ none))
    ] where
      not_empty : (y : X) (ys : List X) → y ∷ ys ≡ [] → ⊥
      not_empty y ys e = cc

pub all_compiled : (events : List Event) → test_part events ≡ [] → compile_part events ≡ events
all_compiled events none = filter_rest (is_test_event events) events none

-- ## What compilers answer

-- a ticket that neither of two journals started as a test was not started as one by both
no_test_of_both : (before more : List Event) (ticket : ℕ) → is_test (started_with ticket before) ≡ false → is_test (started_with ticket more) ≡ false → is_test (started_with ticket (before ++ more)) ≡ false
no_test_of_both [] more ticket one two = two
no_test_of_both (Started t r ∷ before) more ticket one two =
    elim (cases_Bool (eqb t ticket)) [
      | inl here ↦ ap is_test (cond-true (eqb t ticket) (Some r) (started_with ticket (before ++ more)) here ∙ sym (cond-true (eqb t ticket) (Some r) (started_with ticket before) here)) ∙ one
      | inr other ↦
          ap is_test (cond-false (eqb t ticket) (Some r) (started_with ticket (before ++ more)) other)
          ∙ no_test_of_both before more ticket (sym (ap is_test (cond-false (eqb t ticket) (Some r) (started_with ticket before) other)) ∙ one) two
    ]
no_test_of_both (Ended t e ∷ before) more ticket one two = no_test_of_both before more ticket one two
no_test_of_both (Gone t ∷ before) more ticket one two = no_test_of_both before more ticket one two

no_test_started : (t : ℕ) (request : Request) (ticket : ℕ) → is_test (Some request) ≡ false → is_test (started_with ticket (Started t request ∷ [])) ≡ false
no_test_started t request ticket plain =
    elim (cases_Bool (eqb t ticket)) [
      | inl here ↦ ap is_test (cond-true (eqb t ticket) (Some request) None here) ∙ plain
      | inr other ↦ ap is_test (cond-false (eqb t ticket) (Some request) None other)
    ]

module _ (compiler answer : Request → Exit) (is : IsCompilerOf compiler answer) where
  -- an answer to what was not started as a test is the compiler's
  compiler_answers : (request : Option Request) (exit : Exit) → is_test request ≡ false → option_map answer request ≡ Some exit → option_map compiler request ≡ Some exit
  compiler_answers None exit plain answered = absurd (none-some exit answered)
  compiler_answers (Some request) exit plain answered = ap (λ (e : Exit). Some e) (sym (is request plain)) ∙ answered

  answered_from : (s : Work) (b : BuildProgress) (before events : List Event) → ((ticket : ℕ) → is_test (started_with ticket before) ≡ false) → AreRequested s b events → EachAfter (HoldsAnswer answer) before events → EachAfter (HoldsAnswer compiler) before events
  unfolding AreRequested EachAfter
  answered_from s b before [] none requested answered = tt
  answered_from s b before (Started t r ∷ events) none requested answered = (
    tt,
    answered_from s (after s b (Started t r)) (before ++ Started t r ∷ []) events
        (λ ticket. no_test_of_both before (Started t r ∷ []) ticket (none ticket) (no_test_started t r ticket (plain s b.ends (next_position s b) r requested.0))) requested.1 answered.1,
  )
  answered_from s b before (Ended t e ∷ events) none requested answered = (
    compiler_answers (started_with t before) e (none t) answered.0,
    answered_from s (after s b (Ended t e)) (before ++ Ended t e ∷ []) events (λ ticket. no_test_of_both before (Ended t e ∷ []) ticket (none ticket) refl) requested.1 answered.1,
  )
  answered_from s b before (Gone t ∷ events) none requested answered = (
    tt,
    answered_from s (after s b (Gone t)) (before ++ Gone t ∷ []) events (λ ticket. no_test_of_both before (Gone t ∷ []) ticket (none ticket) refl) requested.1 answered.1,
  )

  -- the ends of a build hold the compiler's answers
  pub answered_by_compiler : (s : Work) (events : List Event) → Lawful s events → Answered answer events → Answered compiler events
  answered_by_compiler s events lawful answered = answered_from s empty_progress [] events (λ ticket. refl) lawful.requests answered
