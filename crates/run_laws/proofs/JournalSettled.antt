-- What a build asks and makes is what the settled build does; and where it ended by itself and no refusal halted it, all of that.
use Rattle.std.proofs.Common.{◌≡◌, ℕ, zero, suc, ◌<◌, ◌==◌, Bool, true, false, not, ◌⊎◌, ◌&&◌, ◌||◌, cond, List, map, [], ◌∷◌, ◌++◌, length, get_or, Option, Some, None, refl, sym, ap, ap₂, subst, ◌∙◌, arith, inl, inr, is_some}
use Rattle.std.specs.Prelude.{◌↔◌, All, Contains, is_none}
use Rattle.std.specs.Option.{option_map}
use Rattle.std.specs.List.{list_all, list_any}
use Rattle.std.proofs.lemmas.Bool.{cases_Bool, cases_lt, cond-true, cond-false, and_parts, and_from, or_cases, or_parts, not-true, eq-eqb, eqb-true, true≢false, false≢true, both_ways}
use Rattle.std.proofs.lemmas.List.{map_push}
use Rattle.std.proofs.lemmas.List.Folds.{list_any-append}
use Rattle.std.proofs.lemmas.List.Elements.{All-head, All-tail, All-contains}
use Rattle.std.proofs.lemmas.Option.{none-some, same_Some}
use Rattle.base.specs.declared.child.Request.{Request}
use Rattle.base.specs.declared.child.Exit.{Exit}
use Rattle.base.specs.declared.child.Event.{Event}
use Rattle.base.specs.declared.child.Event.TheVariants.{Started}
use Rattle.base.specs.Graphs.{IsGraph}
use Rattle.base.specs.PresentGraph.{below}
use Rattle.outside.specs.Records.{deps_at}
use Rattle.run_spec.specs.Statuses.{status_of, status_at, statuses_of, steady_status, steady_statuses, is_refused, NoRefusalHalts}
use Rattle.run_spec.specs.Moves.{is_startable}
use Rattle.run_spec.specs.ChildJournal.{Work, Run, End, BuildProgress, empty_progress, child_of_end, exit_at, output_at, or_else, has_all, artefact_so_far, artefact_after, workload_of, schedule_of, next_position, request_at, progress_of, Lawful, Answered, IsWhole}
use Rattle.run_spec.specs.Settled as settled
use Rattle.run_spec.specs.Settled.{Settled, settled_artefact, settled_by, settled_by_exit, settle, artefact_settled, is_asked, request_unless, request_over, IsAsked, IsAnswered, has_ended, IsOver}
use Rattle.run_spec.proofs.Artefacts.{deps_before, artefact_free}
use Rattle.run_spec.proofs.FoldLaws.{by_all_below}
use Rattle.run_spec.proofs.Journal.{startable_is, no_runs}
use Rattle.run_spec.proofs.Prefixes.{lawful_prefix, answered_prefix, requested_at}
use Rattle.run_spec.proofs.SettledBuild.{settled_past, settles, whole, settle_is, ended_parts, ended_asked, first_exit, exit_over, current_over, asked_settled}
use Rattle.run_laws.proofs.JournalProgress.{some_value, none_value, next_missing}
use Rattle.run_laws.proofs.JournalKeeps.{was_taken, runs_at, is_refusal, IsOrderly, orderly_progress, any_found}
use Rattle.run_laws.proofs.JournalStarted.{asked_of, held, never_halted}
use Rattle.run_laws.proofs.JournalAnswers.{AreAnswered, answers_of, asked_within, start_asked}

-- functions that give the same at each position
pub map-below_same : {X : Type 0} (f g : ℕ → X) (n : ℕ) → ((k : ℕ) → k < n → f k ≡ g k) → map f (below n) ≡ map g (below n)
unfolding below
map-below_same f g zero h = refl
map-below_same {X} f g (suc n) h =
    map_push f (below n) n ∙ ap (λ (ys : List X). ys ++ f n ∷ []) (map-below_same f g n (λ k l. h k (omega arith))) ∙ ap (λ (y : X). map g (below n) ++ y ∷ []) (h n (omega arith))
    ∙ sym (map_push g (below n) n)

-- a test that nothing passes
pub none-below : {X : Type 0} (p : X → Bool) (f : ℕ → X) (n : ℕ) → list_any p (map f (below n)) ≡ false → (k : ℕ) → k < n → p (f k) ≡ false
unfolding below
none-below p f zero h k lt = absurd (omega arith)
none-below p f (suc n) h k lt =
    let parts = or_parts (list_any p (map f (below n))) (p (f n) || false) (sym (ap (list_any p) (map_push f (below n) n) ∙ list_any-append p (map f (below n)) (f n ∷ [])) ∙ h) in
    elim (cases_lt k n) [
      | inl low ↦ none-below p f n parts.0 k low
      | inr last ↦ let same : n ≡ k = omega arith in ap (λ (j : ℕ). p (f j)) (sym same) ∙ (or_parts (p (f n)) false parts.1).0
    ]

taken_of_end : (progress : BuildProgress) (k : ℕ) (xs : List End) → All (λ end. was_taken progress end.position ≡ true) xs → has_ended xs k ≡ true → was_taken progress k ≡ true
unfolding exit_at
taken_of_end progress k [] all has = absurd (false≢true has)
taken_of_end progress k (end ∷ xs) all has = elim (cases_Bool (end.position == k)) [
  | inl here ↦ subst (λ i. was_taken progress i ≡ true) (eqb-true end.position k here) (All-head (λ e. was_taken progress e.position ≡ true) end xs all)
  | inr other ↦ taken_of_end progress k xs (All-tail (λ e. was_taken progress e.position ≡ true) end xs all) (sym (ap is_some (cond-false (end.position == k) (Some end.exit) (exit_at xs k) other)) ∙ has)
]

has_all_from : (f : ℕ → Option (List ℕ)) (deps : List ℕ) → All (λ dep. is_some (f dep) ≡ true) deps → has_all f deps ≡ true
unfolding has_all
has_all_from f [] all = refl
has_all_from f (dep ∷ deps) all = and_from (is_some (f dep)) (list_all (λ d. is_some (f d)) deps) (All-head (λ d. is_some (f d) ≡ true) dep deps all) (has_all_from f deps (All-tail (λ d. is_some (f d) ≡ true) dep deps all))

module _ (answer : Request → Exit) (work : Work) (graph : IsGraph work.graph) where
  abbrev ordered : (position : ℕ) → All (λ dep. dep < position) (deps_at work.graph position)
  ordered = deps_before work.graph graph

  abbrev all_answers : (events : List Event) → Lawful work events → Answered answer events → AreAnswered answer work (progress_of work events)
  all_answers = answers_of answer work ordered

  -- whatever a build has by now of a file is what the settled build makes of it
  pub made_settled_so_far : (events : List Event) → Lawful work events → Answered answer events → (position : ℕ) (artefact : List ℕ) → artefact_after work events position ≡ Some artefact → artefact_settled answer work.graph work.current position ≡ Some artefact
  made_settled_so_far events lawful answered position artefact is = settles answer work (progress_of work events).ends ordered (all_answers events lawful answered).ends position artefact is

  -- each start asks what the settled build asks for the file that is started
  pub asked : (before rest : List Event) (ticket : ℕ) (request : Request) → Lawful work (before ++ Started ticket request ∷ rest) → Answered answer (before ++ Started ticket request ∷ rest)
      → (position : ℕ) × (next_position work (progress_of work before) ≡ Some position) × (request_unless answer work.graph work.current position ≡ Some request)
  asked before rest ticket request lawful answered =
      let progress : BuildProgress = progress_of work before in
      let answers : AreAnswered answer work progress = all_answers before (lawful_prefix work before (Started ticket request ∷ rest) lawful) (answered_prefix answer before (Started ticket request ∷ rest) answered) in
      let next = asked_of (request_at work progress.ends) (next_position work progress) request (requested_at work empty_progress before (Started ticket request) rest lawful.requests) in
      let is : IsAsked work progress.ends next.0 request = start_asked work ordered progress next.0 request next.1 next.2 in
      (next.0, next.1, asked_settled answer work progress.ends ordered answers.ends next.0 request (asked_within work progress.ends next.0 request is) is)

  -- so that the settled build asks for each file that was started
  pub started_stale : (events : List Event) → Lawful work events → Answered answer events → (position : ℕ) → Contains (progress_of work events).taken position → (request : Request) × (request_unless answer work.graph work.current position ≡ Some request)
  started_stale events lawful answered position contains =
      let answers : AreAnswered answer work (progress_of work events) = all_answers events lawful answered in
      let it = All-contains (λ position. (request : Request) × IsAsked work (progress_of work events).ends position request) (progress_of work events).taken position answers.taken contains in
      (it.0, asked_settled answer work (progress_of work events).ends ordered answers.ends position it.0 (asked_within work (progress_of work events).ends position it.0 it.1) it.1)

  -- ## A build that ended by itself

  module _ (progress : BuildProgress) (answers : AreAnswered answer work progress) (orderly : IsOrderly work false progress) (idle : progress.runs ≡ []) where
    -- what was taken has ended
    taken_ended : (k : ℕ) → was_taken progress k ≡ true → has_ended progress.ends k ≡ true
    taken_ended k taken = subst (λ (runs : List Run). (runs_at runs k || has_ended progress.ends k) ≡ true) idle (orderly.in_step refl k taken)

    -- what the exit of a file that has ended says of it
    ended_is : (k : ℕ) (exit : Exit) → k < length work.graph → exit_at progress.ends k ≡ Some exit → (has_all (artefact_so_far work progress.ends) (deps_at work.graph k) ≡ true) × (current_over answer work progress.ends k ≡ None) × (exit_over answer work progress.ends k ≡ Some exit)
    ended_is k exit lt is =
        let parts = ended_parts answer work progress.ends ordered answers.ends progress.ends answers.ends k (ap is_some is) in
        (parts.0, parts.1, first_exit answer work progress.ends ordered answers.ends k exit is)

    -- where its code isn't 0 nothing was printed
    nothing_printed : (k : ℕ) (exit : Exit) (xs : List End) → All (λ end. end.position ≡ k → end.exit ≡ exit) xs → (exit.code == 0) ≡ false → output_at (map child_of_end xs) k ≡ None
    unfolding output_at
    nothing_printed k exit [] all bad = refl
    nothing_printed k exit (end ∷ xs) all bad = elim (cases_Bool (end.position == k && end.exit.code == 0)) [
      | inl does ↦
          let both = and_parts (end.position == k) (end.exit.code == 0) does in
          absurd (true≢false (sym both.1 ∙ ap (λ (e : Exit). e.code == 0) (all 0 end (omega arith) (eqb-true end.position k both.0)) ∙ bad))
      | inr fails ↦ cond-false (end.position == k && end.exit.code == 0) (Some end.exit.output) (output_at (map child_of_end xs) k) fails ∙ nothing_printed k exit xs (λ j d l. all (suc j) d (omega arith)) bad
    ]

    same_exits : (k : ℕ) (exit : Exit) → exit_over answer work progress.ends k ≡ Some exit → All (λ end. end.position ≡ k → end.exit ≡ exit) progress.ends
    same_exits k exit says j d l e =
        let end : End = get_or progress.ends j d in
        let is : IsAnswered answer work progress.ends end = answers.ends j d l in
        let own : exit_over answer work progress.ends end.position ≡ Some end.exit = ap (option_map answer) is.is.asked ∙ ap (λ (x : Exit). Some x) (sym is.answered) in
        same_Some end.exit exit (sym own ∙ ap (exit_over answer work progress.ends) e ∙ says)

    refused_unmade : (k : ℕ) (exit : Exit) → k < length work.graph → exit_at progress.ends k ≡ Some exit → (exit.code == 0) ≡ false → artefact_so_far work progress.ends k ≡ None
    refused_unmade k exit lt is bad =
        let parts = ended_is k exit lt is in
        artefact_free work ordered (map child_of_end progress.ends) k lt parts.0
        ∙ ap₂ or_else parts.1 (nothing_printed k exit progress.ends (same_exits k exit parts.2) bad)

    -- where no status is a refusal, no child was refused, so that the build isn't halted
    exit_of_end : (end : End) (xs : List End) (j : ℕ) (d : End) → j < length xs → get_or xs j d ≡ end → (exit : Exit) × (exit_at xs end.position ≡ Some exit)
    unfolding exit_at
    exit_of_end end [] j d lt is = absurd (omega arith)
    exit_of_end end (first ∷ xs) zero d lt is =
        (first.exit, cond-true (first.position == end.position) (Some first.exit) (exit_at xs end.position) (eq-eqb first.position end.position (ap (λ (e : End). e.position) is)))
    exit_of_end end (first ∷ xs) (suc j) d lt is = elim (cases_Bool (first.position == end.position)) [
      | inl here ↦ (first.exit, cond-true (first.position == end.position) (Some first.exit) (exit_at xs end.position) here)
      | inr other ↦ let rest = exit_of_end end xs j d (omega arith) is in (rest.0, cond-false (first.position == end.position) (Some first.exit) (exit_at xs end.position) other ∙ rest.1)
    ]

    module _ (accepted : (k : ℕ) → k < length work.graph → is_refused (status_at work progress.ends k) ≡ false) where
      refusal_has_status : (k : ℕ) (exit : Exit) → k < length work.graph → exit_at progress.ends k ≡ Some exit → (exit.code == 0) ≡ true
      refusal_has_status k exit lt is = elim (cases_Bool (exit.code == 0)) [
        | inl good ↦ good
        | inr bad ↦
            let has_status : status_at work progress.ends k ≡ status_of work.keep_going (Some exit) None = ap₂ (status_of work.keep_going) is (refused_unmade k exit lt is bad) in
            absurd (true≢false (sym (ap is_refused has_status) ∙ accepted k lt))
      ]

      pub unhalted_accepted : progress.halted ≡ false
      unhalted_accepted = elim (cases_Bool progress.halted) [
        | inr on ↦ on
        | inl halted ↦
            let both : All (λ end. IsAnswered answer work progress.ends end × ((exit : Exit) × (exit_at progress.ends end.position ≡ Some exit))) progress.ends =
            λ j d l. (answers.ends j d l, exit_of_end (get_or progress.ends j d) progress.ends j d l refl) in
            let found = any_found is_refusal (λ end. IsAnswered answer work progress.ends end × ((exit : Exit) × (exit_at progress.ends end.position ≡ Some exit))) progress.ends (orderly.halts refl halted) both in
            let end : End = found.0 in
            let lt : end.position < length work.graph = asked_within work progress.ends end.position end.request found.2.0.is in
            let good : (found.2.1.0.code == 0) ≡ true = refusal_has_status end.position found.2.1.0 lt found.2.1.1 in
            let own : end.exit ≡ found.2.1.0 = same_end end found.2.0 found.2.1.0 lt found.2.1.1 in
            absurd (true≢false (sym (ap (λ (e : Exit). e.code == 0) own ∙ good) ∙ not-true (end.exit.code == 0) found.1))
      ]
        where
          same_end : (end : End) → IsAnswered answer work progress.ends end → (exit : Exit) → end.position < length work.graph → exit_at progress.ends end.position ≡ Some exit → end.exit ≡ exit
          same_end end is exit lt at =
              let own : exit_over answer work progress.ends end.position ≡ Some end.exit = ap (option_map answer) is.is.asked ∙ ap (λ (x : Exit). Some x) (sym is.answered) in
              same_Some end.exit exit (sym own ∙ (ended_is end.position exit lt at).2)

    module _ (unhalted : progress.halted ≡ false) (over : (is_none (next_position work progress) || progress.halted) ≡ true) where
      closed : (k : ℕ) → k < length work.graph → is_startable (workload_of work) (schedule_of progress) k ≡ false
      closed k lt =
          elim (or_cases (is_none (next_position work progress)) progress.halted over) [
            | inl none ↦ next_missing work progress (none_value (next_position work progress) none) k lt
            | inr halted ↦ absurd (both_ways progress.halted unhalted halted)
          ]

      open_one : (taken none all : Bool) → (not taken && none && all) ≡ false → all ≡ true → (taken ≡ true) ⊎ (none ≡ false)
      open_one true none all h a = inl refl
      open_one false false all h a = inr refl
      open_one false true all h a = absurd (true≢false (sym a ∙ h))

      is_over : IsOver work progress.ends
      unfolding has_all
      is_over k lt all = elim (open_one (was_taken progress k) (is_none (artefact_so_far work progress.ends k)) (has_all (artefact_so_far work progress.ends) (deps_at work.graph k)) (sym (startable_is work progress k) ∙ closed k lt) all) [
        | inl taken ↦ right (is_some (artefact_so_far work progress.ends k)) (taken_ended k taken)
        | inr made ↦ left (has_ended progress.ends k) (some_from (artefact_so_far work progress.ends k) made)
      ]
        where
          some_from : (o : Option (List ℕ)) → is_none o ≡ false → is_some o ≡ true
          some_from None h = absurd (true≢false h)
          some_from (Some x) h = refl

          right : (a : Bool) {b : Bool} → b ≡ true → (a || b) ≡ true
          right true h = refl
          right false h = h

          left : {a : Bool} (b : Bool) → a ≡ true → (a || b) ≡ true
          left {a} b h = ap (λ c. c || b) h

      -- it has made what is settled
      pub built_is : (k : ℕ) → artefact_so_far work progress.ends k ≡ artefact_settled answer work.graph work.current k
      built_is = whole answer work progress.ends ordered answers.ends is_over

      -- it has started the files that the settled build asks for, and no others
      pub started_are : (k : ℕ) → Contains progress.taken k ↔ ((request : Request) × (request_unless answer work.graph work.current k ≡ Some request))
      started_are k = (
        λ contains.
            let it = All-contains (λ position. (request : Request) × IsAsked work progress.ends position request) progress.taken k answers.taken contains in
            (it.0, asked_settled answer work progress.ends ordered answers.ends k it.0 (asked_within work progress.ends k it.0 it.1) it.1),
        λ asks. held progress.taken k (taken_from k asks.0 asks.1),
      )
        where
          asked_test : (k : ℕ) (request : Request) (test : Bool) (o : Option Request) → cond test o None ≡ Some request → test ≡ true
          asked_test k request true o h = refl
          asked_test k request false o h = absurd (none-some request h)

          in_graph : (k : ℕ) → is_asked (settle answer work.graph work.current k) ≡ true → k < length work.graph
          in_graph k is = elim (cases_lt k (length work.graph)) [
            | inl lt ↦ lt
            | inr le ↦ absurd (false≢true (sym (ap is_asked (settled_past answer work.graph work.current k le)) ∙ is))
          ]

          end_taken : (k : ℕ) (xs : List End) → All (λ end. was_taken progress end.position ≡ true) xs → has_ended xs k ≡ true → was_taken progress k ≡ true
          end_taken k xs all has = taken_of_end progress k xs all has

          taken_from : (k : ℕ) (request : Request) → request_unless answer work.graph work.current k ≡ Some request → was_taken progress k ≡ true
          taken_from k request is =
              let stale : is_asked (settle answer work.graph work.current k) ≡ true = asked_test k request (is_asked (settle answer work.graph work.current k)) _ is in
              end_taken k progress.ends orderly.ends (ended_asked answer work progress.ends ordered answers.ends is_over k (in_graph k stale) ∙ stale)

      settled_status_free : (keep : Bool) (s : Settled) (k : ℕ) → is_asked s ≡ false → (s ≡ settled.Blocked → keep ≡ true) → status_of keep None (settled_artefact s) ≡ steady_status s
      settled_status_free keep settled.Blocked k a b = ap (λ (t : Bool). status_of t None None) (b refl)
      settled_status_free keep (settled.Fresh x) k a b = refl
      settled_status_free keep (settled.Compiled x) k a b = absurd (true≢false a)
      settled_status_free keep (settled.Refused code output) k a b = absurd (true≢false a)

      status_ended : (k : ℕ) (exit : Exit) → status_of work.keep_going (Some exit) (settled_artefact (settled_by_exit exit)) ≡ steady_status (settled_by_exit exit)
      status_ended k exit = elim (cases_Bool (exit.code == 0)) [ inl good ↦ rw good refl | inr bad ↦ rw bad refl ]

      pub status_is : (k : ℕ) → k < length work.graph → (settle answer work.graph work.current k ≡ settled.Blocked → work.keep_going ≡ true) → status_at work progress.ends k ≡ steady_status (settle answer work.graph work.current k)
      status_is k lt blocked = from (exit_at progress.ends k) refl
        where
          from : (exit : Option Exit) → exit_at progress.ends k ≡ exit → status_at work progress.ends k ≡ steady_status (settle answer work.graph work.current k)
          from (Some exit) e =
              let parts = ended_is k exit lt e in
              let is : settle answer work.graph work.current k ≡ settled_by_exit exit =
              settle_is answer work progress.ends ordered answers.ends is_over k lt
              ∙ cond-true (has_all (artefact_so_far work progress.ends) (deps_at work.graph k)) (settled_by (current_over answer work progress.ends k) (exit_over answer work progress.ends k)) settled.Blocked parts.0
              ∙ ap₂ settled_by parts.1 parts.2 in
              ap₂ (status_of work.keep_going) e (built_is k ∙ ap settled_artefact is) ∙ status_ended k exit ∙ ap steady_status (sym is)
          from None e =
              ap₂ (status_of work.keep_going) e (built_is k)
              ∙ settled_status_free work.keep_going (settle answer work.graph work.current k) k (sym (ended_asked answer work progress.ends ordered answers.ends is_over k lt) ∙ ap is_some e) blocked

      module _ (accepted : (k : ℕ) → k < length work.graph → is_refused (status_at work progress.ends k) ≡ false) where
        made_one : (k : ℕ) → k < length work.graph → has_all (artefact_so_far work progress.ends) (deps_at work.graph k) ≡ true → is_some (artefact_so_far work progress.ends k) ≡ true
        made_one k lt all = elim (or_cases (is_some (artefact_so_far work progress.ends k)) (has_ended progress.ends k) (is_over k lt all)) [
          | inl made ↦ made
          | inr has ↦
              let exit = some_value (exit_at progress.ends k) has in
              let parts = ended_is k exit.0 lt exit.1 in
              let good : (exit.0.code == 0) ≡ true = refusal_has_status accepted k exit.0 lt exit.1 in
              let is : settle answer work.graph work.current k ≡ settled_by_exit exit.0 =
              settle_is answer work progress.ends ordered answers.ends is_over k lt
              ∙ cond-true (has_all (artefact_so_far work progress.ends) (deps_at work.graph k)) (settled_by (current_over answer work progress.ends k) (exit_over answer work progress.ends k)) settled.Blocked parts.0
              ∙ ap₂ settled_by parts.1 parts.2 in
              ap is_some (built_is k ∙ ap settled_artefact (is ∙ cond-true (exit.0.code == 0) (settled.Compiled exit.0.output) (settled.Refused exit.0.code exit.0.output) good))
        ]

        -- where no file was refused all are made
        pub made_all : (k : ℕ) → k < length work.graph → is_some (artefact_so_far work progress.ends k) ≡ true
        made_all =
            by_all_below (λ k. k < length work.graph → is_some (artefact_so_far work progress.ends k) ≡ true)
            (λ k before lt. made_one k lt (all_from (deps_at work.graph k) (λ j d l. before (get_or (deps_at work.graph k) j d) (ordered k j d l) (omega (arith, ordered k j d l, lt)))))
          where
            all_from : (deps : List ℕ) → All (λ dep. is_some (artefact_so_far work progress.ends dep) ≡ true) deps → has_all (artefact_so_far work progress.ends) deps ≡ true
            all_from deps all = has_all_from (artefact_so_far work progress.ends) deps all

        not_blocked : (k : ℕ) → k < length work.graph → settle answer work.graph work.current k ≡ settled.Blocked → work.keep_going ≡ true
        not_blocked k lt is = absurd (false≢true (sym (ap is_some (built_is k ∙ ap settled_artefact is)) ∙ made_all k lt))

-- The laws of a build that ended by itself, and that no refusal halted.
module _ (answer : Request → Exit) (work : Work) (graph : IsGraph work.graph) (events : List Event) (whole : IsWhole work events) (answered : Answered answer events) where
  abbrev at_end : BuildProgress
  at_end = progress_of work events

  answers_end : AreAnswered answer work at_end
  answers_end = answers_of answer work (deps_before work.graph graph) events whole.lawful answered

  orderly_end : IsOrderly work false at_end
  orderly_end = subst (λ (lost : Bool). IsOrderly work lost at_end) whole.none_lost (orderly_progress answer work events whole.lawful answered)

  idle_end : at_end.runs ≡ []
  idle_end = no_runs at_end.runs whole.finished.idle

  accepted_end : list_any is_refused (statuses_of work events) ≡ false → (k : ℕ) → k < length work.graph → is_refused (status_at work at_end.ends k) ≡ false
  accepted_end none = none-below is_refused (status_at work at_end.ends) (length work.graph) none

  unhalted : NoRefusalHalts work events → at_end.halted ≡ false
  unhalted (inl keep) = never_halted answer work keep events whole.none_lost
  unhalted (inr none) = unhalted_accepted answer work graph at_end answers_end orderly_end idle_end (accepted_end none)

  module _ (through : NoRefusalHalts work events) where
    pub all_started : (position : ℕ) → Contains at_end.taken position ↔ ((request : Request) × (request_unless answer work.graph work.current position ≡ Some request))
    all_started = started_are answer work graph at_end answers_end orderly_end idle_end (unhalted through) whole.finished.over

    pub all_built : (position : ℕ) → artefact_after work events position ≡ artefact_settled answer work.graph work.current position
    all_built = built_is answer work graph at_end answers_end orderly_end idle_end (unhalted through) whole.finished.over

    blocked_when : NoRefusalHalts work events → (k : ℕ) → k < length work.graph → settle answer work.graph work.current k ≡ settled.Blocked → work.keep_going ≡ true
    blocked_when (inl keep) k lt is = keep
    blocked_when (inr none) k lt is = not_blocked answer work graph at_end answers_end orderly_end idle_end (unhalted through) whole.finished.over (accepted_end none) k lt is

    pub all_steady : statuses_of work events ≡ steady_statuses answer work.graph work.current
    all_steady =
        map-below_same (status_at work at_end.ends) (λ position. steady_status (settle answer work.graph work.current position)) (length work.graph)
        (λ k lt. status_is answer work graph at_end answers_end orderly_end idle_end (unhalted through) whole.finished.over k lt (blocked_when through k lt))

  -- where no file was refused, all files are made
  pub all_files_made : list_any is_refused (statuses_of work events) ≡ false → (position : ℕ) → position < length work.graph → is_some (artefact_after work events position) ≡ true
  all_files_made none = made_all answer work graph at_end answers_end orderly_end idle_end (unhalted (inr none)) whole.finished.over (accepted_end none)
