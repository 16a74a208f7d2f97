-- Where all children that ended were started over the artefacts so far, each artefact so far is that of the settled build. Once
-- the build is over, the settled build has no other artefacts.
use Rattle.std.proofs.Common.{◌≡◌, ℕ, suc, ◌<◌, ◌≤◌, ◌==◌, Bool, true, false, ◌&&◌, ◌||◌, cond, List, [], ◌∷◌, ◌++◌, length, map, get_or, Option, Some, None, refl, sym, ap, ap₂, subst, ◌∙◌, arith, inl, inr, is_some, All}
use Rattle.std.specs.Option.{option_map}
use Rattle.std.proofs.lemmas.Bool.{cases_Bool, cases_lt, cond-true, cond-false, and_parts, and_left, eqb-true, or_cases, false≢true}
use Rattle.std.proofs.lemmas.Option.{none-some}
use Rattle.std.proofs.lemmas.List.{map-append}
use Rattle.base.specs.declared.graph.Entry.{Entry}
use Rattle.base.specs.declared.graph.BuiltFile.{BuiltFile}
use Rattle.base.specs.declared.child.Request.{Request}
use Rattle.base.specs.declared.child.Exit.{Exit}
use Rattle.outside.specs.Records.{deps_at}
use Rattle.run_spec.specs.Folds.{upto}
use Rattle.run_spec.specs.ChildJournal.{Work, End, child_of_end, exit_at, output_at, or_else, has_all, built_at, artefact_by, artefact_so_far}
use Rattle.run_spec.specs.Settled.{Settled, Blocked, Compiled, Refused, settled_artefact, request_over, settled_by_exit, settled_by, next_settled, settle, artefact_settled, is_asked, request_unless, IsAsked, IsAnswered, has_ended, IsOver, none_current, IsTrueOver}
use Rattle.run_spec.proofs.FoldLaws.{by_all_below, upto_at, upto_longer, upto_past}
use Rattle.run_spec.proofs.BuiltLists.{Keeps, same_where, has_all_at, has_all_same, built_same, has_all_more, built_more}
use Rattle.run_spec.proofs.Artefacts.{next_parts, artefact_at, artefact_free, artefact_stays, none_past}

-- ## The result of a file follows from the results of the files below it

module _ (answer : Request → Exit) (graph : List Entry) (current : ℕ → List BuiltFile → Option (List ℕ)) where
  pub settled_past : (at : ℕ) → length graph ≤ at → settle answer graph current at ≡ Blocked
  unfolding settle
  settled_past at le = upto_past (next_settled answer graph current) Blocked (length graph) at le

  pub settle_at : ((position : ℕ) → All (λ dep. dep < position) (deps_at graph position)) → (at : ℕ) → at < length graph → settle answer graph current at ≡ next_settled answer graph current (settle answer graph current) at
  unfolding settle
  settle_at ordered at lt =
      let next : (ℕ → Settled) → ℕ → Settled = next_settled answer graph current in
      let deps : List ℕ = deps_at graph at in
      let f : ℕ → Option (List ℕ) = λ dep. settled_artefact (upto next Blocked at dep) in
      let g : ℕ → Option (List ℕ) = λ dep. settled_artefact (upto next Blocked (length graph) dep) in
      let same : All (λ dep. f dep ≡ g dep) deps = λ j d l. ap settled_artefact (upto_longer next Blocked at (length graph) (get_or deps j d) (ordered at j d l) (omega (arith, ordered at j d l))) in
      upto_at next Blocked (length graph) at lt
      ∙ ap₂ (λ (all : Bool) (settled : Settled). cond all settled Blocked) (has_all_same f g deps same)
      (ap (λ built. settled_by (current at built) (option_map answer (request_over graph at built))) (built_same graph f g deps same))

-- what a compiler is asked for isn't blocked or fresh
asked_by_exit : (exit : Exit) → is_asked (settled_by_exit exit) ≡ true
asked_by_exit exit = elim (cases_Bool (exit.code == 0)) [
  | inl good ↦ ap is_asked (cond-true (exit.code == 0) (Compiled exit.output) (Refused exit.code exit.output) good)
  | inr bad ↦ ap is_asked (cond-false (exit.code == 0) (Compiled exit.output) (Refused exit.code exit.output) bad)
]

-- what holds for the exits of all children of a file holds for the exit of the first
first_found : (xs : List End) (at : ℕ) (exit : Exit) (o : Option Exit) → All (λ end. end.position ≡ at → o ≡ Some end.exit) xs → exit_at xs at ≡ Some exit → o ≡ Some exit
unfolding exit_at
first_found [] at exit o all is = absurd (none-some exit is)
first_found (end ∷ xs) at exit o all is = elim (cases_Bool (end.position == at)) [
  | inl here ↦ all 0 end (omega arith) (eqb-true end.position at here) ∙ sym (cond-true (end.position == at) (Some end.exit) (exit_at xs at) here) ∙ is
  | inr other ↦ first_found xs at exit o (λ k d l. all (suc k) d (omega arith)) (sym (cond-false (end.position == at) (Some end.exit) (exit_at xs at) other) ∙ is)
]

-- ## Ends that are answered

module _ (answer : Request → Exit) (work : Work) (ends : List End) where
  -- what the compiler of a file answers over the artefacts so far
  abbrev pub exit_over : ℕ → Option Exit
  exit_over at = option_map answer (request_over work.graph at (built_at work.graph (artefact_so_far work ends) (deps_at work.graph at)))

  abbrev pub current_over : ℕ → Option (List ℕ)
  current_over at = work.current at (built_at work.graph (artefact_so_far work ends) (deps_at work.graph at))

  -- the exit of a child is that answer
  pub exit_is : (end : End) → IsAnswered answer work ends end → exit_over end.position ≡ Some end.exit
  exit_is end is = ap (option_map answer) is.is.asked ∙ ap (λ (exit : Exit). Some exit) (sym is.answered)

  pub printed_is : (xs : List End) → All (IsAnswered answer work ends) xs → (at : ℕ) (artefact : List ℕ) → output_at (map child_of_end xs) at ≡ Some artefact → settled_artefact (settled_by None (exit_over at)) ≡ Some artefact
  unfolding output_at
  printed_is [] all at artefact is = absurd (none-some artefact is)
  printed_is (end ∷ xs) all at artefact is = elim (cases_Bool (end.position == at && end.exit.code == 0)) [
    | inl does ↦
        let both : ((end.position == at) ≡ true) × ((end.exit.code == 0) ≡ true) = and_parts (end.position == at) (end.exit.code == 0) does in
        ap (λ e. settled_artefact (settled_by None e)) (ap exit_over (sym (eqb-true end.position at both.0)) ∙ exit_is end (all 0 end (omega arith)))
        ∙ ap settled_artefact (cond-true (end.exit.code == 0) (Compiled end.exit.output) (Refused end.exit.code end.exit.output) both.1)
        ∙ sym (cond-true (end.position == at && end.exit.code == 0) (Some end.exit.output) (output_at (map child_of_end xs) at) does) ∙ is
    | inr fails ↦ printed_is xs (λ k d l. all (suc k) d (omega arith)) at artefact (sym (cond-false (end.position == at && end.exit.code == 0) (Some end.exit.output) (output_at (map child_of_end xs) at) fails) ∙ is)
  ]

  module _ (ordered : (position : ℕ) → All (λ dep. dep < position) (deps_at work.graph position)) (answered : All (IsAnswered answer work ends) ends) where
    gives : (o out : Option (List ℕ)) (exit : Option Exit) (artefact : List ℕ) → ((x : List ℕ) → out ≡ Some x → settled_artefact (settled_by None exit) ≡ Some x) → or_else o out ≡ Some artefact → settled_artefact (settled_by o exit) ≡ Some artefact
    gives None out exit artefact printed is = printed artefact is
    gives (Some x) out exit artefact printed is = is

    -- the result of a file, if the settled build has the artefacts so far for the files below it
    settled_here : (at : ℕ) → at < length work.graph → All (λ dep. artefact_settled answer work.graph work.current dep ≡ artefact_so_far work ends dep) (deps_at work.graph at)
        → settle answer work.graph work.current at ≡ cond (has_all (artefact_so_far work ends) (deps_at work.graph at)) (settled_by (current_over at) (exit_over at)) Blocked
    settled_here at lt same =
        let deps : List ℕ = deps_at work.graph at in
        let f : ℕ → Option (List ℕ) = artefact_so_far work ends in
        let g : ℕ → Option (List ℕ) = artefact_settled answer work.graph work.current in
        settle_at answer work.graph work.current ordered at lt
        ∙ ap₂ (λ (all : Bool) (settled : Settled). cond all settled Blocked) (has_all_same g f deps same)
        (ap (λ built. settled_by (work.current at built) (option_map answer (request_over work.graph at built))) (built_same work.graph g f deps same))

    settles_here : (at : ℕ) → at < length work.graph → ((dep : ℕ) → dep < at → (x : List ℕ) → artefact_so_far work ends dep ≡ Some x → artefact_settled answer work.graph work.current dep ≡ Some x)
        → (artefact : List ℕ) → artefact_so_far work ends at ≡ Some artefact → artefact_settled answer work.graph work.current at ≡ Some artefact
    settles_here at lt before artefact is =
        let deps : List ℕ = deps_at work.graph at in
        let f : ℕ → Option (List ℕ) = artefact_so_far work ends in
        let g : ℕ → Option (List ℕ) = artefact_settled answer work.graph work.current in
        let parts : (has_all f deps ≡ true) × (or_else (current_over at) (output_at (map child_of_end ends) at) ≡ Some artefact) =
        next_parts work (map child_of_end ends) f at artefact (sym (artefact_at work ordered (map child_of_end ends) at lt) ∙ is) in
        let same : All (λ dep. g dep ≡ f dep) deps =
        λ j d l. same_where (f (get_or deps j d)) (g (get_or deps j d)) (before (get_or deps j d) (ordered at j d l)) (has_all_at f deps parts.0 j d l) in
        ap settled_artefact (settled_here at lt same ∙ cond-true (has_all f deps) (settled_by (current_over at) (exit_over at)) Blocked parts.0)
        ∙ gives (current_over at) (output_at (map child_of_end ends) at) (exit_over at) artefact (printed_is ends answered at) parts.1

    -- what is made by answers is what the settled build makes
    pub settles : Keeps (artefact_so_far work ends) (artefact_settled answer work.graph work.current)
    settles =
        by_all_below (λ at. (artefact : List ℕ) → artefact_so_far work ends at ≡ Some artefact → artefact_settled answer work.graph work.current at ≡ Some artefact)
        (λ at before artefact is. elim (cases_lt at (length work.graph)) [
          | inl lt ↦ settles_here at lt before artefact is
          | inr le ↦ absurd (none-some artefact (sym (none_past work (map child_of_end ends) at le) ∙ is))
        ])

    -- ## A build that is over

    exits : (at : ℕ) → All (λ end. end.position ≡ at → exit_over at ≡ Some end.exit) ends
    exits at k d l e = ap exit_over (sym e) ∙ exit_is (get_or ends k d) (answered k d l)

    -- the exit of the first child of a file is the compiler's answer over the artefacts so far
    pub first_exit : (at : ℕ) (exit : Exit) → exit_at ends at ≡ Some exit → exit_over at ≡ Some exit
    first_exit at exit is = first_found ends at exit (exit_over at) (exits at) is

    prints_good : (exit : Exit) (at : ℕ) (xs : List End) → All (λ end. end.position ≡ at → end.exit ≡ exit) xs → (exit.code == 0) ≡ true → has_ended xs at ≡ true → output_at (map child_of_end xs) at ≡ Some exit.output
    unfolding exit_at output_at
    prints_good exit at [] all good has = absurd (false≢true has)
    prints_good exit at (end ∷ xs) all good has = elim (cases_Bool (end.position == at)) [
      | inl here ↦
          let same : end.exit ≡ exit = all 0 end (omega arith) (eqb-true end.position at here) in
          let test : (end.position == at && end.exit.code == 0) ≡ true = ap₂ ◌&&◌ here (ap (λ (e : Exit). e.code == 0) same ∙ good) in
          cond-true (end.position == at && end.exit.code == 0) (Some end.exit.output) (output_at (map child_of_end xs) at) test ∙ ap (λ (e : Exit). Some e.output) same
      | inr other ↦
          cond-false (end.position == at && end.exit.code == 0) (Some end.exit.output) (output_at (map child_of_end xs) at) (and_left (end.position == at) (end.exit.code == 0) other)
          ∙ prints_good exit at xs (λ k d l. all (suc k) d (omega arith)) good (sym (ap is_some (cond-false (end.position == at) (Some end.exit) (exit_at xs at) other)) ∙ has)
    ]

    some_is : (o : Option (List ℕ)) → is_some o ≡ true → (x : List ℕ) × (o ≡ Some x)
    some_is None some = absurd (false≢true some)
    some_is (Some x) some = (x, refl)

    -- where no record is current and the build is over, a good answer was printed
    printed_here : (at : ℕ) (exit : Exit) → exit_over at ≡ Some exit → (exit.code == 0) ≡ true → (is_some (output_at (map child_of_end ends) at) || has_ended ends at) ≡ true → output_at (map child_of_end ends) at ≡ Some exit.output
    printed_here at exit says good over = elim (or_cases (is_some (output_at (map child_of_end ends) at)) (has_ended ends at) over) [
      | inl some ↦
          let it : (x : List ℕ) × (output_at (map child_of_end ends) at ≡ Some x) = some_is (output_at (map child_of_end ends) at) some in
          it.1 ∙ sym (printed_is ends answered at it.0 it.1)
          ∙ ap (λ e. settled_artefact (settled_by None e)) says ∙ ap settled_artefact (cond-true (exit.code == 0) (Compiled exit.output) (Refused exit.code exit.output) good)
      | inr has ↦ prints_good exit at ends (λ k d l e. same_Exit (sym (exits at k d l e) ∙ says)) good has
    ]
      where
        same_Exit : {a b : Exit} → ◌≡◌ {A = Option Exit} (Some a) (Some b) → a ≡ b
        same_Exit {a} {b} h = cc

    gives_back : (at : ℕ) (o : Option (List ℕ)) (exit : Option Exit) (artefact : List ℕ) → exit_over at ≡ exit → (is_some (or_else o (output_at (map child_of_end ends) at)) || has_ended ends at) ≡ true → settled_artefact (settled_by o exit) ≡ Some artefact
        → or_else o (output_at (map child_of_end ends) at) ≡ Some artefact
    gives_back at (Some x) exit artefact says over is = is
    gives_back at None None artefact says over is = absurd (none-some artefact is)
    gives_back at None (Some exit) artefact says over is = elim (cases_Bool (exit.code == 0)) [
      | inl good ↦ printed_here at exit says good over ∙ sym (ap settled_artefact (cond-true (exit.code == 0) (Compiled exit.output) (Refused exit.code exit.output) good)) ∙ is
      | inr bad ↦ absurd (none-some artefact (sym (ap settled_artefact (cond-false (exit.code == 0) (Compiled exit.output) (Refused exit.code exit.output) bad)) ∙ is))
    ]

    free_parts : (all : Bool) (s : Settled) (artefact : List ℕ) → settled_artefact (cond all s Blocked) ≡ Some artefact → (all ≡ true) × (settled_artefact s ≡ Some artefact)
    free_parts true s artefact is = (refl, is)
    free_parts false s artefact is = absurd (none-some artefact is)

    same_both : (o p : Option (List ℕ)) → ((x : List ℕ) → o ≡ Some x → p ≡ Some x) → ((x : List ℕ) → p ≡ Some x → o ≡ Some x) → o ≡ p
    same_both (Some x) p h k = sym (h x refl)
    same_both None None h k = refl
    same_both None (Some x) h k = k x refl

    -- whose child has ended: all below it were made, and no record was current
    pub ended_parts : (xs : List End) → All (IsAnswered answer work ends) xs → (at : ℕ) → has_ended xs at ≡ true → (has_all (artefact_so_far work ends) (deps_at work.graph at) ≡ true) × (current_over at ≡ None) × (is_some (exit_over at) ≡ true)
    unfolding exit_at
    ended_parts [] all at has = absurd (false≢true has)
    ended_parts (end ∷ xs) all at has = elim (cases_Bool (end.position == at)) [
      | inl here ↦
          let e : end.position ≡ at = eqb-true end.position at here in
          let it : IsAnswered answer work ends end = all 0 end (omega arith) in (
            subst (λ k. has_all (artefact_so_far work ends) (deps_at work.graph k) ≡ true) e it.is.over_all,
            subst (λ k. current_over k ≡ None) e it.is.stale,
            subst (λ k. is_some (exit_over k) ≡ true) e (ap is_some (exit_is end it)),
          )
      | inr later ↦ ended_parts xs (λ k d l. all (suc k) d (omega arith)) at (sym (ap is_some (cond-false (end.position == at) (Some end.exit) (exit_at xs at) later)) ∙ has)
    ]

    module _ (over : IsOver work ends) where
      over_here : (at : ℕ) → at < length work.graph → has_all (artefact_so_far work ends) (deps_at work.graph at) ≡ true → (is_some (or_else (current_over at) (output_at (map child_of_end ends) at)) || has_ended ends at) ≡ true
      over_here at lt all = subst (λ o. (is_some o || has_ended ends at) ≡ true) (artefact_free work ordered (map child_of_end ends) at lt all) (over at lt all)

      whole_here : (at : ℕ) → at < length work.graph → ((dep : ℕ) → dep < at → artefact_so_far work ends dep ≡ artefact_settled answer work.graph work.current dep)
          → (artefact : List ℕ) → artefact_settled answer work.graph work.current at ≡ Some artefact → artefact_so_far work ends at ≡ Some artefact
      whole_here at lt before artefact is =
          let deps : List ℕ = deps_at work.graph at in
          let f : ℕ → Option (List ℕ) = artefact_so_far work ends in
          let parts : (has_all f deps ≡ true) × (settled_artefact (settled_by (current_over at) (exit_over at)) ≡ Some artefact) =
          free_parts (has_all f deps) (settled_by (current_over at) (exit_over at)) artefact (sym (ap settled_artefact (settled_here at lt (λ j d l. sym (before (get_or deps j d) (ordered at j d l))))) ∙ is) in
          artefact_free work ordered (map child_of_end ends) at lt parts.0 ∙ gives_back at (current_over at) (exit_over at) artefact refl (over_here at lt parts.0) parts.1

      -- it has made what is settled
      pub whole : (at : ℕ) → artefact_so_far work ends at ≡ artefact_settled answer work.graph work.current at
      whole =
          by_all_below (λ at. artefact_so_far work ends at ≡ artefact_settled answer work.graph work.current at)
          (λ at before. elim (cases_lt at (length work.graph)) [
            | inl lt ↦ same_both (artefact_so_far work ends at) (artefact_settled answer work.graph work.current at) (settles at) (whole_here at lt before)
            | inr le ↦ none_past work (map child_of_end ends) at le ∙ sym (ap settled_artefact (settled_past answer work.graph work.current at le))
          ])

      -- the result of a file, by the artefacts so far
      pub settle_is : (at : ℕ) → at < length work.graph → settle answer work.graph work.current at ≡ cond (has_all (artefact_so_far work ends) (deps_at work.graph at)) (settled_by (current_over at) (exit_over at)) Blocked
      settle_is at lt = settled_here at lt (λ j d l. sym (whole (get_or (deps_at work.graph at) j d)))

      printed_ended : (xs : List End) (at : ℕ) → is_some (output_at (map child_of_end xs) at) ≡ true → has_ended xs at ≡ true
      unfolding exit_at output_at
      printed_ended [] at some = absurd (false≢true some)
      printed_ended (end ∷ xs) at some = elim (cases_Bool (end.position == at)) [
        | inl here ↦ ap is_some (cond-true (end.position == at) (Some end.exit) (exit_at xs at) here)
        | inr other ↦ ap is_some (cond-false (end.position == at) (Some end.exit) (exit_at xs at) other) ∙ printed_ended xs at
            (sym (ap is_some (cond-false (end.position == at && end.exit.code == 0) (Some end.exit.output) (output_at (map child_of_end xs) at) (and_left (end.position == at) (end.exit.code == 0) other))) ∙ some)
      ]

      asked_where : (all : Bool) (o : Option (List ℕ)) (exit : Option Exit) → all ≡ true → o ≡ None → is_some exit ≡ true → is_asked (cond all (settled_by o exit) Blocked) ≡ true
      asked_where true None (Some exit) a b c = asked_by_exit exit
      asked_where true None None a b c = absurd (false≢true c)
      asked_where true (Some x) exit a b c = absurd (none-some x (sym b))
      asked_where false o exit a b c = absurd (false≢true a)

      asked_parts : (all : Bool) (o : Option (List ℕ)) (exit : Option Exit) → is_asked (cond all (settled_by o exit) Blocked) ≡ true → (all ≡ true) × (o ≡ None)
      asked_parts true None exit is = (refl, refl)
      asked_parts true (Some x) exit is = absurd (false≢true is)
      asked_parts false o exit is = absurd (false≢true is)

      over_ended : (at : ℕ) (o : Option (List ℕ)) → o ≡ None → (is_some (or_else o (output_at (map child_of_end ends) at)) || has_ended ends at) ≡ true → has_ended ends at ≡ true
      over_ended at (Some x) none it = absurd (none-some x (sym none))
      over_ended at None none it = elim (or_cases (is_some (output_at (map child_of_end ends) at)) (has_ended ends at) it) [
        | inl some ↦ printed_ended ends at some
        | inr has ↦ has
      ]

      same_bool : (a b : Bool) → (a ≡ true → b ≡ true) → (b ≡ true → a ≡ true) → a ≡ b
      same_bool true b h k = sym (h refl)
      same_bool false true h k = k refl
      same_bool false false h k = refl

      -- children have ended of the files whose compilers the settled build asks, and of no others
      pub ended_asked : (at : ℕ) → at < length work.graph → has_ended ends at ≡ is_asked (settle answer work.graph work.current at)
      ended_asked at lt =
          let all : Bool = has_all (artefact_so_far work ends) (deps_at work.graph at) in
          same_bool (has_ended ends at) (is_asked (settle answer work.graph work.current at))
          (λ has. let it = ended_parts ends answered at has in ap is_asked (settle_is at lt) ∙ asked_where all (current_over at) (exit_over at) it.0 it.1 it.2)
          (λ asked. let it = asked_parts all (current_over at) (exit_over at) (sym (ap is_asked (settle_is at lt)) ∙ asked) in over_ended at (current_over at) it.1 (over_here at lt it.0))

-- a request over the artefacts so far is also one over the artefacts after more ends
pub asked_more : (work : Work) (ends more : List End) (position : ℕ) (request : Request) → IsAsked work ends position request → IsAsked work (ends ++ more) position request
asked_more work ends more position request is =
    let f : ℕ → Option (List ℕ) = artefact_so_far work ends in
    let g : ℕ → Option (List ℕ) = artefact_so_far work (ends ++ more) in
    let keeps : Keeps f g = λ at artefact had. ap (λ ended. artefact_by work ended at) (map-append child_of_end ends more) ∙ artefact_stays work (map child_of_end ends) (map child_of_end more) at artefact had in
    let built : built_at work.graph g (deps_at work.graph position) ≡ built_at work.graph f (deps_at work.graph position) = built_more work.graph f g keeps (deps_at work.graph position) is.over_all in
    record {
      over_all = has_all_more f g keeps (deps_at work.graph position) is.over_all;
      asked = ap (request_over work.graph position) built ∙ is.asked;
      stale = ap (work.current position) built ∙ is.stale;
    }

pub is_answered_more : (answer : Request → Exit) (work : Work) (ends more : List End) (end : End) → IsAnswered answer work ends end → IsAnswered answer work (ends ++ more) end
is_answered_more answer work ends more end is = record { is = asked_more work ends more end.position end.request is.is; answered = is.answered }

-- if each end is answered, the result of a requested file in the settled build is the compiler's answer,
module _ (answer : Request → Exit) (work : Work) (ends : List End) (ordered : (position : ℕ) → All (λ dep. dep < position) (deps_at work.graph position)) (answered : All (IsAnswered answer work ends) ends) where
  settled_deps : (position : ℕ) (request : Request) → IsAsked work ends position request → All (λ dep. artefact_settled answer work.graph work.current dep ≡ artefact_so_far work ends dep) (deps_at work.graph position)
  settled_deps position request is =
      let deps : List ℕ = deps_at work.graph position in
      let f : ℕ → Option (List ℕ) = artefact_so_far work ends in
      let g : ℕ → Option (List ℕ) = artefact_settled answer work.graph work.current in
      λ j d l. same_where (f (get_or deps j d)) (g (get_or deps j d)) (settles answer work ends ordered answered (get_or deps j d)) (has_all_at f deps is.over_all j d l)

  pub asked_settle : (position : ℕ) (request : Request) → position < length work.graph → IsAsked work ends position request → settle answer work.graph work.current position ≡ settled_by_exit (answer request)
  asked_settle position request lt is =
      settled_here answer work ends ordered answered position lt (settled_deps position request is)
      ∙ cond-true (has_all (artefact_so_far work ends) (deps_at work.graph position)) (settled_by (current_over answer work ends position) (exit_over answer work ends position)) Blocked is.over_all
      ∙ ap₂ settled_by is.stale (ap (option_map answer) is.asked)

  -- and it is asked there for the same
  pub asked_settled : (position : ℕ) (request : Request) → position < length work.graph → IsAsked work ends position request → request_unless answer work.graph work.current position ≡ Some request
  asked_settled position request lt is =
      let deps : List ℕ = deps_at work.graph position in
      let f : ℕ → Option (List ℕ) = artefact_so_far work ends in
      let g : ℕ → Option (List ℕ) = artefact_settled answer work.graph work.current in
      cond-true (is_asked (settle answer work.graph work.current position)) (request_over work.graph position (built_at work.graph g deps)) None
      (ap is_asked (asked_settle position request lt is) ∙ asked_by_exit (answer request))
      ∙ ap (request_over work.graph position) (built_same work.graph g f deps (settled_deps position request is)) ∙ is.asked

-- ## Records that are true

true_one : (all : Bool) (current : Option (List ℕ)) (exit : Option Exit) → (all ≡ true → (x : List ℕ) → current ≡ Some x → settled_artefact (settled_by None exit) ≡ Some x) → settled_artefact (cond all (settled_by current exit) Blocked) ≡ settled_artefact (cond all (settled_by None exit) Blocked)
true_one false current exit is = refl
true_one true None exit is = refl
true_one true (Some x) exit is = sym (is refl x refl)

-- where what is current is true over what is built without any record, the settled build makes the same
pub true_same : (answer : Request → Exit) (graph : List Entry) (current : ℕ → List BuiltFile → Option (List ℕ)) → ((position : ℕ) → All (λ dep. dep < position) (deps_at graph position))
    → ((k : ℕ) → k < length graph → has_all (artefact_settled answer graph none_current) (deps_at graph k) ≡ true → IsTrueOver answer graph current k (built_at graph (artefact_settled answer graph none_current) (deps_at graph k))) → (k : ℕ) → artefact_settled answer graph current k ≡ artefact_settled answer graph none_current k
true_same answer graph current ordered is =
    let f : ℕ → Option (List ℕ) = artefact_settled answer graph current in
    let g : ℕ → Option (List ℕ) = artefact_settled answer graph none_current in
    by_all_below (λ k. f k ≡ g k)
    (λ k before. elim (cases_lt k (length graph)) [
      | inl lt ↦
          let deps : List ℕ = deps_at graph k in
          let same : All (λ dep. f dep ≡ g dep) deps = λ j d l. before (get_or deps j d) (ordered k j d l) in
          ap settled_artefact (settle_at answer graph current ordered k lt)
          ∙ ap₂ (λ (all : Bool) (built : List BuiltFile). settled_artefact (cond all (settled_by (current k built) (option_map answer (request_over graph k built))) Blocked)) (has_all_same f g deps same) (built_same graph f g deps same)
          ∙ true_one (has_all g deps) (current k (built_at graph g deps)) (option_map answer (request_over graph k (built_at graph g deps))) (is k lt)
          ∙ sym (ap settled_artefact (settle_at answer graph none_current ordered k lt))
      | inr le ↦ ap settled_artefact (settled_past answer graph current k le) ∙ sym (ap settled_artefact (settled_past answer graph none_current k le))
    ])
