-- The statuses of files, event after event.
use Rattle.std.proofs.Common.{◌≡◌, ℕ, ◌<◌, Bool, true, false, eqb, ◌&&◌, ◌||◌, List, [], ◌∷◌, ◌++◌, length, get_or, map, cond, Option, Some, None, refl, sym, ap, subst, ◌∙◌, is_some, arith, inl, inr}
use Rattle.std.proofs.Math.ListN.{set, length-set}
use Rattle.std.proofs.lemmas.Bool.{cases_eq, cases_Bool, eq-eqb, ne_eqb, cond-true, cond-false, true≢false}
use Rattle.std.proofs.lemmas.List.{length-map, get_or-map, get_or-set_same, get_or-set_other, take_all, map-append}
use Rattle.base.specs.declared.graph.BuiltFile.{BuiltFile}
use Rattle.base.specs.declared.child.Request.{Request}
use Rattle.base.specs.declared.child.Exit.{Exit}
use Rattle.run_spec.specs.declared.statuses.FileStatus.{FileStatus}
use Rattle.run_spec.specs.declared.statuses.FileStatus.TheVariants.{Fresh, Compiled, Refused}
use Rattle.base.specs.PresentGraph.{below}
use Rattle.base.proofs.Below.{length-below, get_or-below, map-below_is}
use Rattle.run_spec.specs.ChildJournal.{Work, End, child_of_end, exit_at, output_at, or_else, has_all, built_at, artefact_by, artefact_so_far}
use Rattle.base.specs.Graphs.{IsGraph}
use Rattle.outside.specs.Records.{deps_at}
use Rattle.run_spec.specs.Moves.{EndedChild}
use Rattle.run_spec.specs.Statuses.{status_of, status_at}
use Rattle.run_spec.proofs.Artefacts.{deps_before, artefact_stays, artefact_free}
use Rattle.run_spec.proofs.BuiltLists.{has_all_more, built_more}
use Rattle.run_laws.proofs.JournalSettled.{map-below_same}
use Rattle.run_scheduler.specs.declared.build_scheduler.BuildScheduler.{BuildScheduler}
use Rattle.run_scheduler.specs.Machines.{is_checked}
use Rattle.run_build.specs.Statuses.{waiting_status, known_status, known_statuses}
use Rattle.run_spec.proofs.Journal.{exit_at-pushed, exit_at-push_other, output_at-pushed, output_at-push_other}

-- one of the statuses is set
statuses_set : (f g : ℕ → FileStatus) (n position : ℕ) (status : FileStatus) → position < n → status ≡ g position → ((k : ℕ) → k < n → (position ≡ k → ⊥) → f k ≡ g k) → set (map f (below n)) position status ≡ map g (below n)
statuses_set f g n position status lt is others =
    let statuses : List FileStatus = map f (below n) in
    let count : length statuses ≡ n = length-map (below n) f ∙ length-below n in
    let all : length (set statuses position status) ≡ n = length-set statuses position status ∙ count in
    sym (map-below_is g (set statuses position status) n (omega (arith, all)) (λ k d l. each k d l) ∙ take_all n (set statuses position status) (omega (arith, all)))
  where
    each : (k : ℕ) (d : FileStatus) → k < n → get_or (set (map f (below n)) position status) k d ≡ g k
    each k d l =
        let statuses : List FileStatus = map f (below n) in
        let count : length statuses ≡ n = length-map (below n) f ∙ length-below n in
        elim (cases_eq position k) [
          | inl same ↦ ap (λ (j : ℕ). get_or (set statuses position status) j d) (sym same) ∙ get_or-set_same statuses position status d (omega (arith, count, lt)) ∙ is ∙ ap g same
          | inr other ↦
              get_or-set_other statuses position k status d (λ e. other (sym e)) ∙ get_or-map f (below n) k 0 d (omega (arith, length-below n, l))
              ∙ ap f (get_or-below n k 0 l) ∙ others k l other
        ]

-- the status of a file whose child has ended
abbrev pub status_of_exit : Exit → FileStatus
status_of_exit exit = cond (eqb exit.code 0) Compiled (Refused exit.code exit.output)

-- a file without an artefact has neither a recorded nor a printed one
pub none_of_else : (kept printed : Option (List ℕ)) → or_else kept printed ≡ None → (kept ≡ None) × (printed ≡ None)
none_of_else None printed h = (refl, h)
none_of_else (Some artefact) printed h = let nothing : ⊥ = cc in absurd nothing

status_here : (keep_going : Bool) (exit : Exit) (printed : Option (List ℕ)) (made : Bool) → eqb exit.code 0 ≡ made → printed ≡ cond made (Some exit.output) None →
    status_of keep_going (Some exit) (or_else None printed) ≡ status_of_exit exit
status_here keep_going exit printed true code is =
    ap (status_of keep_going (Some exit)) is ∙ sym (cond-true (eqb exit.code 0) Compiled (Refused exit.code exit.output) code)
status_here keep_going exit printed false code is =
    ap (status_of keep_going (Some exit)) is ∙ sym (cond-false (eqb exit.code 0) Compiled (Refused exit.code exit.output) code)

-- whatever becomes of a file that has all that it depends on follows from what its child printed
pub free_then : (work : Work) → IsGraph work.graph → (ended more : List EndedChild) (at : ℕ) → at < length work.graph → has_all (artefact_by work ended) (deps_at work.graph at) ≡ true
    → artefact_by work (ended ++ more) at ≡ or_else (work.current at (built_at work.graph (artefact_by work ended) (deps_at work.graph at))) (output_at (ended ++ more) at)
free_then work graph ended more at lt all =
    let deps : List ℕ = deps_at work.graph at in
    let f : ℕ → Option (List ℕ) = artefact_by work ended in
    let g : ℕ → Option (List ℕ) = artefact_by work (ended ++ more) in
    artefact_free work (deps_before work.graph graph) (ended ++ more) at lt (has_all_more f g (artefact_stays work ended more) deps all)
    ∙ ap (λ built. or_else (work.current at built) (output_at (ended ++ more) at)) (built_more work.graph f g (artefact_stays work ended more) deps all)

module _ (setting : Work) (graph : IsGraph setting.graph) (ends : List End) (position : ℕ) (request : Request) (built : List BuiltFile) (exit : Exit) (inside : position < length setting.graph)
    (free : has_all (artefact_so_far setting ends) (deps_at setting.graph position) ≡ true) (unmade : artefact_so_far setting ends position ≡ None) where
  abbrev end : End
  end = record { position = position; request = request; below = built; exit = exit }

  abbrev then : List End
  then = ends ++ end ∷ []

  abbrev ended : List EndedChild
  ended = map child_of_end ends

  abbrev current_here : Option (List ℕ)
  current_here = setting.current position (built_at setting.graph (artefact_by setting ended) (deps_at setting.graph position))

  parts_of : (current_here ≡ None) × (output_at ended position ≡ None)
  parts_of = none_of_else current_here (output_at ended position) (sym (artefact_free setting (deps_before setting.graph graph) ended position inside free) ∙ unmade)

  same_ends : map child_of_end then ≡ ended ++ child_of_end end ∷ []
  same_ends = map-append child_of_end ends (end ∷ [])

  -- what the ended child printed counts where its code is 0
  output_here : output_at (ended ++ child_of_end end ∷ []) position ≡ cond (eqb exit.code 0) (Some exit.output) None
  output_here = output_at-pushed ended (child_of_end end) position parts_of.1 ∙ ap (λ (b : Bool). cond (b && eqb exit.code 0) (Some exit.output) None) (eq-eqb position position refl)

  -- another file that has all that it depends on has the artefact that it had
  artefact_elsewhere : (k : ℕ) → k < length setting.graph → has_all (artefact_so_far setting ends) (deps_at setting.graph k) ≡ true → (position ≡ k → ⊥) → artefact_so_far setting then k ≡ artefact_so_far setting ends k
  artefact_elsewhere k lt all other =
      ap (λ es. artefact_by setting es k) same_ends ∙ free_then setting graph ended (child_of_end end ∷ []) k lt all
      ∙ ap (or_else (setting.current k (built_at setting.graph (artefact_by setting ended) (deps_at setting.graph k)))) (output_at-push_other ended (child_of_end end) k other)
      ∙ sym (artefact_free setting (deps_before setting.graph graph) ended k lt all)

  module _ (unended : exit_at ends position ≡ None) where
    has_status_here : status_at setting then position ≡ status_of_exit exit
    has_status_here =
        ap (λ (e : Option Exit). status_of setting.keep_going e (artefact_so_far setting then position)) (exit_at-pushed ends position request built exit unended)
        ∙ ap (status_of setting.keep_going (Some exit)) (ap (λ es. artefact_by setting es position) same_ends ∙ free_then setting graph ended (child_of_end end ∷ []) position inside free)
        ∙ ap (λ (o : Option (List ℕ)). status_of setting.keep_going (Some exit) (or_else o (output_at (ended ++ child_of_end end ∷ []) position))) parts_of.0
        ∙ status_here setting.keep_going exit (output_at (ended ++ child_of_end end ∷ []) position) (eqb exit.code 0) refl output_here

    has_status_elsewhere : (k : ℕ) → k < length setting.graph → has_all (artefact_so_far setting ends) (deps_at setting.graph k) ≡ true → (position ≡ k → ⊥) → status_at setting then k ≡ status_at setting ends k
    has_status_elsewhere k lt all other =
        ap (λ (e : Option Exit). status_of setting.keep_going e (artefact_so_far setting then k)) (exit_at-push_other ends position k request built exit other)
        ∙ ap (status_of setting.keep_going (exit_at ends k)) (artefact_elsewhere k lt all other)

    -- one status changes
    pub statuses_then : (machine machine' : BuildScheduler) → is_checked machine position ≡ true → ((k : ℕ) → is_checked machine' k ≡ is_checked machine k)
        → ((k : ℕ) → k < length setting.graph → is_checked machine k ≡ true → has_all (artefact_so_far setting ends) (deps_at setting.graph k) ≡ true)
        → (status : FileStatus) → status ≡ status_of_exit exit → set (known_statuses setting ends machine) position status ≡ known_statuses setting then machine'
    statuses_then machine machine' here same all status is =
        statuses_set (known_status setting ends machine) (known_status setting then machine') (length setting.graph) position status inside
        (is ∙ sym has_status_here ∙ sym (cond-true (is_checked machine' position) (status_at setting then position) (waiting_status setting.keep_going) (same position ∙ here)))
        (λ k lt other. elim (cases_Bool (is_checked machine k)) [
          | inl was ↦ cond-true (is_checked machine k) (status_at setting ends k) (waiting_status setting.keep_going) was ∙ sym (has_status_elsewhere k lt (all k lt was) other)
              ∙ sym (cond-true (is_checked machine' k) (status_at setting then k) (waiting_status setting.keep_going) (same k ∙ was))
          | inr new ↦ cond-false (is_checked machine k) (status_at setting ends k) (waiting_status setting.keep_going) new
              ∙ sym (cond-false (is_checked machine' k) (status_at setting then k) (waiting_status setting.keep_going) (same k ∙ new))
        ])

-- the same files were checked
pub statuses_same : (setting : Work) (ends : List End) (machine machine' : BuildScheduler) → ((k : ℕ) → is_checked machine' k ≡ is_checked machine k) → known_statuses setting ends machine ≡ known_statuses setting ends machine'
statuses_same setting ends machine machine' same =
    map-below_same (known_status setting ends machine) (known_status setting ends machine') (length setting.graph)
    (λ k lt. ap (λ b. cond b (status_at setting ends k) (waiting_status setting.keep_going)) (sym (same k)))

-- a file was checked, and is fresh or not
fresh_or_waits : (keep_going fresh : Bool) (artefact : Option (List ℕ)) → fresh ≡ is_some artefact → status_of keep_going None artefact ≡ cond fresh Fresh (waiting_status keep_going)
fresh_or_waits keep_going true (Some x) is = refl
fresh_or_waits keep_going true None is = absurd (true≢false is)
fresh_or_waits keep_going false None is = refl
fresh_or_waits keep_going false (Some x) is = absurd (true≢false (sym is))

pub status_checked : (setting : Work) (ends : List End) (position : ℕ) (fresh : Bool) → exit_at ends position ≡ None → fresh ≡ is_some (artefact_so_far setting ends position) → status_at setting ends position ≡ cond fresh Fresh (waiting_status setting.keep_going)
status_checked setting ends position fresh unended is =
    ap (λ (e : Option Exit). status_of setting.keep_going e (artefact_so_far setting ends position)) unended ∙ fresh_or_waits setting.keep_going fresh (artefact_so_far setting ends position) is

module _ (setting : Work) (ends : List End) (machine machine' : BuildScheduler) (position : ℕ) (inside : position < length setting.graph) (new : is_checked machine position ≡ false)
    (one_more : (k : ℕ) → is_checked machine' k ≡ (is_checked machine k || eqb position k)) where
  others : (k : ℕ) → (position ≡ k → ⊥) → known_status setting ends machine k ≡ known_status setting ends machine' k
  others k other = ap (λ b. cond b (status_at setting ends k) (waiting_status setting.keep_going)) (sym (one_more k ∙ or_no (is_checked machine k) (eqb position k) (ne_eqb position k other)))
    where
      or_no : (a e : Bool) → e ≡ false → (a || e) ≡ a
      or_no true e fails = refl
      or_no false e fails = fails

  here : is_checked machine' position ≡ true
  here = one_more position ∙ ap (λ b. b || eqb position position) new ∙ eq-eqb position position refl

  -- one that is fresh
  pub statuses_fresh : status_at setting ends position ≡ Fresh → set (known_statuses setting ends machine) position Fresh ≡ known_statuses setting ends machine'
  statuses_fresh is =
      statuses_set (known_status setting ends machine) (known_status setting ends machine') (length setting.graph) position Fresh inside
      (sym is ∙ sym (cond-true (is_checked machine' position) (status_at setting ends position) (waiting_status setting.keep_going) here)) (λ k lt other. others k other)

  -- one that waits still
  pub statuses_stale : status_at setting ends position ≡ waiting_status setting.keep_going → known_statuses setting ends machine ≡ known_statuses setting ends machine'
  statuses_stale is =
      map-below_same (known_status setting ends machine) (known_status setting ends machine') (length setting.graph)
      (λ k lt. elim (cases_eq position k) [
        | inl same ↦ subst (λ i. known_status setting ends machine i ≡ known_status setting ends machine' i) same
            (cond-false (is_checked machine position) (status_at setting ends position) (waiting_status setting.keep_going) new ∙ sym is
            ∙ sym (cond-true (is_checked machine' position) (status_at setting ends position) (waiting_status setting.keep_going) here))
        | inr other ↦ others k other
      ])
