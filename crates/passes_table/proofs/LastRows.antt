-- The last pass of the same tests is found among those of their fingerprint, and recalled where it is current.
use Rattle.std.proofs.Common.{◌≡◌, ◌≢◌, ℕ, zero, suc, ◌<◌, ◌≤◌, Bool, true, false, List, [], ◌∷◌, length, map, get_or, None, Some, Option, refl, sym, ap, subst, ◌∙◌, arith, inl, inr}
use Rattle.std.specs.Bool.{Decides}
use Rattle.std.specs.Str.{bytes_eq}
use Rattle.std.specs.Cmp.Lexicographic.{pointwise, pointwise_decides}
use Rattle.std.proofs.lemmas.Bool.{cases_lt}
use Rattle.std.proofs.lemmas.Bool.Decides.{Decides-like, Decides-and}
use Rattle.std.proofs.lemmas.List.{get_or-map, length-map}
use Rattle.std.proofs.lemmas.Option.{slice_get-get_or}
use Rattle.std.proofs.lemmas.Slice.Eq.{bytes_eq-Decides}
use Rattle.base.specs.declared.graph.BuiltFile.{BuiltFile}
use Rattle.base_collections.specs.Indexes.{IsLastWith}
use Rattle.testbench_runs.specs.declared.runs.TestRun.{TestRun}
use Rattle.passes_spec.specs.Passes.{Pass, is_of_tests, last_pass}
use Rattle.passes_table.specs.declared.table.LocatedPasses.{LocatedPasses}
use Rattle.passes_table.specs.declared.table.PassRow.{PassRow}
use Rattle.passes_table.specs.Located.{located_passes, row_fingerprint, row_pass}
use Rattle.passes_table.specs.Fingerprints.{tests_fingerprint, with_text_fingerprint, with_text_fingerprints}
use Rattle.passes_table.specs.States.{HasTests, IsLastRow}

no_run : TestRun
no_run = record { library = []; bench = []; architecture = []; cases = []; whole = false; same_sim = false; path = [] }

pub no_pass : Pass
no_pass = record { run = no_run; simulator = []; built = []; output = [] }

texts-Decides : (a b : List (List ℕ)) → Decides (pointwise bytes_eq a b) (a ≡ b)
texts-Decides = pointwise_decides bytes_eq-Decides

-- the test of the same tests
pub of_tests-Decides : (run : TestRun) (simulator : List (List ℕ)) (pass : Pass) → Decides (is_of_tests run simulator pass) (HasTests run simulator pass)
of_tests-Decides run simulator pass =
    Decides-like (is_of_tests run simulator pass)
    (λ h. record { library = h.0; bench = h.1.0; cases = h.1.1.0; simulator_is = h.1.1.1 })
    (λ is. (is.library, (is.bench, (is.cases, is.simulator_is))))
    (Decides-and _ _ (bytes_eq-Decides pass.run.library run.library)
    (Decides-and _ _ (bytes_eq-Decides pass.run.bench run.bench)
    (Decides-and _ _ (texts-Decides pass.run.cases run.cases) (texts-Decides pass.simulator simulator))))

-- the same tests have the same fingerprint
same_fingerprint : (run : TestRun) (simulator : List (List ℕ)) (pass : Pass) → HasTests run simulator pass → tests_fingerprint pass.run pass.simulator ≡ tests_fingerprint run simulator
unfolding tests_fingerprint
same_fingerprint run simulator pass is =
    ap (λ (l : List ℕ). with_text_fingerprints (with_text_fingerprints (with_text_fingerprint (with_text_fingerprint 0 l) pass.run.bench) pass.run.cases) pass.simulator) is.library
    ∙ ap (λ (b : List ℕ). with_text_fingerprints (with_text_fingerprints (with_text_fingerprint (with_text_fingerprint 0 run.library) b) pass.run.cases) pass.simulator) is.bench
    ∙ ap (λ (cs : List (List ℕ)). with_text_fingerprints (with_text_fingerprints (with_text_fingerprint (with_text_fingerprint 0 run.library) run.bench) cs) pass.simulator) is.cases
    ∙ ap (λ (s : List (List ℕ)). with_text_fingerprints (with_text_fingerprints (with_text_fingerprint (with_text_fingerprint 0 run.library) run.bench) run.cases) s) is.simulator_is

undecided : {P : Type 0} (b : Bool) → Decides b P → (¬ P) → b ≡ false
undecided true d never = absurd (never (d.0 refl))
undecided false d never = refl

module _ (run : TestRun) (simulator : List (List ℕ)) where
  last_none : (passes : List Pass) → ((k : ℕ) → k < length passes → is_of_tests run simulator (get_or passes k no_pass) ≡ false) → last_pass run simulator passes ≡ None
  unfolding last_pass
  last_none [] h = refl
  last_none (p ∷ ps) h = rw (last_none ps (λ k l. h (suc k) (omega arith)), h 0 (omega arith)) refl

  last_found : (passes : List Pass) (n : ℕ) → n < length passes → is_of_tests run simulator (get_or passes n no_pass) ≡ true → ((k : ℕ) → n < k → k < length passes → is_of_tests run simulator (get_or passes k no_pass) ≡ false) → last_pass run simulator passes ≡ Some (get_or passes n no_pass)
  unfolding last_pass
  last_found [] n low is after = absurd (omega (arith, low))
  last_found (p ∷ ps) zero low is after = rw (last_none ps (λ k l. after (suc k) (omega arith) (omega arith)), is) refl
  last_found (p ∷ ps) (suc n) low is after = rw (last_found ps n (omega arith) is (λ k a l. after (suc k) (omega arith) (omega arith))) refl

  -- No pass from a bound on is of the tests, and the candidate is the last of their fingerprint below it.
  pub record IsUpTo (passes : List Pass) (fingerprints : List ℕ) (candidate : Option ℕ) : Type 0 where
    pub bound : ℕ
    pub within : bound ≤ length fingerprints
    pub last : IsLastWith fingerprints (tests_fingerprint run simulator) bound candidate
    pub others : (k : ℕ) → bound ≤ k → k < length passes → is_of_tests run simulator (get_or passes k no_pass) ≡ false

  module _ (passes : List Pass) (fingerprints : List ℕ) (fingerprinted : fingerprints ≡ map (λ pass. tests_fingerprint pass.run pass.simulator) passes) where
    size : length fingerprints ≡ length passes
    size = ap length fingerprinted ∙ length-map passes (λ (pass : Pass). tests_fingerprint pass.run pass.simulator)

    fingerprint_at : (k : ℕ) → k < length passes → get_or fingerprints k 0 ≡ tests_fingerprint (get_or passes k no_pass).run (get_or passes k no_pass).simulator
    fingerprint_at k l = ap (λ (ms : List ℕ). get_or ms k 0) fingerprinted ∙ get_or-map (λ (pass : Pass). tests_fingerprint pass.run pass.simulator) passes k no_pass 0 l

    -- a pass of another fingerprint is of other tests
    other : (k : ℕ) → k < length passes → get_or fingerprints k 0 ≢ tests_fingerprint run simulator → is_of_tests run simulator (get_or passes k no_pass) ≡ false
    other k l differ = undecided (is_of_tests run simulator (get_or passes k no_pass)) (of_tests-Decides run simulator (get_or passes k no_pass)) (λ is. differ (fingerprint_at k l ∙ same_fingerprint run simulator (get_or passes k no_pass) is))

    pub up_begin : (candidate : Option ℕ) → IsLastWith fingerprints (tests_fingerprint run simulator) (length fingerprints) candidate → IsUpTo passes fingerprints candidate
    up_begin candidate last = record { bound = length fingerprints; within = omega arith; last = last; others = λ k a l. absurd (omega (arith, a, l, size)) }

    none_below : (bound : ℕ) → IsLastWith fingerprints (tests_fingerprint run simulator) bound None → (k : ℕ) → k < bound → k < length passes → is_of_tests run simulator (get_or passes k no_pass) ≡ false
    none_below bound last k low l = other k l (last k low)

    -- without a candidate no pass is of the tests
    pub none_at : IsUpTo passes fingerprints None → (k : ℕ) → k < length passes → is_of_tests run simulator (get_or passes k no_pass) ≡ false
    none_at up k l =
        elim (cases_lt k up.bound) [
          | inl a ↦ none_below up.bound up.last k a l
          | inr a ↦ up.others k a l
        ]

    pub up_none : IsUpTo passes fingerprints None → last_pass run simulator passes ≡ None
    up_none up = last_none passes (none_at up)

    pub up_low : (number : ℕ) → IsUpTo passes fingerprints (Some number) → number < length passes
    up_low number up = omega (arith, up.last.0, up.within, size)

    -- no pass after the candidate is of the tests
    pub after : (number : ℕ) → IsUpTo passes fingerprints (Some number) → (k : ℕ) → number < k → k < length passes → is_of_tests run simulator (get_or passes k no_pass) ≡ false
    after number up k a l =
        elim (cases_lt k up.bound) [
          | inl b ↦ other k l (up.last.2 k a b)
          | inr b ↦ up.others k b l
        ]

    pub up_found : (number : ℕ) → IsUpTo passes fingerprints (Some number) → HasTests run simulator (get_or passes number no_pass) → IsLastRow passes run simulator (Some number)
    up_found number up is =
        let low : number < length passes = up_low number up in
        let found = last_found passes number low ((of_tests-Decides run simulator (get_or passes number no_pass)).1 is) (after number up) in
        (low, found ∙ sym (slice_get-get_or passes number no_pass low))

    pub up_further : (number : ℕ) (next : Option ℕ) → IsUpTo passes fingerprints (Some number) → (¬ HasTests run simulator (get_or passes number no_pass)) → IsLastWith fingerprints (get_or fingerprints number 0) number next → IsUpTo passes fingerprints next
    up_further number next up differ last = record {
      bound = number;
      within = omega (arith, up.last.0, up.within);
      last = subst (λ (m : ℕ). IsLastWith fingerprints m number next) up.last.1 last;
      others = λ k low l.
          elim (cases_lt number k) [
            | inl a ↦ after number up k a l
            | inr a ↦
                let here : number ≡ k = omega arith in
                subst (λ (n : ℕ). is_of_tests run simulator (get_or passes n no_pass) ≡ false) here (undecided (is_of_tests run simulator (get_or passes number no_pass)) (of_tests-Decides run simulator (get_or passes number no_pass)) differ)
          ];
    }

-- fingerprints of rows are those of their passes
pub fingerprints_of : {X : Type 0} (f : X → Pass) (rows : List X) → map (λ row. tests_fingerprint (f row).run (f row).simulator) rows ≡ map (λ pass. tests_fingerprint pass.run pass.simulator) (map f rows)
fingerprints_of f [] = refl
fingerprints_of f (row ∷ rows) = ap (λ (ms : List ℕ). tests_fingerprint (f row).run (f row).simulator ∷ ms) (fingerprints_of f rows)

-- ## The search over the rows of a table

module _ (segments : List (List ℕ)) (table : LocatedPasses) (latest : table.latest.fingerprints ≡ map (row_fingerprint segments) table.rows.items) (run : TestRun) (simulator : List (List ℕ)) where
  abbrev pub lists_of : List (List BuiltFile)
  lists_of = (located_passes segments table).lists

  abbrev pub passes_of : List Pass
  passes_of = (located_passes segments table).passes

  abbrev IsUp : Option ℕ → Type 0
  IsUp candidate = IsUpTo run simulator passes_of table.latest.fingerprints candidate

  fingerprinted_of : table.latest.fingerprints ≡ map (λ pass. tests_fingerprint pass.run pass.simulator) passes_of
  fingerprinted_of = latest ∙ fingerprints_of (row_pass segments lists_of) table.rows.items

  pub row_low : (number : ℕ) → IsUp (Some number) → number < length passes_of
  row_low number up = up_low run simulator passes_of table.latest.fingerprints fingerprinted_of number up

  row_at : (number : ℕ) (row : PassRow) → IsUp (Some number) → row ≡ get_or table.rows.items number row → get_or passes_of number no_pass ≡ row_pass segments lists_of row
  row_at number row up here = get_or-map (row_pass segments lists_of) table.rows.items number row no_pass (omega (arith, row_low number up, length-map table.rows.items (row_pass segments lists_of))) ∙ ap (row_pass segments lists_of) (sym here)

  -- without a candidate no pass is of the tests
  pub no_row : IsUp None → (k : ℕ) → k < length passes_of → is_of_tests run simulator (get_or passes_of k no_pass) ≡ false
  no_row up = none_at run simulator passes_of table.latest.fingerprints fingerprinted_of up

  pub no_last : IsUp None → last_pass run simulator passes_of ≡ None
  no_last up = up_none run simulator passes_of table.latest.fingerprints fingerprinted_of up

  -- no pass after the candidate is of the tests
  pub after_row : (number : ℕ) → IsUp (Some number) → (k : ℕ) → number < k → k < length passes_of → is_of_tests run simulator (get_or passes_of k no_pass) ≡ false
  after_row number up = after run simulator passes_of table.latest.fingerprints fingerprinted_of number up

  -- the row of the candidate is of the tests
  pub row_found : (number : ℕ) (row : PassRow) → IsUp (Some number) → row ≡ get_or table.rows.items number row → HasTests run simulator (row_pass segments lists_of row) → IsLastRow passes_of run simulator (Some number)
  row_found number row up here has = up_found run simulator passes_of table.latest.fingerprints fingerprinted_of number up (subst (HasTests run simulator) (sym (row_at number row up here)) has)

  pub row_tested : (number : ℕ) (row : PassRow) → IsUp (Some number) → row ≡ get_or table.rows.items number row → HasTests run simulator (row_pass segments lists_of row) → is_of_tests run simulator (get_or passes_of number no_pass) ≡ true
  row_tested number row up here has = (of_tests-Decides run simulator (get_or passes_of number no_pass)).1 (subst (HasTests run simulator) (sym (row_at number row up here)) has)

  -- it is not, and the search goes on
  pub row_passed : (number : ℕ) (row : PassRow) (next : Option ℕ) → IsUp (Some number) → row ≡ get_or table.rows.items number row → (¬ HasTests run simulator (row_pass segments lists_of row)) → IsLastWith table.latest.fingerprints (get_or table.latest.fingerprints number 0) number next → IsUp next
  row_passed number row next up here differ last = up_further run simulator passes_of table.latest.fingerprints fingerprinted_of number next up (λ is. differ (subst (HasTests run simulator) (row_at number row up here) is)) last
