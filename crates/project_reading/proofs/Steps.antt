-- One step of reading, and then the next.
use Rattle.std.proofs.Common.{◌≡◌, ℕ, ◌≤◌, Bool, true, false, cond, List, [], length, Option, Result, Ok, Err, sym, ap, subst, ◌∙◌, inl, inr}
use Rattle.std.specs.Prelude.{IfOk, nat_le}
use Rattle.std.proofs.lemmas.Bool.{cases_Bool, cond-true, cond-false}
use Rattle.base_outcomes.specs.declared.bench.Bench.{Bench}
use Rattle.base_outcomes.specs.declared.bench.TestFault.{TestFault}
use Rattle.base.specs.declared.design.Scan.{Scan}
use Rattle.base_outcomes.specs.declared.outcome.Limit.TheVariants as limit
use Rattle.base.specs.declared.linking.Linked.{Linked}
use Rattle.base.specs.declared.linking.LinkFault.{LinkFault}
use Rattle.base.specs.declared.project.Project.{Project}
use Rattle.base.specs.Projects.{IsProject}
use Rattle.order.specs.BuildOrder.{FileOrder, Ordered, Cyclic, file_order}
use Rattle.order.specs.LinkedGraph.{FitTexts}
use Rattle.vhdl_spec.specs.Dependencies.{link_units, link_of}
use Rattle.vhdl_spec.specs.Scans.{AreScansOf, Finding}
use Rattle.testbench_select.specs.Selection.{count_of_tests}
use Rattle.testbench_scan.specs.Benches.{sources_of, tests_of}
use Rattle.base.specs.declared.limits.TheConstants.{CASE_LIMIT, FILE_LIMIT}
use Rattle.project_reading.specs.declared.linking.ReadProject.{ReadProject}
use Rattle.project_reading.specs.declared.stops.ReadStop.{ReadStop}
use Rattle.project_reading.specs.declared.query.Query.{Query}
use Rattle.project_reading.specs.Queries.{wants_tests}
use Rattle.project_reading.specs.declared.stops.ReadStop.TheVariants as stop
use Rattle.project_reading.specs.Reading.{SourceReading, Over, Found, then_read, linked_or, order_or, tests_or, wanted_tests, found_reading, listed_reading, linked_reading, order_reading, ordered_reading, links_of, scanned_reading, files_reading, sources_reading}
use Rattle.project_reading.specs.Sources.{Gives, GivesProject, LeadsTo, IsReadProject}

-- a step gives nothing to go on with
pub stops_there : {T : Type 0} (next : T → SourceReading) (whole : Result T SourceReading) (e : ReadStop) → Gives {T = T} whole (Err e) → LeadsTo (then_read next whole) (Err e)
stops_there next whole (stop.Refused reason) none = ap (then_read next) none
stops_there next whole (stop.Over limit number) none = ap (then_read next) none
stops_there next whole stop.Failed none = tt
stops_there next whole stop.NoMemory none = tt

-- no project is read, or one of more files than may be
pub no_project : (query : Query) (scan : List ℕ → Finding) (file : List ℕ → Option (List ℕ)) (whole : Result Project SourceReading) (e : ReadStop) → GivesProject whole (Err e) → LeadsTo (then_read (sources_reading query scan file) whole) (Err e)
no_project query scan file (Err reading) e none = stops_there (sources_reading query scan file) (Err reading) e none
no_project query scan file (Ok project) e none = by (nat_le (length project.files) FILE_LIMIT) e none
  where
    by : (few : Bool) (e : ReadStop) → Gives {T = Project} (cond few (Ok project) (Err (Over limit.Files FILE_LIMIT))) (Err e) → LeadsTo (cond few (files_reading query scan file project) (Over limit.Files FILE_LIMIT)) (Err e)
    by true (stop.Refused reason) same = absurd cc
    by true (stop.Over most number) same = absurd cc
    by true stop.Failed same = tt
    by true stop.NoMemory same = tt
    by false (stop.Refused reason) same = cc
    by false (stop.Over most number) same = cc
    by false stop.Failed same = tt
    by false stop.NoMemory same = tt

-- a step gives what is gone on with
pub goes_on : {T : Type 0} (next : T → SourceReading) (whole : Result T SourceReading) (value : T) (result : Result ReadProject ReadStop) → whole ≡ Ok value → LeadsTo (next value) result → LeadsTo (then_read next whole) result
goes_on {T} next whole value result is then = subst (λ (step : Result T SourceReading). LeadsTo (then_read next step) result) (sym is) then

-- a listed project, or one whose files are linked
pub listed_first : (query : Query) (project : Project) (texts : List (List ℕ)) (scans : List Scan) (result : Result ReadProject ReadStop) → project.listed ≡ true → LeadsTo (listed_reading query project texts scans) result → LeadsTo (scanned_reading query project texts scans) result
unfolding scanned_reading
listed_first query project texts scans result is leads =
    subst (λ (reading : SourceReading). LeadsTo reading result) (sym (cond-true project.listed (listed_reading query project texts scans) (then_read (linked_reading query project texts scans) (links_of project texts scans)) is)) leads

pub linked_then : (query : Query) (project : Project) (texts : List (List ℕ)) (scans : List Scan) (result : Result ReadProject ReadStop) → project.listed ≡ false → LeadsTo (then_read (linked_reading query project texts scans) (links_of project texts scans)) result → LeadsTo (scanned_reading query project texts scans) result
unfolding scanned_reading
linked_then query project texts scans result is leads =
    subst (λ (reading : SourceReading). LeadsTo reading result) (sym (cond-false project.listed (listed_reading query project texts scans) (then_read (linked_reading query project texts scans) (links_of project texts scans)) is)) leads

same_project : (mine read : ReadProject) → Found mine ≡ Found read → mine.project ≡ read.project
same_project mine read same = cc

module _ (project : Project) (texts : List (List ℕ)) (scans : List Scan) (read : ReadProject) where
  module _ (found : List Bench → SourceReading) (has : (tests : List Bench) → found tests ≡ Found read → project ≡ read.project) where
    of_benches : (said : Result (List Bench) TestFault) → then_read found (tests_or said) ≡ Found read → project ≡ read.project
    of_benches (Ok tests) is =
        elim (cases_Bool (nat_le (count_of_tests tests) CASE_LIMIT)) [
          | inl few ↦ has tests (sym (ap (then_read found) (cond-true (nat_le (count_of_tests tests) CASE_LIMIT) (Ok tests) (Err (Over limit.Tests CASE_LIMIT)) few)) ∙ is)
          | inr many ↦ let over : Over limit.Tests CASE_LIMIT ≡ Found read = sym (ap (then_read found) (cond-false (nat_le (count_of_tests tests) CASE_LIMIT) (Ok tests) (Err (Over limit.Tests CASE_LIMIT)) many)) ∙ is in
              let nothing : ⊥ = cc in absurd nothing
        ]
    of_benches (Err fault) is = let nothing : ⊥ = cc in absurd nothing

    of_tests : (wanted : Bool) → then_read found (wanted_tests wanted project texts scans) ≡ Found read → project ≡ read.project
    unfolding wanted_tests
    of_tests true is = of_benches (tests_of (sources_of project texts scans)) is
    of_tests false is = has [] is

  module _ (query : Query) where
    of_order : (links : Linked) (said : FileOrder) → then_read (order_reading query project texts scans links) (order_or project.files said) ≡ Found read → project ≡ read.project
    of_order links (Ordered order) is = of_tests (ordered_reading query project texts scans links order) (λ tests same. same_project _ read same) (wants_tests query.query_kind) is
    of_order links (Cyclic cycle) is = let nothing : ⊥ = cc in absurd nothing

    of_links : (said : Result Linked LinkFault) → then_read (linked_reading query project texts scans) (linked_or said) ≡ Found read → project ≡ read.project
    of_links (Ok links) is = of_order links (file_order links.edges) is
    of_links (Err fault) is = let nothing : ⊥ = cc in absurd nothing

    parts : scanned_reading query project texts scans ≡ Found read → project ≡ read.project
    unfolding scanned_reading
    parts is =
        elim (cases_Bool project.listed) [
          | inl listed ↦ of_tests (found_reading query project texts scans) (λ tests same. same_project _ read same) (wants_tests query.query_kind) (sym (cond-true project.listed (listed_reading query project texts scans) (then_read (linked_reading query project texts scans) (links_of project texts scans)) listed) ∙ is)
          | inr unlisted ↦ of_links (link_of project (link_units 0 project.files texts scans)) (sym (cond-false project.listed (listed_reading query project texts scans) (then_read (linked_reading query project texts scans) (links_of project texts scans)) unlisted) ∙ is)
        ]

-- what is read of a project with its texts and scans
pub is_read : (query : Query) (project : Project) (texts : List (List ℕ)) (scans : List Scan) → IsProject project → length project.files ≤ FILE_LIMIT → FitTexts project.files texts → AreScansOf texts scans → (result : Result ReadProject ReadStop) → LeadsTo (scanned_reading query project texts scans) result → IfOk result (IsReadProject query)
is_read query project texts scans proper few fit are (Err e) leads = tt
is_read query project texts scans proper few fit are (Ok read) leads =
    let same = parts project texts scans read query leads in record {
      project = subst IsProject same proper;
      few = subst (λ (p : Project). length p.files ≤ FILE_LIMIT) same few;
      texts = texts;
      fit = subst (λ (p : Project). FitTexts p.files texts) same fit;
      scans = scans;
      scanned = are;
      whole = subst (λ (p : Project). scanned_reading query p texts scans ≡ Found read) same leads;
    }
