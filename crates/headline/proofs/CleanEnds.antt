-- What a true record of a view says of the file that the view is of, in a clean build of the graph that it is a view in.
use Rattle.std.proofs.Common.{◌≡◌, ℕ, ◌<◌, Bool, true, false, cond, eqb, List, map, [], ◌∷◌, ◌++◌, Some, sym, ap, subst, ◌∙◌}
use Rattle.std.specs.Prelude.{All, slice_get}
use Rattle.std.specs.List.{filter_map}
use Rattle.std.proofs.lemmas.List.{map-append}
use Rattle.std.proofs.lemmas.List.Elements.{filter_map-append}
use Rattle.std.proofs.lemmas.Option.{slice_get_within, get_or_from_slice_get}
use Rattle.base.specs.declared.file.FileName.{FileName}
use Rattle.base.specs.declared.graph.Entry.{Entry}
use Rattle.base.specs.declared.graph.BuiltFile.{BuiltFile}
use Rattle.base.specs.declared.child.Request.{Request}
use Rattle.base.specs.declared.child.Exit.{Exit}
use Rattle.base.specs.Graphs.{IsGraph}
use Rattle.base.specs.Jobs.{compile_request}
use Rattle.base.specs.View.{view}
use Rattle.store_form_2.specs.declared.kept_view.Record.{Record as ViewRecord}
use Rattle.run_spec.specs.CleanBuild.{Result, Made, Refused, Blocked, built_below, result_of, is_free, next_result, clean_build}
use Rattle.project_views.proofs.ViewLaws.{viewed_of}
use Rattle.run_laws.proofs.CleanRanks.{filter_map-cons, clean_at}
use Rattle.run_laws.proofs.CleanViews.{clean_view}
use Rattle.headline.specs.TrueViews.{IsTrueView}

-- the last of a list with one more item
last_one : {X : Type 0} (xs ys : List X) (x y : X) → xs ++ x ∷ [] ≡ ys ++ y ∷ [] → x ≡ y
last_one [] [] x y h = cc
last_one [] (b ∷ []) x y h = absurd (let nothing : ⊥ = cc in nothing)
last_one [] (b ∷ c ∷ ys) x y h = absurd (let nothing : ⊥ = cc in nothing)
last_one (a ∷ []) [] x y h = absurd (let nothing : ⊥ = cc in nothing)
last_one (a ∷ c ∷ xs) [] x y h = absurd (let nothing : ⊥ = cc in nothing)
last_one (a ∷ xs) (b ∷ ys) x y h = last_one xs ys x y cc

made_name : (one other : BuiltFile) → Made one ≡ Made other → one.name ≡ other.name
made_name one other h = let same : one ≡ other = cc in ap (λ (f : BuiltFile). f.name) same

-- what is made of a file has its name
result_name : (entry : Entry) (exit : Exit) (zero_code : Bool) (file : BuiltFile)
    → cond zero_code (Made (record { name = entry.name; artefact = exit.output })) (Refused exit.code exit.output) ≡ Made file → file.name ≡ entry.name
result_name entry exit true file h = sym (made_name (record { name = entry.name; artefact = exit.output }) file h)
result_name entry exit false file h = absurd (let nothing : ⊥ = cc in nothing)

next_name : (entry : Entry) (exit : Exit) (free : Bool) (file : BuiltFile) → cond free (result_of entry exit) Blocked ≡ Made file → file.name ≡ entry.name
next_name entry exit true file h = result_name entry exit (eqb exit.code 0) file h
next_name entry exit false file h = absurd (let nothing : ⊥ = cc in nothing)

-- a clean build of the view of a file ends with the result of that file
view_ends : (answer : Request → Exit) (graph : List Entry) → IsGraph graph → (at : ℕ) (entry : Entry) (result : Result)
    → slice_get graph at ≡ Some entry → slice_get (clean_build answer graph) at ≡ Some result
    → clean_build answer (view graph at) ≡ filter_map (slice_get (clean_build answer graph)) entry.deps ++ result ∷ []
view_ends answer graph valid at entry result found here =
    let results : List Result = clean_build answer graph in
    clean_view answer graph valid at (slice_get_within graph at entry found)
    ∙ ap (filter_map (slice_get results)) (viewed_of graph at entry found)
    ∙ filter_map-append (slice_get results) entry.deps (at ∷ [])
    ∙ ap (λ (rs : List Result). filter_map (slice_get results) entry.deps ++ rs) (filter_map-cons (slice_get results) at [] (Some result) here)

-- the file at a position, over all results
module _ (answer : Request → Exit) (graph : List Entry) (valid : IsGraph graph) (at : ℕ) (entry : Entry) (found : slice_get graph at ≡ Some entry) where
  before : All (λ dep. dep < at) entry.deps
  before = subst (λ (e : Entry). All (λ dep. dep < at) e.deps) (get_or_from_slice_get graph at entry entry found) (valid.each at entry (slice_get_within graph at entry found)).before

  pub here_next : slice_get (clean_build answer graph) at ≡ Some (next_result answer (clean_build answer graph) entry)
  here_next = clean_at answer graph at entry found before

  -- what a true record of the present view says of the file
  pub made_of_true : (kept : ViewRecord) → kept.view ≡ view graph at → IsTrueView answer kept
      → slice_get (clean_build answer graph) at ≡ Some (Made (record { name = entry.name; artefact = kept.artefact }))
  made_of_true kept same holds =
      let next : Result = next_result answer (clean_build answer graph) entry in
      let file : BuiltFile = record { name = holds.name; artefact = kept.artefact } in
      let ends : filter_map (slice_get (clean_build answer graph)) entry.deps ++ next ∷ [] ≡ map Made holds.prefix ++ Made file ∷ [] =
      sym (view_ends answer graph valid at entry next found here_next) ∙ sym (ap (clean_build answer) same) ∙ holds.all_made ∙ map-append Made holds.prefix (file ∷ []) in
      let made : next ≡ Made file = last_one (filter_map (slice_get (clean_build answer graph)) entry.deps) (map Made holds.prefix) next (Made file) ends in
      let name : holds.name ≡ entry.name = next_name entry (answer (compile_request entry (built_below (clean_build answer graph) entry))) (is_free (clean_build answer graph) entry) file made in
      here_next ∙ ap (λ (r : Result). Some r) made ∙ ap (λ (n : FileName). Some (Made (record { name = n; artefact = kept.artefact }))) name
