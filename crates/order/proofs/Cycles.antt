-- What is reported where no file can be taken is a cycle, and there is no order beside a cycle.
use Rattle.std.proofs.Common.{◌≡◌, ℕ, zero, suc, ◌+◌, ◌-◌, ◌<◌, ◌≤◌, ◌==◌, eqb, Bool, true, false, not, ◌&&◌, Option, Some, None, List, [], ◌∷◌, ◌++◌, length, get_or, take, drop, refl, sym, ap, subst, ◌∙◌, arith, inl, inr}
use Rattle.std.specs.Prelude.{Contains}
use Rattle.std.specs.List.{find, list_all, IsDistinct}
use Rattle.std.specs.Option.{option_map_or}
use Rattle.std.proofs.lemmas.Bool.{cases_Bool, cases_eq, cases_lt, cond-true, cond-false, not-true, false≢true, eq-eqb, ne_eqb}
use Rattle.std.proofs.lemmas.Cmp.{nat_eq_equiv}
use Rattle.std.proofs.lemmas.Map.Keys.{IsDistinct-push, apart_from_distinct}
use Rattle.std.proofs.lemmas.Map.Steps.{length-le_from_distinct_below, le-length_from_below}
use Rattle.std.proofs.lemmas.List.{length-append, length-drop, length-take-le, get_or_append_left, get_or_at, get_or_default, get_or-drop, get_or-take}
use Rattle.base.specs.PresentGraph.{below}
use Rattle.base.specs.View.{rank_in}
use Rattle.order.specs.BuildOrder.{deps_in, AreEdges, has_taken, can_take, first_free, all_taken, first_untaken, untaken_dep, repeated, reported_cycle, FileOrder, Ordered, Cyclic, file_order, IsBuildOrder, IsCycle}
use Rattle.order.proofs.Finds.{found_passes, found_within, none_passes, all_pass, in_below, below_bounded}
use Rattle.order.proofs.Members.{contains_taken, taken_other, rank_within, at_rank}
use Rattle.order.proofs.Taking.{IsTaken, taken_so_far, few_taken, whole_order, stuck}

module _ (edges : List (List ℕ)) (are : AreEdges edges) (taken : List ℕ) (is : IsTaken edges taken) (none : first_free edges taken ≡ None) where
  -- a file that can't be taken
  record Waits (file : ℕ) : Type 0 where
    within : file < length edges
    untaken : has_taken taken file ≡ false

  and_second : (a b : Bool) → a ≡ true → (a && b) ≡ false → b ≡ false
  and_second true b is_true both = both
  and_second false b is_true both = absurd (false≢true is_true)

  lacks_some : (file : ℕ) → Waits file → list_all (has_taken taken) (deps_in edges file) ≡ false
  unfolding first_free
  lacks_some file waits =
      and_second (not (has_taken taken file)) (list_all (has_taken taken) (deps_in edges file)) (ap not waits.untaken)
      (none_passes (can_take edges taken) (below (length edges)) none file (in_below (length edges) file waits.within))

  dep_by : (file : ℕ) (o : Option ℕ) → find (λ dep. not (has_taken taken dep)) (deps_in edges file) ≡ o → Waits file → Contains (deps_in edges file) (option_map_or (λ dep. dep) o file)
  dep_by file None nothing waits = absurd (false≢true (sym (lacks_some file waits) ∙ all_pass (has_taken taken) (deps_in edges file) nothing))
  dep_by file (Some dep) some waits = found_within (λ dep. not (has_taken taken dep)) (deps_in edges file) dep some

  untaken_by : (file : ℕ) (o : Option ℕ) → find (λ dep. not (has_taken taken dep)) (deps_in edges file) ≡ o → Waits file → has_taken taken (option_map_or (λ dep. dep) o file) ≡ false
  untaken_by file None nothing waits = waits.untaken
  untaken_by file (Some dep) some waits = not-true (has_taken taken dep) (found_passes (λ dep. not (has_taken taken dep)) (deps_in edges file) dep some)

  next_is_dep : (file : ℕ) → Waits file → Contains (deps_in edges file) (untaken_dep edges taken file)
  unfolding untaken_dep
  next_is_dep file waits = dep_by file (find (λ dep. not (has_taken taken dep)) (deps_in edges file)) refl waits

  next_waits : (file : ℕ) → Waits file → Waits (untaken_dep edges taken file)
  unfolding untaken_dep
  next_waits file waits =
      let there : Contains (deps_in edges file) (option_map_or (λ dep. dep) (find (λ dep. not (has_taken taken dep)) (deps_in edges file)) file) = dep_by file (find (λ dep. not (has_taken taken dep)) (deps_in edges file)) refl waits in
      record {
        within = subst (λ (dep : ℕ). dep < length edges) there.2 (are.within file there.0 _ there.1);
        untaken = untaken_by file (find (λ dep. not (has_taken taken dep)) (deps_in edges file)) refl waits;
      }

  first_by : (o : Option ℕ) → find (λ file. not (has_taken taken file)) (below (length edges)) ≡ o → length taken < length edges → Waits (option_map_or (λ file. file) o 0)
  first_by None nothing short =
      let all : (file : ℕ) → file < length edges → has_taken taken file ≡ true = λ file lt. elim (cases_Bool (has_taken taken file)) [
        | inl has ↦ has
        | inr lacks ↦ absurd (false≢true (sym (none_passes (λ file. not (has_taken taken file)) (below (length edges)) nothing file (in_below (length edges) file lt)) ∙ ap not lacks))
      ] in
      absurd (omega (arith, le-length_from_below taken (length edges) all))
  first_by (Some file) some short = record {
    within = below_bounded (length edges) file (found_within (λ file. not (has_taken taken file)) (below (length edges)) file some);
    untaken = not-true (has_taken taken file) (found_passes (λ file. not (has_taken taken file)) (below (length edges)) file some);
  }

  first_waits : length taken < length edges → Waits (first_untaken edges taken)
  unfolding first_untaken
  first_waits short = first_by (find (λ file. not (has_taken taken file)) (below (length edges))) refl short

  -- files that were passed on the way to one, each once, each depending on the next
  record IsPassed (passed : List ℕ) (file : ℕ) : Type 0 where
    distinct : IsDistinct eqb passed
    waits : (other : ℕ) → has_taken passed other ≡ true → other < length edges
    here : Waits file
    steps : (rank : ℕ) → rank + 1 < length passed → Contains (deps_in edges (get_or passed rank 0)) (get_or passed (rank + 1) 0)
    last : (rank : ℕ) → rank + 1 ≡ length passed → Contains (deps_in edges (get_or passed rank 0)) file

  nothing_passed : (file : ℕ) → Waits file → IsPassed [] file
  unfolding IsDistinct
  nothing_passed file here = record {
    distinct = tt;
    waits = λ other h. absurd (false≢true h);
    here = here;
    steps = λ rank lt. absurd (omega arith);
    last = λ rank e. absurd (omega arith);
  }

  one_passed : (passed : List ℕ) (file : ℕ) → has_taken passed file ≡ false → IsPassed passed file → IsPassed (passed ++ file ∷ []) (untaken_dep edges taken file)
  one_passed passed file new so_far =
      let long : length (passed ++ file ∷ []) ≡ length passed + 1 = length-append passed (file ∷ []) in
      record {
        distinct = IsDistinct-push nat_eq_equiv passed file so_far.distinct new;
        waits = λ other h. elim (cases_eq other file) [
          | inl e ↦ omega (arith, so_far.here.within)
          | inr ne ↦ so_far.waits other (sym (taken_other passed file other ne) ∙ h)
        ];
        here = next_waits file so_far.here;
        steps = λ rank lt.
            let low : rank < length passed = omega arith in
            subst (λ (f : ℕ). Contains (deps_in edges f) (get_or (passed ++ file ∷ []) (rank + 1) 0)) (sym (get_or_append_left passed (file ∷ []) 0 rank low))
            (elim (cases_lt (rank + 1) (length passed)) [
              | inl l ↦ subst (Contains (deps_in edges (get_or passed rank 0))) (sym (get_or_append_left passed (file ∷ []) 0 (rank + 1) l)) (so_far.steps rank l)
              | inr l ↦ let e : length passed ≡ rank + 1 = omega arith in subst (Contains (deps_in edges (get_or passed rank 0))) (sym (get_or_at passed file [] 0 (rank + 1) e)) (so_far.last rank (sym e))
            ]);
        last = λ rank e.
            let at : length passed ≡ rank = omega arith in
            subst (λ (f : ℕ). Contains (deps_in edges f) (untaken_dep edges taken file)) (sym (get_or_at passed file [] 0 rank at)) (next_is_dep file so_far.here);
      }

  -- what was passed since a file came first
  cycle_since : (passed : List ℕ) (file : ℕ) → has_taken passed file ≡ true → IsPassed passed file → IsCycle edges (drop (rank_in passed file) passed)
  cycle_since passed file again so_far =
      let i : ℕ = rank_in passed file in
      let low : i < length passed = rank_within passed file again in
      let long : length (drop i passed) ≡ length passed - i = length-drop i passed in
      record {
        some = omega arith;
        within = λ k d lt.
            let at : i + k < length passed = omega arith in
            subst (λ (f : ℕ). f < length edges) (sym (get_or-drop i passed k d)) (so_far.waits (get_or passed (i + k) d) (contains_taken passed (get_or passed (i + k) d) (i + k, at, get_or_default passed (i + k) (get_or passed (i + k) d) d at)));
        distinct = λ a b d lt end e.
            let at : i + b < length passed = omega arith in
            let apart : eqb (get_or passed (i + a) d) (get_or passed (i + b) d) ≡ false = apart_from_distinct eqb passed (i + a) (i + b) d so_far.distinct (omega arith) at in
            let same : get_or passed (i + a) d ≡ get_or passed (i + b) d = sym (get_or-drop i passed a d) ∙ e ∙ get_or-drop i passed b d in
            false≢true (sym apart ∙ eq-eqb (get_or passed (i + a) d) (get_or passed (i + b) d) same);
        steps = λ rank lt.
            let next : i + (rank + 1) ≡ (i + rank) + 1 = omega arith in
            subst (λ (f : ℕ). Contains (deps_in edges f) (get_or (drop i passed) (rank + 1) 0)) (sym (get_or-drop i passed rank 0))
            (subst (Contains (deps_in edges (get_or passed (i + rank) 0))) (sym (get_or-drop i passed (rank + 1) 0 ∙ ap (λ (k : ℕ). get_or passed k 0) next)) (so_far.steps (i + rank) (omega arith)));
        closes = λ last e.
            let zero_more : i + 0 ≡ i = omega arith in
            subst (λ (f : ℕ). Contains (deps_in edges f) (get_or (drop i passed) 0 0)) (sym (get_or-drop i passed last 0))
            (subst (Contains (deps_in edges (get_or passed (i + last) 0))) (sym (get_or-drop i passed 0 0 ∙ ap (λ (k : ℕ). get_or passed k 0) zero_more ∙ at_rank passed file 0 again)) (so_far.last (i + last) (omega arith)));
      }

  repeated_is : (steps : ℕ) (passed : List ℕ) (file : ℕ) → IsPassed passed file → length passed + steps ≡ suc (length edges) → IsCycle edges (repeated (untaken_dep edges taken) steps passed file)
  unfolding repeated
  repeated_is zero passed file so_far sizes = absurd (omega (arith, length-le_from_distinct_below passed (length edges) so_far.distinct so_far.waits))
  repeated_is (suc steps) passed file so_far sizes =
      elim (cases_Bool (has_taken passed file)) [
        | inl again ↦ subst (IsCycle edges) (sym (cond-true (has_taken passed file) (drop (rank_in passed file) passed) (repeated (untaken_dep edges taken) steps (passed ++ file ∷ []) (untaken_dep edges taken file)) again)) (cycle_since passed file again so_far)
        | inr new ↦ subst (IsCycle edges) (sym (cond-false (has_taken passed file) (drop (rank_in passed file) passed) (repeated (untaken_dep edges taken) steps (passed ++ file ∷ []) (untaken_dep edges taken file)) new))
            (repeated_is steps (passed ++ file ∷ []) (untaken_dep edges taken file) (one_passed passed file new so_far) (omega (arith, length-append passed (file ∷ []))))
      ]

  cycle_is : length taken < length edges → IsCycle edges (repeated (untaken_dep edges taken) (suc (length edges)) [] (first_untaken edges taken))
  cycle_is short = repeated_is (suc (length edges)) [] (first_untaken edges taken) (nothing_passed (first_untaken edges taken) (first_waits short)) (omega arith)

same_order : (a b : List ℕ) → ◌≡◌ {A = FileOrder} (Ordered a) (Ordered b) → a ≡ b
same_order a b e = cc

same_cycle : (a b : List ℕ) → ◌≡◌ {A = FileOrder} (Cyclic a) (Cyclic b) → a ≡ b
same_cycle a b e = cc

cyclic_ordered : (a b : List ℕ) → ◌≡◌ {A = FileOrder} (Cyclic a) (Ordered b) → ⊥
cyclic_ordered a b e = cc

ordered_cyclic : (a b : List ℕ) → ◌≡◌ {A = FileOrder} (Ordered a) (Cyclic b) → ⊥
ordered_cyclic a b e = cc

pub ordered_is : (edges : List (List ℕ)) (order : List ℕ) → file_order edges ≡ Ordered order → IsBuildOrder edges order
unfolding file_order
ordered_is edges order h =
    elim (cases_eq (length (all_taken edges)) (length edges)) [
      | inl e ↦
          subst (IsBuildOrder edges) (same_order (all_taken edges) order (sym (cond-true (length (all_taken edges) == length edges) (Ordered (all_taken edges)) (Cyclic (reported_cycle edges)) (eq-eqb (length (all_taken edges)) (length edges) e)) ∙ h))
          (whole_order edges (all_taken edges) (taken_so_far edges (length edges)) e)
      | inr ne ↦ absurd (cyclic_ordered (reported_cycle edges) order (sym (cond-false (length (all_taken edges) == length edges) (Ordered (all_taken edges)) (Cyclic (reported_cycle edges)) (ne_eqb (length (all_taken edges)) (length edges) ne)) ∙ h))
    ]

pub cyclic_is : (edges : List (List ℕ)) (files : List ℕ) → AreEdges edges → file_order edges ≡ Cyclic files → IsCycle edges files
unfolding file_order
cyclic_is edges files are h =
    elim (cases_eq (length (all_taken edges)) (length edges)) [
      | inl e ↦ absurd (ordered_cyclic (all_taken edges) files (sym (cond-true (length (all_taken edges) == length edges) (Ordered (all_taken edges)) (Cyclic (reported_cycle edges)) (eq-eqb (length (all_taken edges)) (length edges) e)) ∙ h))
      | inr ne ↦
          let short : length (all_taken edges) < length edges = omega (arith, few_taken edges (all_taken edges) (taken_so_far edges (length edges))) in
          subst (IsCycle edges) (same_cycle (reported_cycle edges) files (sym (cond-false (length (all_taken edges) == length edges) (Ordered (all_taken edges)) (Cyclic (reported_cycle edges)) (ne_eqb (length (all_taken edges)) (length edges) ne)) ∙ h))
          (cycle_is edges are (all_taken edges) (taken_so_far edges (length edges)) (stuck edges (length edges) ne) short)
    ]

-- ## No order beside a cycle

module _ (edges : List (List ℕ)) (order files : List ℕ) (is : IsBuildOrder edges order) (cycle : IsCycle edges files) where
  -- a file is at a rank of the order
  record IsAt (file rank : ℕ) : Type 0 where
    within : rank < length order
    at : get_or order rank 0 ≡ file

  -- what a file depends on is at an earlier rank
  lower : (file dep rank : ℕ) → IsAt file rank → Contains (deps_in edges file) dep → (earlier : ℕ) × (earlier < rank) × IsAt dep earlier
  lower file dep rank here there =
      let deps : List ℕ = deps_in edges (get_or order rank 0) in
      let among : Contains deps dep = subst (λ (f : ℕ). Contains (deps_in edges f) dep) (sym here.at) there in
      let before : Contains (take rank order) dep = subst (Contains (take rank order)) among.2 (is.after rank here.within among.0 _ among.1) in
      let low : before.0 < rank = omega (arith, before.1, length-take-le rank order (omega (arith, here.within))) in (
        before.0,
        low,
        record {
          within = omega (arith, here.within);
          at = get_or_default order before.0 0 dep (omega (arith, here.within)) ∙ sym (get_or-take rank order before.0 dep low) ∙ before.2;
        },
      )

  -- so each file of the cycle is at a rank that is lower by as much as it comes later
  descends : (first : ℕ) → IsAt (get_or files 0 0) first → (k : ℕ) → k < length files → (rank : ℕ) × (rank + k ≤ first) × IsAt (get_or files k 0) rank
  descends first here zero lt = (first, omega arith, here)
  descends first here (suc k) lt =
      let so_far = descends first here k (omega arith) in
      let next : suc k ≡ k + 1 = omega arith in
      let more = lower (get_or files k 0) (get_or files (k + 1) 0) so_far.0 so_far.2 (cycle.steps k (omega arith)) in
      (more.0, omega (arith, more.1, so_far.1), subst (λ (j : ℕ). IsAt (get_or files j 0) more.0) (sym next) more.2)

  first_at : (rank : ℕ) × IsAt (get_or files 0 0) rank
  first_at =
      let there : Contains order (get_or files 0 0) = is.every (get_or files 0 0) (cycle.within 0 0 cycle.some) in
      (there.0, record { within = there.1; at = get_or_default order there.0 0 (get_or files 0 0) there.1 ∙ there.2 })

  pub no_order : ⊥
  no_order =
      let end : length files - 1 < length files = omega (arith, cycle.some) in
      let last = descends first_at.0 first_at.1 (length files - 1) end in
      let again = lower (get_or files (length files - 1) 0) (get_or files 0 0) last.0 last.2 (cycle.closes (length files - 1) (omega (arith, cycle.some))) in
      let low : again.0 < first_at.0 = omega (arith, again.1, last.1) in
      is.distinct again.0 first_at.0 0 low first_at.1.within (again.2.at ∙ sym first_at.1.at)
