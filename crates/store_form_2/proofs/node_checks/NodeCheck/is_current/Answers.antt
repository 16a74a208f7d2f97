use Rattle.std.proofs.Common.{◌≡◌, ◌≢◌, ◌+◌, ◌≤◌, ℕ, List, length, map, true≢false, ap, ◌∙◌, sym, subst, arith}
use Rattle.std.specs.Prelude.{AllPairs, Contains, sum_by}
use Rattle.base.specs.declared.limits.TheConstants.{GRAPH_TEXT_LIMIT}
use Rattle.store_form_2.specs.Fits.{AreListed, length_at, name_at}
use Rattle.store_form_2.proofs.Filling.{no_answer}
use Rattle.store_form_2.proofs.Fitted.{deps_once, fits_new}
use Rattle.store_form_2.proofs.node_checks.NodeCheck.is_current.Goals as goal

pub returns-then-not-own_names-clause-fits : goal.returns-then-not-own_names-clause-fits
returns-then-not-own_names-clause-fits c = λ texts more other are lengths_are own_is.
    let lengths = c.args.self.now in
    let table = c.args.table.now in
    let row = c.args.row.now in
    let both = fits_new lengths table row c.args.own c.len.ensures.table (record { name = c.requires.in_table.name; command = c.requires.in_table.command }) c.requires.there texts more other are lengths_are own_is in
    no_answer (λ new.
    let names = subst (λ (ds : List ℕ). AllPairs (λ a b. a ≢ b) (map (name_at table.rows) ds) × (¬ Contains (map (name_at table.rows) ds) row.name)) (sym c.as_slice-deps.ensures) (both.1 new).names in
    true≢false (sym (c.in_ok-own_names.ensures.1 names) ∙ c.if-not-own_names.true))

pub are_listed-requires-clause-once : goal.are_listed-requires-clause-once
are_listed-requires-clause-once c = deps_once c.args.table.now.rows c.as_slice-deps.result.now (c.in_ok-own_names.ensures.0 c.if-not-own_names.false).0

pub returns-then-not-listed-clause-fits : goal.returns-then-not-listed-clause-fits
returns-then-not-listed-clause-fits c = λ texts more other are lengths_are own_is.
    let lengths = c.args.self.now in
    let table = c.args.table.now in
    let row = c.args.row.now in
    let both = fits_new lengths table row c.args.own c.len.ensures.table (record { name = c.requires.in_table.name; command = c.requires.in_table.command }) c.requires.there texts more other are lengths_are own_is in
    no_answer (λ new.
    let listed = subst (AreListed table.nodes) (sym c.as_slice-deps.ensures) (both.1 new).listed in
    true≢false (sym (c.in_ok-listed.ensures.1 listed) ∙ c.if-not-listed.true))

pub returns-clause-fits : goal.returns-clause-fits
returns-clause-fits c = λ texts more other are lengths_are own_is.
    let lengths = c.args.self.now in
    let table = c.args.table.now in
    let row = c.args.row.now in
    let both = fits_new lengths table row c.args.own c.len.ensures.table (record { name = c.requires.in_table.name; command = c.requires.in_table.command }) c.requires.there texts more other are lengths_are own_is in
    let deps = c.as_slice-deps.ensures in
    let held : c.deref.result.now ≡ lengths = c.deref.ensures.value ∙ c.self.view_is in (
      λ e. both.0 (record {
        few = omega (arith, c.if-deps-ge-FILE_LIMIT.false, ap length deps);
        sizes = c.has_own_sizes.ensures.0 c.if-not-has_own_sizes.false;
        names = subst (λ (ds : List ℕ). AllPairs (λ a b. a ≢ b) (map (name_at table.rows) ds) × (¬ Contains (map (name_at table.rows) ds) row.name)) deps (c.in_ok-own_names.ensures.0 c.if-not-own_names.false);
        listed = subst (AreListed table.nodes) deps (c.in_ok-listed.ensures.0 c.if-not-listed.false);
        small = subst (λ (ds : List ℕ). sum_by (length_at table.nodes lengths) ds + c.args.own ≤ GRAPH_TEXT_LIMIT) deps (subst (λ (ls : List ℕ). sum_by (length_at table.nodes ls) c.as_slice-deps.result.now + c.args.own ≤ GRAPH_TEXT_LIMIT) held (c.are_small.ensures.0 e));
      }),
      λ new. c.are_small.ensures.1 (subst (λ (ls : List ℕ). sum_by (length_at table.nodes ls) c.as_slice-deps.result.now + c.args.own ≤ GRAPH_TEXT_LIMIT) (sym held) (subst (λ (ds : List ℕ). sum_by (length_at table.nodes lengths) ds + c.args.own ≤ GRAPH_TEXT_LIMIT) (sym deps) (both.1 new).small)),
    )
