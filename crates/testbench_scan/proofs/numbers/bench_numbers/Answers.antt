-- One unit more.
use Rattle.std.proofs.Common.{◌++◌, ◌∷◌, [], List, cond, filter, get_or, take, ap, sym, ◌∙◌}
use Rattle.std.proofs.lemmas.List.{take_all, take_more}
use Rattle.std.proofs.lemmas.List.Elements.{filter-append}
use Rattle.base.specs.declared.refs.UnitId.{UnitId}
use Rattle.testbench_scan.specs.Benches.{is_bench}
use Rattle.testbench_scan.specs.Files.{scanned}
use Rattle.testbench_scan.proofs.numbers.bench_numbers.Goals as goal

abbrev none : UnitId
none = record { file = 0; unit = 0 }

pub loop-id-preserved : goal.loop-id-preserved
loop-id-preserved c = record {
  all = λ scans are.
      let test = is_bench (scanned c.args.files scans) in
      let at = c.loop-id.id-index in
      let id : UnitId = get_or c.args.ids.now at none in
      c.in_ok-add_bench.ensures.added scans are
      ∙ ap (λ (so_far : List UnitId). so_far ++ cond (test id) (id ∷ []) []) (c.loop-id.invariant.all scans are)
      ∙ sym (filter-append test (take at c.args.ids.now) (id ∷ []))
      ∙ ap (filter test) (sym (take_more c.args.ids.now at none c.loop-id-test.true));
  within = c.in_ok-add_bench.ensures.within;
  named = c.in_ok-add_bench.ensures.named;
}

pub returns-clause-all : goal.returns-clause-all
returns-clause-all c scans are = c.loop-id.invariant.all scans are ∙ ap (filter (is_bench (scanned c.args.files scans))) (take_all c.loop-id.id-index c.args.ids.now c.loop-id-test.false)
