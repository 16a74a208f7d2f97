-- One link more.
use Rattle.std.proofs.Common.{◌≡◌, ℕ, ◌<◌, ◌∷◌, ◌++◌, ◌∙◌, [], List, ap, length, get_or, arith, subst, sym, take}
use Rattle.std.proofs.lemmas.List.{take_more, get_or_default}
use Rattle.std.proofs.lemmas.List.Elements.{All-get_or}
use Rattle.vhdl_scope.specs.declared.links.Link.{Link}
use Rattle.vhdl_scope.specs.Work.{AreReaders}
use Rattle.vhdl_scope.proofs.WorkLemmas.{one_reader, reader_both}
use Rattle.vhdl_scope.proofs.work.add_reader.Goals as goal

pub loop-link-preserved : goal.loop-link-preserved
loop-link-preserved c =
    let within : c.loop-link.link-index < length c.args.links.now = omega arith in
    let link : Link = get_or c.args.links.now c.loop-link.link-index (record { library_number = 0; source = 0 }) in
    let there : link.source < length c.args.readers.now.items = All-get_or (λ (l : Link). l.source < length c.args.readers.now.items) c.args.links.now c.loop-link.link-index (record { library_number = 0; source = 0 }) within c.requires.sources in
    let same : length c.loop-link.readers.items ≡ length c.args.readers.now.items = c.loop-link.invariant.each in
    let source : link.source < length c.loop-link.readers.items = omega arith in
    let own : c.args.at < length c.loop-link.readers.items = omega (arith, c.requires.within) in
    let row_indices = subst (λ (n : ℕ). AreReaders n c.loop-link.readers.items) (sym same) c.loop-link.invariant.row_indices in
    let one = one_reader c.args.at link c.loop-link.readers.items c.push.new.self (c.in_ok-push.ensures.ok ∙ ap (λ (some : List ℕ). some ++ c.args.at ∷ []) (c.index_mut.ensures.value ∙ get_or_default c.loop-link.readers.items link.source _ [] source)) source row_indices own in
    rw (take_more c.args.links.now c.loop-link.link-index (record { library_number = 0; source = 0 }) within)
    (reader_both c.args.at (take c.loop-link.link-index c.args.links.now) (link ∷ []) c.args.readers.now.items c.loop-link.readers.items _ c.loop-link.invariant one)
