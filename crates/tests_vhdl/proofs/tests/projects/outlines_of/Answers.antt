-- One text more.
use Rattle.std.proofs.Common.{◌∙◌, List, ℕ, [], Some, ap, subst, sym}
use Rattle.vhdl_outline.specs.Outlines.{AreOutlined}
use Rattle.vhdl_outline.proofs.OutlineLemmas.{none_outlined, outlined_more, take_got}
use Rattle.tests_vhdl.proofs.tests.projects.outlines_of.Goals as goal

pub loop-at-init : goal.loop-at-init
loop-at-init c = subst (AreOutlined []) (sym c.new-outlines.ensures) none_outlined

pub loop-at-preserved : goal.loop-at-preserved
loop-at-preserved c =
    let it = c.in_ok-used.ensures in
    subst (λ (texts : List (List ℕ)). AreOutlined texts c.outline_text.new.outlines) (sym (take_got c.args.texts.now c.loop-at.at c.bytes-text.result.now (c.get.ensures ∙ ap Some (sym c.bytes-text.ensures))))
    (outlined_more _ c.bytes-text.result.now it.scan c.loop-at.outlines c.outline_text.new.outlines c.loop-at.invariant it.is it.added)
