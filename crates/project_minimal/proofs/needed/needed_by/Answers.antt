-- The tables are those of the sources.
use Rattle.std.proofs.Common.{List, refl, subst, sym}
use Rattle.std.specs.Option.{option_map}
use Rattle.vhdl_outline.specs.Outlines.{FilesAreOf}
use Rattle.vhdl_outline.specs.declared.outlines.FileOutline.{FileOutline}
use Rattle.project_minimal.specs.MinimalSet.{NeedSources, said_of}
use Rattle.project_minimal.specs.Sources.{AreNeeds}
use Rattle.project_minimal.proofs.needed.needed_by.Goals as goal

pub returns : goal.returns
returns c = λ scans are at low.
    let said : NeedSources = said_of c.args.sources.project.now c.args.sources.texts.now scans (option_map (λ e. e.now) c.args.edges) in
    let needs : AreNeeds c.args.sources said = record { files = refl; texts = refl; outlined = subst (λ (files : List FileOutline). FilesAreOf c.args.sources.texts.now scans files) (sym c.requires.same) are.files } in
    c.in_ok-set.ensures said (record { needs = needs; index = c.requires.holds said needs; visible = c.requires.seen scans are }) refl at low
