use Rattle.vhdl_spec.specs.Dependencies.{link_units}
use Rattle.project_reading.proofs.LinkLemmas.{edges_for_each}
use Rattle.project_reading.proofs.linking.links_of.Goals as goal

pub returns-in-Ok-clause-count : goal.returns-in-Ok-clause-count
returns-in-Ok-clause-count c =
    let scans = c.requires.outlined.scans in
    edges_for_each c.args.project.now (link_units 0 c.args.project.now.files c.args.texts.now scans) c.in-Ok.links (c.in-Ok.ensures.exact scans c.requires.outlined.are)

pub returns-in-Err-clause-links : goal.returns-in-Err-clause-links
returns-in-Err-clause-links c scans are = c.link_stop.ensures.stop _ (c.in-Err.ensures.exact scans are)
