use Rattle.std.proofs.Common.{◌≡◌, ℕ, List, length, ap, sym, subst, ◌∙◌, arith}
use Rattle.store_codec.specs.Forms.{HasRequestSpelling, command_bytes}
use Rattle.store_codec.specs.Writing.{ref_or}
use Rattle.store_codec.proofs.Sized.{words_small}
use Rattle.store.specs.Additions.{HasAskedSizes, SpellsRequest}
use Rattle.store.proofs.Asked.{asked_spelled}
use Rattle.store.proofs.asking.asked_payload.Goals as goal

pub framed_request-requires-clause-sizes : goal.framed_request-requires-clause-sizes
framed_request-requires-clause-sizes c =
    let words : c.bytes.result.now ≡ command_bytes c.args.entry.now.command = c.bytes.ensures ∙ c.in_ok-words.ensures in
    record {
      name = c.requires.sizes.name;
      words = omega (arith, ap length words, words_small c.args.entry.now.command c.requires.sizes.command);
      source = omega (arith, ap length c.bytes-2.ensures, c.requires.sizes.text);
      few = c.requires.sizes.few;
      artefact = omega (arith, c.requires.sizes.small);
    }

pub framed_request-requires-clause-spelled : goal.framed_request-requires-clause-spelled
framed_request-requires-clause-spelled c =
    let sizes : HasAskedSizes c.args.entry.now c.args.deps.now c.args.artefact.now = record { name = c.requires.sizes.name; command = c.requires.sizes.command; text = c.requires.sizes.text; few = c.requires.sizes.few; small = c.requires.sizes.small } in
    let spelled = asked_spelled c.args.entry.now c.args.refs.source c.args.deps.now c.args.refs.known c.args.artefact.now sizes c.requires.source c.requires.known (λ i. (let fits = c.type_inv.deps i in omega (arith, fits))) in (
      c.args.entry.now.command,
      c.bytes.ensures ∙ c.in_ok-words.ensures,
      subst (λ (t : List ℕ). HasRequestSpelling (record { name = c.args.entry.now.name; command = c.args.entry.now.command; source = ref_or c.args.refs.source t; deps = c.args.deps.now; artefact = ref_or c.args.refs.known c.args.artefact.now })) (sym c.bytes-2.ensures) spelled,
    )

pub returns : goal.returns
returns c =
    let sizes : HasAskedSizes c.args.entry.now c.args.deps.now c.args.artefact.now = record { name = c.requires.sizes.name; command = c.requires.sizes.command; text = c.requires.sizes.text; few = c.requires.sizes.few; small = c.requires.sizes.small } in
    let spelled = asked_spelled c.args.entry.now c.args.refs.source c.args.deps.now c.args.refs.known c.args.artefact.now sizes c.requires.source c.requires.known (λ i. (let fits = c.type_inv.deps i in omega (arith, fits))) in
    let spelled_here = subst (λ (t : List ℕ). HasRequestSpelling (record { name = c.args.entry.now.name; command = c.args.entry.now.command; source = ref_or c.args.refs.source t; deps = c.args.deps.now; artefact = ref_or c.args.refs.known c.args.artefact.now })) (sym c.bytes-2.ensures) spelled in
    subst (λ (t : List ℕ). SpellsRequest (record { name = c.args.entry.now.name; command = c.args.entry.now.command; source = ref_or c.args.refs.source t; deps = c.args.deps.now; artefact = ref_or c.args.refs.known c.args.artefact.now }) c.in_ok-asked.asked) c.bytes-2.ensures
    (c.in_ok-asked.ensures c.args.entry.now.command (c.bytes.ensures ∙ c.in_ok-words.ensures) spelled_here)
