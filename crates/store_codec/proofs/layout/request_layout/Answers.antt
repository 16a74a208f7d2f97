use Rattle.std.proofs.Common.{◌≡◌, ℕ, ◌+◌, ◌*◌, length, refl, ap, subst, arith}
use Rattle.store_codec.specs.Forms.{RequestDraft, command_bytes, text_ref_bytes}
use Rattle.store_codec.specs.Writing.{part_ref, request_of_parts}
use Rattle.store_codec.proofs.Layouts.{HoldsRef, is_layout}
use Rattle.store_codec.proofs.Sized.{ref_small}
use Rattle.store_codec.proofs.layout.request_layout.Goals as goal

pub overflow_add-deps : goal.overflow_add-deps
overflow_add-deps c =
    omega (
      arith,
      ap length c.bytes.ensures,
      ap length c.bytes-2.ensures,
      c.requires.name.library.at_most,
      c.requires.name.path.at_most,
      c.requires.words,
      c.requires.few,
      c.part_size.ensures,
      ref_small c.args.parts.source.known c.args.parts.source.text.now c.requires.source,
    )

pub overflow_add-artefact : goal.overflow_add-artefact
overflow_add-artefact c =
    omega (
      arith,
      ap length c.bytes.ensures,
      ap length c.bytes-2.ensures,
      c.requires.name.library.at_most,
      c.requires.name.path.at_most,
      c.requires.words,
      c.requires.few,
      c.part_size.ensures,
      ref_small c.args.parts.source.known c.args.parts.source.text.now c.requires.source,
    )

pub part_range-requires-2 : goal.part_range-requires-2
part_range-requires-2 c =
    omega (
      arith,
      ap length c.bytes.ensures,
      ap length c.bytes-2.ensures,
      c.requires.name.library.at_most,
      c.requires.name.path.at_most,
      c.requires.words,
      c.requires.few,
      c.part_size.ensures,
      ref_small c.args.parts.source.known c.args.parts.source.text.now c.requires.source,
    )

pub overflow_add-result : goal.overflow_add-result
overflow_add-result c =
    omega (
      arith,
      ap length c.bytes.ensures,
      ap length c.bytes-2.ensures,
      c.requires.name.library.at_most,
      c.requires.name.path.at_most,
      c.requires.words,
      c.requires.few,
      c.part_size.ensures,
      ref_small c.args.parts.source.known c.args.parts.source.text.now c.requires.source,
      c.part_size-2.ensures,
      ref_small c.args.parts.artefact.known c.args.parts.artefact.text.now c.requires.artefact,
    )

pub returns-clause-small : goal.returns-clause-small
returns-clause-small c =
    omega (
      arith,
      ap length c.bytes.ensures,
      ap length c.bytes-2.ensures,
      c.requires.name.library.at_most,
      c.requires.name.path.at_most,
      c.requires.words,
      c.requires.few,
      c.part_size.ensures,
      ref_small c.args.parts.source.known c.args.parts.source.text.now c.requires.source,
      c.part_size-2.ensures,
      ref_small c.args.parts.artefact.known c.args.parts.artefact.text.now c.requires.artefact,
    )

pub returns-clause-is : goal.returns-clause-is
returns-clause-is c = λ command words fits.
    let draft : RequestDraft = request_of_parts command c.args.parts in
    let library : length c.bytes.result.now ≡ length draft.name.library = ap length c.bytes.ensures in
    let path : length c.bytes-2.result.now ≡ length draft.name.path = ap length c.bytes-2.ensures in
    let long : length c.args.parts.words.now ≡ length (command_bytes command) = ap length words in
    let source : length c.bytes.result.now + 9 + length c.bytes-2.result.now + length c.args.parts.words.now ≡ length draft.name.library + 9 + length draft.name.path + length (command_bytes command) = omega (arith, library, path, long) in
    let artefact : length c.bytes.result.now + 9 + length c.bytes-2.result.now + length c.args.parts.words.now + c.part_size.result + (4 + 8 * length c.args.parts.deps.now) ≡ length draft.name.library + 9 + length draft.name.path + length (command_bytes command) + length (text_ref_bytes draft.source) + (4 + 8 * length draft.deps) = omega (arith, source, c.part_size.ensures) in
    is_layout draft _ fits (record {
      library = refl;
      library_count = library;
      path = omega (arith, library);
      path_count = path;
      words = omega (arith, library, path);
      source = subst (λ (k : ℕ). HoldsRef k (part_ref c.args.parts.source) c.part_range.result) source c.part_range.ensures;
      deps = omega (arith, source, c.part_size.ensures);
      artefact = subst (λ (k : ℕ). HoldsRef k (part_ref c.args.parts.artefact) c.part_range-2.result) artefact c.part_range-2.ensures;
      size = omega (arith, artefact, c.part_size-2.ensures);
    })
