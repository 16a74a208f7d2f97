use Rattle.std.proofs.Common.{◌≡◌, ◌∷◌, ◌++◌, ◌+◌, ℕ, List, length, arith, ap, length-append}
use Rattle.std.proofs.lemmas.Grind.{common_steps}
use Rattle.base.specs.Jobs.{name_bytes}
use Rattle.store_codec.specs.Forms.{product_numbers_bytes, text_ref_bytes}
use Rattle.store_codec.specs.Writing.{part_ref}
use Rattle.store_codec.proofs.Sized.{request_small}
use Rattle.store_codec.proofs.writing.write_request.Goals as goal

pub returns-clause-small : goal.returns-clause-small
returns-clause-small c =
    let payload : List ℕ = 1 ∷ (name_bytes c.args.parts.name.now ++ (c.args.parts.words.now ++ (text_ref_bytes (part_ref c.args.parts.source) ++ (product_numbers_bytes c.args.parts.deps.now ++ text_ref_bytes (part_ref c.args.parts.artefact))))) in
    let spelled : c.put_part-2.new.out ≡ c.args.out.now ++ (1 ∷ (name_bytes c.args.parts.name.now ++ (c.args.parts.words.now ++ (text_ref_bytes (part_ref c.args.parts.source) ++ (product_numbers_bytes c.args.parts.deps.now ++ text_ref_bytes (part_ref c.args.parts.artefact)))))) = grind (arith, common_steps) in
    omega (
      arith,
      ap length spelled,
      length-append c.args.out.now payload,
      request_small c.args.parts.name.now c.args.parts.words.now c.args.parts.source.known c.args.parts.source.text.now c.args.parts.deps.now c.args.parts.artefact.known c.args.parts.artefact.text.now (record { library = c.requires.name.library; path = c.requires.name.path }) c.requires.words c.requires.source c.requires.few c.requires.artefact,
    )
