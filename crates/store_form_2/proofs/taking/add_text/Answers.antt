use Rattle.std.proofs.Common.{ℕ, List, ◌++◌, ◌∷◌, [], ◌∙◌, ap, refl}
use Rattle.store_form_2.specs.declared.texts.TextLocation.{TextLocation}
use Rattle.store_form_2.proofs.Taken.{text_added}
use Rattle.store_form_2.proofs.taking.add_text.Goals as goal

pub returns : goal.returns
returns c =
    text_added c.args.segments.now.payloads c.args.texts.now c.put.new.self (record { payload = c.args.at; span = c.args.span }) _ _ c.args.test.now c.add_text.new.self c.text_at-text.result.now
    (record { located = c.requires.texts.located; fingerprinted = c.requires.texts.fingerprinted }) c.requires.at
    (c.put.ensures.locations ∙ ap (λ (ps : List TextLocation). ps ++ record { payload = c.args.at; span = c.args.span } ∷ []) c.in_ok-reserve.ensures.locations)
    (c.put.ensures.fingerprints ∙ ap (λ (ms : List ℕ). ms ++ c.fingerprint_of.result ∷ []) c.in_ok-reserve.ensures.fingerprints) c.text_at-text.ensures c.fingerprint_of.ensures refl c.requires.lengths c.in_ok-add_text.ensures
