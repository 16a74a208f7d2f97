-- The parts of a record whose text was cut from its payload.
use Rattle.std.proofs.Common.{◌≡◌, ℕ, List, sym, ap, ◌∙◌}
use Rattle.store_codec.specs.declared.reading.RequestRanges.{RequestRanges}
use Rattle.base_bytes.specs.declared.text_refs.TextRange.TheVariants.{Known}
use Rattle.store_codec.specs.Forms.{RequestDraft}
use Rattle.base_bytes.specs.TextRefs.{TextRef, ref_in_range}
use Rattle.base_bytes.specs.TextRefs.TextRef.{ByNumber, InFull}
use Rattle.store_codec.specs.Ranges.{request_in_ranges}
use Rattle.base_bytes.specs.Ranges.{counted_words}
use Rattle.store_table.specs.Cuts.{AreSameParts, with_source}

-- a draft of its parts
made : List ℕ → List ℕ → List (List ℕ) → TextRef → List ℕ → TextRef → RequestDraft
made library path command source deps artefact = record { name = record { library = library; path = path }; command = command; source = source; deps = deps; artefact = artefact }

pub same_parts : (bytes rest : List ℕ) (draft new : RequestRanges) (number : ℕ) → AreSameParts bytes draft rest new → counted_words rest new.words ≡ counted_words bytes draft.words → new.source ≡ Known number → request_in_ranges rest new ≡ with_source (ByNumber number) (request_in_ranges bytes draft)
unfolding made
same_parts bytes rest draft new number same words source =
    let from : RequestDraft = request_in_ranges bytes draft in
    let now : RequestDraft = request_in_ranges rest new in
    ap (λ (l : List ℕ). made l now.name.path now.command now.source now.deps now.artefact) same.library
    ∙ ap (λ (p : List ℕ). made from.name.library p now.command now.source now.deps now.artefact) same.path
    ∙ ap (λ (ws : List (List ℕ)). made from.name.library from.name.path ws now.source now.deps now.artefact) words
    ∙ ap (λ (s : TextRef). made from.name.library from.name.path from.command s now.deps now.artefact) (ap (ref_in_range rest) source)
    ∙ ap (λ (d : List ℕ). made from.name.library from.name.path from.command (ByNumber number) d now.artefact) same.deps
    ∙ ap (λ (a : TextRef). made from.name.library from.name.path from.command (ByNumber number) from.deps a) same.artefact

-- a draft whose text is known by its number
pub known_source : (bytes : List ℕ) (draft : RequestRanges) (number other : ℕ) → draft.source ≡ Known number → number ≡ other → request_in_ranges bytes draft ≡ with_source (ByNumber other) (request_in_ranges bytes draft)
known_source bytes draft number other source e =
    ap (λ (s : TextRef). with_source s (request_in_ranges bytes draft)) (ap (ref_in_range bytes) source ∙ ap (λ (n : ℕ). ByNumber n) e)

-- with the text in full it is the one of the payload
pub drafted_whole : (bytes : List ℕ) (draft : RequestRanges) (number : ℕ) (text : List ℕ) (cut : RequestDraft) → ref_in_range bytes draft.source ≡ InFull text → cut ≡ with_source (ByNumber number) (request_in_ranges bytes draft) → with_source (InFull text) cut ≡ request_in_ranges bytes draft
drafted_whole bytes draft number text cut source parts =
    ap (with_source (InFull text)) parts ∙ ap (λ (s : TextRef). with_source s (request_in_ranges bytes draft)) (sym source)
