-- Each text has exactly one finding, and exactly one scan or a fault.
use Rattle.std.proofs.Common.{◌≡◌, ℕ, List, sym, ap, subst, ◌∙◌, refl, inl, inr}
use Rattle.base.specs.declared.lexical.LexFault.{LexFault}
use Rattle.base.specs.declared.lexical.Token.{Token}
use Rattle.base.specs.declared.lexical.Span.{Span}
use Rattle.base.specs.declared.lexical.Tokens.{Tokens}
use Rattle.base.specs.declared.design.Unit.{Unit as DesignUnit}
use Rattle.base.specs.declared.design.UnitFault.{UnitFault}
use Rattle.base.specs.declared.design.Scan.{Scan}
use Rattle.vhdl_spec.specs.Tokens.{LexicalElement, IsCut, AreOf, tokens_of, comments_of}
use Rattle.vhdl_spec.specs.Units.{Element, IsOutline, HasUnitFault, roles_of, units_of}
use Rattle.vhdl_spec.proofs.Cut.{one_cut, one_fault, no_cut_and_fault}
use Rattle.vhdl_spec.proofs.Exists.{cut_or_fault}
use Rattle.vhdl_spec.proofs.Files.{one_outline, one_unit_fault, no_outline_and_fault}
use Rattle.vhdl_spec.proofs.Outlines.{outline_or_fault}
use Rattle.vhdl_spec.specs.Scans.{IsScanOf, Finding, Clean, Lexical, Grammatical, IsFinding}

-- the tokens of the same lexical elements
same_tokens : (lexical_elements : List LexicalElement) (a b : Tokens) → AreOf lexical_elements a → AreOf lexical_elements b → a ≡ b
same_tokens lexical_elements a b h k =
    ap (λ (list : List Token). record { list = list; comments = a.comments }) (h.list ∙ sym k.list)
    ∙ ap (λ (comments : List Span). record { list = b.list; comments = comments }) (h.comments ∙ sym k.comments)

same_scan : (tokens other : Tokens) (units others : List DesignUnit) → tokens ≡ other → units ≡ others → ◌≡◌ {A = Scan} (record { tokens = tokens; units = units }) (record { tokens = other; units = others })
same_scan tokens other units others e f =
    ap (λ (t : Tokens). record { tokens = t; units = units }) e ∙ ap (λ (us : List DesignUnit). record { tokens = other; units = us }) f

-- a text has one scan
pub one_scan : (text : List ℕ) (a b : Scan) → IsScanOf text a → IsScanOf text b → a ≡ b
one_scan text a b h k =
    let lexical_elements : h.tokens.0 ≡ k.tokens.0 = one_cut text h.tokens.0 k.tokens.0 h.tokens.1 k.tokens.1 in
    let tokens : a.tokens ≡ b.tokens = same_tokens k.tokens.0 a.tokens b.tokens (subst (λ (ps : List LexicalElement). AreOf ps a.tokens) lexical_elements h.tokens.2) k.tokens.2 in
    let elements : h.elements ≡ k.elements = one_outline (roles_of text b.tokens.list) h.elements k.elements (subst (λ (t : Tokens). IsOutline (roles_of text t.list) h.elements) tokens h.outline) k.outline in
    same_scan a.tokens b.tokens a.units b.units tokens
    (h.units ∙ ap (λ (t : Tokens). units_of text t.list h.elements) tokens ∙ ap (λ (es : List Element). units_of text b.tokens.list es) elements ∙ sym k.units)

-- a scan has a cut and an outline of it
outlined : (text : List ℕ) (scan : Scan) (h : IsScanOf text scan) → IsOutline (roles_of text (tokens_of h.tokens.0)) h.elements
outlined text scan h = subst (λ (list : List Token). IsOutline (roles_of text list) h.elements) h.tokens.2.list h.outline

-- a text with a scan has no fault of its units
no_unit_fault : (text : List ℕ) (scan : Scan) (fault : UnitFault) (lexical_elements : List LexicalElement) → IsScanOf text scan → IsCut text lexical_elements → HasUnitFault text (tokens_of lexical_elements) fault → ⊥
no_unit_fault text scan fault lexical_elements h cut k =
    let same : h.tokens.0 ≡ lexical_elements = one_cut text h.tokens.0 lexical_elements h.tokens.1 cut in
    no_outline_and_fault text (tokens_of lexical_elements) h.elements fault (subst (λ (ps : List LexicalElement). IsOutline (roles_of text (tokens_of ps)) h.elements) same (outlined text scan h)) k

pub one_finding : (text : List ℕ) (a b : Finding) → IsFinding text a → IsFinding text b → a ≡ b
one_finding text (Clean scan) (Clean other) h k = ap (λ (s : Scan). Clean s) (one_scan text scan other h k)
one_finding text (Clean scan) (Lexical fault) h k = absurd (no_cut_and_fault text h.tokens.0 fault h.tokens.1 k)
one_finding text (Clean scan) (Grammatical fault) h k = absurd (no_unit_fault text scan fault k.0 h k.1 k.2)
one_finding text (Lexical fault) (Clean scan) h k = absurd (no_cut_and_fault text k.tokens.0 fault k.tokens.1 h)
one_finding text (Lexical fault) (Lexical other) h k = ap (λ (f : LexFault). Lexical f) (one_fault text fault other h k)
one_finding text (Lexical fault) (Grammatical other) h k = absurd (no_cut_and_fault text k.0 fault k.1 h)
one_finding text (Grammatical fault) (Clean scan) h k = absurd (no_unit_fault text scan fault h.0 k h.1 h.2)
one_finding text (Grammatical fault) (Lexical other) h k = absurd (no_cut_and_fault text h.0 other h.1 k)
one_finding text (Grammatical fault) (Grammatical other) h k =
    let same : h.0 ≡ k.0 = one_cut text h.0 k.0 h.1 k.1 in
    ap (λ (f : UnitFault). Grammatical f) (one_unit_fault text (tokens_of k.0) fault other (subst (λ (lexical_elements : List LexicalElement). HasUnitFault text (tokens_of lexical_elements) fault) same h.2) k.2)

-- the scan of a cut and an outline of it
scan_of : List ℕ → List LexicalElement → List Element → Scan
scan_of text lexical_elements elements = record { tokens = record { list = tokens_of lexical_elements; comments = comments_of lexical_elements }; units = units_of text (tokens_of lexical_elements) elements }

pub some_finding : (text : List ℕ) → (finding : Finding) × IsFinding text finding
unfolding scan_of
some_finding text =
    elim (cut_or_fault text) [
      | inl cut ↦
          elim (outline_or_fault text (tokens_of cut.0)) [
            | inl outline ↦ (Clean (scan_of text cut.0 outline.0), record { tokens = (cut.0, cut.1, record { list = refl; comments = refl }); elements = outline.0; outline = outline.1; units = refl })
            | inr fault ↦ (Grammatical fault.0, (cut.0, cut.1, fault.1))
          ]
      | inr fault ↦ (Lexical fault.0, fault.1)
    ]
