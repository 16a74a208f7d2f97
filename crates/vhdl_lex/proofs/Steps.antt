-- A lexical element more.
use Rattle.std.proofs.Common.{◌≡◌, ℕ, zero, suc, ◌+◌, ◌-◌, ◌<◌, ◌≤◌, ◌==◌, true, List, [], ◌∷◌, ◌++◌, length, slice_index, slice_get, Option, Some, refl, sym, ◌∙◌, ap, subst, arith}
use Rattle.std.proofs.Math.Seq.{get_or-append_seam}
use Rattle.std.proofs.lemmas.List.{append-nil, length-append, map-append}
use Rattle.std.proofs.lemmas.Option.{slice_get-get_or}
use Rattle.std.proofs.lemmas.Grind.{flat_map-append}
use Rattle.base.specs.declared.lexical.Token.{Token}
use Rattle.base.specs.declared.design.Role.{Role}
use Rattle.base.specs.declared.lexical.TokenKind.{TokenKind}
use Rattle.base.specs.declared.lexical.Span.{Span}
use Rattle.base.specs.declared.lexical.Tokens.{Tokens}
use Rattle.base.specs.declared.lexical.LexFault.{LexFault}
use Rattle.base.specs.declared.lexical.LexFault.TheVariants.{UnclosedString, UnclosedExtended, UnclosedComment}
use Rattle.base.specs.declared.memory.OrMemory.TheVariants.{Fault}
use Rattle.std.specs.Prelude.{Ok, Err}
use Rattle.vhdl_spec.specs.Units.{role_of, roles_of}
use Rattle.vhdl_spec.specs.Tokens.{Row, line_comment, block_comment, token, LexicalElement, LexState, text_start, lex_state_after, EachByte, IsRight, Leads, Opens, is_blank, is_tick_at, tokens_of, comments_of, Scans}
use Rattle.base.specs.declared.lexical.TokenKind.TheVariants.{Str, Extended}
use Rattle.vhdl_lex.specs.declared.lexical_element.Found.TheVariants as found
use Rattle.vhdl_lex.specs.Ends.{IsRunEnd}
use Rattle.vhdl_lex.specs.LexicalElements.{LastIsIn, Skips, IsLexicalElementEnd, HasNoEnd, IsFound, last_of}
use Rattle.vhdl_lex.specs.Reading.{Read}
use Rattle.vhdl_lex.proofs.Longest.{blank_gap, blank_longest}
use Rattle.vhdl_lex.proofs.Rows.{any_blank_row}

leads_on : (text : List ℕ) (lex_state : LexState) (ps qs : List LexicalElement) (middle end : LexState) → Leads text lex_state ps middle → Leads text middle qs end → Leads text lex_state (ps ++ qs) end
leads_on text lex_state [] qs middle end before after = subst (λ (p : LexState). Leads text p qs end) (sym before) after
leads_on text lex_state (p ∷ ps) qs middle end before after = (before.0, leads_on text (lex_state_after lex_state p) ps qs middle end before.1 after)

last_pushed : (list : List Token) (here : Token) → Some here ≡ last_of (list ++ here ∷ [])
last_pushed list here =
    let all = list ++ here ∷ [] in
    let long = length-append list (here ∷ []) in
    let offset : length all - 1 ≡ length list = omega (arith, long) in
    sym (ap (slice_get all) offset ∙ slice_get-get_or all (length list) here (omega (arith, long)) ∙ ap Some (get_or-append_seam list here [] here))

module _ (text : List ℕ) (list : List Token) (comments : List Span) (at : ℕ) (read : Read text list comments at) where
  abbrev last : Option Token
  last = last_of list

  pub read_gap : (end : ℕ) → Skips text last at end → Read text list comments end
  read_gap end skips = record {
    lexical_elements = read.lexical_elements ++ skips.lexical_elements;
    leads = leads_on text text_start read.lexical_elements skips.lexical_elements (record { last = last; at = at }) (record { last = last; at = end }) read.leads skips.leads;
    tokens_are = read.tokens_are ∙ sym (flat_map-append _ read.lexical_elements skips.lexical_elements ∙ ap (λ (rest : List Token). tokens_of read.lexical_elements ++ rest) skips.tokens ∙ append-nil (tokens_of read.lexical_elements));
    comments_are = read.comments_are ∙ sym (flat_map-append _ read.lexical_elements skips.lexical_elements ∙ ap (λ (rest : List Span). comments_of read.lexical_elements ++ rest) skips.comments ∙ append-nil (comments_of read.lexical_elements));
    within = skips.within;
    lies = read.lies;
  }

  pub read_comment : (end : ℕ) → IsLexicalElementEnd line_comment text last at end → Read text list (comments ++ record { start = at; end = end } ∷ []) end
  read_comment end ends =
      let lexical_element : LexicalElement = record { row = line_comment; start = at; end = end } in
      let right : IsRight text last at lexical_element = record { starts = refl; first = sym ends.first; longest = ends.longest } in
      record {
        lexical_elements = read.lexical_elements ++ lexical_element ∷ [];
        leads = leads_on text text_start read.lexical_elements (lexical_element ∷ []) (record { last = last; at = at }) (record { last = last; at = end }) read.leads (right, refl);
        tokens_are = read.tokens_are ∙ sym (flat_map-append _ read.lexical_elements (lexical_element ∷ []) ∙ append-nil (tokens_of read.lexical_elements));
        comments_are = ap (λ (prefix : List Span). prefix ++ record { start = at; end = end } ∷ []) read.comments_are ∙ sym (flat_map-append _ read.lexical_elements (lexical_element ∷ []));
        within = ends.longest.within;
        lies = read.lies;
      }

  pub read_token : (kind : TokenKind) (end : ℕ) → IsLexicalElementEnd (token kind) text last at end → Read text (list ++ record { kind = kind; start = at; end = end } ∷ []) comments end
  read_token kind end ends =
      let lexical_element : LexicalElement = record { row = token kind; start = at; end = end } in
      let here : Token = record { kind = kind; start = at; end = end } in
      let right : IsRight text last at lexical_element = record { starts = refl; first = sym ends.first; longest = ends.longest } in
      record {
        lexical_elements = read.lexical_elements ++ lexical_element ∷ [];
        leads = subst (λ (it : Option Token). Leads text text_start (read.lexical_elements ++ lexical_element ∷ []) (record { last = it; at = end })) (last_pushed list here) (leads_on text text_start read.lexical_elements (lexical_element ∷ []) (record { last = last; at = at }) (lex_state_after (record { last = last; at = at }) lexical_element) read.leads (right, refl));
        tokens_are = ap (λ (prefix : List Token). prefix ++ here ∷ []) read.tokens_are ∙ sym (flat_map-append _ read.lexical_elements (lexical_element ∷ []));
        comments_are = read.comments_are ∙ sym (flat_map-append _ read.lexical_elements (lexical_element ∷ []) ∙ append-nil (comments_of read.lexical_elements));
        within = ends.longest.within;
        lies = subst (LastIsIn text) (last_pushed list here) (ends.longest.some, ends.longest.within);
      }

  opens : (row : Row) (offset : ℕ) → at < length text → (offset ≡ at) × HasNoEnd row text last at → Opens row text offset
  opens row offset some (is, none) = subst (λ (n : ℕ). Opens row text n) (sym is) (record { lexical_elements = read.lexical_elements; lex_state = record { last = last; at = at }; leads = read.leads; stands = refl; within = some; first = none.first; no_end = none.no_end })

  pub read_fault : (fault : LexFault) → at < length text → IsFound text last at (found.Unclosed fault) → Scans text (Err (Fault fault))
  read_fault (UnclosedString offset) some is = opens (token Str) offset some is
  read_fault (UnclosedExtended offset) some is = opens (token Extended) offset some is
  read_fault (UnclosedComment offset) some is = opens block_comment offset some is

  pub read_all : length text ≤ at → (tokens : Tokens) → tokens.list ≡ list → tokens.comments ≡ comments → Scans text (Ok tokens)
  read_all whole tokens list_is comments_is = (read.lexical_elements, record { end = record { last = last; at = at }; leads = read.leads; whole = omega (arith, read.within) }, record { list = list_is ∙ read.tokens_are; comments = comments_is ∙ read.comments_are })

module _ (text : List ℕ) (list : List Token) (comments : List Span) where
  read_blank : (at : ℕ) → Read text list comments at → is_blank (slice_index text at) ≡ true → at < length text → Read text list comments (at + 1)
  read_blank at read is within =
      let last = last_of list in
      let first = any_blank_row (at == 0) (is_tick_at text last) (slice_index text at) (slice_index text (at + 1)) (slice_index text (at + 2)) is in
      read_gap text list comments at read (at + 1) (blank_gap text last at (at + 1) first (blank_longest text at within))

  blanks_from : (n at : ℕ) → Read text list comments at → EachByte is_blank text at (at + n) → at + n ≤ length text → Read text list comments (at + n)
  blanks_from zero at read each within = let is : at ≡ at + 0 = omega arith in subst (λ (k : ℕ). Read text list comments k) is read
  blanks_from (suc n) at read each within =
      let is : at + 1 + n ≡ at + suc n = omega arith in
      subst (λ (k : ℕ). Read text list comments k) is (blanks_from n (at + 1) (read_blank at read (each at (omega arith) (omega arith)) (omega arith)) (λ offset from below. each offset (omega arith) (omega arith)) (omega arith))

  pub read_blanks : (at end : ℕ) → Read text list comments at → IsRunEnd is_blank text at end → Read text list comments end
  read_blanks at end read is =
      let back : at + (end - at) ≡ end = omega (arith, is.reaches) in
      subst (λ (k : ℕ). Read text list comments k) back (blanks_from (end - at) at read (λ offset from below. is.each offset from (omega (arith, is.reaches))) (omega (arith, is.reaches, is.within)))

pub roles_more : (text : List ℕ) (list : List Token) (here : Token) (roles : List Role) → roles ≡ roles_of text list → roles ++ role_of text here ∷ [] ≡ roles_of text (list ++ here ∷ [])
roles_more text list here roles are = ap (λ (before : List Role). before ++ role_of text here ∷ []) are ∙ sym (map-append (role_of text) list (here ∷ []))
