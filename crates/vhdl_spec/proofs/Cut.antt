-- A text has no two cuts, no two faults, and no cut beside a fault: at each place one lexical element is right at most.
use Rattle.std.proofs.Common.{◌≡◌, ℕ, ◌<◌, ◌≤◌, List, [], ◌∷◌, length, refl, sym, ◌∙◌, ap, subst, arith}
use Rattle.std.specs.Prelude.{Option}
use Rattle.base.specs.declared.lexical.Token.{Token}
use Rattle.base.specs.declared.lexical.TokenKind.TheVariants.{Str, Extended}
use Rattle.base.specs.declared.lexical.LexFault.{LexFault}
use Rattle.base.specs.declared.lexical.LexFault.TheVariants.{UnclosedString, UnclosedExtended, UnclosedComment}
use Rattle.vhdl_spec.specs.Tokens.{Row, token, block_comment, LexicalElement, LexState, row_at, IsLongest, IsRight, Leads, lex_state_after, text_start, IsCut, Opens, HasFault}

-- of a form one longest lexical element is at an offset
one_longest : {row : Row} {text : List ℕ} {start a b : ℕ} → IsLongest row text start a → IsLongest row text start b → a ≡ b
one_longest {row} {text} {start} {a} {b} left right =
    let below : a ≤ b = right.longest a left.within left.fits in
    let above : b ≤ a = left.longest b right.within right.fits in
    omega arith

one_right : {text : List ℕ} {last : Option Token} {at : ℕ} {p q : LexicalElement} → IsRight text last at p → IsRight text last at q → p ≡ q
one_right {text} {last} {at} {p} {q} left right =
    let rows : p.row ≡ q.row = left.first ∙ sym right.first in
    let starts : p.start ≡ q.start = left.starts ∙ sym right.starts in
    let also : IsLongest q.row text at p.end = subst (λ (row : Row). IsLongest row text at p.end) rows left.longest in
    let ends : p.end ≡ q.end = one_longest also right.longest in
    λ i. record { row = rows i; start = starts i; end = ends i }

-- no lexical element is right at the offset
abbrev pub Stuck : List ℕ → LexState → Type 0
Stuck text lex_state = (lexical_element : LexicalElement) → IsRight text lex_state.last lex_state.at lexical_element → ⊥

pub end_is_stuck : (text : List ℕ) (lex_state : LexState) → lex_state.at ≡ length text → Stuck text lex_state
end_is_stuck text lex_state whole lexical_element right =
    let some : lex_state.at < lexical_element.end = right.longest.some in
    let within : lexical_element.end ≤ length text = right.longest.within in
    omega arith

pub opening_is_stuck : (row : Row) (text : List ℕ) (at : ℕ) (opens : Opens row text at) → Stuck text opens.lex_state
opening_is_stuck row text at opens lexical_element right =
    let at_is : opens.lex_state.at ≡ at = opens.stands in
    let row_is : lexical_element.row ≡ row = right.first ∙ ap (λ (n : ℕ). row_at text opens.lex_state.last n) at_is ∙ opens.first in
    let longest : IsLongest row text at lexical_element.end = subst (λ (r : Row). IsLongest r text at lexical_element.end) row_is (subst (λ (n : ℕ). IsLongest lexical_element.row text n lexical_element.end) at_is right.longest) in
    opens.no_end lexical_element.end longest.within longest.fits

-- two ways as far as can be are one
pub one_way : (text : List ℕ) (lex_state : LexState) (ps qs : List LexicalElement) (a b : LexState) → Leads text lex_state ps a → Stuck text a → Leads text lex_state qs b → Stuck text b → (ps ≡ qs) × (a ≡ b)
one_way text lex_state [] [] a b left a_stuck right b_stuck = (refl, sym left ∙ right)
one_way text lex_state [] (q ∷ qs) a b left a_stuck right b_stuck = absurd (subst (Stuck text) (sym left) a_stuck q right.0)
one_way text lex_state (p ∷ ps) [] a b left a_stuck right b_stuck = absurd (subst (Stuck text) (sym right) b_stuck p left.0)
one_way text lex_state (p ∷ ps) (q ∷ qs) a b left a_stuck right b_stuck =
    let same : p ≡ q = one_right left.0 right.0 in
    let moved : Leads text (lex_state_after lex_state q) ps a = subst (λ (x : LexicalElement). Leads text (lex_state_after lex_state x) ps a) same left.1 in
    let rest = one_way text (lex_state_after lex_state q) ps qs a b moved a_stuck right.1 b_stuck in
    ((λ i. same i ∷ rest.0 i), rest.1)

pub one_cut : (text : List ℕ) (a b : List LexicalElement) → IsCut text a → IsCut text b → a ≡ b
one_cut text a b left right = (one_way text text_start a b left.end right.end left.leads (end_is_stuck text left.end left.whole) right.leads (end_is_stuck text right.end right.whole)).0

no_cut_and_opening : (text : List ℕ) (lexical_elements : List LexicalElement) (row : Row) (at : ℕ) → IsCut text lexical_elements → Opens row text at → ⊥
no_cut_and_opening text lexical_elements row at cut opens =
    let same : cut.end ≡ opens.lex_state = (one_way text text_start lexical_elements opens.lexical_elements cut.end opens.lex_state cut.leads (end_is_stuck text cut.end cut.whole) opens.leads (opening_is_stuck row text at opens)).1 in
    let at_is : cut.end.at ≡ opens.lex_state.at = ap (λ (lex_state : LexState). lex_state.at) same in
    omega (arith, opens.stands, opens.within, cut.whole)

pub no_cut_and_fault : (text : List ℕ) (lexical_elements : List LexicalElement) (fault : LexFault) → IsCut text lexical_elements → HasFault text fault → ⊥
no_cut_and_fault text lexical_elements (UnclosedString at) cut has = no_cut_and_opening text lexical_elements (token Str) at cut has
no_cut_and_fault text lexical_elements (UnclosedExtended at) cut has = no_cut_and_opening text lexical_elements (token Extended) at cut has
no_cut_and_fault text lexical_elements (UnclosedComment at) cut has = no_cut_and_opening text lexical_elements block_comment at cut has

-- the fault of a row at an offset
abbrev fault_of : Row → ℕ → LexFault
fault_of (token Str) at = UnclosedString at
fault_of (token Extended) at = UnclosedExtended at
fault_of _ at = UnclosedComment at

pub record Fault (text : List ℕ) (fault : LexFault) : Type 0 where
  pub row : Row
  pub at : ℕ
  pub opens : Opens row text at
  pub is : fault ≡ fault_of row at

parts_of : (text : List ℕ) (fault : LexFault) → HasFault text fault → Fault text fault
parts_of text (UnclosedString at) has = record { row = token Str; at = at; opens = has; is = refl }
parts_of text (UnclosedExtended at) has = record { row = token Extended; at = at; opens = has; is = refl }
parts_of text (UnclosedComment at) has = record { row = block_comment; at = at; opens = has; is = refl }

pub one_fault : (text : List ℕ) (a b : LexFault) → HasFault text a → HasFault text b → a ≡ b
one_fault text a b left right =
    let x = parts_of text a left in
    let y = parts_of text b right in
    let same : x.opens.lex_state ≡ y.opens.lex_state = (one_way text text_start x.opens.lexical_elements y.opens.lexical_elements x.opens.lex_state y.opens.lex_state x.opens.leads (opening_is_stuck x.row text x.at x.opens) y.opens.leads (opening_is_stuck y.row text y.at y.opens)).1 in
    let ats : x.at ≡ y.at = sym x.opens.stands ∙ ap (λ (lex_state : LexState). lex_state.at) same ∙ y.opens.stands in
    let rows : x.row ≡ y.row = sym x.opens.first ∙ (λ i. row_at text (same i).last (ats i)) ∙ y.opens.first in
    x.is ∙ (λ i. fault_of (rows i) (ats i)) ∙ sym y.is
