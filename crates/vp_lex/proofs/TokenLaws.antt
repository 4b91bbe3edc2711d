-- What is computed are the tokens of a text, or its error, and there are no others.
use Rattle.std.proofs.Common.{◌≡◌, ℕ, false, inl, inr, List, [], Result, Ok, Err, refl, sym, ◌∙◌, ap}
use Rattle.vp_lex.specs.declared.error.LexError.{LexError}
use Rattle.vp_lex.specs.declared.token.Token.{Token}
use Rattle.vp_lex.specs.Pieces.{Piece}
use Rattle.vp_lex.specs.Cuts.{Refusal}
use Rattle.vp_lex.specs.Cutting.{cut_text}
use Rattle.vp_lex.specs.Tokens.{Scan, IsScan, judged, scanned, scan_of, tokens_of, AreTokens, IsError, IsFaultOf}
use Rattle.vp_lex.proofs.CutLaws.{cut_text_cuts}
use Rattle.vp_lex.proofs.Complete.{cut_text_is}
use Rattle.vp_lex.proofs.FaultLaws.{cut_text_refused, refused_is_told}

scan_by : (text : List ℕ) (r : Result (List Piece) Refusal) → cut_text text ≡ r → IsScan text (scanned text [] false r)
scan_by text (Ok pieces) e = inl (pieces, cut_text_cuts text pieces e, refl)
scan_by text (Err refusal) e = inr (refusal, cut_text_refused text refusal e, refl)

-- what is computed is what is read of a text
pub scan_of_is : (text : List ℕ) → IsScan text (scan_of text)
scan_of_is text = scan_by text (cut_text text) refl

-- what is read of a text is what is computed
pub is_scan_of : (text : List ℕ) (scan : Scan) → IsScan text scan → scan ≡ scan_of text
is_scan_of text scan h =
    elim h [
      | inl cut ↦ cut.2 ∙ ap (scanned text [] false) (sym (cut_text_is text cut.0 cut.1))
      | inr refused ↦ refused.2 ∙ ap (scanned text [] false) (sym (refused_is_told text refused.0 refused.1))
    ]

-- what is computed are the tokens
pub tokens_of_are : (text : List ℕ) (tokens : List Token) → tokens_of text ≡ Ok tokens → AreTokens text tokens
tokens_of_are text tokens h = (scan_of text, scan_of_is text, h)

-- the tokens are what is computed
pub are_tokens_of : (text : List ℕ) (tokens : List Token) → AreTokens text tokens → tokens_of text ≡ Ok tokens
are_tokens_of text tokens h = ap (judged text) (sym (is_scan_of text h.0 h.1)) ∙ h.2

-- the error that is computed is that of the first fault
pub tokens_of_error : (text : List ℕ) (error : LexError) → tokens_of text ≡ Err error → IsError text error
tokens_of_error text error h = (scan_of text, scan_of_is text, h)

-- so is it reported
pub error_of_text : (text : List ℕ) (error : LexError) → tokens_of text ≡ Err error → IsFaultOf text error
error_of_text text error h = inr (tokens_of_error text error h)

-- the error of the first fault is computed
pub is_error_of : (text : List ℕ) (error : LexError) → IsError text error → tokens_of text ≡ Err error
is_error_of text error h = ap (judged text) (sym (is_scan_of text h.0 h.1)) ∙ h.2

-- a text has one list of tokens
pub one_list : (text : List ℕ) (tokens others : List Token) → AreTokens text tokens → AreTokens text others → tokens ≡ others
one_list text tokens others h k =
    let e : ◌≡◌ {A = Result (List Token) LexError} (Ok tokens) (Ok others) = sym (are_tokens_of text tokens h) ∙ are_tokens_of text others k in
    cc

-- a text has one error
pub one_error : (text : List ℕ) (error other : LexError) → IsError text error → IsError text other → error ≡ other
one_error text error other h k =
    let e : ◌≡◌ {A = Result (List Token) LexError} (Err error) (Err other) = sym (is_error_of text error h) ∙ is_error_of text other k in
    cc

-- a text that has tokens has no error
pub tokens_or_error : (text : List ℕ) (tokens : List Token) (error : LexError) → AreTokens text tokens → IsError text error → ⊥
tokens_or_error text tokens error h k =
    let e : ◌≡◌ {A = Result (List Token) LexError} (Ok tokens) (Err error) = sym (are_tokens_of text tokens h) ∙ is_error_of text error k in
    cc
