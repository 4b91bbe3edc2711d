-- Envelopes of short texts, computed. Each row is an equation that holds by computation.
use Rattle.std.proofs.Common.{◌≡◌, ℕ, List, [], ◌∷◌, Some, None, Result, Ok, Err, refl}
use Rattle.std.specs.Prelude.{codes}
use Rattle.std.specs.Str.{chars, is_utf8}
use Rattle.std.specs.Char.{encode_utf8}
use Rattle.vp_lex.specs.declared.error.LexError.{LexError}
use Rattle.vp_lex.specs.declared.token.Token.{Token}
use Rattle.vp_lex.specs.Tokens.{tokens_of}
use Rattle.vp_pragma.specs.declared.envelope.Envelope.{Envelope}
use Rattle.vp_pragma.specs.declared.error.PragmaError.{PragmaError}
use Rattle.vp_pragma.specs.declared.error.PragmaError.TheVariants as error
use Rattle.vp_pragma.specs.Rights.{with_right, nothing}
use Rattle.vp_pragma.specs.declared.rights.Right.TheVariants as right
use Rattle.vp_pragma.specs.Access.{access_of}
use Rattle.vp_pragma.specs.Envelopes.{Protection, envelope_at}
use Rattle.vp_pragma.specs.LineReading.{envelopes_read}
use Rattle.vp_pragma.specs.Lists.{scan}

abbrev tokens_in : Result (List Token) LexError → List Token
tokens_in (Ok tokens) = tokens
tokens_in (Err e) = []

-- the envelopes of a text whose tokens are read
abbrev envelopes_in : List ℕ → Result Protection PragmaError
envelopes_in text = envelopes_read text (tokens_in (tokens_of text))

-- envelopes, and no viewport
abbrev only : List Envelope → Result Protection PragmaError
only envelopes = Ok (record { envelopes = envelopes; viewports = [] })

-- ---- access strings

list_and_read : access_of (codes "read+list") ≡ Some (with_right right.Read (with_right right.List nothing))
list_and_read = refl

-- every set that is named contains list
put_alone : access_of (codes "put+put") ≡ Some (with_right right.Put (with_right right.List nothing))
put_alone = refl

no_right : access_of (codes "peek") ≡ None
no_right = refl

no_name : access_of (codes "") ≡ None
no_name = refl

plus_at_the_end : access_of (codes "read+") ≡ None
plus_at_the_end = refl

-- ---- envelopes

abbrev envelope : ℕ → ℕ → List ℕ → Envelope
envelope begin end author = record { begin = begin; end = end; author = author }

one_envelope :
    envelopes_in (codes "`pragma protect author=\"a\", begin\n`pragma protect end\n") ≡ only (envelope 6 9 (codes "a") ∷ [])
unfolding is_utf8 chars encode_utf8 scan
one_envelope = refl

-- an author with a quotation mark in the name
escaped_author :
    envelopes_in (codes "`pragma protect author=\"a\\\"b\", begin\n`pragma protect end\n") ≡ only (envelope 6 9 (codes "a\"b") ∷ [])
unfolding is_utf8 chars encode_utf8 scan
escaped_author = refl

no_effect : envelopes_in (codes "`pragma protect\n`pragma other begin\n`pragma protect encoding=\"x\"") ≡ only []
unfolding is_utf8 chars encode_utf8 scan
no_effect = refl

-- a timescale is no pragma
timescale : envelopes_in (codes "`timescale protect begin\n`pragma protect") ≡ only []
unfolding is_utf8 chars encode_utf8 scan
timescale = refl

nested : envelopes_in (codes "`pragma protect begin\n`pragma protect begin") ≡ Err (error.NestedBegin 2)
unfolding is_utf8 chars encode_utf8 scan
nested = refl

end_alone : envelopes_in (codes "`pragma protect end") ≡ Err (error.EndWithoutBegin 1)
unfolding is_utf8 chars encode_utf8 scan
end_alone = refl

left_open : envelopes_in (codes "`pragma protect begin") ≡ Err (error.OpenEnvelope 1)
unfolding is_utf8 chars encode_utf8 scan
left_open = refl

in_a_block : envelopes_in (codes "initial begin\n`pragma protect begin\n") ≡ Err (error.Unbalanced 2)
unfolding is_utf8 chars encode_utf8 scan
in_a_block = refl

-- within the parentheses of a for
in_a_parenthesis : envelopes_in (codes "initial for (i = 0;\n`pragma protect begin\n") ≡ Err (error.Unbalanced 2)
unfolding is_utf8 chars encode_utf8 scan
in_a_parenthesis = refl

in_a_bracket : envelopes_in (codes "a[;\n`pragma protect begin\n") ≡ Err (error.Unbalanced 2)
unfolding is_utf8 chars encode_utf8 scan
in_a_bracket = refl

in_a_brace : envelopes_in (codes "{;\n`pragma protect begin\n") ≡ Err (error.Unbalanced 2)
unfolding is_utf8 chars encode_utf8 scan
in_a_brace = refl

-- a closing parenthesis without an opening one counts nothing
after_a_stray_parenthesis : envelopes_in (codes ") (;\n`pragma protect begin\n") ≡ Err (error.Unbalanced 2)
unfolding is_utf8 chars encode_utf8 scan
after_a_stray_parenthesis = refl

-- each kind is counted by itself
closed_by_another_kind : envelopes_in (codes "( ];\n`pragma protect begin\n") ≡ Err (error.Unbalanced 2)
unfolding is_utf8 chars encode_utf8 scan
closed_by_another_kind = refl

-- what a pragma's line opens does not count
after_a_list : envelopes_in (codes "`pragma other (\n`pragma protect begin, end") ≡ only (envelope 5 7 [] ∷ [])
unfolding is_utf8 chars encode_utf8 scan
after_a_list = refl

over_a_module : envelopes_in (codes "`pragma protect begin\nmodule m;\n`pragma protect end\n") ≡ Err (error.Unbalanced 3)
unfolding is_utf8 chars encode_utf8 scan
over_a_module = refl

trailing_comma : envelopes_in (codes "`pragma protect begin,") ≡ Err (error.BadPragma 1)
unfolding is_utf8 chars encode_utf8 scan
trailing_comma = refl

-- the author that is in force at the begin counts
author_before :
    envelopes_in (codes "`pragma protect author=\"a\", begin, author=\"b\", end") ≡ only (envelope 6 12 (codes "a") ∷ [])
unfolding is_utf8 chars encode_utf8 scan
author_before = refl

before_an_else : envelopes_in (codes "if\n`pragma protect begin\nelse") ≡ Err (error.Unbalanced 2)
unfolding is_utf8 chars encode_utf8 scan
before_an_else = refl

-- a value alone and an unknown keyword do nothing
values_alone : envelopes_in (codes "`pragma protect 8'h1, \"s\", other=3") ≡ only []
unfolding is_utf8 chars encode_utf8 scan
values_alone = refl

-- lists are read to their end, and mean nothing to other keywords
nested_list : envelopes_in (codes "`pragma protect x=((1, y=\"s\"), z), w") ≡ only []
unfolding is_utf8 chars encode_utf8 scan
nested_list = refl

empty_list : envelopes_in (codes "`pragma protect x=()") ≡ Err (error.BadPragma 1)
unfolding is_utf8 chars encode_utf8 scan
empty_list = refl

author_in_a_list : envelopes_in (codes "`pragma protect author=(\"a\")") ≡ Err (error.BadPragma 1)
unfolding is_utf8 chars encode_utf8 scan
author_in_a_list = refl

-- a reset empties the author in force
reset :
    envelopes_in (codes "`pragma protect author=\"a\"\n`pragma reset x, protect\n`pragma protect begin, end") ≡ only (envelope 12 14 [] ∷ [])
unfolding is_utf8 chars encode_utf8 scan
reset = refl

reset_of_another :
    envelopes_in (codes "`pragma protect author=\"a\"\n`pragma reset x\n`pragma protect begin, end") ≡ only (envelope 10 12 (codes "a") ∷ [])
unfolding is_utf8 chars encode_utf8 scan
reset_of_another = refl

encrypted : envelopes_in (codes "`pragma protect data_public_key, ,") ≡ Err (error.NeedsDecryption 1)
unfolding is_utf8 chars encode_utf8 scan
encrypted = refl

-- ---- viewports

viewport :
    envelopes_in (codes "`pragma protect begin\n`pragma protect viewport=(object=\"m.s\", access=\"read+put\"), end")
    ≡ Ok (record {
      envelopes = envelope 2 17 [] ∷ [];
      viewports =
          record {
            envelope = 1;
            in_module = Some (codes "m");
            item = codes "s";
            rights = with_right right.Read (with_right right.Put (with_right right.List nothing));
            line = 2;
          }
          ∷ [];
    })
unfolding is_utf8 chars encode_utf8 scan
viewport = refl

outside : envelopes_in (codes "`pragma protect viewport=1") ≡ Err (error.ViewportOutside 1)
unfolding is_utf8 chars encode_utf8 scan
outside = refl

-- the two keywords stand in one order
other_order :
    envelopes_in (codes "`pragma protect begin, viewport=(access=\"read\", object=\"s\")") ≡ Err (error.BadPragma 1)
unfolding is_utf8 chars encode_utf8 scan
other_order = refl

three_names :
    envelopes_in (codes "`pragma protect begin, viewport=(object=\"a.b.c\", access=\"peek\")") ≡ Err (error.BadPragma 1)
unfolding is_utf8 chars encode_utf8 scan
three_names = refl

no_access :
    envelopes_in (codes "`pragma protect begin, viewport=(object=\"s\", access=\"\")") ≡ Err (error.BadAccess 1)
unfolding is_utf8 chars encode_utf8 scan
no_access = refl

-- ---- the envelope of a place

place_within : envelope_at (envelope 6 9 [] ∷ envelope 12 20 [] ∷ []) 13 ≡ 2
place_within = refl

place_between : envelope_at (envelope 6 9 [] ∷ envelope 12 20 [] ∷ []) 10 ≡ 0
place_between = refl

place_of_begin : envelope_at (envelope 6 9 [] ∷ envelope 12 20 [] ∷ []) 6 ≡ 0
place_of_begin = refl
