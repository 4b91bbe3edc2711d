use Rattle.std.proofs.Common.{◌≡◌, ◌∙◌, ap, refl, rules, arith, ℕ, List}
use Rattle.std.specs.Str.{chars, encode_utf8_all}
use Rattle.std.proofs.lemmas.List.{take_rest, length-drop}
use Rattle.std.proofs.lemmas.Str.{chars_from_encodes}
use Rattle.vp_lex.specs.Strings.{value_after, between_quotes}
use Rattle.vp_lex.proofs.StringLaws.{value_more, encoded_more, encoded_all}
use Rattle.vp_lex.proofs.string.string_value.Goals as goal

pub loop-at-preserved : goal.loop-at-preserved
loop-at-preserved c =
    let inner : List ℕ = c.between_quotes-inner.result.now in
    let rest = take_rest inner c.loop-at.at in
    let its = rw rest at c.element-character.ensures.value in
    let within = rw rest at c.element-character.ensures.within in
    let remainder = value_more inner c.loop-at.at _ c.element-character.result c.loop-at-test.true its refl in
    record {
      within = omega (arith, within, length-drop c.loop-at.at inner);
      so_far = encoded_more _ _ _ _ _ _ c.loop-at.invariant.so_far remainder c.in_ok-push.ensures.bytes;
    }

pub returns : goal.returns
returns c =
    let characters : c.in_ok-characters.characters.items ≡ chars c.args.text.now = search (rules, chars_from_encodes) in
    let inner : c.between_quotes-inner.result.now ≡ between_quotes (chars c.args.text.now) =
    c.between_quotes-inner.ensures ∙ ap between_quotes (c.deref.ensures.value ∙ characters) in
    let all = encoded_all _ _ c.between_quotes-inner.result.now c.loop-at.at c.loop-at-test.false c.loop-at.invariant.so_far in
    record { ok = all ∙ ap (λ (x : List ℕ). encode_utf8_all (value_after 0 x)) inner }
