use Rattle.std.proofs.Common.{rules, ◌≡◌, ◌∙◌, ◌+◌, ◌++◌, ◌<◌, ap, sym, subst, ◌∷◌, drop, length, take}
use Rattle.std.proofs.lemmas.List.{take_rest}
use Rattle.vp_text.specs.Texts.{parts}
use Rattle.vp_text.proofs.Parts.{split_at, split_part, whole_part}
use Rattle.vp_text.proofs.part.first_piece.Goals as goal

pub returns-then-end-bytes-clause-parts : goal.returns-then-end-bytes-clause-parts
returns-then-end-bytes-clause-parts c =
    let bytes = c.args.bytes.now in
    let end = c.first_place-end.result in
    let place = c.first_place-end.ensures.place in
    let within : end < length bytes = search rules in
    split_part c.args.separator bytes (subst (λ n. n < length bytes) place within)
    ∙ ap (λ n. take n bytes ∷ parts c.args.separator (drop (n + 1) bytes)) (sym place)
    ∙ ap (λ r. take end bytes ∷ parts c.args.separator r) (sym (take_rest bytes (end + 1)))

pub returns-then-end-bytes-clause-whole : goal.returns-then-end-bytes-clause-whole
returns-then-end-bytes-clause-whole c =
    let bytes = c.args.bytes.now in
    let end = c.first_place-end.result in
    let within : end < length bytes = search rules in
    split_at bytes end within
    ∙ ap (λ b. take end bytes ++ b ∷ drop (end + 1) bytes) (c.first_place-end.ensures.found within)
    ∙ ap (λ r. take end bytes ++ c.args.separator ∷ r) (sym (take_rest bytes (end + 1)))

pub returns-else-end-bytes-clause-parts : goal.returns-else-end-bytes-clause-parts
returns-else-end-bytes-clause-parts c =
    let all : c.first_place-end.result ≡ length c.args.bytes.now = search rules in
    whole_part c.args.separator c.args.bytes.now (sym c.first_place-end.ensures.place ∙ all)
