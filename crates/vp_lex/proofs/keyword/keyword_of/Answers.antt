use Rattle.std.proofs.Common.{◌≡◌, ◌<◌, ◌⊎◌, inl, inr, length, ◌∙◌, arith}
use Rattle.vp_lex.proofs.WordLaws.{keyword_by_length, no_keyword}
use Rattle.vp_lex.proofs.keyword.keyword_of.Goals as goal
use Rattle.vp_lex.proofs.keyword.keyword_of.Goals.{then-word-lt2-via-then-word-lt2, then-word-lt2-via-else-word-lt2+then-word-gt10}

pub returns-then-word-lt2 : goal.returns-then-word-lt2
returns-then-word-lt2 c =
    let out : (length c.args.word.now < 2) ⊎ (10 < length c.args.word.now) =
    elim c.then-word-lt2.branch [
      | then-word-lt2-via-then-word-lt2 w ↦ inl w.if-word-lt2.true
      | then-word-lt2-via-else-word-lt2+then-word-gt10 w ↦ inr w.if-word-gt10.true
    ] in
    no_keyword c.args.word.now out

pub returns-in-2 : goal.returns-in-2
returns-in-2 c = c.beside.ensures ∙ keyword_by_length c.args.word.now 2 c.in-2.is

pub returns-in-3 : goal.returns-in-3
returns-in-3 c = c.beside-in-3.ensures ∙ keyword_by_length c.args.word.now 3 c.in-3.is

pub returns-in-4 : goal.returns-in-4
returns-in-4 c = c.beside-in-4.ensures ∙ keyword_by_length c.args.word.now 4 c.in-4.is

pub returns-in-5 : goal.returns-in-5
returns-in-5 c = c.beside-in-5.ensures ∙ keyword_by_length c.args.word.now 5 c.in-5.is

pub returns-in-6 : goal.returns-in-6
returns-in-6 c = c.beside-in-6.ensures ∙ keyword_by_length c.args.word.now 6 c.in-6.is

pub returns-in-7 : goal.returns-in-7
returns-in-7 c = c.beside-in-7.ensures ∙ keyword_by_length c.args.word.now 7 c.in-7.is

pub returns-in-8 : goal.returns-in-8
returns-in-8 c = c.beside-in-8.ensures ∙ keyword_by_length c.args.word.now 8 c.in-8.is

pub returns-in-9 : goal.returns-in-9
returns-in-9 c = c.beside-in-9.ensures ∙ keyword_by_length c.args.word.now 9 c.in-9.is

pub returns-in_default : goal.returns-in_default
returns-in_default c =
    let ten : length c.args.word.now ≡ 10 = omega arith in
    c.beside-in_default.ensures ∙ keyword_by_length c.args.word.now 10 ten
