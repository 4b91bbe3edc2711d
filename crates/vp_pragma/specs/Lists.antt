-- What follows a list of a pragma's line, by one pass over its tokens: only how deep lists nest is kept.
use Rattle.std.specs.Prelude.{ℕ, zero, suc, List, [], ◌∷◌, Option, Some, None}
use Rattle.vp_pragma.specs.declared.lists.Due.{Due}
use Rattle.vp_pragma.specs.declared.lists.Due.TheVariants as due
use Rattle.vp_pragma.specs.declared.lists.Move.{Move}
use Rattle.vp_pragma.specs.declared.lists.Move.TheVariants.{To, Opens, Closes}
use Rattle.vp_pragma.specs.declared.token_class.TokenClass.{TokenClass}
use Rattle.vp_pragma.specs.declared.token_class.TokenClass.TheVariants as token_class
use Rattle.vp_pragma.specs.TokenClasses.{Placed, class_of}

-- what comes next where an expression is due
abbrev pub next_expression : TokenClass → Option Move
next_expression token_class.Word = Some (To due.AfterWord)
next_expression token_class.Text = Some (To due.After)
next_expression token_class.Number = Some (To due.AfterNumber)
next_expression token_class.Base = Some (To due.After)
next_expression token_class.Opening = Some Opens
next_expression _ = None

-- what comes next where a value is due
abbrev pub next_value : TokenClass → Option Move
next_value token_class.Word = Some (To due.After)
next_value token_class.Text = Some (To due.After)
next_value token_class.Number = Some (To due.AfterNumber)
next_value token_class.Base = Some (To due.After)
next_value token_class.Opening = Some Opens
next_value _ = None

-- what comes next after an expression
abbrev pub next_after : TokenClass → Option Move
next_after token_class.Comma = Some (To due.Expression)
next_after token_class.Closing = Some Closes
next_after _ = None

-- what comes next after a word
abbrev pub next_after_word : TokenClass → Option Move
next_after_word token_class.Equals = Some (To due.Value)
next_after_word s = next_after s

-- what comes next after a number
abbrev pub next_after_number : TokenClass → Option Move
next_after_number token_class.Base = Some (To due.After)
next_after_number s = next_after s

-- what comes next, where a token has this sign; nothing where none such may stand
abbrev pub next : Due → TokenClass → Option Move
next due.Expression s = next_expression s
next due.Value s = next_value s
next due.AfterWord s = next_after_word s
next due.AfterNumber s = next_after_number s
next due.After s = next_after s

-- what follows, in a list within so many others, after a move: the list that is left may be the outermost
abbrev pub moved : ℕ → List Placed → (Due → ℕ → Option (List Placed)) → Option Move → Option (List Placed)
moved depth ps more None = None
moved depth ps more (Some (To d)) = more d depth
moved depth ps more (Some Opens) = more due.Expression (suc depth)
moved zero ps more (Some Closes) = Some ps
moved (suc depth) ps more (Some Closes) = more due.After depth

-- what follows a list that lies within so many others, up to the end of the outermost
unfoldable pub scan : Due → ℕ → List Placed → Option (List Placed)
scan d depth [] = None
scan d depth (p ∷ ps) = moved depth ps (λ e n. scan e n ps) (next d (class_of p.1.kind))
