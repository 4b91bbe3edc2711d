-- What `==` says of two kinds of symbols.
use Rattle.std.proofs.Common.{◌≡◌, refl}
use denote.Enum.Declared.{tag_of}
use Rattle.vp_lex.specs.contracts.keyword.Keyword.{the_type as keyword_type}
use Rattle.vp_lex.specs.contracts.token.Punctuator.{the_type as punctuator_type}
use Rattle.vp_lex.specs.declared.keyword.Keyword.{Keyword}
use Rattle.vp_lex.specs.declared.keyword.Keyword.TheVariants as keyword
use Rattle.vp_lex.specs.declared.token.Punctuator.{Punctuator}
use Rattle.vp_lex.specs.declared.token.Punctuator.TheVariants as punctuator
use Rattle.vp_source.specs.contracts.symbol.SymbolKindPartialEq.TheImpl.{ghosts}
use Rattle.vp_source.specs.declared.symbol.SymbolKind.{SymbolKind}
use Rattle.vp_source.specs.declared.symbol.SymbolKind.TheVariants as symbol
use Rattle.vp_source.specs.Kinds.{keyword_number, punctuator_number, same_kind}

-- the numbers of the definitions are the variants' own
keyword_tag : (k : Keyword) → tag_of keyword_type k ≡ keyword_number k
keyword_tag keyword.Module = refl
keyword_tag _ = refl

punctuator_tag : (p : Punctuator) → tag_of punctuator_type p ≡ punctuator_number p
punctuator_tag punctuator.ArithmeticShiftLeft = refl
punctuator_tag _ = refl

-- `==` is the test of the definitions
pub same_is : (a b : SymbolKind) → ghosts.eq a b ≡ same_kind a b
same_is symbol.Name symbol.Name = refl
same_is (symbol.Number m) (symbol.Number n) = refl
same_is symbol.Base symbol.Base = refl
same_is symbol.String symbol.String = refl
same_is symbol.SystemName symbol.SystemName = refl
same_is symbol.OtherBase symbol.OtherBase = refl
same_is symbol.ShortBase symbol.ShortBase = refl
same_is symbol.Finish symbol.Finish = refl
same_is (symbol.Keyword j) (symbol.Keyword k) = rw (keyword_tag j, keyword_tag k) refl
same_is (symbol.Punctuator p) (symbol.Punctuator q) = rw (punctuator_tag p, punctuator_tag q) refl
same_is _ _ = refl
