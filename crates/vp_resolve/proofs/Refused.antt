-- Which refusal of a design holds, by the places that are found.
use Rattle.std.proofs.Common.{◌≡◌, ◌∙◌, ℕ, Option, Some, None, ap, sym}
use Rattle.vp_source.specs.Places.{line_at}
use Rattle.vp_elab.specs.Built.{Elaborated}
use Rattle.vp_resolve.specs.declared.error.ExprError.{ExprError}
use Rattle.vp_resolve.specs.declared.error.ExprError.TheVariants.{TooWide, SignedCompare, BadSelect}
use Rattle.vp_resolve.specs.Checks.{first_bad, first_signed, first_wide, refused_at, refusal_of}

-- what is refused for a selection
abbrev refused_bad : Elaborated → Option ℕ → Option ExprError
refused_bad d place = refused_at d.source (λ line. BadSelect line) place None

-- what is refused for a comparison, or after that
abbrev refused_signed : Elaborated → Option ℕ → Option ExprError
refused_signed d place = refused_at d.source (λ line. SignedCompare line) place (refused_bad d (first_bad d))

-- what is refused for a width, or after that
abbrev refused_wide : Elaborated → Option ℕ → Option ExprError
refused_wide d place = refused_at d.source (λ line. TooWide line) place (refused_signed d (first_signed d))

refused_is : (d : Elaborated) (wide : Option ℕ) → wide ≡ first_wide d → refusal_of d ≡ refused_wide d wide
unfolding refusal_of
refused_is d wide h = ap (refused_wide d) (sym h)

-- the refusal where nothing is too wide
pub after_wide : (d : Elaborated) (wide signed : Option ℕ) → wide ≡ first_wide d → wide ≡ None → signed ≡ first_signed d → refusal_of d ≡ refused_signed d signed
after_wide d wide signed h none k = refused_is d wide h ∙ ap (refused_wide d) none ∙ ap (refused_signed d) (sym k)

-- the refusal where no comparison is at fault either
pub after_signed : (d : Elaborated) (wide signed bad : Option ℕ) → wide ≡ first_wide d → wide ≡ None → signed ≡ first_signed d → signed ≡ None → bad ≡ first_bad d → refusal_of d ≡ refused_bad d bad
after_signed d wide signed bad h none k no_signed l =
    after_wide d wide signed h none k ∙ ap (refused_signed d) no_signed ∙ ap (refused_bad d) (sym l)

pub signed_refused : (d : Elaborated) (wide signed : Option ℕ) (place line : ℕ) → wide ≡ first_wide d → wide ≡ None → signed ≡ first_signed d → signed ≡ Some place → line ≡ line_at d.source place → refusal_of d ≡ Some (SignedCompare line)
signed_refused d wide signed place line h none k there at =
    after_wide d wide signed h none k ∙ ap (refused_signed d) there ∙ ap (λ (n : ℕ). Some (SignedCompare n)) (sym at)

pub bad_refused : (d : Elaborated) (wide signed bad : Option ℕ) (place line : ℕ) → wide ≡ first_wide d → wide ≡ None → signed ≡ first_signed d → signed ≡ None → bad ≡ first_bad d → bad ≡ Some place → line ≡ line_at d.source place → refusal_of d ≡ Some (BadSelect line)
bad_refused d wide signed bad place line h none k no_signed l there at =
    after_signed d wide signed bad h none k no_signed l ∙ ap (refused_bad d) there ∙ ap (λ (n : ℕ). Some (BadSelect n)) (sym at)

pub none_refused : (d : Elaborated) (wide signed bad : Option ℕ) → wide ≡ first_wide d → wide ≡ None → signed ≡ first_signed d → signed ≡ None → bad ≡ first_bad d → bad ≡ None → refusal_of d ≡ None
none_refused d wide signed bad h none k no_signed l no_bad =
    after_signed d wide signed bad h none k no_signed l ∙ ap (refused_bad d) no_bad
