-- A list of a pragma's line, a token after the other.
use Rattle.std.proofs.Common.{◌≡◌, ◌∙◌, ℕ, suc, List, [], ◌∷◌, Option, None, length, sym, ap}
use Rattle.std.proofs.lemmas.List.FromFn.{length-enumerate_from}
use Rattle.vp_pragma.specs.declared.line.Rest.{Rest}
use Rattle.vp_pragma.specs.declared.lists.Due.{Due}
use Rattle.vp_pragma.specs.declared.lists.Move.{Move}
use Rattle.vp_pragma.specs.Lists.{moved, next, scan}
use Rattle.vp_pragma.specs.Reading.{placed}
use Rattle.vp_pragma.specs.TokenClasses.{Placed, class_of}

-- one token less is left
pub one_less : (left others : Rest) (p : Placed) → placed left ≡ p ∷ placed others → length left.tokens.now ≡ suc (length others.tokens.now)
one_less left others p split =
    sym (length-enumerate_from left.at left.tokens.now) ∙ ap length split ∙ ap suc (length-enumerate_from others.at others.tokens.now)

-- what follows a list is what its first token's move leads to
pub scanned :
    (d : Due) (depth : ℕ) (ps qs : List Placed) (p : Placed) (move : Option Move) → ps ≡ p ∷ qs → move ≡ next d (class_of p.1.kind)
    → scan d depth ps ≡ moved depth qs (λ e n. scan e n qs) move
unfolding scan
scanned d depth ps qs p move split is =
    ap (scan d depth) split ∙ ap (moved depth qs (λ (e : Due) (n : ℕ). scan e n qs)) (sym is)

-- what the move of the first token leads to is what the whole list leads to
pub leads_on :
    (d : Due) (depth : ℕ) (ps qs : List Placed) (p : Placed) (move : Option Move) (whole : Option (List Placed)) → ps ≡ p ∷ qs → move ≡ next d (class_of p.1.kind)
    → scan d depth ps ≡ whole → moved depth qs (λ e n. scan e n qs) move ≡ whole
leads_on d depth ps qs p move whole split is leads = sym (scanned d depth ps qs p move split is) ∙ leads

-- no list ends where no token is left
pub nothing_left : (d : Due) (depth : ℕ) (ps : List Placed) → ps ≡ [] → None ≡ scan d depth ps
unfolding scan
nothing_left d depth ps none = ap (scan d depth) (sym none)
