-- What a seed tries, step by step.
use Rattle.std.proofs.Common.{◌≡◌, ◌∙◌, ℕ, zero, suc, Bool, true, false, if◌then◌else◌, List, [], ◌∷◌, ◌++◌, Option, Some, None, length, refl, sym, ap}
use Rattle.std.specs.Prelude.{option_map}
use Rattle.std.proofs.lemmas.List.{append-nil, append_assoc}
use Rattle.vp_elab.specs.declared.object.ObjectId.{ObjectId}
use Rattle.vp_sim.specs.States.{State, eligible, source_of, step}
use Rattle.vp_race.specs.Orders.{followed, is_over, reached, sources_from}
use Rattle.vp_race.specs.Search.{choice, next_number, tried_from}
use Rattle.vp_race.proofs.Designs.{one_end}

-- ---- orders that grow

followed_none : (choices : List ℕ) → followed None choices ≡ None
followed_none choices = refl

followed_nil : (o : Option State) → followed o [] ≡ o
followed_nil None = refl
followed_nil (Some s) = refl

-- one choice more
pub followed_more : (o : Option State) (choices : List ℕ) (s : State) (k : ℕ) → followed o choices ≡ Some s → followed o (choices ++ k ∷ []) ≡ reached (step s k)
followed_more None choices s k h = let n = followed_none choices in cc
followed_more (Some t) [] s k h = followed_nil (reached (step t k)) ∙ ap (λ (x : State). reached (step x k)) (one_end (Some t) t s refl h)
followed_more (Some t) (c ∷ choices) s k h = followed_more (reached (step t c)) choices s k h

sources_nil : (o : Option State) → sources_from o [] ≡ []
sources_nil None = refl
sources_nil (Some s) = refl

-- and one source more
pub sources_more : (o : Option State) (choices : List ℕ) (s : State) (k : ℕ) → followed o choices ≡ Some s → sources_from o (choices ++ k ∷ []) ≡ sources_from o choices ++ source_of s k ∷ []
sources_more None choices s k h = let n = followed_none choices in cc
sources_more (Some t) [] s k h =
    ap (λ (rest : List ObjectId). source_of t k ∷ rest) (sources_nil (reached (step t k)))
    ∙ ap (λ (x : State). source_of x k ∷ []) (one_end (Some t) t s refl h)
sources_more (Some t) (c ∷ choices) s k h = ap (λ (rest : List ObjectId). source_of t c ∷ rest) (sources_more (reached (step t c)) choices s k h)

-- ---- what is tried

tried_over : (n seed number : ℕ) (s : State) → is_over s ≡ true → tried_from n seed number (Some s) ≡ Some []
tried_over zero seed number s h = ap (λ (b : Bool). if b then Some [] else None) h
tried_over (suc n) seed number s h =
    ap (λ (b : Bool). if b then Some [] else option_map (λ ks. choice seed (next_number number) (length (eligible s)) ∷ ks) (tried_from n seed (next_number number) (reached (step s (choice seed (next_number number) (length (eligible s))))))) h

pub tried_on : (n seed number : ℕ) (s : State) (k : ℕ) → is_over s ≡ false → k ≡ choice seed (next_number number) (length (eligible s)) → tried_from (suc n) seed number (Some s) ≡ option_map (λ ks. k ∷ ks) (tried_from n seed (next_number number) (reached (step s k)))
tried_on n seed number s k h e =
    ap (λ (b : Bool). if b then Some [] else option_map (λ ks. choice seed (next_number number) (length (eligible s)) ∷ ks) (tried_from n seed (next_number number) (reached (step s (choice seed (next_number number) (length (eligible s))))))) h
    ∙ ap (λ (c : ℕ). option_map (λ ks. c ∷ ks) (tried_from n seed (next_number number) (reached (step s c)))) (sym e)

joined : (choices : List ℕ) (k : ℕ) (o : Option (List ℕ)) → option_map (λ ks. choices ++ ks) (option_map (λ ks. k ∷ ks) o) ≡ option_map (λ ks. (choices ++ k ∷ []) ++ ks) o
joined choices k None = refl
joined choices k (Some ks) = ap Some (sym (append_assoc choices (k ∷ []) ks))

-- the slot is over: what was chosen is what is tried
pub ends : (all : Option (List ℕ)) (choices : List ℕ) (n seed number : ℕ) (s : State) → all ≡ option_map (λ ks. choices ++ ks) (tried_from n seed number (Some s)) → is_over s ≡ true → all ≡ Some choices
ends all choices n seed number s h over =
    h ∙ ap (option_map (λ ks. choices ++ ks)) (tried_over n seed number s over) ∙ ap Some (append-nil choices)

-- no step is left
pub ends_late : (all : Option (List ℕ)) (choices : List ℕ) (seed number : ℕ) (s : State) (b : Bool) → all ≡ option_map (λ ks. choices ++ ks) (tried_from 0 seed number (Some s)) → is_over s ≡ b → all ≡ (if b then Some choices else None)
ends_late all choices seed number s true h over = ends all choices 0 seed number s h over
ends_late all choices seed number s false h over =
    h ∙ ap (λ (b : Bool). option_map (λ ks. choices ++ ks) (if b then Some [] else None)) over

-- one step more
pub goes_on : (all : Option (List ℕ)) (choices : List ℕ) (n seed number : ℕ) (s : State) (k : ℕ) → all ≡ option_map (λ ks. choices ++ ks) (tried_from (suc n) seed number (Some s)) → is_over s ≡ false → k ≡ choice seed (next_number number) (length (eligible s)) → all ≡ option_map (λ ks. (choices ++ k ∷ []) ++ ks) (tried_from n seed (next_number number) (reached (step s k)))
goes_on all choices n seed number s k h left e =
    h ∙ ap (option_map (λ ks. choices ++ ks)) (tried_on n seed number s k left e) ∙ joined choices k (tried_from n seed (next_number number) (reached (step s k)))

none_tried : (n seed number : ℕ) (choices : List ℕ) → option_map (λ ks. choices ++ ks) (tried_from n seed number None) ≡ None
none_tried zero seed number choices = refl
none_tried (suc n) seed number choices = refl

-- a step that is refused
pub stops : (all : Option (List ℕ)) (choices : List ℕ) (n seed number : ℕ) (s : State) (k : ℕ) → all ≡ option_map (λ ks. choices ++ ks) (tried_from (suc n) seed number (Some s)) → is_over s ≡ false → k ≡ choice seed (next_number number) (length (eligible s)) → reached (step s k) ≡ None → all ≡ None
stops all choices n seed number s k h left e none =
    goes_on all choices n seed number s k h left e
    ∙ ap (λ (o : Option State). option_map (λ ks. (choices ++ k ∷ []) ++ ks) (tried_from n seed (next_number number) o)) none
    ∙ none_tried n seed (next_number number) (choices ++ k ∷ [])
