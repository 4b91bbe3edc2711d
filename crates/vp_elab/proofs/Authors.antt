-- The authors of envelopes.
use Rattle.std.proofs.Common.{◌≡◌, ℕ, zero, suc, List, [], ◌∷◌, map, slice_get, slice_index_or, refl}
use Rattle.std.specs.Option.{option_map_or}
use Rattle.vp_pragma.specs.declared.envelope.Envelope.{Envelope}
use Rattle.vp_pragma.specs.Envelopes.{author_of}
use Rattle.vp_elab.specs.Tree.{author_in}

author_at : (envelopes : List Envelope) (n : ℕ) → option_map_or (λ (e : Envelope). e.author) (slice_get envelopes n) [] ≡ slice_index_or (map (λ (e : Envelope). e.author) envelopes) n []
author_at [] n = refl
author_at (e ∷ es) zero = refl
author_at (e ∷ es) (suc n) = author_at es n

-- the author of an envelope is that of its number in the tree
pub author_is : (envelopes : List Envelope) (n : ℕ) → author_of envelopes n ≡ author_in (map (λ (e : Envelope). e.author) envelopes) n
author_is envelopes zero = refl
author_is envelopes (suc n) = author_at envelopes n
