-- The lines that are written, one after the other.
use Rattle.std.proofs.Common.{◌≡◌, ◌∙◌, ℕ, zero, suc, ◌+◌, ◌<◌, ◌≤◌, List, [], ◌∷◌, ◌++◌, length, map, get_or, slice_get, take, Option, Some, None, Bool, true, false, filter, refl, sym, ap, arith, append_assoc}
use Rattle.std.specs.Prelude.{codes, if◌then◌else◌}
use Rattle.std.specs.List.{enumerate_from, flat_map, join_by, repeat}
use Rattle.std.specs.Option.{option_map_or}
use Rattle.std.proofs.lemmas.List.{append-nil, length-append, length-map, length-take, map-append, take_more}
use Rattle.std.proofs.lemmas.List.Elements.{filter-append}
use Rattle.std.proofs.lemmas.List.Concat.{flat_map-append}
use Rattle.vp_pragma.specs.declared.rights.Right.{Right}
use Rattle.vp_pragma.specs.Rights.{RightSet, has, name_of}
use Rattle.vp_policy.specs.declared.grant.GrantedBy.{GrantedBy}
use Rattle.vp_policy.specs.declared.view.SeenEnvelope.{SeenEnvelope}
use Rattle.vp_policy.specs.declared.view.SeenObject.{SeenObject}
use Rattle.vp_policy.specs.SeenObjects.{envelope_shown, node_after, nodes_from, own_step, path_to}
use Rattle.vp_policy.specs.View.{SeenNode, SeenStep}
use Rattle.vp_replay.specs.OutlinedObjects.{object_line, steps_above, steps_to}
use Rattle.vp_replay.specs.Outline.{envelope_line, every_right, line_at, line_of, node_line, node_words, words_text}

-- ---- words

-- words after words
words_text-append : (a b : List (List ℕ)) → words_text (a ++ b) ≡ words_text a ++ words_text b
words_text-append a b = flat_map-append (λ (word : List ℕ). 32 ∷ word) a b

-- ---- envelopes

-- a number more
numbered_same : (n m : ℕ) (e : List ℕ × GrantedBy) → m ≡ n → envelope_line (n, e) ≡ envelope_line (m, e)
numbered_same n m e is = ap (λ (k : ℕ). envelope_line (k, e)) (sym is)

-- one envelope more
pub envelopes_more : (n m : ℕ) (es : List (List ℕ × GrantedBy)) (e : List ℕ × GrantedBy) → m ≡ n + length es
    → flat_map envelope_line (enumerate_from n (es ++ e ∷ []))
    ≡ flat_map envelope_line (enumerate_from n es) ++ envelope_line (m, e)
envelopes_more n m [] e is =
    let same : m ≡ n = omega arith in append-nil (envelope_line (n, e)) ∙ numbered_same n m e same
envelopes_more n m (x ∷ es) e is =
    let further : m ≡ (n + 1) + length es = omega arith in
    ap (λ (text : List ℕ). envelope_line (n, x) ++ text) (envelopes_more (n + 1) m es e further)
    ∙ sym (append_assoc (envelope_line (n, x)) (flat_map envelope_line (enumerate_from (n + 1) es)) (envelope_line (m, e)))

-- one turn of the loop over envelopes
pub envelopes_written :
    (es : List SeenEnvelope) (e : SeenEnvelope) (i : ℕ) (before was now : List ℕ) → i < length es → e ≡ get_or es i e
    → was ≡ before ++ flat_map envelope_line (enumerate_from 1 (map envelope_shown (take i es))) → now ≡ was ++ envelope_line (i + 1, envelope_shown e)
    → now ≡ before ++ flat_map envelope_line (enumerate_from 1 (map envelope_shown (take (i + 1) es)))
envelopes_written es e i before was now within here so_far pushed =
    let shown : List (List ℕ × GrantedBy) = map envelope_shown (take i es) in
    let lines : List ℕ = flat_map envelope_line (enumerate_from 1 shown) in
    let long : i + 1 ≡ 1 + length shown = let a = length-map (take i es) envelope_shown in let b = length-take i es in omega arith in
    let more : map envelope_shown (take (i + 1) es) ≡ shown ++ envelope_shown e ∷ [] =
    ap (map envelope_shown) (take_more es i e within ∙ ap (λ (x : SeenEnvelope). take i es ++ x ∷ []) (sym here)) ∙ map-append envelope_shown (take i es) (e ∷ []) in
    pushed ∙ ap (λ (x : List ℕ). x ++ envelope_line (i + 1, envelope_shown e)) so_far
    ∙ append_assoc before lines (envelope_line (i + 1, envelope_shown e))
    ∙ ap (λ (x : List ℕ). before ++ x)
    (sym (ap (λ (l : List (List ℕ × GrantedBy)). flat_map envelope_line (enumerate_from 1 l)) more
    ∙ envelopes_more 1 (i + 1) shown (envelope_shown e) long))

-- ---- objects

-- the line at a path that ends with a step
line_at-append : (node : SeenNode) (above : List SeenStep) (s : SeenStep) → line_at node (above ++ s ∷ []) ≡ repeat (length above) (codes "  ") ++ line_of (node_words node s)
line_at-append node [] s = refl
line_at-append node (t ∷ []) s = refl
line_at-append node (t ∷ u ∷ above) s = ap (λ (x : List ℕ). codes "  " ++ x) (line_at-append node (u ∷ above) s)

-- how many steps are above an object, by the path to the one in which it is declared
steps_there : (nodes : List SeenNode) (n : ℕ) → get_or (steps_to nodes) n 0 ≡ length (option_map_or (λ (node : SeenNode). node.path) (slice_get nodes n) [])
steps_there [] n = refl
steps_there (node ∷ nodes) zero = refl
steps_there (node ∷ nodes) (suc n) = steps_there nodes n

steps_are : (nodes : List SeenNode) (parent : Option ℕ) → steps_above (steps_to nodes) parent ≡ length (path_to nodes parent)
steps_are nodes None = refl
steps_are nodes (Some n) = steps_there nodes n

-- the line for an object after these
line_after : (nodes : List SeenNode) (o : SeenObject) → node_line (node_after nodes o) ≡ object_line (steps_above (steps_to nodes) o.parent) o
line_after nodes o =
    line_at-append (node_after nodes o) (path_to nodes o.parent) (own_step o)
    ∙ ap (λ (n : ℕ). object_line n o) (sym (steps_are nodes o.parent))

-- one object more
nodes_from-append : (nodes : List SeenNode) (os : List SeenObject) (o : SeenObject) → nodes_from nodes (os ++ o ∷ []) ≡ nodes_from nodes os ++ node_after (nodes_from nodes os) o ∷ []
nodes_from-append nodes [] o = refl
nodes_from-append nodes (x ∷ os) o = nodes_from-append (nodes ++ node_after nodes x ∷ []) os o

-- after a text the lines for these objects are written, and so many steps lead to each, at most one for each of so many objects
pub record IsWritten (os : List SeenObject) (before text : List ℕ) (steps : List ℕ) (count : ℕ) : Type 0 where
  pub written : text ≡ before ++ flat_map node_line (nodes_from [] os)
  pub steps_are : steps ≡ steps_to (nodes_from [] os)
  pub few : (n : ℕ) → get_or steps n 0 ≤ count

-- what is at most so much stays so after one more that is
few_more : (xs : List ℕ) (x high : ℕ) → ((n : ℕ) → get_or xs n 0 ≤ high) → x ≤ high → (n : ℕ) → get_or (xs ++ x ∷ []) n 0 ≤ high
few_more [] x high few small zero = small
few_more [] x high few small (suc n) = few n
few_more (y ∷ xs) x high few small zero = few 0
few_more (y ∷ xs) x high few small (suc n) = few_more xs x high (λ k. few (suc k)) small n

-- at most so many steps are above an object
pub few_above : (steps : List ℕ) (parent : Option ℕ) (high : ℕ) → ((n : ℕ) → get_or steps n 0 ≤ high) → steps_above steps parent ≤ high
few_above steps None high few = omega arith
few_above steps (Some n) high few = few n

module _ (os : List SeenObject) (o : SeenObject) (i above : ℕ) (within : i < length os) (here : o ≡ get_or os i o) where
  -- the nodes so far
  abbrev so_far : List SeenNode
  so_far = nodes_from [] (take i os)

  -- that of this turn
  abbrev node : SeenNode
  node = node_after so_far o

  nodes_more : nodes_from [] (take (i + 1) os) ≡ so_far ++ node ∷ []
  nodes_more =
      ap (nodes_from []) (take_more os i o within ∙ ap (λ (x : SeenObject). take i os ++ x ∷ []) (sym here))
      ∙ nodes_from-append [] (take i os) o

  lines_more : flat_map node_line (nodes_from [] (take (i + 1) os)) ≡ flat_map node_line so_far ++ node_line node
  lines_more =
      ap (flat_map node_line) nodes_more ∙ flat_map-append node_line so_far (node ∷ [])
      ∙ ap (λ (x : List ℕ). flat_map node_line so_far ++ x) (append-nil (node_line node))

  steps_more : above ≡ steps_above (steps_to so_far) o.parent → steps_to (nodes_from [] (take (i + 1) os)) ≡ steps_to so_far ++ (above + 1) ∷ []
  steps_more is =
      let long = length-append (path_to so_far o.parent) (own_step o ∷ []) in
      let same = steps_are so_far o.parent in
      let steps : length node.path ≡ above + 1 = omega arith in
      ap steps_to nodes_more ∙ map-append (λ (n : SeenNode). length n.path) so_far (node ∷ [])
      ∙ ap (λ (n : ℕ). steps_to so_far ++ n ∷ []) steps

  -- one turn of the loop
  pub written_more : (before was now steps : List ℕ) → IsWritten (take i os) before was steps i → above ≡ steps_above steps o.parent → now ≡ was ++ object_line above o → IsWritten (take (i + 1) os) before now (steps ++ (above + 1) ∷ []) (i + 1)
  written_more before was now steps w is pushed =
      let above_is : above ≡ steps_above (steps_to so_far) o.parent = is ∙ ap (λ (s : List ℕ). steps_above s o.parent) w.steps_are in
      let own : object_line above o ≡ node_line node = ap (λ (n : ℕ). object_line n o) above_is ∙ sym (line_after so_far o) in
      let high = few_above steps o.parent i w.few in
      record {
        written =
            pushed ∙ ap (λ (x : List ℕ). was ++ x) own ∙ ap (λ (x : List ℕ). x ++ node_line node) w.written
            ∙ append_assoc before (flat_map node_line so_far) (node_line node) ∙ ap (λ (x : List ℕ). before ++ x) (sym lines_more);
        steps_are = ap (λ (s : List ℕ). s ++ (above + 1) ∷ []) w.steps_are ∙ sym (steps_more above_is);
        few = few_more steps (above + 1) (i + 1) (λ n. let few = w.few n in omega arith) (omega arith);
      }

-- ---- one line

-- texts after one another
following : (b i n t w d a e c z : List ℕ) → ((((((((b ++ i) ++ n) ++ t) ++ w) ++ d) ++ a) ++ e) ++ c) ++ z ≡ b ++ (i ++ (n ++ ((t ++ (w ++ (d ++ (a ++ (e ++ c))))) ++ z)))
following b i n t w d a e c z = simp append_assoc refl

-- the texts when one after the other is added: an indentation, the words of an object, and a newline
pub record AddsWords (before indentation name type access : List ℕ) (width definition envelope closed : List (List ℕ)) (text : List ℕ) : Type 0 where
  pub after_indentation : List ℕ
  pub after_name : List ℕ
  pub after_type : List ℕ
  pub after_width : List ℕ
  pub after_definition : List ℕ
  pub after_access : List ℕ
  pub after_envelope : List ℕ
  pub after_closed : List ℕ
  pub indents : after_indentation ≡ before ++ indentation
  pub names : after_name ≡ after_indentation ++ name
  pub types : after_type ≡ after_name ++ 32 ∷ type
  pub sizes : after_width ≡ after_type ++ words_text width
  pub defines : after_definition ≡ after_width ++ words_text definition
  pub opens : after_access ≡ after_definition ++ 32 ∷ access
  pub envelopes : after_envelope ≡ after_access ++ words_text envelope
  pub closes : after_closed ≡ after_envelope ++ words_text closed
  pub ends : text ≡ after_closed ++ 10 ∷ []

-- then the line stands after what was there
pub line_written :
    (before indentation name type access : List ℕ) (width definition envelope closed : List (List ℕ)) (text : List ℕ)
    → AddsWords before indentation name type access width definition envelope closed text
    → text ≡ before ++ (indentation ++ line_of (name ∷ type ∷ (width ++ (definition ++ (access ∷ (envelope ++ closed))))))
line_written before indentation name type access width definition envelope closed text h =
    let last : words_text (access ∷ (envelope ++ closed)) ≡ 32 ∷ access ++ (words_text envelope ++ words_text closed) =
    ap (λ (x : List ℕ). 32 ∷ access ++ x) (words_text-append envelope closed) in
    let words : words_text (width ++ (definition ++ (access ∷ (envelope ++ closed)))) ≡ words_text width ++ (words_text definition ++ (32 ∷ access ++ (words_text envelope ++ words_text closed))) =
    words_text-append width (definition ++ (access ∷ (envelope ++ closed)))
    ∙ ap (λ (x : List ℕ). words_text width ++ x) (words_text-append definition (access ∷ (envelope ++ closed)) ∙ ap (λ (x : List ℕ). words_text definition ++ x) last) in
    h.ends
    ∙ ap (λ (x : List ℕ). x ++ 10 ∷ []) (h.closes
    ∙ ap (λ (x : List ℕ). x ++ words_text closed) (h.envelopes
    ∙ ap (λ (x : List ℕ). x ++ words_text envelope) (h.opens
    ∙ ap (λ (x : List ℕ). x ++ 32 ∷ access) (h.defines
    ∙ ap (λ (x : List ℕ). x ++ words_text definition) (h.sizes
    ∙ ap (λ (x : List ℕ). x ++ words_text width) (h.types
    ∙ ap (λ (x : List ℕ). x ++ 32 ∷ type) (h.names
    ∙ ap (λ (x : List ℕ). x ++ name) h.indents)))))))
    ∙ following before indentation name (32 ∷ type) (words_text width) (words_text definition) (32 ∷ access) (words_text envelope) (words_text closed) (10 ∷ [])
    ∙ ap (λ (x : List ℕ). before ++ (indentation ++ (name ++ ((32 ∷ type ++ x) ++ 10 ∷ [])))) (sym words)

-- ---- rights

-- joined pieces, by what they give
further-map : {X : Type 0} (f : X → List ℕ) (between : List ℕ) (xs : List X) → flat_map (λ x. between ++ f x) xs ≡ flat_map (λ piece. between ++ piece) (map f xs)
further-map f between [] = refl
further-map f between (x ∷ xs) = ap (λ (rest : List ℕ). (between ++ f x) ++ rest) (further-map f between xs)

join_by-map : {X : Type 0} (f : X → List ℕ) (between : List ℕ) (xs : List X) → join_by f between xs ≡ join_by (λ piece. piece) between (map f xs)
join_by-map f between [] = refl
join_by-map f between (x ∷ xs) = ap (λ (rest : List ℕ). f x ++ rest) (further-map f between xs)

-- pieces that give the same are joined alike
pub joined_same : {X Y : Type 0} (f : X → List ℕ) (g : Y → List ℕ) (between : List ℕ) (xs : List X) (ys : List Y) → map f xs ≡ map g ys → join_by f between xs ≡ join_by g between ys
joined_same f g between xs ys h =
    join_by-map f between xs ∙ ap (join_by (λ (piece : List ℕ). piece) between) h ∙ sym (join_by-map g between ys)

module _ (his : RightSet) (i : ℕ) (other : Right) (within : i < length every_right) where
  -- the right of this turn
  abbrev here : Right
  here = get_or every_right i other

  -- the names of the first so many rights, of those in the set
  abbrev names_at : ℕ → List (List ℕ)
  names_at n = map name_of (filter (λ (r : Right). has r his) (take n every_right))

  -- the name of a right, if it is in the set
  abbrev name_if : Bool → List (List ℕ)
  name_if in_set = map name_of (if in_set then here ∷ [] else [])

  names_more : names_at (i + 1) ≡ names_at i ++ name_if (has here his)
  names_more =
      ap (λ (rs : List Right). map name_of (filter (λ (r : Right). has r his) rs)) (take_more every_right i other within)
      ∙ ap (map name_of) (filter-append (λ (r : Right). has r his) (take i every_right) (here ∷ []))
      ∙ map-append name_of (filter (λ (r : Right). has r his) (take i every_right)) (filter (λ (r : Right). has r his) (here ∷ []))

  -- a right that is in the set
  pub name_more : (names now : List (List ℕ)) (name : List ℕ) → has here his ≡ true → names ≡ names_at i → now ≡ names ++ name ∷ [] → name ≡ name_of here → now ≡ names_at (i + 1)
  name_more names now name in_set so_far pushed is =
      pushed ∙ ap (λ (ns : List (List ℕ)). ns ++ name ∷ []) so_far ∙ ap (λ (n : List ℕ). names_at i ++ n ∷ []) is
      ∙ sym (names_more ∙ ap (λ (b : Bool). names_at i ++ name_if b) in_set)

  -- one that is not
  pub no_name_more : (names : List (List ℕ)) → has here his ≡ false → names ≡ names_at i → names ≡ names_at (i + 1)
  no_name_more names out so_far =
      so_far ∙ sym (append-nil (names_at i)) ∙ sym (names_more ∙ ap (λ (b : Bool). names_at i ++ name_if b) out)
