-- What a user sees of a design, as an indented text (profile).
use Rattle.std.specs.Prelude.{ℕ, ◌==◌, Bool, if◌then◌else◌, List, [], ◌∷◌, ◌++◌, map, filter, codes, decimal}
use Rattle.std.specs.List.{enumerate_from, flat_map, join_by}
use Rattle.std.specs.Option.{option_to_list}
use Rattle.serde_json.specs.Data.{string}
use Rattle.serde_json.specs.Written.{compact_text}
use Rattle.vp_pragma.specs.declared.rights.Right.{Right}
use Rattle.vp_pragma.specs.declared.rights.Right.TheVariants as right
use Rattle.vp_pragma.specs.Rights.{RightSet, has, name_of}
use Rattle.vp_elab.specs.declared.object.Kind.{Kind}
use Rattle.vp_elab.specs.Tree.{has_value, type_name}
use Rattle.vp_policy.specs.declared.grant.GrantedBy.{GrantedBy}
use Rattle.vp_policy.specs.declared.grant.GrantedBy.TheVariants as by
use Rattle.vp_policy.specs.View.{SeenNode, SeenStep, View}

-- ---- lines

-- words, with a space before each
abbrev pub words_text : List (List ℕ) → List ℕ
words_text words = flat_map (λ word. 32 ∷ word) words

-- a line of words, with a space between each two; no line where there is no word
abbrev pub line_of : List (List ℕ) → List ℕ
line_of [] = []
line_of (word ∷ words) = word ++ (words_text words ++ 10 ∷ [])

-- a word, if something is so
abbrev pub word_if : Bool → List ℕ → List (List ℕ)
word_if so word = if so then word ∷ [] else []

-- ---- words

-- the rights, in the order in which they are reported
abbrev pub every_right : List Right
every_right = right.List ∷ right.Read ∷ right.Watch ∷ right.Put ∷ right.Race ∷ []

-- a set of rights as an access string: the names of those in it, joined by +
abbrev pub access_text : RightSet → List ℕ
access_text set = join_by name_of (codes "+") (filter (λ r. has r set) every_right)

-- the words for the envelope of a number; none for the open text
abbrev pub envelope_words : ℕ → List (List ℕ)
envelope_words envelope = if envelope == 0 then [] else codes "envelope" ∷ decimal envelope ∷ []

-- the words for a closed list; none where it is empty
abbrev pub closed_words : List ℕ → List (List ℕ)
closed_words [] = []
closed_words (n ∷ numbers) = codes "closed" ∷ map decimal (n ∷ numbers)

-- the words for a grant entry, by what it is; none where there is no entry
abbrev pub granted_words : GrantedBy → List (List ℕ)
granted_words by.Nothing = []
granted_words by.Number = codes "granted" ∷ []
granted_words by.Author = codes "granted" ∷ codes "by" ∷ codes "author" ∷ []

-- the word for the width of a value; none where there is no value
abbrev pub width_words : Kind → (width : ℕ) → List (List ℕ)
width_words kind width = word_if (has_value kind) (decimal width)

-- ---- an object

-- the words for an object to which this step leads: its name, its type, its width, its definition, the user's rights, its envelope, and what
-- is closed in it
abbrev pub node_words : SeenNode → SeenStep → List (List ℕ)
node_words node s =
    s.name
    ∷ type_name node.kind
    ∷ (width_words node.kind node.width
    ++ (option_to_list node.definition
    ++ (access_text s.rights ∷ (envelope_words s.envelope ++ closed_words node.closed_list))))

-- the line for an object to which this path leads: two spaces for each step above the last, and its words
abbrev pub line_at : SeenNode → List SeenStep → List ℕ
line_at node [] = []
line_at node (s ∷ []) = line_of (node_words node s)
line_at node (s ∷ t ∷ path) = codes "  " ++ line_at node (t ∷ path)

-- the line for an object
abbrev pub node_line : SeenNode → List ℕ
node_line node = line_at node node.path

-- ---- a view

-- a text that anyone may have written, as a string of JSON, so that it stays one word's place on its line
abbrev pub quoted : List ℕ → List ℕ
quoted text = compact_text (string text)

-- the line for an envelope: its number and its author, and by what the user has a grant entry for it
abbrev pub envelope_line : ℕ × (List ℕ × GrantedBy) → List ℕ
envelope_line e = line_of (codes "envelope" ∷ decimal e.0 ∷ quoted e.1.0 ∷ granted_words e.1.1)

-- what a user sees: whether he may let the design run, the envelopes, the closed list of the top modules, and the objects in preorder
abbrev pub outline_of : View → List ℕ
outline_of view =
    line_of (word_if view.run (codes "run"))
    ++ (flat_map envelope_line (enumerate_from 1 view.envelopes)
    ++ (line_of (closed_words view.closed_list)
    ++ flat_map node_line view.nodes))
