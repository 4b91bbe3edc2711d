-- The processes of objects, one after another.
use Rattle.std.proofs.Common.{◌≡◌, ℕ, suc, ◌+◌, ◌<◌, List, [], ◌∷◌, ◌++◌, Option, Some, None, length, drop, get_or, refl, sym, ap, ◌∙◌, arith, add-one, append_assoc, drop-cons}
use Rattle.vp_source.specs.declared.source.Connection.{Connection}
use Rattle.std.specs.List.{cons_option, flat_map}
use Rattle.std.proofs.lemmas.List.{append-nil}
use Rattle.std.proofs.lemmas.List.Concat.{flat_map-append}
use Rattle.std.proofs.lemmas.List.Elements.{filter_map-append}
use Rattle.vp_source.specs.declared.source.Item.{Item}
use Rattle.vp_elab.specs.Built.{Elaborated}
use Rattle.vp_elab.specs.Tree.{below}
use Rattle.vp_expr.specs.declared.tables.Process.{Process}
use Rattle.vp_expr.specs.Origins.{Origin, listed, origin_at_port, port_origins}
use Rattle.vp_expr.specs.Tables.{process_from, process_of, processes_from}

-- those of one more number
pub flat_map_below : {A : Type 0} (f : ℕ → List A) (n : ℕ) → flat_map f (below (n + 1)) ≡ flat_map f (below n) ++ f n
flat_map_below f n =
    let next : n + 1 ≡ suc n = omega arith in
    ap (λ (k : ℕ). flat_map f (below k)) next ∙ flat_map-append f (below n) (n ∷ [])
    ∙ ap (λ xs. flat_map f (below n) ++ xs) (append-nil (f n))

kept_alone : {A : Type 0} (o : Option A) → cons_option o [] ≡ listed o
kept_alone None = refl
kept_alone (Some x) = refl

-- what comes of one, if there is one
pub from_listed : (d : Elaborated) (sizes : List ℕ) (o : Option Origin) → processes_from d sizes (listed o) ≡ listed (process_from d sizes o)
from_listed d sizes None = refl
from_listed d sizes (Some x) = kept_alone (process_of d sizes x)

-- those of one more port
pub port_step :
    (d : Elaborated) (sizes : List ℕ) (outer id : ℕ) (cs : List Connection) (ports : List Item) (i : ℕ) (blank : Item) (before after whole : List Process) → i < length ports
    → after ≡ before ++ listed (process_from d sizes (origin_at_port d.source d.tree.nodes outer id cs i (get_or ports i blank)))
    → before ++ processes_from d sizes (port_origins d.source d.tree.nodes outer id cs i (drop i ports)) ≡ whole
    → after ++ processes_from d sizes (port_origins d.source d.tree.nodes outer id cs (i + 1) (drop (i + 1) ports)) ≡ whole
port_step d sizes outer id cs ports i blank before after whole l grown done =
    let here : Option Origin = origin_at_port d.source d.tree.nodes outer id cs i (get_or ports i blank) in
    let own : List Process = listed (process_from d sizes here) in
    let others : List Origin = port_origins d.source d.tree.nodes outer id cs (i + 1) (drop (i + 1) ports) in
    let rest : List Process = processes_from d sizes others in
    let next : drop i ports ≡ get_or ports i blank ∷ drop (i + 1) ports = rw (add-one, drop-cons ports i blank) in
    ap (λ (xs : List Process). xs ++ rest) grown ∙ append_assoc before own rest
    ∙ ap (λ (xs : List Process). before ++ (xs ++ rest)) (sym (from_listed d sizes here))
    ∙ ap (λ (xs : List Process). before ++ xs) (sym (filter_map-append (process_of d sizes) (listed here) others))
    ∙ ap (λ (xs : List Item). before ++ processes_from d sizes (port_origins d.source d.tree.nodes outer id cs i xs)) (sym next) ∙ done
