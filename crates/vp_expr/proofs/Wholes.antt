-- The operands of a module among those of a text whose modules follow each other without a gap.
use Rattle.std.proofs.Common.{◌≡◌, ◌∙◌, ℕ, zero, suc, ◌+◌, ◌-◌, ◌≤◌, List, [], ◌∷◌, ◌++◌, length, map, take, drop, slice_get, Some, sym, ap, append_assoc, arith}
use Rattle.std.proofs.lemmas.List.{drop-append-le, length-append, length-drop, length-map, length-take, map-append}
use Rattle.std.proofs.Math.Seq.{take-append-add}
use Rattle.std.specs.List.{flat_map, slice_range}
use Rattle.vp_source.specs.declared.expression.Expression.{Expression}
use Rattle.vp_source.specs.declared.source.Module.{Module}
use Rattle.vp_source.specs.Whole.{AreGapless, AreWhole}
use Rattle.vp_modules.specs.Items.{expressions_in}
use Rattle.vp_elab.specs.Built.{Elaborated}
use Rattle.vp_operand.specs.declared.operand.Operand.{Operand}
use Rattle.vp_resolve.specs.Names.{scope_of}
use Rattle.vp_resolve.specs.Operands.{operand_of, operands_in, operands_of}
use Rattle.vp_resolve.proofs.Gapless.{gapless_up, in_range}

module _ (d : Elaborated) where
  abbrev es : List Expression
  es = d.source.expressions

  -- after so many stand the operands of a module, which is one of these
  record StandAmong (m : Module) (ms : List Module) (from : ℕ) : Type 0 where
    os : List Operand
    rest : List Operand
    are : flat_map (operands_in d) ms ≡ os ++ (operands_in d m ++ rest)
    first : from + length os ≡ m.expressions.first
    up : m.expressions.first ≤ m.expressions.end
    inside : m.expressions.end ≤ length es

  held : (m : Module) → m.expressions.first ≤ m.expressions.end → m.expressions.end ≤ length es → length (operands_in d m) ≡ m.expressions.end - m.expressions.first
  held m h k =
      let a = m.expressions.first in
      let b = m.expressions.end in
      length-map (expressions_in d.source m) (operand_of d (scope_of d m))
      ∙ ap length (in_range es a b h k)
      ∙ (let l = length-take (b - a) (drop a es) in let n = length-drop a es in omega arith)

  among : (m : Module) (ms : List Module) (k from : ℕ) → AreGapless from (map (λ m. m.expressions) ms) (length es) → slice_get ms k ≡ Some m → StandAmong m ms from
  among m [] k from h e = absurd cc
  among m (x ∷ ms) zero from h e =
      let same : x ≡ m = cc in
      let start : m.expressions.first ≡ from = ap (λ (y : Module). y.expressions.first) (sym same) ∙ h.0 in
      let ends : x.expressions.end ≡ m.expressions.end = ap (λ (y : Module). y.expressions.end) same in
      let begins : x.expressions.first ≡ m.expressions.first = ap (λ (y : Module). y.expressions.first) same in
      let up = h.1 in
      let last = gapless_up x.expressions.end (map (λ m. m.expressions) ms) (length es) h.2 in
      record {
        os = [];
        rest = flat_map (operands_in d) ms;
        are = ap (λ (y : Module). operands_in d y ++ flat_map (operands_in d) ms) same;
        first = omega arith;
        up = omega arith;
        inside = omega arith;
      }
  among m (x ∷ ms) (suc k) from h e =
      let b = among m ms k x.expressions.end h.2 e in
      let own = operands_in d x in
      let start = h.0 in
      let up = h.1 in
      let last = gapless_up x.expressions.end (map (λ m. m.expressions) ms) (length es) h.2 in
      let many = held x up last in
      let following = b.first in
      record {
        os = own ++ b.os;
        rest = b.rest;
        are = ap (λ (l : List Operand). own ++ l) b.are ∙ sym (append_assoc own b.os (operands_in d m ++ b.rest));
        first = omega (arith, length-append own b.os);
        up = b.up;
        inside = b.inside;
      }

  -- the operands of a design, up to those of some expressions, of which the last are of a module, and the rest
  pub record StandAfter (m : Module) (nodes : List Expression) : Type 0 where
    pub os : List Operand
    pub rest : List Operand
    pub first : length os ≡ m.expressions.first
    pub are : operands_of d ≡ (os ++ map (operand_of d (scope_of d m)) (drop (length os) nodes)) ++ rest

  -- the expressions of a module, of which some are reported
  told : (m : Module) (nodes following : List Expression) → es ≡ nodes ++ following → m.expressions.first ≤ length nodes → length nodes ≤ m.expressions.end → m.expressions.end ≤ length es → expressions_in d.source m ≡ drop m.expressions.first nodes ++ take (m.expressions.end - length nodes) following
  told m nodes following laid from to inside =
      let a = m.expressions.first in
      let b = m.expressions.end in
      let n : b - a ≡ length (drop a nodes) + (b - length nodes) = (let l = length-drop a nodes in omega arith) in
      in_range es a b (omega arith) inside
      ∙ ap (λ (l : List Expression). slice_range l a b) laid
      ∙ ap (take (b - a)) (drop-append-le a nodes following from)
      ∙ ap (λ (i : ℕ). take i (drop a nodes ++ following)) n
      ∙ take-append-add (drop a nodes) following (b - length nodes)

  pub stand_after : (m : Module) (number : ℕ) (nodes following : List Expression) → AreWhole d.source → slice_get d.source.modules number ≡ Some m → es ≡ nodes ++ following → m.expressions.first ≤ length nodes → length nodes ≤ m.expressions.end → StandAfter m nodes
  stand_after m number nodes following whole one laid from to =
      let b = among m d.source.modules number 0 whole.expressions one in
      let f = operand_of d (scope_of d m) in
      let left = take (m.expressions.end - length nodes) following in
      let start : length b.os ≡ m.expressions.first = (let first = b.first in omega arith) in
      let own = map f (drop (length b.os) nodes) in
      record {
        os = b.os;
        rest = map f left ++ b.rest;
        first = start;
        are =
            b.are
            ∙ ap (λ (l : List Expression). b.os ++ (map f l ++ b.rest)) (told m nodes following laid from to b.inside)
            ∙ ap (λ (i : ℕ). b.os ++ (map f (drop i nodes ++ left) ++ b.rest)) (sym start)
            ∙ ap (λ (l : List Operand). b.os ++ (l ++ b.rest)) (map-append f (drop (length b.os) nodes) left)
            ∙ ap (λ (l : List Operand). b.os ++ l) (append_assoc own (map f left) b.rest)
            ∙ sym (append_assoc b.os own (map f left ++ b.rest));
      }
