use Rattle.std.proofs.Common.{◌≡◌, length}
use Rattle.std.specs.Prelude.{IsUtf8, option_map}
use Rattle.vp_text.specs.Texts.{parts}
use Rattle.vp_pragma.specs.Access.{access_of, rights_named}
use Rattle.vp_pragma.specs.Rights.{either, set_of}
use Rattle.vp_pragma.proofs.rights.access.Given as goal

abbrev pub invariant-loop-rights : goal.invariant-loop-rights
invariant-loop-rights l = record {
  text : IsUtf8 l.rest;
  left : option_map (either (set_of l.rights)) (rights_named (parts 43 l.rest)) ≡ access_of l.text;
}

abbrev pub decreases-loop-rights : goal.decreases-loop-rights
decreases-loop-rights l = length l.rest
