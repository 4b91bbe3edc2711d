-- Procedures, computed event by event. Each row is an equation that holds by computation.
use Rattle.std.proofs.Common.{◌≡◌, ◌==◌, true, false, List, [], ◌∷◌, Some, None, refl}
use Rattle.vp_bits.specs.declared.bit.Bit.TheVariants.{Zero, One, Unknown, HighImpedance}
use Rattle.vp_source.specs.declared.statement.Choice.{Choice}
use Rattle.vp_source.specs.declared.source.Source.{Source}
use Rattle.vp_operand.specs.Ids.{Sized}
use Rattle.vp_expr.specs.declared.tables.Action.{Action}
use Rattle.vp_expr.specs.declared.tables.Action.TheVariants as action
use Rattle.vp_statement.specs.declared.effect.Effect.TheVariants as effect
use Rattle.vp_statement.specs.Effects.{default_of, first_of, is_one, matches, turned, waited}
use Rattle.vp_statement.specs.Walking.{flow_of, next_event}

-- ---- where a procedure goes on

-- a text with a case of two choices, of which only these matter here
abbrev source : Source
source = record {
  text = [];
  tokens = [];
  modules = [];
  connections = [];
  items = [];
  statements = [];
  expressions = [];
  terms = [];
  choices = record { label = Some 0; body = 0 } ∷ record { label = None; body = 1 } ∷ [];
}

abbrev condition : Sized
condition = record { place = 0; size = 1 }

-- `begin ; begin end $finish; end`
abbrev block : List Action
block = action.Nothing ∷ action.Null ∷ action.Then 0 1 ∷ action.Nothing ∷ action.Then 2 3 ∷ action.Finish ∷ action.Then 4 5 ∷ []

-- it begins with its first statement
first_of_a_block : next_event block 6 ≡ 1
first_of_a_block = refl

-- an empty block is an event of its own
empty_block : next_event block 3 ≡ 3
empty_block = refl

-- after its first statement comes the empty block, after that the last one, and after that nothing
after_in_a_block : flow_of source block ≡ Some 1 ∷ Some 3 ∷ Some 3 ∷ Some 5 ∷ Some 5 ∷ None ∷ None ∷ []
unfolding flow_of
after_in_a_block = refl

-- `forever ;`, and a for of a start, a body, a step and turns
abbrev loops : List Action
loops =
    action.Null ∷ action.Forever 0
    ∷ action.Null ∷ action.Null ∷ action.Null ∷ action.While condition 3 (Some 4) ∷ action.For 2 5
    ∷ []

-- a forever begins with its body, and a for with its start
forever_begins : next_event loops 1 ≡ 0
forever_begins = refl

for_begins : next_event loops 6 ≡ 2
for_begins = refl

-- after the body of a forever comes the forever; after the start of a for its turns, after its body the step, after the step the
-- turns, and nothing after these
after_in_loops : flow_of source loops ≡ Some 1 ∷ None ∷ Some 5 ∷ Some 4 ∷ Some 5 ∷ None ∷ None ∷ []
unfolding flow_of
after_in_loops = refl

-- `begin if (c) ; else ; ; end`: after both choices comes what comes after the if
after_in_a_choice : flow_of source (action.Nothing ∷ action.Null ∷ action.Null ∷ action.If condition 1 (Some 2) ∷ action.Then 0 3 ∷ action.Null ∷ action.Then 4 5 ∷ []) ≡ Some 3 ∷ Some 5 ∷ Some 5 ∷ Some 5 ∷ Some 5 ∷ None ∷ None ∷ []
unfolding flow_of
after_in_a_choice = refl

-- `forever case (s) 0: ; default: ; endcase`: after each choice comes the forever
after_in_a_case : flow_of source (action.Null ∷ action.Null ∷ action.Case false condition (record { first = 0; end = 2 }) ∷ action.Forever 2 ∷ []) ≡ Some 3 ∷ Some 3 ∷ Some 3 ∷ None ∷ []
unfolding flow_of
after_in_a_case = refl

-- `while (c) #1 wait (c) @(a) ;`: after what a control controls comes what comes after the control
after_controls : flow_of source (action.Null ∷ action.Event 0 ∷ action.Wait condition 1 ∷ action.Delay 1 2 ∷ action.While condition 3 None ∷ []) ≡ Some 4 ∷ Some 4 ∷ Some 4 ∷ Some 4 ∷ None ∷ []
unfolding flow_of
after_controls = refl

-- ---- tests

-- a loop whose condition holds goes on with its body
loop_goes_on : turned true 3 ≡ effect.Proceeds (Some 3)
loop_goes_on = refl

loop_ends : turned false 3 ≡ effect.Proceeds None
loop_ends = refl

-- a wait whose condition does not hold tests it again
wait_again : waited false 8 7 ≡ effect.Awaits 8 8
wait_again = refl

-- an unknown condition does not hold
unknown : is_one Unknown ≡ false
unknown = refl

-- a case takes an x for an x alone, a casez a z of either side for any bit
x_matches_x : matches false (Unknown ∷ []) (Unknown ∷ []) ≡ true
x_matches_x = refl

x_is_no_z : matches false (HighImpedance ∷ []) (Unknown ∷ []) ≡ false
x_is_no_z = refl

z_matches_one : matches true (One ∷ Zero ∷ []) (HighImpedance ∷ Zero ∷ []) ≡ true
z_matches_one = refl

one_matches_z : matches true (HighImpedance ∷ Zero ∷ []) (One ∷ Zero ∷ []) ≡ true
one_matches_z = refl

-- two labels, and a default between them
abbrev choices : List Choice
choices =
    record { label = Some 0; body = 1 } ∷ record { label = None; body = 2 } ∷ record { label = Some 3; body = 4 } ∷ []

-- a label after the default comes before it; where none matches, the default is taken
label_first : first_of (λ c. c.body == 4) (default_of choices) choices ≡ Some 4
label_first = refl

default_last : first_of (λ c. false) (default_of choices) choices ≡ Some 2
default_last = refl
